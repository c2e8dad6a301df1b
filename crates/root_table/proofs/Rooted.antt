-- What a root word says: the caller may read the slots that it names.
use Rattle.std.proofs.Common.{◌≡◌, ℕ, ◌/◌, ◌%◌, Bool, cond, Some, None, ◌++◌, ap, ◌∙◌, subst, arith, eq-eqb, refl}
use Rattle.word_layout.specs.Root.{word_of_root}
use Rattle.index_machine.specs.declared.events.Action.TheVariants.{LoadRoot}
use Rattle.index_machine.specs.Keepers.{IsPart}
use Rattle.index_machine.specs.Reaching.{root_seen, root_seen_after}
use Rattle.index_machine.proofs.Executions.{own_step}
use Rattle.index_rule.specs.declared.board.Board.{Board}
use Rattle.index_rule.specs.declared.hand.Hand.{Hand}
use Rattle.index_rule.specs.Calls.{CanCall}
use Rattle.index_rule.specs.Chains.{TellsRoot}
use Rattle.index_rule.specs.Hands.{Makes, known, opening_of}
use Rattle.index_rule.proofs.RecordStepping.{now}
use Rattle.root_table.specs.Slots.{SeesSlots}
use Rattle.root_table.proofs.Steps.{call_on}

-- the slots of a root word that was loaded
pub sees_slots : (b : Board) (h k : Hand) (part word : ℕ) → CanCall b h → IsPart (opening_of b) part →
    Makes b h (LoadRoot part word) k → TellsRoot (opening_of b) k.number part word (known k) →
    SeesSlots b (record { part = part; side = word % 2; count = word / 2 }) k
sees_slots b h k part word can is_part m tells =
    let is = tells.is in
    let low = tells.is_side in
    let some = tells.some in
    let whole : word ≡ word_of_root (word / 2) (word % 2) = omega arith in
    record {
      call = call_on b h k (LoadRoot part word) tt (λ z. z) m can;
      is_part = is_part;
      is_side = omega arith;
      some = omega (arith, is, low, some);
      seen = subst (λ (w : ℕ). root_seen k.number part (known k) ≡ Some w) whole
          (now b h k (LoadRoot part word) can.of m (λ z t. root_seen z part t ≡ Some word)
          (own_step (root_seen_after part) None h.number (LoadRoot part word) (m.acts.0 ++ known h)
          ∙ ap (λ (z : Bool). cond z (Some word) (root_seen h.number part (m.acts.0 ++ known h)))
          (eq-eqb part part refl)));
    }
