-- Where a hand stands after it loaded the group of a slot.
use Rattle.std.proofs.Common.{◌≡◌, ℕ, Bool, true, cond, ◌++◌, refl, ap}
use Rattle.std.proofs.Common.{◌∙◌, eq-eqb, false}
use Rattle.index_machine.specs.declared.events.Action.TheVariants.{LoadSlotGroup}
use Rattle.index_machine.specs.Reaching.{stands_in}
use Rattle.index_machine.specs.Reaching.{stands_in_after}
use Rattle.index_machine.proofs.Executions.{own_step}
use Rattle.index_rule.specs.declared.board.Board.{Board}
use Rattle.index_rule.specs.declared.hand.Hand.{Hand}
use Rattle.index_rule.specs.Hands.{IsHandOf, Makes, known}
use Rattle.index_rule.proofs.RecordStepping.{now}

-- the hand stands in the group
pub stands_after_slot : (b : Board) (h k : Hand) (part side i found : ℕ) → IsHandOf b h →
    Makes b h (LoadSlotGroup part side i found) k → stands_in k.number found (known k) ≡ true
stands_after_slot b h k part side i found of m =
    now b h k (LoadSlotGroup part side i found) of m (λ z t. stands_in z found t ≡ true)
    (own_step (stands_in_after found) false h.number (LoadSlotGroup part side i found)
    (m.acts.0 ++ known h)
    ∙ ap (λ (z : Bool). cond z true (stands_in h.number found (m.acts.0 ++ known h)))
    (eq-eqb found found refl))
