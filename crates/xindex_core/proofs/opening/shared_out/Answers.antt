use Rattle.std.proofs.Common.{◌≡◌, inl, inr, ⊎_elim, ℕ, ◌+◌, ◌<◌, ◌∷◌, ◌++◌, [], List, length, None, sym, ap, subst, ◌≤◌}
use Rattle.std.proofs.Common.{◌∙◌, append_assoc, arith, length-append}
use Rattle.word_layout.specs.declared.limits.Limits.{Limits}
use Rattle.index_machine.specs.Keepers.{IsPart, IsPartKeeper}
use Rattle.index_machine.specs.Sections.{IsCaller}
use Rattle.index_rule.specs.declared.hand.Hand.{Hand}
use Rattle.index_rule.specs.declared.view.View.{View}
use Rattle.index_rule.specs.Opened.{AreNewHands}
use Rattle.xindex_core.specs.declared.keeper.Keeper.{Keeper}
use Rattle.xindex_core.specs.declared.pass.Pass.{Pass}
use Rattle.xindex_core.specs.Passes.{AreNewKeepers, AreNewPasses, limits_of_index, opening_with}
use Rattle.xindex_core.proofs.Opens.{keepers_push, new_keeper, new_pass, passes_push}
use Rattle.xindex_core.proofs.opening.shared_out.Goals as goal

pub loop-hand-preserved-in-Continue-1 : goal.loop-hand-preserved-in-Continue-1
loop-hand-preserved-in-Continue-1 c =
    let i = c.loop-hand.invariant in
    let index = c.args.index.now in
    let callers = (limits_of_index index).callers in
    let h : Hand = c.in-Some.hand in
    let rest : List Hand = c.next.new.self.rest.items in
    let n : ℕ = length c.loop-hand.yielded in
    let left = subst (AreNewHands index.board n) c.in-Some.ensures.steps.0 i.left in
    let whole : c.loop-hand.yielded ++ (h ∷ rest) ≡ c.args.hands.items =
    ap (λ (z : List Hand). c.loop-hand.yielded ++ z) (sym c.in-Some.ensures.steps.0) ∙ i.whole in
    let one = length-append c.loop-hand.yielded (h ∷ []) in
    let pass : Pass = record { hand = h; spare = None; probes = c.new.result } in
    let next : n + 1 ≡ length (c.loop-hand.yielded ++ h ∷ []) = omega arith in
    let items = c.in_ok-push.ensures.items in
    let counted = i.many in
    let asked : c.limits-callers.result.callers ≡ callers =
    ap (λ (l : Limits). l.callers) c.limits-callers.ensures in
    let room : length c.loop-hand.passes.items < callers =
    omega (arith, c.if-len-callers.true, c.len.ensures, asked) in
    let none : length c.loop-hand.keepers.items ≡ 0 =
    ⊎_elim (λ z. z) (λ full. absurd (omega arith)) i.in_order in
    let caller : IsCaller (opening_with index) n = omega arith in
    let at : h.number ≡ 0 + length c.loop-hand.passes.items = left.1 ∙ omega arith in
    let now = ap (λ (z : List Pass). length z) items in
    let more = length-append c.loop-hand.passes.items (pass ∷ []) in
    record {
      whole = append_assoc c.loop-hand.yielded (h ∷ []) rest ∙ whole;
      left = subst (λ (z : ℕ). AreNewHands index.board z rest) next left.3;
      passes = subst (AreNewPasses index 0) (sym items)
          (passes_push index 0 c.loop-hand.passes.items pass i.passes
          (new_pass index h n c.new.result left.0 left.1 left.2 caller)
          at
          (ap (λ (v : View). v.known) left.2)
          (ap (λ (v : View). v.log) left.2)
          c.new.ensures);
      keepers = i.keepers;
      many = omega arith;
      few = omega arith;
      in_order = inl none;
    }

pub loop-hand-preserved : goal.loop-hand-preserved
loop-hand-preserved c =
    let i = c.loop-hand.invariant in
    let index = c.args.index.now in
    let callers = (limits_of_index index).callers in
    let h : Hand = c.in-Some.hand in
    let rest : List Hand = c.next.new.self.rest.items in
    let n : ℕ = length c.loop-hand.yielded in
    let left = subst (AreNewHands index.board n) c.in-Some.ensures.steps.0 i.left in
    let whole : c.loop-hand.yielded ++ (h ∷ rest) ≡ c.args.hands.items =
    ap (λ (z : List Hand). c.loop-hand.yielded ++ z) (sym c.in-Some.ensures.steps.0) ∙ i.whole in
    let long = ap (λ (z : List Hand). length z) whole in
    let both = length-append c.loop-hand.yielded (h ∷ rest) in
    let all = c.requires.many in
    let cut = (opening_with index).layout.cut.few in
    let items = c.in_ok-push-2.ensures.items in
    let counted = i.many in
    let few = i.few in
    let asked : c.limits-callers.result.callers ≡ callers =
    ap (λ (l : Limits). l.callers) c.limits-callers.ensures in
    let past : callers ≤ length c.loop-hand.passes.items =
    omega (arith, c.if-len-callers.false, c.len.ensures, asked) in
    let full : length c.loop-hand.passes.items ≡ callers = omega arith in
    let part : ℕ = length c.loop-hand.keepers.items in
    let is_part : IsPart (opening_with index) part = omega arith in
    let kept : IsPartKeeper (opening_with index) n part = omega arith in
    let keeper : Keeper = record { hand = h; part = part } in
    let counted_as : c.len-part.result ≡ part = omega (arith, c.len-part.ensures) in
    let with_part : ℕ → Keeper = λ z. record { hand = h; part = z } in
    let pushed : c.push-else-len-callers.new.self.items ≡ c.loop-hand.keepers.items ++ keeper ∷ [] =
    items ∙ ap (λ (z : ℕ). c.loop-hand.keepers.items ++ with_part z ∷ []) counted_as in
    let one = length-append c.loop-hand.yielded (h ∷ []) in
    let next : n + 1 ≡ length (c.loop-hand.yielded ++ h ∷ []) = omega arith in
    let now = ap (λ (z : List Keeper). length z) pushed in
    let more = length-append c.loop-hand.keepers.items (keeper ∷ []) in
    record {
      whole = append_assoc c.loop-hand.yielded (h ∷ []) rest ∙ whole;
      left = subst (λ (z : ℕ). AreNewHands index.board z rest) next left.3;
      passes = i.passes;
      keepers = subst (AreNewKeepers index 0) (sym pushed)
          (keepers_push index 0 c.loop-hand.keepers.items keeper i.keepers
          (new_keeper index h n part left.0 left.1 (ap (λ (v : View). v.known) left.2) is_part kept)
          (omega arith)
          (ap (λ (v : View). v.known) left.2));
      many = omega arith;
      few = few;
      in_order = inr full;
    }
