use Rattle.std.proofs.Common.{rules, ◌≡◌, ◌∷◌, ◌++◌, [], List, sym, ap, subst, ◌∙◌, append_assoc}
use Rattle.std.proofs.Common.{append-nil, arith}
use Rattle.index_rule.specs.declared.hand.Hand.{Hand}
use Rattle.index_rule.specs.declared.view.View.{View}
use Rattle.index_rule.specs.Hands.{opening_of}
use Rattle.index_rule.specs.Ended.{AreOf, Includes, IncludesAll}
use Rattle.index_rule.proofs.Seats.{joins}
use Rattle.index_rule.proofs.Ending.{includes_joined, includes_still, all_still, all_snoc}
use Rattle.index_rule.proofs.Ending.{none_left}
use Rattle.index_rule.proofs.board.Board.join_all.Goals as goal

pub join_seat-requires : goal.join_seat-requires
join_seat-requires c =
    let i = c.loop-hand.invariant in
    let b = c.args.self.now in
    let h = c.in-Some.hand in
    let left = subst (AreOf b) c.in-Some.ensures.steps.0 i.left in (
      i.table ∙ c.requires.table,
      left.0.table,
      h.bare,
      search rules,
      joins (opening_of b) c.loop-hand.seat.id h.seat.id c.loop-hand.seat.me.0 h.seat.me.0
          (i.opened ∙ c.requires.opened) left.0.opened,
    )

pub loop-hand-preserved : goal.loop-hand-preserved
loop-hand-preserved c =
    let i = c.loop-hand.invariant in
    let b = c.args.self.now in
    let h = c.in-Some.hand in
    let left = subst (AreOf b) c.in-Some.ensures.steps.0 i.left in
    let e = c.join_seat.ensures in
    let me = ap (λ z. z.0) e.2 in
    let v = c.loop-hand.seat.me.0 in
    record {
      table = e.0 ∙ i.table;
      opened = ap (λ (z : View). z.opening) me ∙ i.opened;
      whole = append_assoc c.loop-hand.yielded (h ∷ []) c.next.new.self.rest.items
          ∙ (ap (λ (z : List Hand). c.loop-hand.yielded ++ z) (sym c.in-Some.ensures.steps.0)
          ∙ i.whole);
      left = left.1;
      joined = subst (λ (z : View). IncludesAll z (c.loop-hand.yielded ++ h ∷ [])) (sym me)
          (all_snoc _ c.loop-hand.yielded h (all_still v h.seat.me.0 c.loop-hand.yielded i.joined)
          (includes_joined v h));
      kept = λ g was. subst (λ (z : View). Includes z g) (sym me)
          (includes_still v h.seat.me.0 g (i.kept g was));
    }

pub returns-clause-joined : goal.returns-clause-joined
returns-clause-joined c =
    let i = c.loop-hand.invariant in
    let none : c.loop-hand.hand-iterator.rest.items ≡ [] =
    none_left c.loop-hand.hand-iterator.rest.items
    (let ok = c.loop-hand.hand-iterator.rest.ok in
    let ended = c.in-None.ensures.steps.0 in
    omega arith)
    in
    subst (IncludesAll c.loop-hand.seat.me.0)
    (sym (append-nil c.loop-hand.yielded)
    ∙ (ap (λ (z : List Hand). c.loop-hand.yielded ++ z) (sym none) ∙ i.whole))
    i.joined
