use Rattle.std.proofs.Common.{◌≡◌, ℕ, ◌∙◌, subst, sym}
use Rattle.index_machine.specs.Conditions.{MayLeave}
use Rattle.index_machine.specs.Sections.{IsOutside}
use Rattle.index_rule.specs.declared.board.Board.{Board}
use Rattle.index_rule.specs.declared.hand.Hand.{Hand}
use Rattle.index_rule.specs.declared.view.View.{View}
use Rattle.index_rule.specs.Hands.{IsHandOf, opening_of, view}
use Rattle.index_rule.proofs.Heeding.{heeds_may_leave, heeds_outside}
use Rattle.index_tests.specs.Boards.{MayDoAs}
use Rattle.index_tests.proofs.hand_notes.let_know.Goals as goal

-- a hand that knows what it knew may do what it might
knows_as : (b : Board) (h k : Hand) → IsHandOf b k → k.number ≡ h.number → view k ≡ view h →
    MayDoAs b h k
knows_as b h k of number same =
    record {
      of = of;
      rests = λ n r. record {
        of = of;
        numbered = number ∙ r.numbered;
        outside = subst (λ (z : ℕ × View). IsOutside z.0 (z.1).known)
            (λ i. (sym number i, sym same i)) r.outside;
      };
      inside = λ n r. record {
        of = of;
        numbered = number ∙ r.numbered;
        may_leave = subst (λ (z : ℕ × View). MayLeave (opening_of b) z.0 (z.1).known)
            (λ i. (sym number i, sym same i)) r.may_leave;
      };
    }

pub returns-clause-first : goal.returns-clause-first
returns-clause-first c =
    let told = c.tell-note.ensures in
    knows_as c.args.board.now c.args.first.now c.tell-note.new.hand told.hand told.number told.view

pub returns-clause-second : goal.returns-clause-second
returns-clause-second c =
    let b = c.args.board.now in
    let h = c.args.second.now in
    let k = c.heed.new.hand in
    let heeds = c.heed.ensures in
    record {
      of = heeds.of;
      rests = λ n r. record {
        of = heeds.of;
        numbered = heeds.number ∙ r.numbered;
        outside = heeds_outside b h k _ heeds r.outside;
      };
      inside = λ n r. record {
        of = heeds.of;
        numbered = heeds.number ∙ r.numbered;
        may_leave = heeds_may_leave b h k _ heeds r.may_leave;
      };
    }
