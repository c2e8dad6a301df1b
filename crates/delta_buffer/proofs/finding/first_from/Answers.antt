use Rattle.std.proofs.Common.{ℕ, subst}
use Rattle.delta_buffer.specs.Walks.{HasJustMade, load_of_link}
use Rattle.delta_buffer.proofs.Stepping.{first_behind}
use Rattle.delta_buffer.proofs.finding.first_from.Goals as goal

pub returns-in-Gap-clause-finds : goal.returns-in-Gap-clause-finds
returns-in-Gap-clause-finds c =
    first_behind c.args.board.now c.args.lane.group c.args.lane.number c.args.key c.in-Gap.before c.in-Gap.next
    c.args.hand.now c.find.new.hand c.in-Gap.ensures.finds c.in-Gap.next-test.1

pub returns-in-Gap-default-eq0-clause-finds : goal.returns-in-Gap-default-eq0-clause-finds
returns-in-Gap-default-eq0-clause-finds c =
    let gap = c.in-Gap-default-eq0.ensures.finds in
    let to = λ (next : ℕ). HasJustMade c.args.hand.now
    (load_of_link c.args.lane.group c.args.lane.number c.in-Gap-default-eq0.before next) gap.moment in (
      gap.moment,
      (
        (c.in-Gap-default-eq0.before, subst to c.in-Gap-default-eq0.next-test gap.loaded),
        gap.within,
      ),
      gap.empty.end c.in-Gap-default-eq0.next-test,
    )
