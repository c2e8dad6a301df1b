use Rattle.std.proofs.Common.{◌*◌, ◌≤◌, length, subst, sym}
use Rattle.rebuild_plan.specs.Plan.{fill_limit}
use Rattle.word_layout.specs.declared.limits.Limits.{Limits}
use Rattle.index_tests.proofs.OneGroups.{rows_fit}
use Rattle.index_tests.proofs.boards.words_of.Goals as goal

pub open-requires-clause-fits : goal.open-requires-clause-fits
open-requires-clause-fits g c =
    rows_fit c.in-Ok.layout c.args.rows.now
    (subst (λ (l : Limits). length c.args.rows.now ≤ l.groups * fill_limit l.group_size)
    (sym c.in-Ok.ensures.limits) c.requires.few)
