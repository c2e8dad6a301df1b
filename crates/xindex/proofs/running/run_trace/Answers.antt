-- The passes of a run are all that closing asks for, and what is left is what its history leaves.
use Rattle.std.proofs.Common.{◌∙◌, ap, subst, sym}
use Rattle.xindex_core.specs.declared.index.Index.{Index}
use Rattle.xindex_core.specs.Closing.{AreAllPasses, IsClosedWith}
use Rattle.xindex_core.specs.Passes.{bounds_of_index}
use Rattle.xindex.proofs.Runs.{all_after_run, run_closed}
use Rattle.xindex.proofs.running.run_trace.Goals as goal

pub close-requires-clause-one_part : goal.close-requires-clause-one_part
close-requires-clause-one_part g c = ap bounds_of_index c.in_ok-opened.ensures.index ∙ c.in-Ok.ensures.opened.parts

pub close-requires-clause-passes : goal.close-requires-clause-passes
close-requires-clause-passes g c =
    let ran = c.in_ok-opened.field-0 in
    let run = c.in_ok-opened.ensures in
    subst (λ (i : Index). AreAllPasses i ran.opened.passes.items) (sym run.index)
    (all_after_run c.in-Ok.opened.index c.args.trace.now ran.opened.passes.items ran.transcript.items run.passes)

pub returns-in-Ok-close : goal.returns-in-Ok-close
returns-in-Ok-close g c =
    let ran = c.in_ok-opened.field-0 in
    let run = c.in_ok-opened.ensures in
    let new = c.in-Ok.ensures.opened in
    run_closed c.args.limits c.in-Ok.opened.index c.args.trace.now ran.opened.passes.items ran.transcript.items
    c.in-Ok-close.rows.items new.limits new.rows_are new.rules.least_callers run.passes
    (subst (λ (i : Index). IsClosedWith i ran.opened.passes.items c.in-Ok-close.rows.items) run.index
    c.in-Ok-close.ensures.closed)
