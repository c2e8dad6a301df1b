use Rattle.std.proofs.Common.{arith}
use Rattle.caller_phases.specs.Calls.{first_phase}
use Rattle.caller_phases.proofs.Running.{back_of, has_run, may_work}
use Rattle.caller_phases.proofs.phases.run_phase.Goals as goal

pub work_all-requires-clause-passes : goal.work_all-requires-clause-passes
work_all-requires-clause-passes g c κs within = λ k w low is.
    let may = may_work c.args.index.now (first_phase c.args.lines.now) c.in_ok-workers.workers.items c.args.passes.items
    c.in_ok-workers.ensures.passes c.requires.passes c.in_ok-workers.ensures.ready k w low is in
    may.0

pub work_all-requires-clause-ready : goal.work_all-requires-clause-ready
work_all-requires-clause-ready g c κs within = λ k w low is.
    let may = may_work c.args.index.now (first_phase c.args.lines.now) c.in_ok-workers.workers.items c.args.passes.items
    c.in_ok-workers.ensures.passes c.requires.passes c.in_ok-workers.ensures.ready k w low is in
    may.1

pub tell_all-requires-clause-of : goal.tell_all-requires-clause-of
tell_all-requires-clause-of g c =
    back_of c.args.index.now (first_phase c.args.lines.now) c.in_ok-workers.workers.items c.in_ok-done.done.items
    c.in_ok-passes.passes.items c.in_ok-done.ensures.many c.in_ok-done.ensures.worked
    c.in_ok-passes.ensures.passes

pub returns : goal.returns
returns g c = λ t know.
    has_run c.args.index.now t (first_phase c.args.lines.now) c.args.passes.items c.in_ok-workers.workers.items
    c.in_ok-done.done.items c.in_ok-passes.passes.items _ c.tell_all.new.passes.items know
    (let some = c.requires.some in omega arith) c.requires.many c.in_ok-workers.ensures.passes
    c.in_ok-done.ensures.many c.in_ok-done.ensures.worked c.in_ok-passes.ensures.passes
    c.in_ok-passes.ensures.replies c.tell_all.ensures
