use Rattle.std.proofs.Common.{arith}
use Rattle.caller_phases.proofs.Hearing.{more_heard, none_heard}
use Rattle.caller_phases.proofs.telling.tell_all.Goals as goal

pub loop-own-init : goal.loop-own-init
loop-own-init c = none_heard c.args.index.now c.args.passes.now.items c.requires.of

pub loop-own-preserved : goal.loop-own-preserved
loop-own-preserved c =
    let low = c.loop-own-test.true in
    let many = c.len-own-end.ensures in
    let long = c.args.passes.now.ok.0 in
    more_heard c.args.index.now c.args.passes.now.items c.loop-own.own c.loop-own.passes.items
    c.tell_one.new.passes.items (omega arith) c.loop-own.invariant c.tell_one.ensures
