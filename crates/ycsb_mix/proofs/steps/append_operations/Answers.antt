use Rattle.std.proofs.Common.{length}
use Rattle.ycsb_mix.specs.Mix.{operation_calls, caller_steps}
use Rattle.ycsb_mix.proofs.StepLaws.{callers_more}
use Rattle.ycsb_mix.proofs.steps.append_operations.Goals as goal

pub loop-caller-preserved : goal.loop-caller-preserved
loop-caller-preserved c =
    callers_more (caller_steps (operation_calls c.args.load c.args.callers c.args.draws.now) c.args.callers (length c.args.draws.now)) c.loop-caller.caller
    c.args.steps.now.items c.loop-caller.steps.items c.append_operations_of.new.steps.items
    c.loop-caller.invariant c.in_ok-append_operations_of.ensures
