use Rattle.ycsb_mix.specs.Mix.{load_calls, caller_steps}
use Rattle.ycsb_mix.proofs.StepLaws.{callers_more}
use Rattle.ycsb_mix.proofs.steps.append_load.Goals as goal

pub loop-caller-preserved : goal.loop-caller-preserved
loop-caller-preserved c =
    callers_more (caller_steps load_calls c.args.callers c.args.load) c.loop-caller.caller
    c.args.steps.now.items c.loop-caller.steps.items c.append_loads_of.new.steps.items
    c.loop-caller.invariant c.in_ok-append_loads_of.ensures
