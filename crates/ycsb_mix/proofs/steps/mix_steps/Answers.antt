use Rattle.std.proofs.Common.{length, ap, ◌∙◌, arith}
use Rattle.ycsb_mix.specs.Draws.{generator_of}
use Rattle.ycsb_mix.proofs.DrawLaws.{length-draws_of}
use Rattle.ycsb_mix.proofs.StepLaws.{both_phases}
use Rattle.ycsb_mix.proofs.steps.mix_steps.Goals as goal

pub append_operations-requires-clause-draws : goal.append_operations-requires-clause-draws
append_operations-requires-clause-draws c =
    omega (arith, ap length c.deref.ensures.value, ap length c.in_ok-draws.ensures.draws, length-draws_of c.args.mix c.args.load c.args.ops (generator_of c.args.seed))

pub returns : goal.returns
returns c =
    both_phases c.args.mix c.args.load c.args.ops c.args.callers c.args.seed c.deref.result.now
    c.in_ok-steps.steps.items c.append_load.new.steps.items c.append_operations.new.steps.items
    c.in_ok-steps.ensures.items (c.deref.ensures.value ∙ c.in_ok-draws.ensures.draws)
    c.in_ok-append_load.ensures c.in_ok-append_operations.ensures
