use Rattle.std.proofs.Common.{sym, arith}
use Rattle.ycsb_mix.proofs.StepLaws.{late_one-loaded}
use Rattle.ycsb_mix.proofs.steps.late_number.Goals as goal

pub returns : goal.returns
returns c = sym (late_one-loaded c.args.load c.args.rank c.args.own.now (omega arith) c.requires)
