use Rattle.std.proofs.Common.{refl}
use Rattle.caller_phases.proofs.phases.run_named.Goals as goal

pub returns : goal.returns
returns g c =
    record {
      index = refl;
      passes = c.in_ok-passes.ensures;
      keeper = c.into_inner-keeper.ensures.of c.args.opened.index c.requires.name;
    }
