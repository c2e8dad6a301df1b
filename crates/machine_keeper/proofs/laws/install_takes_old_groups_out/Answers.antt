use Rattle.machine_keeper.proofs.FromOpening.{taken_out}
use Rattle.machine_keeper.proofs.laws.install_takes_old_groups_out.Goals as goal

pub returns : goal.returns
returns c = taken_out
