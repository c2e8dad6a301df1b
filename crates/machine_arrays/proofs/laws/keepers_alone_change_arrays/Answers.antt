use Rattle.machine_arrays.proofs.Changes.{keeper_alone}
use Rattle.machine_arrays.proofs.laws.keepers_alone_change_arrays.Goals as goal

pub returns : goal.returns
returns c = keeper_alone
