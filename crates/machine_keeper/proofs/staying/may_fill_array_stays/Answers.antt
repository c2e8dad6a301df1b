use Rattle.machine_keeper.proofs.Filling.{may_fill_array}
use Rattle.machine_keeper.proofs.staying.may_fill_array_stays.Goals as goal

pub returns : goal.returns
returns c = may_fill_array
