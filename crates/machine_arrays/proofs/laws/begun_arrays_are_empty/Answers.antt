use Rattle.machine_arrays.proofs.Changes.{begun_empty}
use Rattle.machine_arrays.proofs.laws.begun_arrays_are_empty.Goals as goal

pub returns : goal.returns
returns c = begun_empty
