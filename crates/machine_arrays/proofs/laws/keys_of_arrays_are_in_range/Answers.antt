use Rattle.machine_arrays.proofs.Ranges.{caller_range}
use Rattle.machine_arrays.proofs.laws.keys_of_arrays_are_in_range.Goals as goal

pub returns : goal.returns
returns c = caller_range
