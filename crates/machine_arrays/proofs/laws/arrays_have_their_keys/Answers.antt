use Rattle.machine_arrays.proofs.Keys.{their_keys}
use Rattle.machine_arrays.proofs.laws.arrays_have_their_keys.Goals as goal

pub returns : goal.returns
returns c = their_keys
