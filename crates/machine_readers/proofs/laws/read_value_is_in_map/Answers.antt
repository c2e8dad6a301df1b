use Rattle.machine_readers.proofs.FromOpening.{value_read}
use Rattle.machine_readers.proofs.laws.read_value_is_in_map.Goals as goal

pub returns : goal.returns
returns c = value_read
