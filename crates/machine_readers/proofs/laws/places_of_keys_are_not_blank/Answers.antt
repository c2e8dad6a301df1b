use Rattle.machine_readers.proofs.FormsMet.{not_blank}
use Rattle.machine_readers.proofs.laws.places_of_keys_are_not_blank.Goals as goal

pub returns : goal.returns
returns c = not_blank
