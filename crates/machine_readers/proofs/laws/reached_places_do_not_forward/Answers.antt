use Rattle.machine_readers.proofs.FormsMet.{reached_forms}
use Rattle.machine_readers.proofs.laws.reached_places_do_not_forward.Goals as goal

pub returns : goal.returns
returns c = reached_forms
