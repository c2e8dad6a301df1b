use Rattle.index_machine.proofs.Refusing.{forwards_without_value}
use Rattle.index_machine.proofs.refusals.forwarding_places_have_no_value.Goals as goal

pub returns : goal.returns
returns c = forwards_without_value
