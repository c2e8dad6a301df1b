use Rattle.machine_buffers.proofs.Cuts.{cuts_are_keys}
use Rattle.machine_buffers.proofs.laws.cuts_are_keys.Goals as goal

pub returns : goal.returns
returns c = cuts_are_keys
