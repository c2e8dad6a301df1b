use Rattle.machine_buffers.proofs.Cuts.{cuts_stay}
use Rattle.machine_buffers.proofs.laws.cuts_stay_of_the_group.Goals as goal

pub returns : goal.returns
returns c = cuts_stay
