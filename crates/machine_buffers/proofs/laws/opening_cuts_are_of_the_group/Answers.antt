use Rattle.machine_buffers.proofs.Cuts.{opening_cuts}
use Rattle.machine_buffers.proofs.laws.opening_cuts_are_of_the_group.Goals as goal

pub returns : goal.returns
returns c = opening_cuts
