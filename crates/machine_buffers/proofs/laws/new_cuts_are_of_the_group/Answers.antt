use Rattle.machine_buffers.proofs.Cuts.{new_cuts}
use Rattle.machine_buffers.proofs.laws.new_cuts_are_of_the_group.Goals as goal

pub returns : goal.returns
returns c = new_cuts
