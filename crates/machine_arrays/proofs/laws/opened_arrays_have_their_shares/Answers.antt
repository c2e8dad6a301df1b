use Rattle.machine_arrays.proofs.Shares.{their_shares}
use Rattle.machine_arrays.proofs.laws.opened_arrays_have_their_shares.Goals as goal

pub returns : goal.returns
returns c = their_shares
