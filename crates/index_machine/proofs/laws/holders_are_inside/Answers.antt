use Rattle.index_machine.proofs.Holders.{holders_inside}
use Rattle.index_machine.proofs.laws.holders_are_inside.Goals as goal

pub returns : goal.returns
returns c = holders_inside
