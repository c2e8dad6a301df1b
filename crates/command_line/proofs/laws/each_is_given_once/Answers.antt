use Rattle.command_line.proofs.RefusedForms.{given_once}
use Rattle.command_line.proofs.laws.each_is_given_once.Goals as goal

pub returns : goal.returns
returns c = given_once
