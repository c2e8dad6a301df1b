use Rattle.command_line.proofs.FormLaws.{plain_forms}
use Rattle.command_line.proofs.laws.plain_forms_are_commands.Goals as goal

pub returns : goal.returns
returns c = plain_forms
