use Rattle.command_line.proofs.SaturationLaws.{saturation}
use Rattle.command_line.proofs.laws.saturation_keeps_rules.Goals as goal

pub returns : goal.returns
returns c = saturation
