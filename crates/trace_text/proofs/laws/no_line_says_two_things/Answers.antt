use Rattle.trace_text.proofs.LineLaws.{lines_say_one_thing}
use Rattle.trace_text.proofs.laws.no_line_says_two_things.Goals as goal

pub returns : goal.returns
returns c = lines_say_one_thing
