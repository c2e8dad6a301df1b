use Rattle.trace_text.proofs.PlayLaws.{plays_say_one_thing}
use Rattle.trace_text.proofs.laws.no_play_line_says_two_things.Goals as goal

pub returns : goal.returns
returns c = plays_say_one_thing
