use Rattle.trace_text.proofs.PlayLaws.{replay_once}
use Rattle.trace_text.proofs.laws.no_text_is_two_replays.Goals as goal

pub returns : goal.returns
returns c = replay_once
