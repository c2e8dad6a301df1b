use Rattle.std.proofs.Common.{length}
use Rattle.trace_text.specs.Plays.{SaysPlay, is_play}
use Rattle.trace_text.proofs.CuttingLaws.{HasRead}
use Rattle.trace_text.proofs.replays.read_replay.Given as goal

abbrev pub invariant-loop-line : goal.invariant-loop-line
invariant-loop-line l = HasRead (SaysPlay l.callers) is_play l.text l.lines l.plays.items

abbrev pub decreases-loop-line : goal.decreases-loop-line
decreases-loop-line l = length l.lines.rest
