use Rattle.trace_text.proofs.PlayLaws.{by_play}
use Rattle.trace_text.proofs.plays.read_play_line.Goals as goal

pub returns : goal.returns
returns c =
    by_play c.args.callers c.args.line.now c.read_play.result
    (λ skipped. absurd (cc (c.is_skipped.ensures.1 skipped))) c.read_play.ensures
