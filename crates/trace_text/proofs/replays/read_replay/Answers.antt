use Rattle.std.proofs.Common.{◌≡◌, [], rules}
use Rattle.trace_text.specs.Plays.{SaysPlay, is_play}
use Rattle.trace_text.proofs.CuttingLaws.{read_nothing, read_more, read_bad, read_all}
use Rattle.trace_text.proofs.PlayLaws.{replay_fits}
use Rattle.trace_text.proofs.replays.read_replay.Goals as goal

pub loop-line-init : goal.loop-line-init
loop-line-init c =
    let none : c.new-plays.result.items ≡ [] = search rules in
    rw (c.of-lines.ensures, none) (read_nothing (SaysPlay c.args.callers) is_play c.args.text.now)

pub returns-in_default-read_play_line-clause-reads : goal.returns-in_default-read_play_line-clause-reads
returns-in_default-read_play_line-clause-reads c =
    rw c.number-number.ensures
    (read_bad (SaysPlay c.args.callers) is_play c.args.text.now c.in-Some.line.now c.loop-line.lines
    c.next_line.new.self c.loop-line.plays.items c.loop-line.invariant c.in-Some.ensures
    c.in_default-read_play_line.ensures)

pub loop-line-preserved : goal.loop-line-preserved
loop-line-preserved c =
    rw c.in_ok-keep.ensures
    (read_more (SaysPlay c.args.callers) is_play c.args.text.now c.in-Some.line.now c.loop-line.lines
    c.next_line.new.self c.loop-line.plays.items c.in-Some-read_play_line.play c.loop-line.invariant
    c.in-Some.ensures c.in-Some-read_play_line.ensures)

pub returns-clause-reads : goal.returns-clause-reads
returns-clause-reads c =
    read_all (SaysPlay c.args.callers) is_play c.args.text.now c.loop-line.lines
    c.loop-line.plays.items c.loop-line.invariant c.in_default.ensures

pub returns-clause-fit : goal.returns-clause-fit
returns-clause-fit c =
    replay_fits c.args.callers c.args.text.now c.loop-line.plays.items
    (read_all (SaysPlay c.args.callers) is_play c.args.text.now c.loop-line.lines
    c.loop-line.plays.items c.loop-line.invariant c.in_default.ensures)
