use Rattle.std.proofs.Common.{length}
use Rattle.ycsb_mix.proofs.DrawLaws.{draw_of-insert, draw_of-scan, draw_of-rank}
use Rattle.ycsb_mix.proofs.drawing.draw_more.Goals as goal

pub returns-in-Insert-clause-draws : goal.returns-in-Insert-clause-draws
returns-in-Insert-clause-draws c =
    rw c.in-Insert.is (draw_of-insert (length c.args.sums.now) c.args.words.now)

pub returns-in-Scan-clause-draws : goal.returns-in-Scan-clause-draws
returns-in-Scan-clause-draws c =
    rw c.in-Scan.is
    (draw_of-scan (length c.args.sums.now) c.args.words.now c.draw_rank-rank.result c.draw_rank-rank.new.words c.next_word.result c.next_word.new.self
    c.draw_rank-rank.ensures.draws c.next_word.ensures)

pub returns-in_default : goal.returns-in_default
returns-in_default c = record {
  draws =
      draw_of-rank (length c.args.sums.now) c.args.kind c.args.words.now c.draw_rank-rank-in_default.result
      c.draw_rank-rank-in_default.new.words c.in_default.not-Insert c.in_default.not-Scan
      c.draw_rank-rank-in_default.ensures.draws;
  within = c.draw_rank-rank-in_default.ensures.within;
}
