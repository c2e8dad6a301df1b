use Rattle.std.proofs.Common.{arith}
use Rattle.delta_buffer.proofs.LaneCounts.{begins_count, one_lane_more}
use Rattle.delta_buffer.proofs.counting.count.Goals as goal

pub loop-number-init : goal.loop-number-init
loop-number-init c =
    let l = c.lanes-many.ensures in
    begins_count c.args.board.now c.args.group c.lanes-many.result c.args.hand.now
    c.lanes-many.new.hand c.requires l.can l.search l.number l.log l.step

pub loop-number-preserved : goal.loop-number-preserved
loop-number-preserved c =
    let many = c.lanes-many.ensures.before in
    let l = c.count_lane-count.ensures in
    one_lane_more c.args.board.now c.args.group c.loop-number.number c.loop-number.count
    c.args.hand.now c.loop-number.hand c.loop-number.invariant (omega arith)
    c.count_lane-count.result c.count_lane-count.new.hand l.search l.number l.log l.steps l.counts
