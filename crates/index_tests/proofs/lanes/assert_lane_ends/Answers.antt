use Rattle.std.proofs.Common.{◌∙◌}
use Rattle.index_tests.proofs.Groups.{may_leave}
use Rattle.index_tests.proofs.lanes.assert_lane_ends.Goals as goal

pub returns : goal.returns
returns g c =
    let there = c.come_to_lane-lane.ensures in
    may_leave c.args.board.now _ c.come_to_lane-lane.result.group c.lane_end.new.hand
    (c.lane_end.ensures.number ∙ there.numbered) (c.lane_end.ensures.search there.search)
