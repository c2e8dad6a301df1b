use Rattle.index_tests.proofs.Groups.{belongs}
use Rattle.index_tests.proofs.Linking.{can_link_in}
use Rattle.sorted_group.proofs.BufferLoads.{searches_follow}
use Rattle.index_tests.proofs.buffers.find_gap.Goals as goal

pub lane_for-lane-requires-clause-can : goal.lane_for-lane-requires-clause-can
lane_for-lane-requires-clause-can g c =
    searches_follow c.args.board.now c.args.group c.args.hand.now c.requires.in_group.search

pub lane_for-lane-requires-clause-key : goal.lane_for-lane-requires-clause-key
lane_for-lane-requires-clause-key g c =
    belongs c.args.board.now c.args.group c.args.key c.args.hand.now c.requires.in_group.answers

pub returns : goal.returns
returns g c =
    can_link_in c.args.board.now _ c.args.group c.args.key c.args._row.now.place c.in-Gap.before c.in-Gap.next 3
    c.lane_for-lane.result c.args.hand.now c.lane_for-lane.new.hand c.find.new.hand c.lane_for-lane.ensures.group
    c.requires c.lane_for-lane.ensures.steps (c.lane_for-lane.ensures.search c.requires.in_group.search)
    c.in-Gap.ensures.steps c.in-Gap.ensures.search c.in-Gap.ensures.finds
