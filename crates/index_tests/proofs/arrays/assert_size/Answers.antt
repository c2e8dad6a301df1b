use Rattle.sorted_group.proofs.ArraySearches.{answered_locates}
use Rattle.std.proofs.Common.{◌∙◌}
use Rattle.index_tests.proofs.Groups.{may_leave}
use Rattle.index_tests.proofs.arrays.assert_size.Goals as goal

pub size-requires : goal.size-requires
size-requires g c =
    let there = c.come_to-group.ensures.there in
    answered_locates c.args.board.now c.come_to-group.result 0 c.come_to-group.new.hand there.search there.answers

pub returns : goal.returns
returns g c =
    let there = c.come_to-group.ensures.there in
    may_leave c.args.board.now _ c.come_to-group.result c.pivot.new.hand
    (c.pivot.ensures.number ∙ (c.size.ensures.number ∙ there.numbered))
    (c.pivot.ensures.search (c.size.ensures.search there.search))
