use Rattle.sorted_group.proofs.BufferLoads.{searches_follow}
use Rattle.std.proofs.Common.{◌∙◌}
use Rattle.index_tests.proofs.Groups.{may_leave}
use Rattle.index_tests.proofs.buffers.count_of_caller.Goals as goal

pub count-requires : goal.count-requires
count-requires c =
    searches_follow c.args.board.now c.come_to-group.result c.come_to-group.new.hand
    c.come_to-group.ensures.there.search

pub returns : goal.returns
returns c =
    let there = c.come_to-group.ensures.there in
    may_leave c.args.board.now _ c.come_to-group.result c.count.new.hand (c.count.ensures.number ∙ there.numbered)
    (c.count.ensures.search there.search)
