use Rattle.sorted_group.proofs.ArraySearches.{answered_locates}
use Rattle.std.proofs.Common.{◌∙◌}
use Rattle.index_tests.proofs.Groups.{may_leave}
use Rattle.index_tests.proofs.arrays.assert_located.Goals as goal

pub locate-found-requires : goal.locate-found-requires
locate-found-requires g c =
    let there = c.come_to-group.ensures.there in
    answered_locates c.args.board.now c.come_to-group.result c.args.key c.come_to-group.new.hand there.search
    there.answers

pub returns : goal.returns
returns g c =
    let there = c.come_to-group.ensures.there in
    may_leave c.args.board.now _ c.come_to-group.result c.locate-found.new.hand
    (c.locate-found.ensures.number ∙ there.numbered) (c.locate-found.ensures.search there.search)
