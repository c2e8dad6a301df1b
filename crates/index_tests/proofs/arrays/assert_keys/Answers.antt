use Rattle.sorted_group.proofs.ArraySearches.{all_rise, answered_locates}
use Rattle.index_tests.proofs.arrays.assert_keys.Goals as goal

pub size-requires : goal.size-requires
size-requires g c =
    let there = c.come_to-group.ensures.there in
    answered_locates c.args.board.now c.come_to-group.result 0 c.come_to-group.new.hand there.search there.answers

pub line-requires : goal.line-requires
line-requires g c =
    all_rise c.args.board.now c.size.new.hand c.come_to-group.result c.size.result c.of-keys.result
    c.size.ensures.can.of c.of-keys.ensures.new c.size.ensures.size
