use Rattle.point_calls.specs.Exchanges.{no_exchange, one_of_each}
use Rattle.point_calls.proofs.CallExchanges.{lock_in_put}
use Rattle.point_calls.proofs.Exchanging.{few_behind}
use Rattle.point_calls.proofs.SeekWay.{found_none, in_group}
use Rattle.point_calls.proofs.putting.put.Goals as goal

pub make_room-requires : goal.make_room-requires
make_room-requires c =
    in_group c.args.board.now c.of-start.result.value c.args.hand.now c.args.key c.group_for-group.result
    c.group_for-group.new.hand c.of-start.ensures c.requires.call c.group_for-group.ensures.steps
    c.group_for-group.ensures.there c.group_for-group.ensures.answers c.group_for-group.ensures.log

pub returns-in-Ok-clause-exchanges : goal.returns-in-Ok-clause-exchanges
returns-in-Ok-clause-exchanges c =
    let b = c.args.board.now in
    let h = c.args.hand.now in
    let n = c.group_for-group.new.hand in
    let k = c.make_room.new.hand in
    few_behind one_of_each h k c.put_into.new.hand
    (few_behind no_exchange h n k
    (found_none b c.args.key h c.group_for-group.result n c.requires.call.of c.group_for-group.ensures.steps)
    c.in-Ok.ensures.answer.exchanges)
    c.put_into.ensures.exchanges

pub returns-clause-exchanges : goal.returns-clause-exchanges
returns-clause-exchanges c =
    let b = c.args.board.now in
    let h = c.args.hand.now in
    let n = c.group_for-group.new.hand in
    lock_in_put h n c.make_room.new.hand
    (found_none b c.args.key h c.group_for-group.result n c.requires.call.of c.group_for-group.ensures.steps)
    c.make_room.ensures.exchanges
