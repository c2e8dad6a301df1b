use Rattle.std.proofs.Common.{arith}
use Rattle.index_rule.specs.Hands.{opening_of}
use Rattle.delta_buffer.proofs.RowWalks.{counted, counts_none, counts_on, leads_into, room}
use Rattle.delta_buffer.proofs.counting.count_lane.Goals as goal

pub loop-next-init : goal.loop-next-init
loop-next-init c =
    let lane = c.args.lane in
    counts_none c.args.board.now lane.group lane.number c.args.counted c.follow-next.result
    c.args.hand.now c.follow-next.new.hand c.requires.can c.requires.is_lane c.requires.counted
    c.follow-next.ensures

pub overflow_add-count : goal.overflow_add-count
overflow_add-count c =
    let lane = c.args.lane in
    let most = (opening_of c.args.board.now).layout.kept.most_records in
    let fits = room c.args.board.now lane.group lane.number c.args.counted c.loop-next.next
    c.loop-next.count c.args.hand.now c.loop-next.hand c.loop-next.invariant
    c.loop-next-test.true in
    omega arith

pub follow-next-requires-in-loop-next : goal.follow-next-requires-in-loop-next
follow-next-requires-in-loop-next c =
    let lane = c.args.lane in
    let on = c.loop-next.invariant.on in
    record {
      can = on.can;
      is_lane = on.is_lane;
      link = leads_into c.args.board.now lane.group lane.number c.args.counted c.loop-next.next
          c.loop-next.count c.args.hand.now c.loop-next.hand c.loop-next.invariant
          c.loop-next-test.true;
    }

pub loop-next-smaller : goal.loop-next-smaller
loop-next-smaller c =
    let lane = c.args.lane in
    let fits = room c.args.board.now lane.group lane.number c.args.counted c.loop-next.next
    c.loop-next.count c.args.hand.now c.loop-next.hand c.loop-next.invariant
    c.loop-next-test.true in
    omega arith

pub loop-next-preserved : goal.loop-next-preserved
loop-next-preserved c =
    let lane = c.args.lane in
    counts_on c.args.board.now lane.group lane.number c.args.counted c.loop-next.next
    c.loop-next.count c.args.hand.now c.loop-next.hand c.loop-next.invariant
    c.loop-next-test.true c.follow-next-in-loop-next.result c.follow-next-in-loop-next.new.hand
    c.follow-next-in-loop-next.ensures

pub returns-clause-counts : goal.returns-clause-counts
returns-clause-counts c =
    let lane = c.args.lane in
    counted c.args.board.now lane.group lane.number c.args.counted c.loop-next.next
    c.loop-next.count c.args.hand.now c.loop-next.hand c.loop-next.invariant
    c.loop-next-test.false
