use Rattle.std.proofs.Common.{◌+◌, ℕ, slice_index, Some}
use Rattle.std.proofs.Common.{refl, arith}
use Rattle.resting_table.proofs.ArrayReading.{fits}
use Rattle.resting_table.proofs.LaneReading.{lane_ends}
use Rattle.resting_table.proofs.LaneWords.{begins, few_lanes, fewer, head_within, met, met_behind, next_small}
use Rattle.resting_table.proofs.LaneWords.{read_row, reads_on, rises, row_holds, up_to_row}
use Rattle.resting_table.proofs.RestingRecords.{value_of}
use Rattle.resting_table.proofs.reading.read_lane.Goals as goal

pub lane_head-requires-clause-is_lane : goal.lane_head-requires-clause-is_lane
lane_head-requires-clause-is_lane c =
    let r = c.requires.rest in
    few_lanes c.args.layout.now c.args.words.now r.0 r.1 r.2 c.args.group (c.requires.chained r.0 r.1 r.2)
    c.args.lane (c.requires.is_lane r.0 r.1 r.2)

pub bounds-words-lane_head : goal.bounds-words-lane_head
bounds-words-lane_head c =
    let r = c.requires.rest in
    head_within c.args.layout.now c.args.words.now r.0 r.1 r.2 c.args.group (c.requires.chained r.0 r.1 r.2)
    c.args.lane (c.requires.is_lane r.0 r.1 r.2) c.lane_head.result c.lane_head.ensures.named

pub overflow_cast-next-2 : goal.overflow_cast-next-2
overflow_cast-next-2 c =
    let l = c.args.layout.now in
    let ws = c.args.words.now in
    let r = c.requires.rest in
    let chained = c.requires.chained r.0 r.1 r.2 in
    let is_lane = c.requires.is_lane r.0 r.1 r.2 in
    let first = begins l ws r.0 r.1 r.2 c.args.group chained c.args.lane is_lane c.args.from c.lane_head.result
    c.args.pairs.now.items (c.requires.read r.0 r.1 r.2) c.lane_head.ensures.named in
    let small = next_small l ws r.0 r.1 r.2 c.args.group chained c.args.lane is_lane c.args.from
    (slice_index ws c.lane_head.result) c.args.pairs.now.items first in
    omega arith

pub loop-next-init : goal.loop-next-init
loop-next-init c =
    record {
      room = c.requires.room;
      grown = omega arith;
      read = λ o t rest chained is_lane.
          begins c.args.layout.now c.args.words.now o t rest c.args.group chained c.args.lane is_lane c.args.from
          c.lane_head.result c.args.pairs.now.items (c.requires.read o t rest) c.lane_head.ensures.named;
    }

pub bounds-words-next : goal.bounds-words-next
bounds-words-next c =
    let l = c.args.layout.now in
    let ws = c.args.words.now in
    let r = c.requires.rest in
    let chained = c.requires.chained r.0 r.1 r.2 in
    let is_lane = c.requires.is_lane r.0 r.1 r.2 in
    let m = met l ws r.0 r.1 r.2 c.args.group chained c.args.lane is_lane c.loop-next.index c.loop-next.next
    c.loop-next.pairs.items (c.loop-next.invariant.read r.0 r.1 r.2 chained is_lane) c.loop-next-test.true in
    let inside = (row_holds l ws r.0 r.1 r.2 c.args.group chained c.args.lane is_lane c.loop-next.index
    c.loop-next.next c.loop-next.pairs.items m).within in
    omega arith

pub read_array-index-requires-clause-read : goal.read_array-index-requires-clause-read
read_array-index-requires-clause-read c =
    λ o t rest.
    let l = c.args.layout.now in
    let ws = c.args.words.now in
    let chained = c.requires.chained o t rest in
    let is_lane = c.requires.is_lane o t rest in
    let m = met l ws o t rest c.args.group chained c.args.lane is_lane c.loop-next.index c.loop-next.next
    c.loop-next.pairs.items (c.loop-next.invariant.read o t rest chained is_lane) c.loop-next-test.true in
    up_to_row l ws o t rest c.args.group chained c.args.lane is_lane c.loop-next.index c.loop-next.next
    c.loop-next.pairs.items m

pub keep-requires : goal.keep-requires
keep-requires c =
    let l = c.args.layout.now in
    let ws = c.args.words.now in
    let r = c.requires.rest in
    let group = c.args.group in
    let lane = c.args.lane in
    let chained = c.requires.chained r.0 r.1 r.2 in
    let is_lane = c.requires.is_lane r.0 r.1 r.2 in
    let next : ℕ = c.loop-next.next in
    let m = met l ws r.0 r.1 r.2 group chained lane is_lane c.loop-next.index next
    c.loop-next.pairs.items (c.loop-next.invariant.read r.0 r.1 r.2 chained is_lane) c.loop-next-test.true in
    let behind = met_behind l ws r.0 r.1 r.2 group chained lane is_lane c.loop-next.index next
    c.loop-next.pairs.items m c.read_array-index.result c.read_array-index.new.pairs.items
    (c.read_array-index.ensures.read r.0 r.1 r.2) in
    let more = reads_on l ws r.0 r.1 r.2 group chained lane is_lane c.read_array-index.result next
    c.read_array-index.new.pairs.items behind (next + 3)
    (c.read_array-index.ensures.ended r.0 r.1 r.2) refl in
    let few = fits l ws r.0 r.1 r.2 group chained (Some more.from) c.read_array-index.result _ more.read in
    let room = c.loop-next.invariant.room in
    let grown = c.read_array-index.ensures.room in (
      behind.key,
      value_of r.0 r.1 next,
      row_holds l ws r.0 r.1 r.2 group chained lane is_lane c.read_array-index.result next
          c.read_array-index.new.pairs.items behind,
      omega arith,
    )

pub link_word-requires : goal.link_word-requires
link_word-requires c =
    let r = c.requires.rest in
    let chained = c.requires.chained r.0 r.1 r.2 in
    let is_lane = c.requires.is_lane r.0 r.1 r.2 in
    next_small c.args.layout.now c.args.words.now r.0 r.1 r.2 c.args.group chained c.args.lane is_lane
    c.loop-next.index c.loop-next.next c.loop-next.pairs.items
    (c.loop-next.invariant.read r.0 r.1 r.2 chained is_lane)

pub bounds-words-link_word : goal.bounds-words-link_word
bounds-words-link_word c =
    let l = c.args.layout.now in
    let ws = c.args.words.now in
    let r = c.requires.rest in
    let chained = c.requires.chained r.0 r.1 r.2 in
    let is_lane = c.requires.is_lane r.0 r.1 r.2 in
    let m = met l ws r.0 r.1 r.2 c.args.group chained c.args.lane is_lane c.loop-next.index c.loop-next.next
    c.loop-next.pairs.items (c.loop-next.invariant.read r.0 r.1 r.2 chained is_lane) c.loop-next-test.true in
    let inside = (row_holds l ws r.0 r.1 r.2 c.args.group chained c.args.lane is_lane c.loop-next.index
    c.loop-next.next c.loop-next.pairs.items m).within in
    let at = c.link_word.ensures in
    omega arith

pub overflow_cast-next-in-loop-next-2 : goal.overflow_cast-next-in-loop-next-2
overflow_cast-next-in-loop-next-2 c =
    let l = c.args.layout.now in
    let ws = c.args.words.now in
    let r = c.requires.rest in
    let chained = c.requires.chained r.0 r.1 r.2 in
    let is_lane = c.requires.is_lane r.0 r.1 r.2 in
    let more = read_row l ws r.0 r.1 r.2 c.args.group chained c.args.lane is_lane c.loop-next.index
    c.loop-next.next c.link_word.result c.read_array-index.result c.loop-next.pairs.items
    c.read_array-index.new.pairs.items c.keep.new.pairs.items
    (c.loop-next.invariant.read r.0 r.1 r.2 chained is_lane) c.loop-next-test.true
    (c.read_array-index.ensures.read r.0 r.1 r.2) (c.read_array-index.ensures.ended r.0 r.1 r.2)
    c.link_word.ensures c.keep.ensures.kept in
    let small = next_small l ws r.0 r.1 r.2 c.args.group chained c.args.lane is_lane c.read_array-index.result
    (slice_index ws c.link_word.result) c.keep.new.pairs.items more.1 in
    omega arith

pub loop-next-smaller : goal.loop-next-smaller
loop-next-smaller c =
    let l = c.args.layout.now in
    let ws = c.args.words.now in
    let r = c.requires.rest in
    let chained = c.requires.chained r.0 r.1 r.2 in
    let is_lane = c.requires.is_lane r.0 r.1 r.2 in
    let next : ℕ = c.loop-next.next in
    let link : ℕ = slice_index ws c.link_word.result in
    let more = read_row l ws r.0 r.1 r.2 c.args.group chained c.args.lane is_lane c.loop-next.index
    next c.link_word.result c.read_array-index.result c.loop-next.pairs.items
    c.read_array-index.new.pairs.items c.keep.new.pairs.items
    (c.loop-next.invariant.read r.0 r.1 r.2 chained is_lane) c.loop-next-test.true
    (c.read_array-index.ensures.read r.0 r.1 r.2) (c.read_array-index.ensures.ended r.0 r.1 r.2)
    c.link_word.ensures c.keep.ensures.kept in
    fewer next link (slice_index ws next) (slice_index ws link) c.loop-next-test.true
    (omega (arith, c.type_inv.words next))
    (rises l ws r.0 r.1 r.2 c.args.group chained c.args.lane is_lane c.read_array-index.result next
    c.link_word.result c.read_array-index.new.pairs.items c.keep.new.pairs.items more.0 c.link_word.ensures
    more.1)

pub loop-next-preserved : goal.loop-next-preserved
loop-next-preserved c =
    let read = c.read_array-index.ensures.room in
    let kept = c.keep.ensures.room in
    let room = c.loop-next.invariant.room in
    let grown = c.loop-next.invariant.grown in
    record {
      room = omega arith;
      grown = omega arith;
      read = λ o t rest chained is_lane.
          (read_row c.args.layout.now c.args.words.now o t rest c.args.group chained c.args.lane is_lane
          c.loop-next.index c.loop-next.next c.link_word.result c.read_array-index.result
          c.loop-next.pairs.items c.read_array-index.new.pairs.items c.keep.new.pairs.items
          (c.loop-next.invariant.read o t rest chained is_lane) c.loop-next-test.true
          (c.read_array-index.ensures.read o t rest) (c.read_array-index.ensures.ended o t rest)
          c.link_word.ensures c.keep.ensures.kept).1;
    }

pub returns-clause-read : goal.returns-clause-read
returns-clause-read c =
    λ o t rest.
    let chained = c.requires.chained o t rest in
    let is_lane = c.requires.is_lane o t rest in
    lane_ends o t rest.valid rest.none_rebuilt c.args.group chained c.args.lane is_lane c.loop-next.index
    c.loop-next.next c.loop-next.pairs.items (c.loop-next.invariant.read o t rest chained is_lane)
    c.loop-next-test.false
