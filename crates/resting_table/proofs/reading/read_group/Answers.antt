use Rattle.std.proofs.Common.{◌≡◌, ◌<◌, ◌≤◌, ℕ, Bool, cond, List, None, Option, Some, length, slice_index, ap, ◌∙◌}
use Rattle.std.proofs.Common.{subst, true, arith}
use Rattle.std.proofs.lemmas.Bool.{eq-eqb}
use Rattle.map_model.specs.Map.{Map}
use Rattle.word_layout.specs.Addresses.{header_address}
use Rattle.word_layout.specs.Layout.{shape_of}
use Rattle.word_layout.specs.declared.layout.Layout.{Layout}
use Rattle.index_machine.specs.declared.opening.Opening.{Opening}
use Rattle.index_machine.specs.Execution.{Execution}
use Rattle.index_machine.specs.Lanes.{cut, lanes}
use Rattle.index_machine.specs.OpeningRows.{is_in_opening_chain}
use Rattle.machine_arrays.specs.Arrays.{array_keys}
use Rattle.machine_buffers.proofs.BegunLanes.{cuts_rise}
use Rattle.resting_table.specs.Reading.{HasRead, rows_left_from}
use Rattle.resting_table.specs.Resting.{LeaveAtRest}
use Rattle.resting_table.proofs.GroupRecords.{group_begins, group_ends}
use Rattle.resting_table.proofs.RestingWords.{lanes_is}
use Rattle.resting_table.proofs.reading.read_group.Goals as goal

-- the word that was read is the number of lanes
many_lanes : (l : Layout) (ws : List ℕ) (o : Opening) (t : Execution) (rest : LeaveAtRest l ws o t)
    (group i address : ℕ) → is_in_opening_chain o group ≡ true → i ≡ 3 →
    address ≡ header_address (shape_of l) group i → slice_index ws address ≡ lanes o group t
many_lanes l ws o t rest group i address chained number at =
    lanes_is l ws o t rest group chained address (at ∙ ap (header_address (shape_of l) group) number)

-- once all lanes were read, all rows were
all_rows : (o : Opening) (t : Execution) (group lane index : ℕ) (pairs : Map) → lane ≡ lanes o group t →
    HasRead o t group (rows_left_from o group lane t) index pairs → HasRead o t group None index pairs
all_rows o t group lane index pairs all r =
    subst (λ (end : Option ℕ). HasRead o t group end index pairs)
    (ap (λ (b : Bool). cond b None (Some (cut o group lane t))) (eq-eqb lane (lanes o group t) all)) r

pub overflow_cast-lanes-2 : goal.overflow_cast-lanes-2
overflow_cast-lanes-2 c =
    let r = c.requires.rest in
    let many = many_lanes c.args.layout.now c.args.words.now r.0 r.1 r.2 c.args.group c.number.result
    c.header.result (c.requires.chained r.0 r.1 r.2) c.number.ensures c.header.ensures.address in
    let few = (cuts_rise r.0 r.1 r.2.valid c.args.group).few in
    omega arith

pub loop-lane-init : goal.loop-lane-init
loop-lane-init c =
    record {
      room = c.requires.room;
      grown = omega arith;
      read = λ o t rest.
          group_begins o t rest.valid rest.none_rebuilt c.args.group (c.requires.chained o t rest)
          c.args.pairs.now.items (c.requires.before o t rest);
    }

pub read_lane-index-requires-clause-is_lane : goal.read_lane-index-requires-clause-is_lane
read_lane-index-requires-clause-is_lane c =
    λ o t rest.
    let many = many_lanes c.args.layout.now c.args.words.now o t rest c.args.group c.number.result
    c.header.result (c.requires.chained o t rest) c.number.ensures c.header.ensures.address in
    let lt = c.loop-lane-test.true in
    omega arith

pub read_array-requires-clause-read : goal.read_array-requires-clause-read
read_array-requires-clause-read c =
    λ o t rest.
    let many = many_lanes c.args.layout.now c.args.words.now o t rest c.args.group c.number.result
    c.header.result (c.requires.chained o t rest) c.number.ensures c.header.ensures.address in
    let over = c.loop-lane-test.false in
    let upto = c.loop-lane.auto.lane-end in
    all_rows o t c.args.group c.loop-lane.lane c.loop-lane.index c.loop-lane.pairs.items (omega arith)
    (c.loop-lane.invariant.read o t rest)

pub returns-clause-pairs : goal.returns-clause-pairs
returns-clause-pairs c =
    λ o t rest.
    let index : ℕ = c.read_array.result in
    let ended = c.read_array.ensures.ended o t rest in
    group_ends o t rest.valid rest.none_rebuilt c.args.group (c.requires.chained o t rest) index
    c.read_array.new.pairs.items (c.read_array.ensures.read o t rest)
    (let many : ℕ = length (array_keys o c.args.group t) in
    let all : many ≤ index = some_left many index (λ lt. ended index (omega arith) lt tt) in
    all)
  where
    some_left : (many index : ℕ) → (index < many → ⊥) → many ≤ index
    some_left many index none = grind arith
