use Rattle.std.proofs.Common.{◌+◌, [], ◌∷◌, refl, arith}
use Rattle.word_layout.specs.declared.headers.HeaderWord.TheVariants.{Cut, Lanes}
use Rattle.index_machine.specs.declared.events.Action.TheVariants.{LoadHeader}
use Rattle.sorted_group.proofs.BufferLoads.{follow_on, search_on}
use Rattle.sorted_group.proofs.LastKeys.{ends_before, loads_cut, some}
use Rattle.sorted_group.proofs.choosing.lane_end.Goals as goal

pub returns-then-next-count-clause-steps : goal.returns-then-next-count-clause-steps
returns-then-next-count-clause-steps c = (
  LoadHeader c.args.lane.group Lanes c.lanes-count.result ∷ [],
  (c.lanes-count.result, refl),
  omega arith,
  (c.args.hand.now, refl, c.lanes-count.ensures.step),
)

pub overflow_sub-result : goal.overflow_sub-result
overflow_sub-result c =
    let m = c.lanes-count.new.hand in
    let is = c.lanes-count.ensures.lanes in
    let was = c.lanes-count.ensures.before in
    some c.args.board.now c.args.lane c.load_header.result m c.load_header.new.hand c.lanes-count.ensures.can
    (omega arith) c.load_header.ensures.step
    (c.load_header.ensures.tells (omega arith) c.lanes-count.ensures.can.walkable)

pub returns-clause-can : goal.returns-clause-can
returns-clause-can c =
    follow_on c.args.board.now c.args.lane.group c.lanes-count.new.hand c.load_header.new.hand
    (LoadHeader c.args.lane.group (Cut (c.args.lane.number + 1)) c.load_header.result) refl
    c.load_header.ensures.step c.lanes-count.ensures.can

pub returns-clause-search : goal.returns-clause-search
returns-clause-search c = λ first.
    search_on c.args.board.now c.args.lane.group c.lanes-count.new.hand c.load_header.new.hand
    (LoadHeader c.args.lane.group (Cut (c.args.lane.number + 1)) c.load_header.result) refl
    c.load_header.ensures.step (c.lanes-count.ensures.search first)

pub returns-clause-steps : goal.returns-clause-steps
returns-clause-steps c =
    loads_cut c.args.board.now c.args.lane.group c.lanes-count.result (c.args.lane.number + 1)
    c.load_header.result c.args.hand.now c.lanes-count.new.hand c.load_header.new.hand
    c.lanes-count.ensures.step c.load_header.ensures.step

pub returns-clause-end : goal.returns-clause-end
returns-clause-end c =
    let m = c.lanes-count.new.hand in
    let is = c.lanes-count.ensures.lanes in
    let was = c.lanes-count.ensures.before in
    ends_before c.args.board.now c.args.lane c.load_header.result m c.load_header.new.hand
    c.lanes-count.ensures.can (omega arith) c.load_header.ensures.step
    (c.load_header.ensures.tells (omega arith) c.lanes-count.ensures.can.walkable) c.args.end
