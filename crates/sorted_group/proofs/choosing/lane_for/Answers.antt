use Rattle.std.proofs.Common.{refl, arith}
use Rattle.sorted_group.proofs.LaneChoice.{begins_choice, few_left, goes_down, goes_up}
use Rattle.sorted_group.proofs.choosing.lane_for.Goals as goal

pub overflow_sub-high : goal.overflow_sub-high
overflow_sub-high c =
    let l = c.lanes-high.ensures in
    (begins_choice c.args.board.now c.args.group c.args.key c.lanes-high.result c.args.hand.now
    c.lanes-high.new.hand (omega arith) c.requires.can l.can l.search l.number l.log c.requires.key
    l.step l.lanes l.few).0

pub loop-low-init : goal.loop-low-init
loop-low-init c =
    let l = c.lanes-high.ensures in
    (begins_choice c.args.board.now c.args.group c.args.key c.lanes-high.result c.args.hand.now
    c.lanes-high.new.hand (omega arith) c.requires.can l.can l.search l.number l.log c.requires.key
    l.step l.lanes l.few).1

pub overflow_add-middle : goal.overflow_add-middle
overflow_add-middle c =
    let few = few_left c.args.board.now c.args.group c.args.key c.loop-low.low c.loop-low.high
    c.args.hand.now c.loop-low.hand c.loop-low.invariant in
    omega arith

pub overflow_add-middle-in-loop-low : goal.overflow_add-middle-in-loop-low
overflow_add-middle-in-loop-low c =
    let few = few_left c.args.board.now c.args.group c.args.key c.loop-low.low c.loop-low.high
    c.args.hand.now c.loop-low.hand c.loop-low.invariant in
    omega arith

pub loop-low-preserved-then-cut-key : goal.loop-low-preserved-then-cut-key
loop-low-preserved-then-cut-key c =
    let test = c.if-cut-key.true in
    let left = c.loop-low-test.true in
    let most = c.loop-low.invariant.in_lanes in
    goes_up c.args.board.now c.args.group c.args.key c.loop-low.low c.loop-low.high _
    c.load_header-cut.result c.args.hand.now c.loop-low.hand c.load_header-cut.new.hand
    c.loop-low.invariant c.loop-low-test.true refl c.load_header-cut.ensures.step
    (c.load_header-cut.ensures.tells (omega (arith, most, left)) c.loop-low.invariant.can.walkable)
    (omega arith)

pub loop-low-preserved : goal.loop-low-preserved
loop-low-preserved c =
    let test = c.if-cut-key.false in
    let left = c.loop-low-test.true in
    let most = c.loop-low.invariant.in_lanes in
    goes_down c.args.board.now c.args.group c.args.key c.loop-low.low c.loop-low.high _
    c.load_header-cut.result c.args.hand.now c.loop-low.hand c.load_header-cut.new.hand
    c.loop-low.invariant c.loop-low-test.true refl c.load_header-cut.ensures.step
    (c.load_header-cut.ensures.tells (omega (arith, most, left)) c.loop-low.invariant.can.walkable)
    (omega arith)
