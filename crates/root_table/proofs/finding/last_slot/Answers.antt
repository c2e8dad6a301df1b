use Rattle.std.proofs.Common.{refl, arith}
use Rattle.root_table.proofs.SlotChoice.{begins_choice, goes_down, goes_up}
use Rattle.root_table.proofs.finding.last_slot.Goals as goal

pub loop-low-init : goal.loop-low-init
loop-low-init c =
    begins_choice c.args.board.now c.args.slots c.args.key c.args.hand.now c.requires.sees c.requires.key

pub loop-low-preserved-then-pivot-key : goal.loop-low-preserved-then-pivot-key
loop-low-preserved-then-pivot-key c =
    goes_up c.args.board.now c.args.slots c.args.key c.loop-low.low c.loop-low.high _
    c.load_slot_pivot-pivot.result c.args.hand.now c.loop-low.hand c.load_slot_pivot-pivot.new.hand
    c.loop-low.invariant c.loop-low-test.true refl c.load_slot_pivot-pivot.ensures.step c.if-pivot-key.true

pub loop-low-preserved : goal.loop-low-preserved
loop-low-preserved c =
    let test = c.if-pivot-key.false in
    goes_down c.args.board.now c.args.slots c.args.key c.loop-low.low c.loop-low.high _
    c.load_slot_pivot-pivot.result c.args.hand.now c.loop-low.hand c.load_slot_pivot-pivot.new.hand
    c.loop-low.invariant c.loop-low-test.true refl c.load_slot_pivot-pivot.ensures.step (omega (arith, test))
