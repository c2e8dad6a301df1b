use Rattle.std.proofs.Common.{ℕ, refl, subst}
use Rattle.word_layout.specs.declared.layout.Layout.{Layout}
use Rattle.word_layout.specs.Layout.{shape_of}
use Rattle.word_layout.specs.Words.{IsWord, Word, SlotPivot}
use Rattle.index_machine.specs.Words.{shape}
use Rattle.index_rule.specs.declared.board.Board.{Board}
use Rattle.index_rule.specs.declared.hand.Hand.{Hand}
use Rattle.index_rule.specs.Hands.{IsHandOf, known, opening_of, view}
use Rattle.index_rule.specs.Records.{CanReadSlot}
use Rattle.index_rule.specs.Rule.{Acts}
use Rattle.index_rule.specs.Steps.{slot_pivot_load}
use Rattle.index_rule.proofs.StepKinds.{at_address, at_word, inside, makes, named_in}
use Rattle.index_rule.proofs.RootSteps.{loads_slot_pivot, slot_by_hand}
use Rattle.index_rule.proofs.ChainStepping.{slot_pivot_told}
use Rattle.index_rule.proofs.board.Board.load_slot_pivot.Goals as goal

-- the slot is one of the layout of the board
of_layout : (b : Board) (h : Hand) (part side i : ℕ) → IsHandOf b h →
    CanReadSlot (opening_of b) h.number part side i (known h) →
    IsWord (shape_of b.layout) (SlotPivot part side i)
of_layout b h part side i of can =
    subst (λ (l : Layout). IsWord (shape_of l) (SlotPivot part side i)) b.laid
    (slot_by_hand b h part side i of can)

pub slot-requires-clause-is_part : goal.slot-requires-clause-is_part
slot-requires-clause-is_part c =
    (of_layout c.args.self.now c.args.hand.now c.args.part c.args.side c.args.slot c.requires.hand
    c.requires.may).0

pub slot-requires-clause-is_side : goal.slot-requires-clause-is_side
slot-requires-clause-is_side c =
    (of_layout c.args.self.now c.args.hand.now c.args.part c.args.side c.args.slot c.requires.hand
    c.requires.may).1

pub slot-requires-clause-is_slot : goal.slot-requires-clause-is_slot
slot-requires-clause-is_slot c =
    (of_layout c.args.self.now c.args.hand.now c.args.part c.args.side c.args.slot c.requires.hand
    c.requires.may).2

pub load-requires : goal.load-requires
load-requires c =
    let b = c.args.self.now in
    let h = c.args.hand.now in
    let w = SlotPivot c.args.part c.args.side c.args.slot in
    let there : IsWord (shape (opening_of b)) w =
    slot_by_hand b h c.args.part c.args.side c.args.slot c.requires.hand c.requires.may in
    let at = at_address b w _ _ c.cold_offset-offset.ensures c.slot.ensures.named in (
      c.requires.hand.table,
      inside b w _ there at,
      loads_slot_pivot (opening_of b) _ h.seat.id h.seat.me h.number h.mine
          c.requires.hand.opened c.args.part c.args.side c.args.slot _ c.requires.may there
          (at_word b w _ at),
    )

pub returns : goal.returns
returns c =
    let b = c.args.self.now in
    let h = c.args.hand.now in
    let w = SlotPivot c.args.part c.args.side c.args.slot in
    let there : IsWord (shape (opening_of b)) w =
    slot_by_hand b h c.args.part c.args.side c.args.slot c.requires.hand c.requires.may in
    let at = at_address b w _ _ c.cold_offset-offset.ensures c.slot.ensures.named in
    let name = named_in b h w _ c.requires.hand there at in
    let step = makes b h _ _ c.requires.hand c.load.ensures.0 refl
    (subst (λ (u : Word). Acts (view h) (slot_pivot_load u c.load.result) c.load.new.seat.me.0) name
    c.load.ensures.2.acts) in
    record {
      step = step;
      tells = λ reading sees.
          slot_pivot_told b h _ c.args.part c.args.side c.args.slot c.load.result c.requires.hand reading sees step;
    }
