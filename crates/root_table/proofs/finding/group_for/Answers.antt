use Rattle.std.proofs.Common.{ℕ, ◌≤◌, subst, sym, arith}
use Rattle.word_layout.specs.Parts.{HasKeyAlone, IsKeyOfPart, greatest_key}
use Rattle.index_machine.specs.Words.{shape}
use Rattle.index_machine.specs.declared.events.Action.TheVariants.{LoadRoot}
use Rattle.index_rule.specs.Hands.{Makes, opening_of}
use Rattle.root_table.specs.Slots.{root_word_of}
use Rattle.root_table.proofs.Entered.{enters_behind, enters_table}
use Rattle.root_table.proofs.InTable.{few_groups}
use Rattle.root_table.proofs.SlotChoice.{reads_slot}
use Rattle.root_table.proofs.finding.group_for.Goals as goal

pub load_slot_group-from-requires-clause-may : goal.load_slot_group-from-requires-clause-may
load_slot_group-from-requires-clause-may c =
    let l = c.last_slot-slot.ensures in
    reads_slot c.args.board.now c.slots_in_use-slots.result c.last_slot-slot.new.hand l.sees
    c.last_slot-slot.result l.last.is_slot

pub overflow_cast-from : goal.overflow_cast-from
overflow_cast-from c =
    let l = c.last_slot-slot.ensures in
    let most : c.args.key ≤ greatest_key = omega arith in
    let few = few_groups (opening_of c.args.board.now) in
    let exists = enters_table c.args.board.now c.slots_in_use-slots.result c.args.key c.last_slot-slot.result
    c.load_slot_group-from.result c.last_slot-slot.new.hand c.load_slot_group-from.new.hand l.sees
    (subst (λ (z : ℕ). IsKeyOfPart (shape (opening_of c.args.board.now)).bounds z c.args.key)
    (sym c.slots_in_use-slots.ensures.part) c.part_of-part.ensures.has)
    l.last c.load_slot_group-from.ensures.step most in
    omega (arith, few, exists)

pub walk-requires : goal.walk-requires
walk-requires c =
    let l = c.last_slot-slot.ensures in
    enters_behind c.args.board.now c.slots_in_use-slots.result c.args.key c.last_slot-slot.result
    c.load_slot_group-from.result c.last_slot-slot.new.hand c.load_slot_group-from.new.hand l.sees
    (subst (λ (z : ℕ). IsKeyOfPart (shape (opening_of c.args.board.now)).bounds z c.args.key)
    (sym c.slots_in_use-slots.ensures.part) c.part_of-part.ensures.has)
    l.last c.load_slot_group-from.ensures.step

pub returns-clause-steps : goal.returns-clause-steps
returns-clause-steps c =
    let s = c.slots_in_use-slots in
    let l = c.last_slot-slot in
    record {
      slots = s.result;
      slot = l.result;
      from = c.load_slot_group-from.result;
      rooted = s.new.hand;
      chosen = l.new.hand;
      entered = c.load_slot_group-from.new.hand;
      part = subst (λ (z : ℕ). HasKeyAlone (shape (opening_of c.args.board.now)).bounds z c.args.key)
          (sym s.ensures.part) c.part_of-part.ensures;
      root = subst (λ (z : ℕ). Makes c.args.board.now c.args.hand.now
          (LoadRoot z (root_word_of s.result)) s.new.hand) (sym s.ensures.part) s.ensures.step;
      pivots = l.ensures.steps;
      last = l.ensures.last;
      entry = c.load_slot_group-from.ensures.step;
      walk = c.walk.ensures.steps;
    }
