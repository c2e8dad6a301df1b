use Rattle.std.proofs.Common.{◌≡◌, ℕ, ◌+◌, ◌*◌, ◌<◌, ◌≤◌, List, slice_index, slice_set, sym, ap, subst, ◌∙◌, arith}
use Rattle.word_layout.specs.declared.limits.Limits.{Limits}
use Rattle.word_layout.specs.Words.{Root, SlotPivot, SlotGroup}
use Rattle.index_machine.specs.OpeningRoots.{opening_slots}
use Rattle.index_machine.specs.OpeningRows.{opening_pivots}
use Rattle.index_machine.specs.Words.{limits, opening_word}
use Rattle.opened_table.specs.Laying.{IsOfSlots, Lays}
use Rattle.opened_table.proofs.LaidPlan.{root_word, slot_group_word, slot_pivot_word, slots_are, step_is}
use Rattle.opened_table.proofs.LaidRoots.{no_slots, slot_more}
use Rattle.opened_table.proofs.laying.lay_root.Goals as goal

pub loop-i-init : goal.loop-i-init
loop-i-init c =
    let o = c.args.opening.now in
    let part : ℕ = c.args.part in
    let old : List ℕ = c.args.words.now.items in
    let step = step_is o part c.args.groups c.root_step-step.result c.limits.result c.requires.groups
    c.limits.ensures.limits c.root_step-step.ensures.step in
    let slots : c.from.result ≡ opening_slots o part =
    c.from.ensures
    ∙ (c.div_ceil-slots.ensures ∙ slots_are o part c.args.groups c.root_step-step.result c.requires.groups step)
    in
    let word = root_word o part c.from.result slots in
    record {
      done = subst (λ (z : ℕ × ℕ). Lays o (IsOfSlots part 0) old (slice_set old z.0 z.1))
          (λ j. (sym c.root.ensures.named j, sym word j))
          (no_slots o part old c.requires.is_part c.requires.wide);
    }

pub loop-i-preserved : goal.loop-i-preserved
loop-i-preserved c =
    let o = c.args.opening.now in
    let part : ℕ = c.args.part in
    let i : ℕ = c.loop-i.i in
    let old : List ℕ = c.args.words.now.items in
    let words : List ℕ = c.loop-i.words.items in
    let step = step_is o part c.args.groups c.root_step-step.result c.limits.result c.requires.groups
    c.limits.ensures.limits c.root_step-step.ensures.step in
    let slots : c.div_ceil-slots.result ≡ opening_slots o part =
    c.div_ceil-slots.ensures ∙ slots_are o part c.args.groups c.root_step-step.result c.requires.groups step
    in
    let test = c.loop-i-test.true in
    let used : i < opening_slots o part = omega (arith, test, slots) in
    let room = c.root_step-step.ensures.fits in
    let count = c.div_ceil-slots.ensures in
    let same = ap (λ (l : Limits). l.slots) c.limits.ensures.limits in
    let below : i < (limits o).slots = omega (arith, test, room, count, same) in
    let pivot : c.pivot_of_group-pivot.result ≡ opening_word o (SlotPivot part 0 i) =
    c.pivot_of_group-pivot.ensures ∙ slot_pivot_word o part i c.root_step-step.result used step
    in
    let group : c.from-in-loop-i.result ≡ opening_word o (SlotGroup part 0 i) =
    c.from-in-loop-i.ensures
    ∙ (ap (λ (first : ℕ). first + i * c.root_step-step.result) c.first_group.ensures.group
    ∙ slot_group_word o part i c.root_step-step.result used step)
    in
    record {
      done = subst
          (λ (z : ℕ × ℕ × ℕ × ℕ).
          Lays o (IsOfSlots part (i + 1)) old (slice_set (slice_set words z.0 z.1) z.2 z.3))
          (λ j. (sym c.slot.ensures.named j, sym pivot j, sym c.slot_group.ensures.named j, sym group j))
          (slot_more o part i old words c.requires.is_part below c.requires.wide c.loop-i.invariant.done);
    }

pub returns : goal.returns
returns c =
    let o = c.args.opening.now in
    let part : ℕ = c.args.part in
    let step = step_is o part c.args.groups c.root_step-step.result c.limits.result c.requires.groups
    c.limits.ensures.limits c.root_step-step.ensures.step in
    let slots : c.div_ceil-slots.result ≡ opening_slots o part =
    c.div_ceil-slots.ensures ∙ slots_are o part c.args.groups c.root_step-step.result c.requires.groups step
    in
    let over = c.loop-i-test.false in
    let upto : c.loop-i.i ≤ c.div_ceil-slots.result = c.loop-i.auto.i-end in
    let all : c.loop-i.i ≡ opening_slots o part = omega (arith, over, upto, slots) in
    subst (λ (many : ℕ). Lays o (IsOfSlots part many) c.args.words.now.items c.loop-i.words.items) all
    c.loop-i.invariant.done
