-- The loads of the roots meet their conditions.
--
-- The fact to remember: a root word names no more slots than the table has (sees_word).
use Rattle.std.proofs.Common.{◌≡◌, ℕ, ◌+◌, ◌*◌, ◌<◌, ◌≤◌, ◌⊎◌, inl, inr, ⊎_elim, Bool, true, false}
use Rattle.std.proofs.Common.{cond, Some, None, [], ◌∷◌, ◌++◌, refl, sym, ◌∙◌, subst, arith, eqb-true}
use Rattle.std.specs.Prelude.{◌==◌}
use Rattle.std.proofs.Math.Logic.{∥∥₁_elim}
use Rattle.std.proofs.Props.{props}
use Rattle.atomic_table.specs.Table.{Me, Allows}
use Rattle.word_layout.specs.Words.{IsWord, Root, SlotGroup, SlotPivot}
use Rattle.index_machine.specs.declared.events.Action.{Action}
use Rattle.index_machine.specs.declared.events.Action.TheVariants.{Enter, Leave, LoadRoot}
use Rattle.index_machine.specs.declared.events.Action.TheVariants.{LoadSlotGroup, LoadSlotPivot, StoreRoot}
use Rattle.index_machine.specs.declared.opening.Opening.{Opening}
use Rattle.index_machine.specs.Execution.{Execution, Without, event}
use Rattle.index_machine.specs.Words.{shape, limits}
use Rattle.index_machine.specs.Sections.{IsReading}
use Rattle.index_machine.specs.Keepers.{IsPart, IsPartKeeper}
use Rattle.index_machine.specs.Groups.{root}
use Rattle.index_machine.specs.OpeningRoots.{opening_slots}
use Rattle.index_machine.specs.Reaching.{SeesSlot, root_seen, root_seen_after}
use Rattle.index_machine.specs.RebuildConditions.{MayReadSlot}
use Rattle.index_machine.specs.Conditions.{Allowed, Valid}
use Rattle.index_machine.proofs.Executions.{ChangesOwnOnly, own_on}
use Rattle.index_machine.proofs.OpeningGroups.{opening_slots-few}
use Rattle.index_machine.proofs.RepresentingAll.{represented}
use Rattle.index_rule.specs.declared.board.Board.{Board}
use Rattle.index_rule.specs.declared.hand.Hand.{Hand}
use Rattle.index_rule.specs.declared.view.View.{View}
use Rattle.index_rule.specs.Hands.{IsHandOf, known, opening_of}
use Rattle.index_rule.specs.Records.{CanReadSlot, KeepsSlot}
use Rattle.index_rule.specs.Offsets.{offset_of_word}
use Rattle.index_rule.specs.Rule.{Kept, Does, word_in}
use Rattle.index_rule.specs.Steps.{root_load, slot_group_load, slot_pivot_load}
use Rattle.index_rule.proofs.StepKinds.{by_name, loads}
use Rattle.index_rule.proofs.Standing.{reading_on, stays_inside}

-- ---- slots that a root word names ----

-- the word names so many slots of a side, and no more than the table has
abbrev NamesSlots : Opening → ℕ → Type 0
NamesSlots o word =
    (many : ℕ) × (side : ℕ) × (word ≡ 2 * many + side) × (side < 2) × (many ≤ (limits o).slots)

root_step : (o : Opening) (part : ℕ) (t : Execution) (b : ℕ) (d : Action) → Allowed o t b d →
    NamesSlots o (root o part t) → NamesSlots o (root o part (event b d ∷ t))
root_step o part t b (StoreRoot p stored) may old = chosen (p == part)
  where
    chosen : (same : Bool) → NamesSlots o (cond same stored (root o part t))
    chosen true = (may.many, may.named, may.stored_word, may.is_side, may.ready.few)
    chosen false = old
root_step o part t b d may old = old

root_names : (o : Opening) (part : ℕ) (t : Execution) → Valid o t → NamesSlots o (root o part t)
root_names o part [] valid = (opening_slots o part, 0, refl, omega arith, opening_slots-few o part)
root_names o part (e ∷ t) valid =
    root_step o part t e.by e.action valid.0 (root_names o part t valid.1)

not_none : {X : Type 0} {n : ℕ} → None ≡ Some n → X
not_none e = cc

one_word : {m n : ℕ} → Some m ≡ Some n → m ≡ n
one_word e = cc

-- the part exists, and the word is one that its root may hold
abbrev IsRootWord : Opening → ℕ → ℕ → Type 0
IsRootWord o part word = IsPart o part × NamesSlots o word

seen_step : (o : Opening) (t : Execution) (c part b w : ℕ) (d : Action) → Valid o t →
    Allowed o t b d → (root_seen c part t ≡ Some w → IsRootWord o part w) →
    root_seen c part (event b d ∷ t) ≡ Some w → IsRootWord o part w
seen_step o t c part b w (Enter n) valid may old e = crossed (b == c) e
  where
    crossed : (mine : Bool) → cond mine None (root_seen c part t) ≡ Some w → IsRootWord o part w
    crossed true z = not_none z
    crossed false z = old z
seen_step o t c part b w (Leave n) valid may old e = crossed (b == c) e
  where
    crossed : (mine : Bool) → cond mine None (root_seen c part t) ≡ Some w → IsRootWord o part w
    crossed true z = not_none z
    crossed false z = old z
seen_step o t c part b w (LoadRoot p found) valid may old e = loaded (b == c) (p == part) refl e
  where
    loaded : (mine same : Bool) → (p == part) ≡ same →
        cond mine (cond same (Some found) (root_seen c part t)) (root_seen c part t) ≡ Some w →
        IsRootWord o part w
    loaded true true here z =
        let is : p ≡ part = eqb-true p part here in (
          subst (IsPart o) is may.is_part,
          subst (NamesSlots o) (may.says ∙ one_word z) (root_names o p t valid),
        )
    loaded true false here z = old z
    loaded false same here z = old z
seen_step o t c part b w d valid may old e = old e

seen_names : (o : Opening) (t : Execution) → Valid o t → (c part w : ℕ) →
    root_seen c part t ≡ Some w → IsRootWord o part w
seen_names o [] valid c part w e = not_none e
seen_names o (a ∷ t) valid c part w e =
    seen_step o t c part a.by w a.action valid.1 valid.0 (seen_names o t valid.1 c part w) e

-- the part has a root with this slot
abbrev pub IsSlotOf : Opening → ℕ → ℕ → ℕ → Type 0
IsSlotOf o part side i = IsPart o part × (side < 2) × (i < (limits o).slots)

-- a slot that can be read is one of the table
sees_word : (o : Opening) (t : Execution) → Valid o t → (c part side i : ℕ) →
    CanReadSlot o c part side i t → IsSlotOf o part side i
sees_word o t valid c part side i can =
    ⊎_elim
    (λ (z : IsReading o c t × SeesSlot c part side i t).
    let root = seen_names o t valid c part z.1.0 z.1.1 in
    let names = root.1 in
    let in_use = z.1.2 in
    let same = in_use.1 in
    let low = in_use.2 in
    let below = in_use.3 in
    let is = names.2 in
    let side_low = names.3 in
    let most = names.4 in
    (root.0, low, omega arith))
    (λ (keeps : KeepsSlot o c part side i). (keeps.is_part, keeps.is_side, keeps.is_slot)) can

-- so a slot that the hand can read is
pub slot_by_hand : (b : Board) (h : Hand) (part side i : ℕ) → IsHandOf b h →
    CanReadSlot (opening_of b) h.number part side i (known h) →
    IsSlotOf (opening_of b) part side i
slot_by_hand b h part side i of can =
    ∥∥₁_elim (h.following (opening_of b) of.opened) (hlevel props)
    (λ follows. sees_word (opening_of b) (known h) follows.valid h.number part side i can)

-- ---- what others leave ----

root_seen_after-own_only : (part : ℕ) → ChangesOwnOnly (root_seen_after part)
root_seen_after-own_only part (Enter n) word = refl
root_seen_after-own_only part action word = refl

sees_on : (o : Opening) (c part side i : ℕ) (n t : Execution) → Without c n →
    CanReadSlot o c part side i t → MayReadSlot o c part side i (n ++ t)
sees_on o c part side i n t out can =
    ⊎_elim
    (λ (z : IsReading o c t × SeesSlot c part side i t).
    inl (
      reading_on o c n t (stays_inside c n out) z.0,
      (
        z.1.0,
        own_on (root_seen_after part) None (root_seen_after-own_only part) c n t out ∙ z.1.1,
        z.1.2,
      ),
    ))
    (λ (keeps : KeepsSlot o c part side i). inr keeps.keeper) can

-- ---- the steps ----

module _ (o : Opening) (slots id : ℕ) (me : Me (Unit {0}) View) (c : ℕ)
    (is : me.0.numbers ≡ c ∷ []) (live : me.0.opening ≡ Some o) where
  pub loads_root : (part a : ℕ) → IsReading o c me.0.known ⊎ IsPartKeeper o c part →
      IsPart o part → a ≡ offset_of_word (shape o) (Root part) →
      Allows (Kept o) slots id me a (λ n. n) (λ n x. Does me (root_load (word_in me.0 a) n) x)
  loads_root part a may is_part at =
      by_name o slots id me c is live (Root part) a (λ n. n) root_load is_part at
      (loads o slots id me c is live (Root part) (λ n. LoadRoot part n) is_part (λ _. refl)
      (λ t valid newer e out. record {
        allowed = ⊎_elim
            (λ (reading : IsReading o c me.0.known).
            inl (subst (IsReading o c) e
            (reading_on o c newer me.0.known (stays_inside c newer out) reading)))
            (λ (keeper : IsPartKeeper o c part). inr keeper) may;
        is_part = is_part;
        found_word = refl;
        says = sym ((represented o t valid).root_word part);
      }))

  pub loads_slot_group : (part side i a : ℕ) → CanReadSlot o c part side i me.0.known →
      IsWord (shape o) (SlotGroup part side i) →
      a ≡ offset_of_word (shape o) (SlotGroup part side i) →
      Allows (Kept o) slots id me a (λ n. n)
      (λ n x. Does me (slot_group_load (word_in me.0 a) n) x)
  loads_slot_group part side i a can is_word at =
      by_name o slots id me c is live (SlotGroup part side i) a (λ n. n) slot_group_load is_word at
      (loads o slots id me c is live (SlotGroup part side i) (λ n. LoadSlotGroup part side i n)
      is_word (λ _. refl)
      (λ t valid newer e out. record {
        allowed = subst (MayReadSlot o c part side i) e
            (sees_on o c part side i newer me.0.known out can);
        found_word = refl;
        says = sym ((represented o t valid).slots part side i);
      }))

  pub loads_slot_pivot : (part side i a : ℕ) → CanReadSlot o c part side i me.0.known →
      IsWord (shape o) (SlotPivot part side i) →
      a ≡ offset_of_word (shape o) (SlotPivot part side i) →
      Allows (Kept o) slots id me a (λ n. n)
      (λ n x. Does me (slot_pivot_load (word_in me.0 a) n) x)
  loads_slot_pivot part side i a can is_word at =
      by_name o slots id me c is live (SlotPivot part side i) a (λ n. n) slot_pivot_load is_word at
      (loads o slots id me c is live (SlotPivot part side i) (λ n. LoadSlotPivot part side i n)
      is_word (λ _. refl)
      (λ t valid newer e out. record {
        allowed = subst (MayReadSlot o c part side i) e
            (sees_on o c part side i newer me.0.known out can);
        found_word = refl;
      }))
