-- A table with four groups, the events of two rebuilds on it, and its keys in two ranges.
use Rattle.std.proofs.Common.{◌≡◌, ◌≢◌, ℕ, ◌+◌, ◌*◌, ◌<◌, ◌≤◌, nat_le, inl, inr, ⊎_elim, Option, Some}
use Rattle.std.proofs.Common.{None, Bool, true, false, [], ◌∷◌, cond, refl, sym, ◌∙◌, subst}
use Rattle.std.proofs.Common.{arith, nat_lt, ◌⊎◌}
use Rattle.worked_executions.proofs.Equations.{Same, SameOption}
use Rattle.std.proofs.lemmas.Bool.{le-ltb, lt-ltb, ltb-false, ltb-true}
use mathlib.Core.Logic.{dite}
use native.Mathlib.Decide.{ℕ_discrete}
use Rattle.index_machine.proofs.Executions.{choice-other, choice-same}
use Rattle.index_machine.specs.Execution.{Execution, event}
use Rattle.index_machine.specs.Groups.{IsInUse, phase, unless_named}
use Rattle.index_machine.specs.KeyRanges.{group_of, or_else, successor}
use Rattle.word_layout.specs.Parts.{greatest_key}
use Rattle.index_machine.specs.Openings.{within}
use Rattle.index_machine.specs.Permissions.{MayInsertInto}
use Rattle.index_machine.specs.Reaching.{saw_open, saw_opened}
use Rattle.index_machine.specs.Sections.{IsCaller, IsHand}
use Rattle.index_machine.specs.declared.events.Action.TheVariants.{Freeze, NewGroup, StoreHeader}
use Rattle.index_machine.specs.declared.events.Action.TheVariants.{StoreOpened, Install}
use Rattle.index_machine.specs.declared.events.InstallWord.TheVariants.{FirstSlot}
use Rattle.index_machine.specs.declared.opening.Opening.{Opening}
use Rattle.machine_barriers.proofs.OpenedGroups.{begun_back, frozen_not, open_not, opened_back}
use Rattle.machine_barriers.proofs.OpenedGroups.{opened_is}
use Rattle.worked_executions.proofs.OneCaller.{no_insert as caller_inserts_not, first_slot, first_slot_is}
use Rattle.worked_executions.proofs.OnePart.{one_part_cut, is_key}
use Rattle.worked_executions.specs.NameUsedAgain.{four_groups}
use Rattle.index_machine.proofs.Options.{none_some, not_so, some_is}
use Rattle.word_layout.specs.declared.headers.HeaderWord.TheVariants as header
use Rattle.word_layout.specs.declared.layout.Layout.{Layout}
use Rattle.word_layout.specs.declared.phase.Phase.TheVariants.{Frozen, Open, Opened}

-- ---- the table ----

abbrev pub four_group_layout : Layout
four_group_layout =
    record {
      limits = four_groups;
      parts = [];
      group_words = 56;
      slots_from = 3;
      groups_from = 7;
      rows_from = 231;
      kept = record {
        least_callers = omega arith;
        most_callers = omega arith;
        least_records = omega arith;
        most_records = omega arith;
        least_groups = omega arith;
        most_groups = omega arith;
        least_group_size = omega arith;
        most_group_size = omega arith;
        least_slots = omega arith;
        most_slots = omega arith;
        least_due = omega arith;
        most_due = omega arith;
        least_help = omega arith;
        most_help = omega arith;
        least_chain = omega arith;
        most_chain = omega arith;
        most_first_version = omega arith;
        most_words = omega arith;
      };
      cut = one_part_cut;
      group_width = refl;
      slots_behind_epochs = refl;
      groups_behind_slots = refl;
      rows_behind_groups = refl;
    }

abbrev pub o : Opening
o =
    record {
      layout = four_group_layout;
      rows = [];
      rising = tt;
      fits = λ part is_part. omega arith;
      keys = tt;
    }

-- ---- the execution, event by event ----

abbrev pub frozen_0 : Execution
frozen_0 = event 1 (Freeze 0) ∷ []

abbrev pub step_1 : Execution
step_1 = event 1 (StoreHeader 1 header.Next 3) ∷ frozen_0

abbrev pub lanes_1 : Execution
lanes_1 = event 1 (StoreHeader 1 header.Lanes 2) ∷ step_1

abbrev pub cuts_1 : Execution
cuts_1 = event 1 (StoreHeader 1 (header.Cut 1) 3) ∷ lanes_1

abbrev pub step_2 : Execution
step_2 = event 1 (NewGroup 1 0 4 1) ∷ cuts_1

abbrev pub lanes_2 : Execution
lanes_2 = event 1 (StoreHeader 2 header.Lanes 2) ∷ step_2

abbrev pub first_cut_2 : Execution
first_cut_2 = event 1 (StoreHeader 2 (header.Cut 0) 5) ∷ lanes_2

abbrev pub cuts_2 : Execution
cuts_2 = event 1 (StoreHeader 2 (header.Cut 1) 9) ∷ first_cut_2

abbrev pub step_3 : Execution
step_3 = event 1 (NewGroup 2 5 greatest_key 1) ∷ cuts_2

abbrev pub step_4 : Execution
step_4 = event 1 (StoreOpened 0 1) ∷ step_3

abbrev pub step_5 : Execution
step_5 = event 1 (Install (FirstSlot 0 0) 1 0 greatest_key) ∷ step_4

abbrev pub frozen_1 : Execution
frozen_1 = event 1 (Freeze 1) ∷ step_5

abbrev pub step_6 : Execution
step_6 = event 1 (StoreHeader 3 header.Next 3) ∷ frozen_1

abbrev pub lanes_3 : Execution
lanes_3 = event 1 (StoreHeader 3 header.Lanes 1) ∷ step_6

abbrev pub step_7 : Execution
step_7 = event 1 (NewGroup 3 0 4 3) ∷ lanes_3

abbrev pub step_8 : Execution
step_8 = event 1 (StoreOpened 1 3) ∷ step_7

abbrev pub step_9 : Execution
step_9 = event 1 (Install (FirstSlot 0 0) 3 0 4) ∷ step_8

abbrev pub frozen_2 : Execution
frozen_2 = event 1 (Freeze 2) ∷ step_9

abbrev pub step_10 : Execution
step_10 = event 1 (StoreHeader 1 header.Phase 0) ∷ frozen_2

abbrev pub step_11 : Execution
step_11 = event 1 (StoreHeader 1 header.Next 0) ∷ step_10

abbrev pub lanes_again : Execution
lanes_again = event 1 (StoreHeader 1 header.Lanes 1) ∷ step_11

abbrev pub first_cut_again : Execution
first_cut_again = event 1 (StoreHeader 1 (header.Cut 0) 5) ∷ lanes_again

abbrev pub cuts_again : Execution
cuts_again = event 1 (StoreHeader 1 (header.Cut 1) 0) ∷ first_cut_again

abbrev pub step_12 : Execution
step_12 = event 1 (NewGroup 1 5 greatest_key 1) ∷ cuts_again

-- ---- the keys, in two ranges ----

-- whether a key is in the low range, in the high one, and a key at all
abbrev pub IsSplit : Bool → Bool → Bool → Type 0
IsSplit true false true = Unit {0}
IsSplit false true true = Unit {0}
IsSplit false false false = Unit {0}
IsSplit _ _ _ = ⊥

-- by the four comparisons of a key with the ends of the ranges
pub split_cases : (x y z v : Bool) → x ≡ false →
    ((y ≡ false) × (z ≡ true) × (v ≡ false)) ⊎ ((y ≡ true) × (z ≡ false)) →
    IsSplit (cond x false (cond y false true)) (cond z false (cond v false true))
    (cond x false (cond v false true))
split_cases true y z v e h = not_so (sym e)
split_cases false false true false e h = tt
split_cases false true false false e h = tt
split_cases false true false true e h = tt
split_cases false false z v e h = ⊎_elim
    (λ (p : (false ≡ false) × (z ≡ true) × (v ≡ false)). low z v p.1 p.2)
    (λ (p : (false ≡ true) × (z ≡ false)). not_so p.0) h
  where
    low : (z v : Bool) → z ≡ true → v ≡ false →
        IsSplit true (cond z false (cond v false true)) (cond v false true)
    low true false e f = tt
    low false v e f = not_so e
    low true true e f = not_so (sym f)
split_cases false true true v e h = ⊎_elim
    (λ (p : (true ≡ false) × (true ≡ true) × (v ≡ false)). not_so (sym p.0))
    (λ (p : (true ≡ true) × (true ≡ false)). not_so (sym p.1)) h

-- each number is of one of the three kinds
pub split : (k : ℕ) → IsSplit (within 0 k 4) (within 5 k greatest_key) (within 0 k greatest_key)
split k = split_cases (nat_lt k 0) (nat_lt 4 k) (nat_lt k 5) (nat_lt greatest_key k)
    (le-ltb k 0 (omega arith)) (go (nat_lt 4 k) refl)
  where
    go : (y : Bool) → nat_lt 4 k ≡ y →
        ((nat_lt 4 k ≡ false) × (nat_lt k 5 ≡ true) × (nat_lt greatest_key k ≡ false))
        ⊎ ((nat_lt 4 k ≡ true) × (nat_lt k 5 ≡ false))
    go false e = let h : k ≤ 4 = ltb-false 4 k e in
        inl (e, lt-ltb k 5 (omega (arith, h)), le-ltb greatest_key k (omega (arith, h)))
    go true e = let h : 4 < k = ltb-true 4 k e in inr (e, le-ltb k 5 (omega (arith, h)))

-- the low range has just the keys up to 4
pub is_low : (k : ℕ) → k ≤ 4 → within 0 k 4 ≡ true
is_low k below = rw (le-ltb k 0 (omega arith), le-ltb 4 k below) refl

pub is_high : (k : ℕ) → 4 < k → within 0 k 4 ≡ false
is_high k above = rw (le-ltb k 0 (omega arith), lt-ltb 4 k above) refl

-- ---- groups and new groups of a key in these ranges ----

-- the new group of a key in these ranges, and its group: after the first rebuild, then after the
-- second, and the new group once the name is used again
abbrev pub new_1 : Bool → Bool → Option ℕ
new_1 a b = cond b (Some 2) (unless_named 2 (cond a (Some 1) None))

abbrev pub group_1 : Bool → Bool → Bool → Bool → ℕ
group_1 a b w v = cond w (or_else (new_1 a b) (cond v 0 4)) (cond v 0 4)

abbrev pub new_2 : Bool → Bool → Option ℕ
new_2 a b = cond a (Some 3) (unless_named 3 (new_1 a b))

abbrev pub group_2 : Bool → Bool → Bool → Bool → ℕ
group_2 a b w v = cond a (or_else (new_2 a b) (group_1 a b w v)) (group_1 a b w v)

abbrev pub new_3 : Bool → Bool → Option ℕ
new_3 a b = cond b (Some 1) (unless_named 1 (new_2 a b))

-- a statement of a key's ranges, and of whether it is a key by one comparison, from the three kinds of
-- number
pub by_range : (P : Bool → Bool → Bool → Bool → Type 0) → P true false true true →
    P false true true true → P false false false false → (a b w : Bool) → IsSplit a b w → P a b w w
by_range P low high none true false true s = low
by_range P low high none false true true s = high
by_range P low high none false false false s = none
by_range P low high none true true true s = absurd s
by_range P low high none true true false s = absurd s
by_range P low high none true false false s = absurd s
by_range P low high none false true false s = absurd s
by_range P low high none false false true s = absurd s

-- so of every number
pub at_key : (P : Bool → Bool → Bool → Bool → Type 0) → P true false true true →
    P false true true true → P false false false false → (k : ℕ) →
    P (within 0 k 4) (within 5 k greatest_key) (within 0 k greatest_key) (nat_le k greatest_key)
at_key P low high none k = subst
    (λ (v : Bool). P (within 0 k 4) (within 5 k greatest_key) (within 0 k greatest_key) v)
    (sym (is_key k))
    (by_range P low high none (within 0 k 4) (within 5 k greatest_key) (within 0 k greatest_key)
    (split k))

-- which groups answer for no key: at first, after the first install, and after the second
pub not_1_in_0 : (k : ℕ) → group_of o k step_1 ≢ 1
not_1_in_0 = at_key (λ a b w v. Same (cond v 0 4) 1 → ⊥) (λ e. omega (arith, e))
    (λ e. omega (arith, e)) (λ e. omega (arith, e))

pub not_2_in_0 : (k : ℕ) → group_of o k step_1 ≢ 2
not_2_in_0 = at_key (λ a b w v. Same (cond v 0 4) 2 → ⊥) (λ e. omega (arith, e))
    (λ e. omega (arith, e)) (λ e. omega (arith, e))

pub not_0_in_1 : (k : ℕ) → group_of o k step_5 ≢ 0
not_0_in_1 = at_key (λ a b w v. Same (group_1 a b w v) 0 → ⊥) (λ e. omega (arith, e))
    (λ e. omega (arith, e)) (λ e. omega (arith, e))

pub not_3_in_1 : (k : ℕ) → group_of o k step_5 ≢ 3
not_3_in_1 = at_key (λ a b w v. Same (group_1 a b w v) 3 → ⊥) (λ e. omega (arith, e))
    (λ e. omega (arith, e)) (λ e. omega (arith, e))

pub not_0_in_2 : (k : ℕ) → group_of o k step_9 ≢ 0
not_0_in_2 = at_key (λ a b w v. Same (group_2 a b w v) 0 → ⊥) (λ e. omega (arith, e))
    (λ e. omega (arith, e)) (λ e. omega (arith, e))

pub not_1_in_2 : (k : ℕ) → group_of o k step_9 ≢ 1
not_1_in_2 = at_key (λ a b w v. Same (group_2 a b w v) 1 → ⊥) (λ e. omega (arith, e))
    (λ e. omega (arith, e)) (λ e. omega (arith, e))

pub not_1_after : (k : ℕ) → successor k step_9 ≢ Some 1
not_1_after = at_key (λ a b w v. SameOption (new_2 a b) (Some 1) → ⊥)
    (λ e. let bad : Same 3 1 = some_is e in omega (arith, bad))
    (λ e. let bad : Same 2 1 = some_is e in omega (arith, bad)) (λ e. none_some e)

-- ---- what was opened, and to what ----

pub none_1 : (g f : ℕ) → phase g step_1 ≢ Opened f
none_1 g f e = open_not (opened_back 0 g Frozen Open f frozen_not e).1

pub none_2 : (g f : ℕ) → phase g step_2 ≢ Opened f
none_2 g f e = none_1 g f (begun_back 1 g (phase g step_1) f e).2

pub none_3 : (g f : ℕ) → phase g step_3 ≢ Opened f
none_3 g f e = none_2 g f (begun_back 2 g (phase g step_2) f e).2

pub opened_4 : (g f : ℕ) → phase g step_4 ≡ Opened f → Same 0 g × Same 1 f
opened_4 g f e = dite (ℕ_discrete 0 g)
    (λ (z : Same 0 g). (z, opened_is (sym (choice-same 0 g (Opened 1) (phase g step_3) z) ∙ e)))
    (λ (n : Same 0 g → ⊥). absurd (none_3 g f
    (sym (choice-other 0 g (Opened 1) (phase g step_3) n) ∙ e)))

pub opened_6 : (g f : ℕ) → phase g step_6 ≡ Opened f → Same 0 g × Same 1 f
opened_6 g f e = opened_4 g f (opened_back 1 g Frozen (phase g step_5) f frozen_not e).1

pub opened_7 : (g f : ℕ) → phase g step_7 ≡ Opened f → Same 0 g × Same 1 f
opened_7 g f e = opened_6 g f (begun_back 3 g (phase g step_6) f e).2

pub opened_8 : (g f : ℕ) → phase g step_8 ≡ Opened f → (Same 1 g × Same 3 f) ⊎ (Same 0 g × Same 1 f)
opened_8 g f e = dite (ℕ_discrete 1 g)
    (λ (z : Same 1 g). inl (z, opened_is (sym (choice-same 1 g (Opened 3) (phase g step_7) z) ∙ e)))
    (λ (n : Same 1 g → ⊥).
    inr (opened_7 g f (sym (choice-other 1 g (Opened 3) (phase g step_7) n) ∙ e)))

pub opened_11 : (g f : ℕ) → phase g step_11 ≡ Opened f → (Same 1 g × Same 3 f) ⊎ (Same 0 g × Same 1 f)
opened_11 g f e = opened_8 g f (opened_back 2 g Frozen (phase g step_9) f frozen_not e).1

pub none_12 : (g f : ℕ) → phase g step_12 ≢ Opened f
none_12 g f e = let w = begun_back 1 g (phase g step_11) f e in
    ⊎_elim (λ (z : Same 1 g × Same 3 f). w.0 z.0) (λ (z : Same 0 g × Same 1 f). w.1 (sym z.1))
    (opened_11 g f w.2)

-- ---- nobody else is there ----

pub caller_is : (c : ℕ) → IsCaller o c → Same 0 c
caller_is c is = let h : c < 1 = is in omega (arith, h)

pub is_keeper : IsHand o 1
is_keeper = let h : 1 < 2 = omega arith in h

pub no_insert : (t : Execution) (g : ℕ) → saw_open 0 g t ≡ false →
    ((f : ℕ) → saw_opened 0 f t ≡ false) → (c : ℕ) → IsCaller o c → MayInsertInto c g t → ⊥
no_insert t g shut none = caller_inserts_not o caller_is t g shut none

pub first_slot_used : IsInUse 2 0 0
first_slot_used = (1, refl, omega arith, omega arith)

-- ---- what the first slots name: at first, after the first install, and after the second ----

pub named_0 : (g : ℕ) → 1 ≤ g → g < 4 → (p : ℕ) → Same (p * 4 + 0) g → ⊥
named_0 g some exists p e = omega (arith, e)

pub named_1 : (g : ℕ) → 1 ≢ g → g < 4 → (p : ℕ) → Same (first_slot 0 p 1 (p * 4 + 0)) g → ⊥
named_1 g other exists p e = ⊎_elim
    (λ (z : Same 0 p × Same 1 g). other z.1)
    (λ (z : (0 ≢ p) × Same (p * 4 + 0) g). let n = z.0 in let is = z.1 in omega (arith, n, is))
    (first_slot_is 0 p 1 (p * 4 + 0) g e)

pub named_3 : (g : ℕ) → 3 ≢ g → g < 4 → (p : ℕ) →
    Same (first_slot 0 p 3 (first_slot 0 p 1 (p * 4 + 0))) g → ⊥
named_3 g other exists p e = ⊎_elim
    (λ (z : Same 0 p × Same 3 g). other z.1)
    (λ (z : (0 ≢ p) × Same (first_slot 0 p 1 (p * 4 + 0)) g). ⊎_elim
    (λ (y : Same 0 p × Same 1 g). z.0 y.0)
    (λ (y : (0 ≢ p) × Same (p * 4 + 0) g). let n = y.0 in let is = y.1 in omega (arith, n, is))
    (first_slot_is 0 p 1 (p * 4 + 0) g z.1))
    (first_slot_is 0 p 3 (first_slot 0 p 1 (p * 4 + 0)) g e)
