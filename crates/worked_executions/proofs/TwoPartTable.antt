-- A table with two parts, the events of a rebuild in each one by one, and its keys in two ranges.
use Rattle.std.proofs.Common.{◌≡◌, ◌≢◌, ⊎_elim, ℕ, ◌+◌, ◌*◌, ◌<◌, ◌≤◌, Option, Some, None}
use Rattle.std.proofs.Common.{Bool, true, false, [], ◌∷◌, cond, refl, sym, subst, arith}
use Rattle.std.proofs.lemmas.Bool.{cases_lt, le-leb, lt-leb, le-ltb, lt-ltb}
use Rattle.std.specs.Prelude.{nat_le, zero, suc}
use Rattle.std.specs.List.{All}
use Rattle.std.specs.List.Sorted.{IsStrictlyIncreasing}
use Rattle.index_machine.proofs.Options.{none_some, some_is}
use Rattle.word_layout.specs.declared.headers.HeaderWord.TheVariants as header
use Rattle.word_layout.specs.declared.layout.Layout.{Layout}
use Rattle.word_layout.specs.declared.places.Part.TheVariants.{Key, Value, Link}
use Rattle.word_layout.specs.Parts.{AreBounds, greatest_key}
use Rattle.index_machine.specs.declared.events.Action.TheVariants.{Enter, Leave, LoadFree}
use Rattle.index_machine.specs.declared.events.Action.TheVariants.{LoadFreeLink, PopFree, StorePrivate}
use Rattle.index_machine.specs.declared.events.Action.TheVariants.{LoadRoot, LoadSlotGroup}
use Rattle.index_machine.specs.declared.events.Action.TheVariants.{LoadHeader, LoadHead}
use Rattle.index_machine.specs.declared.events.Action.TheVariants.{Freeze, NewGroup, StoreHeader}
use Rattle.index_machine.specs.declared.opening.Opening.{Opening}
use Rattle.index_machine.specs.Execution.{Execution, event}
use Rattle.index_machine.specs.Groups.{unless_named}
use Rattle.index_machine.specs.KeyRanges.{group_of, or_else, successor}
use Rattle.index_machine.specs.Openings.{within}
use Rattle.index_machine.specs.Sections.{IsCaller, IsHand}
use Rattle.worked_executions.proofs.Equations.{Same, SameOption}
use Rattle.worked_executions.specs.TwoParts.{two_part_limits, both_frozen, first_opened}
use Rattle.worked_executions.specs.TwoParts.{second_begun, first_installed}
use Rattle.worked_executions.specs.TwoParts.{second_opened}

-- ---- the table ----

pub one_bound : AreBounds (10 ∷ [])
one_bound = record { few = omega arith; rising = rises; keys = small }
  where
    rises : IsStrictlyIncreasing (0 ∷ 10 ∷ [])
    rises zero h = omega arith
    rises (suc k) h = absurd (omega (arith, h))

    small : All (λ (bound : ℕ). bound ≤ greatest_key) (10 ∷ [])
    small zero d h = omega arith
    small (suc k) d h = absurd (omega (arith, h))

abbrev pub two_part_layout : Layout
two_part_layout =
    record {
      limits = two_part_limits;
      parts = 10 ∷ [];
      group_words = 56;
      slots_from = 4;
      groups_from = 12;
      rows_from = 236;
      kept = record {
        least_callers = omega arith;
        most_callers = omega arith;
        least_records = omega arith;
        most_records = omega arith;
        least_groups = omega arith;
        most_groups = omega arith;
        least_group_size = omega arith;
        most_group_size = omega arith;
        least_slots = omega arith;
        most_slots = omega arith;
        least_due = omega arith;
        most_due = omega arith;
        least_help = omega arith;
        most_help = omega arith;
        least_chain = omega arith;
        most_chain = omega arith;
        most_first_version = omega arith;
        most_words = omega arith;
      };
      cut = one_bound;
      group_width = refl;
      slots_behind_epochs = refl;
      groups_behind_slots = refl;
      rows_behind_groups = refl;
    }

abbrev pub o : Opening
o =
    record {
      layout = two_part_layout;
      rows = [];
      rising = tt;
      fits = λ part is_part. omega arith;
      keys = tt;
    }

pub caller_is : (c : ℕ) → IsCaller o c → Same 0 c
caller_is c is = let h : c < 1 = is in omega (arith, h)

pub is_caller : IsCaller o 0
is_caller = let h : 0 < 1 = omega arith in h

pub is_hand0 : IsHand o 0
is_hand0 = let h : 0 < 3 = omega arith in h

pub is_hand1 : IsHand o 1
is_hand1 = let h : 1 < 3 = omega arith in h

pub is_hand2 : IsHand o 2
is_hand2 = let h : 2 < 3 = omega arith in h

-- ---- the execution, event by event ----

abbrev pub frozen_0 : Execution
frozen_0 = event 1 (Freeze 0) ∷ []

abbrev pub begun_1 : Execution
begun_1 = event 1 (NewGroup 1 0 9 1) ∷ both_frozen

abbrev pub cut_3 : Execution
cut_3 = event 2 (StoreHeader 3 (header.Cut 0) 10) ∷ begun_1

abbrev pub lanes_3 : Execution
lanes_3 = event 2 (StoreHeader 3 header.Lanes 1) ∷ cut_3

abbrev pub inside_1 : Execution
inside_1 = event 0 (Enter 1) ∷ first_opened

abbrev pub inside_2 : Execution
inside_2 = event 0 (LoadRoot 0 2) ∷ inside_1

abbrev pub inside_3 : Execution
inside_3 = event 0 (LoadSlotGroup 0 0 0 0) ∷ inside_2

abbrev pub linking_1 : Execution
linking_1 = event 0 (LoadHeader 1 header.Lanes 1) ∷ second_begun

abbrev pub linking_2 : Execution
linking_2 = event 0 (LoadHead 1 0 0) ∷ linking_1

abbrev pub linking_3 : Execution
linking_3 = event 0 (LoadFree 236) ∷ linking_2

abbrev pub linking_4 : Execution
linking_4 = event 0 (LoadFreeLink 236 240) ∷ linking_3

abbrev pub linking_5 : Execution
linking_5 = event 0 (PopFree 236 240) ∷ linking_4

abbrev pub linking_8 : Execution
linking_8 =
    event 0 (StorePrivate 236 Link 0)
    ∷ event 0 (StorePrivate 236 Value 7)
    ∷ event 0 (StorePrivate 236 Key 5)
    ∷ linking_5

abbrev pub left : Execution
left = event 0 (Leave 2) ∷ second_opened

-- ---- the keys, in two ranges ----

-- a statement of the ranges of a key: whether it is of part 0, whether it is of part 1, whether it is a key at all,
-- and whether it is at or behind the bound
abbrev pub OfRanges : Type 1
OfRanges = Bool → Bool → Bool → Bool → Type 0

by_tests : (P : OfRanges) (a b v u a' b' v' u' : Bool) → a ≡ a' → b ≡ b' → v ≡ v' → u ≡ u' →
    P a' b' v' u' → P a b v u
by_tests P a b v u a' b' v' u' ea eb ev eu p =
    subst (λ (x : Bool). P x b v u) (sym ea)
    (subst (λ (x : Bool). P a' x v u) (sym eb)
    (subst (λ (x : Bool). P a' b' x u) (sym ev)
    (subst (λ (x : Bool). P a' b' v' x) (sym eu) p)))

-- each number is a key of part 0, one of part 1, or none
pub at_key : (P : OfRanges) → P true false true false → P false true true true →
    P false false false true → (k : ℕ) →
    P (within 0 k 9) (within 10 k greatest_key) (nat_le k greatest_key) (nat_le 10 k)
at_key P low high none k = ⊎_elim
    (λ (small : k < 10). by_tests P (within 0 k 9) (within 10 k greatest_key) (nat_le k greatest_key)
    (nat_le 10 k) true false true false
    (rw (le-ltb k 0 (omega arith), le-ltb 9 k (omega (arith, small))) refl)
    (rw (lt-ltb k 10 small) refl) (le-leb k greatest_key (omega (arith, small)))
    (lt-leb 10 k small) low)
    (λ (large : 10 ≤ k). ⊎_elim
    (λ (more : greatest_key < k). by_tests P (within 0 k 9) (within 10 k greatest_key)
    (nat_le k greatest_key) (nat_le 10 k) false false false true
    (rw (le-ltb k 0 (omega arith), lt-ltb 9 k (omega (arith, large))) refl)
    (rw (le-ltb k 10 large, lt-ltb greatest_key k more) refl) (lt-leb k greatest_key more)
    (le-leb 10 k large) none)
    (λ (less : k ≤ greatest_key). by_tests P (within 0 k 9) (within 10 k greatest_key)
    (nat_le k greatest_key) (nat_le 10 k) false true true true
    (rw (le-ltb k 0 (omega arith), lt-ltb 9 k (omega (arith, large))) refl)
    (rw (le-ltb k 10 large, le-ltb greatest_key k less) refl) (le-leb k greatest_key less)
    (le-leb 10 k large) high)
    (cases_lt greatest_key k))
    (cases_lt k 10)

-- the group of a key, and its new group, by its ranges: at first, with group 1 begun, with group 3 begun too, after
-- the one install, and after the other
abbrev pub group_0 : Bool → Bool → ℕ
group_0 v u = cond v ((0 + cond u 1 0) * 2 + 0) 4

abbrev pub new_1 : Bool → Option ℕ
new_1 a = cond a (Some 1) None

abbrev pub new_3 : Bool → Bool → Option ℕ
new_3 a b = cond b (Some 3) (unless_named 3 (new_1 a))

abbrev pub group_1 : Bool → Bool → Bool → Bool → ℕ
group_1 a b v u = cond a (or_else (new_3 a b) (group_0 v u)) (group_0 v u)

abbrev pub group_3 : Bool → Bool → Bool → Bool → ℕ
group_3 a b v u = cond b (or_else (new_3 a b) (group_1 a b v u)) (group_1 a b v u)

-- a group of a key at first, and after the first install, is none of these
pub not_1_in_0 : (k : ℕ) → group_of o k frozen_0 ≢ 1
not_1_in_0 = at_key (λ a b v u. Same (group_0 v u) 1 → ⊥) (λ e. omega (arith, e))
    (λ e. omega (arith, e)) (λ e. omega (arith, e))

pub not_3_in_0 : (k : ℕ) → group_of o k frozen_0 ≢ 3
not_3_in_0 = at_key (λ a b v u. Same (group_0 v u) 3 → ⊥) (λ e. omega (arith, e))
    (λ e. omega (arith, e)) (λ e. omega (arith, e))

pub not_3_in_1 : (k : ℕ) → group_of o k first_installed ≢ 3
not_3_in_1 = at_key (λ a b v u. Same (group_1 a b v u) 3 → ⊥) (λ e. omega (arith, e))
    (λ e. omega (arith, e)) (λ e. omega (arith, e))

pub not_3_yet : (k : ℕ) → successor k begun_1 ≢ Some 3
not_3_yet = at_key (λ a b v u. SameOption (new_1 a) (Some 3) → ⊥) go (λ e. none_some e)
    (λ e. none_some e)
  where
    go : SameOption (Some 1) (Some 3) → ⊥
    go e = let bad : Same 1 3 = some_is e in omega (arith, bad)
