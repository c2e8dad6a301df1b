-- Saturated limits keep the same rules, and break the same one first.
use Rattle.std.proofs.Common.{◌≡◌, ◌-◌, ◌<◌, ◌≤◌, ◌&&◌, ◌++◌, ℕ, Bool, true, false, List, [], ◌∷◌, zero, suc, ap, arith, refl, subst, sym}
use Rattle.std.specs.Prelude.{nat_le, slice_index_or}
use Rattle.std.specs.List.{list_all}
use Rattle.std.proofs.Math.Nat.{min-eq_left}
use Rattle.std.proofs.lemmas.Bool.Decides.{nat_tests}
use Rattle.command_line.specs.Asked.{SaturationKeepsRules, saturated, saturated_limits}
use Rattle.word_layout.specs.declared.limits.Limits.{Limits}
use Rattle.word_layout.specs.Limits.{IsFirstBroken, KeepsRules, is_within, rules_in, word_count}
use Rattle.word_layout.specs.Shape.{in_one_part}

-- all numbers fit their fields
record Fits32 (l : Limits) : Type 0 where
  callers : l.callers ≤ 4294967295
  records : l.records ≤ 4294967295
  groups : l.groups ≤ 4294967295
  group_size : l.group_size ≤ 4294967295
  slots : l.slots ≤ 4294967295
  due : l.due ≤ 4294967295
  help : l.help ≤ 4294967295
  chain : l.chain ≤ 4294967295

same_limits : (l : Limits) → Fits32 l → saturated_limits l ≡ l
same_limits l fits =
    let callers : saturated l.callers ≡ l.callers = min-eq_left fits.callers in
    let records : saturated l.records ≡ l.records = min-eq_left fits.records in
    let groups : saturated l.groups ≡ l.groups = min-eq_left fits.groups in
    let group_size : saturated l.group_size ≡ l.group_size = min-eq_left fits.group_size in
    let slots : saturated l.slots ≡ l.slots = min-eq_left fits.slots in
    let due : saturated l.due ≡ l.due = min-eq_left fits.due in
    let help : saturated l.help ≡ l.help = min-eq_left fits.help in
    let chain : saturated l.chain ≡ l.chain = min-eq_left fits.chain in
    rw (callers, records, groups, group_size, slots, due, help, chain)

-- a number that is below the greatest once it is saturated was so before
unsaturated : (number most : ℕ) → most < 4294967295 → saturated number ≤ most → number ≤ 4294967295
unsaturated number most below small = grind (arith, nat_tests)

kept_fits : (l : Limits) → KeepsRules l → Fits32 l
kept_fits l kept = record {
  callers = omega arith;
  records = omega arith;
  groups = omega arith;
  group_size = omega arith;
  slots = omega arith;
  due = omega arith;
  help = omega arith;
  chain = omega arith;
}

saturated_fits : (l : Limits) → KeepsRules (saturated_limits l) → Fits32 l
saturated_fits l kept = record {
  callers = unsaturated _ 64 (omega arith) kept.most_callers;
  records = unsaturated _ 16777216 (omega arith) kept.most_records;
  groups = unsaturated _ 65536 (omega arith) kept.most_groups;
  group_size = unsaturated _ 1024 (omega arith) kept.most_group_size;
  slots = unsaturated _ 4096 (omega arith) kept.most_slots;
  due = unsaturated _ 1024 (omega arith) (omega arith);
  help = unsaturated _ 1048576 (omega arith) kept.most_help;
  chain = unsaturated _ 4096 (omega arith) kept.most_chain;
}

-- a rule on one number is kept just where the saturated number keeps it
within-saturated : (least value most : ℕ) → least ≤ 4294967295 → most < 4294967295
    → is_within least (saturated value) most ≡ is_within least value most
within-saturated least value most small below = grind (arith, nat_tests)

-- the rules on one number each that come first
abbrev first_rules : Limits → List Bool
first_rules l =
    is_within 1 l.callers 64
    ∷ is_within 2 l.records 16777216
    ∷ is_within 2 l.groups 65536
    ∷ is_within 8 l.group_size 1024
    ∷ is_within 1 l.slots 4096
    ∷ []

-- the rules after them, of which two are on several numbers
abbrev later_rules : Limits → List Bool
later_rules l =
    is_within 1 l.due l.group_size
    ∷ is_within 1 l.help 1048576
    ∷ is_within 1 l.chain 4096
    ∷ nat_le l.first_version 1152921504606846975
    ∷ nat_le (word_count (in_one_part l)) 268435456
    ∷ []

first_same : (l : Limits) → first_rules (saturated_limits l) ≡ first_rules l
first_same l = rw (
  within-saturated 1 l.callers 64 (omega arith) (omega arith),
  within-saturated 2 l.records 16777216 (omega arith) (omega arith),
  within-saturated 2 l.groups 65536 (omega arith) (omega arith),
  within-saturated 8 l.group_size 1024 (omega arith) (omega arith),
  within-saturated 1 l.slots 4096 (omega arith) (omega arith),
)

both : (x y : Bool) → (x && y) ≡ true → (x ≡ true) × (y ≡ true)
both true y is = (refl, is)
both false y is = absurd cc

-- a number within its bounds is its own saturated number
within_same : (least value most : ℕ) → most < 4294967295 → is_within least value most ≡ true
    → saturated value ≡ value
within_same least value most below within = grind (arith, nat_tests)

within_most : (least value most : ℕ) → is_within least value most ≡ true → value ≤ most
within_most least value most within = grind (arith, nat_tests)

-- the first rules are kept
record KeepsFirst (l : Limits) : Type 0 where
  callers : is_within 1 l.callers 64 ≡ true
  records : is_within 2 l.records 16777216 ≡ true
  groups : is_within 2 l.groups 65536 ≡ true
  group_size : is_within 8 l.group_size 1024 ≡ true
  slots : is_within 1 l.slots 4096 ≡ true

keeps_first : (l : Limits) → list_all (λ test. test) (first_rules l) ≡ true → KeepsFirst l
keeps_first l kept =
    let callers = both _ _ kept in
    let records = both _ _ callers.1 in
    let groups = both _ _ records.1 in
    let group_size = both _ _ groups.1 in
    let slots = both _ _ group_size.1 in
    record {
      callers = callers.0;
      records = records.0;
      groups = groups.0;
      group_size = group_size.0;
      slots = slots.0;
    }

-- where the first rules are kept the later ones are the same
later_same : (l : Limits) → KeepsFirst l → later_rules (saturated_limits l) ≡ later_rules l
later_same l kept =
    let most = within_most 8 l.group_size 1024 kept.group_size in
    let callers : saturated l.callers ≡ l.callers = within_same 1 _ 64 (omega arith) kept.callers in
    let records : saturated l.records ≡ l.records = within_same 2 _ 16777216 (omega arith) kept.records in
    let groups : saturated l.groups ≡ l.groups = within_same 2 _ 65536 (omega arith) kept.groups in
    let group_size : saturated l.group_size ≡ l.group_size = within_same 8 _ 1024 (omega arith) kept.group_size in
    let slots : saturated l.slots ≡ l.slots = within_same 1 _ 4096 (omega arith) kept.slots in
    rw (
      callers,
      records,
      groups,
      group_size,
      slots,
      within-saturated 1 l.due l.group_size (omega arith) (omega arith),
      within-saturated 1 l.help 1048576 (omega arith) (omega arith),
      within-saturated 1 l.chain 4096 (omega arith) (omega arith),
    )

-- the test at a place fails, and those before it pass
record FailsFirst (tests : List Bool) (i : ℕ) : Type 0 where
  fails : slice_index_or tests i true ≡ false
  before : (k : ℕ) → k < i → slice_index_or tests k false ≡ true

-- one more test that passes before the others
before_more : (tests : List Bool) (i : ℕ) → ((k : ℕ) → k < i → slice_index_or tests k false ≡ true)
    → (k : ℕ) → k < suc i → slice_index_or (true ∷ tests) k false ≡ true
before_more tests i before zero below = refl
before_more tests i before (suc k) below = before k (omega arith)

-- tests after a failed one do not count
fails_first : (front rest other : List Bool) → (list_all (λ test. test) front ≡ true → rest ≡ other)
    → (i : ℕ) → FailsFirst (front ++ rest) i → FailsFirst (front ++ other) i
fails_first [] rest other same i first = subst (λ (tests : List Bool). FailsFirst tests i) (same refl) first
fails_first (true ∷ front) rest other same zero first = absurd cc
fails_first (true ∷ front) rest other same (suc i) first =
    let shorter = fails_first front rest other same i (record {
      fails = first.fails;
      before = λ k below. first.before (suc k) (omega arith);
    }) in
    record {
      fails = shorter.fails;
      before = before_more (front ++ other) i shorter.before;
    }
fails_first (false ∷ front) rest other same zero first = record { fails = refl; before = λ k below. absurd (omega arith) }
fails_first (false ∷ front) rest other same (suc i) first = let passed = first.before 0 (omega arith) in absurd cc

first_to : (l : Limits) (number : ℕ) → IsFirstBroken l number → FailsFirst (rules_in (in_one_part l)) (number - 1)
first_to l number first = record { fails = first.broken; before = first.kept_before }

first_from : (l : Limits) (number : ℕ) → 1 ≤ number → FailsFirst (rules_in (in_one_part l)) (number - 1) → IsFirstBroken l number
first_from l number counted first = record { counted = counted; broken = first.fails; kept_before = first.before }

-- the rules of saturated limits, with the first ones as they are
split_rules : (l : Limits) →
    rules_in (in_one_part (saturated_limits l)) ≡ first_rules l ++ later_rules (saturated_limits l)
split_rules l = ap (λ (front : List Bool). front ++ later_rules (saturated_limits l)) (first_same l)

saturated_broken : (l : Limits) (number : ℕ) → IsFirstBroken l number → IsFirstBroken (saturated_limits l) number
saturated_broken l number first =
    let other = fails_first (first_rules l) (later_rules l) (later_rules (saturated_limits l))
    (λ kept. sym (later_same l (keeps_first l kept))) (number - 1) (first_to l number first) in
    first_from (saturated_limits l) number first.counted
    (subst (λ (tests : List Bool). FailsFirst tests (number - 1)) (sym (split_rules l)) other)

unsaturated_broken : (l : Limits) (number : ℕ) → IsFirstBroken (saturated_limits l) number → IsFirstBroken l number
unsaturated_broken l number first =
    let split = subst (λ (tests : List Bool). FailsFirst tests (number - 1)) (split_rules l)
    (first_to (saturated_limits l) number first) in
    first_from l number first.counted
    (fails_first (first_rules l) (later_rules (saturated_limits l)) (later_rules l)
    (λ kept. later_same l (keeps_first l kept)) (number - 1) split)

pub saturation : SaturationKeepsRules
saturation = record {
  kept = λ l. (
    λ kept. subst KeepsRules (sym (same_limits l (kept_fits l kept))) kept,
    λ kept. subst KeepsRules (same_limits l (saturated_fits l kept)) kept,
  );
  broken = λ l number. (saturated_broken l number, unsaturated_broken l number);
}
