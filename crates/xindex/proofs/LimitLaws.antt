-- A rule that limits break first, and rules that they keep.
use Rattle.std.proofs.Common.{◌≡◌, ◌-◌, ◌≤◌, ℕ, Bool, true, false, List, [], ◌∷◌, zero, suc, arith, inl, inr}
use Rattle.std.specs.Prelude.{slice_index_or}
use Rattle.std.specs.List.{list_all}
use Rattle.std.proofs.lemmas.Bool.{cases_order, le-leb}
use Rattle.std.proofs.lemmas.Bool.Decides.{nat_tests}
use Rattle.word_layout.specs.declared.limits.Limits.{Limits}
use Rattle.word_layout.specs.Limits.{IsFirstBroken, KeepsRules, is_within, rules_in, word_count}
use Rattle.word_layout.specs.Shape.{in_one_part}

-- a test cannot both pass and fail
clash : (tests : List Bool) (k : ℕ) → slice_index_or tests k true ≡ false → slice_index_or tests k false ≡ true → ⊥
clash [] k fails passes = cc
clash (test ∷ tests) zero fails passes = cc
clash (test ∷ tests) (suc k) fails passes = clash tests k fails passes

-- only one rule is broken first
pub one_first : (l : Limits) (one other : ℕ) → IsFirstBroken l one → IsFirstBroken l other → one ≡ other
one_first l one other first second = elim (cases_order one other) [
  | inl same ↦ same
  | inr order ↦ elim order [
    | inl below ↦ absurd (clash (rules_in (in_one_part l)) (one - 1) first.broken
        (second.kept_before (one - 1) (omega (arith, first.counted))))
    | inr above ↦ absurd (clash (rules_in (in_one_part l)) (other - 1) second.broken
        (first.kept_before (other - 1) (omega (arith, second.counted))))
  ]
]

-- a test that fails is among them, so not all pass
some_fails : (tests : List Bool) (k : ℕ) → slice_index_or tests k true ≡ false
    → list_all (λ test. test) tests ≡ true → ⊥
some_fails [] k fails all = cc
some_fails (false ∷ tests) k fails all = cc
some_fails (true ∷ tests) zero fails all = cc
some_fails (true ∷ tests) (suc k) fails all = some_fails tests k fails all

within : (least value most : ℕ) → least ≤ value → value ≤ most → is_within least value most ≡ true
within least value most low high = grind (arith, nat_tests)

-- limits that keep the rules break none
pub none_broken : (l : Limits) (number : ℕ) → KeepsRules l → IsFirstBroken l number → ⊥
none_broken l number kept first = some_fails (rules_in (in_one_part l)) (number - 1) first.broken (rw (
  within 1 l.callers 64 kept.least_callers kept.most_callers,
  within 2 l.records 16777216 kept.least_records kept.most_records,
  within 2 l.groups 65536 kept.least_groups kept.most_groups,
  within 8 l.group_size 1024 kept.least_group_size kept.most_group_size,
  within 1 l.slots 4096 kept.least_slots kept.most_slots,
  within 1 l.due l.group_size kept.least_due kept.most_due,
  within 1 l.help 1048576 kept.least_help kept.most_help,
  within 1 l.chain 4096 kept.least_chain kept.most_chain,
  le-leb l.first_version 1152921504606846975 kept.most_first_version,
  le-leb (word_count (in_one_part l)) 268435456 kept.most_words,
))
