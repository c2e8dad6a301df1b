-- What the table of rules says of the numbers, and the first rule that is broken.
use Rattle.std.proofs.Common.{◌≡◌, ℕ, ◌+◌, ◌-◌, ◌≤◌, Bool, true, false, not, List, [], ◌∷◌, length, refl, arith, ◌&&◌}
use Rattle.std.specs.Prelude.{Some, None, nat_le, position, zero, suc, slice_index_or}
use Rattle.std.specs.List.{list_all, position_or_len}
use Rattle.std.proofs.lemmas.Bool.{leb-true, le-leb, not-true, not-false}
use Rattle.std.proofs.lemmas.Bool.Decides.{nat_tests}
use Rattle.std.proofs.lemmas.List.Quantifiers.{position-Some}
use Rattle.word_layout.specs.Shape.{Shape}
use Rattle.word_layout.specs.Limits.{is_within, rules_in, word_count, IsFirstBrokenIn, KeepsRulesIn}

-- both of two tests passed
both : (x y : Bool) → (x && y) ≡ true → (x ≡ true) × (y ≡ true)
both true y h = (refl, h)
both false y h = absurd cc

-- no index was found where a test failed, so all passed
all_true : (tests : List Bool) → length tests ≤ position_or_len (λ test. not test) tests →
    list_all (λ test. test) tests ≡ true
all_true [] h = refl
all_true (true ∷ tests) h = all_true tests (omega arith)
all_true (false ∷ tests) h = absurd (omega arith)

position-None : (tests : List Bool) → position (λ test. not test) tests ≡ None →
    list_all (λ test. test) tests ≡ true
position-None tests h =
    all_true tests (grind (arith, nat_tests, h))

-- the first broken rule, by its number
pub first_broken : (s : Shape) (i : ℕ) → position (λ test. not test) (rules_in s) ≡ Some i →
    IsFirstBrokenIn s (i + 1)
first_broken s i h =
    let at = position-Some (λ test. not test) (rules_in s) i true h in
    let before = position-Some (λ test. not test) (rules_in s) i false h in
    let same : i + 1 - 1 ≡ i = omega arith in
    record {
      counted = omega arith;
      broken = rw same (not-true _ at.1);
      kept_before = rw same (λ k below. not-false _ (before.2 k below));
    }

-- a value within its bounds
within-true : (least value most : ℕ) → is_within least value most ≡ true →
    (least ≤ value) × (value ≤ most)
within-true least value most h =
    let parts = both (nat_le least value) (nat_le value most) h in
    (leb-true least value parts.0, leb-true value most parts.1)

-- no rule is broken, so each number is within its bounds
pub all_kept : (s : Shape) → position (λ test. not test) (rules_in s) ≡ None → KeepsRulesIn s
all_kept s h =
    let callers = both _ _ (position-None (rules_in s) h) in
    let records = both _ _ callers.1 in
    let groups = both _ _ records.1 in
    let group_size = both _ _ groups.1 in
    let slots = both _ _ group_size.1 in
    let due = both _ _ slots.1 in
    let help = both _ _ due.1 in
    let chain = both _ _ help.1 in
    let first_version = both _ _ chain.1 in
    let words = both _ _ first_version.1 in
    record {
      least_callers = (within-true 1 s.limits.callers 64 callers.0).0;
      most_callers = (within-true 1 s.limits.callers 64 callers.0).1;
      least_records = (within-true 2 s.limits.records 16777216 records.0).0;
      most_records = (within-true 2 s.limits.records 16777216 records.0).1;
      least_groups = (within-true 2 s.limits.groups 65536 groups.0).0;
      most_groups = (within-true 2 s.limits.groups 65536 groups.0).1;
      least_group_size = (within-true 8 s.limits.group_size 1024 group_size.0).0;
      most_group_size = (within-true 8 s.limits.group_size 1024 group_size.0).1;
      least_slots = (within-true 1 s.limits.slots 4096 slots.0).0;
      most_slots = (within-true 1 s.limits.slots 4096 slots.0).1;
      least_due = (within-true 1 s.limits.due s.limits.group_size due.0).0;
      most_due = (within-true 1 s.limits.due s.limits.group_size due.0).1;
      least_help = (within-true 1 s.limits.help 1048576 help.0).0;
      most_help = (within-true 1 s.limits.help 1048576 help.0).1;
      least_chain = (within-true 1 s.limits.chain 4096 chain.0).0;
      most_chain = (within-true 1 s.limits.chain 4096 chain.0).1;
      most_first_version = leb-true s.limits.first_version 1152921504606846975 first_version.0;
      most_words = leb-true (word_count s) 268435456 words.0;
    }

true_within : (least value most : ℕ) → least ≤ value → value ≤ most → is_within least value most ≡ true
true_within least value most low high = rw (le-leb least value low, le-leb value most high) refl

-- where all rules are kept, none is broken
pub none_broken : (s : Shape) → KeepsRulesIn s → (i : ℕ) → slice_index_or (rules_in s) i true ≡ true
none_broken s kept zero =
    true_within 1 s.limits.callers 64 kept.least_callers kept.most_callers
none_broken s kept (suc zero) =
    true_within 2 s.limits.records 16777216 kept.least_records kept.most_records
none_broken s kept (suc (suc zero)) =
    true_within 2 s.limits.groups 65536 kept.least_groups kept.most_groups
none_broken s kept (suc (suc (suc zero))) =
    true_within 8 s.limits.group_size 1024 kept.least_group_size kept.most_group_size
none_broken s kept (suc (suc (suc (suc zero)))) =
    true_within 1 s.limits.slots 4096 kept.least_slots kept.most_slots
none_broken s kept (suc (suc (suc (suc (suc zero))))) =
    true_within 1 s.limits.due s.limits.group_size kept.least_due kept.most_due
none_broken s kept (suc (suc (suc (suc (suc (suc zero)))))) =
    true_within 1 s.limits.help 1048576 kept.least_help kept.most_help
none_broken s kept (suc (suc (suc (suc (suc (suc (suc zero))))))) =
    true_within 1 s.limits.chain 4096 kept.least_chain kept.most_chain
none_broken s kept (suc (suc (suc (suc (suc (suc (suc (suc zero)))))))) =
    le-leb s.limits.first_version 1152921504606846975 kept.most_first_version
none_broken s kept (suc (suc (suc (suc (suc (suc (suc (suc (suc zero))))))))) = le-leb (word_count s) 268435456 kept.most_words
none_broken s kept (suc (suc (suc (suc (suc (suc (suc (suc (suc (suc _)))))))))) = refl
