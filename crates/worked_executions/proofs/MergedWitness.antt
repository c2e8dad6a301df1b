-- The keeper merges group 0 into group 1, installs this and copies the record.
use Rattle.std.proofs.Common.{◌≡◌, ◌≢◌, ℕ, ◌+◌, ◌*◌, ◌⊎◌, inl, inr, ⊎_elim, Some}
use Rattle.std.proofs.Common.{None, Bool, true, false, [], ◌∷◌, cond, refl, sym, ap, ◌∙◌, subst}
use Rattle.std.proofs.Common.{arith}
use Rattle.std.specs.Prelude.{◌==◌, nat_le}
use mathlib.Core.Logic.{dite}
use native.Mathlib.Decide.{ℕ_discrete}
use Rattle.index_machine.proofs.Executions.{choice-other}
use Rattle.index_machine.proofs.Options.{none_some, some_is}
use Rattle.index_machine.specs.Conditions.{Valid}
use Rattle.index_machine.specs.Execution.{Execution}
use Rattle.index_machine.specs.Forms.{Redirect}
use Rattle.index_machine.specs.Groups.{name_used_again, phase}
use Rattle.word_layout.specs.Parts.{greatest_key}
use Rattle.index_machine.specs.Openings.{within}
use Rattle.index_machine.specs.Permissions.{IsGone, IsReplaced}
use Rattle.index_machine.specs.RebuildConditions.{IsSized, MayDirect}
use Rattle.index_machine.specs.Keepers.{IsArrayPlaceOf}
use Rattle.index_machine.specs.RebuildConditions.{MayFillHeader, MayInstall, MayRedirect}
use Rattle.index_machine.specs.Rows.{InArray, InBuffer, Unused, role}
use Rattle.index_machine.specs.declared.events.InstallWord.TheVariants.{FirstSlot}
use Rattle.line_window.specs.Line.{guess_between}
use Rattle.machine_barriers.proofs.Gains.{test_is}
use Rattle.word_layout.specs.declared.headers.HeaderWord.TheVariants as header
use Rattle.word_layout.specs.declared.phase.Phase.TheVariants.{Frozen, Open, Opened}
use Rattle.worked_executions.proofs.Equations.{Same, SameOption}
use Rattle.worked_executions.proofs.MeanwhileWitness.{valid_linked_15}
use Rattle.worked_executions.proofs.OpenedWitness.{keys_new, keys_of_0, made_by_1, new_keys, new_unopened}
use Rattle.worked_executions.proofs.OneNewGroup.{IsMergedInto, IsOnlyNew, one_installs}
use Rattle.index_machine.specs.LivePlaces.{live_place}
use Rattle.std.proofs.lemmas.Bool.{le-leb}
use Rattle.worked_executions.proofs.PutWitness.{after_group, before_group, caller_is, first_slot_used}
use Rattle.worked_executions.proofs.PutWitness.{is_hand1}
use Rattle.worked_executions.proofs.OnePart.{in_whole, is_key}
use Rattle.worked_executions.proofs.OneCaller.{first_slot, first_slot_is, gone_if}
use Rattle.worked_executions.proofs.SmallForms.{linked_role}
use Rattle.worked_executions.proofs.SmallTable.{merged_1, merged_2, merged_3, o, rebuilt_1, rebuilt_3}
use Rattle.worked_executions.proofs.SmallTable.{rebuilt_5}

-- ---- merging and the install ----

new_place : IsArrayPlaceOf o 1 87
new_place = record {
  group_exists = omega arith;
  in_array = (omega arith, omega arith, refl);
}

no_array_old : (w u : Bool) (k : ℕ) → linked_role w u ≡ InArray 1 k → ⊥
no_array_old w true k e = cc
no_array_old true false k e = cc
no_array_old false false k e = cc

redirects_it : MayRedirect o merged_1 1 1 87 5 119
redirects_it = record {
  keeper = refl;
  in_array = new_place;
  unused = refl;
  unowned = λ j e. before_group (nat_le j greatest_key) e;
  is_open = refl;
  opened = (1, refl);
  alone = λ b e. no_array_old (119 == b) (123 == b) 5 e;
  belongs = refl;
  index = 0;
  at = refl;
  filled = λ i below. absurd (omega arith);
  source = inr refl;
  direct = λ q y e. cc;
  key_word = refl;
  value_word = refl;
}

-- the keys 5 and 9 have live places: the row of the old buffer, and that of the new one
live_old : (w u : Bool) (p : ℕ) →
    SameOption (cond u (Some 123) (cond w (Some 119) (cond w (Some 119) None))) (Some p) →
    (Same 119 p × (w ≡ true)) ⊎ (Same 123 p × (u ≡ true))
live_old w true p e = inr (some_is e, refl)
live_old true false p e = inl (some_is e, refl)
live_old false false p e = none_some e

sizes_it : MayFillHeader o merged_2 1 1 header.Size
sizes_it = record {
  keeper = refl;
  exists = omega arith;
  is_word = tt;
  unowned = λ k e. before_group (nat_le k greatest_key) e;
  stage = inr (refl, tt);
}

-- its array has the key 5 alone
sized_1 : IsSized o 1 merged_3
unfolding guess_between
sized_1 = record {
  keys = 5 ∷ [];
  array = (refl, λ k e. let bad : Unused ≡ InArray 1 k = e in cc);
  size = refl;
  error = refl;
}

only_1 : IsOnlyNew o merged_3 0 0 greatest_key 1
only_1 = record {
  made = refl;
  is_open = refl;
  pivot = refl;
  next = inl (refl, refl);
  only = made_by_1;
  of_keys = keys_new;
  keys = new_keys;
}

-- the group that is opened to rebuild 1
pub old_is_0 : (j : ℕ) → phase j merged_3 ≡ Opened 1 → Same 0 j
old_is_0 j at = dite (ℕ_discrete 0 j) (λ (z : Same 0 j). z)
    (λ (n : Same 0 j → ⊥). absurd (new_unopened (1 == j) (0 == j) 1
    (sym (choice-other 0 j (Opened 1) (cond (1 == j) Open
    (name_used_again 1 (cond (0 == j) Frozen Open))) n) ∙ at)))

-- the old row has its redirect in the new array, and the new row stands in the new buffer
merges_it : (k p : ℕ) → live_place o k merged_3 ≡ Some p → IsMergedInto o 1 k p merged_3
merges_it k p e = ⊎_elim
    (λ (at : Same 119 p × ((5 == k) ≡ true)). inr (
      87,
      0,
      ap (λ (y : ℕ). InArray 1 y) (test_is 5 k at.1),
      ap (λ (y : ℕ). Redirect y 0) at.0,
    ))
    (λ (at : Same 123 p × ((9 == k) ≡ true)).
    inl (subst (λ (y : ℕ). role o y merged_3 ≡ InBuffer 1 k) at.0
    (ap (λ (y : ℕ). InBuffer 1 y) (test_is 9 k at.1))))
    (live_old (5 == k) (9 == k) p e)

installs_it : MayInstall o merged_3 1 (FirstSlot 0 0) 1 0 greatest_key
installs_it = one_installs o merged_3 0 0 greatest_key 1 only_1 1 0 refl first_slot_used
    (in_whole 0 (omega arith)) (in_whole greatest_key (omega arith)) refl (omega arith) refl
    (λ h e. sym (old_is_0 h e))
    (λ k above below. ap (λ (v : Bool). cond v 0 2) (le-leb k greatest_key below)) keys_of_0 sized_1
    (λ k p above below e. merges_it k p e)

-- ---- after the install group 0 is gone ----

-- after the install the first slot of the part names group 1, and the parts behind it have other groups
pub other_slot : (p : ℕ) → Same (first_slot 0 p 1 (p * 2 + 0)) 0 → ⊥
other_slot p e = ⊎_elim
    (λ (z : Same 0 p × Same 1 0). let bad = z.1 in omega (arith, bad))
    (λ (z : (0 ≢ p) × Same (p * 2 + 0) 0). let n = z.0 in let is = z.1 in omega (arith, n, is))
    (first_slot_is 0 p 1 (p * 2 + 0) 0 e)

pub gone0_rebuilt_1 : IsGone o 0 rebuilt_1
gone0_rebuilt_1 = gone_if o caller_is rebuilt_1 0 (λ p. refl) (λ p w e. none_some e) other_slot refl
    (λ k e. after_group (within 0 k greatest_key) (nat_le k greatest_key) (is_key k) e)

gone0_rebuilt_3 : IsGone o 0 rebuilt_3
gone0_rebuilt_3 = gone_if o caller_is rebuilt_3 0 (λ p. refl) (λ p w e. none_some e) other_slot refl
    gone0_rebuilt_1.unowned

pub gone0_rebuilt_5 : IsGone o 0 rebuilt_5
gone0_rebuilt_5 = gone_if o caller_is rebuilt_5 0 (λ p. refl) (λ p w e. none_some e) other_slot refl
    gone0_rebuilt_1.unowned

pub replaced0 : (t : Execution) → IsGone o 0 t → ((j : ℕ) → phase j t ≡ Opened 1 → Same 0 j) →
    phase 0 t ≡ Opened 1 → IsReplaced o 0 t
replaced0 t gone old at = (1, at, λ j e. subst (λ (y : ℕ). IsGone o y t) (old j e) gone)

directs_it : MayDirect o rebuilt_3 1 87 119 5 false 0
directs_it = record {
  keeper = (1, 5, inl refl, refl);
  version = 1;
  value = 8;
  forwards = refl;
  holds = refl;
  here = refl;
  there = refl;
  old = (
    0,
    inr refl,
    gone0_rebuilt_3,
    replaced0 rebuilt_3 gone0_rebuilt_3 old_is_0 refl,
  );
  stored_word = refl;
}

pub valid_rebuilt_5 : Valid o rebuilt_5
valid_rebuilt_5 = (
  record {
    keeper = (0, 5, inr refl, refl);
    keyed = (5, refl);
    version = 1;
    removed = false;
    value = 8;
    copied =
        refl;
  },
  (
    directs_it,
    (
      record {
        keeper = (1, 5, inl refl, refl);
        keyed = (5, refl);
        place = 119;
        value = 0;
        forwards = refl;
        holds =
            (1, false, 8, 8, refl);
      },
      (
        record {
          keeper = (0, 5, inr refl, refl);
          unlocked = (1, false, 8, refl);
          old =
              (0, 5, inr refl, replaced0 rebuilt_1 gone0_rebuilt_1 old_is_0 refl);
          found_word = refl;
        },
        (
          installs_it,
          (
            sizes_it,
            (
              redirects_it,
              (
                record {
                  keeper = refl;
                  in_array = new_place;
                  unused = refl;
                  unowned = λ k e.
                      before_group (nat_le k greatest_key) e;
                },
                valid_linked_15,
                is_hand1,
              ),
              is_hand1,
            ),
            is_hand1,
          ),
          is_hand1,
        ),
        is_hand1,
      ),
      is_hand1,
    ),
    is_hand1,
  ),
  is_hand1,
)
