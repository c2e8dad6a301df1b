-- A rebuild whose name is used again is valid while another group of the old rebuild of this name
-- is still in the chain.
use Rattle.std.proofs.Common.{◌≡◌, ℕ, ◌≤◌, inl, inr, ⊎_elim, Some}
use Rattle.std.proofs.Common.{Bool, true, false, cond, refl, sym, ◌∙◌, subst}
use Rattle.std.specs.Prelude.{◌==◌}
use Rattle.std.proofs.Common.{arith}
use Rattle.worked_executions.proofs.Equations.{Same, SameOption}
use mathlib.Core.Logic.{dite}
use native.Mathlib.Decide.{ℕ_discrete}
use Rattle.index_machine.proofs.Executions.{choice-other}
use Rattle.index_machine.specs.Groups.{rebuild, unless_named}
use Rattle.index_machine.specs.KeyRanges.{group_of, successor}
use Rattle.word_layout.specs.Parts.{greatest_key}
use Rattle.index_machine.specs.Permissions.{IsGone}
use Rattle.index_machine.specs.RebuildConditions.{IsSettled, MayBegin}
use Rattle.index_machine.specs.RebuildConditions.{MayInstall, MayOpen}
use Rattle.index_machine.proofs.Ranges.{in_range, range_in}
use Rattle.index_machine.specs.declared.events.InstallWord.TheVariants.{FirstSlot}
use Rattle.worked_executions.specs.NameUsedAgain.{NamesAreUsedAgain}
use Rattle.index_machine.proofs.Options.{named_before, none_some, not_so, some_is}
use Rattle.word_layout.specs.declared.headers.HeaderWord.TheVariants as header
use Rattle.worked_executions.proofs.FourGroups.{o}
use Rattle.worked_executions.proofs.FourGroups.{step_6, step_7}
use Rattle.worked_executions.proofs.FourGroups.{step_8, frozen_2, step_10, step_11, lanes_again}
use Rattle.worked_executions.proofs.FourGroups.{first_cut_again, cuts_again, step_12}
use Rattle.worked_executions.proofs.FourGroups.{is_low, group_1, new_2, group_2}
use Rattle.worked_executions.proofs.FourGroups.{new_3, at_key}
use Rattle.worked_executions.proofs.FourGroups.{not_0_in_1, not_3_in_1, not_0_in_2, not_1_in_2}
use Rattle.worked_executions.proofs.FourGroups.{not_1_after}
use Rattle.worked_executions.proofs.FourGroups.{opened_7, opened_8, opened_11, none_12}
use Rattle.worked_executions.proofs.FourGroups.{is_keeper, no_insert}
use Rattle.worked_executions.proofs.FourGroups.{first_slot_used, caller_is, named_1, named_3}
use Rattle.worked_executions.proofs.OneNewGroup.{IsOnlyNew, one_installs, one_opens}
use Rattle.worked_executions.proofs.OneCaller.{gone_if}
use Rattle.worked_executions.proofs.HeaderWrites.{IsFreeRow, written}
use Rattle.worked_executions.proofs.OnePart.{in_whole}
use Rattle.worked_executions.proofs.NewLanes.{one_lane}
use Rattle.worked_executions.proofs.SplitInTwo.{sized_empty, valid_begun_3}

-- ---- the second rebuild ----

-- the groups that the second rebuild made
made_by_3 : (h : ℕ) → rebuild h step_7 ≡ Some 3 → Same 3 h
made_by_3 h e = dite (ℕ_discrete 3 h) (λ (z : Same 3 h). z)
    (λ (n : Same 3 h → ⊥). absurd ((named_before 3 (rebuild h step_6) 3
    (sym (choice-other 3 h (Some 3) (unless_named 3 (rebuild h step_6)) n) ∙ e)).0 refl))

gone0_7 : IsGone o 0 step_7
gone0_7 = gone_if o caller_is step_7 0 (λ p. refl) (λ p w e. none_some e)
    (named_1 0 (λ e. omega (arith, e)) (omega arith)) refl not_0_in_1

-- group 3 leads to group 2, which has the keys behind those of group 1
only_3 : IsOnlyNew o step_7 0 0 4 3
only_3 = record {
  made = refl;
  is_open = refl;
  pivot = refl;
  next = inr (omega arith, refl);
  only = made_by_3;
  of_keys = λ k above below. at_key (λ a b w v. a ≡ true → SameOption (new_2 a b) (Some 3))
      (λ e. refl) (λ e. not_so e) (λ e. not_so e) k (is_low k below);
  keys = new_keys;
}
  where
    new_keys : (k : ℕ) → successor k step_7 ≡ Some 3 → (0 ≤ k) × (k ≤ 4)
    new_keys k e = in_range 0 4 k (at_key (λ a b w v. SameOption (new_2 a b) (Some 3) → a ≡ true)
        (λ f. refl) (λ f. let two : Same 2 3 = some_is f in absurd (omega (arith, two)))
        (λ f. none_some f) k e)

keys_of_1 : (k : ℕ) → group_of o k step_7 ≡ 1 → (0 ≤ k) × (k ≤ 4)
keys_of_1 k e = in_range 0 4 k (at_key (λ a b w v. Same (group_1 a b w v) 1 → a ≡ true)
    (λ f. refl) (λ f. absurd (omega (arith, f))) (λ f. absurd (omega (arith, f))) k e)

opens1 : MayOpen o step_7 1 1 3
opens1 = one_opens o step_7 0 0 4 3 only_3 1 1 refl refl refl (no_insert step_7 1 refl (λ f. refl))
    keys_of_1 not_3_in_1
    (λ h at. let bad = (opened_7 h 3 at).1 in omega (arith, bad))
    (λ h e here at. subst (λ (y : ℕ). IsGone o y step_7) (opened_7 h e at).0 gone0_7)
    (λ h e at by. subst (λ (y : ℕ). IsGone o y step_7) (opened_7 h e at).0 gone0_7)

only_3_opened : IsOnlyNew o step_8 0 0 4 3
only_3_opened = record {
  made = refl;
  is_open = refl;
  pivot = refl;
  next = inr (omega arith, refl);
  only = made_by_3;
  of_keys = only_3.of_keys;
  keys = only_3.keys;
}

installs_2 : MayInstall o step_8 1 (FirstSlot 0 0) 3 0 4
installs_2 = one_installs o step_8 0 0 4 3 only_3_opened 1 1 refl first_slot_used
    (in_whole 0 (omega arith)) (in_whole 4 (omega arith)) refl (omega arith) refl
    (λ h e. ⊎_elim (λ (z : Same 1 h × Same 3 3). sym z.0)
    (λ (z : Same 0 h × Same 1 3). let bad = z.1 in absurd (omega (arith, bad))) (opened_8 h 3 e))
    (λ k above below. at_key (λ a b w v. a ≡ true → Same (group_1 a b w v) 1) (λ e. refl)
    (λ e. not_so e) (λ e. not_so e) k (is_low k below)) keys_of_1
    (sized_empty step_8 3 (λ i j e. cc) refl refl) (λ k p above below e. none_some e)

gone1_frozen_2 : IsGone o 1 frozen_2
gone1_frozen_2 = gone_if o caller_is frozen_2 1 (λ p. refl) (λ p w e. none_some e)
    (named_3 1 (λ e. omega (arith, e)) (omega arith)) refl not_1_in_2

gone0_frozen_2 : IsGone o 0 frozen_2
gone0_frozen_2 = gone_if o caller_is frozen_2 0 (λ p. refl) (λ p w e. none_some e)
    (named_3 0 (λ e. omega (arith, e)) (omega arith)) refl not_0_in_2

settled1_frozen_2 : IsSettled o 1 frozen_2
settled1_frozen_2 f at g e = ⊎_elim
    (λ (z : Same 1 g × Same 3 f). subst (λ (y : ℕ). IsGone o y frozen_2) z.0 gone1_frozen_2)
    (λ (z : Same 0 g × Same 1 f). subst (λ (y : ℕ). IsGone o y frozen_2) z.0 gone0_frozen_2)
    (opened_11 g f e)

free1_frozen_2 : IsFreeRow o 1 1 frozen_2
free1_frozen_2 = record {
  valid = (
    record { keeper = refl; exists = omega arith; was = refl; chained = (5, refl) },
    (installs_2, (opens1, valid_begun_3 3, is_keeper), is_keeper),
    is_keeper,
  );
  is_hand = is_keeper;
  keeper = refl;
  exists = omega arith;
  gone = gone1_frozen_2;
  settled = settled1_frozen_2;
  unplanned = not_1_after;
}

-- ---- the name is used again ----

free1_lanes : IsFreeRow o 1 1 lanes_again
free1_lanes = written o 1 1 header.Lanes 1 step_11 tt
    (written o 1 1 header.Next 0 step_10 tt (written o 1 1 header.Phase 0 frozen_2 tt free1_frozen_2))

free1_cuts : IsFreeRow o 1 1 cuts_again
free1_cuts = written o 1 1 (header.Cut 1) 0 first_cut_again (omega arith)
    (written o 1 1 (header.Cut 0) 5 lanes_again (omega arith) free1_lanes)

gone0_cuts : IsGone o 0 cuts_again
gone0_cuts = gone_if o caller_is cuts_again 0 (λ p. refl) (λ p w e. none_some e)
    (named_3 0 (λ e. omega (arith, e)) (omega arith)) refl not_0_in_2

-- the cut of the second lane, which was there before, is cleared
cleared_cut : (w : Bool) (i : ℕ) → 1 ≤ i → Same (cond w 0 (cond (0 == i) 5 (cond w 3 0))) 0
cleared_cut true i from = refl
cleared_cut false i from = choice-other 0 i 5 0 (λ e. omega (arith, from, e))

begins_again : MayBegin o cuts_again 1 1 5 greatest_key 1
begins_again = record {
  keeper = refl;
  exists = omega arith;
  ordered = omega arith;
  in_part = (in_whole 5 (omega arith), in_whole greatest_key (omega arith));
  first_in_part = refl;
  gone = free1_cuts.gone;
  settled = free1_cuts.settled;
  phase_word = refl;
  new_lanes = one_lane o 1 5 greatest_key cuts_again (omega arith) refl refl
      (λ i from. cleared_cut (1 == i) i from) (λ i. refl);
  closed = no_insert cuts_again 1 refl (λ f. refl);
  no_row = λ p k e. cc;
  not_live = λ k p j h e. cc;
  no_target = λ a p y j h e. cc;
  unreached = λ b p j is m e. cc;
  idle = λ k f is e. ⊎_elim
      (λ (z : Same 1 (group_of o k cuts_again) × Same 3 f). not_1_in_2 k (sym z.0))
      (λ (z : Same 0 (group_of o k cuts_again) × Same 1 f). not_0_in_2 k (sym z.0))
      (opened_11 (group_of o k cuts_again) f e);
  replaced = λ g e. ⊎_elim
      (λ (z : Same 1 g × Same 3 1). let bad = z.1 in absurd (omega (arith, bad)))
      (λ (z : Same 0 g × Same 1 1). subst (λ (y : ℕ). IsGone o y cuts_again) z.0 gone0_cuts)
      (opened_11 g 1 e);
  no_old_target = λ a p y g k e at s. cc;
}

-- the rebuild whose name is used again made its own first group alone: group 2 is forgotten
made_again : (h : ℕ) → rebuild h step_12 ≡ Some 1 → Same 1 h
made_again h e = dite (ℕ_discrete 1 h) (λ (z : Same 1 h). z)
    (λ (n : Same 1 h → ⊥). absurd ((named_before 1 (rebuild h step_11) 1
    (sym (choice-other 1 h (Some 1) (unless_named 1 (rebuild h step_11)) n) ∙ e)).0 refl))

only_again : IsOnlyNew o step_12 0 5 greatest_key 1
only_again = record {
  made = refl;
  is_open = refl;
  pivot = refl;
  next = inl (refl, refl);
  only = made_again;
  of_keys = λ k above below. at_key (λ a b w v. b ≡ true → SameOption (new_3 a b) (Some 1))
      (λ e. not_so e) (λ e. refl) (λ e. not_so e) k (range_in 5 greatest_key k above below);
  keys = λ k e. in_range 5 greatest_key k
      (at_key (λ a b w v. SameOption (new_3 a b) (Some 1) → b ≡ true)
      (λ f. let three : Same 3 1 = some_is f in absurd (omega (arith, three))) (λ f. refl)
      (λ f. none_some f) k e);
}

opens2 : MayOpen o step_12 1 2 1
opens2 = one_opens o step_12 0 5 greatest_key 1 only_again 1 2 refl refl refl
    (no_insert step_12 2 refl (λ f. refl))
    (λ k e. in_range 5 greatest_key k (at_key (λ a b w v. Same (group_2 a b w v) 2 → b ≡ true)
    (λ f. absurd (omega (arith, f))) (λ f. refl) (λ f. absurd (omega (arith, f))) k e))
    not_1_in_2 (λ h at. none_12 h 1 at) (λ h e here at. absurd (none_12 h e at))
    (λ h e at by. none_some by)

pub name_again_valid : NamesAreUsedAgain
name_again_valid = (
  o,
  refl,
  refl,
  (opens2, (begins_again, free1_cuts.valid, is_keeper), is_keeper),
)
