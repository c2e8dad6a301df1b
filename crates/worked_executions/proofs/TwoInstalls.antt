-- The keeper of part 0 installs, that of part 1 opens and installs behind it, and what stands meanwhile.
use Rattle.std.proofs.Common.{◌≡◌, ◌≢◌, inl, ℕ, ◌≤◌, Some, None, Bool, true, false}
use Rattle.std.proofs.Common.{[], cond, refl, sym, ap, ◌∙◌, subst, arith}
use Rattle.std.specs.Prelude.{◌==◌}
use mathlib.Core.Logic.{dite}
use native.Mathlib.Decide.{ℕ_discrete}
use Rattle.index_machine.proofs.Executions.{choice-other, choice-same}
use Rattle.index_machine.proofs.Options.{named_before, none_some, not_so, some_is}
use Rattle.index_machine.proofs.Ranges.{in_range, range_in}
use Rattle.index_machine.proofs.Refusing.{beginnings_wait}
use Rattle.index_machine.specs.Conditions.{Valid}
use Rattle.index_machine.specs.Groups.{phase, rebuild, unless_named}
use Rattle.index_machine.specs.Keepers.{IsKeyIn, part_of}
use Rattle.index_machine.specs.KeyRanges.{group_of}
use Rattle.index_machine.specs.LivePlaces.{live_place}
use Rattle.index_machine.specs.RebuildConditions.{MayInstall, MayOpen}
use Rattle.index_machine.specs.Rows.{InArray, InBuffer, Unused, role}
use Rattle.index_machine.specs.declared.events.InstallWord.TheVariants.{FirstSlot}
use Rattle.machine_barriers.proofs.Gains.{test_is}
use Rattle.machine_barriers.proofs.OpenedGroups.{begun_back}
use Rattle.word_layout.specs.Parts.{greatest_key}
use Rattle.word_layout.specs.declared.phase.Phase.TheVariants.{Opened}
use Rattle.worked_executions.proofs.Equations.{Same, SameOption}
use Rattle.worked_executions.proofs.OneCaller.{no_insert_unmade}
use Rattle.worked_executions.proofs.OneNewGroup.{IsMergedInto, IsOnlyNew, one_installs, one_opens}
use Rattle.worked_executions.proofs.SmallForms.{no_lock_first}
use Rattle.worked_executions.proofs.TwoKeepers.{first_slot_used, opened_first, valid_linked}
use Rattle.worked_executions.proofs.TwoPartTable.{o, caller_is, is_caller, is_hand0, is_hand1, is_hand2}
use Rattle.worked_executions.proofs.TwoPartTable.{at_key, group_0, group_1, group_3, new_3, left}
use Rattle.worked_executions.proofs.TwoPartTable.{not_3_in_1}
use Rattle.worked_executions.specs.TwoParts.{AreAtDifferentStages, HaveGroups, NoneOfFirstIsBegun}
use Rattle.worked_executions.specs.TwoParts.{TwoPartsAreRebuiltAtOnce}
use Rattle.worked_executions.specs.TwoParts.{caller_in_first, linked, first_installed}
use Rattle.worked_executions.specs.TwoParts.{both_installed}

first_key_in : IsKeyIn o 0 0
first_key_in = record { from = omega arith; to = omega arith }

-- ---- the install of part 0 ----

opened_so_far : (g f : ℕ) → phase g linked ≡ Opened f → Same 0 g × Same 1 f
opened_so_far g f e = opened_first g f (begun_back 3 g (phase g caller_in_first) f e).2

-- each rebuild made one group
made : (f h : ℕ) → rebuild h linked ≡ Some f → Same f h
made f h e = dite (ℕ_discrete 3 h)
    (λ (z : Same 3 h). let by : Same 3 f =
    some_is (sym (choice-same 3 h (Some 3) (unless_named 3 (rebuild h caller_in_first)) z) ∙ e) in
    sym by ∙ z)
    (λ (n : Same 3 h → ⊥). dite (ℕ_discrete 1 h)
    (λ (z : Same 1 h). let by : Same 1 f =
    some_is (sym (choice-same 1 h (Some 1) None z) ∙ before n) in sym by ∙ z)
    (λ (m : Same 1 h → ⊥). none_some (sym (choice-other 1 h (Some 1) None m) ∙ before n)))
  where
    before : (Same 3 h → ⊥) → rebuild h caller_in_first ≡ Some f
    before n = (named_before 3 (rebuild h caller_in_first) f
        (sym (choice-other 3 h (Some 3) (unless_named 3 (rebuild h caller_in_first)) n) ∙ e)).1

only_1 : IsOnlyNew o linked 0 0 9 1
only_1 = record {
  made = refl;
  is_open = refl;
  pivot = refl;
  next = inl (refl, refl);
  only = made 1;
  of_keys = λ k above below. at_key (λ a b v u. a ≡ true → SameOption (new_3 a b) (Some 1))
      (λ e. refl) (λ e. not_so e) (λ e. not_so e) k (range_in 0 9 k above below);
  keys = λ k e. in_range 0 9 k (at_key (λ a b v u. SameOption (new_3 a b) (Some 1) → a ≡ true)
      (λ f. refl) (λ f. let bad : Same 3 1 = some_is f in absurd (omega (arith, bad)))
      (λ f. none_some f) k e);
}

live_5 : (w : Bool) (p : ℕ) → SameOption (cond w (Some 236) None) (Some p) → (w ≡ true) × Same 236 p
live_5 true p e = (refl, some_is e)
live_5 false p e = none_some e

-- the one live place is that of the caller's row, in the new group
live_in_1 : (k p : ℕ) → 0 ≤ k → k ≤ 9 → live_place o k linked ≡ Some p →
    IsMergedInto o 1 k p linked
live_in_1 k p above below e =
    let at = live_5 (5 == k) p e in
    let key : Same 5 k = test_is 5 k at.0 in
    inl (subst (λ (y : ℕ). role o y linked ≡ InBuffer 1 k) at.1
    (ap (λ (y : ℕ). InBuffer 1 y) key))

installs_1 : MayInstall o linked 1 (FirstSlot 0 0) 1 0 9
installs_1 = one_installs o linked 0 0 9 1 only_1 1 0 refl first_slot_used first_key_in
    (record { from = omega arith; to = omega arith }) refl (omega arith) refl
    (λ h e. sym (opened_so_far h 1 e).0)
    (λ k above below. at_key (λ a b v u. a ≡ true → Same (group_0 v u) 0) (λ e. refl)
    (λ e. not_so e) (λ e. not_so e) k (range_in 0 9 k above below))
    (λ k e. in_range 0 9 k (at_key (λ a b v u. Same (group_0 v u) 0 → a ≡ true) (λ f. refl)
    (λ f. absurd (omega (arith, f))) (λ f. absurd (omega (arith, f))) k e))
    (record { keys = []; array = λ k e. let bad : Unused ≡ InArray 1 k = e in cc; size = refl; error = refl })
    live_in_1

-- ---- the opening of part 1, behind it ----

only_3 : IsOnlyNew o first_installed 1 10 greatest_key 3
only_3 = record {
  made = refl;
  is_open = refl;
  pivot = refl;
  next = inl (refl, refl);
  only = made 3;
  of_keys = λ k above below. at_key (λ a b v u. b ≡ true → SameOption (new_3 a b) (Some 3))
      (λ e. not_so e) (λ e. refl) (λ e. not_so e) k (range_in 10 greatest_key k above below);
  keys = λ k e. in_range 10 greatest_key k
      (at_key (λ a b v u. SameOption (new_3 a b) (Some 3) → b ≡ true)
      (λ f. let bad : Same 1 3 = some_is f in absurd (omega (arith, bad))) (λ f. refl)
      (λ f. none_some f) k e);
}

keys_of_2 : (k : ℕ) → group_of o k first_installed ≡ 2 → (10 ≤ k) × (k ≤ greatest_key)
keys_of_2 k e = in_range 10 greatest_key k (at_key (λ a b v u. Same (group_1 a b v u) 2 → b ≡ true)
    (λ f. absurd (omega (arith, f))) (λ f. refl) (λ f. absurd (omega (arith, f))) k e)

-- the opened group of part 0 is of another part
other_part : (h e : ℕ) → part_of o h ≡ 1 → phase h first_installed ≢ Opened e
other_part h e here at =
    let zero : Same 0 h = (opened_so_far h e at).0 in
    let bad : Same 0 1 = subst (λ (y : ℕ). part_of o y ≡ 1) (sym zero) here in
    omega (arith, bad)

opens2 : MayOpen o first_installed 2 2 3
opens2 = one_opens o first_installed 1 10 greatest_key 3 only_3 2 2 refl refl refl
    (no_insert_unmade o caller_is first_installed 2 refl refl) keys_of_2 not_3_in_1
    (λ h e. let bad = (opened_so_far h 3 e).1 in omega (arith, bad))
    (λ h e here at. absurd (other_part h e here at)) (λ h e at by. none_some by)

-- ---- the install of part 1 ----

only_3_left : IsOnlyNew o left 1 10 greatest_key 3
only_3_left = record {
  made = refl;
  is_open = refl;
  pivot = refl;
  next = inl (refl, refl);
  only = made 3;
  of_keys = only_3.of_keys;
  keys = only_3.keys;
}

opened_to_3 : (h : ℕ) → phase h left ≡ Opened 3 → h ≡ 2
opened_to_3 h e = dite (ℕ_discrete 2 h) (λ (z : Same 2 h). sym z)
    (λ (n : Same 2 h → ⊥). let bad = (opened_so_far h 3
    (sym (choice-other 2 h (Opened 3) (phase h first_installed) n) ∙ e)).1 in
    absurd (omega (arith, bad)))

-- no key of part 1 has a live place
none_live : (k p : ℕ) → 10 ≤ k → k ≤ greatest_key → live_place o k left ≡ Some p →
    IsMergedInto o 3 k p left
none_live k p above below e =
    let key : Same 5 k = test_is 5 k (live_5 (5 == k) p e).0 in absurd (omega (arith, key, above))

installs_3 : MayInstall o left 2 (FirstSlot 1 0) 3 10 greatest_key
installs_3 = one_installs o left 1 10 greatest_key 3 only_3_left 2 2 refl first_slot_used
    (record { from = omega arith; to = omega arith })
    (record { from = omega arith; to = omega arith }) refl (omega arith) refl opened_to_3
    (λ k above below. at_key (λ a b v u. b ≡ true → Same (group_1 a b v u) 2) (λ e. not_so e)
    (λ e. refl) (λ e. not_so e) k (range_in 10 greatest_key k above below))
    keys_of_2
    (record { keys = []; array = λ k e. let bad : Unused ≡ InArray 3 k = e in cc; size = refl; error = refl })
    none_live

valid_both_installed : Valid o both_installed
valid_both_installed = (
  installs_3,
  (
    (
      record {
        caller = is_caller;
        inside = refl;
        holds_none = λ place z. no_lock_first (236 == place) z;
      },
      refl,
    ),
    (opens2, (installs_1, valid_linked, is_hand1), is_hand2),
    is_hand0,
  ),
  is_hand2,
)

-- ---- what stands meanwhile ----

none_of_first : NoneOfFirstIsBegun o caller_in_first
none_of_first hand group low high first here valid =
    beginnings_wait o caller_in_first hand group low high first valid.0 0 1
    (subst (λ (p : ℕ). IsKeyIn o p 0) (sym here) first_key_in) refl

have_one : HaveGroups o 1 2 first_installed
have_one = record {
  of_first = λ k is. at_key (λ a b v u. a ≡ true → Same (group_1 a b v u) 1) (λ e. refl)
      (λ e. not_so e) (λ e. not_so e) k (range_in 0 9 k is.from is.to);
  of_second = λ k is. at_key (λ a b v u. b ≡ true → Same (group_1 a b v u) 2) (λ e. not_so e)
      (λ e. refl) (λ e. not_so e) k (range_in 10 greatest_key k is.from is.to);
}

have_both : HaveGroups o 1 3 both_installed
have_both = record {
  of_first = λ k is. at_key (λ a b v u. a ≡ true → Same (group_3 a b v u) 1) (λ e. refl)
      (λ e. not_so e) (λ e. not_so e) k (range_in 0 9 k is.from is.to);
  of_second = λ k is. at_key (λ a b v u. b ≡ true → Same (group_3 a b v u) 3) (λ e. not_so e)
      (λ e. refl) (λ e. not_so e) k (range_in 10 greatest_key k is.from is.to);
}

at_stages : AreAtDifferentStages o
at_stages = record {
  opened = (refl, refl);
  begun = (refl, none_of_first);
  installed = (have_one, refl);
  opened_too = (refl, λ gone. gone.empty 0 is_caller refl);
  installed_too = have_both;
}

pub two_parts_rebuilt : TwoPartsAreRebuiltAtOnce
two_parts_rebuilt = (o, refl, refl, valid_both_installed, at_stages)
