-- A group is split into two: the first rebuild of the table with four groups is valid.
use Rattle.std.proofs.Common.{◌≡◌, ◌≢◌, ℕ, ◌≤◌, inl, inr, ⊎_elim, Some}
use Rattle.std.proofs.Common.{None, Bool, true, false, [], ◌∷◌, cond, refl, sym, ◌∙◌, subst}
use Rattle.std.proofs.Common.{arith, ◌⊎◌}
use Rattle.std.specs.Prelude.{nat_le}
use Rattle.worked_executions.proofs.Equations.{Same, SameOption}
use mathlib.Core.Logic.{dite}
use native.Mathlib.Decide.{ℕ_discrete}
use Rattle.index_machine.proofs.Executions.{choice-other}
use Rattle.index_machine.specs.Conditions.{Valid}
use Rattle.index_machine.specs.Execution.{Execution, event}
use Rattle.index_machine.specs.Groups.{phase, rebuild, unless_named}
use Rattle.index_machine.specs.KeyRanges.{group_of, successor}
use Rattle.word_layout.specs.Parts.{greatest_key}
use Rattle.index_machine.specs.Permissions.{IsGone}
use Rattle.index_machine.specs.RebuildConditions.{IsSized, MayBegin}
use Rattle.index_machine.specs.RebuildConditions.{MayInstall, MayOpen}
use Rattle.index_machine.specs.Words.{shape, word}
use Rattle.index_machine.proofs.Ranges.{in_range}
use Rattle.index_machine.specs.Rows.{InArray, role}
use Rattle.word_layout.specs.Addresses.{array_address}
use Rattle.word_layout.specs.Words.{Header}
use Rattle.index_machine.specs.declared.events.Action.TheVariants.{NewGroup, StoreHeader}
use Rattle.index_machine.specs.declared.events.InstallWord.TheVariants.{FirstSlot}
use Rattle.machine_barriers.proofs.OpenedGroups.{open_not}
use Rattle.index_machine.proofs.Options.{named_before, none_some, not_so, some_is}
use Rattle.word_layout.specs.declared.headers.HeaderWord.TheVariants as header
use Rattle.word_layout.specs.declared.phase.Phase.TheVariants.{Open, Opened}
use Rattle.worked_executions.proofs.FourGroups.{o, frozen_0, step_1, lanes_1, cuts_1, step_2}
use Rattle.worked_executions.proofs.FourGroups.{lanes_2, first_cut_2, cuts_2}
use Rattle.worked_executions.proofs.FourGroups.{step_3, step_4, step_5, frozen_1}
use Rattle.worked_executions.proofs.FourGroups.{new_1}
use Rattle.worked_executions.proofs.FourGroups.{at_key, not_1_in_0, not_2_in_0}
use Rattle.worked_executions.proofs.FourGroups.{not_0_in_1, not_3_in_1}
use Rattle.worked_executions.proofs.FourGroups.{none_1, none_2, none_3}
use Rattle.worked_executions.proofs.FourGroups.{opened_6}
use Rattle.worked_executions.proofs.FourGroups.{is_keeper, no_insert}
use Rattle.worked_executions.proofs.FourGroups.{first_slot_used, caller_is, named_0, named_1}
use Rattle.worked_executions.proofs.OneCaller.{gone_if}
use Rattle.worked_executions.proofs.HeaderWrites.{IsFreeRow, written}
use Rattle.worked_executions.proofs.OnePart.{in_whole, is_key}
use Rattle.worked_executions.proofs.NewLanes.{behind_cuts, one_lane, two_lanes}
use Rattle.worked_executions.proofs.TwoNewGroups.{ArePair, new_at, pair_opens}

-- ---- the first rebuild ----

gone1_frozen_0 : IsGone o 1 frozen_0
gone1_frozen_0 = gone_if o caller_is frozen_0 1 (λ p. refl) (λ p w e. none_some e)
    (named_0 1 (omega arith) (omega arith)) refl not_1_in_0

free1_frozen_0 : IsFreeRow o 1 1 frozen_0
free1_frozen_0 = record {
  valid = (
    record { keeper = refl; exists = omega arith; was = refl; chained = (0, refl) },
    tt,
    is_keeper,
  );
  is_hand = is_keeper;
  keeper = refl;
  exists = omega arith;
  gone = gone1_frozen_0;
  settled = λ f e. absurd (none_1 1 f e);
  unplanned = λ k e. none_some e;
}

free1_cuts : IsFreeRow o 1 1 cuts_1
free1_cuts = written o 1 1 (header.Cut 1) 3 lanes_1 (omega arith)
    (written o 1 1 header.Lanes 2 step_1 tt (written o 1 1 header.Next 3 frozen_0 tt free1_frozen_0))

begins1 : MayBegin o cuts_1 1 1 0 4 1
begins1 = record {
  keeper = refl;
  exists = omega arith;
  ordered = omega arith;
  in_part = (in_whole 0 (omega arith), in_whole 4 (omega arith));
  first_in_part = refl;
  gone = free1_cuts.gone;
  settled = free1_cuts.settled;
  phase_word = refl;
  new_lanes = two_lanes o 1 0 3 4 cuts_1 (omega arith) (omega arith) refl refl refl
      (λ i from. choice-other 1 i 3 0 (λ e. omega (arith, from, e))) (λ i. refl);
  closed = no_insert cuts_1 1 refl (λ f. refl);
  no_row = λ p k e. cc;
  not_live = λ k p j h e. cc;
  no_target = λ a p y j h e. cc;
  unreached = λ b p j is m e. cc;
  idle = λ k f is e. none_1 (group_of o k step_1) f e;
  replaced = λ g e. absurd (none_1 g 1 e);
  no_old_target = λ a p y g k e at s. none_1 g 1 at;
}

gone2_2 : IsGone o 2 step_2
gone2_2 = gone_if o caller_is step_2 2 (λ p. refl) (λ p w e. none_some e)
    (named_0 2 (omega arith) (omega arith)) refl not_2_in_0

not_2_yet : (k : ℕ) → successor k step_2 ≢ Some 2
not_2_yet = at_key (λ a b w v. SameOption (cond a (Some 1) None) (Some 2) → ⊥)
    (λ e. let bad : Same 1 2 = some_is e in omega (arith, bad)) (λ e. none_some e)
    (λ e. none_some e)

free2_2 : IsFreeRow o 1 2 step_2
free2_2 = record {
  valid = (begins1, free1_cuts.valid, is_keeper);
  is_hand = is_keeper;
  keeper = refl;
  exists = omega arith;
  gone = gone2_2;
  settled = λ f e. absurd (none_2 2 f e);
  unplanned = not_2_yet;
}

free2_cuts : IsFreeRow o 1 2 cuts_2
free2_cuts = written o 1 2 (header.Cut 1) 9 first_cut_2 (omega arith)
    (written o 1 2 (header.Cut 0) 5 lanes_2 (omega arith)
    (written o 1 2 header.Lanes 2 step_2 tt free2_2))

begins2 : MayBegin o cuts_2 1 2 5 greatest_key 1
begins2 = record {
  keeper = refl;
  exists = omega arith;
  ordered = omega arith;
  in_part = (in_whole 5 (omega arith), in_whole greatest_key (omega arith));
  first_in_part = refl;
  gone = free2_cuts.gone;
  settled = free2_cuts.settled;
  phase_word = refl;
  new_lanes = two_lanes o 2 5 9 greatest_key cuts_2 (omega arith) (omega arith) refl refl refl
      (λ i from. behind_cuts i 5 9 0 from) (λ i. refl);
  closed = no_insert cuts_2 2 refl (λ f. refl);
  no_row = λ p k e. cc;
  not_live = λ k p j h e. cc;
  no_target = λ a p y j h e. cc;
  unreached = λ b p j is m e. cc;
  idle = λ k f is e. none_2 (group_of o k step_2) f e;
  replaced = λ g e. absurd (none_2 g 2 e);
  no_old_target = λ a p y g k e at s. none_2 g 2 at;
}

-- group 0 answers for all keys at first
all_keys : (k : ℕ) → group_of o k step_3 ≡ 0 → k ≤ greatest_key
all_keys k e = (in_range 0 greatest_key k (at_key (λ a b w v. Same (cond v 0 4) 0 → w ≡ true)
    (λ f. refl) (λ f. refl) (λ f. absurd (omega (arith, f))) k e)).1

-- the groups that the first rebuild made
made_by_1 : (h : ℕ) → rebuild h step_3 ≡ Some 1 → Same 1 h ⊎ Same 2 h
made_by_1 h e = dite (ℕ_discrete 2 h) (λ (z : Same 2 h). inr z)
    (λ (n : Same 2 h → ⊥). dite (ℕ_discrete 1 h) (λ (z : Same 1 h). inl z)
    (λ (m : Same 1 h → ⊥). none_some (sym (choice-other 1 h (Some 1) None m)
    ∙ (named_before 2 (rebuild h step_2) 1
    (sym (choice-other 2 h (Some 1) (unless_named 2 (rebuild h step_2)) n) ∙ e)).1)))

-- the first rebuild's groups are 1 up to the key 4, and then 2
pair_1 : ArePair step_3 1 2 new_1
pair_1 = record {
  is = λ k. refl;
  of_keys = (refl, refl, refl);
  first = (refl, refl, refl, refl);
  second = (refl, refl, refl, refl);
  only = made_by_1;
  unchained = λ k. (not_1_in_0 k, not_2_in_0 k);
}

opens0 : MayOpen o step_3 1 0 1
opens0 = pair_opens step_3 1 2 new_1 pair_1 0 (omega arith) refl (no_insert step_3 0 refl (λ f. refl)) none_3
    all_keys

whole_1 : (w v : Bool) → Same (cond w 0 4) (cond v 0 4) → w ≡ v
whole_1 true true e = refl
whole_1 false false e = refl
whole_1 true false e = absurd (omega (arith, e))
whole_1 false true e = absurd (omega (arith, e))

-- the array of a group without keys
pub sized_empty : (t : Execution) (g : ℕ) → ((i k : ℕ) → role o i t ≢ InArray g k) →
    word o t (Header g header.Size) ≡ 0 → word o t (Header g header.LineError) ≡ 0 → IsSized o g t
sized_empty t g none size error = record {
  keys = [];
  array = λ k. none (array_address (shape o) g 0) k;
  size = size;
  error = error;
}

installs_1 : MayInstall o step_4 1 (FirstSlot 0 0) 1 0 greatest_key
installs_1 = record {
  keeper = refl;
  in_part = (in_whole 0 (omega arith), in_whole greatest_key (omega arith));
  leads = (refl, first_slot_used);
  first = (refl, refl);
  named = refl;
  starts = refl;
  ends = λ h e. let two : Same 2 h = some_is e in
      inl (refl, subst (λ (y : ℕ). word o step_4 (Header y header.Next) ≡ 0) two refl);
  whole = λ j k e. sym (is_key j) ∙ (whole_1 (nat_le j greatest_key) (nat_le k greatest_key) e ∙ is_key k);
  all_old = λ j k f is at. at_key (λ a b w v. phase (cond v 0 4) step_4 ≡ Opened f → w ≡ true)
      (λ e. refl) (λ e. refl) (λ e. absurd (open_not e)) k;
  sized = λ k h is new. ⊎_elim
      (λ (x : Same 1 h × (k ≤ 4)). subst (λ (y : ℕ). IsSized o y step_4) x.0
      (sized_empty step_4 1 (λ i j e. cc) refl refl))
      (λ (x : Same 2 h × (5 ≤ k)). subst (λ (y : ℕ). IsSized o y step_4) x.0
      (sized_empty step_4 2 (λ i j e. cc) refl refl))
      (new_at step_3 1 2 new_1 pair_1 k h new);
  all_new = λ j k f g h is new made next too. at_key
      (λ a b w v. SameOption (new_1 a b) (Some h) → w ≡ true)
      (λ e. refl) (λ e. refl) (λ e. none_some e) k next;
  opened = at_key (λ a b w v. w ≡ true →
      (f : ℕ) × (h : ℕ) × (phase (cond v 0 4) step_4 ≡ Opened f) × SameOption (new_1 a b) (Some h)
      × SameOption (rebuild h step_4) (Some f) × (phase h step_4 ≡ Open))
      (λ e. (1, 1, refl, refl, refl, refl)) (λ e. (1, 2, refl, refl, refl, refl))
      (λ e. not_so e);
  merged = λ k h p is new e. none_some e;
}

pub valid_5 : Valid o step_5
valid_5 = (
  installs_1,
  (opens0, (begins2, free2_cuts.valid, is_keeper), is_keeper),
  is_keeper,
)

-- ---- the row that is free behind it ----

gone3_frozen_1 : IsGone o 3 frozen_1
gone3_frozen_1 = gone_if o caller_is frozen_1 3 (λ p. refl) (λ p w e. none_some e)
    (named_1 3 (λ e. omega (arith, e)) (omega arith)) refl not_3_in_1

not_3_yet : (k : ℕ) → successor k frozen_1 ≢ Some 3
not_3_yet = at_key (λ a b w v. SameOption (new_1 a b) (Some 3) → ⊥)
    (λ e. let bad : Same 1 3 = some_is e in omega (arith, bad))
    (λ e. let bad : Same 2 3 = some_is e in omega (arith, bad)) (λ e. none_some e)

free3_frozen_1 : IsFreeRow o 1 3 frozen_1
free3_frozen_1 = record {
  valid = (
    record { keeper = refl; exists = omega arith; was = refl; chained = (0, refl) },
    valid_5,
    is_keeper,
  );
  is_hand = is_keeper;
  keeper = refl;
  exists = omega arith;
  gone = gone3_frozen_1;
  settled = λ f e. let bad = (opened_6 3 f e).0 in absurd (omega (arith, bad));
  unplanned = not_3_yet;
}

-- with this next word, and one lane, the row is ready to be begun
abbrev pub linked_3 : ℕ → Execution
linked_3 next = event 1 (StoreHeader 3 header.Next next) ∷ frozen_1

abbrev pub laned_3 : ℕ → Execution
laned_3 next = event 1 (StoreHeader 3 header.Lanes 1) ∷ linked_3 next

free3 : (next : ℕ) → IsFreeRow o 1 3 (laned_3 next)
free3 next = written o 1 3 header.Lanes 1 (linked_3 next) tt
    (written o 1 3 header.Next next frozen_1 tt free3_frozen_1)

begins3 : (next : ℕ) → MayBegin o (laned_3 next) 1 3 0 4 3
begins3 next = record {
  keeper = refl;
  exists = omega arith;
  ordered = omega arith;
  in_part = (in_whole 0 (omega arith), in_whole 4 (omega arith));
  first_in_part = refl;
  gone = (free3 next).gone;
  settled = (free3 next).settled;
  phase_word = refl;
  new_lanes = one_lane o 3 0 4 (laned_3 next) (omega arith) refl refl (λ i from. refl) (λ i. refl);
  closed = no_insert (laned_3 next) 3 refl (λ f. refl);
  no_row = λ p k e. cc;
  not_live = λ k p j h e. cc;
  no_target = λ a p y j h e. cc;
  unreached = λ b p j is m e. cc;
  idle = λ k f is e. not_0_in_1 k (sym (opened_6 (group_of o k (laned_3 next)) f e).0);
  replaced = λ g e. let bad = (opened_6 g 3 e).1 in absurd (omega (arith, bad));
  no_old_target = λ a p y g k e at s. let bad = (opened_6 g 3 at).1 in omega (arith, bad);
}

pub valid_begun_3 : (next : ℕ) → Valid o (event 1 (NewGroup 3 0 4 3) ∷ laned_3 next)
valid_begun_3 next = (begins3 next, (free3 next).valid, is_keeper)
