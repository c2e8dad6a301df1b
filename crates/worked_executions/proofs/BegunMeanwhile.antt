-- A rebuild with two new groups is under way, and no group can be begun anew meanwhile.
use Rattle.std.proofs.Common.{◌≡◌, ◌≢◌, ℕ, ◌/◌, ◌<◌, ◌≤◌, inl, inr, Option, Some}
use Rattle.std.proofs.Common.{Bool, true, [], ◌∷◌, cond, refl, sym, ◌∙◌, subst}
use Rattle.std.proofs.Common.{arith, ◌⊎◌}
use mathlib.Core.Logic.{dite}
use native.Mathlib.Decide.{ℕ_discrete}
use Rattle.index_machine.proofs.Executions.{choice-other}
use Rattle.index_machine.proofs.Options.{named_before, none_some, some_is}
use Rattle.index_machine.proofs.Refusing.{beginnings_wait}
use Rattle.index_machine.specs.Conditions.{Valid}
use Rattle.index_machine.specs.Execution.{Execution, event}
use Rattle.index_machine.specs.Groups.{phase, rebuild, unless_named}
use Rattle.index_machine.specs.KeyRanges.{group_of, successor}
use Rattle.word_layout.specs.Parts.{greatest_key}
use Rattle.index_machine.specs.Keepers.{IsKeyIn}
use Rattle.index_machine.specs.Permissions.{IsGone}
use Rattle.index_machine.specs.RebuildConditions.{MayBegin, MayOpen}
use Rattle.index_machine.specs.Words.{opening_cut}
use Rattle.index_machine.specs.declared.events.Action.TheVariants.{NewGroup, StoreHeader}
use Rattle.index_machine.specs.declared.events.Action.TheVariants.{StoreOpened}
use Rattle.machine_barriers.proofs.OpenedGroups.{begun_back}
use Rattle.word_layout.specs.declared.headers.HeaderWord.TheVariants as header
use Rattle.word_layout.specs.declared.phase.Phase.TheVariants.{Opened}
use Rattle.worked_executions.proofs.FourGroups.{o, new_1, group_1, new_2}
use Rattle.worked_executions.proofs.FourGroups.{at_key, not_0_in_1, not_3_in_1, opened_6, is_keeper}
use Rattle.worked_executions.proofs.FourGroups.{no_insert, caller_is, named_1}
use Rattle.worked_executions.proofs.OneCaller.{gone_if}
use Rattle.worked_executions.proofs.Equations.{Same, SameOption}
use Rattle.index_machine.proofs.Ranges.{in_range}
use Rattle.worked_executions.proofs.HeaderWrites.{IsFreeRow, written}
use Rattle.worked_executions.proofs.OnePart.{in_whole}
use Rattle.worked_executions.proofs.NewLanes.{behind_cuts, no_opening_cut, two_lanes}
use Rattle.worked_executions.proofs.SplitInTwo.{laned_3, valid_begun_3}
use Rattle.worked_executions.proofs.TwoNewGroups.{ArePair, pair_opens}
use Rattle.worked_executions.specs.BegunMeanwhile.{NoGroupIsBegunMeanwhile}

-- ---- the execution, event by event ----

abbrev pub begun_3 : Execution
begun_3 = event 1 (NewGroup 3 0 4 3) ∷ laned_3 1

abbrev pub cleared_0 : Execution
cleared_0 = event 1 (StoreHeader 0 header.Phase 0) ∷ begun_3

abbrev pub lanes_0 : Execution
lanes_0 = event 1 (StoreHeader 0 header.Lanes 2) ∷ cleared_0

abbrev pub first_cut_0 : Execution
first_cut_0 = event 1 (StoreHeader 0 (header.Cut 0) 5) ∷ lanes_0

abbrev pub cuts_0 : Execution
cuts_0 = event 1 (StoreHeader 0 (header.Cut 1) 8) ∷ first_cut_0

abbrev pub begun_0 : Execution
begun_0 = event 1 (NewGroup 0 5 greatest_key 3) ∷ cuts_0

abbrev pub opened_1 : Execution
opened_1 = event 1 (StoreOpened 1 3) ∷ begun_0

-- ---- the new groups of group 1 ----

opened_so_far : (g f : ℕ) → phase g begun_3 ≡ Opened f → Same 0 g × Same 1 f
opened_so_far g f e = opened_6 g f (begun_back 3 g (phase g (laned_3 1)) f e).2

gone0_begun : IsGone o 0 begun_3
gone0_begun = gone_if o caller_is begun_3 0 (λ p. refl) (λ p w e. none_some e)
    (named_1 0 (λ e. omega (arith, e)) (omega arith)) refl not_0_in_1

not_0_yet : (k : ℕ) → successor k begun_3 ≢ Some 0
not_0_yet = at_key (λ a b w v. SameOption (cond a (Some 3) (unless_named 3 (new_1 a b))) (Some 0) → ⊥)
    (λ e. let bad : Same 3 0 = some_is e in omega (arith, bad))
    (λ e. let bad : Same 2 0 = some_is e in omega (arith, bad)) (λ e. none_some e)

free0_begun : IsFreeRow o 1 0 begun_3
free0_begun = record {
  valid = valid_begun_3 1;
  is_hand = is_keeper;
  keeper = refl;
  exists = omega arith;
  gone = gone0_begun;
  settled = λ f e g at. subst (λ (y : ℕ). IsGone o y begun_3) (opened_so_far g f at).0 gone0_begun;
  unplanned = not_0_yet;
}

free0_cuts : IsFreeRow o 1 0 cuts_0
free0_cuts = written o 1 0 (header.Cut 1) 8 first_cut_0 (omega arith)
    (written o 1 0 (header.Cut 0) 5 lanes_0 (omega arith)
    (written o 1 0 header.Lanes 2 cleared_0 tt (written o 1 0 header.Phase 0 begun_3 tt free0_begun)))

begins0 : MayBegin o cuts_0 1 0 5 greatest_key 3
begins0 = record {
  keeper = refl;
  exists = omega arith;
  ordered = omega arith;
  in_part = (in_whole 5 (omega arith), in_whole greatest_key (omega arith));
  first_in_part = refl;
  gone = free0_cuts.gone;
  settled = free0_cuts.settled;
  phase_word = refl;
  new_lanes = two_lanes o 0 5 8 greatest_key cuts_0 (omega arith) (omega arith) refl refl refl
      (λ i from. behind_cuts i 5 8 (opening_cut 0 [] i) from
      ∙ no_opening_cut i (omega (arith, from))) (λ i. refl);
  closed = no_insert cuts_0 0 refl (λ f. refl);
  no_row = λ p k e. cc;
  not_live = λ k p j h e. cc;
  no_target = λ a p y j h e. cc;
  unreached = λ b p j is m e. cc;
  idle = λ k f is e. not_0_in_1 k (sym (opened_so_far (group_of o k cuts_0) f e).0);
  replaced = λ g e. let bad = (opened_so_far g 0 e).1 in absurd (omega (arith, bad));
  no_old_target = λ a p y g k e at s. let bad = (opened_so_far g 0 at).1 in omega (arith, bad);
}

none_yet : (g f : ℕ) → phase g begun_0 ≢ Opened f
none_yet g f e = let w = begun_back 0 g (phase g cuts_0) f e in w.0 (opened_so_far g f w.2).0

-- the groups that this rebuild made
made_by_3 : (h : ℕ) → rebuild h begun_0 ≡ Some 3 → Same 3 h ⊎ Same 0 h
made_by_3 h e = dite (ℕ_discrete 0 h) (λ (z : Same 0 h). inr z)
    (λ (n : Same 0 h → ⊥). dite (ℕ_discrete 3 h) (λ (z : Same 3 h). inl z)
    (λ (m : Same 3 h → ⊥).
    let before : rebuild h cuts_0 ≡ Some 3 = (named_before 0 (rebuild h cuts_0) 3
    (sym (choice-other 0 h (Some 3) (unless_named 0 (rebuild h cuts_0)) n) ∙ e)).1 in
    let older = rebuild h (laned_3 1) in
    absurd ((named_before 3 older 3
    (sym (choice-other 3 h (Some 3) (unless_named 3 older) m) ∙ before)).0 refl)))

abbrev pub new_pair : Bool → Bool → Option ℕ
new_pair a b = cond b (Some 0) (unless_named 0 (new_2 a b))

-- the groups are 3 up to the key 4, and then 0
pair_3 : ArePair begun_0 3 0 new_pair
pair_3 = record {
  is = λ k. refl;
  of_keys = (refl, refl, refl);
  first = (refl, refl, refl, refl);
  second = (refl, refl, refl, refl);
  only = made_by_3;
  unchained = λ k. (not_3_in_1 k, not_0_in_1 k);
}

keys_of_1 : (k : ℕ) → group_of o k begun_0 ≡ 1 → k ≤ greatest_key
keys_of_1 k e = (in_range 0 greatest_key k (at_key (λ a b w v. Same (group_1 a b w v) 1 → w ≡ true)
    (λ f. refl) (λ f. refl) (λ f. absurd (omega (arith, f))) k e)).1

opens1 : MayOpen o begun_0 1 1 3
opens1 = pair_opens begun_0 3 0 new_pair pair_3 1 (omega arith) refl (no_insert begun_0 1 refl (λ f. refl))
    none_yet keys_of_1

valid_opened_1 : Valid o opened_1
valid_opened_1 = (opens1, (begins0, free0_cuts.valid, is_keeper), is_keeper)

-- ---- no group is begun anew ----

-- all groups are of the one part
one_part : (group : ℕ) → group < 4 → Same 0 (group / 4)
one_part group exists = omega arith

pub none_begun : NoGroupIsBegunMeanwhile
none_begun = (
  o,
  refl,
  refl,
  valid_opened_1,
  λ hand group low high first valid.
      let zero : Same 0 (group / 4) = one_part group valid.0.exists in
      beginnings_wait o opened_1 hand group low high first valid.0 0 3
      (subst (λ (p : ℕ). IsKeyIn o p 0) zero (in_whole 0 (omega arith))) refl,
)
