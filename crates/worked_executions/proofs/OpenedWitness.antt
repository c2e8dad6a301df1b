-- The keeper freezes group 0, writes the header of group 1, begins it with two lanes and opens group 0
-- to it.
use Rattle.std.proofs.Common.{◌≡◌, ℕ, ◌+◌, ◌*◌, ◌≤◌, inl, Some, None, Bool, true, false}
use Rattle.std.proofs.Common.{cond, refl, sym, ap, ◌∙◌, arith}
use Rattle.std.specs.Prelude.{◌==◌, nat_le}
use mathlib.Core.Logic.{dite}
use native.Mathlib.Decide.{ℕ_discrete}
use Rattle.index_machine.proofs.Executions.{choice-other}
use Rattle.index_machine.proofs.Options.{none_some}
use Rattle.index_machine.proofs.Ranges.{in_range, range_in}
use Rattle.index_machine.specs.Conditions.{Valid}
use Rattle.index_machine.specs.Groups.{name_used_again, rebuild}
use Rattle.index_machine.specs.KeyRanges.{group_of, successor}
use Rattle.word_layout.specs.Parts.{greatest_key}
use Rattle.index_machine.specs.Openings.{within}
use Rattle.index_machine.specs.Permissions.{IsGone}
use Rattle.index_machine.specs.RebuildConditions.{MayBegin, MayOpen}
use Rattle.index_machine.specs.Rows.{InArray, InBuffer}
use Rattle.word_layout.specs.declared.headers.HeaderWord.TheVariants as header
use Rattle.word_layout.specs.declared.phase.Phase.TheVariants.{Frozen, Open, Opened}
use Rattle.worked_executions.proofs.Equations.{Same, SameOption}
use Rattle.worked_executions.proofs.HeaderWrites.{IsFreeRow, written}
use Rattle.worked_executions.proofs.OneCaller.{gone_if}
use Rattle.std.proofs.lemmas.Bool.{leb-true}
use Rattle.worked_executions.proofs.OneNewGroup.{IsOnlyNew, one_opens}
use Rattle.worked_executions.proofs.OnePart.{in_whole}
use Rattle.worked_executions.proofs.NewLanes.{two_lanes}
use Rattle.worked_executions.proofs.PutWitness.{before_group, caller_is, is_hand1, no_insert}
use Rattle.worked_executions.proofs.PutWitness.{valid_put_12}
use Rattle.worked_executions.proofs.SmallForms.{put_role}
use Rattle.worked_executions.proofs.SmallTable.{o, opened_1, opened_2, opened_3, opened_4, opened_5}

-- ---- freezing, and the header of the new group ----

pub role_first : (w : Bool) (k : ℕ) → put_role w ≡ InBuffer 1 k → ⊥
role_first true k e = let bad : Same 0 1 = cc in omega (arith, bad)
role_first false k e = cc

pub no_array_first : (w : Bool) (g k : ℕ) → put_role w ≡ InArray g k → ⊥
no_array_first true g k e = cc
no_array_first false g k e = cc

pub frozen_unopened : (w : Bool) (f : ℕ) → cond w Frozen Open ≡ Opened f → ⊥
frozen_unopened true f e = cc
frozen_unopened false f e = cc

other_slot : (p : ℕ) → Same (p * 2 + 0) 1 → ⊥
other_slot p e = omega (arith, e)

pub gone1_opened_1 : IsGone o 1 opened_1
gone1_opened_1 = gone_if o caller_is opened_1 1 (λ p. refl) (λ p w e. none_some e) other_slot refl
    (λ k e. before_group (nat_le k greatest_key) e)

free1_opened_1 : IsFreeRow o 1 1 opened_1
free1_opened_1 = record {
  valid = (
    record { keeper = refl; exists = omega arith; was = refl; chained = (0, refl) },
    valid_put_12,
    is_hand1,
  );
  is_hand = is_hand1;
  keeper = refl;
  exists = omega arith;
  gone = gone1_opened_1;
  settled = λ f e. absurd (frozen_unopened false f e);
  unplanned = λ k e. none_some e;
}

free1_opened_3 : IsFreeRow o 1 1 opened_3
free1_opened_3 = written o 1 1 (header.Cut 1) 6 opened_2 (omega arith)
    (written o 1 1 header.Lanes 2 opened_1 tt free1_opened_1)

-- ---- the new group ----

pub begins1 : MayBegin o opened_3 1 1 0 greatest_key 1
begins1 = record {
  keeper = refl;
  exists = omega arith;
  ordered = omega arith;
  in_part = (in_whole 0 (omega arith), in_whole greatest_key (omega arith));
  first_in_part = refl;
  gone = free1_opened_3.gone;
  settled = free1_opened_3.settled;
  phase_word = refl;
  new_lanes = two_lanes o 1 0 6 greatest_key opened_3 (omega arith) (omega arith) refl refl refl
      (λ i from. choice-other 1 i 6 0 (λ e. omega (arith, from, e))) (λ i. refl);
  closed = no_insert opened_3 1 refl refl;
  no_row = λ p k e. role_first (119 == p) k e;
  not_live = λ k p j h e. no_array_first (119 == p) 1 j e;
  no_target = λ a p y j h e. no_array_first (119 == p) 1 j e;
  unreached = λ b p j is m e. no_array_first (119 == p) 1 j e;
  idle = λ k f is e. frozen_unopened (0 == group_of o k opened_3) f e;
  replaced = λ g e. absurd (frozen_unopened (0 == g) 1 e);
  no_old_target = λ a p y g k e at s. frozen_unopened (0 == g) 1 at;
}

-- ---- opening ----

pub new_unopened : (v w : Bool) (f : ℕ) → cond v Open
    (name_used_again 1 (cond w Frozen Open)) ≡ Opened f → ⊥
new_unopened true w f e = cc
new_unopened false true f e = cc
new_unopened false false f e = cc

-- the rebuild made group 1 alone
pub made_by_1 : (h : ℕ) → rebuild h opened_4 ≡ Some 1 → Same 1 h
made_by_1 h e = dite (ℕ_discrete 1 h) (λ (z : Same 1 h). z)
    (λ (n : Same 1 h → ⊥). none_some (sym (choice-other 1 h (Some 1) None n) ∙ e))

-- all keys have the new group 1, and at first the group 0
pub new_keys : (k : ℕ) → successor k opened_4 ≡ Some 1 → (0 ≤ k) × (k ≤ greatest_key)
new_keys k e = in_range 0 greatest_key k (go (within 0 k greatest_key) e)
  where
    go : (w : Bool) → SameOption (cond w (Some 1) None) (Some 1) → w ≡ true
    go true e = refl
    go false e = none_some e

pub keys_new : (k : ℕ) → 0 ≤ k → k ≤ greatest_key → successor k opened_4 ≡ Some 1
keys_new k above below =
    ap (λ (w : Bool). cond w (Some 1) None) (range_in 0 greatest_key k above below)

pub keys_of_0 : (k : ℕ) → group_of o k opened_4 ≡ 0 → (0 ≤ k) × (k ≤ greatest_key)
keys_of_0 k e = (omega arith, leb-true k greatest_key (go (nat_le k greatest_key) e))
  where
    go : (v : Bool) → Same (cond v 0 2) 0 → v ≡ true
    go true e = refl
    go false e = absurd (omega (arith, e))

only_1 : IsOnlyNew o opened_4 0 0 greatest_key 1
only_1 = record {
  made = refl;
  is_open = refl;
  pivot = refl;
  next = inl (refl, refl);
  only = made_by_1;
  of_keys = keys_new;
  keys = new_keys;
}

opens0 : MayOpen o opened_4 1 0 1
opens0 = one_opens o opened_4 0 0 greatest_key 1 only_1 1 0 refl refl refl
    (no_insert opened_4 0 refl refl) keys_of_0
    (λ k e. before_group (nat_le k greatest_key) e)
    (λ h at. new_unopened (1 == h) (0 == h) 1 at)
    (λ h e here at. absurd (new_unopened (1 == h) (0 == h) e at)) (λ h e at by. none_some by)

pub valid_opened_5 : Valid o opened_5
valid_opened_5 = (opens0, (begins1, free1_opened_3.valid, is_hand1), is_hand1)
