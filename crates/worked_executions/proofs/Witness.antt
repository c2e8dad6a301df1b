-- A whole rebuild, with callers' steps in between, is valid, to its end with a row and a group row
-- used again.
use Rattle.std.proofs.Common.{◌≡◌, ℕ, ◌≤◌, inl, inr, Some, None, Bool, true, false, [], cond, refl}
use Rattle.std.proofs.Common.{sym, ◌∙◌, subst, arith}
use Rattle.std.specs.Prelude.{◌==◌}
use Rattle.index_machine.proofs.Executions.{choice-other}
use Rattle.index_machine.proofs.Options.{none_some, not_so, some_is}
use Rattle.index_machine.specs.Conditions.{MayPush, Valid}
use Rattle.index_machine.specs.Execution.{Execution}
use Rattle.index_machine.specs.Groups.{name_used_again, phase}
use Rattle.index_machine.specs.KeyRanges.{group_of}
use Rattle.index_machine.specs.ObservedHeads.{IsObservedRow, IsUnobserved, NoHead, Observes}
use Rattle.index_machine.specs.ObservedHeads.{observed_head}
use Rattle.word_layout.specs.Parts.{greatest_key}
use Rattle.index_machine.specs.Openings.{within}
use Rattle.index_machine.specs.Permissions.{IsGone}
use Rattle.index_machine.specs.Reaching.{reached}
use Rattle.index_machine.specs.RebuildConditions.{MayBegin}
use Rattle.index_machine.specs.RecordConditions.{MayRetire}
use Rattle.index_machine.specs.Rows.{HeldBy, InArray, InBuffer}
use Rattle.index_machine.specs.Sections.{IsCaller}
use Rattle.index_machine.specs.Words.{opening_cut}
use Rattle.machine_barriers.proofs.Gains.{test_is}
use Rattle.machine_barriers.proofs.OpenedGroups.{opened_is}
use Rattle.word_layout.specs.declared.headers.HeaderWord.TheVariants as header
use Rattle.word_layout.specs.declared.phase.Phase.TheVariants.{Frozen, Open, Opened}
use Rattle.worked_executions.proofs.Equations.{Same, SameOption}
use Rattle.worked_executions.proofs.HeaderWrites.{IsFreeRow, written}
use Rattle.worked_executions.proofs.MergedWitness.{gone0_rebuilt_1, gone0_rebuilt_5, other_slot}
use Rattle.worked_executions.proofs.MergedWitness.{old_is_0, replaced0, valid_rebuilt_5}
use Rattle.worked_executions.proofs.OnePart.{in_whole}
use Rattle.worked_executions.proofs.NewLanes.{no_opening_cut, two_lanes}
use Rattle.worked_executions.proofs.OneCaller.{nobody_in, unnamed_if}
use Rattle.worked_executions.proofs.PutWitness.{caller_is, is_caller, is_hand0, is_hand1, no_insert}
use Rattle.worked_executions.proofs.OneCaller.{nobody_in, unnamed_if}
use Rattle.worked_executions.proofs.PutWitness.{reading}
use Rattle.worked_executions.proofs.SmallForms.{again_role, given_role, no_lock_rebuilt}
use Rattle.worked_executions.proofs.SmallForms.{no_redirect_rebuilt}
use Rattle.worked_executions.proofs.SmallTable.{again_1, again_2, again_3, again_4, again_5, o}
use Rattle.worked_executions.proofs.SmallTable.{popped_1, popped_2, popped_3, popped_5, rebuilt_5}
use Rattle.worked_executions.proofs.SmallTable.{rebuilt_7, rebuilt_8}
use Rattle.worked_executions.specs.Witness.{WholeRebuildIsValid}

-- ---- giving the row back ----

live_new : (w u : Bool) →
    SameOption (cond w (Some 87) (cond u (Some 123) (cond w (Some 119) (cond w (Some 119) None))))
    (Some 119) → ⊥
live_new true u e = let bad : Same 87 119 = some_is e in omega (arith, bad)
live_new false true e = let bad : Same 123 119 = some_is e in omega (arith, bad)
live_new false false e = none_some e

unreached_by_all : (t : Execution) (p : ℕ) → reached 0 p t ≡ false → (c : ℕ) → IsCaller o c →
    reached c p t ≡ true → ⊥
unreached_by_all t p none c is r = not_so (sym none
    ∙ subst (λ (y : ℕ). reached y p t ≡ true) (sym (caller_is c is)) r)

retires_it : MayRetire o rebuilt_5 1 119 0
retires_it = record {
  keeper = (0, 5, inr refl, refl);
  found_word = refl;
  not_live = λ k e. live_new (5 == k) (9 == k) e;
  no_target = λ a y e. no_redirect_rebuilt (119 == a) (123 == a) (87 == a) 119 y e;
  unreached = unreached_by_all rebuilt_5 119 refl;
  where_it_is = (0, 5, refl, replaced0 rebuilt_5 gone0_rebuilt_5 old_is_0 refl);
}

unobserved_by_all : (t : Execution) (p : ℕ) → observed_head 0 t ≡ NoHead → IsUnobserved o p t
unobserved_by_all t p none c is seen = subst (IsObservedRow p) none
    (subst (λ (y : ℕ). Observes y p t) (sym (caller_is c is)) seen)

pushes_it : MayPush o 1 119 0 rebuilt_7
pushes_it = record {
  keeper = omega arith;
  held = refl;
  head_word = refl;
  link = refl;
  unobserved = unobserved_by_all rebuilt_7 119 refl;
}

valid_rebuilt_8 : Valid o rebuilt_8
valid_rebuilt_8 = (
  pushes_it,
  (
    record { held = refl; fits = inl refl },
    (retires_it, valid_rebuilt_5, is_hand1),
    is_hand1,
  ),
  is_hand1,
)

-- ---- the row and the group row are used again ----

held_again : (w u v : Bool) → given_role w u v ≡ HeldBy 0 → ⊥
held_again true u v e = cc
held_again false u true e = cc
held_again false true false e = cc
held_again false false false e = cc

valid_popped_5 : Valid o popped_5
valid_popped_5 = (
  (
    record {
      caller = is_caller;
      inside = refl;
      holds_none = λ place z. no_lock_rebuilt (119 == place) (123 == place) (87 == place) z;
    },
    refl,
  ),
  (
    (
      reading popped_3 refl,
      (λ place e. held_again (119 == place) (123 == place) (87 == place) e),
      record { rest = []; top = refl; unused = refl; link = refl },
    ),
    (
      (reading popped_2 refl, refl, refl),
      (
        (inl (reading popped_1 refl), refl),
        ((record { caller = is_caller; outside = refl }, refl), valid_rebuilt_8, is_hand0),
        is_hand0,
      ),
      is_hand0,
    ),
    is_hand0,
  ),
  is_hand0,
)

valid_again_1 : Valid o again_1
valid_again_1 = (
  record { keeper = refl; exists = omega arith; was = refl; chained = (0, refl) },
  valid_popped_5,
  is_hand1,
)

row_again : (w u v : Bool) (k : ℕ) → again_role w u v ≡ InBuffer 0 k → ⊥
row_again true u v k e = cc
row_again false u true k e = cc
row_again false true false k e = let bad : Same 1 0 = cc in omega (arith, bad)
row_again false false false k e = cc

array_again : (w u v : Bool) (k : ℕ) → again_role w u v ≡ InArray 0 k → ⊥
array_again true u v k e = cc
array_again false u true k e = let bad : Same 1 0 = cc in omega (arith, bad)
array_again false true false k e = cc
array_again false false false k e = cc

opened_again : (b c d : Bool) (f : ℕ) → cond b Frozen
    (cond c (Opened 1) (cond d Open (name_used_again 1 (cond c Frozen Open)))) ≡ Opened f →
    (c ≡ true) × Same 1 f
opened_again true c d f x = cc
opened_again false true d f x = (refl, opened_is x)
opened_again false false true f x = cc
opened_again false false false f x = cc

opened_at : (g f : ℕ) → phase g again_1 ≡ Opened f → Same 0 g × Same 1 f
opened_at g f at = let z = opened_again (1 == g) (0 == g) (1 == g) f at in (test_is 0 g z.0, z.1)

not_named : {X : Type 0} (g : ℕ) → phase g again_1 ≡ Opened 0 → X
not_named g at = let z = opened_at g 0 at in let bad = z.1 in absurd (omega (arith, bad))

-- the header of group 0 is written while it is gone and no key is to have it
unplanned : (w : Bool) → SameOption (cond w (Some 1) None) (Some 0) → ⊥
unplanned true e = let bad : Same 1 0 = some_is e in omega (arith, bad)
unplanned false e = none_some e

gone0_again_1 : IsGone o 0 again_1
gone0_again_1 = record {
  unowned = gone0_rebuilt_1.unowned;
  unnamed = unnamed_if o caller_is again_1 0 (λ p. refl) (λ p w e. none_some e) other_slot;
  empty = nobody_in o caller_is again_1 0 refl;
}

free0_again_1 : IsFreeRow o 1 0 again_1
free0_again_1 = record {
  valid = valid_again_1;
  is_hand = is_hand1;
  keeper = refl;
  exists = omega arith;
  gone = gone0_again_1;
  settled = λ f at g e. subst (λ (y : ℕ). IsGone o y again_1) (opened_at g f e).0 gone0_again_1;
  unplanned = λ k e. unplanned (within 0 k greatest_key) e;
}

free0_again_3 : IsFreeRow o 1 0 again_3
free0_again_3 = written o 1 0 (header.Head 0) 0 again_2 (omega arith)
    (written o 1 0 header.Phase 0 again_1 tt free0_again_1)

free0_again_5 : IsFreeRow o 1 0 again_5
free0_again_5 = written o 1 0 (header.Cut 1) 9 again_4 (omega arith)
    (written o 1 0 header.Lanes 2 again_3 tt free0_again_3)

-- the head of the one lane that had a row is cleared, and there is no third lane
cleared : (w : Bool) → Same (cond w 0 (cond w 119 0)) 0
cleared true = refl
cleared false = refl

two_cuts : (i : ℕ) → 2 ≤ i → Same (cond (1 == i) 9 (opening_cut 0 [] i)) 0
two_cuts i from = choice-other 1 i 9 (opening_cut 0 [] i) (λ e. omega (arith, from, e))
    ∙ no_opening_cut i (omega (arith, from))

begins_again : MayBegin o again_5 1 0 0 greatest_key 0
begins_again = record {
  keeper = refl;
  exists = omega arith;
  ordered = omega arith;
  in_part = (in_whole 0 (omega arith), in_whole greatest_key (omega arith));
  first_in_part = refl;
  gone = free0_again_5.gone;
  settled = free0_again_5.settled;
  phase_word = refl;
  new_lanes = two_lanes o 0 0 9 greatest_key again_5 (omega arith) (omega arith) refl refl refl
      two_cuts (λ i. cleared (0 == i));
  closed = no_insert again_5 0 refl refl;
  no_row = λ p k e. row_again (119 == p) (123 == p) (87 == p) k e;
  not_live = λ k p j h e. array_again (119 == p) (123 == p) (87 == p) j e;
  no_target = λ a p y j h e. array_again (119 == p) (123 == p) (87 == p) j e;
  unreached = λ b p j is m e. array_again (119 == p) (123 == p) (87 == p) j e;
  idle = λ k f is e. gone0_again_1.unowned k (sym (opened_at (group_of o k again_1) f e).0);
  replaced = λ g e. not_named g e;
  no_old_target = λ a p y g k e at s. not_named g at;
}

pub whole_rebuild_valid : WholeRebuildIsValid
whole_rebuild_valid = (o, refl, refl, (begins_again, free0_again_5.valid, is_hand1))
