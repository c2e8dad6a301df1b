-- The keeper of part 1 freezes and begins its group between the steps of that of part 0, up to the new row of the
-- caller.
use Rattle.std.proofs.Common.{◌≡◌, ◌≢◌, ℕ, ◌+◌, ◌*◌, ◌≤◌, inl, inr, Some, None, Bool, true, false}
use Rattle.std.proofs.Common.{[], ◌∷◌, cond, refl, sym, ap, ◌∙◌, arith}
use Rattle.std.specs.Prelude.{◌==◌}
use mathlib.Core.Logic.{dite}
use native.Mathlib.Decide.{ℕ_discrete}
use Rattle.index_machine.proofs.Executions.{choice-other, choice-same}
use Rattle.index_machine.proofs.Options.{none_some, some_is}
use Rattle.index_machine.proofs.Ranges.{in_range, range_in}
use Rattle.index_machine.specs.Conditions.{Valid}
use Rattle.index_machine.specs.Execution.{Execution}
use Rattle.index_machine.specs.Groups.{IsInUse, phase, rebuild}
use Rattle.index_machine.specs.Keepers.{IsKeyIn}
use Rattle.index_machine.specs.KeyRanges.{group_of}
use Rattle.index_machine.specs.Lanes.{HasLane}
use Rattle.index_machine.specs.Permissions.{IsGone}
use Rattle.index_machine.specs.Reaching.{root_seen}
use Rattle.index_machine.specs.RebuildConditions.{MayBegin, MayOpen}
use Rattle.index_machine.specs.RecordConditions.{MayLink}
use Rattle.index_machine.specs.Rows.{HeldBy, InBuffer, Unused}
use Rattle.index_machine.specs.Sections.{IsInside, IsReading}
use Rattle.machine_barriers.proofs.OpenedGroups.{begun_back, frozen_not, open_not, opened_back, opened_is}
use Rattle.map_model.specs.declared.entries.Change.TheVariants as change
use Rattle.word_layout.specs.Parts.{greatest_key}
use Rattle.word_layout.specs.declared.headers.HeaderWord.TheVariants as header
use Rattle.word_layout.specs.declared.phase.Phase.TheVariants.{Frozen, Open, Opened}
use Rattle.worked_executions.proofs.Equations.{Same, SameOption}
use Rattle.worked_executions.proofs.HeaderWrites.{IsFreeRow, written}
use Rattle.worked_executions.proofs.NewLanes.{one_lane}
use Rattle.worked_executions.proofs.OneCaller.{gone_if, no_insert, no_insert_unmade}
use Rattle.worked_executions.proofs.OneNewGroup.{IsOnlyNew, one_opens}
use Rattle.worked_executions.proofs.TwoPartTable.{o, caller_is, is_caller, is_hand0, is_hand1, is_hand2}
use Rattle.worked_executions.proofs.TwoPartTable.{frozen_0, begun_1, cut_3, lanes_3}
use Rattle.worked_executions.proofs.TwoPartTable.{inside_1, inside_2, inside_3}
use Rattle.worked_executions.proofs.TwoPartTable.{linking_1, linking_2, linking_3, linking_4, linking_5, linking_8}
use Rattle.worked_executions.proofs.TwoPartTable.{at_key, group_0, new_1, not_1_in_0, not_3_in_0, not_3_yet}
use Rattle.worked_executions.specs.TwoParts.{first_frozen, both_frozen, first_opened, caller_in_first}
use Rattle.worked_executions.specs.TwoParts.{second_begun, linked}

-- ---- what was opened ----

none_frozen : (g f : ℕ) → phase g both_frozen ≢ Opened f
none_frozen g f e =
    let w = opened_back 2 g Frozen (phase g first_frozen) f frozen_not e in
    open_not (opened_back 0 g Frozen Open f frozen_not w.1).1

none_begun : (g f : ℕ) → phase g lanes_3 ≢ Opened f
none_begun g f e = none_frozen g f (begun_back 1 g (phase g both_frozen) f e).2

pub opened_first : (g f : ℕ) → phase g first_opened ≡ Opened f → Same 0 g × Same 1 f
opened_first g f e = dite (ℕ_discrete 0 g)
    (λ (z : Same 0 g). (z, opened_is (sym (choice-same 0 g (Opened 1) (phase g lanes_3) z) ∙ e)))
    (λ (n : Same 0 g → ⊥). absurd (none_begun g f
    (sym (choice-other 0 g (Opened 1) (phase g lanes_3) n) ∙ e)))

-- ---- the keeper of part 0, and a step of the other ----

gone1_frozen_0 : IsGone o 1 frozen_0
gone1_frozen_0 = gone_if o caller_is frozen_0 1 (λ p. refl) (λ p w e. none_some e)
    (λ p e. let bad : Same (p * 2 + 0) 1 = e in omega (arith, bad)) refl not_1_in_0

free1_frozen_0 : IsFreeRow o 1 1 frozen_0
free1_frozen_0 = record {
  valid = (
    record { keeper = refl; exists = omega arith; was = refl; chained = (0, refl) },
    tt,
    is_hand1,
  );
  is_hand = is_hand1;
  keeper = refl;
  exists = omega arith;
  gone = gone1_frozen_0;
  settled = λ f e. absurd (open_not e);
  unplanned = λ k e. none_some e;
}

-- the keeper of part 1 freezes its group before the other begins the new one
valid_both_frozen : Valid o both_frozen
valid_both_frozen = (
  record { keeper = refl; exists = omega arith; was = refl; chained = (10, refl) },
  (written o 1 1 header.Lanes 1 frozen_0 tt free1_frozen_0).valid,
  is_hand2,
)

begins1 : MayBegin o both_frozen 1 1 0 9 1
begins1 = record {
  keeper = refl;
  exists = omega arith;
  ordered = omega arith;
  in_part = (
    record { from = omega arith; to = omega arith },
    record { from = omega arith; to = omega arith },
  );
  first_in_part = refl;
  gone = gone_if o caller_is both_frozen 1 (λ p. refl) (λ p w e. none_some e)
      (λ p e. let bad : Same (p * 2 + 0) 1 = e in omega (arith, bad)) refl not_1_in_0;
  settled = λ f e. absurd (none_frozen 1 f e);
  phase_word = refl;
  new_lanes = one_lane o 1 0 9 both_frozen (omega arith) refl refl (λ i from. refl) (λ i. refl);
  closed = no_insert o caller_is both_frozen 1 refl (λ f. refl);
  no_row = λ p k e. cc;
  not_live = λ k p j h e. cc;
  no_target = λ a p y j h e. cc;
  unreached = λ b p j is m e. cc;
  idle = λ k f is e. none_frozen (group_of o k both_frozen) f e;
  replaced = λ g e. absurd (none_frozen g 1 e);
  no_old_target = λ a p y g k e at s. cc;
}

-- ---- the header of group 3, and the opening of group 0 ----

gone3 : IsGone o 3 begun_1
gone3 = gone_if o caller_is begun_1 3 (λ p. refl) (λ p w e. none_some e)
    (λ p e. let bad : Same (p * 2 + 0) 3 = e in omega (arith, bad)) refl not_3_in_0

free3_begun : IsFreeRow o 2 3 begun_1
free3_begun = record {
  valid = (begins1, valid_both_frozen, is_hand1);
  is_hand = is_hand2;
  keeper = refl;
  exists = omega arith;
  gone = gone3;
  settled = λ f e. absurd (none_begun 3 f e);
  unplanned = not_3_yet;
}

free3_lanes : IsFreeRow o 2 3 lanes_3
free3_lanes = written o 2 3 header.Lanes 1 cut_3 tt
    (written o 2 3 (header.Cut 0) 10 begun_1 (omega arith) free3_begun)

-- the rebuild named 1 made group 1 alone
made_by_1 : (h : ℕ) → rebuild h lanes_3 ≡ Some 1 → Same 1 h
made_by_1 h e = dite (ℕ_discrete 1 h) (λ (z : Same 1 h). z)
    (λ (n : Same 1 h → ⊥). none_some (sym (choice-other 1 h (Some 1) None n) ∙ e))

only_1 : IsOnlyNew o lanes_3 0 0 9 1
only_1 = record {
  made = refl;
  is_open = refl;
  pivot = refl;
  next = inl (refl, refl);
  only = made_by_1;
  of_keys = λ k above below. ap (λ (w : Bool). new_1 w) (range_in 0 9 k above below);
  keys = λ k e. in_range 0 9 k (at_key (λ a b v u. SameOption (new_1 a) (Some 1) → a ≡ true)
      (λ f. refl) (λ f. none_some f) (λ f. none_some f) k e);
}

keys_of_0 : (k : ℕ) → group_of o k frozen_0 ≡ 0 → (0 ≤ k) × (k ≤ 9)
keys_of_0 k e = in_range 0 9 k (at_key (λ a b v u. Same (group_0 v u) 0 → a ≡ true) (λ f. refl)
    (λ f. absurd (omega (arith, f))) (λ f. absurd (omega (arith, f))) k e)

opens0 : MayOpen o lanes_3 1 0 1
opens0 = one_opens o lanes_3 0 0 9 1 only_1 1 0 refl refl refl
    (no_insert o caller_is lanes_3 0 refl (λ f. refl)) keys_of_0 not_1_in_0
    (λ h e. none_begun h 1 e) (λ h f is e. absurd (none_begun h f e))
    (λ h f e by. absurd (none_begun h f e))

valid_first_opened : Valid o first_opened
valid_first_opened = (opens0, free3_lanes.valid, is_hand1)

-- ---- the caller comes to group 1 ----

pub reading : (t : Execution) → IsInside 0 t → IsReading o 0 t
reading t inside = record { caller = is_caller; inside = inside }

pub first_slot_used : IsInUse 2 0 0
first_slot_used = (1, refl, omega arith, omega arith)

valid_caller : Valid o caller_in_first
valid_caller = (
  record { allowed = inl (reading inside_3 refl, refl); found_word = refl; says = refl },
  (
    record {
      allowed = inl (reading inside_2 refl, (2, refl, first_slot_used));
      found_word = refl;
      says = refl;
    },
    (
      record {
        allowed = inl (reading inside_1 refl);
        is_part = omega arith;
        found_word = refl;
        says = refl;
      },
      ((record { caller = is_caller; outside = refl }, refl), valid_first_opened, is_hand0),
      is_hand0,
    ),
    is_hand0,
  ),
  is_hand0,
)

-- it saw the root word of part 0 alone
seen_roots : (w : Bool) (n : ℕ) → cond w (Some 2) None ≡ Some n → Same 2 n
seen_roots true n e = some_is e
seen_roots false n e = none_some e

pub seen_by_caller : (p w : ℕ) → root_seen 0 p caller_in_first ≡ Some w → Same 2 w
seen_by_caller p w e = seen_roots (0 == p) w e

-- ---- the keeper of part 1 begins its group meanwhile ----

gone3_inside : IsGone o 3 caller_in_first
gone3_inside = gone_if o caller_is caller_in_first 3 (λ p. refl) seen_by_caller
    (λ p e. let bad : Same (p * 2 + 0) 3 = e in omega (arith, bad)) refl not_3_in_0

-- a key of part 1 is in no opened group
idle1 : (k f : ℕ) → IsKeyIn o 1 k → phase (group_of o k caller_in_first) caller_in_first ≢ Opened f
idle1 k f is e =
    let below = (keys_of_0 k (sym (opened_first (group_of o k caller_in_first) f e).0)).1 in
    let from : 10 ≤ k = is.from in
    omega (arith, below, from)

begins3 : MayBegin o caller_in_first 2 3 10 greatest_key 3
begins3 = record {
  keeper = refl;
  exists = omega arith;
  ordered = omega arith;
  in_part = (
    record { from = omega arith; to = omega arith },
    record { from = omega arith; to = omega arith },
  );
  first_in_part = refl;
  gone = gone3_inside;
  settled = λ f e. let bad = (opened_first 3 f e).0 in absurd (omega (arith, bad));
  phase_word = refl;
  new_lanes = one_lane o 3 10 greatest_key caller_in_first (omega arith) refl refl
      (λ i from. choice-other 0 i 10 0 (λ e. omega (arith, from, e))) (λ i. refl);
  closed = no_insert_unmade o caller_is caller_in_first 3 refl refl;
  no_row = λ p k e. cc;
  not_live = λ k p j h e. cc;
  no_target = λ a p y j h e. cc;
  unreached = λ b p j is m e. cc;
  idle = idle1;
  replaced = λ g e. let bad = (opened_first g 3 e).1 in absurd (omega (arith, bad));
  no_old_target = λ a p y g k e at s. cc;
}

valid_second_begun : Valid o second_begun
valid_second_begun = (begins3, valid_caller, is_hand2)

-- ---- the caller links its row ----

in_first_lane : HasLane o 1 0 5 linking_8
in_first_lane = record { is_lane = omega arith; from = omega arith; end = inl refl }

alone_row : (w : Bool) → cond w (HeldBy 0) Unused ≡ InBuffer 1 5 → ⊥
alone_row true e = cc
alone_row false e = cc

links_it : MayLink o linking_8 0 1 0 236 (change.Put 0 5 7) 0 0
links_it = record {
  caller = is_caller;
  value = 7;
  mine = refl;
  key_word = refl;
  value_word = refl;
  new_word = refl;
  link_word = refl;
  in_lane = in_first_lane;
  behind = inl refl;
  expected = refl;
  makes = (refl, refl, refl);
  permission = inr (1, refl, refl);
  belongs = inr (1, refl, refl);
  not_live_elsewhere = refl;
  alone = λ other e. alone_row (236 == other) e;
  behind_smaller = λ k e. let bad : Unused ≡ InBuffer 1 k = e in cc;
  ahead = inl refl;
  ahead_greater = λ k e. let bad : Unused ≡ InBuffer 1 k = e in cc;
}

valid_popped : Valid o linking_5
valid_popped = (
  (
    reading linking_4 refl,
    (λ place e. let bad : Unused ≡ HeldBy 0 = e in cc),
    record { rest = 240 ∷ []; top = refl; unused = refl; link = refl },
  ),
  (
    (reading linking_3 refl, refl, refl),
    (
      (inl (reading linking_2 refl), refl),
      (
        record {
          allowed = inl (reading linking_1 refl, refl);
          is_lane = omega arith;
          found_word = refl;
          says = λ is. inl refl;
        },
        (
          record { allowed = inl (reading second_begun refl, refl); found_word = refl },
          valid_second_begun,
          is_hand0,
        ),
        is_hand0,
      ),
      is_hand0,
    ),
    is_hand0,
  ),
  is_hand0,
)

pub valid_linked : Valid o linked
valid_linked = (
  links_it,
  (
    record { held = refl; fits = inl refl },
    (
      record { held = refl; fits = tt },
      (record { held = refl; fits = tt }, valid_popped, is_hand0),
      is_hand0,
    ),
    is_hand0,
  ),
  is_hand0,
)
