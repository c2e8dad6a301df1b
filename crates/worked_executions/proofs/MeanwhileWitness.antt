-- While group 0 is opened the caller changes the record of its buffer, and then links a new one into
-- the second lane of group 1.
use Rattle.std.proofs.Common.{◌≡◌, ℕ, ◌+◌, ◌*◌, inl, inr, Bool, true, false, [], cond, refl, arith}
use Rattle.std.specs.Prelude.{◌==◌}
use Rattle.index_machine.proofs.Options.{not_so}
use Rattle.index_machine.specs.Conditions.{Valid}
use Rattle.index_machine.specs.Lanes.{HasLane}
use Rattle.index_machine.specs.RecordConditions.{MayLink, MayLoadState, MayLock, MayUnlock}
use Rattle.index_machine.specs.Rows.{HeldBy, InBuffer, Unused}
use Rattle.map_model.specs.declared.entries.Change.TheVariants as change
use Rattle.worked_executions.proofs.Equations.{Same}
use Rattle.worked_executions.proofs.OpenedWitness.{valid_opened_5}
use Rattle.worked_executions.proofs.PutWitness.{first_slot_used, is_caller, is_hand0, reading}
use Rattle.worked_executions.proofs.SmallForms.{begun_role, no_lock_changed, no_lock_first}
use Rattle.worked_executions.proofs.SmallForms.{no_lock_linked}
use Rattle.worked_executions.proofs.SmallTable.{changed_1, changed_10, changed_2, changed_3, changed_4}
use Rattle.worked_executions.proofs.SmallTable.{changed_5, changed_6, changed_8, linked_1, linked_10}
use Rattle.worked_executions.proofs.SmallTable.{linked_13, linked_15, linked_2, linked_3, linked_4}
use Rattle.worked_executions.proofs.SmallTable.{linked_5, linked_6, linked_7, linked_8, linked_9, o}

-- ---- a change in the old group ----

-- the key 5 is still in the one lane of group 0
in_first_lane_opened : HasLane o 0 0 5 changed_4
in_first_lane_opened = record { is_lane = omega arith; from = omega arith; end = inl refl }

no_redirect_word : (to : ℕ) → Same 0 (16 * to + 1) → ⊥
no_redirect_word to e = omega (arith, e)

loads_it : MayLoadState o 0 119 0 changed_5
loads_it = record {
  allowed = inl (record { reading = reading changed_5 refl; there = inr refl });
  found_word = refl;
  says = refl;
  follows = λ is to e. absurd (no_redirect_word to e);
}

locks_it : MayLock o 0 119 0 changed_6
locks_it = record {
  reading = reading changed_6 refl;
  there = record { reading = reading changed_6 refl; there = inr refl };
  keyed = (5, refl);
  holds_none = λ place z. no_lock_first (119 == place) z;
  version = 0;
  removed = false;
  value = 7;
  unlocked = refl;
  raisable = omega arith;
  found_word = refl;
}

unlocks_it : MayUnlock o changed_8 0 119 false (change.Put 0 5 8)
unlocks_it = record {
  version = 0;
  was = false;
  before = 7;
  value = 8;
  holds = refl;
  keyed = refl;
  makes = (refl, refl, refl);
  revives = λ e. not_so e;
}

valid_changed_6 : Valid o changed_6
valid_changed_6 = (
  loads_it,
  (
    record {
      allowed = inl (reading changed_4 refl, refl);
      is_lane = omega arith;
      found_word = refl;
      says = λ is. inr (5, refl, in_first_lane_opened);
    },
    (
      record { allowed = inl (reading changed_3 refl, refl); found_word = refl; says = refl },
      (
        record {
          allowed = inl (reading changed_2 refl, (2, refl, first_slot_used));
          found_word =
              refl;
          says = refl;
        },
        (
          record {
            allowed = inl (reading changed_1 refl);
            is_part = omega arith;
            found_word = refl;
            says = refl;
          },
          ((record { caller = is_caller; outside = refl }, refl), valid_opened_5, is_hand0),
          is_hand0,
        ),
        is_hand0,
      ),
      is_hand0,
    ),
    is_hand0,
  ),
  is_hand0,
)

valid_changed_10 : Valid o changed_10
valid_changed_10 = (
  (
    record {
      caller = is_caller;
      inside = refl;
      holds_none = λ place z. no_lock_changed (119 == place) z;
    },
    refl,
  ),
  (
    (is_caller, unlocks_it, refl),
    (
      (is_caller, (0, false, 7, 7, refl), (5, refl)),
      (locks_it, valid_changed_6, is_hand0),
      is_hand0,
    ),
    is_hand0,
  ),
  is_hand0,
)

-- ---- a new record in the second lane of the new group ----

-- the second lane of group 1 has the key 9
in_second_lane : HasLane o 1 1 9 linked_13
in_second_lane = record { is_lane = omega arith; from = omega arith; end = inl refl }

-- whose a place is before the row is popped: no hand's, and none of a buffer of group 1
none_held : (w : Bool) → begun_role w ≡ HeldBy 0 → ⊥
none_held true e = cc
none_held false e = cc

alone_second : (w u : Bool) → cond u (HeldBy 0) (begun_role w) ≡ InBuffer 1 9 → ⊥
alone_second w true e = cc
alone_second true false e = let bad : Same 0 1 = cc in omega (arith, bad)
alone_second false false e = cc

links_second : MayLink o linked_13 0 1 1 123 (change.Put 0 9 4) 0 0
links_second = record {
  caller = is_caller;
  value = 4;
  mine = refl;
  key_word = refl;
  value_word = refl;
  new_word = refl;
  link_word = refl;
  in_lane = in_second_lane;
  behind = inl refl;
  expected = refl;
  makes = (refl, refl, refl);
  permission = inr (1, refl, refl);
  belongs = inr (1, refl, refl);
  not_live_elsewhere = refl;
  alone = λ other e. alone_second (119 == other) (123 == other) e;
  behind_smaller = λ k e. let bad : Unused ≡ InBuffer 1 k = e in cc;
  ahead = inl refl;
  ahead_greater = λ k e. let bad : Unused ≡ InBuffer 1 k = e in cc;
}

-- the caller finds the lane by the header of the new group
valid_linked_7 : Valid o linked_7
valid_linked_7 = (
  record {
    allowed = inl (reading linked_6 refl, refl);
    is_lane = omega arith;
    found_word = refl;
    says = λ is. inl refl;
  },
  (
    record { allowed = inl (reading linked_5 refl, refl); found_word = refl },
    (
      record { allowed = inl (reading linked_4 refl, refl); found_word = refl },
      (
        record { allowed = inl (reading linked_3 refl, refl); found_word = refl; says = refl },
        (
          record {
            allowed = inl (reading linked_2 refl, (2, refl, first_slot_used));
            found_word = refl;
            says = refl;
          },
          (
            record {
              allowed = inl (reading linked_1 refl);
              is_part = omega arith;
              found_word = refl;
              says = refl;
            },
            ((record { caller = is_caller; outside = refl }, refl), valid_changed_10, is_hand0),
            is_hand0,
          ),
          is_hand0,
        ),
        is_hand0,
      ),
      is_hand0,
    ),
    is_hand0,
  ),
  is_hand0,
)

-- and pops the last free row
valid_linked_10 : Valid o linked_10
valid_linked_10 = (
  (
    reading linked_9 refl,
    (λ place e. none_held (119 == place) e),
    record { rest = []; top = refl; unused = refl; link = refl },
  ),
  (
    (reading linked_8 refl, refl, refl),
    ((inl (reading linked_7 refl), refl), valid_linked_7, is_hand0),
    is_hand0,
  ),
  is_hand0,
)

pub valid_linked_15 : Valid o linked_15
valid_linked_15 = (
  (
    record {
      caller = is_caller;
      inside = refl;
      holds_none = λ place z. no_lock_linked (119 == place) (123 == place) z;
    },
    refl,
  ),
  (
    links_second,
    (
      record { held = refl; fits = inl refl },
      (
        record { held = refl; fits = tt },
        (record { held = refl; fits = tt }, valid_linked_10, is_hand0),
        is_hand0,
      ),
      is_hand0,
    ),
    is_hand0,
  ),
  is_hand0,
)
