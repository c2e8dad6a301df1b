-- The whole rebuild begins: a caller puts the key 5 into the table's one group.
use Rattle.std.proofs.Common.{◌≡◌, ℕ, ◌<◌, inl, Some}
use Rattle.std.proofs.Common.{None, Bool, true, false, [], ◌∷◌, cond, refl, sym}
use Rattle.std.proofs.Common.{arith}
use Rattle.std.specs.Prelude.{◌==◌}
use Rattle.index_machine.proofs.Options.{not_so}
use Rattle.index_machine.specs.Conditions.{Valid}
use Rattle.index_machine.specs.Execution.{Execution}
use Rattle.index_machine.specs.Groups.{IsInUse, rebuild}
use Rattle.index_machine.specs.KeyRanges.{or_else}
use Rattle.index_machine.specs.Lanes.{HasLane}
use Rattle.index_machine.specs.Permissions.{MayInsertInto}
use Rattle.index_machine.specs.Reaching.{saw_open}
use Rattle.index_machine.specs.RecordConditions.{MayLink}
use Rattle.index_machine.specs.Rows.{HeldBy, HoldsNone, InBuffer, Unused}
use Rattle.index_machine.specs.Sections.{IsCaller, IsHand, IsInside, IsReading}
use Rattle.map_model.specs.declared.entries.Change.TheVariants as change
use Rattle.worked_executions.proofs.Equations.{Same}
use Rattle.worked_executions.proofs.OneCaller.{no_insert_unmade}
use Rattle.worked_executions.proofs.SmallForms.{no_lock_first}
use Rattle.worked_executions.proofs.SmallTable.{o, put_1, put_10, put_12, put_2, put_3, put_4}
use Rattle.worked_executions.proofs.SmallTable.{put_5, put_6, put_7}

-- ---- facts of numbers and of flags ----

pub caller_is : (c : ℕ) → IsCaller o c → Same 0 c
caller_is c is = let h : c < 1 = is in omega (arith, h)

pub is_caller : IsCaller o 0
is_caller = let h : 0 < 1 = omega arith in h

pub is_hand0 : IsHand o 0
is_hand0 = let h : 0 < 2 = omega arith in h

pub is_hand1 : IsHand o 1
is_hand1 = let h : 1 < 2 = omega arith in h

pub first_slot_used : IsInUse 2 0 0
first_slot_used = (1, refl, omega arith, omega arith)

-- ---- group of a key, before and after the install ----

pub before_group : (w : Bool) → Same (cond w 0 2) 1 → ⊥
before_group true e = omega (arith, e)
before_group false e = omega (arith, e)

pub after_group : (w v : Bool) → v ≡ w →
    Same (cond w (or_else (cond w (Some 1) None) (cond v 0 2)) (cond v 0 2)) 0 → ⊥
after_group true v same e = omega (arith, e)
after_group false false same e = omega (arith, e)
after_group false true same e = not_so (sym same)

-- ---- what the caller may do ----

-- the caller may not insert where it did not see the group open, and no rebuild made the group
pub no_insert : (t : Execution) (g : ℕ) → saw_open 0 g t ≡ false → rebuild g t ≡ None → (c : ℕ) →
    IsCaller o c → MayInsertInto c g t → ⊥
no_insert t g shut none = no_insert_unmade o caller_is t g shut none

-- ---- the first record ----

abbrev pub reading : (t : Execution) → IsInside 0 t → IsReading o 0 t
reading t inside = record { caller = is_caller; inside = inside }

pub holds_none_first : HoldsNone o 0 put_6
holds_none_first place e = let bad : Unused ≡ HeldBy 0 = e in cc

pub alone_first : (w : Bool) → cond w (HeldBy 0) Unused ≡ InBuffer 0 5 → ⊥
alone_first true e = cc
alone_first false e = cc

pub valid_put_7 : Valid o put_7
valid_put_7 = (
  (
    reading put_6 refl,
    holds_none_first,
    record {
      rest = 123 ∷ [];
      top = refl;
      unused = refl;
      link =
          refl;
    },
  ),
  (
    (reading put_5 refl, refl, refl),
    (
      (inl (reading put_4 refl), refl),
      (
        record { allowed = inl (reading put_3 refl, refl); found_word = refl; says = refl },
        (
          record {
            allowed = inl (reading put_2 refl, (2, refl, first_slot_used));
            found_word =
                refl;
            says = refl;
          },
          (
            record {
              allowed = inl (reading put_1 refl);
              is_part = omega arith;
              found_word = refl;
              says = refl;
            },
            ((record { caller = is_caller; outside = refl }, refl), tt, is_hand0),
            is_hand0,
          ),
          is_hand0,
        ),
        is_hand0,
      ),
      is_hand0,
    ),
    is_hand0,
  ),
  is_hand0,
)

-- the one lane of group 0 has each key
pub in_first_lane : HasLane o 0 0 5 put_10
in_first_lane = record { is_lane = omega arith; from = omega arith; end = inl refl }

pub links_it : MayLink o put_10 0 0 0 119 (change.Put 0 5 7) 0 0
links_it = record {
  caller = is_caller;
  value = 7;
  mine = refl;
  key_word = refl;
  value_word = refl;
  new_word = refl;
  link_word = refl;
  in_lane = in_first_lane;
  behind = inl refl;
  expected = refl;
  makes = (refl, refl, refl);
  permission = inl refl;
  belongs = inl refl;
  not_live_elsewhere = refl;
  alone = λ other e. alone_first (119 == other) e;
  behind_smaller = λ k e. let bad : Unused ≡ InBuffer 0 k = e in cc;
  ahead = inl refl;
  ahead_greater = λ k e. let bad : Unused ≡ InBuffer 0 k = e in cc;
}

pub valid_put_12 : Valid o put_12
valid_put_12 = (
  (
    record {
      caller = is_caller;
      inside = refl;
      holds_none = λ place z. no_lock_first (119 == place) z;
    },
    refl,
  ),
  (
    links_it,
    (
      record { held = refl; fits = inl refl },
      (
        record { held = refl; fits = tt },
        (record { held = refl; fits = tt }, valid_put_7, is_hand0),
        is_hand0,
      ),
      is_hand0,
    ),
    is_hand0,
  ),
  is_hand0,
)
