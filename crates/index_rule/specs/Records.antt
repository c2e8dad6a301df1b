-- What the calls on a record ask of a hand, and what an unlock changes and stores.
use Rattle.std.specs.Prelude.{◌≡◌, ◌≢◌, ◌⊎◌, ℕ, ◌<◌, Bool, false, cond, Option, Some, None, ◌++◌}
use Rattle.map_model.specs.declared.entries.Change.{Change}
use Rattle.map_model.specs.declared.entries.Change.TheVariants.{Put, Remove}
use Rattle.index_machine.specs.declared.opening.Opening.{Opening}
use Rattle.index_machine.specs.Execution.{Execution, Without}
use Rattle.index_machine.specs.Words.{limits}
use Rattle.index_machine.specs.Sections.{IsReading}
use Rattle.index_machine.specs.Keepers.{IsPart, IsPartKeeper}
use Rattle.index_machine.specs.Rows.{InBuffer, role_key, role}
use Rattle.index_machine.specs.Forms.{Form, Blank, Unlocked, Locked, Copied, Redirect, Moved}
use Rattle.index_machine.specs.Forms.{IsLockedBy, is_removed, without_lock, state_word}
use Rattle.index_machine.specs.Places.{form}
use Rattle.index_machine.specs.Reaching.{SeesSlot}
use Rattle.index_machine.specs.Permissions.{IsBufferFor, MayInsertInto}
use Rattle.index_machine.specs.LivePlaces.{live_place}
use Rattle.index_machine.specs.Conditions.{Valid}
use Rattle.index_machine.specs.RecordConditions.{IsAt, KeepsPlace}

-- ---- what a hand can load ----

-- the words of the place can be loaded: the caller stands there, or the place is in a group of the
-- keeper's part
abbrev pub CanSee : Opening → ℕ → ℕ → Execution → Type 0
CanSee o hand place t = IsAt o hand place t ⊎ KeepsPlace o t hand place

-- the keeper of the part names a slot of its root
pub record KeepsSlot (o : Opening) (hand part side slot : ℕ) : Type 0 where
  pub keeper : IsPartKeeper o hand part
  pub is_part : IsPart o part
  pub is_side : side < 2
  pub is_slot : slot < (limits o).slots

-- the words of the slot can be loaded: the caller sees the slot in the root word of the part that it
-- loaded, or the part's keeper names one of its root
abbrev pub CanReadSlot : Opening → ℕ → ℕ → ℕ → ℕ → Execution → Type 0
CanReadSlot o hand part side slot t =
    (IsReading o hand t × SeesSlot hand part side slot t) ⊎ KeepsSlot o hand part side slot

-- ---- what a hand can change ----

-- the caller holds the version lock of the place where it stands
pub record HoldsLock (o : Opening) (hand place : ℕ) (t : Execution) : Type 0 where
  pub there : IsAt o hand place t
  pub locked : IsLockedBy hand (form o place t)

-- the hand holds no version lock but that of this place
abbrev pub HoldsNoOther : Opening → ℕ → ℕ → Execution → Type 0
HoldsNoOther o hand place t =
    (other : ℕ) → place ≢ other → IsLockedBy hand (form o other t) → ⊥

-- ---- keys ----

-- a number, or 0 for none
abbrev pub or_zero : Option ℕ → ℕ
or_zero None = 0
or_zero (Some n) = n

-- the key of a place, or 0 where it has none
abbrev pub key_at : Opening → ℕ → Execution → ℕ
key_at o place t = or_zero (role_key (role o place t))

-- ---- what an unlock needs ----

-- the row of a buffer may come to life again: its key belongs there and lives nowhere
abbrev pub IsRevivable : Opening → ℕ → ℕ → Execution → Type 0
IsRevivable o hand place t =
    (group : ℕ) × (role o place t ≡ InBuffer group (key_at o place t))
    × MayInsertInto hand group t × IsBufferFor o (key_at o place t) group t
    × (live_place o (key_at o place t) t ≡ None)

-- the unlock brings a removed record to life: whatever others do until then, it may
pub record Revives (o : Opening) (hand place : ℕ) (removed : Bool) (t : Execution)
    : Type 0 where
  pub kept : removed ≡ false
  pub revivable : (newer : Execution) → Valid o (newer ++ t) → Without hand newer →
      IsRevivable o hand place (newer ++ t)

-- the caller may unlock the place, and leave it removed or with its value: the record was live when
-- it was locked, or comes to life
pub record MayRelease (o : Opening) (hand place : ℕ) (removed : Bool) (t : Execution)
    : Type 0 where
  pub holds : HoldsLock o hand place t
  pub live : (is_removed (form o place t) ≡ false) ⊎ Revives o hand place removed t

-- ---- what an unlock makes ----

-- the value that a form has once it is unlocked
abbrev pub value_of : Form → ℕ
value_of Blank = 0
value_of (Unlocked version removed value) = value
value_of (Locked hand version removed before value) = value
value_of (Copied version removed value) = value
value_of (Redirect place value) = value
value_of Moved = 0

-- the change that an unlock by the hand makes: its key is removed, or has the value of the place
abbrev pub change_by : Opening → ℕ → ℕ → Bool → Execution → Change
change_by o hand place removed t =
    cond removed (Remove hand (key_at o place t))
    (Put hand (key_at o place t) (value_of (form o place t)))

-- the state word of the place once it is unlocked: its version is raised by one
abbrev pub unlocked_word : Opening → ℕ → Bool → Execution → ℕ
unlocked_word o place removed t = state_word (without_lock removed (form o place t))
