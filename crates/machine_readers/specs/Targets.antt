-- What a caller can meet behind a redirect and at the places of a key's group.
--
-- The fact to remember: a redirect leads to the record itself, and a record is copied away only
-- from a group that its key has left and where no caller stands.
use Rattle.std.specs.Prelude.{◌≡◌, ◌≢◌, ◌⊎◌, ℕ, true, Some, ◌++◌}
use Rattle.index_machine.specs.declared.opening.Opening.{Opening}
use Rattle.index_machine.specs.Execution.{Execution}
use Rattle.index_machine.specs.Sections.{IsCaller, StaysInside}
use Rattle.index_machine.specs.Rows.{InArray, InBuffer, role_key, role}
use Rattle.index_machine.specs.Forms.{Form, Blank, Redirect, IsUnlocked, IsLockedBy}
use Rattle.index_machine.specs.Places.{form}
use Rattle.index_machine.specs.KeyRanges.{predecessor}
use Rattle.index_machine.specs.Permissions.{IsBufferFor}
use Rattle.index_machine.specs.Reaching.{stands_in, reached}
use Rattle.index_machine.specs.Conditions.{Valid}

-- ---- forms ----

-- the record itself: unlocked, or a hand holds its version lock
abbrev pub IsDirect : Form → Type 0
IsDirect f = IsUnlocked f ⊎ ((hand : ℕ) × IsLockedBy hand f)

-- a forwarding pointer
abbrev pub IsRedirect : Form → Type 0
IsRedirect f = (to : ℕ) × (value : ℕ) × (f ≡ Redirect to value)

-- ---- behind redirects ----

-- a redirect leads to a record itself: not to another redirect, nor to what was copied away
abbrev pub RedirectTargetsAreDirect : Type 0
RedirectTargetsAreDirect =
    (o : Opening) (t : Execution) → Valid o t → (a g k place value : ℕ) →
    role o a t ≡ InArray g k → form o a t ≡ Redirect place value → IsDirect (form o place t)

-- a place that a caller reached, behind a redirect or by a link, does not forward, nor is it blank.
-- It may have been copied away since
abbrev pub ReachedPlacesDoNotForward : Type 0
ReachedPlacesDoNotForward =
    (o : Opening) (t : Execution) → Valid o t → (caller place : ℕ) → IsCaller o caller →
    reached caller place t ≡ true →
    ((to value : ℕ) → form o place t ≢ Redirect to value) × (form o place t ≢ Blank)

-- ---- in any group ----

-- a place of a key is not blank, whichever group it is of
abbrev pub PlacesOfKeysAreNotBlank : Type 0
PlacesOfKeysAreNotBlank =
    (o : Opening) (t : Execution) → Valid o t → (place k : ℕ) →
    role_key (role o place t) ≡ Some k → form o place t ≢ Blank

-- a row does not forward, whichever buffer it is of
abbrev pub RowsDoNotForward : Type 0
RowsDoNotForward =
    (o : Opening) (t : Execution) → Valid o t → (place group k to value : ℕ) →
    role o place t ≡ InBuffer group k → form o place t ≢ Redirect to value

-- ---- in the group of a key ----

-- what the group has for the key is the record itself, or forwards to it from the array: nothing of
-- the key was copied away
pub record HoldsRecords (o : Opening) (group k : ℕ) (t : Execution) : Type 0 where
  pub rows : (place : ℕ) → role o place t ≡ InBuffer group k → IsDirect (form o place t)
  pub array : (place : ℕ) → role o place t ≡ InArray group k →
      IsDirect (form o place t) ⊎ IsRedirect (form o place t)

-- the group of a key holds the key's records, and so does the new one of an opened group
abbrev pub GroupsHoldRecords : Type 0
GroupsHoldRecords =
    (o : Opening) (t : Execution) → Valid o t → (group k : ℕ) → IsBufferFor o k group t →
    HoldsRecords o group k t

-- so does the group where a caller stands, to the end of its read section, if it was one of these, or the
-- group before, at one moment of the read section
abbrev pub CallersMeetRecords : Type 0
CallersMeetRecords =
    (o : Opening) (c group k : ℕ) → IsCaller o c → (newer t : Execution) → Valid o (newer ++ t) →
    StaysInside c newer → stands_in c group t ≡ true →
    IsBufferFor o k group t ⊎ (predecessor o k t ≡ Some group) →
    HoldsRecords o group k (newer ++ t)
