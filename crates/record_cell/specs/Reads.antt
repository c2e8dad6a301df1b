-- What a read did, and what its answer tells.
use Rattle.std.specs.Prelude.{◌≡◌, ◌≢◌, ◌⊎◌, ℕ, Bool, Some, None}
use Rattle.index_machine.specs.declared.events.Action.TheVariants.{LoadState, LoadValue}
use Rattle.index_machine.specs.declared.opening.Opening.{Opening}
use Rattle.index_machine.specs.Execution.{Execution}
use Rattle.index_machine.specs.Forms.{Form, Copied, IsLockedBy, live_value}
use Rattle.index_machine.specs.Places.{form}
use Rattle.index_machine.specs.LivePlaces.{value_in_map}
use Rattle.index_machine.specs.Rows.{role, role_key}
use Rattle.machine_readers.specs.Redirects.{HasNoValue}
use Rattle.index_rule.specs.declared.board.Board.{Board}
use Rattle.index_rule.specs.declared.hand.Hand.{Hand}
use Rattle.index_rule.specs.Hands.{Makes, known, opening_of}
use Rattle.index_rule.specs.Moments.{IsWithin}
use Rattle.index_rule.specs.Records.{key_at}
use Rattle.record_cell.specs.declared.answers.Read.{Read}
use Rattle.record_cell.specs.declared.answers.Read.TheVariants as read
use Rattle.record_cell.specs.Conditions.{IsLockedState, IsTombstoneState, IsLiveState}
use Rattle.record_cell.specs.Finding.{Finds, HasSameKey}

-- ---- the steps ----

-- behind the first load of the state word, the value and the state word were loaded
abbrev pub LoadsAgain : Board → Hand → ℕ → ℕ → ℕ → Hand → Type 0
LoadsAgain b h at value second k =
    (between : Hand) × Makes b h (LoadValue at value) between
    × Makes b between (LoadState at second) k

-- the loads of a read, by its answer
abbrev pub Reads : Board → Hand → ℕ → Read → Hand → Type 0
Reads b h place (read.Live value) k =
    (at : ℕ) × (word : ℕ) × (m : Hand) × Finds b h place at word m × IsLiveState word
    × LoadsAgain b m at value word k
Reads b h place read.Gone k =
    (at : ℕ) × (word : ℕ) × Finds b h place at word k × IsTombstoneState word
Reads b h place (read.Locked at word) k = Finds b h place at word k × IsLockedState word
Reads b h place (read.Changed at first second) k =
    (value : ℕ) × (m : Hand) × Finds b h place at first m × IsLiveState first
    × LoadsAgain b m at value second k × (first ≢ second)

-- ---- what the answer tells ----

-- the place was then the one of its group and key that it was as the call began
abbrev pub IsStill : Board → Hand → ℕ → Execution → Type 0
IsStill b h place moment =
    role (opening_of b) place moment ≡ role (opening_of b) place (known h)

-- the key of the place had this value in the map at a moment of the call
abbrev pub FindsValue : Board → Hand → ℕ → ℕ → Hand → Type 0
FindsValue b h place value k =
    (moment : Execution) × IsWithin h k moment × IsStill b h place moment
    × (value_in_map (opening_of b) (key_at (opening_of b) place (known h)) moment ≡ Some value)

-- no place of the key but this one has a value
abbrev pub HasNoValueElsewhere : Opening → ℕ → ℕ → Execution → Type 0
HasNoValueElsewhere o key place t =
    (other : ℕ) → role_key (role o other t) ≡ Some key → (other ≡ place) ⊎ HasNoValue o t other

-- the place had no value at a moment of the call; if no other place of its key had one either, the
-- key was not in the map
abbrev pub FindsNone : Board → Hand → ℕ → Hand → Type 0
FindsNone b h place k =
    let o = opening_of b in
    let key = key_at o place (known h) in
    (moment : Execution) × IsWithin h k moment × IsStill b h place moment
    × HasNoValue o moment place
    × (HasNoValueElsewhere o key place moment → value_in_map o key moment ≡ None)

-- the place had a value at a moment of the call, and so had its key in the map
abbrev pub FindsLive : Board → Hand → ℕ → Hand → Type 0
FindsLive b h place k =
    let o = opening_of b in
    (moment : Execution) × IsWithin h k moment × IsStill b h place moment
    × (value : ℕ) × (live_value (form o place moment) ≡ Some value)
    × (value_in_map o (key_at o place (known h)) moment ≡ Some value)

-- another hand holds the version lock, or the keeper still does after the record was copied
abbrev pub IsHeldByAnother : ℕ → Form → Type 0
IsHeldByAnother hand f =
    ((other : ℕ) × (other ≢ hand) × IsLockedBy other f)
    ⊎ ((version : ℕ) × (removed : Bool) × (value : ℕ) × (f ≡ Copied version removed value))

-- so it is at the load that ended the call, at a place of the key
abbrev pub FindsLock : Board → Hand → ℕ → ℕ → Hand → Type 0
FindsLock b h place at k =
    IsHeldByAnother h.number (form (opening_of b) at (known k)) × HasSameKey b h place at k

-- what the answer of a read tells of the key
abbrev pub ReadTells : Board → Hand → ℕ → Read → Hand → Type 0
ReadTells b h place (read.Live value) k = FindsValue b h place value k
ReadTells b h place read.Gone k = FindsNone b h place k
ReadTells b h place (read.Locked at word) k = FindsLock b h place at k
ReadTells b h place (read.Changed at first second) k = HasSameKey b h place at k
