-- What the state word of a record says of it.
use Rattle.std.specs.Prelude.{◌≡◌, ℕ, Bool, true, false}
use Rattle.word_layout.specs.State.{word_of_state, IsUnlockedWord}
use Rattle.word_layout.specs.declared.state.State.TheVariants.{Direct}
use Rattle.record_cell.specs.declared.finding.Condition.{Condition}
use Rattle.record_cell.specs.declared.finding.Condition.TheVariants as condition

-- the word of a record: neither a forwarding pointer nor what was copied away
abbrev pub IsRecordWord : ℕ → Type 0
IsRecordWord word =
    (version : ℕ) × (locked : Bool) × (removed : Bool)
    × (word ≡ word_of_state (Direct version locked removed))

-- the word of a record whose version lock is held
abbrev pub IsLockedState : ℕ → Type 0
IsLockedState word =
    (version : ℕ) × (removed : Bool) × (word ≡ word_of_state (Direct version true removed))

-- the word of an unlocked tombstone
abbrev pub IsTombstoneState : ℕ → Type 0
IsTombstoneState word = (version : ℕ) × (word ≡ word_of_state (Direct version false true))

-- the word of an unlocked record with a value
abbrev pub IsLiveState : ℕ → Type 0
IsLiveState word = (version : ℕ) × (word ≡ word_of_state (Direct version false false))

-- the word of an unlocked record, removed or not, whose version can still be raised
abbrev pub IsChangeable : Bool → ℕ → Type 0
IsChangeable removed word = (version : ℕ) × IsUnlockedWord version removed word

-- the word of a record says this of it
abbrev pub SaysCondition : ℕ → Condition → Type 0
SaysCondition word condition.Locked = IsLockedState word
SaysCondition word (condition.Tombstone version) = word ≡ word_of_state (Direct version false true)
SaysCondition word (condition.Live version) = word ≡ word_of_state (Direct version false false)
