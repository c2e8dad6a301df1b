-- The words of states.
use Rattle.std.specs.Prelude.{◌≡◌, ℕ, ◌+◌, ◌*◌, ◌≤◌, ◌<◌, ◌^◌, Bool, false, if◌then◌else◌}
use Rattle.word_layout.specs.declared.state.State.{State}
use Rattle.word_layout.specs.declared.state.State.TheVariants.{Direct, Redirect, Moved}

-- the word of a state: the version or the place in its upper 60 bits, what it is in the lower four
abbrev pub word_of_state : State → ℕ
word_of_state (Direct version locked removed) =
    16 * version + (if removed then 8 else 0) + (if locked then 4 else 0)
word_of_state (Redirect place) = 16 * place + 1
word_of_state Moved = 2

-- a state that has a word: its version fits, and its place is one of a table
abbrev pub IsWritableState : State → Type 0
IsWritableState (Direct version _ _) = version ≤ 1152921504606846975
IsWritableState (Redirect place) = (1 ≤ place) × (place < 2 ^ 28)
IsWritableState Moved = Unit {0}

-- the word is that of an unlocked record with this version, which can still be raised
pub record IsUnlockedWord (version : ℕ) (removed : Bool) (word : ℕ) : Type 0 where
  pub is : word ≡ word_of_state (Direct version false removed)
  pub raisable : version < 1152921504606846975

-- the word is that of an unlocked record whose version can still be raised
abbrev pub IsLockable : ℕ → Type 0
IsLockable word = (version : ℕ) × (removed : Bool) × IsUnlockedWord version removed word
