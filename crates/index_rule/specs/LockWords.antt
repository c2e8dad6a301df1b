-- The state word that a caller locked, which it keeps until it unlocks the place.
use Rattle.std.specs.Prelude.{◌≡◌, ℕ, Bool}
use Rattle.word_layout.specs.State.{IsUnlockedWord}
use Rattle.index_machine.specs.declared.events.Action.{Action}
use Rattle.index_machine.specs.declared.events.Action.TheVariants.{Lock}
use Rattle.index_machine.specs.declared.opening.Opening.{Opening}
use Rattle.index_machine.specs.Execution.{Execution}
use Rattle.index_machine.specs.Forms.{Locked}
use Rattle.index_machine.specs.Places.{form}

-- the word is the one that the hand locked, wherever it holds a version lock
abbrev pub IsLockedWord : Opening → ℕ → ℕ → Execution → Type 0
IsLockedWord o hand word t =
    (place version : ℕ) (removed : Bool) (before value : ℕ) →
    form o place t ≡ Locked hand version removed before value →
    IsUnlockedWord version removed word

-- the word that a hand locked last, after an action of its own
abbrev pub locked_word_after : Action → ℕ → ℕ
locked_word_after (Lock place expected) word = expected
locked_word_after _ word = word
