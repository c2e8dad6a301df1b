-- The words of phases.
use Rattle.std.specs.Prelude.{ℕ, ◌+◌, ◌*◌, ◌<◌}
use Rattle.word_layout.specs.declared.phase.Phase.{Phase}
use Rattle.word_layout.specs.declared.phase.Phase.TheVariants.{Open, Frozen, Opened}

-- the word of a phase: what it is in the lower two bits, above them the first new group's number
abbrev pub word_of_phase : Phase → ℕ
word_of_phase Open = 0
word_of_phase Frozen = 1
word_of_phase (Opened first) = 4 * first + 2

-- a phase that has a word: the group that it names is one that a table may have
abbrev pub IsWritablePhase : Phase → Type 0
IsWritablePhase Open = Unit {0}
IsWritablePhase Frozen = Unit {0}
IsWritablePhase (Opened first) = first < 1048576
