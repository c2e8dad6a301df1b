-- The root word.
use Rattle.std.specs.Prelude.{ℕ, ◌+◌, ◌*◌}

-- the root word: the number of slots in use, and in its lowest bit the side that they are on
abbrev pub word_of_root : ℕ → ℕ → ℕ
word_of_root len side = 2 * len + side
