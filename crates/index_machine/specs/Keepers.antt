-- The keepers: each part has one, which alone rebuilds the part's groups and stores in its root.
--
-- The fact to remember: whose keeper a hand is, and which part a group is of, never change.
use Rattle.std.specs.Prelude.{◌≡◌, ◌⊎◌, ℕ, ◌+◌, ◌<◌, ◌≤◌}
use Rattle.word_layout.specs.Parts.{IsKeyOfPart, first_key_of, last_key_of}
use Rattle.word_layout.specs.Places.{IsArrayPlace, IsRow}
use Rattle.word_layout.specs.Shape.{parts_in, group_total, part_of_group}
use Rattle.index_machine.specs.declared.opening.Opening.{Opening}
use Rattle.index_machine.specs.Words.{limits, shape}

-- ---- parts ----

-- the number of a part
abbrev pub IsPart : Opening → ℕ → Type 0
IsPart o part = part < parts_in (shape o)

-- the part of a group
abbrev pub part_of : Opening → ℕ → ℕ
part_of o group = part_of_group (shape o) group

-- the key is one of the part's
abbrev pub IsKeyIn : Opening → ℕ → ℕ → Type 0
IsKeyIn o part k = IsKeyOfPart (shape o).bounds part k

-- the least key of a part
abbrev pub first_key : Opening → ℕ → ℕ
first_key o part = first_key_of (shape o).bounds part

-- the greatest key of a part
abbrev pub last_key : Opening → ℕ → ℕ
last_key o part = last_key_of (shape o).bounds part

-- ---- keepers ----

-- the number of a keeper's hand: the keepers' numbers follow those of the callers
abbrev pub IsKeeper : Opening → ℕ → Type 0
IsKeeper o hand = (limits o).callers ≤ hand

-- the hand of the part's keeper
abbrev pub IsPartKeeper : Opening → ℕ → ℕ → Type 0
IsPartKeeper o hand part = hand ≡ (limits o).callers + part

-- the hand of the keeper of the group's part
abbrev pub IsGroupKeeper : Opening → ℕ → ℕ → Type 0
IsGroupKeeper o hand group = IsPartKeeper o hand (part_of o group)

-- ---- places ----

-- the place is one of the group's array
pub record IsArrayPlaceOf (o : Opening) (group place : ℕ) : Type 0 where
  pub group_exists : group < group_total (shape o)
  pub in_array : IsArrayPlace (shape o) group place

-- the hand is a keeper's, and the place is a record row or of an array of its part
abbrev pub IsKeeperAt : Opening → ℕ → ℕ → Type 0
IsKeeperAt o hand place =
    (IsKeeper o hand × IsRow (shape o) place)
    ⊎ ((group : ℕ) × IsArrayPlaceOf o group place × IsGroupKeeper o hand group)
