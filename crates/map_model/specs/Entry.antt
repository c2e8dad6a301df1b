-- What an entry says of the map just before it and just after it.
use Rattle.std.specs.Prelude.{◌≡◌, ℕ, ◌≤◌, [], ◌∷◌, Some, None, Option}
use Rattle.map_model.specs.declared.entries.Entry.{Entry}
use Rattle.map_model.specs.declared.entries.Entry.TheVariants.{Made, Look}
use Rattle.map_model.specs.Map.{Map, look, cut, map_after, key_of}

-- from lo to hi stands nothing, or one pair alone, whose key is hi
abbrev pub IsFound : Map → ℕ → ℕ → Option (ℕ × ℕ) → Type 0
IsFound m lo hi None = cut m lo hi ≡ []
IsFound m lo hi (Some pair) = (cut m lo hi ≡ pair ∷ []) × (pair.0 ≡ hi)

-- the entry is true of the map m, and leaves the map n
abbrev pub StandsBetween : Map → Entry → Map → Type 0
StandsBetween m (Made place change old) n =
    (look m (key_of change) ≡ old) × (n ≡ map_after change m)
StandsBetween m (Look place lo hi found) n = (lo ≤ hi) × IsFound m lo hi found × (n ≡ m)
