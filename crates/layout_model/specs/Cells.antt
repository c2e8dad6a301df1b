-- The records of one array or of one lane, as a list with rising keys.
--
-- The fact to remember: a removed record stays in its list, and its value counts as 0.
use Rattle.std.specs.Prelude.{ℕ, Bool, not, cond, ◌==◌, nat_lt, nat_le}
use Rattle.std.specs.Prelude.{Option, Some, None, option_map, List, [], ◌∷◌, map, filter, find}

-- a record in its place: its key, its value, its version, and whether it is removed
pub record Cell : Type 0 where
  pub key : ℕ
  pub value : ℕ
  pub version : ℕ
  pub removed : Bool

-- whether a record has a value
abbrev pub is_live : Cell → Bool
is_live c = not c.removed

-- the record with the key, removed or not
abbrev pub cell_at : List Cell → ℕ → Option Cell
cell_at cells k = find (λ c. c.key == k) cells

-- the record, unless it is removed
abbrev pub unless_removed : Option Cell → Option Cell
unless_removed None = None
unless_removed (Some c) = cond c.removed None (Some c)

-- the record with the key, where it has a value
abbrev pub live_at : List Cell → ℕ → Option Cell
live_at cells k = unless_removed (cell_at cells k)

-- the keys of the records
abbrev pub keys_of : List Cell → List ℕ
keys_of cells = map (λ c. c.key) cells

-- the records that have a value
abbrev pub live_cells : List Cell → List Cell
live_cells cells = filter is_live cells

-- the least key of a record, removed or not, that is not below a key
abbrev pub key_from : List Cell → ℕ → Option ℕ
key_from cells k = option_map (λ c. c.key) (find (λ c. nat_le k c.key) cells)

-- the records with this one in the place of the one with its key
abbrev pub replaced : Cell → List Cell → List Cell
replaced new cells = map (λ c. cond (c.key == new.key) new c) cells

-- the records with this one, whose key they lack, where its key belongs
abbrev pub added : Cell → List Cell → List Cell
added new [] = new ∷ []
added new (c ∷ cs) = cond (nat_lt new.key c.key) (new ∷ c ∷ cs) (c ∷ added new cs)

-- the records of two lists without a key in common, in the order of their keys
abbrev pub merged : List Cell → List Cell → List Cell
merged [] others = others
merged (c ∷ cs) others = added c (merged cs others)

-- the record with another version
abbrev pub with_version : ℕ → Cell → Cell
with_version version c = record c { version = version }
