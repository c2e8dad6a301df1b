-- The pairs of a layout: each key that has a value, with that value.
--
-- The fact to remember: they are a map, and get, put and remove are look, put and remove of that map.
use Rattle.std.specs.Prelude.{◌≡◌, ℕ, Option, ⊤}
use Rattle.map_model.specs.Map.{IsRising, Map, look}
use Rattle.map_model.specs.Map as map
use Rattle.word_layout.specs.Limits.{KeepsRulesIn}
use Rattle.word_layout.specs.Shape.{Shape}
use Rattle.layout_model.specs.Calls.{AgainFrozen, Done, Full, Outcome, Reply, Worn, get, put, remove, value_of}
use Rattle.layout_model.specs.Layout.{Layout, part_for}
use Rattle.layout_model.specs.Records.{live_record}
use Rattle.layout_model.specs.WellFormed.{IsWellFormed}

-- ---- pairs ----

-- the value that a key has
abbrev pub value_at : Shape → Layout → ℕ → Option ℕ
value_at h s k = value_of (live_record (part_for h s k) k)

-- these are the pairs of the layout
pub record HasPairs (h : Shape) (s : Layout) (m : Map) : Type 0 where
  pub rising : IsRising m
  pub same : (k : ℕ) → look m k ≡ value_at h s k

-- ---- calls ----

-- the reply tells this value, unless it is a refusal
abbrev pub Tells : Option ℕ → Reply → Type 0
Tells value (Done found) = found ≡ value
Tells value Full = ⊤
Tells value Worn = ⊤
Tells value AgainFrozen = ⊤

-- the pairs that a call leaves: these where it is done, and those that it met where it is refused
abbrev pub pairs_left : (met done : Map) → Reply → Map
pairs_left met done (Done found) = done
pairs_left met done Full = met
pairs_left met done Worn = met
pairs_left met done AgainFrozen = met

-- a call on a key tells the value that the pairs had, and leaves these pairs where it is done
pub record MakesPairs (h : Shape) (met : Map) (k : ℕ) (done : Map) (o : Outcome) : Type 0 where
  pub told : Tells (look met k) o.reply
  pub left : HasPairs h o.left (pairs_left met done o.reply)

-- a get leaves all pairs
abbrev pub GetsLook : Type 0
GetsLook = (h : Shape) (c k : ℕ) (s : Layout) (m : Map) → HasPairs h s m →
    MakesPairs h m k m (get h c k s)

-- a put leaves the pairs with its own
abbrev pub PutsPut : Type 0
PutsPut = (h : Shape) (c k v : ℕ) (s : Layout) (m : Map) → KeepsRulesIn h → IsWellFormed h s →
    HasPairs h s m →
    MakesPairs h m k (map.put m k v) (put h c k v s)

-- a remove leaves the pairs without that of its key
abbrev pub RemovesRemove : Type 0
RemovesRemove = (h : Shape) (c k : ℕ) (s : Layout) (m : Map) → IsWellFormed h s → HasPairs h s m →
    MakesPairs h m k (map.remove m k) (remove h c k s)
