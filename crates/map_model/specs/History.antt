-- Histories of changes, and the maps that they leave. The newest change stands first, so what stands behind a change is
-- the history before it.
use Rattle.std.specs.Prelude.{ℕ, ◌+◌, Bool, false, Option, Some, None, List, [], ◌∷◌, cond, ◌==◌}
use Rattle.std.specs.Prelude.{is_none, IsSome, filter}
use Rattle.map_model.specs.declared.entries.Change.{Change}
use Rattle.map_model.specs.declared.entries.Change.TheVariants as change
use Rattle.map_model.specs.Map.{Map, look, map_after, key_of}

-- the changes of the map, the newest first
abbrev pub History : Type 0
History = List Change

-- the caller that made a change
abbrev pub caller_of : Change → ℕ
caller_of (change.Put c k v) = c
caller_of (change.Remove c k) = c

-- what a change leaves at its key
abbrev pub left_by : Change → Option ℕ
left_by (change.Put c k v) = Some v
left_by (change.Remove c k) = None

-- the map that a history leaves, from an opening map
abbrev pub after : Map → History → Map
after m [] = m
after m (c ∷ cs) = map_after c (after m cs)

-- the change may follow on the map: a remove finds its key
abbrev pub MayFollow : Map → Change → Type 0
MayFollow m (change.Put c k v) = Unit {0}
MayFollow m (change.Remove c k) = IsSome (look m k)

-- each change may follow on the map that those before it leave
abbrev pub IsLegal : Map → History → Type 0
IsLegal m [] = Unit {0}
IsLegal m (c ∷ cs) = MayFollow (after m cs) c × IsLegal m cs

-- the changes of one caller
abbrev pub changes_by : ℕ → History → History
changes_by c h = filter (λ x. caller_of x == c) h

-- how many changes a key has
abbrev pub changes_at : ℕ → History → ℕ
changes_at k [] = 0
changes_at k (c ∷ h) = cond (key_of c == k) (changes_at k h + 1) (changes_at k h)

-- whether the change is inserting: a put of a key that the map lacks
abbrev pub is_inserting : Map → Change → Bool
is_inserting m (change.Put c k v) = is_none (look m k)
is_inserting m (change.Remove c k) = false

-- how many changes of a history are inserting, from an opening map
abbrev pub inserts : Map → History → ℕ
inserts m [] = 0
inserts m (c ∷ cs) = cond (is_inserting (after m cs) c) (inserts m cs + 1) (inserts m cs)
