-- The rows of a buffer.
use Rattle.std.specs.Prelude.{◌≡◌, ℕ, cond, ◌==◌, Some, [], ◌∷◌}
use Rattle.map_model.specs.Map.{Map, look, put, key_of}
use Rattle.index_machine.specs.declared.events.Action.{Action}
use Rattle.index_machine.specs.declared.events.Action.TheVariants.{LinkRow, NewGroup}
use Rattle.index_machine.specs.declared.opening.Opening.{Opening}
use Rattle.index_machine.specs.Execution.{Execution}
use Rattle.index_machine.specs.Rows.{InBuffer, role}

-- the rows of a buffer after an action, where they were these before
abbrev pub rows_after : ℕ → Action → Map → Map
rows_after g (LinkRow h lane q d before next) m = cond (h == g) (put m (key_of d) q) m
rows_after g (NewGroup h low high f) m = cond (h == g) [] m
rows_after g _ m = m

-- the rows that were linked into a group's buffer since the group was begun, each by its key
abbrev pub rows : ℕ → Execution → Map
rows g [] = []
rows g (e ∷ t) = rows_after g e.action (rows g t)

-- each row that stands in a buffer is among those linked into it
abbrev pub RowsAreListed : Opening → Execution → Type 0
RowsAreListed o t = (g k q : ℕ) → role o q t ≡ InBuffer g k → look (rows g t) k ≡ Some q
