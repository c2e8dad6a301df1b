use Rattle.std.proofs.Common.{ℕ, ◌+◌, ◌<◌}
use Rattle.map_model.specs.Map.{key_at}
use Rattle.xindex_core.proofs.refusing.first_unsorted.Given as goal

abbrev pub invariant-loop-at : goal.invariant-loop-at
invariant-loop-at l = (i : ℕ) → i + 1 < l.at → key_at l.rows i < key_at l.rows (i + 1)
