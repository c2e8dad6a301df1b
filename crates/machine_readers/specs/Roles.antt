-- That a group has one place of each kind for a key, and what a caller that reached a place may
-- rely on.
use Rattle.std.specs.Prelude.{◌≡◌, ℕ}
use Rattle.index_machine.specs.declared.opening.Opening.{Opening}
use Rattle.index_machine.specs.Execution.{Execution}
use Rattle.index_machine.specs.Rows.{InArray, InBuffer, role}

-- a group has at most one array place and one row for a key
pub record OnePlaceEach (o : Opening) (t : Execution) : Type 0 where
  pub arrays : (a b g k : ℕ) → role o a t ≡ InArray g k → role o b t ≡ InArray g k →
      a ≡ b
  pub rows : (a b g k : ℕ) → role o a t ≡ InBuffer g k → role o b t ≡ InBuffer g k →
      a ≡ b
