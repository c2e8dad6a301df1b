-- Rows that are copied one by one.
use Rattle.std.proofs.Common.{ℕ, [], ◌∷◌, ◌++◌}
use Rattle.std.specs.List.{AllByRecursion}
use Rattle.map_model.specs.Map.{Map}

-- what all elements keep, and one more does too, all keep with this one behind them
pub all_more : (P : ℕ × ℕ → Type 0) (rows : Map) (row : ℕ × ℕ) → AllByRecursion P rows → P row →
    AllByRecursion P (rows ++ row ∷ [])
all_more P [] row all one = (one, tt)
all_more P (first ∷ rows) row all one = (all.0, all_more P rows row all.1 one)
