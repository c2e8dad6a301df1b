-- How the bounds of parts are kept: in an array, with zeros behind them.
use Rattle.std.specs.Prelude.{◌≡◌, ℕ, ◌-◌, List, ◌++◌, length, take, replicate}
use Rattle.std.proofs.Common.{◌∙◌, sym, ap}
use Rattle.word_layout.specs.declared.parts.Parts.TheInside.{Inside}
use Rattle.word_layout.specs.Parts.{AreBounds, most_bounds}

-- the bounds that are kept
abbrev pub kept_bounds : Inside → List ℕ
kept_bounds kept = take kept.len kept.bounds

-- the bounds with zeros behind them
abbrev pub filled_up : List ℕ → List ℕ
filled_up bounds = bounds ++ replicate (most_bounds - length bounds) 0

-- how these bounds are kept
abbrev pub array_of : List ℕ → Inside
array_of bounds = record { bounds = filled_up bounds; len = length bounds }

-- what is kept are bounds, as many as it says, and zeros behind them
pub record KeepsBounds (kept : Inside) : Type 0 where
  pub are_bounds : AreBounds (kept_bounds kept)
  pub counted : length (kept_bounds kept) ≡ kept.len
  pub filled : kept.bounds ≡ filled_up (kept_bounds kept)

-- what is kept is settled by its bounds
pub array_of-kept_bounds : (a : Inside) → KeepsBounds a → array_of (kept_bounds a) ≡ a
array_of-kept_bounds a h =
    let bounds = kept_bounds a in
    ap (λ (array : List ℕ). kept array (length bounds)) (sym h.filled)
    ∙ ap (kept a.bounds) h.counted
  where
    kept : List ℕ → ℕ → Inside
    kept array len = record { bounds = array; len = len }
