-- A bound that is stored behind those of an array.
use Rattle.std.proofs.Common.{◌≡◌, ◌∙◌, ℕ, suc, ◌+◌, ◌-◌, ◌<◌, ◌≤◌, List, [], ◌∷◌, ◌++◌}
use Rattle.std.proofs.Common.{length, drop, set, sym, ap, subst, arith, append_assoc}
use Rattle.std.specs.Prelude.{replicate}
use Rattle.std.proofs.lemmas.List.{take_more_set, set_split, drop-replicate, length-append}
use Rattle.std.proofs.Math.Seq.{drop-append-add}
use Rattle.word_layout.specs.declared.parts.Parts.TheInside.{Inside}
use Rattle.word_layout.specs.Parts.{AreBounds, most_bounds, greatest_key, first_key_of}
use Rattle.word_layout.specs.BoundArrays.{kept_bounds, filled_up, KeepsBounds}
use Rattle.word_layout.proofs.KeySpace.{are_bounds-push}

-- what is kept once the bound is stored
abbrev pub with_bound : Inside → ℕ → Inside
with_bound a bound = record { bounds = set a.bounds a.len bound; len = a.len + 1 }

pub kept_bounds-with_bound : (a : Inside) (bound : ℕ) → a.len < length a.bounds →
    kept_bounds (with_bound a bound) ≡ kept_bounds a ++ bound ∷ []
kept_bounds-with_bound a bound h = take_more_set a.bounds a.len bound h

-- the zeros behind the bound that is stored
zeros_behind : (a : Inside) → KeepsBounds a →
    drop (suc a.len) a.bounds ≡ replicate (most_bounds - a.len - 1) 0
zeros_behind a keeps =
    let bounds = kept_bounds a in
    let zeros : List ℕ = replicate (most_bounds - length bounds) 0 in
    let at : suc a.len ≡ length bounds + 1 = omega (arith, keeps.counted) in
    ap (λ (n : ℕ). drop n a.bounds) at
    ∙ ap (drop (length bounds + 1)) keeps.filled
    ∙ drop-append-add bounds zeros 1
    ∙ drop-replicate 1 (most_bounds - length bounds) 0
    ∙ ap (λ (n : ℕ). replicate (most_bounds - n - 1) 0) keeps.counted

filled-with_bound : (a : Inside) (bound : ℕ) → KeepsBounds a → a.len < length a.bounds →
    set a.bounds a.len bound ≡ filled_up (kept_bounds a ++ bound ∷ [])
filled-with_bound a bound keeps room =
    let bounds : List ℕ = kept_bounds a in
    let longer = length-append bounds (bound ∷ []) in
    let left : most_bounds - a.len - 1 ≡ most_bounds - length (bounds ++ bound ∷ []) =
    omega (arith, keeps.counted)
    in
    let rest : List ℕ = replicate (most_bounds - length (bounds ++ bound ∷ [])) 0 in
    let behind : drop (suc a.len) a.bounds ≡ rest =
    zeros_behind a keeps ∙ ap (λ (n : ℕ). replicate n 0) left
    in
    set_split a.bounds a.len bound room
    ∙ ap (λ (zeros : List ℕ). bounds ++ bound ∷ zeros) behind
    ∙ sym (append_assoc bounds (bound ∷ []) rest)

-- one bound more is kept
pub keeps_bounds-with_bound : (a : Inside) (bound : ℕ) → KeepsBounds a → a.len < length a.bounds →
    length (kept_bounds a) < most_bounds →
    first_key_of (kept_bounds a) (length (kept_bounds a)) < bound → bound ≤ greatest_key →
    KeepsBounds (with_bound a bound)
keeps_bounds-with_bound a bound keeps inside room above small =
    let now = kept_bounds-with_bound a bound inside in
    let longer = length-append (kept_bounds a) (bound ∷ []) in
    record {
      are_bounds = subst AreBounds (sym now)
          (are_bounds-push (kept_bounds a) bound keeps.are_bounds room above small);
      counted = ap length now ∙ omega (arith, keeps.counted);
      filled = filled-with_bound a bound keeps inside ∙ ap filled_up (sym now);
    }
