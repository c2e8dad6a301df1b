use Rattle.std.proofs.Common.{◌<◌, ◌≤◌, List, ℕ, length, subst, sym, arith}
use Rattle.word_layout.specs.Parts.{first_key_of, greatest_key, most_bounds}
use Rattle.word_layout.proofs.KeptBounds.{keeps_bounds-with_bound}
use Rattle.word_layout.proofs.parts.Parts.push.Goals as goal

pub invariant_of-self : goal.invariant_of-self
invariant_of-self c =
    let a = c.self.inside in
    let MayPush : List ℕ → Type 0 =
    λ bounds. (length bounds < most_bounds) × (first_key_of bounds (length bounds) < c.args.bound)
    in
    let may = subst MayPush (sym c.self.view_is) (c.requires.room, c.requires.above) in
    let inside : a.len < length a.bounds = omega (arith, may.0, c.self.invariant.counted) in
    let small : c.args.bound ≤ greatest_key = omega arith in
    keeps_bounds-with_bound a c.args.bound c.self.invariant inside may.0 may.1 small

pub returns-clause-bounds : goal.returns-clause-bounds
returns-clause-bounds c = let keeps = invariant_of-self c in keeps.are_bounds
