use Rattle.std.proofs.Common.{◌≡◌, ℕ, ◌*◌, ◌<◌, length, slice_index, slice_index_or, sym, subst, arith}
use Rattle.map_model.specs.Map.{Map}
use Rattle.index_machine.specs.OpeningRows.{opening_pivots}
use Rattle.opened_table.proofs.LaidPlan.{begins_below, pivot_of_row}
use Rattle.opened_table.proofs.laying.pivot_of_group.Goals as goal

pub bounds-rows-from : goal.bounds-rows-from
bounds-rows-from c =
    let later = c.if-number-eq0.false in
    subst (λ (z : ℕ × ℕ × Map). z.0 * z.1 < length z.2)
    (λ j. (sym c.from.ensures j, sym c.requires.each j, sym c.requires.rows j))
    (begins_below c.args.opening.now c.args.part c.args.number (omega (arith, later)) c.requires.among)

pub returns-else-number-eq0 : goal.returns-else-number-eq0
returns-else-number-eq0 c =
    let later = c.if-number-eq0.false in
    subst
    (λ (z : ℕ × ℕ × Map).
    (slice_index_or z.2 (z.0 * z.1) (0, 0)).0
    ≡ slice_index (opening_pivots c.args.opening.now c.args.part) c.args.number)
    (λ j. (sym c.from.ensures j, sym c.requires.each j, sym c.requires.rows j))
    (pivot_of_row c.args.opening.now c.args.part c.args.number (omega (arith, later)) c.requires.among)
