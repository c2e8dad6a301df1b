use Rattle.std.proofs.Common.{◌+◌, ◌≤◌, ◌<◌, ℕ, List, length, sym, ap, subst, ◌∙◌, arith}
use Rattle.std.specs.List.Sorted.{IsPartitionPoint}
use Rattle.map_model.specs.Map.{Map}
use Rattle.word_layout.specs.Parts.{part_with}
use Rattle.index_machine.specs.Words.{shape}
use Rattle.index_machine.specs.Keepers.{IsPart}
use Rattle.opened_table.specs.Laying.{IsOfFirst, IsOfPart}
use Rattle.opened_table.proofs.WordKinds.{lays_more, lays_none}
use Rattle.opened_table.proofs.LaidParts.{one_part}
use Rattle.opened_table.proofs.PartRows.{AreFrom, from_first, later_rows, own_rows}
use Rattle.opened_table.proofs.laying.lay_parts.Goals as goal

pub loop-part-init : goal.loop-part-init
loop-part-init c =
    let o = c.args.opening.now in
    record {
      done = lays_none o (IsOfFirst (IsOfPart o) 0) c.args.words.now.items
          (λ w of. let lt = of.1 in absurd (omega (arith, lt)));
      from = subst (AreFrom (shape o).bounds 0 o.rows) (sym c.requires.rows)
          (from_first (shape o).bounds o.rows o.rising);
    }

pub count_in_part-requires : goal.count_in_part-requires
count_in_part-requires c = c.loop-part.invariant.from.rising

pub lay_part-requires-clause-rows : goal.lay_part-requires-clause-rows
lay_part-requires-clause-rows c =
    let o = c.args.opening.now in
    let part : ℕ = c.loop-part.part in
    let rest : Map = c.loop-part.rest.now in
    let n : ℕ = c.count_in_part.result in
    let at : IsPartitionPoint (λ (r : ℕ × ℕ). part_with (shape o).bounds r.0 ≤ part)
    (λ (r : ℕ × ℕ). part < part_with (shape o).bounds r.0) rest n =
    subst
    (λ (z : List ℕ).
    IsPartitionPoint (λ (r : ℕ × ℕ). part_with z r.0 ≤ part) (λ (r : ℕ × ℕ). part < part_with z r.0)
    rest n)
    c.parts-parts.ensures.parts c.count_in_part.ensures.parted
    in
    c.split_at.ensures.front
    ∙ own_rows (shape o).bounds part o.rows rest n c.loop-part.invariant.from
    c.count_in_part.ensures.within at

pub loop-part-preserved : goal.loop-part-preserved
loop-part-preserved c =
    let o = c.args.opening.now in
    let part : ℕ = c.loop-part.part in
    let rest : Map = c.loop-part.rest.now in
    let n : ℕ = c.count_in_part.result in
    let at : IsPartitionPoint (λ (r : ℕ × ℕ). part_with (shape o).bounds r.0 ≤ part)
    (λ (r : ℕ × ℕ). part < part_with (shape o).bounds r.0) rest n =
    subst
    (λ (z : List ℕ).
    IsPartitionPoint (λ (r : ℕ × ℕ). part_with z r.0 ≤ part) (λ (r : ℕ × ℕ). part < part_with z r.0)
    rest n)
    c.parts-parts.ensures.parts c.count_in_part.ensures.parted
    in
    let test = c.loop-part-test.true in
    let count = c.count-part-end.ensures.count in
    let bounds = ap (λ (z : List ℕ). length z) c.parts-parts.ensures.parts in
    let is_part : IsPart o part = omega (arith, test, count, bounds) in
    record {
      done = lays_more o (IsOfPart o) part c.args.words.now.items c.loop-part.words.items
          c.lay_part.new.words.items
          (λ w other lt one two.
          let same = one_part o other part w (omega (arith, lt, test, count, bounds)) is_part one two in
          absurd (omega (arith, lt, same)))
          c.loop-part.invariant.done c.lay_part.ensures;
      from = subst (AreFrom (shape o).bounds (part + 1) o.rows) (sym c.split_at.ensures.back)
          (later_rows (shape o).bounds part o.rows rest n c.loop-part.invariant.from
          c.count_in_part.ensures.within at);
    }
