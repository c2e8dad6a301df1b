use Rattle.std.proofs.Common.{ℕ, leb, leb-true, rules}
use Rattle.std.proofs.lemmas.Bool.{leb-false}
use Rattle.std.proofs.lemmas.List.Sorted.{IsPartitionPoint-from_clause, IsPartitionedBy-leb}
use Rattle.word_layout.specs.Parts.{part_with}
use Rattle.opened_table.proofs.PartRows.{parts_rise}
use Rattle.opened_table.proofs.laying.count_in_part.Goals as goal

pub returns-clause-parted : goal.returns-clause-parted
returns-clause-parted c =
    let rows = c.args.rows.now in
    let part : ℕ = c.args.part in
    let number : ℕ × ℕ → ℕ = λ r. part_with c.args.parts.now r.0 in
    let point =
    IsPartitionPoint-from_clause (λ (r : ℕ × ℕ). leb (number r) part) rows c.partition_point.result
    c.partition_point.ensures.partitioned
    (IsPartitionedBy-leb number rows part (parts_rise c.args.parts.now rows c.requires))
    (λ a r q k. search rules)
    in (
      λ k d least below. leb-true _ _ (point.0 k d least below),
      λ k d least below. leb-false _ _ (point.1 k d least below),
    )
