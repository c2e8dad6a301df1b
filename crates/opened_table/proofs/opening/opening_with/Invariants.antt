use Rattle.std.proofs.Common.{◌≡◌, ◌<◌, ◌^◌, take}
use Rattle.std.specs.List.{AllByRecursion}
use Rattle.opened_table.proofs.opening.opening_with.Given as goal

abbrev pub invariant-loop-row : goal.invariant-loop-row
invariant-loop-row l =
    record {
      copied : l.list ≡ take l.row-index l.rows;
      keys : AllByRecursion (λ row. row.0 < 2 ^ 64) l.list;
    }
