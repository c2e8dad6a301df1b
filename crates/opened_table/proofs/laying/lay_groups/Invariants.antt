use Rattle.opened_table.specs.Laying.{IsOfFirst, IsOfGroup, Lays, group_row}
use Rattle.opened_table.proofs.laying.lay_groups.Given as goal

abbrev pub invariant-loop-number : goal.invariant-loop-number
invariant-loop-number l =
    record {
      done : Lays l.opening (IsOfFirst (λ number. IsOfGroup l.opening (group_row l.opening l.part number)) l.number)
          l.initial.words.items l.words.items;
    }
