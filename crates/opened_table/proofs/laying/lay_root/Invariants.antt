use Rattle.opened_table.specs.Laying.{IsOfSlots, Lays}
use Rattle.opened_table.proofs.laying.lay_root.Given as goal

abbrev pub invariant-loop-i : goal.invariant-loop-i
invariant-loop-i l =
    record {
      done : Lays l.opening (IsOfSlots l.part l.i) l.fn.words.items l.words.items;
    }
