use Rattle.index_machine.specs.Words.{shape}
use Rattle.opened_table.specs.Laying.{IsOfFirst, IsOfPart, Lays}
use Rattle.opened_table.proofs.PartRows.{AreFrom}
use Rattle.opened_table.proofs.laying.lay_parts.Given as goal

abbrev pub invariant-loop-part : goal.invariant-loop-part
invariant-loop-part l =
    record {
      done : Lays l.opening (IsOfFirst (IsOfPart l.opening) l.part) l.initial.words.items l.words.items;
      from : AreFrom (shape l.opening).bounds l.part l.opening.rows l.rest;
    }
