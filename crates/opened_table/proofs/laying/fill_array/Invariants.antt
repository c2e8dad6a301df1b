use Rattle.word_layout.specs.Layout.{shape_of}
use Rattle.opened_table.specs.Laying.{FillsArray}
use Rattle.opened_table.proofs.laying.fill_array.Given as goal

abbrev pub invariant-loop-i : goal.invariant-loop-i
invariant-loop-i l =
    record {
      done : FillsArray (shape_of l.layout) l.group l.rows l.i l.initial.words.items l.words.items;
    }
