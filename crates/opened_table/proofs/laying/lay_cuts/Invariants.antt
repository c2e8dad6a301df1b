use Rattle.word_layout.specs.Layout.{shape_of}
use Rattle.opened_table.specs.Laying.{LaysCuts, keys_in}
use Rattle.opened_table.proofs.laying.lay_cuts.Given as goal

abbrev pub invariant-loop-lane : goal.invariant-loop-lane
invariant-loop-lane l =
    record {
      done : LaysCuts (shape_of l.layout) l.group l.pivot (keys_in l.rows) l.lane l.fn.words.items l.words.items;
    }
