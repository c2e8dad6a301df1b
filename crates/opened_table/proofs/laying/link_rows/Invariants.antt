use Rattle.word_layout.specs.Layout.{shape_of}
use Rattle.opened_table.specs.Laying.{LinksRows}
use Rattle.opened_table.proofs.laying.link_rows.Given as goal

abbrev pub invariant-loop-i : goal.invariant-loop-i
invariant-loop-i l =
    record {
      done : LinksRows (shape_of l.layout) l.i l.initial.words.items l.words.items;
    }
