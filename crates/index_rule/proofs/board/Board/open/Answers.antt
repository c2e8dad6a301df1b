use Rattle.std.proofs.Common.{ℕ, List, [], sym, subst}
use Rattle.atomic_table.specs.Table.{opening}
use Rattle.index_machine.specs.declared.opening.Opening.{Opening}
use Rattle.index_machine.specs.Words.{shape}
use Rattle.word_layout.specs.declared.layout.Layout.{Layout}
use Rattle.word_layout.specs.Layout.{shape_of}
use Rattle.index_rule.specs.Offsets.{Spreads}
use Rattle.index_rule.specs.Rule.{Kept, first_view}
use Rattle.index_rule.proofs.Offsets.{spread-holds}
use Rattle.index_rule.proofs.Opens.{all_new, opens}
use Rattle.index_rule.proofs.board.Board.open.Goals as goal

pub of_words-requires : goal.of_words-requires
of_words-requires c =
    let o : Opening = c.in_ok-opening.opening in
    let spread : Spreads (shape o) c.in_ok-laid.laid.items c.in_ok-memory.memory.items =
    subst
    (λ (l : Layout). Spreads (shape_of l) c.in_ok-laid.laid.items c.in_ok-memory.memory.items)
    (sym c.in_ok-opening.ensures.layout) c.in_ok-memory.ensures in
    subst (λ (memory : List ℕ). Kept o (opening {S = Unit {0}} memory [] (first_view o)))
    (sym c.as_slice.ensures.value)
    (opens o c.in_ok-memory.memory.items
    (spread-holds o c.in_ok-laid.laid.items _ [] c.in_ok-laid.ensures spread))

pub returns-clause-all : goal.returns-clause-all
returns-clause-all c = all_new _ c.in_ok-hands.hands.items c.in_ok-hands.ensures
