use Rattle.word_layout.specs.Words.{FreeHead}
use Rattle.index_rule.specs.Hands.{opening_of}
use Rattle.index_rule.proofs.StepKinds.{inside, at_word}
use Rattle.index_rule.proofs.FreeSteps.{pops}
use Rattle.index_rule.proofs.board.Board.swap_free_pop.Goals as goal

pub compare_exchange-found-requires : goal.compare_exchange-found-requires
compare_exchange-found-requires c =
    let b = c.args.self.now in
    let h = c.args.hand.now in
    let at = c.free_head_offset-offset.ensures in (
      c.requires.hand.table,
      inside b FreeHead _ tt at,
      pops (opening_of b) _ h.seat.id h.seat.me h.number h.mine c.requires.hand.opened _
          c.args.expected c.args.next c.requires.reading c.requires.observed c.requires.none
          (at_word b FreeHead _ at),
    )
