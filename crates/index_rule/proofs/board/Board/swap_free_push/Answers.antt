use Rattle.word_layout.specs.Words.{FreeHead}
use Rattle.index_rule.specs.Hands.{opening_of}
use Rattle.index_rule.proofs.StepKinds.{inside, at_word}
use Rattle.index_rule.proofs.FreeSteps.{pushes}
use Rattle.index_rule.proofs.board.Board.swap_free_push.Goals as goal

pub compare_exchange-found-requires : goal.compare_exchange-found-requires
compare_exchange-found-requires c =
    let b = c.args.self.now in
    let h = c.args.hand.now in
    let at = c.free_head_offset-offset.ensures in (
      c.requires.hand.table,
      inside b FreeHead _ tt at,
      pushes (opening_of b) _ h.seat.id h.seat.me h.number h.mine c.requires.hand.opened _
          c.args.row.now.place c.args.expected c.requires.keeper c.requires.held c.requires.linked
          c.requires.unobserved (at_word b FreeHead _ at),
    )
