use Rattle.word_layout.specs.Words.{Epoch}
use Rattle.index_rule.specs.Hands.{opening_of}
use Rattle.index_rule.proofs.StepKinds.{inside, at_word}
use Rattle.index_rule.proofs.EpochSteps.{next_is, stores_enter}
use Rattle.index_rule.proofs.board.Board.store_enter.Goals as goal

pub store-requires : goal.store-requires
store-requires c =
    let b = c.args.self.now in
    let h = c.args.hand.now in
    let at = c.epoch_offset-offset.ensures in (
      c.requires.hand.table,
      inside b (Epoch h.number) _ c.requires.may.caller at,
      stores_enter (opening_of b) _ h.seat.id h.seat.me h.number h.mine c.requires.hand.opened _ _
          c.requires.may (next_is _ _ h.counted) (at_word b (Epoch h.number) _ at),
    )
