use Rattle.word_layout.specs.Words.{FreeHead}
use Rattle.index_rule.specs.Hands.{opening_of}
use Rattle.index_rule.proofs.StepKinds.{inside, at_word}
use Rattle.index_rule.proofs.FreeSteps.{loads_free, loaded_row}
use Rattle.index_rule.proofs.board.Board.load_free.Goals as goal

pub load-requires : goal.load-requires
load-requires c =
    let b = c.args.self.now in
    let h = c.args.hand.now in
    let at = c.free_head_offset-offset.ensures in (
      c.requires.hand.table,
      inside b FreeHead _ tt at,
      loads_free (opening_of b) _ h.seat.id h.seat.me h.number h.mine c.requires.hand.opened _
          c.requires.may (at_word b FreeHead _ at),
    )

pub returns-clause-row : goal.returns-clause-row
returns-clause-row c some =
    loaded_row (opening_of c.args.self.now) c.args.hand.now.seat.me.0 c.load.result
    c.load.new.seat.me.0 c.requires.hand.opened c.load.ensures.2.acts some
