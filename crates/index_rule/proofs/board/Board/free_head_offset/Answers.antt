use Rattle.word_layout.specs.Layout.{shape_of}
use Rattle.word_layout.specs.Words.{FreeHead}
use Rattle.index_rule.proofs.Offsets.{hot_word}
use Rattle.index_rule.proofs.board.Board.free_head_offset.Goals as goal

pub returns : goal.returns
returns c =
    hot_word (shape_of c.args.self.now.layout) FreeHead _ _ tt tt c.free_head.ensures.named
    c.hot_offset.ensures
