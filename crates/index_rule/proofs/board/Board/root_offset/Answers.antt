use Rattle.word_layout.specs.Layout.{shape_of}
use Rattle.word_layout.specs.Words.{Root}
use Rattle.index_rule.proofs.Offsets.{hot_word}
use Rattle.index_rule.proofs.board.Board.root_offset.Goals as goal

pub returns : goal.returns
returns c =
    hot_word (shape_of c.args.self.now.layout) (Root c.args.part) _ _ c.requires tt
    c.root.ensures.named c.hot_offset.ensures
