use Rattle.word_layout.specs.Layout.{shape_of}
use Rattle.word_layout.specs.Words.{Epoch}
use Rattle.index_rule.proofs.Offsets.{hot_word}
use Rattle.index_rule.proofs.board.Board.epoch_offset.Goals as goal

pub returns : goal.returns
returns c =
    hot_word (shape_of c.args.self.now.layout) (Epoch c.args.caller) _ _ c.requires tt
    c.epoch.ensures.named c.hot_offset.ensures
