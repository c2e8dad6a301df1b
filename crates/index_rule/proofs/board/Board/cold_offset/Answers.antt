use Rattle.std.proofs.Common.{arith}
use Rattle.word_layout.specs.Layout.{shape_of}
use Rattle.index_rule.proofs.Offsets.{offset_of-cold}
use Rattle.index_rule.proofs.board.Board.cold_offset.Goals as goal

pub returns : goal.returns
returns c =
    let b = c.args.self.now in
    omega (arith, b.shifted, offset_of-cold (shape_of b.layout) c.args.address c.requires)
