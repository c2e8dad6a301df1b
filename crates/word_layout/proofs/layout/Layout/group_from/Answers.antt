use Rattle.std.proofs.Common.{◌+◌, ◌≤◌, arith}
use Rattle.std.proofs.Math.Nat.{mul-le-mul_left}
use Rattle.word_layout.specs.Limits.{group_words_of}
use Rattle.word_layout.specs.Shape.{group_total}
use Rattle.word_layout.specs.Layout.{shape_of}
use Rattle.word_layout.proofs.layout.Layout.group_from.Goals as goal

-- the group behind this one begins at most where the last group ends
pub returns-clause-room : goal.returns-clause-room
returns-clause-room c =
    let layout = c.args.self.now in
    let next : c.args.group + 1 ≤ group_total (shape_of layout) = omega arith in
    rw layout.group_width
    (omega (arith, mul-le-mul_left (group_words_of layout.limits) next))
