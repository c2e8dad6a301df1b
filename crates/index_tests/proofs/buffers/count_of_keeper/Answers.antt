use Rattle.std.proofs.Common.{◌∙◌, inl, arith}
use Rattle.delta_buffer.proofs.Following.{keepers_follow}
use Rattle.index_rule.specs.Hands.{opening_of}
use Rattle.index_tests.proofs.Groups.{keeps_zero, of_group_zero}
use Rattle.index_tests.proofs.buffers.count_of_keeper.Goals as goal

pub count-requires : goal.count-requires
count-requires c =
    let b = c.args.board.now in
    let h = c.args.keeper.now in
    let k = c.load_root.new.hand in
    let loads = c.load_root.ensures.step in
    let least = (opening_of b).layout.kept.least_groups in
    keepers_follow b k 0 loads.of (keeps_zero b k (loads.number ∙ c.requires.number)) (omega arith)
    (inl (inl (
      0,
      of_group_zero b h k c.load_root.result 0 c.requires.one_group c.requires.number
          c.requires.new c.requires.hand loads (omega arith),
    )))
