use Rattle.std.proofs.Common.{rules}
use Rattle.index_rule.specs.Hands.{opening_of}
use Rattle.index_rule.proofs.Seats.{tells}
use Rattle.index_rule.proofs.board.Board.tell.Goals as goal

pub split_seat-requires : goal.split_seat-requires
split_seat-requires c =
    let b = c.args.self.now in
    let s = c.args.hand.now.seat in
    (c.requires.hand.table, search rules, tells (opening_of b) s.id s.me.0 c.requires.hand.opened)
