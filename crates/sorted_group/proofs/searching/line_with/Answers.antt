use Rattle.std.proofs.Common.{arith}
use Rattle.line_window.proofs.Guesses.{error_of-within}
use Rattle.line_window.proofs.Rising.{is_line}
use Rattle.sorted_group.proofs.searching.line_with.Goals as goal

pub from_parts-requires-2 : goal.from_parts-requires-2
from_parts-requires-2 g c =
    let keys = g.K.Keys.list c.args.keys.now in
    let near = error_of-within keys in
    rw (c.key-last.ensures.key, c.key-first.ensures.list, c.key-first.ensures.key, c.len-len.ensures)
    (is_line keys c.args.error c.requires.rising (omega (arith, near, c.requires.error)))
