use Rattle.std.proofs.Common.{◌<◌, length, arith}
use Rattle.wire_commands.proofs.WordLaws.{begins_with_cut}
use Rattle.wire_commands.proofs.words.first_word.Goals as goal

pub returns : goal.returns
returns c =
    let some : 0 < length c.split_at.result.1.now = grind (arith, c.is_empty.ensures) in
    let inside : c.blanks_len.result < length c.args.line.now = omega arith in
    rw (c.split_at-2.ensures.front, c.split_at-2.ensures.back) (
    begins_with_cut c.args.line.now c.split_at.result.1.now c.blanks_len.result c.word_len.result
    c.split_at.ensures.back
    inside c.blanks_len.ensures.blank (c.blanks_len.ensures.first inside) c.word_len.ensures.within
    c.word_len.ensures.none c.word_len.ensures.blank)
