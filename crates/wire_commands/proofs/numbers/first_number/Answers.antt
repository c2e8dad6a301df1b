use Rattle.std.proofs.Common.{rules, arith}
use Rattle.wire_commands.specs.Words.{EndsWord}
use Rattle.wire_commands.proofs.NumberLaws.{begins_with_digits}
use Rattle.wire_commands.proofs.numbers.first_number.Goals as goal

pub returns : goal.returns
returns c =
    let ends : EndsWord c.split_at-2.result.1.now = search rules in
    begins_with_digits c.args.line.now c.split_at.result.1.now c.split_at-2.result.1.now
    c.blanks_len.result c.in_ok-value.len c.in_ok-value.value
    c.split_at.ensures.back c.split_at-2.ensures.back c.blanks_len.ensures.within c.blanks_len.ensures.blank
    c.in_ok-value.ensures.digits c.in_ok-value.ensures.within (omega arith)
    c.in_ok-value.ensures.value ends
