use Rattle.std.proofs.Common.{◌≡◌, ◌<◌, get_or, length, take, ap, ◌∙◌, arith}
use Rattle.std.proofs.lemmas.List.{take-append-le}
use Rattle.wire_commands.specs.Numbers.{value_of}
use Rattle.wire_commands.proofs.NumberLaws.{value_of_more}
use Rattle.wire_commands.proofs.numbers.first_digits.Goals as goal

-- one digit more than are sure to fit
pub returns-in_ok-value-in-len1-up-clause-value : goal.returns-in_ok-value-in-len1-up-clause-value
returns-in_ok-value-in-len1-up-clause-value c =
    let line = c.args.line.now in
    let len = c.sure_digits-value.result.1 in
    let front = c.split_at.result.0.now in
    let inside : len < length line = omega (arith, c.in-len1-up.len_at_least, c.split_at-2.ensures.back_len) in
    let same : take len line ≡ take len front =
    ap (take len) c.split_at.ensures.by_index.0 ∙ take-append-le len front c.split_at.result.1.now c.sure_digits-value.ensures.within in
    let digit : get_or c.split_at-2.result.1.now 0 0 ≡ get_or line len 0 =
    c.split_at-2.ensures.by_index.2 0 0 ∙ ap (λ k. get_or line k 0) (omega arith) in
    omega (
      arith,
      value_of_more line len inside,
      ap value_of same,
      c.sure_digits-value.ensures.value,
      digit,
      c.from.ensures,
      c.in_ok-checked_mul-in-len1-up.ensures,
      c.in_ok-value-in-len1-up.ensures,
    )
