use Rattle.std.proofs.Common.{◌≡◌, take}
use Rattle.std.specs.List.{AllByRecursion}
use Rattle.wire_commands.specs.Numbers.{IsDigit, value_of}
use Rattle.wire_commands.proofs.numbers.sure_digits.Given as goal

-- the bytes so far are digits of this value
abbrev pub invariant-loop-index : goal.invariant-loop-index
invariant-loop-index l = record {
  digits : AllByRecursion IsDigit (take l.index l.front);
  value : l.value ≡ value_of (take l.index l.front);
}
