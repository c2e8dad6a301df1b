use Rattle.std.proofs.Common.{◌≡◌, take}
use Rattle.wire_commands.specs.Numbers.{value_of}
use Rattle.wire_commands.proofs.numbers.value_within.Given as goal

abbrev pub invariant-loop-digit : goal.invariant-loop-digit
invariant-loop-digit l = l.value ≡ value_of (take l.digit-index l.number)
