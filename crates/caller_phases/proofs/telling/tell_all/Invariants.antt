use Rattle.caller_phases.proofs.Hearing.{AllUpTo}
use Rattle.caller_phases.proofs.telling.tell_all.Given as goal

abbrev pub invariant-loop-own : goal.invariant-loop-own
invariant-loop-own l = AllUpTo l.index l.initial.passes.items l.own l.passes.items
