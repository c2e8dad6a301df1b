use Rattle.caller_phases.proofs.Hearing.{HearsUpTo}
use Rattle.caller_phases.proofs.telling.tell_one.Given as goal

abbrev pub invariant-loop-other : goal.invariant-loop-other
invariant-loop-other l = HearsUpTo l.index l.initial.passes.items l.own l.other l.passes.items
