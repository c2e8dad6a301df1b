-- The passes that have a worker, and those that are left.
use Rattle.std.proofs.Common.{◌≡◌, ◌++◌, map}
use Rattle.std.specs.List.{AllByRecursion}
use Rattle.caller_phases.specs.Calls.{first_phase}
use Rattle.caller_phases.specs.Workers.{IsReadyFor, pass_of}
use Rattle.caller_phases.proofs.workers.workers_for.Given as goal

abbrev pub invariant-loop-pass : goal.invariant-loop-pass
invariant-loop-pass l =
    record {
      passes : map pass_of l.workers.items ++ l.pass-iterator.rest.items ≡ l.fn.passes.items;
      ready : AllByRecursion (IsReadyFor (first_phase l.lines)) l.workers.items;
    }
