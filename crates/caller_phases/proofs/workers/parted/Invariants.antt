-- What was parted, and what is left.
use Rattle.std.proofs.Common.{◌≡◌, ◌++◌, map}
use Rattle.caller_phases.specs.Workers.{pass_of, replies_of}
use Rattle.caller_phases.proofs.workers.parted.Given as goal

abbrev pub invariant-loop-worker : goal.invariant-loop-worker
invariant-loop-worker l =
    record {
      passes : l.passes.items ++ map pass_of l.worker-iterator.rest.items
          ≡ map pass_of l.fn.workers.items;
      replies : map (λ own. own.replies) l.replies.items ++ map replies_of l.worker-iterator.rest.items
          ≡ map replies_of l.fn.workers.items;
    }
