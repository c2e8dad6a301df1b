-- What was asked so far was replied, and the calls of the lines that are left are still to come.
use Rattle.std.proofs.Common.{◌≡◌, ◌≤◌, ◌++◌, List, length}
use Rattle.wire_commands.specs.declared.request.Request.{Request}
use Rattle.line_session.specs.Session.{Session}
use Rattle.xindex_core.specs.Answering.{Answers}
use Rattle.xindex_core.specs.Passes.{caller_with}
use Rattle.caller_phases.specs.Calls.{calls_in, calls_of, first_phase}
use Rattle.caller_phases.proofs.workers.work.Given as goal

abbrev pub invariant-loop-line : goal.invariant-loop-line
invariant-loop-line g l =
    record {
      asked : List Request;
      left : asked ++ calls_of l.caller l.present (first_phase l.rest)
          ≡ calls_in l.caller (first_phase l.lines);
      many : length l.replies.replies ≡ length asked;
      room : length (calls_in l.caller (first_phase l.lines)) ≤ l.replies.room;
      index : l.waiter.index.now ≡ l.index;
      session : Session Answers (caller_with l.index l.initial.waiter.pass) asked l.replies.replies
          (caller_with l.index l.waiter.pass);
    }

abbrev pub decreases-loop-line : goal.decreases-loop-line
decreases-loop-line g l = length (first_phase l.rest)
