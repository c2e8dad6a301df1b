-- What one caller does in a phase.
use Rattle.std.specs.Prelude.{◌≡◌, ◌≤◌, List, [], length}
use Rattle.crossbeam_utils.specs.Padded.{padded_value}
use Rattle.wire_commands.specs.declared.reply.Reply.{Reply}
use Rattle.line_session.specs.Session.{Session}
use Rattle.trace_text.specs.declared.lines.Line.{Line}
use Rattle.xindex_core.specs.declared.index.Index.{Index}
use Rattle.xindex_core.specs.declared.pass.Pass.{Pass}
use Rattle.xindex_core.specs.Answering.{Answers}
use Rattle.xindex_core.specs.Passes.{IsPassOf, caller_with, number_of}
use Rattle.caller_phases.specs.declared.workers.Worker.{Worker}
use Rattle.caller_phases.specs.Calls.{calls_in}

-- the pass of the worker's caller
abbrev pub pass_of : Worker → Pass
pass_of w = padded_value w.pass

-- the replies to the worker's calls
abbrev pub replies_of : Worker → List Reply
replies_of w = w.replies.replies

-- the worker has no replies yet, and room for those to all calls that its caller makes in these lines
pub record IsReadyFor (lines : List Line) (w : Worker) : Type 0 where
  pub none : replies_of w ≡ []
  pub room : length (calls_in (number_of (pass_of w)) lines) ≤ w.replies.room

-- the worker made its caller's calls of these lines, one after another, and has the replies
pub record HasWorked (i : Index) (lines : List Line) (old new : Worker) : Type 0 where
  pub of : IsPassOf i (pass_of new)
  pub session : Session Answers (caller_with i (pass_of old))
      (calls_in (number_of (pass_of old)) lines) (replies_of new)
      (caller_with i (pass_of new))
