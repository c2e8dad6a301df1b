-- When no request is refused: there are record rows and versions for all that the requests may change.
use Rattle.std.specs.Prelude.{ℕ, ◌+◌, ◌<◌, ◌≤◌, List}
use Rattle.std.specs.List.{AllByRecursion}
use Rattle.map_model.specs.History.{History}
use Rattle.map_model.specs.Logs.{Log}
use Rattle.map_model.specs.Map.{Map}
use Rattle.word_layout.specs.declared.limits.Limits.{Limits}
use Rattle.index_machine.specs.Forms.{last_version}
use Rattle.wire_commands.specs.declared.request.Request.{Request}
use Rattle.wire_commands.specs.declared.reply.Reply.{Reply}
use Rattle.line_session.specs.Enough.{HasNoRefusal, asked, may_change, may_insert}
use Rattle.trace_text.specs.declared.lines.Line.{Line}
use Rattle.caller_phases.specs.Calls.{all_calls}
use Rattle.caller_phases.specs.Explained.{IsExplainedBy}

-- there is a record row for each put, and one for each caller; and fewer requests change a key than a record has
-- versions from the first to the last
pub record HasEnough (l : Limits) (requests : List Request) : Type 0 where
  pub rows : asked may_insert requests + l.callers ≤ l.records
  pub versions : l.first_version + asked may_change requests < last_version

-- no call of any caller was refused in any phase
abbrev pub HaveNoRefusal : List (List (List Reply)) → Type 0
HaveNoRefusal phases = AllByRecursion (AllByRecursion HasNoRefusal) phases

-- ---- the law ----

-- where there is enough for all calls of a trace, a transcript that is explained tells of no refusal
abbrev pub EnoughRefusesNothing : Type 0
EnoughRefusesNothing =
    (l : Limits) (m : Map) (lines : List Line) (h : History) (logs : List Log) (text : List ℕ) →
    HasEnough l (all_calls lines) → (explained : IsExplainedBy l m lines h logs text) →
    HaveNoRefusal explained.replies
