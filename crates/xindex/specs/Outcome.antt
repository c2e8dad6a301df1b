-- What the program may have done when it ends.
use Rattle.std.specs.Prelude.{◌≡◌, ◌≢◌, ◌++◌, ℕ, List, [], MatchOption, None, codes, decimal}
use Rattle.line_session.specs.declared.ends.Ended.{Ended}
use Rattle.line_session.specs.declared.ends.Ended.TheVariants as ended
use Rattle.line_session.specs.Ends.{EndsState}
use Rattle.line_session.specs.Enough.{HasNoRefusal}
use Rattle.line_session.specs.Served.{Serves}
use Rattle.line_session.specs.Session.{Session}
use Rattle.wire_commands.specs.declared.request.Request.{Request}
use Rattle.wire_commands.specs.declared.reply.Reply.{Reply}
use Rattle.command_line.specs.declared.answers.Command.{Command}
use Rattle.command_line.specs.declared.answers.Mode.{Mode}
use Rattle.command_line.specs.declared.answers.Mode.TheVariants.{Pipe, Run, Gen}
use Rattle.command_line.specs.Command.{IsCommand, asked_limits}
use Rattle.word_layout.specs.declared.limits.Limits.{Limits}
use Rattle.word_layout.specs.Limits.{IsFirstBroken}
use Rattle.xindex_core.specs.declared.index.Opened.{Opened}
use Rattle.xindex_core.specs.Alone.{AnswersAlone}
use Rattle.caller_phases.specs.Enough.{HasEnough}
use Rattle.xindex.specs.declared.outcome.Outcome.{Outcome}
use Rattle.xindex.specs.Generated.{Generates}
use Rattle.xindex.specs.Ran.{Runs}
use Rattle.xindex.specs.Served.{IsServed, first_log}
use Rattle.xindex.specs.Telling.{Tells}
use Rattle.xindex.specs.declared.status.Status.{Status}
use Rattle.xindex.specs.declared.status.Status.TheVariants.{Done, Usage, ReadFault, WriteFault, BadTrace, Memory, BadLimits, Limit}

-- the number with which the process ends
abbrev pub number_of : Status → ℕ
number_of Done = 0
number_of Usage = 2
number_of ReadFault = 3
number_of WriteFault = 4
number_of BadTrace = 5
number_of Memory = 6
number_of BadLimits = 7
number_of Limit = 9

-- the words ask for nothing
abbrev pub IsNoCommand : List (List ℕ) → Type 0
IsNoCommand words = (command : Command) → ¬ (IsCommand words command)

-- the words ask for limits that break a rule, and this is the first one
pub record AsksBadLimits (words : List (List ℕ)) (number : ℕ) : Type 0 where
  pub command : Command
  pub asked : IsCommand words command
  pub first : IsFirstBroken (asked_limits words) number

-- the line that is written for words that ask for nothing
abbrev pub usage_line : List ℕ
usage_line = codes "bad usage\n"

-- the line that is written for limits that break this rule first
abbrev pub limit_line : ℕ → List ℕ
limit_line number = codes "bad limit " ++ decimal number ++ codes "\n"

-- how the end of a session is told
abbrev pub status_of : Ended → Status
status_of ended.End = Done
status_of ended.Quit = Done
status_of ended.ReadFault = ReadFault
status_of ended.WriteFault = WriteFault
status_of ended.Limit = Limit

-- a program that opened no index
abbrev pub unopened : Status → Outcome
unopened status = record { status = status; opened = None }

-- the program told a refusal and did nothing else: nothing was read, and no index opened
pub record OnlyRefuses (line : List ℕ) (refused : Status) (ends_old ends_new : EndsState)
    (outcome : Outcome) : Type 0 where
  pub refusal : Tells line refused ends_old ends_new outcome.status
  pub unread : ends_new.left ≡ ends_old.left
  pub no_index : outcome ≡ unopened outcome.status

-- there was no memory: nothing was written, and nothing read but for a trace that is to be run
pub record LacksMemory (mode : Mode) (ends_old ends_new : EndsState) : Type 0 where
  pub unwritten : ends_new.written ≡ ends_old.written
  pub unread : mode ≢ Run → ends_new.left ≡ ends_old.left

-- one session was served by pass 0 over the index, which was opened empty with these limits: its log
-- tells it, and nobody else changed the index; this is the status of its end. This session, and any other that
-- the log tells, was refused no request where there is enough for all of them
pub record Pipes (l : Limits) (most : ℕ) (ends_old ends_new : EndsState) (status : Status)
    (opened : Opened) : Type 0 where
  pub ended : Ended
  pub status_is : status ≡ status_of ended
  pub index : IsServed l opened
  pub served : Serves (AnswersAlone l) [] (first_log opened) ends_old ends_new most ended
  pub complete : (requests : List Request) (replies : List Reply) →
      Session (AnswersAlone l) [] requests replies (first_log opened) →
      HasEnough l requests → HasNoRefusal replies

-- the program served a session, or there was no memory for an index
abbrev pub PipesOrLacksMemory : Limits → ℕ → EndsState → EndsState → Outcome → Type 0
PipesOrLacksMemory l most ends_old ends_new outcome =
    MatchOption outcome.opened (outcome.status ≡ Memory)
    (Pipes l most ends_old ends_new outcome.status)

-- the program did what the mode is for, over limits that keep the rules; only a session has an index to hand out
abbrev pub Does : Mode → Command → EndsState → EndsState → Outcome → Type 0
Does Pipe command old new outcome =
    PipesOrLacksMemory command.limits command.bytes old new outcome
Does Run command old new outcome =
    Runs command.limits command.bytes old new outcome.status
    × (outcome ≡ unopened outcome.status)
Does Gen command old new outcome =
    Generates command.limits command.recipe old new outcome.status
    × (new.left ≡ old.left) × (outcome ≡ unopened outcome.status)
