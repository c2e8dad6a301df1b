-- What follows of sessions over an index that nobody else changes, as statements: where no reply is `full` or
-- `worn`, each is a session over a plain map.
use Rattle.std.specs.Prelude.{◌≡◌, ℕ, ◌≤◌, List, []}
use Rattle.map_model.specs.History.{inserts}
use Rattle.map_model.specs.Logs.{Log, changes_of}
use Rattle.map_model.specs.PlainMap.{Answers, BoundedMap}
use Rattle.wire_commands.specs.declared.request.Request.{Request}
use Rattle.wire_commands.specs.declared.reply.Reply.{Reply}
use Rattle.line_session.specs.declared.ends.Ended.{Ended}
use Rattle.line_session.specs.Asked.{Stop}
use Rattle.line_session.specs.Enough.{HasNoRefusal}
use Rattle.line_session.specs.Laws.{WroteAll}
use Rattle.line_session.specs.Served.{Conversation}
use Rattle.line_session.specs.Session.{Session}
use Rattle.word_layout.specs.declared.limits.Limits.{Limits}
use Rattle.xindex_core.specs.Alone.{AnswersAlone, map_of}

-- a session without a refusal is one over a plain map, from the empty one to the one that the log tells, with
-- any room that as many keys as were inserted fit in
abbrev pub SessionsAloneArePlain : Type 0
SessionsAloneArePlain =
    (l : Limits) (log : Log) (requests : List Request) (replies : List Reply) (room : ℕ) →
    Session (AnswersAlone l) [] requests replies log → HasNoRefusal replies →
    inserts [] (changes_of log) ≤ room →
    Session Answers (record { pairs = []; room = room }) requests replies
    (record { pairs = map_of log; room = room })

-- requests that are refused neither by the index nor by an empty plain map, whatever its room, have
-- the same replies from both, and the log tells the map that the plain session leaves
abbrev pub PlainSessionsHaveTheSameReplies : Type 0
PlainSessionsHaveTheSameReplies =
    (l : Limits) (log : Log) (room : ℕ) (new : BoundedMap) (requests : List Request)
    (replies others : List Reply) →
    Session (AnswersAlone l) [] requests replies log → HasNoRefusal replies →
    Session Answers (record { pairs = []; room = room }) requests others new → HasNoRefusal others →
    (replies ≡ others) × (new ≡ record { pairs = map_of log; room = room })

-- two sessions without a refusal, of the same bytes and ended in the same way, write the same text and
-- leave the same map, whatever the limits of their indexes are
abbrev pub BytesAloneHaveOneText : Type 0
BytesAloneHaveOneText =
    (l m : Limits) (log more : Log) (ended : Ended) (stop other : Stop)
    (taken written text : List ℕ) → WroteAll ended →
    (one : Conversation (AnswersAlone l) [] log ended stop taken written) →
    (two : Conversation (AnswersAlone m) [] more ended other taken text) →
    HasNoRefusal one.replies → HasNoRefusal two.replies →
    (written ≡ text) × (map_of log ≡ map_of more)
