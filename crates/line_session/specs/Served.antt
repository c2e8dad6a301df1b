-- How a session went: what was asked and written for the bytes that were taken, and part by part how it came to that.
use Rattle.std.specs.Prelude.{◌≡◌, ◌≢◌, ◌⊎◌, ℕ, ◌<◌, List, [], ◌∷◌, ◌++◌, length, Option, Some, None}
use Rattle.std.specs.Io.KnownBytes.{prepend_known, append_known}
use Rattle.map_model.specs.declared.calls.Call.{Call}
use Rattle.map_model.specs.declared.calls.Answer.{Answer}
use Rattle.wire_commands.specs.declared.request.Request.{Request}
use Rattle.wire_commands.specs.declared.request.Request.TheVariants.{Quit}
use Rattle.wire_commands.specs.declared.reply.Reply.{Reply}
use Rattle.wire_commands.specs.Replies.{line_of}
use Rattle.wire_commands.specs.Stream.{Asks}
use Rattle.wire_commands.specs.Feed.{StandsFor}
use Rattle.line_session.specs.declared.ends.Ended.{Ended}
use Rattle.line_session.specs.declared.ends.Ended.TheVariants as ended
use Rattle.line_session.specs.Ends.{EndsState}
use Rattle.line_session.specs.Session.{Exchange, Session, lines_of}
use Rattle.line_session.specs.Asked.{Stop, at_end, after_line, GoesOn, Covers, Wrote, KeepsLimit, IsStop}

-- a reply alone ends a session by a line that asks for it, or by a fault of the sink
abbrev pub EndsByReply : Option Ended → Type 0
EndsByReply None = Unit {0}
EndsByReply (Some ended.Quit) = Unit {0}
EndsByReply (Some ended.WriteFault) = Unit {0}
EndsByReply (Some ended) = ⊥

-- the end of the input ends a session, whatever the last line says
abbrev pub EndsWithInput : Ended → Type 0
EndsWithInput ended.End = Unit {0}
EndsWithInput ended.Quit = Unit {0}
EndsWithInput ended.WriteFault = Unit {0}
EndsWithInput ended = ⊥

-- what was written of one reply line, and whether the session goes on after it
abbrev pub WroteOne : Option Ended → Request → List ℕ → List ℕ → Type 0
WroteOne None request line added = (added ≡ line) × (request ≢ Quit)
WroteOne (Some ended.Quit) request line added = (added ≡ line) × (request ≡ Quit)
WroteOne (Some ended.WriteFault) request line added =
    (lost : List ℕ) × (line ≡ added ++ lost) × (lost ≢ [])
WroteOne (Some ended) request line added = ⊥

-- a session that comes to this end hands on what is held back, but after a failed write; if that fails, the
-- session ends by a fault
abbrev pub HandsOnAtEnd : Ended → Ended → ℕ → Type 0
HandsOnAtEnd how result held =
    ((result ≡ how) × (how ≢ ended.WriteFault → held ≡ 0))
    ⊎ ((result ≡ ended.WriteFault) × (how ≢ ended.WriteFault) × (0 < held))

module _ {A : Type 0} (answers : A → Call → Answer → A → Type 0) where
  -- a session that goes on: what was asked and written for the bytes taken, and what is kept of the next line
  pub record SoFar (first now : A) (taken written kept : List ℕ) : Type 0 where
    pub requests : List Request
    pub replies : List Reply
    pub rest : List ℕ
    pub asks : Asks taken requests rest
    pub keeps : StandsFor kept rest
    pub goes_on : GoesOn requests
    pub session : Session answers first requests replies now
    pub wrote : written ≡ lines_of replies

  -- a session of the bytes taken, which ended so: what was asked of them, and what was written for it
  pub record Conversation (old new : A) (ended : Ended) (stop : Stop) (taken written : List ℕ)
      : Type 0 where
    pub requests : List Request
    pub replies : List Reply
    pub covers : Covers ended stop taken requests
    pub session : Session answers old requests replies new
    pub wrote : Wrote ended replies written

  -- a session of the bytes taken that goes on, or one that ended so
  abbrev pub Reaches : A → A → Option Ended → Stop → List ℕ → List ℕ → Type 0
  Reaches old new None stop taken written = (kept : List ℕ) × SoFar old new taken written kept
  Reaches old new (Some ended) stop taken written = Conversation old new ended stop taken written

  -- how a whole session ended: with no byte held back; or by a write that failed; or by a flush that failed and left
  -- some byte held back, where the session went on or had come to another end
  abbrev pub Concludes : A → A → Ended → Stop → List ℕ → List ℕ → ℕ → Type 0
  Concludes old new ended.WriteFault stop taken written held =
      Conversation old new ended.WriteFault stop taken written
      ⊎ ((reached : Option Ended) × (reached ≢ Some ended.WriteFault)
      × Reaches old new reached stop taken written × (0 < held))
  Concludes old new how stop taken written held =
      Conversation old new how stop taken written × (held ≡ 0)

  -- a session that goes on, or one that ended
  abbrev pub ComesTo : A → A → List ℕ → List ℕ → List ℕ → ℕ → Option Ended → Type 0
  ComesTo first now taken written kept dropped None = SoFar first now taken written kept
  ComesTo first now taken written kept dropped (Some ended) =
      Conversation first now ended (after_line dropped) taken written

  -- a part of a session, in which these bytes were taken, whatever part of it came before
  pub record Continues (old new : A) (kept_old kept_new : List ℕ) (ends_old ends_new : EndsState)
      (bytes : List ℕ) (result : Option Ended) : Type 0 where
    pub added : List ℕ
    pub told : ends_new.written ≡ append_known ends_old.written added
    pub dropped : ℕ
    pub few_dropped : 0 < length bytes → dropped < length bytes
    pub part : (first : A) (taken written : List ℕ) → SoFar first old taken written kept_old
        → ComesTo first new (taken ++ bytes) (written ++ added) kept_new dropped result

  -- the end of a session by that of the input, whatever part of it came before
  pub record Finishes (old new : A) (kept : List ℕ) (ends_old ends_new : EndsState) (result : Ended)
      : Type 0 where
    pub added : List ℕ
    pub told : ends_new.written ≡ append_known ends_old.written added
    pub whole : (first : A) (taken written : List ℕ) → SoFar first old taken written kept
        → Conversation first new result at_end taken (written ++ added)

  -- one request was asked, and its reply was written: whole, or a front of it where the sink failed
  pub record AnswersOne (old new : A) (request : Request) (ends_old ends_new : EndsState)
      (result : Option Ended) : Type 0 where
    pub reply : Reply
    pub exchange : Exchange answers old request (reply ∷ []) new
    pub added : List ℕ
    pub told : ends_new.written ≡ append_known ends_old.written added
    pub wrote : WroteOne result request (line_of reply) added

  -- a whole session: what it took and wrote, by how it ended
  pub record Serves (old new : A) (ends_old ends_new : EndsState) (most : ℕ) (result : Ended)
      : Type 0 where
    pub taken : List ℕ
    pub written : List ℕ
    pub took : ends_old.left ≡ prepend_known taken ends_new.left
    pub told : ends_new.written ≡ append_known ends_old.written written
    pub limit : KeepsLimit result most (length taken)
    pub stop : Stop
    pub stopped : IsStop stop ends_new.left most (length taken)
    pub ended_with_input : result ≡ ended.End → stop ≡ at_end
    pub concluded : Concludes old new result stop taken written ends_new.held
