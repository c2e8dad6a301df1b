-- What follows of sessions over a plain map, as statements.
use Rattle.std.specs.Prelude.{◌≡◌, ℕ, List}
use Rattle.map_model.specs.PlainMap.{BoundedMap, IsValid, Answers}
use Rattle.wire_commands.specs.declared.request.Request.{Request}
use Rattle.wire_commands.specs.declared.reply.Reply.{Reply}
use Rattle.line_session.specs.declared.ends.Ended.{Ended}
use Rattle.line_session.specs.declared.ends.Ended.TheVariants.{WriteFault}
use Rattle.line_session.specs.Session.{Session}
use Rattle.line_session.specs.Asked.{Stop}
use Rattle.line_session.specs.Served.{Conversation}

-- requests have one list of replies, and leave one map
abbrev pub RequestsHaveOneText : Type 0
RequestsHaveOneText =
    (old new more : BoundedMap) (requests : List Request) (replies others : List Reply)
    → IsValid old → Session Answers old requests replies new
    → Session Answers old requests others more → (replies ≡ others) × (new ≡ more)

-- the sink took all that was written
abbrev pub WroteAll : Ended → Type 0
WroteAll WriteFault = ⊥
WroteAll ended = Unit {0}

-- sessions of the same bytes that end in the same way write the same text, and leave the same map
abbrev pub BytesHaveOneText : Type 0
BytesHaveOneText =
    (old new more : BoundedMap) (ended : Ended) (stop other : Stop) (taken written text : List ℕ)
    → IsValid old → WroteAll ended → Conversation Answers old new ended stop taken written
    → Conversation Answers old more ended other taken text → (written ≡ text) × (new ≡ more)
