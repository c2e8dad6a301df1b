-- A session: requests that are asked in order, each answered before the next, and the replies that tell the answers.
use Rattle.std.specs.Prelude.{◌≡◌, ℕ, List, [], ◌∷◌, ◌++◌, Option, Some, None}
use Rattle.std.specs.List.{flat_map}
use Rattle.map_model.specs.declared.calls.Call.{Call}
use Rattle.map_model.specs.declared.calls.Call.TheVariants as call
use Rattle.map_model.specs.declared.calls.Answer.{Answer}
use Rattle.map_model.specs.declared.calls.Answer.TheVariants as answer
use Rattle.wire_commands.specs.declared.request.Request.{Request}
use Rattle.wire_commands.specs.declared.request.Request.TheVariants as request
use Rattle.wire_commands.specs.declared.reply.Reply.{Reply}
use Rattle.wire_commands.specs.declared.reply.Reply.TheVariants as reply
use Rattle.wire_commands.specs.Replies.{line_of}

-- the reply that tells an answer
abbrev pub reply_of : Call → Answer → Option Reply
reply_of (call.Get k) (answer.Value None) = Some reply.NoValue
reply_of (call.Get k) (answer.Value (Some v)) = Some (reply.Value v)
reply_of (call.Put k v) (answer.Old None) = Some reply.New
reply_of (call.Put k v) (answer.Old (Some old)) = Some (reply.Old old)
reply_of (call.Put k v) answer.Full = Some reply.Full
reply_of (call.Put k v) answer.Worn = Some reply.Worn
reply_of (call.Remove k) (answer.Old None) = Some reply.NoValue
reply_of (call.Remove k) (answer.Old (Some old)) = Some (reply.Old old)
reply_of (call.Remove k) answer.Worn = Some reply.Worn
reply_of call answer = None

module _ {A : Type 0} (answers : A → Call → Answer → A → Type 0) where
  -- one call is asked, and its answer is the one reply
  abbrev pub Tells : A → Call → List Reply → A → Type 0
  Tells old call replies new =
      (answer : Answer) × (reply : Reply) × answers old call answer new
      × (reply_of call answer ≡ Some reply) × (replies ≡ reply ∷ [])

  -- what one request does, and the replies to it
  abbrev pub Exchange : A → Request → List Reply → A → Type 0
  Exchange old (request.Get k) replies new = Tells old (call.Get k) replies new
  Exchange old (request.Put k v) replies new = Tells old (call.Put k v) replies new
  Exchange old (request.Remove k) replies new = Tells old (call.Remove k) replies new
  Exchange old request.Quit replies new = (replies ≡ reply.Bye ∷ []) × (new ≡ old)
  Exchange old (request.Bad reason) replies new = (replies ≡ reply.Bad reason ∷ []) × (new ≡ old)

  -- the requests one after another, from an answerer as it was to the same as it is then
  abbrev pub Session : A → List Request → List Reply → A → Type 0
  Session old [] replies new = (replies ≡ []) × (new ≡ old)
  Session old (r ∷ rs) replies new =
      (mid : A) × (first : List Reply) × (rest : List Reply)
      × Exchange old r first mid × Session mid rs rest new × (replies ≡ first ++ rest)

-- the lines of the replies, in order
abbrev pub lines_of : List Reply → List ℕ
lines_of replies = flat_map line_of replies
