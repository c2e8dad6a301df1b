-- A session over an index that nobody else changes, in which nothing was refused, as one over a plain map.
use Rattle.std.proofs.Common.{◌≡◌, ℕ, ◌+◌, ◌≤◌, Bool, true, false, cond, List, [], ◌∷◌, ◌++◌}
use Rattle.std.proofs.Common.{Option, Some, None, IsSomeAnd, length}
use Rattle.std.proofs.Common.{refl, sym, ap, subst, ◌∙◌, arith, inl, inr}
use Rattle.std.specs.Prelude.{is_none}
use Rattle.std.proofs.lemmas.Bool.{cases_order}
use Rattle.std.proofs.lemmas.Bool.Decides.{nat_tests}
use Rattle.map_model.specs.declared.calls.Call.{Call}
use Rattle.map_model.specs.declared.calls.Call.TheVariants as call
use Rattle.map_model.specs.declared.calls.Answer.{Answer}
use Rattle.map_model.specs.declared.calls.Answer.TheVariants.{Value, Old, Near, Full, Worn}
use Rattle.map_model.specs.declared.calls.Near.TheVariants.{Row, Gap}
use Rattle.map_model.specs.declared.entries.Change.TheVariants as change
use Rattle.map_model.specs.declared.entries.Entry.{Entry}
use Rattle.map_model.specs.declared.entries.Entry.TheVariants.{Made, Look}
use Rattle.map_model.specs.Answer.{entry_of}
use Rattle.map_model.specs.Entry.{StandsBetween}
use Rattle.map_model.specs.History.{History, after, inserts, is_inserting}
use Rattle.map_model.specs.Logs.{Log, changes_of, place_of}
use Rattle.map_model.specs.Map.{Map, IsRising, look, put}
use Rattle.map_model.specs.PlainMap.{BoundedMap, IsValid, MakesEntry, Answers}
use Rattle.map_model.proofs.Logging.{rising-after}
use Rattle.map_model.proofs.Pairs.{AllAbove, length-remove-le, look-above}
use Rattle.wire_commands.specs.declared.request.Request.{Request}
use Rattle.wire_commands.specs.declared.request.Request.TheVariants as request
use Rattle.wire_commands.specs.declared.reply.Reply.{Reply}
use Rattle.line_session.specs.declared.ends.Ended.{Ended}
use Rattle.line_session.specs.Asked.{Stop}
use Rattle.line_session.specs.Served.{Conversation}
use Rattle.line_session.specs.Session.{Exchange, Session, Tells, reply_of}
use Rattle.line_session.proofs.OneText.{bytes_have_one_text, requests_have_one_text}
use Rattle.word_layout.specs.declared.limits.Limits.{Limits}
use Rattle.xindex_core.specs.Alone.{AddsNext, AnswersAlone, map_of}
use Rattle.line_session.specs.Enough.{HasNoRefusal, IsNoRefusal}
use Rattle.session_laws.specs.PlainLaw.{BytesAloneHaveOneText}
use Rattle.session_laws.specs.PlainLaw.{PlainSessionsHaveTheSameReplies, SessionsAloneArePlain}

-- ---- lengths ----

above-lower : (a b : ℕ) (m : Map) → b ≤ a → AllAbove a m → AllAbove b m
above-lower a b [] le above = tt
above-lower a b (r ∷ rs) le above = (omega (arith, above.0), above-lower a b rs le above.1)

-- a put makes a map longer by one key at most
length-put-le : (m : Map) (k v : ℕ) → length (put m k v) ≤ length m + 1
unfolding put
length-put-le [] k v = omega arith
length-put-le (r ∷ rs) k v = grind (arith, nat_tests, length-put-le rs k v)

-- a put of a key that is there makes it no longer
length-put-there : (m : Map) (k v w : ℕ) → IsRising m → look m k ≡ Some w →
    length (put m k v) ≤ length m
unfolding look put
length-put-there [] k v w rising there = cc
length-put-there (r ∷ rs) k v w rising there = elim (cases_order k r.0) [
  | inl same ↦ grind (arith, nat_tests)
  | inr (inl below) ↦
      let none = look-above rs k (above-lower r.0 k rs (omega arith) rising.0) in
      grind (arith, nat_tests)
  | inr (inr above) ↦ grind (arith, nat_tests, length-put-there rs k v w rising.1)
]

-- so it is counted
length-put-counted : (m : Map) (k v n : ℕ) (found : Option ℕ) → IsRising m → length m ≤ n →
    look m k ≡ found → length (put m k v) ≤ cond (is_none found) (n + 1) n
length-put-counted m k v n None rising within is = let more = length-put-le m k v in omega arith
length-put-counted m k v n (Some w) rising within is =
    let same = length-put-there m k v w rising is in omega arith

-- a map has no more keys than were inserted
length-after : (h : History) → length (after [] h) ≤ inserts [] h
length-after [] = omega arith
length-after (change.Put c k v ∷ h) =
    length-put-counted (after [] h) k v (inserts [] h) (look (after [] h) k) (rising-after [] h tt)
    (length-after h) refl
length-after (change.Remove c k ∷ h) =
    let less = length-remove-le (after [] h) k in
    let older = length-after h in omega arith

-- ---- one call ----

-- a count does not fall
counted-more : (b : Bool) (n : ℕ) → n ≤ cond b (n + 1) n
counted-more true n = omega arith
counted-more false n = omega arith

inserts-more : (e : Entry) (log : Log) →
    inserts [] (changes_of log) ≤ inserts [] (changes_of (e ∷ log))
inserts-more (Made place change old) log =
    counted-more (is_inserting (map_of log) change) (inserts [] (changes_of log))
inserts-more (Look place lo hi found) log = omega arith

-- what an entry says of the maps has to do neither with its caller nor with its place
stands-anywhere : (m n : Map) (call : Call) (answer : Answer) (caller other place more : ℕ) →
    IsSomeAnd (entry_of caller place call answer) (λ e. StandsBetween m e n) →
    IsSomeAnd (entry_of other more call answer) (λ e. StandsBetween m e n)
stands-anywhere m n (call.Get k) (Value found) caller other place more s = s
stands-anywhere m n (call.Put k v) (Old old) caller other place more s = s
stands-anywhere m n (call.Remove k) (Old (Some v)) caller other place more s = s
stands-anywhere m n (call.Remove k) (Old None) caller other place more s = s
stands-anywhere m n (call.Next from) (Near (Row k v)) caller other place more s = s
stands-anywhere m n (call.Next from) (Near (Gap hi)) caller other place more s = s
stands-anywhere m n call answer caller other place more s = absurd s

-- how many keys a log inserted
abbrev inserted : Log → ℕ
inserted log = inserts [] (changes_of log)

module _ (room : ℕ) where
  -- the plain map that a log tells
  abbrev plain : Log → BoundedMap
  plain log = record { pairs = map_of log; room = room }

  -- a step that inserts no fewer keys, and has this meaning where they fit in
  abbrev Means : Log → Log → Type 0 → Type 0
  Means old new meaning = (inserted old ≤ inserted new) × (inserted new ≤ room → meaning)

  makes : (old new : Log) (call : Call) (answer : Answer) → AddsNext old call answer new →
      Means old new (MakesEntry (plain old) call answer (plain new))
  makes old new call answer adds = (
    subst (λ (z : Log). inserted old ≤ inserted z) (sym adds.added) (inserts-more adds.entry old),
    λ within. record {
      entry = λ caller place.
          stands-anywhere (map_of old) (map_of new) call answer 0 caller (place_of adds.entry) place
          (subst (λ (z : Option Entry). IsSomeAnd z (λ e. StandsBetween (map_of old) e (map_of new)))
          (sym adds.is) adds.true_of);
      valid = record {
        rising = rising-after [] (changes_of new) tt;
        within = (let fits = length-after (changes_of new) in omega arith);
      };
      same_room = refl;
    },
  )

  answers : (l : Limits) (old : Log) (call : Call) (answer : Answer) (new : Log) →
      AnswersAlone l old call answer new → IsSomeAnd (reply_of call answer) IsNoRefusal →
      Means old new (Answers (plain old) call answer (plain new))
  answers l old (call.Get k) Full new does none = absurd none
  answers l old (call.Get k) Worn new does none = absurd none
  answers l old (call.Put k v) Full new does none = absurd none
  answers l old (call.Put k v) Worn new does none = absurd none
  answers l old (call.Remove k) Full new does none = absurd none
  answers l old (call.Remove k) Worn new does none = absurd none
  answers l old (call.Next from) Full new does none = absurd none
  answers l old (call.Next from) Worn new does none = absurd none
  answers l old call answer new does none = makes old new call answer does

-- ---- one call of a plain map, beside one with this room ----

module _ (room : ℕ) where
  -- the map with this room
  abbrev with_room : BoundedMap → BoundedMap
  with_room m = record { pairs = m.pairs; room = room }

  -- a step that keeps the map's room, and has this meaning where that is no more than this room
  abbrev Widens : BoundedMap → BoundedMap → Type 0 → Type 0
  Widens old new meaning = (new.room ≡ old.room) × (new.room ≤ room → meaning)

  makes_wider : (old new : BoundedMap) (call : Call) (answer : Answer) →
      MakesEntry old call answer new →
      Widens old new (MakesEntry (with_room old) call answer (with_room new))
  makes_wider old new call answer made = (
    made.same_room,
    λ wide. record {
      entry = made.entry;
      valid = record {
        rising = made.valid.rising;
        within = (let fits = made.valid.within in omega arith);
      };
      same_room = refl;
    },
  )

  -- `Full` is the one answer that the room decides
  answers_wider : (old : BoundedMap) (call : Call) (answer : Answer) (new : BoundedMap) →
      Answers old call answer new → IsSomeAnd (reply_of call answer) IsNoRefusal →
      Widens old new (Answers (with_room old) call answer (with_room new))
  answers_wider old (call.Get k) Full new does none = absurd none
  answers_wider old (call.Put k v) Full new does none = absurd none
  answers_wider old (call.Remove k) Full new does none = absurd none
  answers_wider old (call.Next from) Full new does none = absurd none
  answers_wider old call Worn new does none = absurd does
  answers_wider old call answer new does none = makes_wider old new call answer does

-- ---- sessions ----

all-front : (front back : List Reply) → HasNoRefusal (front ++ back) → HasNoRefusal front
all-front [] back none = tt
all-front (r ∷ rs) back none = (none.0, all-front rs back none.1)

all-back : (front back : List Reply) → HasNoRefusal (front ++ back) → HasNoRefusal back
all-back [] back none = none
all-back (r ∷ rs) back none = all-back rs back none.1

-- an answerer that stands for a plain map: each call that it does not refuse is one of that map, where
-- what it comes to fits
module _ {A : Type 0} (asks : A → Call → Answer → A → Type 0) (plain_of : A → BoundedMap)
    (Grows : A → A → Type 0) (Fits : A → Type 0)
    (stays : (old new : A) → new ≡ old → Grows old new)
    (goes_on : (old mid new : A) → Grows old mid → Grows mid new → Grows old new)
    (fits : (old new : A) → Grows old new → Fits new → Fits old)
    (means : (old : A) (call : Call) (answer : Answer) (new : A) → asks old call answer new →
    IsSomeAnd (reply_of call answer) IsNoRefusal →
    Grows old new × (Fits new → Answers (plain_of old) call answer (plain_of new))) where
  abbrev Comes : A → A → Type 0 → Type 0
  Comes old new meaning = Grows old new × (Fits new → meaning)

  tells : (old : A) (call : Call) (replies : List Reply) (new : A) →
      Tells asks old call replies new → HasNoRefusal replies →
      Comes old new (Tells Answers (plain_of old) call replies (plain_of new))
  tells old call replies new (answer, reply, does, told, is) none =
      let fine = subst HasNoRefusal is none in
      let step = means old call answer new does
      (subst (λ (z : Option Reply). IsSomeAnd z IsNoRefusal) (sym told) fine.0) in
      (step.0, λ within. (answer, reply, step.1 within, told, is))

  -- nothing was asked
  asks_nothing : (old new : A) (replies told : List Reply) → (replies ≡ told) × (new ≡ old) →
      Comes old new ((replies ≡ told) × (plain_of new ≡ plain_of old))
  asks_nothing old new replies told (is, same) =
      (stays old new same, λ within. (is, ap plain_of same))

  exchange : (old : A) (r : Request) (replies : List Reply) (new : A) →
      Exchange asks old r replies new → HasNoRefusal replies →
      Comes old new (Exchange Answers (plain_of old) r replies (plain_of new))
  exchange old (request.Get k) replies new x none = tells old (call.Get k) replies new x none
  exchange old (request.Put k v) replies new x none = tells old (call.Put k v) replies new x none
  exchange old (request.Remove k) replies new x none =
      tells old (call.Remove k) replies new x none
  exchange old request.Quit replies new x none = asks_nothing old new replies _ x
  exchange old (request.Bad reason) replies new x none = asks_nothing old new replies _ x

  session : (old : A) (rs : List Request) (replies : List Reply) (new : A) →
      Session asks old rs replies new → HasNoRefusal replies →
      Comes old new (Session Answers (plain_of old) rs replies (plain_of new))
  session old [] replies new s none = asks_nothing old new replies [] s
  session old (r ∷ rs) replies new (mid, first, rest, does, more, is) none =
      let all = subst HasNoRefusal is none in
      let step = exchange old r first mid does (all-front first rest all) in
      let tail = session mid rs rest new more (all-back first rest all) in (
        goes_on old mid new step.0 tail.0,
        λ within. (
          plain_of mid,
          first,
          rest,
          step.1 (fits mid new tail.0 within),
          tail.1 within,
          is,
        ),
      )

pub sessions_alone_are_plain : SessionsAloneArePlain
sessions_alone_are_plain l log requests replies room s none within =
    let means = session (AnswersAlone l) (plain room) (λ (old new : Log). inserted old ≤ inserted new)
    (λ (z : Log). inserted z ≤ room)
    (λ (old new : Log) (same : new ≡ old).
    subst (λ (z : Log). inserted old ≤ inserted z) (sym same) (omega arith))
    (λ (old mid new : Log) (one : inserted old ≤ inserted mid) (two : inserted mid ≤ inserted new).
    omega arith)
    (λ (old new : Log) (grows : inserted old ≤ inserted new) (below : inserted new ≤ room). omega arith)
    (answers room l) [] requests replies log s none in
    means.1 within

-- ---- a plain map of any room ----

-- the same session over a map with more room
session_wider : (old new : BoundedMap) (requests : List Request) (replies : List Reply) (room : ℕ) →
    Session Answers old requests replies new → HasNoRefusal replies →
    Widens room old new (Session Answers (with_room room old) requests replies (with_room room new))
session_wider old new requests replies room s none =
    session Answers (with_room room) (λ (m n : BoundedMap). n.room ≡ m.room)
    (λ (m : BoundedMap). m.room ≤ room)
    (λ (m n : BoundedMap) (same : n ≡ m). ap (λ (z : BoundedMap). z.room) same)
    (λ (m mid n : BoundedMap) (one : mid.room ≡ m.room) (two : n.room ≡ mid.room). two ∙ one)
    (λ (m n : BoundedMap) (same : n.room ≡ m.room) (wide : n.room ≤ room). omega arith)
    (answers_wider room) old requests replies new s none

-- with room for both, both sessions are of one map, and so they have one text
pub plain_sessions_have_the_same_replies : PlainSessionsHaveTheSameReplies
plain_sessions_have_the_same_replies l log room new requests replies others s none plainly none_too =
    let more = room + inserted log in
    let one = sessions_alone_are_plain l log requests replies more s none (omega arith) in
    let two = session_wider (plain room []) new requests others more plainly none_too in
    let room_is : new.room ≡ room = two.0 in
    let empty : IsValid (plain more []) = record { rising = tt; within = omega arith } in
    let same = requests_have_one_text (plain more []) (plain more log) (with_room more new) requests
    replies others empty one (two.1 (omega arith)) in
    let pairs : map_of log ≡ new.pairs = ap (λ (z : BoundedMap). z.pairs) same.1 in
    (same.0, λ j. record { pairs = sym pairs j; room = room_is j })

-- ---- whole conversations ----

conversation : (l : Limits) (log : Log) (room : ℕ) (ended : Ended) (stop : Stop)
    (taken written : List ℕ) (one : Conversation (AnswersAlone l) [] log ended stop taken written) →
    HasNoRefusal one.replies → inserted log ≤ room →
    Conversation Answers (plain room []) (plain room log) ended stop taken written
conversation l log room ended stop taken written one none within = record {
  requests = one.requests;
  replies = one.replies;
  covers = one.covers;
  session = sessions_alone_are_plain l log one.requests one.replies room one.session none within;
  wrote = one.wrote;
}

pub bytes_alone_have_one_text : BytesAloneHaveOneText
bytes_alone_have_one_text l m log more ended stop other taken written text all one two none none_too =
    let room = inserted log + inserted more in
    let empty : IsValid (plain room []) = record { rising = tt; within = omega arith } in
    let same = bytes_have_one_text (plain room []) (plain room log) (plain room more) ended stop other
    taken written text empty all
    (conversation l log room ended stop taken written one none (omega arith))
    (conversation m more room ended other taken text two none_too (omega arith)) in
    (same.0, ap (λ (z : BoundedMap). z.pairs) same.1)
