-- Where there is enough for all requests of a session over an index that nobody else changes, none is refused: what
-- changed is no more than what was asked.
use Rattle.std.proofs.Common.{◌≡◌, ℕ, ◌+◌, ◌<◌, ◌≤◌, List, [], ◌∷◌, sym, subst, arith}
use Rattle.map_model.specs.declared.calls.Call.{Call}
use Rattle.map_model.specs.declared.calls.Call.TheVariants as call
use Rattle.map_model.specs.declared.calls.Answer.{Answer}
use Rattle.map_model.specs.declared.calls.Answer.TheVariants.{Value, Old, Near, Full, Worn}
use Rattle.map_model.specs.declared.entries.Change.{Change}
use Rattle.map_model.specs.Logs.{Log, changes_of, place_of}
use Rattle.word_layout.specs.declared.limits.Limits.{Limits}
use Rattle.index_machine.specs.Forms.{last_version}
use Rattle.wire_commands.specs.declared.request.Request.{Request}
use Rattle.wire_commands.specs.declared.request.Request.TheVariants as request
use Rattle.wire_commands.specs.declared.reply.Reply.{Reply}
use Rattle.line_session.specs.Enough.{HasNoRefusal, asked, may_change, may_insert}
use Rattle.line_session.specs.Session.{Exchange, Session, Tells}
use Rattle.line_session.proofs.Weighing.{Bounds, IsGiven, all_append, changes_few, entry_weighs, inserts_few}
use Rattle.line_session.proofs.Weighing.{one_bounds, one_of, put_bounds, put_of, reply_given, total, weight}
use Rattle.xindex_core.specs.Alone.{AddsNext, AnswersAlone}
use Rattle.caller_phases.specs.Enough.{HasEnough}

-- ---- what a request changes ----

module _ (l : Limits) (w : Request → ℕ) (v : Change → ℕ) (bounds : Bounds w v) where
  -- what a log's changes come to grows by no more than this
  abbrev Grows : ℕ → Log → Log → Type 0
  Grows by old new = total v (changes_of new) ≤ total v (changes_of old) + by

  adds_weighs : (old : Log) (c : Call) (a : Answer) (new : Log) → AddsNext old c a new →
      Grows (weight w c) old new
  adds_weighs old c a new adds =
      subst (Grows (weight w c) old) (sym adds.added)
      (entry_weighs w v bounds 0 (place_of adds.entry) c a adds.entry old adds.is)

  stays_weighs : (by : ℕ) (old new : Log) → new ≡ old → Grows by old new
  stays_weighs by old new same = subst (Grows by old) (sym same) (omega arith)

  call_weighs : (old : Log) (c : Call) (a : Answer) (new : Log) → AnswersAlone l old c a new →
      Grows (weight w c) old new
  call_weighs old (call.Get k) (Value f) new x = adds_weighs old (call.Get k) (Value f) new x
  call_weighs old (call.Get k) (Old o) new x = adds_weighs old (call.Get k) (Old o) new x
  call_weighs old (call.Get k) (Near n) new x = adds_weighs old (call.Get k) (Near n) new x
  call_weighs old (call.Get k) Full new x = absurd x
  call_weighs old (call.Get k) Worn new x = absurd x
  call_weighs old (call.Put k y) (Value f) new x = adds_weighs old (call.Put k y) (Value f) new x
  call_weighs old (call.Put k y) (Old o) new x = adds_weighs old (call.Put k y) (Old o) new x
  call_weighs old (call.Put k y) (Near n) new x = adds_weighs old (call.Put k y) (Near n) new x
  call_weighs old (call.Put k y) Full new x = stays_weighs (weight w (call.Put k y)) old new x.1
  call_weighs old (call.Put k y) Worn new x = stays_weighs (weight w (call.Put k y)) old new x.1
  call_weighs old (call.Remove k) (Value f) new x = adds_weighs old (call.Remove k) (Value f) new x
  call_weighs old (call.Remove k) (Old o) new x = adds_weighs old (call.Remove k) (Old o) new x
  call_weighs old (call.Remove k) (Near n) new x = adds_weighs old (call.Remove k) (Near n) new x
  call_weighs old (call.Remove k) Full new x = absurd x
  call_weighs old (call.Remove k) Worn new x = stays_weighs (weight w (call.Remove k)) old new x.1
  call_weighs old (call.Next k) (Value f) new x = adds_weighs old (call.Next k) (Value f) new x
  call_weighs old (call.Next k) (Old o) new x = adds_weighs old (call.Next k) (Old o) new x
  call_weighs old (call.Next k) (Near n) new x = adds_weighs old (call.Next k) (Near n) new x
  call_weighs old (call.Next k) Full new x = absurd x
  call_weighs old (call.Next k) Worn new x = absurd x

  exchange_weighs : (old : Log) (r : Request) (replies : List Reply) (new : Log) →
      Exchange (AnswersAlone l) old r replies new → Grows (w r) old new
  exchange_weighs old (request.Get k) replies new x = call_weighs old (call.Get k) x.0 new x.2
  exchange_weighs old (request.Put k y) replies new x = call_weighs old (call.Put k y) x.0 new x.2
  exchange_weighs old (request.Remove k) replies new x = call_weighs old (call.Remove k) x.0 new x.2
  exchange_weighs old request.Quit replies new x = stays_weighs (w request.Quit) old new x.1
  exchange_weighs old (request.Bad reason) replies new x =
      stays_weighs (w (request.Bad reason)) old new x.1

-- ---- what is answered ----

-- there is enough for what was changed and for what is asked yet
record IsEnough (l : Limits) (old : Log) (requests : List Request) : Type 0 where
  rows : total put_of (changes_of old) + asked may_insert requests + l.callers ≤ l.records
  versions : l.first_version + (total one_of (changes_of old) + asked may_change requests) < last_version

module _ (l : Limits) where
  call_given : (old : Log) (requests : List Request) (c : Call) (a : Answer) (new : Log) →
      IsEnough l old requests → AnswersAlone l old c a new → IsGiven a
  call_given old requests c (Value f) new enough x = tt
  call_given old requests c (Old o) new enough x = tt
  call_given old requests c (Near n) new enough x = tt
  call_given old requests (call.Put k y) Full new enough x =
      let used = x.0.full in
      let few = inserts_few [] (changes_of old) in
      let rows = enough.rows in
      absurd (omega (arith, used, few, rows))
  call_given old requests (call.Get k) Full new enough x = absurd x
  call_given old requests (call.Remove k) Full new enough x = absurd x
  call_given old requests (call.Next k) Full new enough x = absurd x
  call_given old requests (call.Put k y) Worn new enough x =
      let used = x.0 in
      let few = changes_few k (changes_of old) in
      let versions = enough.versions in
      absurd (omega (arith, used, few, versions))
  call_given old requests (call.Remove k) Worn new enough x =
      let used = x.0 in
      let few = changes_few k (changes_of old) in
      let versions = enough.versions in
      absurd (omega (arith, used, few, versions))
  call_given old requests (call.Get k) Worn new enough x = absurd x
  call_given old requests (call.Next k) Worn new enough x = absurd x

  tells_given : (old : Log) (requests : List Request) (c : Call) (replies : List Reply) (new : Log) →
      IsEnough l old requests → Tells (AnswersAlone l) old c replies new → HasNoRefusal replies
  tells_given old requests c replies new enough x =
      subst HasNoRefusal (sym x.4)
      (reply_given c x.0 x.1 (call_given old requests c x.0 new enough x.2) x.3, tt)

  exchange_given : (old : Log) (requests : List Request) (r : Request) (replies : List Reply)
      (new : Log) → IsEnough l old requests → Exchange (AnswersAlone l) old r replies new →
      HasNoRefusal replies
  exchange_given old requests (request.Get k) replies new enough x =
      tells_given old requests (call.Get k) replies new enough x
  exchange_given old requests (request.Put k y) replies new enough x =
      tells_given old requests (call.Put k y) replies new enough x
  exchange_given old requests (request.Remove k) replies new enough x =
      tells_given old requests (call.Remove k) replies new enough x
  exchange_given old requests request.Quit replies new enough x =
      subst HasNoRefusal (sym x.0) (tt, tt)
  exchange_given old requests (request.Bad reason) replies new enough x =
      subst HasNoRefusal (sym x.0) (tt, tt)

  session_given : (old : Log) (rs : List Request) (replies : List Reply) (new : Log) →
      IsEnough l old rs → Session (AnswersAlone l) old rs replies new → HasNoRefusal replies
  session_given old [] replies new enough s = subst HasNoRefusal (sym s.0) tt
  session_given old (r ∷ rs) replies new enough s =
      let puts = exchange_weighs l may_insert put_of put_bounds old r s.1 s.0 s.3 in
      let all = exchange_weighs l may_change one_of one_bounds old r s.1 s.0 s.3 in
      let rows = enough.rows in
      let versions = enough.versions in
      subst HasNoRefusal (sym s.5)
      (all_append s.1 s.2 (exchange_given old (r ∷ rs) r s.1 s.0 enough s.3)
      (session_given s.0 rs s.2 new
      (record { rows = omega (arith, puts, rows); versions = omega (arith, all, versions) }) s.4))

-- where there is enough for all requests of a session from the empty log, none is refused
pub session_refuses_nothing : (l : Limits) (log : Log) (requests : List Request) (replies : List Reply) →
    Session (AnswersAlone l) [] requests replies log → HasEnough l requests → HasNoRefusal replies
session_refuses_nothing l log requests replies session has =
    let rows = has.rows in
    let versions = has.versions in
    session_given l [] requests replies log
    (record { rows = omega (arith, rows); versions = omega (arith, versions) }) session
