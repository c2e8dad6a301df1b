-- What changes come to, what calls may change, and replies that tell of no refusal.
use Rattle.std.proofs.Common.{◌≡◌, ℕ, ◌+◌, ◌≤◌, Bool, true, false, cond, ◌==◌}
use Rattle.std.proofs.Common.{List, [], ◌∷◌, ◌++◌, Option, Some, None, arith}
use Rattle.std.specs.Prelude.{is_none}
use Rattle.std.specs.List.{AllByRecursion}
use Rattle.map_model.specs.declared.calls.Call.{Call}
use Rattle.map_model.specs.declared.calls.Call.TheVariants as call
use Rattle.map_model.specs.declared.calls.Answer.{Answer}
use Rattle.map_model.specs.declared.calls.Answer.TheVariants.{Value, Old, Near, Full, Worn}
use Rattle.map_model.specs.declared.calls.Near.TheVariants.{Row, Gap}
use Rattle.map_model.specs.declared.entries.Change.{Change}
use Rattle.map_model.specs.declared.entries.Change.TheVariants as change
use Rattle.map_model.specs.declared.entries.Entry.{Entry}
use Rattle.map_model.specs.declared.entries.Entry.TheVariants.{Made, Look}
use Rattle.map_model.specs.Answer.{entry_of}
use Rattle.map_model.specs.History.{History, after, changes_at, inserts}
use Rattle.map_model.specs.Logs.{Log, changes_of}
use Rattle.map_model.specs.Map.{Map, key_of, look}
use Rattle.wire_commands.specs.declared.request.Request.{Request}
use Rattle.wire_commands.specs.declared.request.Request.TheVariants as request
use Rattle.wire_commands.specs.declared.reply.Reply.{Reply}
use Rattle.wire_commands.specs.declared.reply.Reply.TheVariants as reply
use Rattle.line_session.specs.Enough.{IsNoRefusal, may_change, may_insert}
use Rattle.line_session.specs.Session.{reply_of}

-- ---- changes ----

-- what changes come to by a number for each
abbrev pub total : (Change → ℕ) → History → ℕ
total v [] = 0
total v (c ∷ h) = v c + total v h

pub total_append : (v : Change → ℕ) (newer h : History) → total v (newer ++ h) ≡ total v newer + total v h
total_append v [] h = omega arith
total_append v (c ∷ newer) h = let rest = total_append v newer h in omega arith

-- the puts of a history, and all its changes
abbrev pub put_of : Change → ℕ
put_of (change.Put c k x) = 1
put_of (change.Remove c k) = 0

abbrev pub one_of : Change → ℕ
one_of c = 1

pub inserts_few : (m : Map) (h : History) → inserts m h ≤ total put_of h
inserts_few m [] = omega arith
inserts_few m (change.Put c k x ∷ h) = go (is_none (look (after m h) k)) (inserts_few m h)
  where
    go : (b : Bool) → inserts m h ≤ total put_of h →
        cond b (inserts m h + 1) (inserts m h) ≤ 1 + total put_of h
    go true rest = omega arith
    go false rest = omega arith
inserts_few m (change.Remove c k ∷ h) = let rest = inserts_few m h in omega arith

pub changes_few : (key : ℕ) (h : History) → changes_at key h ≤ total one_of h
changes_few key [] = omega arith
changes_few key (c ∷ h) = go (key_of c == key) (changes_few key h)
  where
    go : (b : Bool) → changes_at key h ≤ total one_of h →
        cond b (changes_at key h + 1) (changes_at key h) ≤ 1 + total one_of h
    go true rest = omega arith
    go false rest = omega arith

-- ---- one call ----

-- a call changes no more than its request may
pub record Bounds (w : Request → ℕ) (v : Change → ℕ) : Type 0 where
  pub put : (c k x : ℕ) → v (change.Put c k x) ≤ w (request.Put k x)
  pub remove : (c k : ℕ) → v (change.Remove c k) ≤ w (request.Remove k)

-- the request of a call
abbrev pub weight : (Request → ℕ) → Call → ℕ
weight w (call.Get k) = w (request.Get k)
weight w (call.Put k x) = w (request.Put k x)
weight w (call.Remove k) = w (request.Remove k)
weight w (call.Next k) = 0

module _ (w : Request → ℕ) (v : Change → ℕ) (bounds : Bounds w v) where
  pub entry_weighs : (caller place : ℕ) (c : Call) (a : Answer) (e : Entry) (old : Log) →
      entry_of caller place c a ≡ Some e →
      total v (changes_of (e ∷ old)) ≤ total v (changes_of old) + weight w c
  entry_weighs caller place (call.Get k) (Value found) (Look p lo hi f) old is = omega arith
  entry_weighs caller place (call.Get k) (Value found) (Made p c o) old is = absurd (cc is)
  entry_weighs caller place (call.Get k) (Old o) e old is = absurd (cc is)
  entry_weighs caller place (call.Get k) (Near n) e old is = absurd (cc is)
  entry_weighs caller place (call.Get k) Full e old is = absurd (cc is)
  entry_weighs caller place (call.Get k) Worn e old is = absurd (cc is)
  entry_weighs caller place (call.Put k x) (Old o) (Made p c f) old is =
      let same : c ≡ change.Put caller k x = cc is in
      let le : v c ≤ w (request.Put k x) = rw same (bounds.put caller k x) in
      omega arith
  entry_weighs caller place (call.Put k x) (Old o) (Look p lo hi f) old is = absurd (cc is)
  entry_weighs caller place (call.Put k x) (Value f) e old is = absurd (cc is)
  entry_weighs caller place (call.Put k x) (Near n) e old is = absurd (cc is)
  entry_weighs caller place (call.Put k x) Full e old is = absurd (cc is)
  entry_weighs caller place (call.Put k x) Worn e old is = absurd (cc is)
  entry_weighs caller place (call.Remove k) (Old (Some o)) (Made p c f) old is =
      let same : c ≡ change.Remove caller k = cc is in
      let le : v c ≤ w (request.Remove k) = rw same (bounds.remove caller k) in
      omega arith
  entry_weighs caller place (call.Remove k) (Old (Some o)) (Look p lo hi f) old is = absurd (cc is)
  entry_weighs caller place (call.Remove k) (Old None) (Look p lo hi f) old is = omega arith
  entry_weighs caller place (call.Remove k) (Old None) (Made p c f) old is = absurd (cc is)
  entry_weighs caller place (call.Remove k) (Value f) e old is = absurd (cc is)
  entry_weighs caller place (call.Remove k) (Near n) e old is = absurd (cc is)
  entry_weighs caller place (call.Remove k) Full e old is = absurd (cc is)
  entry_weighs caller place (call.Remove k) Worn e old is = absurd (cc is)
  entry_weighs caller place (call.Next k) (Near (Row key x)) (Look p lo hi f) old is = omega arith
  entry_weighs caller place (call.Next k) (Near (Row key x)) (Made p c f) old is = absurd (cc is)
  entry_weighs caller place (call.Next k) (Near (Gap h)) (Look p lo hi f) old is = omega arith
  entry_weighs caller place (call.Next k) (Near (Gap h)) (Made p c f) old is = absurd (cc is)
  entry_weighs caller place (call.Next k) (Value f) e old is = absurd (cc is)
  entry_weighs caller place (call.Next k) (Old o) e old is = absurd (cc is)
  entry_weighs caller place (call.Next k) Full e old is = absurd (cc is)
  entry_weighs caller place (call.Next k) Worn e old is = absurd (cc is)

pub put_bounds : Bounds may_insert put_of
put_bounds = record { put = λ c k x. omega arith; remove = λ c k. omega arith }

pub one_bounds : Bounds may_change one_of
one_bounds = record { put = λ c k x. omega arith; remove = λ c k. omega arith }

-- ---- replies ----

-- no answer is a refusal
abbrev pub IsGiven : Answer → Type 0
IsGiven Full = ⊥
IsGiven Worn = ⊥
IsGiven a = Unit {0}

-- an answer that is no refusal is told by no refusal
pub reply_given : (c : Call) (a : Answer) (r : Reply) → IsGiven a → reply_of c a ≡ Some r → IsNoRefusal r
reply_given c a (reply.Value x) given is = tt
reply_given c a reply.NoValue given is = tt
reply_given c a reply.New given is = tt
reply_given c a (reply.Old x) given is = tt
reply_given c a reply.Bye given is = tt
reply_given c a (reply.Bad reason) given is = tt
reply_given (call.Get k) (Value None) reply.Full given is = absurd (cc is)
reply_given (call.Get k) (Value (Some x)) reply.Full given is = absurd (cc is)
reply_given (call.Get k) (Old o) reply.Full given is = absurd (cc is)
reply_given (call.Get k) (Near n) reply.Full given is = absurd (cc is)
reply_given (call.Put k y) (Old None) reply.Full given is = absurd (cc is)
reply_given (call.Put k y) (Old (Some x)) reply.Full given is = absurd (cc is)
reply_given (call.Put k y) (Value f) reply.Full given is = absurd (cc is)
reply_given (call.Put k y) (Near n) reply.Full given is = absurd (cc is)
reply_given (call.Remove k) (Old None) reply.Full given is = absurd (cc is)
reply_given (call.Remove k) (Old (Some x)) reply.Full given is = absurd (cc is)
reply_given (call.Remove k) (Value f) reply.Full given is = absurd (cc is)
reply_given (call.Remove k) (Near n) reply.Full given is = absurd (cc is)
reply_given (call.Next k) (Value f) reply.Full given is = absurd (cc is)
reply_given (call.Next k) (Old o) reply.Full given is = absurd (cc is)
reply_given (call.Next k) (Near n) reply.Full given is = absurd (cc is)
reply_given c Full reply.Full given is = absurd given
reply_given c Worn reply.Full given is = absurd given
reply_given (call.Get k) (Value None) reply.Worn given is = absurd (cc is)
reply_given (call.Get k) (Value (Some x)) reply.Worn given is = absurd (cc is)
reply_given (call.Get k) (Old o) reply.Worn given is = absurd (cc is)
reply_given (call.Get k) (Near n) reply.Worn given is = absurd (cc is)
reply_given (call.Put k y) (Old None) reply.Worn given is = absurd (cc is)
reply_given (call.Put k y) (Old (Some x)) reply.Worn given is = absurd (cc is)
reply_given (call.Put k y) (Value f) reply.Worn given is = absurd (cc is)
reply_given (call.Put k y) (Near n) reply.Worn given is = absurd (cc is)
reply_given (call.Remove k) (Old None) reply.Worn given is = absurd (cc is)
reply_given (call.Remove k) (Old (Some x)) reply.Worn given is = absurd (cc is)
reply_given (call.Remove k) (Value f) reply.Worn given is = absurd (cc is)
reply_given (call.Remove k) (Near n) reply.Worn given is = absurd (cc is)
reply_given (call.Next k) (Value f) reply.Worn given is = absurd (cc is)
reply_given (call.Next k) (Old o) reply.Worn given is = absurd (cc is)
reply_given (call.Next k) (Near n) reply.Worn given is = absurd (cc is)
reply_given c Full reply.Worn given is = absurd given
reply_given c Worn reply.Worn given is = absurd given

pub all_append : (xs ys : List Reply) → AllByRecursion IsNoRefusal xs → AllByRecursion IsNoRefusal ys →
    AllByRecursion IsNoRefusal (xs ++ ys)
all_append [] ys one two = two
all_append (x ∷ xs) ys one two = (one.0, all_append xs ys one.1 two)
