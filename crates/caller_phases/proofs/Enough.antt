-- Where there is enough for all calls of a trace, none is refused: what changed is no more than what was called.
use Rattle.std.proofs.Common.{◌≡◌, ℕ, zero, suc, ◌+◌, ◌<◌, ◌≤◌, Bool, true, false, cond, ◌==◌}
use Rattle.std.proofs.Common.{List, [], ◌∷◌, ◌++◌, length, get_or, replicate, Some}
use Rattle.std.proofs.Common.{refl, sym, ap, ◌∙◌, subst, arith}
use Rattle.std.specs.Prelude.{slice_get}
use Rattle.std.specs.List.{AllByRecursion}
use Rattle.std.proofs.lemmas.List.{length-replicate}
use Rattle.map_model.specs.declared.calls.Call.{Call}
use Rattle.map_model.specs.declared.calls.Call.TheVariants as call
use Rattle.map_model.specs.declared.calls.Answer.{Answer}
use Rattle.map_model.specs.declared.calls.Answer.TheVariants.{Value, Old, Near, Full, Worn}
use Rattle.map_model.specs.declared.entries.Change.{Change}
use Rattle.map_model.specs.History.{History, caller_of, changes_at, changes_by, inserts}
use Rattle.map_model.specs.Logs.{Log, changes_of, place_of}
use Rattle.map_model.specs.Map.{Map}
use Rattle.linearization.specs.Linearization.{AreLogsOf}
use Rattle.word_layout.specs.declared.limits.Limits.{Limits}
use Rattle.index_machine.specs.Forms.{last_version}
use Rattle.wire_commands.specs.declared.request.Request.{Request}
use Rattle.wire_commands.specs.declared.request.Request.TheVariants as request
use Rattle.wire_commands.specs.declared.reply.Reply.{Reply}
use Rattle.line_session.specs.Enough.{HasNoRefusal, asked, may_change, may_insert}
use Rattle.line_session.specs.Session.{Exchange, Session, Tells}
use Rattle.line_session.proofs.Weighing.{Bounds, IsGiven, all_append, changes_few, entry_weighs, inserts_few, one_bounds, one_of}
use Rattle.line_session.proofs.Weighing.{put_bounds, put_of, reply_given, total, total_append, weight}
use Rattle.trace_text.specs.declared.lines.Line.{Line}
use Rattle.trace_text.specs.declared.lines.Line.TheVariants as line
use Rattle.caller_phases.proofs.Sums.{only, summed, summed_add, summed_le, summed_one, summed_only}
use Rattle.caller_phases.specs.Calls.{all_calls, calls_in, calls_of, phases_of}
use Rattle.caller_phases.specs.Enough.{EnoughRefusesNothing, HaveNoRefusal}
use Rattle.caller_phases.specs.Explained.{AddsWithin, AnswersWithin, ArePhases, GoesOnTo, IsPhase}

-- ---- numbers of changes and of calls ----

-- the changes of each caller below this come to all
total_by : (v : Change → ℕ) (n : ℕ) (h : History) → AllByRecursion (λ c. caller_of c < n) h →
    total v h ≤ summed (λ k. total v (changes_by k h)) n
total_by v n [] by = omega arith
total_by v n (c ∷ h) by =
    let rest = total_by v n h by.1 in
    let own = summed_one (caller_of c) (v c) n by.0 in
    let parts = summed_add (only (caller_of c) (v c)) (λ k. total v (changes_by k h)) n in
    let le = summed_le (λ k. only (caller_of c) (v c) k + total v (changes_by k h))
    (λ k. total v (changes_by k (c ∷ h))) n (λ k low. here k (caller_of c == k)) in
    omega (arith, rest, own, parts, le)
  where
    here : (k : ℕ) (b : Bool) →
        cond b (v c) 0 + total v (changes_by k h)
        ≤ total v (cond b (c ∷ changes_by k h) (changes_by k h))
    here k true = omega arith
    here k false = omega arith

-- what the calls of these lines come to
abbrev called : (Request → ℕ) → List Line → ℕ
called w lines = asked w (all_calls lines)

-- the calls of all callers below this come to no more than those of the lines
asked_by : (w : Request → ℕ) (n present : ℕ) (lines : List Line) →
    summed (λ k. asked w (calls_of k present lines)) n ≤ called w lines
asked_by w n present [] = nothing n
  where
    nothing : (m : ℕ) → summed (λ k. 0) m ≤ 0
    nothing zero = omega arith
    nothing (suc m) = let before = nothing m in omega arith
asked_by w n present (line.Skip ∷ lines) = asked_by w n present lines
asked_by w n present (line.Phase ∷ lines) = asked_by w n present lines
asked_by w n present (line.Caller next ∷ lines) = asked_by w n next lines
asked_by w n present (line.Call r ∷ lines) =
    let rest = asked_by w n present lines in
    let own = summed_only present (w r) n in
    let parts = summed_add (only present (w r)) (λ k. asked w (calls_of k present lines)) n in
    let le = summed_le (λ k. asked w (calls_of k present (line.Call r ∷ lines)))
    (λ k. only present (w r) k + asked w (calls_of k present lines)) n
    (λ k low. here k (present == k)) in
    omega (arith, rest, own, parts, le)
  where
    here : (k : ℕ) (b : Bool) →
        asked w (cond b (r ∷ calls_of k present lines) (calls_of k present lines))
        ≤ cond b (w r) 0 + asked w (calls_of k present lines)
    here k true = omega arith
    here k false = omega arith

-- what the calls of all phases come to
abbrev called_in : (Request → ℕ) → List (List Line) → ℕ
called_in w [] = 0
called_in w (own ∷ phases) = called w own + called_in w phases

called_all : (w : Request → ℕ) (lines : List Line) → called_in w (phases_of lines) ≡ called w lines
called_all w [] = refl
called_all w (line.Phase ∷ lines) = let rest = called_all w lines in omega arith
called_all w (line.Skip ∷ lines) = called_all w lines
called_all w (line.Caller c ∷ lines) = called_all w lines
called_all w (line.Call r ∷ lines) = let rest = called_all w lines in omega arith

-- ---- one caller ----

-- each log is this one
none_at : (many k : ℕ) (none : Log) → get_or (replicate many none) k none ≡ none
none_at zero k none = refl
none_at (suc many) zero none = refl
none_at (suc many) (suc k) none = none_at many k none

module _ (w : Request → ℕ) (v : Change → ℕ) (bounds : Bounds w v) where
  module _ (l : Limits) (m : Map) (earlier later : History) (caller : ℕ) where
    -- what a log's changes come to grows by no more than this
    abbrev Grows : ℕ → Log → Log → Type 0
    Grows by old new = total v (changes_of new) ≤ total v (changes_of old) + by

    adds_weighs : (old : Log) (c : Call) (a : Answer) (new : Log) →
        AddsWithin earlier later caller old c a new → Grows (weight w c) old new
    adds_weighs old c a new adds =
        subst (Grows (weight w c) old) (sym adds.added)
        (entry_weighs w v bounds caller (place_of adds.entry) c a adds.entry old adds.is)

    stays_weighs : (by : ℕ) (old new : Log) → new ≡ old → Grows by old new
    stays_weighs by old new same = subst (Grows by old) (sym same) (omega arith)

    call_weighs : (old : Log) (c : Call) (a : Answer) (new : Log) →
        AnswersWithin l m earlier later caller old c a new → Grows (weight w c) old new
    call_weighs old (call.Get k) (Value f) new x = adds_weighs old (call.Get k) (Value f) new x
    call_weighs old (call.Get k) (Old o) new x = adds_weighs old (call.Get k) (Old o) new x
    call_weighs old (call.Get k) (Near n) new x = adds_weighs old (call.Get k) (Near n) new x
    call_weighs old (call.Get k) Full new x = absurd x
    call_weighs old (call.Get k) Worn new x = absurd x
    call_weighs old (call.Put k y) (Value f) new x = adds_weighs old (call.Put k y) (Value f) new x
    call_weighs old (call.Put k y) (Old o) new x = adds_weighs old (call.Put k y) (Old o) new x
    call_weighs old (call.Put k y) (Near n) new x = adds_weighs old (call.Put k y) (Near n) new x
    call_weighs old (call.Put k y) Full new x =
        stays_weighs (weight w (call.Put k y)) old new x.no_entry
    call_weighs old (call.Put k y) Worn new x =
        stays_weighs (weight w (call.Put k y)) old new x.no_entry
    call_weighs old (call.Remove k) (Value f) new x = adds_weighs old (call.Remove k) (Value f) new x
    call_weighs old (call.Remove k) (Old o) new x = adds_weighs old (call.Remove k) (Old o) new x
    call_weighs old (call.Remove k) (Near n) new x = adds_weighs old (call.Remove k) (Near n) new x
    call_weighs old (call.Remove k) Full new x = absurd x
    call_weighs old (call.Remove k) Worn new x =
        stays_weighs (weight w (call.Remove k)) old new x.no_entry
    call_weighs old (call.Next k) (Value f) new x = adds_weighs old (call.Next k) (Value f) new x
    call_weighs old (call.Next k) (Old o) new x = adds_weighs old (call.Next k) (Old o) new x
    call_weighs old (call.Next k) (Near n) new x = adds_weighs old (call.Next k) (Near n) new x
    call_weighs old (call.Next k) Full new x = absurd x
    call_weighs old (call.Next k) Worn new x = absurd x

    abbrev Relates : Log → Call → Answer → Log → Type 0
    Relates = AnswersWithin l m earlier later caller

    exchange_weighs : (old : Log) (r : Request) (replies : List Reply) (new : Log) →
        Exchange Relates old r replies new → Grows (w r) old new
    exchange_weighs old (request.Get k) replies new x = call_weighs old (call.Get k) x.0 new x.2
    exchange_weighs old (request.Put k y) replies new x = call_weighs old (call.Put k y) x.0 new x.2
    exchange_weighs old (request.Remove k) replies new x =
        call_weighs old (call.Remove k) x.0 new x.2
    exchange_weighs old request.Quit replies new x = stays_weighs (w request.Quit) old new x.1
    exchange_weighs old (request.Bad reason) replies new x =
        stays_weighs (w (request.Bad reason)) old new x.1

    session_weighs : (old : Log) (rs : List Request) (replies : List Reply) (new : Log) →
        Session Relates old rs replies new → Grows (asked w rs) old new
    session_weighs old [] replies new s = stays_weighs 0 old new s.1
    session_weighs old (r ∷ rs) replies new s =
        let first = exchange_weighs old r s.1 s.0 s.3 in
        let rest = session_weighs s.0 rs s.2 new s.4 in
        omega (arith, first, rest)

  -- ---- all phases ----

  -- what the changes of all logs come to
  abbrev logged : ℕ → List Log → ℕ
  logged n logs = summed (λ k. total v (changes_of (get_or logs k []))) n

  phase_weighs : (l : Limits) (m : Map) (earlier later : History) (own : List Line) (old : List Log)
      (replies : List (List Reply)) (new : List Log) → IsPhase l m earlier later own old replies new →
      logged l.callers new ≤ logged l.callers old + called w own
  phase_weighs l m earlier later own old replies new phase =
      let each = summed_le (λ k. total v (changes_of (get_or new k [])))
      (λ k. total v (changes_of (get_or old k [])) + asked w (calls_in k own)) l.callers
      (λ k low. session_weighs l m earlier later k (get_or old k []) (calls_in k own)
      (get_or replies k []) (get_or new k []) (phase.each k low)) in
      let parts = summed_add (λ k. total v (changes_of (get_or old k [])))
      (λ k. asked w (calls_in k own)) l.callers in
      let all = asked_by w l.callers 0 own in
      omega (arith, each, parts, all)

  phases_weigh : (l : Limits) (m : Map) (earlier : History) (phases : List (List Line))
      (old : List Log) (replies : List (List (List Reply))) (later : History) (new : List Log) →
      ArePhases l m earlier phases old replies later new →
      logged l.callers new ≤ logged l.callers old + called_in w phases
  phases_weigh l m earlier [] old replies later new run =
      subst (λ (z : List Log). logged l.callers z ≤ logged l.callers old + 0) (sym run.1) (omega arith)
  phases_weigh l m earlier (own ∷ phases) old replies later new run =
      let first = phase_weighs l m earlier run.0 own old run.2 run.1 run.4 in
      let rest = phases_weigh l m run.0 phases run.1 run.3 later new run.5 in
      omega (arith, first, rest)

  -- no log has an entry at the beginning
  logged_none : (callers n : ℕ) → logged n (replicate callers []) ≡ 0
  logged_none callers zero = refl
  logged_none callers (suc n) =
      let before = logged_none callers n in
      let last : total v (changes_of (get_or (replicate callers []) n [])) ≡ 0 =
      ap (λ (log : Log). total v (changes_of log)) (none_at callers n []) in
      omega (arith, before, last)

-- ---- the history ----

logs_many : (l : Limits) (m : Map) (earlier : History) (phases : List (List Line)) (old : List Log)
    (replies : List (List (List Reply))) (later : History) (new : List Log) →
    ArePhases l m earlier phases old replies later new → length old ≡ l.callers →
    length new ≡ l.callers
logs_many l m earlier [] old replies later new run many = ap (λ (z : List Log). length z) run.1 ∙ many
logs_many l m earlier (own ∷ phases) old replies later new run many =
    logs_many l m run.0 phases run.1 run.3 later new run.5 run.4.logged

got_at : (logs : List Log) (k : ℕ) → k < length logs → slice_get logs k ≡ Some (get_or logs k [])
got_at [] k low = absurd (omega arith)
got_at (log ∷ logs) zero low = refl
got_at (log ∷ logs) (suc k) low = got_at logs k (omega arith)

-- what was changed is no more than what was called
changed_called : (w : Request → ℕ) (v : Change → ℕ) → Bounds w v → (l : Limits) (m : Map)
    (lines : List Line) (h : History) (logs : List Log) (replies : List (List (List Reply))) →
    ArePhases l m [] (phases_of lines) (replicate l.callers []) replies h logs →
    AllByRecursion (λ c. caller_of c < l.callers) h → AreLogsOf m h logs →
    total v h ≤ called w lines
changed_called w v bounds l m lines h logs replies run by complete =
    let all = total_by v l.callers h by in
    let many = logs_many l m [] (phases_of lines) (replicate l.callers []) replies h logs run
    (length-replicate l.callers []) in
    let own = summed_le (λ k. total v (changes_by k h))
    (λ k. total v (changes_of (get_or logs k []))) l.callers (λ k low. here k (omega (arith, many, low))) in
    let grown = phases_weigh w v bounds l m [] (phases_of lines) (replicate l.callers []) replies h logs run in
    let none = logged_none w v bounds l.callers l.callers in
    let parts = called_all w lines in
    omega (arith, all, own, grown, none, parts)
  where
    here : (k : ℕ) → k < length logs →
        total v (changes_by k h) ≤ total v (changes_of (get_or logs k []))
    here k low =
        let is = (complete k (get_or logs k []) (got_at logs k low)).complete in
        subst (λ (z : History). total v z ≤ total v (changes_of (get_or logs k []))) is (omega arith)

-- ---- replies ----

-- by this point of the history there are rows and versions left
pub record IsEnough (l : Limits) (m : Map) (later : History) : Type 0 where
  pub rows : inserts m later + l.callers ≤ l.records
  pub versions : (key : ℕ) → l.first_version + changes_at key later < last_version

module _ (l : Limits) (m : Map) (earlier later : History) (caller : ℕ)
    (enough : IsEnough l m later) where
  abbrev Told : Log → Call → Answer → Log → Type 0
  Told = AnswersWithin l m earlier later caller

  call_given : (old : Log) (c : Call) (a : Answer) (new : Log) → Told old c a new → IsGiven a
  call_given old c (Value f) new x = tt
  call_given old c (Old o) new x = tt
  call_given old c (Near n) new x = tt
  call_given old (call.Put k y) Full new x =
      let used = x.used_up in let left = enough.rows in absurd (omega (arith, used, left))
  call_given old (call.Get k) Full new x = absurd x
  call_given old (call.Remove k) Full new x = absurd x
  call_given old (call.Next k) Full new x = absurd x
  call_given old (call.Put k y) Worn new x =
      let used = x.enough in let left = enough.versions k in absurd (omega (arith, used, left))
  call_given old (call.Remove k) Worn new x =
      let used = x.enough in let left = enough.versions k in absurd (omega (arith, used, left))
  call_given old (call.Get k) Worn new x = absurd x
  call_given old (call.Next k) Worn new x = absurd x

  tells_given : (old : Log) (c : Call) (replies : List Reply) (new : Log) → Tells Told old c replies new →
      HasNoRefusal replies
  tells_given old c replies new x =
      subst HasNoRefusal (sym x.4)
      (reply_given c x.0 x.1 (call_given old c x.0 new x.2) x.3, tt)

  exchange_given : (old : Log) (r : Request) (replies : List Reply) (new : Log) →
      Exchange Told old r replies new → HasNoRefusal replies
  exchange_given old (request.Get k) replies new x = tells_given old (call.Get k) replies new x
  exchange_given old (request.Put k y) replies new x = tells_given old (call.Put k y) replies new x
  exchange_given old (request.Remove k) replies new x = tells_given old (call.Remove k) replies new x
  exchange_given old request.Quit replies new x = subst HasNoRefusal (sym x.0) (tt, tt)
  exchange_given old (request.Bad reason) replies new x =
      subst HasNoRefusal (sym x.0) (tt, tt)

  session_given : (old : Log) (rs : List Request) (replies : List Reply) (new : Log) →
      Session Told old rs replies new → HasNoRefusal replies
  session_given old [] replies new s = subst HasNoRefusal (sym s.0) tt
  session_given old (r ∷ rs) replies new s =
      subst HasNoRefusal (sym s.5)
      (all_append s.1 s.2 (exchange_given old r s.1 s.0 s.3) (session_given s.0 rs s.2 new s.4))

-- what holds of each caller's replies holds of all
all_by_place : (replies : List (List Reply)) → ((k : ℕ) → k < length replies →
    HasNoRefusal (get_or replies k [])) → AllByRecursion HasNoRefusal replies
all_by_place [] each = tt
all_by_place (own ∷ replies) each =
    (each zero (omega arith), all_by_place replies (λ k low. each (suc k) (omega arith)))

-- a later history goes on from an earlier one
goes_trans : (a b c : History) → GoesOnTo a b → GoesOnTo b c → GoesOnTo a c
goes_trans a b c one two = (two.0 ++ one.0, whole)
  where
    assoc : (xs ys zs : History) → (xs ++ ys) ++ zs ≡ xs ++ (ys ++ zs)
    assoc [] ys zs = refl
    assoc (x ∷ xs) ys zs = ap (λ (z : History). x ∷ z) (assoc xs ys zs)

    whole : (two.0 ++ one.0) ++ a ≡ c
    whole = assoc two.0 one.0 a ∙ (ap (λ (z : History). two.0 ++ z) one.1 ∙ two.1)

goes_all : (l : Limits) (m : Map) (earlier : History) (phases : List (List Line)) (old : List Log)
    (replies : List (List (List Reply))) (later : History) (new : List Log) →
    ArePhases l m earlier phases old replies later new → GoesOnTo earlier later
goes_all l m earlier [] old replies later new run = ([], sym run.2)
goes_all l m earlier (own ∷ phases) old replies later new run =
    goes_trans earlier run.0 later run.4.goes_on
    (goes_all l m run.0 phases run.1 run.3 later new run.5)

phases_given : (l : Limits) (m : Map) (h : History) (earlier : History) (phases : List (List Line))
    (old : List Log) (replies : List (List (List Reply))) (new : List Log) →
    ((cut : History) → GoesOnTo cut h → IsEnough l m cut) →
    ArePhases l m earlier phases old replies h new → HaveNoRefusal replies
phases_given l m h earlier [] old replies new enough run = subst HaveNoRefusal (sym run.0) tt
phases_given l m h earlier (own ∷ phases) old replies new enough run =
    let here = enough run.0 (goes_all l m run.0 phases run.1 run.3 h new run.5) in
    subst HaveNoRefusal (sym run.6) (
      all_by_place run.2
          (λ k low. session_given l m earlier run.0 k here (get_or old k []) (calls_in k own)
          (get_or run.2 k []) (get_or run.1 k []) (run.4.each k (subst (λ (z : ℕ). k < z) run.4.replied low))),
      phases_given l m h run.0 phases run.1 run.3 new enough run.5,
    )

pub enough_refuses_nothing : EnoughRefusesNothing
enough_refuses_nothing l m lines h logs text has explained =
    phases_given l m h [] (phases_of lines) (replicate l.callers []) explained.replies logs left
    explained.phases
  where
    left : (cut : History) → GoesOnTo cut h → IsEnough l m cut
    left cut goes =
        let puts = changed_called may_insert put_of put_bounds l m lines h logs explained.replies
        explained.phases explained.by_callers explained.complete in
        let all = changed_called may_change one_of one_bounds l m lines h logs explained.replies
        explained.phases explained.by_callers explained.complete in
        let few = inserts_few m cut in
        let put_parts = ap (total put_of) (sym goes.1) ∙ total_append put_of goes.0 cut in
        let one_parts = ap (total one_of) (sym goes.1) ∙ total_append one_of goes.0 cut in
        let rows = has.rows in
        let versions = has.versions in
        record {
          rows = omega (arith, puts, few, put_parts, rows);
          versions = λ key. let here = changes_few key cut in
              omega (arith, all, here, one_parts, versions);
        }
