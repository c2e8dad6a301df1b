-- What a caller was replied in a phase is explained by the stretch of the history that the phase has.
use Rattle.std.proofs.Common.{◌≡◌, ℕ, ◌+◌, ◌≤◌, Bool, true, false, cond, ◌==◌, Some, None, List, [], ◌∷◌, ◌++◌, length}
use Rattle.std.proofs.Common.{refl, sym, ap, ◌∙◌, subst, arith, append-nil, append_assoc}
use Rattle.map_model.specs.declared.calls.Call.{Call}
use Rattle.map_model.specs.declared.calls.Call.TheVariants.{Get, Put, Remove, Next}
use Rattle.map_model.specs.declared.calls.Answer.{Answer}
use Rattle.map_model.specs.declared.calls.Answer.TheVariants.{Full, Worn}
use Rattle.map_model.specs.Answer.{entry_of}
use Rattle.map_model.specs.History.{History, after, changes_at}
use Rattle.map_model.specs.Logs.{IsLogOf, before_place, place_of}
use Rattle.map_model.specs.Map.{key_of, look}
use Rattle.map_model.proofs.Logging.{before_place-append, end_in_history}
use Rattle.wire_commands.specs.declared.reply.Reply.{Reply}
use Rattle.wire_commands.specs.declared.request.Request.{Request}
use Rattle.line_session.specs.Session.{Exchange, Session}
use Rattle.line_session.proofs.Carrying.{session_means, session_on}
use Rattle.index_machine.specs.declared.opening.Opening.{Opening}
use Rattle.index_machine.specs.Execution.{Continues, Execution}
use Rattle.index_machine.specs.Forms.{last_version}
use Rattle.index_machine.specs.LivePlaces.{history}
use Rattle.index_machine.specs.Openings.{first_version, opening_map}
use Rattle.index_machine.specs.Words.{limits}
use Rattle.index_machine.proofs.Executions.{continues_trans}
use Rattle.index_rule.proofs.Moments.{history_grows, history_on}
use Rattle.row_arena.specs.Fullness.{RowsAreUsedUp}
use Rattle.row_arena.proofs.UsedRows.{used_up_stay}
use Rattle.xindex_core.specs.Answering.{AddsEntry, Answers, HasNoRoom, IsExhausted}
use Rattle.xindex_core.specs.Callers.{Caller, IsLater, seen_by}
use Rattle.caller_phases.specs.Explained.{AddsWithin, AnswersWithin, HadExhausted, HadNoRoom}

-- ---- one more call ----

-- one more request was asked
pub session_snoc : {A : Type 0} (R : A → Call → Answer → A → Type 0) (a : A) (asked : List Request)
    (replies : List Reply) (b : A) (request : Request) (more : List Reply) (c : A) →
    Session R a asked replies b → Exchange R b request more c →
    Session R a (asked ++ request ∷ []) (replies ++ more) c
session_snoc R a [] replies b request more c s x = (
  c,
  more,
  [],
  subst (λ z. Exchange R z request more c) s.1 x,
  (refl, refl),
  ap (λ (z : List Reply). z ++ more) s.0 ∙ sym (append-nil more),
)
session_snoc R a (r ∷ asked) replies b request more c s x = (
  s.0,
  s.1,
  s.2 ++ more,
  s.3,
  session_snoc R s.0 asked s.2 b request more c s.4 x,
  ap (λ (z : List Reply). z ++ more) s.5 ∙ append_assoc s.1 s.2 more,
)

-- ---- histories that go on ----

changes_more : (key : ℕ) (newer h : History) → changes_at key h ≤ changes_at key (newer ++ h)
changes_more key [] h = omega arith
changes_more key (d ∷ newer) h = go (key_of d == key) (changes_more key newer h)
  where
    go : (b : Bool) → changes_at key h ≤ changes_at key (newer ++ h) →
        changes_at key h
        ≤ cond b (changes_at key (newer ++ h) + 1) (changes_at key (newer ++ h))
    go true rest = omega arith
    go false rest = rest

-- so has a key no fewer changes later on
changes_later : (key : ℕ) (t u : Execution) → Continues t u →
    changes_at key (history t) ≤ changes_at key (history u)
changes_later key t u on =
    let more = history_on on.0 t in
    subst (λ (z : History). changes_at key (history t) ≤ changes_at key z)
    (more.1 ∙ ap history on.1) (changes_more key more.0 (history t))

-- the history at an earlier moment is a beginning of the later one
begins_with : (t u : Execution) → Continues t u →
    before_place (length (history t)) (history u) ≡ history t
begins_with t u on =
    let more = history_on on.0 t in
    subst (λ (z : History). before_place (length (history t)) z ≡ history t)
    (more.1 ∙ ap history on.1) (before_place-append more.0 (history t))

used_up_later : (o : Opening) (t u : Execution) → Continues t u → RowsAreUsedUp o t →
    RowsAreUsedUp o u
used_up_later o t u on used = subst (RowsAreUsedUp o) on.1 (used_up_stay o on.0 t used)

-- ---- one caller in a phase ----

module _ (o : Opening) (t u : Execution) (caller : ℕ) where
  -- the caller, from the beginning of the phase on
  pub record IsSince (c : Caller) : Type 0 where
    pub opening : c.opening ≡ o
    pub number : c.number ≡ caller
    pub began : Continues t c.known

  abbrev IsUntil : Caller → Type 0
  IsUntil c = Continues c.known u

  since_on : (old : Caller) (call : Call) (answer : Answer) (new : Caller) → IsSince old →
      Answers old call answer new → IsSince new
  since_on old call answer new since does =
      record {
        opening = does.0.opening ∙ since.opening;
        number = does.0.number ∙ since.number;
        began = continues_trans t old.known new.known since.began does.0.goes_on;
      }

  until_back : (old : Caller) (call : Call) (answer : Answer) (new : Caller) →
      Answers old call answer new → IsUntil new → IsUntil old
  until_back old call answer new does until =
      continues_trans old.known new.known u does.0.goes_on until

  module _ (old new : Caller) (since : IsSince old) (later : IsLater old new)
      (until : IsUntil new) where
    opening_is : new.opening ≡ o
    opening_is = later.opening ∙ since.opening

    number_is : new.number ≡ caller
    number_is = later.number ∙ since.number

    -- a moment of the call lies behind the beginning of the phase
    behind : (moment : Execution) → Continues old.known moment →
        length (history t) ≤ length (history moment)
    behind moment on = history_grows t moment (continues_trans t old.known moment since.began on)

    adds_within : (call : Call) (answer : Answer) → AddsEntry old call answer new →
        AddsWithin (history t) (history u) caller old.log call answer new.log
    adds_within call answer adds =
        let w = adds.within in
        let from = behind adds.moment
        (continues_trans old.known (w.1 ++ old.known) adds.moment (w.1, refl) w.4) in
        let logged = subst (IsLogOf (opening_map new.opening) new.number (seen_by new)) adds.added
        later.truthful.logged in
        let ends = end_in_history (opening_map new.opening) new.number (seen_by new)
        (adds.entry ∷ old.log) logged in
        let grows = history_grows new.known u until in
        let place = adds.place in
        record {
          entry = adds.entry;
          is = subst (λ (n : ℕ). entry_of n (place_of adds.entry) call answer ≡ Some adds.entry)
              number_is adds.is;
          from = omega arith;
          to = omega arith;
          added = adds.added;
        }

    no_room_within : (key : ℕ) → HasNoRoom old key new →
        HadNoRoom (limits o) (opening_map o) (history t) (history u) old.log key new.log
    no_room_within key none =
        let w = none.within in
        let on = continues_trans none.moment new.known u w.5 until in
        record {
          place = length (history none.moment);
          from = behind none.moment
              (continues_trans old.known (w.1 ++ old.known) none.moment (w.1, refl) w.4);
          to = history_grows none.moment u on;
          absent = subst (λ (z : Opening × History). look (after (opening_map z.0) z.1) key ≡ None)
              (λ j. (opening_is j, sym (begins_with none.moment u on) j)) none.absent;
          used_up = subst (λ (z : Opening). RowsAreUsedUp z u) opening_is
              (used_up_later new.opening new.known u until none.used_up);
          no_entry = none.no_entry;
        }

    exhausted_within : (key : ℕ) → IsExhausted old key new →
        HadExhausted (limits o) (history u) old.log key new.log
    exhausted_within key worn =
        let more = changes_later key new.known u until in
        let enough : last_version ≤ first_version o + changes_at key (seen_by new) =
        subst (λ (z : Opening). last_version ≤ first_version z + changes_at key (seen_by new))
        opening_is worn.enough in
        record { enough = omega arith; no_entry = worn.no_entry }

  means : (old : Caller) (call : Call) (answer : Answer) (new : Caller) → IsSince old →
      Answers old call answer new → IsUntil new →
      AnswersWithin (limits o) (opening_map o) (history t) (history u) caller old.log call answer new.log
  means old (Put k v) Full new since does until = no_room_within old new since does.0 until k does.1
  means old (Put k v) Worn new since does until = exhausted_within old new since does.0 until k does.1
  means old (Put k v) answer new since does until =
      adds_within old new since does.0 until (Put k v) answer does.1
  means old (Remove k) Full new since does until = absurd does.1
  means old (Remove k) Worn new since does until = exhausted_within old new since does.0 until k does.1
  means old (Remove k) answer new since does until =
      adds_within old new since does.0 until (Remove k) answer does.1
  means old (Get k) Full new since does until = absurd does.1
  means old (Get k) Worn new since does until = absurd does.1
  means old (Get k) answer new since does until =
      adds_within old new since does.0 until (Get k) answer does.1
  means old (Next from) Full new since does until = absurd does.1
  means old (Next from) Worn new since does until = absurd does.1
  means old (Next from) answer new since does until =
      adds_within old new since does.0 until (Next from) answer does.1

  -- the caller is the same at the end, and knows no less
  pub stays : (old : Caller) (asked : List Request) (replies : List Reply) (new : Caller) →
      IsSince old → Session Answers old asked replies new → IsSince new
  stays old asked replies new since s =
      session_on Answers (AnswersWithin (limits o) (opening_map o) (history t) (history u) caller)
      (λ (c : Caller). c.log) IsSince IsUntil since_on until_back means old asked replies new since s

  -- what it was replied is within the stretch
  pub replied_within : (old : Caller) (asked : List Request) (replies : List Reply) (new : Caller) →
      IsSince old → Session Answers old asked replies new → Continues new.known u →
      Session (AnswersWithin (limits o) (opening_map o) (history t) (history u) caller) old.log
      asked replies new.log
  replied_within old asked replies new since s until =
      session_means Answers
      (AnswersWithin (limits o) (opening_map o) (history t) (history u) caller)
      (λ (c : Caller). c.log) IsSince IsUntil since_on until_back means old asked replies new since s until
