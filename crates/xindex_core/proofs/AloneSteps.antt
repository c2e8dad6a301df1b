-- What a waiter answers where nobody else changes the index.
use Rattle.std.proofs.Common.{◌≡◌, ◌≢◌, ℕ, ◌+◌, ◌≤◌, None}
use Rattle.std.proofs.Common.{[], ◌∷◌, ◌++◌, length, refl, sym, ap, ◌∙◌, subst}
use Rattle.std.proofs.Common.{arith, eq-eqb, length-append, ne_eqb}
use Rattle.map_model.specs.declared.calls.Call.{Call}
use Rattle.map_model.specs.declared.calls.Call.TheVariants.{Get, Put, Remove, Next}
use Rattle.map_model.specs.declared.calls.Answer.{Answer}
use Rattle.map_model.specs.declared.calls.Answer.TheVariants.{Full, Worn}
use Rattle.map_model.specs.declared.entries.Change.{Change}
use Rattle.map_model.specs.declared.entries.Entry.{Entry}
use Rattle.map_model.specs.declared.entries.Entry.TheVariants.{Made, Look}
use Rattle.map_model.specs.Answer.{entry_of}
use Rattle.map_model.specs.Entry.{StandsBetween}
use Rattle.map_model.specs.History.{History, after, caller_of, changes_at, changes_by, inserts}
use Rattle.map_model.specs.Logs.{AllStandIn, StandsIn, change_at, changes_of, map_at, place_of}
use Rattle.map_model.specs.Map.{Map, look, map_after}
use Rattle.map_model.proofs.Logging.{before_place-append}
use Rattle.word_layout.specs.declared.limits.Limits.{Limits}
use Rattle.index_machine.specs.Execution.{Execution}
use Rattle.index_machine.specs.LivePlaces.{history}
use Rattle.index_machine.specs.Openings.{opening_map}
use Rattle.index_machine.proofs.Executions.{continues_trans}
use Rattle.index_rule.proofs.Moments.{history_grows, history_on}
use Rattle.index_machine.specs.Forms.{last_version}
use Rattle.index_machine.specs.Words.{limits}
use Rattle.xindex_core.specs.Alone as alone
use Rattle.xindex_core.specs.Alone.{AnswersAlone, IsAlone, AllByZero}
use Rattle.xindex_core.specs.Answering.{AddsEntry, Answers, HasNoRoom, IsExhausted, IsMomentOf, Tells}
use Rattle.xindex_core.specs.Callers.{Caller, seen_by}

-- ---- histories ----

-- no change stands behind the end of a history
change_at-behind : (place : ℕ) (h : History) → length h ≤ place → change_at place h ≡ None
unfolding change_at
change_at-behind place [] behind = refl
change_at-behind place (c ∷ h) behind =
    rw (ne_eqb (length h) place (λ e. omega arith)) (change_at-behind place h (omega arith))

-- all changes of such a history are the caller's
all_own : (h : History) → AllByZero h → changes_by 0 h ≡ h
all_own [] own = refl
all_own (c ∷ h) own =
    rw (eq-eqb (caller_of c) 0 own.0) (ap (λ (z : History). c ∷ z) (all_own h own.1))

-- an older part of it is such a history too
own_older : (newer h : History) → AllByZero (newer ++ h) → AllByZero h
own_older [] h own = own
own_older (c ∷ newer) h own = own_older newer h own.1

-- ---- places of a call ----

-- the place lies between what the caller had seen and what it has seen
record IsPlaceSince (old new : Caller) (place : ℕ) : Type 0 where
  not_before : length (seen_by old) ≤ place
  not_after : place ≤ length (seen_by new)

-- a moment of a call is such a place
place_since : (old new : Caller) (moment : Execution) → IsMomentOf old new moment →
    IsPlaceSince old new (length (history moment))
place_since old new moment w =
    record {
      not_before = history_grows old.known moment
          (continues_trans old.known (w.1 ++ old.known) moment (w.1, refl) w.4);
      not_after = history_grows moment new.known w.5;
    }

-- a place between two histories that are one is its end
same_place : (old new : Caller) (place : ℕ) → IsPlaceSince old new place →
    seen_by new ≡ seen_by old → place ≡ length (seen_by old)
same_place old new place since same =
    let long = ap (λ (h : History). length h) same in
    let low = since.not_before in
    let high = since.not_after in
    omega arith

-- a part of a history that is as long is the whole
whole_is : (more h g : History) → more ++ h ≡ g → length h ≡ length g → h ≡ g
whole_is [] h g e same = e
whole_is (c ∷ more) h g e same =
    let long = ap (λ (z : History). length z) e in
    let parts = length-append more h in
    absurd (omega arith)

-- the map at the end of a history is the one that it leaves
map_at-end : (m : Map) (h : History) → map_at m h (length h) ≡ after m h
map_at-end m h = ap (after m) (before_place-append [] h)

-- and the map before its newest change the one that the others leave
map_at-last : (m : Map) (c : Change) (h : History) → map_at m (c ∷ h) (length h) ≡ after m h
map_at-last m c h = ap (after m) (before_place-append (c ∷ []) h)

-- ---- a caller alone ----

-- what the log changed is all that was changed
pub seen_is : (l : Limits) (c : Caller) → IsAlone l c → AllByZero (seen_by c) → changes_of c.log ≡ seen_by c
seen_is l c is own =
    is.truthful.logged.complete
    ∙ (ap (λ (n : ℕ). changes_by n (seen_by c)) is.zero ∙ all_own (seen_by c) own)

module _ (l : Limits) (old : Caller) (call : Call) (answer : Answer) (new : Caller)
    (was : IsAlone l old) (does : Answers old call answer new) where
  pub alone_on : IsAlone l new
  alone_on =
      let later = does.0 in
      record {
        truthful = later.truthful;
        limits_are = ap limits later.opening ∙ was.limits_are;
        empty = ap opening_map later.opening ∙ was.empty;
        zero = later.number ∙ was.zero;
      }

pub own_back : (old : Caller) (call : Call) (answer : Answer) (new : Caller) →
    Answers old call answer new → AllByZero (seen_by new) → AllByZero (seen_by old)
own_back old call answer new does own =
    let more = history_on does.0.goes_on.0 old.known in
    own_older more.0 (seen_by old)
    (subst AllByZero (sym (more.1 ∙ ap history does.0.goes_on.1)) own)

module _ (l : Limits) (old new : Caller) (was : IsAlone l old) (now : IsAlone l new)
    (own_old : AllByZero (seen_by old)) (own_new : AllByZero (seen_by new)) where
  old_is : changes_of old.log ≡ seen_by old
  old_is = seen_is l old was own_old

  new_is : changes_of new.log ≡ seen_by new
  new_is = seen_is l new now own_new

  -- what is true between the histories is true between what the logs changed
  between : (e : Entry) →
      StandsBetween (after (opening_map new.opening) (seen_by old)) e
      (after (opening_map new.opening) (seen_by new)) →
      StandsBetween (alone.map_of old.log) e (alone.map_of new.log)
  between e s =
      subst (λ (z : Map × History × History). StandsBetween (after z.0 z.1) e (after z.0 z.2))
      (λ i. (now.empty i, sym old_is i, sym new_is i)) s

  same_seen : changes_of new.log ≡ changes_of old.log → seen_by new ≡ seen_by old
  same_seen same = sym new_is ∙ (same ∙ old_is)

  -- the entry stands at the end of what the log changed
  stands : (e : Entry) → new.log ≡ e ∷ old.log → IsPlaceSince old new (place_of e) →
      StandsIn (opening_map new.opening) (seen_by new) e →
      (place_of e ≡ length (seen_by old))
      × StandsBetween (after (opening_map new.opening) (seen_by old)) e
      (after (opening_map new.opening) (seen_by new))
  stands (Look place lo hi found) added since stand =
      let m = opening_map new.opening in
      let same : seen_by new ≡ seen_by old = same_seen (ap changes_of added) in
      let at : place ≡ length (seen_by old) = same_place old new place since same in
      let end : map_at m (seen_by new) place ≡ after m (seen_by new) =
      ap (map_at m (seen_by new)) (at ∙ ap (λ (h : History). length h) (sym same))
      ∙ map_at-end m (seen_by new)
      in (
        at,
        subst (λ (z : Map × Map). StandsBetween z.0 (Look place lo hi found) z.1)
            (λ i. ((end ∙ ap (after m) same) i, end i)) stand.1,
      )
  stands (Made place d value) added since stand =
      let m = opening_map new.opening in
      let more : seen_by new ≡ d ∷ seen_by old =
      sym new_is ∙ (ap changes_of added ∙ ap (λ (h : History). d ∷ h) old_is) in
      let long = ap (λ (h : History). length h) more in
      let low = since.not_before in
      let high = since.not_after in
      let not_behind : place ≢ length (seen_by new) =
      λ e. let none = change_at-behind place (seen_by new) (omega arith) in
      let some = stand.0 in
      cc
      in
      let at : place ≡ length (seen_by old) = omega arith in
      let before : map_at m (seen_by new) place ≡ after m (seen_by old) =
      ap (λ (z : History × ℕ). map_at m z.0 z.1) (λ i. (more i, at i)) ∙ map_at-last m d (seen_by old) in (
        at,
        subst (λ (z : Map × Map). StandsBetween z.0 (Made place d value) z.1)
            (λ i. (
              before i,
              (ap (map_after d) before ∙ ap (after m) (sym more)) i,
            )) stand.1,
      )

  -- ---- what the answer tells ----

  adds_next : (call : Call) (answer : Answer) → AddsEntry old call answer new →
      alone.AddsNext old.log call answer new.log
  adds_next call answer adds =
      let stand = subst (AllStandIn (opening_map new.opening) (seen_by new)) adds.added
      now.truthful.logged.stand in
      let since = subst (IsPlaceSince old new) (sym adds.place)
      (place_since old new adds.moment adds.within) in
      let there = stands adds.entry adds.added since stand.0 in
      record {
        entry = adds.entry;
        place = there.0 ∙ ap (λ (h : History). length h) (sym old_is);
        is = ap (λ (n : ℕ). entry_of n (place_of adds.entry) call answer) (sym now.zero) ∙ adds.is;
        true_of = between adds.entry there.1;
        added = adds.added;
      }

  no_room : (key : ℕ) → HasNoRoom old key new → alone.LeavesNoRoom l old.log key
  no_room key none =
      let same : seen_by new ≡ seen_by old = same_seen (ap changes_of none.no_entry) in
      let since = place_since old new none.moment none.within in
      let at : length (history none.moment) ≡ length (seen_by old) =
      same_place old new (length (history none.moment)) since same in
      let on = none.within.5 in
      let more = history_on on.0 none.moment in
      let then_is : history none.moment ≡ seen_by new =
      whole_is more.0 (history none.moment) (seen_by new) (more.1 ∙ ap history on.1)
      (at ∙ ap (λ (h : History). length h) (sym same))
      in
      let map_is : after (opening_map new.opening) (history none.moment) ≡ alone.map_of old.log =
      λ i. after (now.empty i) ((then_is ∙ (same ∙ sym old_is)) i)
      in
      record {
        absent = ap (λ (z : Map). look z key) (sym map_is) ∙ none.absent;
        full = subst
            (λ (z : Limits × Map × History). z.0.records + 1 ≤ inserts z.1 z.2 + z.0.callers)
            (λ i. (now.limits_are i, now.empty i, (same ∙ sym old_is) i)) none.used_up;
      }

  exhausted : (key : ℕ) → IsExhausted old key new → alone.ExhaustsVersion l old.log key
  exhausted key worn =
      let same : seen_by new ≡ seen_by old = same_seen (ap changes_of worn.no_entry) in
      subst (λ (z : Limits × History). last_version ≤ z.0.first_version + changes_at key z.1)
      (λ i. (now.limits_are i, (same ∙ sym old_is) i)) worn.enough

  tells_alone : (call : Call) (answer : Answer) → Tells old call answer new →
      AnswersAlone l old.log call answer new.log
  tells_alone (Put k v) Full t = (no_room k t, t.no_entry)
  tells_alone (Put k v) Worn t = (exhausted k t, t.no_entry)
  tells_alone (Put k v) answer t = adds_next (Put k v) answer t
  tells_alone (Remove k) Full t = absurd t
  tells_alone (Remove k) Worn t = (exhausted k t, t.no_entry)
  tells_alone (Remove k) answer t = adds_next (Remove k) answer t
  tells_alone (Get k) Full t = absurd t
  tells_alone (Get k) Worn t = absurd t
  tells_alone (Get k) answer t = adds_next (Get k) answer t
  tells_alone (Next from) Full t = absurd t
  tells_alone (Next from) Worn t = absurd t
  tells_alone (Next from) answer t = adds_next (Next from) answer t

-- what a caller that is alone is answered is true of the map that its log tells
pub answers_alone : (l : Limits) (old : Caller) (call : Call) (answer : Answer) (new : Caller) →
    IsAlone l old → Answers old call answer new → AllByZero (seen_by new) →
    AnswersAlone l old.log call answer new.log
answers_alone l old call answer new was does own =
    tells_alone l old new was (alone_on l old call answer new was does)
    (own_back old call answer new does own) own call answer does.1
