-- A session over an index that nobody else changes.
use Rattle.std.proofs.Common.{◌≡◌, ℕ, ◌+◌, ◌<◌, ◌≤◌, Bool, true, false, List, [], ◌∷◌, ◌++◌, length}
use Rattle.std.proofs.Common.{refl, sym, ap, ◌∙◌, subst, arith, cond, ◌≢◌, ◌==◌, eqb-true, eq-eqb, lt-ltb}
use Rattle.std.proofs.Common.{append-nil, append_assoc, length-append}
use Rattle.std.specs.Prelude.{slice_index_or, slice_set}
use Rattle.std.proofs.lemmas.Bool.{eqb-false}
use Rattle.map_model.specs.declared.calls.Call.{Call}
use Rattle.map_model.specs.declared.calls.Answer.{Answer}
use Rattle.map_model.specs.History.{History, caller_of, changes_by}
use Rattle.map_model.specs.Logs.{changes_of}
use Rattle.line_session.specs.declared.ends.Ended.{Ended}
use Rattle.line_session.specs.Ends.{EndsState}
use Rattle.line_session.specs.Served.{Serves}
use Rattle.line_session.proofs.Carrying.{serves_means, serves_on}
use Rattle.word_layout.specs.declared.limits.Limits.{Limits}
use Rattle.index_machine.specs.declared.opening.Opening.{Opening}
use Rattle.index_machine.specs.Execution.{Execution, Without}
use Rattle.index_machine.specs.LivePlaces.{history}
use Rattle.index_machine.specs.Words.{limits}
use Rattle.machine_places.specs.Agreement.{AreByCallers}
use Rattle.index_rule.specs.Seats.{longer}
use Rattle.xindex_core.specs.declared.index.Index.{Index}
use Rattle.xindex_core.specs.declared.pass.Pass.{Pass}
use Rattle.xindex_core.specs.Alone.{AllByZero, AnswersAlone, IsAlone}
use Rattle.xindex_core.specs.Answering.{Answers}
use Rattle.xindex_core.specs.Notes.{HeedsNews}
use Rattle.xindex_core.specs.Passes.{AreNewPasses, caller_with, known_to, log_of, number_of}
use Rattle.xindex_core.specs.Passes.{opening_with}
use Rattle.xindex_core.specs.Waiting.{AnswersLast}
use Rattle.xindex_core.proofs.AloneSteps.{alone_on, answers_alone, own_back}
use Rattle.xindex.specs.Served.{AreTold, HasServed, IsTold, known_to_first}

-- ---- the session ----

module _ {W : Type 0} (index_of : W → Index) (pass_of : W → Pass) (i : Index) (l : Limits) where
  -- what an answerer does that asks an index by a pass
  abbrev Asks : W → Call → Answer → W → Type 0
  Asks old c a new =
      (index_of new ≡ index_of old) × AnswersLast (index_of old) (pass_of old) c a (pass_of new)
      × Answers (caller_with (index_of old) (pass_of old)) c a
      (caller_with (index_of old) (pass_of new))

  abbrev Since : W → Type 0
  Since w = (index_of w ≡ i) × IsAlone l (caller_with i (pass_of w))

  abbrev Until : W → Type 0
  Until w = AllByZero (history (known_to (pass_of w)))

  at_index : (old : W) (c : Call) (a : Answer) (new : W) → Since old → Asks old c a new →
      Answers (caller_with i (pass_of old)) c a (caller_with i (pass_of new))
  at_index old c a new since x =
      subst (λ (z : Index). Answers (caller_with z (pass_of old)) c a (caller_with z (pass_of new)))
      since.0 x.2

  on : (old : W) (c : Call) (a : Answer) (new : W) → Since old → Asks old c a new → Since new
  on old c a new since x = (
    x.0 ∙ since.0,
    alone_on l (caller_with i (pass_of old)) c a (caller_with i (pass_of new)) since.1
        (at_index old c a new since x),
  )

  back : (old : W) (c : Call) (a : Answer) (new : W) → Asks old c a new → Until new → Until old
  back old c a new x until =
      own_back (caller_with (index_of old) (pass_of old)) c a
      (caller_with (index_of old) (pass_of new)) x.2 until

  means : (old : W) (c : Call) (a : Answer) (new : W) → Since old → Asks old c a new → Until new →
      AnswersAlone l (log_of (pass_of old)) c a (log_of (pass_of new))
  means old c a new since x until =
      answers_alone l (caller_with i (pass_of old)) c a (caller_with i (pass_of new)) since.1
      (at_index old c a new since x) until

  module _ (old new : W) (ends_old ends_new : EndsState) (most : ℕ) (ended : Ended)
      (serves : Serves Asks old new ends_old ends_new most ended)
      (here : index_of old ≡ i) (alone : IsAlone l (caller_with i (pass_of old))) where
    -- the caller was alone all along
    pub alone_still : IsAlone l (caller_with i (pass_of new))
    alone_still =
        (serves_on Asks (AnswersAlone l) (λ w. log_of (pass_of w)) Since Until on back means old new
        ends_old ends_new most ended serves (here, alone)).1

    -- so its log tells the session
    pub alone_serves : AllByZero (history (known_to (pass_of new))) →
        Serves (AnswersAlone l) (log_of (pass_of old)) (log_of (pass_of new)) ends_old ends_new most ended
    alone_serves until =
        serves_means Asks (AnswersAlone l) (λ w. log_of (pass_of w)) Since Until on back means old new
        ends_old ends_new most ended serves (here, alone) until

-- ---- the other passes ----

-- whoever knew nothing and heeds a note knows what the note knew
longer_than_none : (t : Execution) → longer [] t ≡ t
longer_than_none [] = refl
longer_than_none (e ∷ t) = rw (lt-ltb 0 (length (e ∷ t)) (omega arith)) refl

-- a new pass that heeds a note is told
told_by : (i : Index) (n : ℕ) (old : Pass) (seen : Execution) (new : Pass) →
    number_of old ≡ n → known_to old ≡ [] → log_of old ≡ [] → HeedsNews i old seen new →
    IsTold i seen n new
told_by i n old seen new number first none heeds =
    let known = heeds.knows
    ∙ (ap (λ (t : Execution). longer t seen) first ∙ longer_than_none seen) in
    let goes : heeds.own.0 ≡ seen =
    sym (append-nil heeds.own.0)
    ∙ (ap (λ (t : Execution). heeds.own.0 ++ t) (sym first) ∙ (heeds.own.1 ∙ known))
    in
    record {
      of = heeds.of;
      numbered = heeds.number ∙ number;
      known = known;
      idle = subst (Without n) goes (subst (λ (z : ℕ). Without z heeds.own.0) number heeds.own.2);
      none = heeds.log ∙ none;
    }

-- one more of them
told_more : (i : Index) (seen : Execution) (n : ℕ) (ps : List Pass) (p : Pass) →
    AreTold i seen n ps → IsTold i seen (n + length ps) p → AreTold i seen n (ps ++ p ∷ [])
told_more i seen n [] p told one =
    (subst (λ (z : ℕ). IsTold i seen z p) (omega arith) one, tt)
told_more i seen n (q ∷ ps) p told one = (
  told.0,
  told_more i seen (n + 1) ps p told.1
      (subst (λ (z : ℕ). IsTold i seen z p) (omega arith) one),
)

-- a caller that is told and made no call changed nothing of what it was told
told_none : (i : Index) (seen : Execution) (n : ℕ) (p : Pass) → IsTold i seen n p →
    changes_by n (history seen) ≡ []
told_none i seen n p told =
    sym
    (sym (ap changes_of told.none)
    ∙ (told.of.truthful.logged.complete
    ∙ (λ j. changes_by (told.numbered j) (history (told.known j)))))

-- so it is of each of them
none_of : (i : Index) (seen : Execution) (from : ℕ) (ps : List Pass) → AreTold i seen from ps →
    (n : ℕ) → from ≤ n → n < from + length ps → changes_by n (history seen) ≡ []
none_of i seen from [] told n low high = absurd (omega arith)
none_of i seen from (p ∷ ps) told n low high =
    go (from == n) refl (λ above. none_of i seen (from + 1) ps told.1 n above (omega arith))
  where
    go : (b : Bool) → (from == n) ≡ b → (from + 1 ≤ n → changes_by n (history seen) ≡ []) →
        changes_by n (history seen) ≡ []
    go true same others =
        subst (λ (z : ℕ). changes_by z (history seen) ≡ []) (eqb-true from n same)
        (told_none i seen from p told.0)
    go false other others =
        let apart : from ≢ n = eqb-false from n other in
        others (omega arith)

-- ---- whose the changes are ----

-- where all other callers changed nothing, all changes are caller 0's
all_by_zero : (o : Opening) (h : History) → AreByCallers o h →
    ((n : ℕ) → 1 ≤ n → n < (limits o).callers → changes_by n h ≡ []) → AllByZero h
all_by_zero o [] by none = tt
all_by_zero o (c ∷ h) by none = (
  zero (caller_of c == 0) refl,
  all_by_zero o h by.1 (λ n low high. older n (caller_of c == n) (none n low high)),
)
  where
    zero : (b : Bool) → (caller_of c == 0) ≡ b → caller_of c ≡ 0
    zero true same = eqb-true (caller_of c) 0 same
    zero false other =
        let apart : caller_of c ≢ 0 = eqb-false (caller_of c) 0 other in
        let nothing = none (caller_of c) (omega arith) by.0 in
        let own = eq-eqb (caller_of c) (caller_of c) refl in
        let one : c ∷ changes_by (caller_of c) h ≡ [] = rw own at nothing in
        cc

    older : (n : ℕ) (b : Bool) →
        cond b (c ∷ changes_by n h) (changes_by n h) ≡ [] → changes_by n h ≡ []
    older n true some = cc
    older n false nothing = nothing

-- so it is where they have been told all
pub served_alone : (i : Index) (ps : List Pass) → HasServed i ps →
    length ps ≡ (limits (opening_with i)).callers → AllByZero (history (known_to_first ps))
served_alone i [] served many = absurd served
served_alone i (p ∷ ps) served many =
    all_by_zero (opening_with i) (history (known_to p)) served.0.truthful.by_callers
    (λ n low high. none_of i (known_to p) 1 ps served.2 n low (omega arith))

-- ---- one more is told ----

set_here : (told rest : List Pass) (x v : Pass) →
    slice_set (told ++ x ∷ rest) (length told) v ≡ told ++ v ∷ rest
set_here [] rest x v = refl
set_here (t ∷ told) rest x v = ap (λ (z : List Pass). t ∷ z) (set_here told rest x v)

get_here : (told rest : List Pass) (x d : Pass) →
    slice_index_or (told ++ x ∷ rest) (length told) d ≡ x
get_here [] rest x d = refl
get_here (t ∷ told) rest x d = get_here told rest x d

-- the passes that are told, and those that are new, when one more has heeded the note
pub record IsTolder (i : Index) (seen : Execution) (items : List Pass) (at : ℕ) : Type 0 where
  pub told : List Pass
  pub new : List Pass
  pub split : told ++ new ≡ items
  pub many : length told ≡ at
  pub are_told : AreTold i seen 1 told
  pub are_new : AreNewPasses i (1 + at) new

pub told_next : (i : Index) (seen : Execution) (told new items : List Pass) (at : ℕ) (d v : Pass) →
    told ++ new ≡ items → length told ≡ at → at < length items → AreTold i seen 1 told →
    AreNewPasses i (1 + at) new → HeedsNews i (slice_index_or items at d) seen v →
    IsTolder i seen (slice_set items at v) (at + 1)
told_next i seen told [] items at d v split many below are_told are_new heeds =
    let long = ap (λ (z : List Pass). length z) split in
    let parts = length-append told [] in
    absurd (omega arith)
told_next i seen told (y ∷ rest) items at d v split many below are_told are_new heeds =
    let same : slice_index_or items at d ≡ y =
    (λ j. slice_index_or (sym split j) (sym many j) d) ∙ get_here told rest y d in
    let one = told_by i (1 + at) (slice_index_or items at d) seen v
    (ap number_of same ∙ are_new.1) (ap known_to same ∙ are_new.2) (ap log_of same ∙ are_new.3)
    heeds in
    record {
      told = told ++ v ∷ [];
      new = rest;
      split = append_assoc told (v ∷ []) rest
          ∙ (sym (set_here told rest y v) ∙ (λ j. slice_set (split j) (many j) v));
      many = (let parts = length-append told (v ∷ []) in omega arith);
      are_told = told_more i seen 1 told v are_told
          (subst (λ (z : ℕ). IsTold i seen (1 + z) v) (sym many) one);
      are_new = subst (λ (z : ℕ). AreNewPasses i z rest) (omega arith) are_new.5;
    }

-- ---- the first of new passes ----

-- the first of new passes made no call
pub first_made_none : (i : Index) (n : ℕ) (ps : List Pass) (d : Pass) → AreNewPasses i n ps →
    0 < length ps → log_of (slice_index_or ps 0 d) ≡ []
first_made_none i n [] d new some = absurd (omega arith)
first_made_none i n (p ∷ ps) d new some = new.3
