-- A call that was tried before is answered as if it had been tried once.
use Rattle.std.proofs.Common.{◌≡◌, ◌≢◌, ℕ, zero, suc, Bool, true, false, ◌==◌, ◌⊎◌, inl, inr, Option, Some, None}
use Rattle.std.proofs.Common.{[], ◌∷◌, ◌++◌, refl, sym, ap, ◌∙◌, subst, append_assoc, eqb-true}
use Rattle.std.proofs.lemmas.Bool.{eqb-false}
use Rattle.map_model.specs.declared.calls.Call.{Call}
use Rattle.map_model.specs.declared.calls.Call.TheVariants.{Get, Put, Remove, Next}
use Rattle.map_model.specs.declared.calls.Answer.{Answer}
use Rattle.map_model.specs.declared.calls.Answer.TheVariants.{Full, Worn}
use Rattle.map_model.specs.Logs.{Log}
use Rattle.index_machine.specs.declared.events.Action.{Action}
use Rattle.index_machine.specs.declared.events.Event.{Event}
use Rattle.index_machine.specs.Execution.{Continues, Execution, Without, event}
use Rattle.index_machine.proofs.Executions.{continues_same, continues_trans, without_append}
use Rattle.tried_calls.specs.declared.tried.Tried.{Tried}
use Rattle.tried_calls.specs.declared.tried.Tried.TheVariants as tried
use Rattle.index_rule.specs.Moments.{IsBetween}
use Rattle.xindex_core.specs.declared.index.Index.{Index}
use Rattle.xindex_core.specs.declared.pass.Pass.{Pass}
use Rattle.xindex_core.specs.Answering.{AddsEntry, Answers, HasNoRoom, IsExhausted, Tells}
use Rattle.xindex_core.specs.Callers.{Caller, IsLater}
use Rattle.xindex_core.specs.Passes.{caller_with}
use Rattle.xindex_core.specs.Tries.{EndsAs, Tries}
use Rattle.xindex_core.specs.Waiting.{AnswersLast, AnswersOnce, HasWaited, TriesAgain, TriesInVain}

-- ---- the first step of a hand ----

-- the first step of the hand among events, the newest first, with those behind and before it
abbrev HasFirst : ℕ → Execution → Type 0
HasFirst hand t =
    (behind : Execution) × (first : Action) × (before : Execution) × Without hand before
    × (behind ++ event hand first ∷ before ≡ t)

own_or_not : (hand : ℕ) (e : Event) → (e ≡ event hand e.action) ⊎ (e.by ≢ hand)
own_or_not hand e = go (e.by == hand) refl
  where
    go : (b : Bool) → (e.by == hand) ≡ b → (e ≡ event hand e.action) ⊎ (e.by ≢ hand)
    go true own = inl (λ i. record { by = eqb-true e.by hand own i; action = e.action })
    go false other = inr (eqb-false e.by hand other)

-- the hand made a step among them, or none
first_step : (hand : ℕ) (t : Execution) → Without hand t ⊎ HasFirst hand t
first_step hand [] = inl tt
first_step hand (e ∷ t) = go (own_or_not hand e) (first_step hand t)
  where
    go : (e ≡ event hand e.action) ⊎ (e.by ≢ hand) → Without hand t ⊎ HasFirst hand t →
        Without hand (e ∷ t) ⊎ HasFirst hand (e ∷ t)
    go own (inr f) =
        inr (e ∷ f.0, f.1, f.2, f.3, ap (λ (z : Execution). e ∷ z) f.4)
    go (inl own) (inl none) =
        inr ([], e.action, t, none, ap (λ (z : Event). z ∷ t) (sym own))
    go (inr other) (inl none) = inl (other, none)

-- a moment behind a later beginning is one behind an earlier beginning
between_before : (hand : ℕ) (a b c moment : Execution) → Continues a b →
    IsBetween hand b c moment → IsBetween hand a c moment
between_before hand a b c moment on w = go (first_step hand on.0)
  where
    from_a : (w.1 ++ on.0) ++ a ≡ w.1 ++ b
    from_a = append_assoc w.1 on.0 a ∙ ap (λ (z : Execution). w.1 ++ z) on.1

    go : Without hand on.0 ⊎ HasFirst hand on.0 → IsBetween hand a c moment
    go (inl none) = (
      w.0,
      w.1 ++ on.0,
      without_append hand w.1 on.0 w.2 none,
      subst (λ (z : Execution). Continues (event hand w.0 ∷ z) c) (sym from_a) w.3,
      subst (λ (z : Execution). Continues z moment) (sym from_a) w.4,
      w.5,
    )
    go (inr f) =
        let reaches : Continues (event hand f.1 ∷ f.2 ++ a) b = (
          f.0,
          sym (append_assoc f.0 (event hand f.1 ∷ f.2) a)
              ∙ (ap (λ (z : Execution). z ++ a) f.4 ∙ on.1),
        ) in
        let behind : Continues b moment =
        continues_trans b (w.1 ++ b) moment (w.1, refl) w.4 in
        let within : Continues (event hand f.1 ∷ f.2 ++ a) moment =
        continues_trans (event hand f.1 ∷ f.2 ++ a) b moment reaches behind in (
          f.1,
          f.2,
          f.3,
          continues_trans (event hand f.1 ∷ f.2 ++ a) moment c within w.5,
          continues_trans (f.2 ++ a) (event hand f.1 ∷ f.2 ++ a) moment
              (event hand f.1 ∷ [], refl) within,
          w.5,
        )

-- nothing was tried yet
waited_none : (c : Caller) → HasWaited c c
waited_none c =
    record { opening = refl; number = refl; goes_on = continues_same c.known; no_entry = refl }

-- it was tried once more
waited_more : (a b c : Caller) → HasWaited a b → HasWaited b c → HasWaited a c
waited_more a b c first second =
    record {
      opening = second.opening ∙ first.opening;
      number = second.number ∙ first.number;
      goes_on = continues_trans a.known b.known c.known first.goes_on second.goes_on;
      no_entry = second.no_entry ∙ first.no_entry;
    }

module _ (a b c : Caller) (w : HasWaited a b) where
  within_before : (moment : Execution) → IsBetween b.number b.known c.known moment →
      IsBetween a.number a.known c.known moment
  within_before moment within =
      between_before a.number a.known b.known c.known moment w.goes_on
      (subst (λ (n : ℕ). IsBetween n b.known c.known moment) w.number within)

  adds_before : (call : Call) (answer : Answer) → AddsEntry b call answer c →
      AddsEntry a call answer c
  adds_before call answer adds =
      record {
        moment = adds.moment;
        within = within_before adds.moment adds.within;
        entry = adds.entry;
        is = adds.is;
        place = adds.place;
        added = adds.added ∙ ap (λ (l : Log). adds.entry ∷ l) w.no_entry;
      }

  no_room_before : (key : ℕ) → HasNoRoom b key c → HasNoRoom a key c
  no_room_before key none =
      record {
        no_entry = none.no_entry ∙ w.no_entry;
        moment = none.moment;
        within = within_before none.moment none.within;
        absent = none.absent;
        used_up = none.used_up;
      }

  exhausted_before : (key : ℕ) → IsExhausted b key c → IsExhausted a key c
  exhausted_before key worn =
      record { no_entry = worn.no_entry ∙ w.no_entry; enough = worn.enough }

  tells_before : (call : Call) (answer : Answer) → Tells b call answer c → Tells a call answer c
  tells_before (Put k v) Full t = no_room_before k t
  tells_before (Put k v) Worn t = exhausted_before k t
  tells_before (Put k v) answer t = adds_before (Put k v) answer t
  tells_before (Remove k) Full t = absurd t
  tells_before (Remove k) Worn t = exhausted_before k t
  tells_before (Remove k) answer t = adds_before (Remove k) answer t
  tells_before (Get k) Full t = absurd t
  tells_before (Get k) Worn t = absurd t
  tells_before (Get k) answer t = adds_before (Get k) answer t
  tells_before (Next from) Full t = absurd t
  tells_before (Next from) Worn t = absurd t
  tells_before (Next from) answer t = adds_before (Next from) answer t

  later_before : IsLater b c → IsLater a c
  later_before later =
      record {
        opening = later.opening ∙ w.opening;
        number = later.number ∙ w.number;
        goes_on = continues_trans a.known b.known c.known w.goes_on later.goes_on;
        truthful = later.truthful;
      }

  answers_before : (call : Call) (answer : Answer) → Answers b call answer c →
      Answers a call answer c
  answers_before call answer t = (later_before t.0, tells_before call answer t.1)

-- ---- answers ----

-- what a try came to is what its answer tells
once_answers : (i : Index) (old : Pass) (call : Call) (answer : Answer) (new : Pass) →
    AnswersOnce i old call answer new → Answers (caller_with i old) call answer (caller_with i new)
once_answers i old call answer new once = (
  once.tries.later,
  rw once.is at once.tries.ends,
)

-- a try in vain adds nothing
vain_waits : (i : Index) (old : Pass) (call : Call) (new : Pass) → TriesInVain i old call new →
    HasWaited (caller_with i old) (caller_with i new)
vain_waits i old call new vain =
    let later = vain.tries.later in
    record {
      opening = later.opening;
      number = later.number;
      goes_on = later.goes_on;
      no_entry = rw vain.is at vain.tries.ends;
    }

-- nor do several
again_waits : (i : Index) (old : Pass) (call : Call) (times : ℕ) (new : Pass) →
    TriesAgain i old call times new → HasWaited (caller_with i old) (caller_with i new)
again_waits i old call zero new again =
    subst (λ (p : Pass). HasWaited (caller_with i old) (caller_with i p)) (sym again)
    (waited_none (caller_with i old))
again_waits i old call (suc times) new again =
    waited_more (caller_with i old) (caller_with i again.0) (caller_with i new)
    (again_waits i old call times again.0 again.1) (vain_waits i again.0 call new again.2)

-- and so is the last one of several
pub last_answers : (i : Index) (old : Pass) (call : Call) (answer : Answer) (new : Pass) →
    AnswersLast i old call answer new → Answers (caller_with i old) call answer (caller_with i new)
last_answers i old call answer new last =
    answers_before (caller_with i old) (caller_with i last.before) (caller_with i new)
    (again_waits i old call last.times last.before last.again) call answer (once_answers i last.before call answer new last.last)

-- ---- what stands next ----

next_ends : (old : Caller) (from : ℕ) (came : Tried (Option ℕ)) (new : Caller) →
    EndsAs old (Get from) came new → EndsAs old (Next from) came new
next_ends old from (tried.Done None) new ends =
    record {
      moment = ends.moment;
      within = ends.within;
      entry = ends.entry;
      is = ends.is;
      place = ends.place;
      added = ends.added;
    }
next_ends old from (tried.Done (Some value)) new ends =
    record {
      moment = ends.moment;
      within = ends.within;
      entry = ends.entry;
      is = ends.is;
      place = ends.place;
      added = ends.added;
    }
next_ends old from (tried.Again why) new ends = ends
next_ends old from tried.Full new ends = absurd ends
next_ends old from (tried.Worn place word) new ends = absurd ends

-- a look at one key tells what stands next, as far as this key
pub next_tries : (i : Index) (old : Pass) (from : ℕ) (came : Tried (Option ℕ)) (new : Pass) →
    Tries i old (Get from) came new → Tries i old (Next from) came new
next_tries i old from came new tries =
    record {
      later = tries.later;
      ends = next_ends (caller_with i old) from came (caller_with i new) tries.ends;
      steps = tries.steps;
      full = tries.full;
      spare = tries.spare;
      probes = tries.probes;
    }
