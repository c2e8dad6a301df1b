-- The moments of a call lie between what its hand knew before and after it, and behind what others did
-- before its first step.
use Rattle.std.proofs.Common.{◌≡◌, ℕ, ◌+◌, ◌≤◌, Bool, true, false, cond, ◌==◌, ⊎_elim, [], ◌∷◌, ◌++◌}
use Rattle.std.proofs.Common.{length, length-append, arith, eq-eqb, refl, sym, ap, ◌∙◌}
use Rattle.map_model.specs.History.{History}
use Rattle.index_machine.specs.declared.events.Action.{Action}
use Rattle.index_machine.specs.declared.events.Action.TheVariants.{Unlock, LinkRow}
use Rattle.index_machine.specs.declared.events.Event.{Event}
use Rattle.index_machine.specs.Execution.{Execution, Continues, Without, event, own}
use Rattle.index_machine.specs.LivePlaces.{history, history_after}
use Rattle.index_machine.proofs.Executions.{own_on}
use Rattle.index_rule.specs.Moments.{MomentsLieWithin}
use Rattle.index_rule.proofs.Seats.{one_begins}

-- ---- histories ----

history_more : (d : Action) (h : History) →
    (newer : History) × (newer ++ h ≡ history_after d h)
history_more (Unlock p r d w) h = (d ∷ [], refl)
history_more (LinkRow g lane p d before next) h = (d ∷ [], refl)
history_more d h = ([], refl)

append_more : (m n h : History) → (newer : History) × (newer ++ h ≡ m ++ (n ++ h))
append_more [] n h = (n, refl)
append_more (d ∷ m) n h =
    let rest = append_more m n h in (d ∷ rest.0, ap (λ (z : History). d ∷ z) rest.1)

-- the history of a later execution goes on from that of the earlier one
pub history_on : (newer t : Execution) →
    (more : History) × (more ++ history t ≡ history (newer ++ t))
history_on [] t = ([], refl)
history_on (e ∷ newer) t =
    let rest = history_on newer t in
    let step = history_more e.action (history (newer ++ t)) in
    let both = append_more step.0 rest.0 (history t) in
    let inner : rest.0 ++ history t ≡ history (newer ++ t) = rest.1 in
    let outer : step.0 ++ (rest.0 ++ history t) ≡ step.0 ++ history (newer ++ t) =
    ap (λ (z : History). step.0 ++ z) inner
    in
    (both.0, both.1 ∙ (outer ∙ step.1))

-- and is no shorter
pub history_grows : (first later : Execution) → Continues first later →
    length (history first) ≤ length (history later)
history_grows first later c =
    let more = history_on c.0 first in
    let long = length-append more.0 (history first) in
    let same : length (more.0 ++ history first) ≡ length (history later) =
    ap (λ (z : History). length z) (more.1 ∙ ap history c.1)
    in
    omega arith

-- ---- moments ----

counts : Bool → Action → ℕ → ℕ
counts mine d n = cond mine (n + 1) n

-- how many events are the hand's
own_events : ℕ → Execution → ℕ
unfolding counts
own_events hand t = own counts 0 hand t

own_events_on : (hand : ℕ) (newer t : Execution) → Without hand newer →
    own_events hand (newer ++ t) ≡ own_events hand t
unfolding own_events counts
own_events_on hand newer t out = own_on counts 0 (λ d n. refl) hand newer t out

own_events_more : (hand : ℕ) (m t : Execution) → own_events hand t ≤ own_events hand (m ++ t)
unfolding own_events counts
own_events_more hand [] t = omega arith
own_events_more hand (e ∷ m) t =
    let rest = own_events_more hand m t in by_test (e.by == hand) rest
  where
    by_test : (mine : Bool) → own counts 0 hand t ≤ own counts 0 hand (m ++ t) →
        own counts 0 hand t ≤ counts mine e.action (own counts 0 hand (m ++ t))
    by_test true rest = omega arith
    by_test false rest = rest

own_event : (hand : ℕ) (d : Action) (t : Execution) →
    own_events hand (event hand d ∷ t) ≡ own_events hand t + 1
unfolding own_events counts
own_event hand d t =
    ap (λ (mine : Bool). counts mine d (own counts 0 hand t)) (eq-eqb hand hand refl)

-- what others did cannot hold an event of the hand
not_behind : {X : Type 0} (hand : ℕ) (d : Action) (n m k earlier : Execution) → Without hand n →
    Without hand k → n ++ earlier ≡ m ++ (event hand d ∷ (k ++ earlier)) → X
not_behind hand d n m k earlier out also e =
    let none = own_events_on hand n earlier out in
    let before = own_events_on hand k earlier also in
    let one = own_event hand d (k ++ earlier) in
    let last : Execution = event hand d ∷ (k ++ earlier) in
    let more : own_events hand last ≤ own_events hand (m ++ last) = own_events_more hand m last in
    let same : own_events hand (n ++ earlier) ≡ own_events hand (m ++ last) =
    ap (own_events hand) e in
    let counted : own_events hand last ≡ own_events hand (k ++ earlier) + 1 = one in
    absurd (omega arith)

-- so what others did before the hand's first step since is one execution
first_step : (hand : ℕ) (d f : Action) (n k earlier later : Execution) → Without hand n →
    Without hand k → Continues (event hand d ∷ n ++ earlier) later →
    Continues (event hand f ∷ k ++ earlier) later → n ++ earlier ≡ k ++ earlier
first_step hand d f n k earlier later out also on over =
    ⊎_elim (λ h. first h.0 h.1) (λ h. sym (second h.0 h.1))
    (one_begins on.0 over.0 (event hand d ∷ (n ++ earlier)) (event hand f ∷ (k ++ earlier))
    (on.1 ∙ sym over.1))
  where
    tails : (a b : Event) (s t : Execution) → a ∷ s ≡ b ∷ t → s ≡ t
    tails a b s t e = cc

    first : (m : Execution) → event hand d ∷ (n ++ earlier) ≡ m ++ (event hand f ∷ (k ++ earlier)) →
        n ++ earlier ≡ k ++ earlier
    first [] e = tails (event hand d) (event hand f) (n ++ earlier) (k ++ earlier) e
    first (x ∷ m) e =
        not_behind hand f n m k earlier out also
        (tails (event hand d) x (n ++ earlier)
        (m ++ (event hand f ∷ (k ++ earlier))) e)

    second : (m : Execution) → event hand f ∷ (k ++ earlier) ≡ m ++ (event hand d ∷ (n ++ earlier)) →
        k ++ earlier ≡ n ++ earlier
    second [] e = tails (event hand f) (event hand d) (k ++ earlier) (n ++ earlier) e
    second (x ∷ m) e =
        not_behind hand d k m n earlier also out
        (tails (event hand f) x (k ++ earlier)
        (m ++ (event hand d ∷ (n ++ earlier))) e)

-- the moments of a call lie between what its hand knew before and after
pub moments_within : MomentsLieWithin
moments_within hand earlier later moment within =
    let more = history_grows (within.1 ++ earlier) moment within.4 in
    let before = history_grows earlier (within.1 ++ earlier) (within.1, refl) in (
      omega arith,
      (λ first newer out on.
          let same : length (history (newer ++ earlier)) ≡ length (history (within.1 ++ earlier)) =
          ap (λ (t : Execution). length (history t))
          (first_step hand first within.0 newer within.1 earlier later out within.2 on within.3)
          in
          omega arith),
      history_grows moment later within.5,
    )
