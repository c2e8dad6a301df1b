-- How a hand comes to what it relies on: what it has after an action it had before, in the same
-- read section, or the action is its own and gives it.
use Rattle.std.proofs.Common.{◌≡◌, ◌≢◌, ℕ, ◌+◌, ◌%◌, ◌⊎◌, inl, inr, ⊎_elim, Option, Some, None}
use Rattle.std.proofs.Common.{Bool, true, false, [], ◌∷◌, cond, refl, sym, ap, ◌∙◌, subst, ne_eqb}
use Rattle.std.proofs.Common.{zero, suc}
use Rattle.std.specs.Prelude.{◌==◌, ◌&&◌}
use mathlib.Core.Logic.{dite}
use native.Mathlib.Decide.{ℕ_discrete}
use Rattle.index_machine.proofs.Executions.{choice-other, choice-same}
use Rattle.index_machine.specs.Conditions.{Allowed, Valid}
use Rattle.index_machine.specs.Execution.{Execution, event}
use Rattle.index_machine.specs.Reaching.{names_place, reached, root_seen, saw_open, saw_opened}
use Rattle.index_machine.specs.Reaching.{stands_in}
use Rattle.index_machine.specs.Sections.{IsInside, crossings}
use Rattle.index_machine.specs.declared.events.Action.{Action}
use Rattle.index_machine.specs.declared.events.Action.TheVariants.{Enter, Leave, LoadHead, LoadLink}
use Rattle.index_machine.specs.declared.events.Action.TheVariants.{LoadNext, LoadPhase, LoadRoot}
use Rattle.index_machine.specs.declared.events.Action.TheVariants.{LoadSlotGroup, LoadState}
use Rattle.index_machine.specs.declared.opening.Opening.{Opening}
use Rattle.machine_barriers.specs.Gains.{Gain, LoadsGroup, LoadsPlace, LoadsRoot, SeesOpen}
use Rattle.machine_barriers.specs.Gains.{SeesOpened}
use Rattle.index_machine.proofs.Options.{none_some, not_so, some_is}
use Rattle.word_layout.specs.Phase.{word_of_phase}
use Rattle.word_layout.specs.State.{word_of_state}
use Rattle.word_layout.specs.declared.phase.Phase.TheVariants.{Open, Opened}
use Rattle.word_layout.specs.declared.state.State.TheVariants as state

-- ---- tests ----

pub test_is : (m n : ℕ) → (m == n) ≡ true → m ≡ n
test_is m n e =
    dite (ℕ_discrete m n) (λ (z : m ≡ n). z) (λ (d : m ≢ n). not_so (sym (ne_eqb m n d) ∙ e))

pub both_are : (a b : Bool) → (a && b) ≡ true → (a ≡ true) × (b ≡ true)
both_are true b e = (refl, e)
both_are false b e = not_so e

-- a flag that is dropped at a crossing of the hand's own
pub dropped : (b c n : ℕ) (x : Bool) → cond (b == c) false x ≡ true →
    (cond (b == c) (n + 1) n ≡ n) × (x ≡ true)
dropped b c n x e =
    dite (ℕ_discrete b c)
    (λ (z : b ≡ c). not_so (sym (choice-same b c false x z) ∙ e))
    (λ (k : b ≢ c). (choice-other b c (n + 1) n k, sym (choice-other b c false x k) ∙ e))

-- a flag that an action of the hand's own may set
pub set_by : (b c : ℕ) (w x : Bool) → cond (b == c) (cond w true x) x ≡ true →
    (x ≡ true) ⊎ ((b ≡ c) × (w ≡ true))
set_by b c w x e =
    dite (ℕ_discrete b c)
    (λ (z : b ≡ c). own_set w z (sym (choice-same b c (cond w true x) x z) ∙ e))
    (λ (n : b ≢ c). inl (sym (choice-other b c (cond w true x) x n) ∙ e))
  where
    own_set : (w : Bool) → b ≡ c → cond w true x ≡ true → (x ≡ true) ⊎ ((b ≡ c) × (w ≡ true))
    own_set true z e = inr (z, refl)
    own_set false z e = inl e

-- a word that is forgotten at a crossing of the hand's own
forgotten : (b c n w : ℕ) (x : Option ℕ) → cond (b == c) None x ≡ Some w →
    (cond (b == c) (n + 1) n ≡ n) × (x ≡ Some w)
forgotten b c n w x e =
    dite (ℕ_discrete b c)
    (λ (z : b ≡ c). none_some (sym (choice-same b c None x z) ∙ e))
    (λ (k : b ≢ c). (choice-other b c (n + 1) n k, sym (choice-other b c None x k) ∙ e))

names_is : (n p : ℕ) → names_place n p ≡ true → (n ≡ p) × (p ≢ 0)
names_is zero p e = not_so e
names_is (suc n) p e =
    let same : suc n ≡ p = test_is (suc n) p e in (same, λ z. let bad = same ∙ z in cc)

-- ---- what an action gives ----

pub saw_open_gain : (c g b : ℕ) (d : Action) (t : Execution) →
    saw_open c g (event b d ∷ t) ≡ true →
    Gain (λ t. saw_open c g t ≡ true) (SeesOpen g) c b d t
saw_open_gain c g b (Enter n) t e =
    let z = dropped b c (crossings c t) (saw_open c g t) e in (z.0, inl z.1)
saw_open_gain c g b (Leave n) t e =
    let z = dropped b c (crossings c t) (saw_open c g t) e in (z.0, inl z.1)
saw_open_gain c g b (LoadPhase h found) t e = (
  refl,
  ⊎_elim (λ (z : saw_open c g t ≡ true). inl z)
      (λ (z : (b ≡ c) × (((h == g) && (found == word_of_phase Open)) ≡ true)).
      let w = both_are (h == g) (found == word_of_phase Open) z.1 in
      inr (
        z.0,
        ap (λ (y : ℕ). LoadPhase y found) (test_is h g w.0)
            ∙ ap (LoadPhase g) (test_is found (word_of_phase Open) w.1),
      ))
      (set_by b c ((h == g) && (found == word_of_phase Open)) (saw_open c g t) e),
)
saw_open_gain c g b d t e = (refl, inl e)

pub saw_opened_gain : (c f b : ℕ) (d : Action) (t : Execution) →
    saw_opened c f (event b d ∷ t) ≡ true →
    Gain (λ t. saw_opened c f t ≡ true) (SeesOpened f) c b d t
saw_opened_gain c f b (Enter n) t e =
    let z = dropped b c (crossings c t) (saw_opened c f t) e in (z.0, inl z.1)
saw_opened_gain c f b (Leave n) t e =
    let z = dropped b c (crossings c t) (saw_opened c f t) e in (z.0, inl z.1)
saw_opened_gain c f b (LoadPhase h found) t e = (
  refl,
  ⊎_elim (λ (z : saw_opened c f t ≡ true). inl z)
      (λ (z : (b ≡ c) × ((found == word_of_phase (Opened f)) ≡ true)).
      inr (z.0, (h, ap (LoadPhase h) (test_is found (word_of_phase (Opened f)) z.1))))
      (set_by b c (found == word_of_phase (Opened f)) (saw_opened c f t) e),
)
saw_opened_gain c f b d t e = (refl, inl e)

pub stands_in_gain : (c g b : ℕ) (d : Action) (t : Execution) →
    stands_in c g (event b d ∷ t) ≡ true →
    Gain (λ t. stands_in c g t ≡ true) (LoadsGroup g) c b d t
stands_in_gain c g b (Enter n) t e =
    let z = dropped b c (crossings c t) (stands_in c g t) e in (z.0, inl z.1)
stands_in_gain c g b (Leave n) t e =
    let z = dropped b c (crossings c t) (stands_in c g t) e in (z.0, inl z.1)
stands_in_gain c g b (LoadSlotGroup part side i found) t e = (
  refl,
  ⊎_elim (λ (z : stands_in c g t ≡ true). inl z)
      (λ (z : (b ≡ c) × ((found == g) ≡ true)).
      inr (z.0, inl (part, side, i, ap (LoadSlotGroup part side i) (test_is found g z.1))))
      (set_by b c (found == g) (stands_in c g t) e),
)
stands_in_gain c g b (LoadNext h found) t e = (
  refl,
  ⊎_elim (λ (z : stands_in c g t ≡ true). inl z)
      (λ (z : (b ≡ c) × ((found == g + 1) ≡ true)).
      inr (z.0, inr (inl (h, ap (LoadNext h) (test_is found (g + 1) z.1)))))
      (set_by b c (found == g + 1) (stands_in c g t) e),
)
stands_in_gain c g b (LoadPhase h found) t e = (
  refl,
  ⊎_elim (λ (z : stands_in c g t ≡ true). inl z)
      (λ (z : (b ≡ c) × ((found == word_of_phase (Opened g)) ≡ true)).
      inr (z.0, inr (inr (h, ap (LoadPhase h) (test_is found (word_of_phase (Opened g)) z.1)))))
      (set_by b c (found == word_of_phase (Opened g)) (stands_in c g t) e),
)
stands_in_gain c g b d t e = (refl, inl e)

pub reached_gain : (c p b : ℕ) (d : Action) (t : Execution) →
    reached c p (event b d ∷ t) ≡ true →
    Gain (λ t. reached c p t ≡ true) (LoadsPlace p) c b d t
reached_gain c p b (Enter n) t e =
    let z = dropped b c (crossings c t) (reached c p t) e in (z.0, inl z.1)
reached_gain c p b (Leave n) t e =
    let z = dropped b c (crossings c t) (reached c p t) e in (z.0, inl z.1)
reached_gain c p b (LoadState a found) t e = (
  refl,
  ⊎_elim (λ (z : reached c p t ≡ true). inl z)
      (λ (z : (b ≡ c) × ((found == word_of_state (state.Redirect p)) ≡ true)).
      inr (z.0, inl (a, ap (LoadState a) (test_is found (word_of_state (state.Redirect p)) z.1))))
      (set_by b c (found == word_of_state (state.Redirect p)) (reached c p t) e),
)
reached_gain c p b (LoadHead g lane found) t e = (
  refl,
  ⊎_elim (λ (z : reached c p t ≡ true). inl z)
      (λ (z : (b ≡ c) × (names_place found p ≡ true)).
      let w = names_is found p z.1 in inr (z.0, inr (inl (g, lane, ap (LoadHead g lane) w.0, w.1))))
      (set_by b c (names_place found p) (reached c p t) e),
)
reached_gain c p b (LoadLink g q found) t e = (
  refl,
  ⊎_elim (λ (z : reached c p t ≡ true). inl z)
      (λ (z : (b ≡ c) × (names_place found p ≡ true)).
      let w = names_is found p z.1 in inr (z.0, inr (inr (g, q, ap (LoadLink g q) w.0, w.1))))
      (set_by b c (names_place found p) (reached c p t) e),
)
reached_gain c p b d t e = (refl, inl e)

pub root_seen_gain : (c part w b : ℕ) (d : Action) (t : Execution) →
    root_seen c part (event b d ∷ t) ≡ Some w →
    Gain (λ t. root_seen c part t ≡ Some w) (LoadsRoot part w) c b d t
root_seen_gain c part w b (Enter n) t e =
    let z = forgotten b c (crossings c t) w (root_seen c part t) e in (z.0, inl z.1)
root_seen_gain c part w b (Leave n) t e =
    let z = forgotten b c (crossings c t) w (root_seen c part t) e in (z.0, inl z.1)
root_seen_gain c part w b (LoadRoot p found) t e =
    let seen : Option ℕ = cond (p == part) (Some found) (root_seen c part t) in
    dite (ℕ_discrete b c)
    (λ (z : b ≡ c).
    let own : seen ≡ Some w = sym (choice-same b c seen (root_seen c part t) z) ∙ e in
    dite (ℕ_discrete p part)
    (λ (here : p ≡ part).
    let same : found ≡ w =
    some_is (sym (choice-same p part (Some found) (root_seen c part t) here) ∙ own)
    in
    (refl, inr (z, ap (λ (x : ℕ). LoadRoot x found) here ∙ ap (LoadRoot part) same)))
    (λ (there : p ≢ part).
    (refl, inl (sym (choice-other p part (Some found) (root_seen c part t) there) ∙ own))))
    (λ (k : b ≢ c). (refl, inl (sym (choice-other b c seen (root_seen c part t) k) ∙ e)))
root_seen_gain c part w b d t e = (refl, inl e)

-- ---- so the hand is inside ----

module _ (o : Opening) (c : ℕ) (Has : Execution → Type 0) (Gives : Action → Type 0)
    (none : Has [] → ⊥)
    (gain : (b : ℕ) (d : Action) (t : Execution) → Has (event b d ∷ t) → Gain Has Gives c b d t)
    (steps : (t : Execution) (d : Action) → Allowed o t c d → Gives d → IsInside c t) where
  pub inside : (t : Execution) → Valid o t → Has t → IsInside c t
  inside [] valid e = absurd (none e)
  inside (e ∷ t) valid h =
      let g = gain e.by e.action t h in
      let was : IsInside c t =
      ⊎_elim (λ (z : Has t). inside t valid.1 z)
      (λ (z : (e.by ≡ c) × Gives e.action).
      steps t e.action (subst (λ (y : ℕ). Allowed o t y e.action) z.0 valid.0) z.1) g.1
      in
      ap (λ (y : ℕ). y % 2) g.0 ∙ was
