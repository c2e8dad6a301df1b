-- Executions that go on.
--
-- The fact to remember: what a hand's own events alone change stays as it is while others step
-- (own_on).
use Rattle.std.proofs.Common.{◌≡◌, ◌≢◌, ℕ, Bool, true, false, cond, [], ◌∷◌, ◌++◌, refl, ap, ◌∙◌}
use Rattle.std.proofs.Common.{eq-eqb, ne_eqb, append_assoc}
use Rattle.std.specs.Prelude.{◌==◌}
use Rattle.index_machine.specs.declared.events.Action.{Action}
use Rattle.index_machine.specs.declared.events.Action.TheVariants.{Enter}
use Rattle.index_machine.specs.declared.opening.Opening.{Opening}
use Rattle.index_machine.specs.Execution.{Execution, event, own, Without, Continues}
use Rattle.index_machine.specs.Sections.{crossings_after, crossings}
use Rattle.index_machine.specs.ObservedHeads.{NoHead, observed_after, observed_head}
use Rattle.index_machine.specs.Conditions.{Valid}

-- ---- choices by a test of two numbers ----

pub choice-same : {A : Type 0} (m n : ℕ) (a b : A) → m ≡ n → cond (m == n) a b ≡ a
choice-same m n a b e = rw (eq-eqb m n e) refl

pub choice-other : {A : Type 0} (m n : ℕ) (a b : A) → m ≢ n → cond (m == n) a b ≡ b
choice-other m n a b differ = rw (ne_eqb m n differ) refl

-- ---- what others leave ----

-- the step of another hand changes nothing
abbrev pub ChangesOwnOnly : {A : Type 0} → (Bool → Action → A → A) → Type 0
ChangesOwnOnly {A} step = (action : Action) (x : A) → step false action x ≡ x

pub own_on : {A : Type 0} (step : Bool → Action → A → A) (first : A) → ChangesOwnOnly step →
    (hand : ℕ) (newer t : Execution) → Without hand newer →
    own step first hand (newer ++ t) ≡ own step first hand t
own_on step first only hand [] t without = refl
own_on step first only hand (e ∷ newer) t without =
    rw (ne_eqb e.by hand without.0)
    (only e.action (own step first hand (newer ++ t))
    ∙ own_on step first only hand newer t without.1)

crossings_after-own_only : ChangesOwnOnly crossings_after
crossings_after-own_only (Enter n) count = refl
crossings_after-own_only action count = refl

observed_after-own_only : ChangesOwnOnly observed_after
observed_after-own_only (Enter n) observed = refl
observed_after-own_only action observed = refl

pub crossings_on : (hand : ℕ) (newer t : Execution) → Without hand newer →
    crossings hand (newer ++ t) ≡ crossings hand t
crossings_on hand newer t without =
    own_on crossings_after 0 crossings_after-own_only hand newer t without

pub observed_head_on : (hand : ℕ) (newer t : Execution) → Without hand newer →
    observed_head hand (newer ++ t) ≡ observed_head hand t
observed_head_on hand newer t without =
    own_on observed_after NoHead observed_after-own_only hand newer t without

-- ---- what a hand's own event does ----

pub own_step : {A : Type 0} (step : Bool → Action → A → A) (first : A) (hand : ℕ) (action : Action)
    (t : Execution) →
    own step first hand (event hand action ∷ t) ≡ step true action (own step first hand t)
own_step step first hand action t = rw (eq-eqb hand hand refl) refl

pub crossings_own : (hand : ℕ) (action : Action) (t : Execution) →
    crossings hand (event hand action ∷ t) ≡ crossings_after true action (crossings hand t)
crossings_own hand action t = own_step crossings_after 0 hand action t

pub observed_head_own : (hand : ℕ) (action : Action) (t : Execution) →
    observed_head hand (event hand action ∷ t)
    ≡ observed_after true action (observed_head hand t)
observed_head_own hand action t = own_step observed_after NoHead hand action t

-- ---- earlier and later ----

pub valid_before : (o : Opening) (newer t : Execution) → Valid o (newer ++ t) → Valid o t
valid_before o [] t valid = valid
valid_before o (e ∷ newer) t valid = valid_before o newer t valid.1

pub without_append : (hand : ℕ) (later earlier : Execution) → Without hand later →
    Without hand earlier → Without hand (later ++ earlier)
without_append hand [] earlier none before = before
without_append hand (e ∷ later) earlier none before =
    (none.0, without_append hand later earlier none.1 before)

pub continues_same : (t : Execution) → Continues t t
continues_same t = ([], refl)

pub continues_trans : (first second third : Execution) → Continues first second →
    Continues second third → Continues first third
continues_trans first second third f g =
    (g.0 ++ f.0, append_assoc g.0 f.0 first ∙ ap (λ (z : Execution). g.0 ++ z) f.1 ∙ g.1)
