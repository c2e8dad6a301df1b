-- A test that holds or not, an opened phase or another, a number up to another or behind it.
use Rattle.std.proofs.Common.{◌≡◌, ◌≢◌, ◌⊎◌, inl, inr, ℕ, ◌<◌, ◌≤◌, Bool, true, false, refl}
use Rattle.std.proofs.Common.{nat_lt, ltb-false, ltb-true, sym, ap, ◌∙◌}
use mathlib.Core.Logic.{dite}
use native.Mathlib.Decide.{ℕ_discrete}
use Rattle.index_machine.proofs.Options.{not_so}
use Rattle.machine_barriers.proofs.OpenedGroups.{frozen_not, open_not, opened_is}
use Rattle.word_layout.specs.declared.phase.Phase.{Phase}
use Rattle.word_layout.specs.declared.phase.Phase.TheVariants.{Frozen, Open, Opened}

pub in_or_out : (w : Bool) → (w ≡ true) ⊎ (w ≡ false)
in_or_out true = inl refl
in_or_out false = inr refl

pub both_ways : {X : Type 0} {w : Bool} → w ≡ true → w ≡ false → X
both_ways a b = not_so (sym b ∙ a)

-- whether a phase is that of a group opened to this rebuild
pub opened_or_not : (f : ℕ) (x : Phase) → (x ≡ Opened f) ⊎ (x ≢ Opened f)
opened_or_not f Open = inr (λ e. open_not e)
opened_or_not f Frozen = inr (λ e. frozen_not e)
opened_or_not f (Opened i) = dite (ℕ_discrete i f)
    (λ (z : i ≡ f). inl (ap (λ (y : ℕ). Opened y) z))
    (λ (n : i ≢ f). inr (λ e. n (opened_is e)))

pub no_open_frozen : {X : Type 0} {x : Phase} {f : ℕ} → x ≡ Frozen → x ≡ Opened f → X
no_open_frozen a b = frozen_not (sym a ∙ b)

pub no_open_open : {X : Type 0} {x : Phase} {f : ℕ} → x ≡ Open → x ≡ Opened f → X
no_open_open a b = open_not (sym a ∙ b)

pub le_or_lt : (a b : ℕ) → (a ≤ b) ⊎ (b < a)
le_or_lt a b = go (nat_lt b a) refl
  where
    go : (w : Bool) → nat_lt b a ≡ w → (a ≤ b) ⊎ (b < a)
    go true e = inr (ltb-true b a e)
    go false e = inl (ltb-false b a e)
