-- Who holds a version lock is inside a read section.
use Rattle.std.proofs.Common.{◌≡◌, ◌≢◌, ℕ, ◌%◌, Bool, true, false, cond}
use Rattle.std.proofs.Common.{Option, Some, None, [], ◌∷◌, ◌++◌, refl, sym, ap, ◌∙◌, subst}
use Rattle.std.proofs.Common.{arith}
use Rattle.std.specs.Prelude.{◌==◌}
use mathlib.Core.Logic.{dite}
use native.Mathlib.Decide.{ℕ_discrete}
use Rattle.index_machine.specs.declared.events.Action.{Action}
use Rattle.index_machine.specs.declared.events.Action.TheVariants.{Enter, Leave, Lock, StoreValue}
use Rattle.index_machine.specs.declared.events.Action.TheVariants.{Unlock, LinkRow, StoreRedirect}
use Rattle.index_machine.specs.declared.events.Action.TheVariants.{Close, Copy, StoreDirect}
use Rattle.index_machine.specs.declared.events.Action.TheVariants.{StoreMoved}
use Rattle.index_machine.specs.declared.opening.Opening.{Opening}
use Rattle.index_machine.specs.Execution.{Execution, Without, event}
use Rattle.index_machine.specs.Forms.{Form, Blank, Unlocked, Locked, Copied, Redirect, Moved}
use Rattle.index_machine.specs.Forms.{IsLockedBy, with_lock, with_value, without_lock}
use Rattle.index_machine.specs.Forms.{made_direct, copied_away, form_after}
use Rattle.index_machine.specs.OpeningRows.{opening_row}
use Rattle.index_machine.specs.Openings.{form_of_row}
use Rattle.index_machine.specs.Places.{first_version, form}
use Rattle.index_machine.specs.RecordConditions.{HoldsNoLock}
use Rattle.index_machine.specs.Sections.{IsCaller, IsInside, IsOutside, crossings}
use Rattle.index_machine.specs.Sections.{crossings_after}
use Rattle.index_machine.specs.Conditions.{Allowed, Valid}
use Rattle.index_machine.proofs.Executions.{crossings_on, crossings_own}

-- ---- the holder of a form ----

-- the hand that holds the version lock
abbrev holder : Form → Option ℕ
holder Blank = None
holder (Unlocked v r x) = None
holder (Locked c v r x y) = Some c
holder (Copied v r x) = None
holder (Redirect p y) = None
holder Moved = None

holder_is : (hand : ℕ) (f : Form) → IsLockedBy hand f → holder f ≡ Some hand
holder_is hand f locked = ap holder locked.4

no_holder : {X : Type 0} (hand : ℕ) → None ≡ Some hand → X
no_holder hand e = cc

same_holder : (c hand : ℕ) → Some c ≡ Some hand → c ≡ hand
same_holder c hand e = cc

locked_is : (hand : ℕ) (f : Form) → holder f ≡ Some hand → IsLockedBy hand f
locked_is hand Blank e = no_holder hand e
locked_is hand (Unlocked v r x) e = no_holder hand e
locked_is hand (Locked c v r x y) e =
    (v, r, x, y, ap (λ (z : ℕ). Locked z v r x y) (same_holder c hand e))
locked_is hand (Copied v r x) e = no_holder hand e
locked_is hand (Redirect p y) e = no_holder hand e
locked_is hand Moved e = no_holder hand e

-- ---- one action ----

-- the action takes a version lock
abbrev pub TakesLock : Action → Type 0
TakesLock (Lock q x) = Unit {0}
TakesLock (Close q x) = Unit {0}
TakesLock _ = ⊥

either_form : (w : Bool) (g f : Form) (hand : ℕ) → (holder g ≡ Some hand → holder f ≡ Some hand) →
    holder (cond w g f) ≡ Some hand → holder f ≡ Some hand
either_form true g f hand back e = back e
either_form false g f hand back e = e

either_of_three : (w v : Bool) (g c f : Form) (hand : ℕ) →
    (holder g ≡ Some hand → holder f ≡ Some hand) →
    (holder c ≡ Some hand → holder f ≡ Some hand) →
    holder (cond w g (cond v c f)) ≡ Some hand → holder f ≡ Some hand
either_of_three true v g c f hand first second e = first e
either_of_three false v g c f hand first second e = either_form v c f hand second e

with_lock-holder : (b hand : ℕ) (f : Form) → b ≢ hand → holder (with_lock b f) ≡ Some hand →
    holder f ≡ Some hand
with_lock-holder b hand Blank other e = e
with_lock-holder b hand (Unlocked v r x) other e = absurd (other (same_holder b hand e))
with_lock-holder b hand (Locked c v r x y) other e = e
with_lock-holder b hand (Copied v r x) other e = e
with_lock-holder b hand (Redirect p y) other e = e
with_lock-holder b hand Moved other e = e

with_value-holder : (n hand : ℕ) (f : Form) → holder (with_value n f) ≡ Some hand →
    holder f ≡ Some hand
with_value-holder n hand Blank e = e
with_value-holder n hand (Unlocked v r x) e = e
with_value-holder n hand (Locked c v r x y) e = e
with_value-holder n hand (Copied v r x) e = e
with_value-holder n hand (Redirect p y) e = e
with_value-holder n hand Moved e = e

without_lock-holder : (r : Bool) (hand : ℕ) (f : Form) → holder (without_lock r f) ≡ Some hand →
    holder f ≡ Some hand
without_lock-holder r hand Blank e = e
without_lock-holder r hand (Unlocked v s x) e = e
without_lock-holder r hand (Locked c v s x y) e = no_holder hand e
without_lock-holder r hand (Copied v s x) e = e
without_lock-holder r hand (Redirect p y) e = e
without_lock-holder r hand Moved e = e

made_direct-holder : (first : ℕ) (r : Bool) (hand : ℕ) (f : Form) →
    holder (made_direct first r f) ≡ Some hand → holder f ≡ Some hand
made_direct-holder first r hand Blank e = e
made_direct-holder first r hand (Unlocked v s x) e = e
made_direct-holder first r hand (Locked c v s x y) e = e
made_direct-holder first r hand (Copied v s x) e = e
made_direct-holder first r hand (Redirect p y) e = no_holder hand e
made_direct-holder first r hand Moved e = e

copied_away-holder : (hand : ℕ) (f : Form) → holder (copied_away f) ≡ Some hand →
    holder f ≡ Some hand
copied_away-holder hand Blank e = e
copied_away-holder hand (Unlocked v s x) e = e
copied_away-holder hand (Locked c v s x y) e = no_holder hand e
copied_away-holder hand (Copied v s x) e = e
copied_away-holder hand (Redirect p y) e = e
copied_away-holder hand Moved e = e

-- who holds the lock after an action, and did not take it by that, held it before
holder_before : (first place b : ℕ) (d : Action) (f : Form) (hand : ℕ) →
    (TakesLock d → b ≢ hand) → holder (form_after first place b d f) ≡ Some hand →
    holder f ≡ Some hand
holder_before first place b (LinkRow g lane q d before next) f hand other e =
    either_form (q == place) _ f hand (no_holder hand) e
holder_before first place b (Lock q x) f hand other e =
    either_form (q == place) (with_lock b f) f hand (with_lock-holder b hand f (other tt)) e
holder_before first place b (StoreValue q y) f hand other e =
    either_form (q == place) (with_value y f) f hand (with_value-holder y hand f) e
holder_before first place b (Unlock q r d w) f hand other e =
    either_form (q == place) (without_lock r f) f hand (without_lock-holder r hand f) e
holder_before first place b (StoreRedirect g q k to) f hand other e =
    either_form (q == place) (Redirect to 0) f hand (no_holder hand) e
holder_before first place b (Close q x) f hand other e =
    either_form (q == place) (with_lock b f) f hand (with_lock-holder b hand f (other tt)) e
holder_before first place b (Copy q y) f hand other e =
    either_form (q == place) (with_value y f) f hand (with_value-holder y hand f) e
holder_before first place b (StoreDirect q from k r w) f hand other e =
    either_of_three (q == place) (from == place) (made_direct first r f) (copied_away f) f hand
    (made_direct-holder first r hand f) (copied_away-holder hand f) e
holder_before first place b (StoreMoved q) f hand other e =
    either_form (q == place) Moved f hand (no_holder hand) e
holder_before first place b d f hand other e = e

-- ---- executions ----

-- an action that takes no lock leaves a hand without one
pub holds_no_lock_after : (o : Opening) (hand by : ℕ) (d : Action) (t : Execution) →
    (TakesLock d → by ≢ hand) → HoldsNoLock o hand t → HoldsNoLock o hand (event by d ∷ t)
holds_no_lock_after o hand by d t other none place locked =
    none place (locked_is hand (form o place t)
    (holder_before (first_version o) place by d (form o place t) hand other
    (holder_is hand (form o place (event by d ∷ t)) locked)))

-- and so do the events of others
pub holds_no_lock_on : (o : Opening) (hand : ℕ) (newer t : Execution) → Without hand newer →
    HoldsNoLock o hand t → HoldsNoLock o hand (newer ++ t)
holds_no_lock_on o hand [] t out none = none
holds_no_lock_on o hand (e ∷ newer) t out none =
    holds_no_lock_after o hand e.by e.action (newer ++ t) (λ _. out.0)
    (holds_no_lock_on o hand newer t out.1 none)

-- before the first event no hand holds a lock
pub holds_no_lock_first : (o : Opening) (hand : ℕ) → HoldsNoLock o hand []
holds_no_lock_first o hand place locked = go (opening_row o place) locked
  where
    go : (r : Option (ℕ × ℕ)) → IsLockedBy hand (form_of_row (first_version o) r) → ⊥
    go None locked = no_holder hand (holder_is hand Blank locked)
    go (Some r) locked =
        no_holder hand (holder_is hand (Unlocked (first_version o) false r.1) locked)

-- ---- holders are inside ----

not_both : (hand : ℕ) (t : Execution) → IsInside hand t → IsOutside hand t → ⊥
not_both hand t inside outside = let i = inside in let u = outside in absurd (omega arith)

still_inside : (hand : ℕ) (d : Action) (t : Execution) →
    crossings_after true d (crossings hand t) ≡ crossings hand t → IsInside hand t →
    IsInside hand (event hand d ∷ t)
still_inside hand d t same inside =
    ap (λ (z : ℕ). z % 2) (crossings_own hand d t ∙ same) ∙ inside

own_step : (o : Opening) (t : Execution) (hand : ℕ) (d : Action) → Allowed o t hand d →
    IsCaller o hand → ((place : ℕ) → IsLockedBy hand (form o place t) → IsInside hand t) →
    (place : ℕ) → IsLockedBy hand (form o place (event hand d ∷ t)) →
    IsInside hand (event hand d ∷ t)
own_step o t hand (Enter n) may caller before place locked =
    absurd (not_both hand t (before place locked) may.0.outside)
own_step o t hand (Leave n) may caller before place locked =
    absurd (may.0.holds_none place locked)
own_step o t hand (Lock q x) may caller before place locked =
    still_inside hand (Lock q x) t refl may.reading.inside
own_step o t hand (Close q x) may caller before place locked =
    absurd (let keeper = may.keeper in omega arith)
own_step o t hand d may caller before place locked =
    still_inside hand d t refl
    (before place (locked_is hand (form o place t)
    (holder_before (first_version o) place hand d (form o place t) hand (λ z. absurd z)
    (holder_is hand (form o place (event hand d ∷ t)) locked))))

pub holders_inside : (o : Opening) (t : Execution) → Valid o t → (caller : ℕ) →
    IsCaller o caller → (place : ℕ) → IsLockedBy caller (form o place t) → IsInside caller t
holders_inside o [] valid caller is place locked =
    absurd (holds_no_lock_first o caller place locked)
holders_inside o (e ∷ t) valid caller is place locked =
    dite (ℕ_discrete e.by caller)
    (λ (own : e.by ≡ caller).
    subst (λ (z : ℕ). Allowed o t z e.action → IsLockedBy z (form o place (event e.by e.action ∷ t)) →
    IsInside z (event e.by e.action ∷ t)) own
    (λ may lock. own_step o t e.by e.action may (subst (IsCaller o) (sym own) is)
    (λ q at. holders_inside o t valid.1 e.by (subst (IsCaller o) (sym own) is) q at) place lock)
    (subst (λ (z : ℕ). Allowed o t z e.action) own valid.0) locked)
    (λ (other : e.by ≢ caller).
    ap (λ (z : ℕ). z % 2) (crossings_on caller (e ∷ []) t (other, tt))
    ∙ holders_inside o t valid.1 caller is place
    (locked_is caller (form o place t)
    (holder_before (first_version o) place e.by e.action (form o place t) caller (λ _. other)
    (holder_is caller (form o place (e ∷ t)) locked))))

-- so a hand that is outside holds none
pub outside_holds_none : (o : Opening) (t : Execution) → Valid o t → (caller : ℕ) →
    IsCaller o caller → IsOutside caller t → HoldsNoLock o caller t
outside_holds_none o t valid caller is outside place locked =
    not_both caller t (holders_inside o t valid caller is place locked) outside
