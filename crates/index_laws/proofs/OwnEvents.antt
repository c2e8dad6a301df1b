-- Events that are all one hand's: where they begin, and the locks that others hold behind them.
use Rattle.std.proofs.Common.{◌≡◌, ℕ, Bool, true, false, cond, ◌==◌}
use Rattle.std.proofs.Common.{[], ◌∷◌, ◌++◌, refl, sym, ap, ◌∙◌, subst, append_assoc}
use Rattle.std.proofs.Common.{arith, inl, inr}
use Rattle.std.proofs.lemmas.List.{append_cancel_right}
use Rattle.index_machine.specs.declared.events.Action.{Action}
use Rattle.index_machine.specs.declared.events.Action.TheVariants.{Lock, StoreValue, Unlock}
use Rattle.index_machine.specs.declared.events.Action.TheVariants.{LinkRow, StoreRedirect}
use Rattle.index_machine.specs.declared.events.Action.TheVariants.{Close, Copy, StoreDirect}
use Rattle.index_machine.specs.declared.events.Action.TheVariants.{StoreMoved}
use Rattle.index_machine.specs.declared.events.Event.{Event}
use Rattle.index_machine.specs.declared.opening.Opening.{Opening}
use Rattle.index_machine.specs.Conditions.{Allowed, Valid}
use Rattle.index_machine.specs.Execution.{Continues, Execution, Without, event}
use Rattle.index_machine.specs.Forms.{Form, Blank, Unlocked, Locked, Copied, Redirect, Moved}
use Rattle.index_machine.specs.Forms.{form_after, with_lock, with_value, without_lock}
use Rattle.index_machine.specs.Places.{first_version, form}
use Rattle.index_machine.specs.Sections.{IsCaller}
use Rattle.index_machine.proofs.Holders.{holds_no_lock_after}
use Rattle.index_laws.specs.Undisturbed.{IsAllBy, OthersHoldNoLock}

-- ---- where they begin ----

-- what is the hand's and of others alone is nothing
none_both : (hand : ℕ) (own t : Execution) → IsAllBy hand own → Without hand (own ++ t) → own ≡ []
none_both hand [] t all none = refl
none_both hand (e ∷ own) t all none = absurd (none.0 all.0)

has_own : (hand : ℕ) (first : Action) (newer before : Execution) →
    Without hand (newer ++ event hand first ∷ before) → ⊥
has_own hand first [] before none = none.0 refl
has_own hand first (e ∷ newer) before none = has_own hand first newer before none.1

same_tail : (e d : Event) (t u : Execution) → e ∷ t ≡ d ∷ u → t ≡ u
same_tail e d t u same = cc

-- so what stands before all of the hand's own events is what stands before its first one
before_own : (hand : ℕ) (first : Action) (own others newer before : Execution) → IsAllBy hand own →
    Without hand others → Without hand before →
    own ++ others ≡ newer ++ event hand first ∷ before → others ≡ before
before_own hand first [] others newer before all apart none same =
    absurd (has_own hand first newer before (subst (Without hand) same apart))
before_own hand first (e ∷ own) others [] before all apart none same =
    let tails : own ++ others ≡ before =
    same_tail e (event hand first) (own ++ others) before same
    in
    let nothing = none_both hand own others all.1 (subst (Without hand) (sym tails) none) in
    subst (λ (z : Execution). z ++ others ≡ before) nothing tails
before_own hand first (e ∷ own) others (d ∷ newer) before all apart none same =
    before_own hand first own others newer before all.1 apart none
    (same_tail e d (own ++ others) (newer ++ event hand first ∷ before) same)

pub before_first : (hand : ℕ) (first : Action) (own others newer before earlier : Execution) →
    IsAllBy hand own → Without hand others → Without hand before →
    own ++ (others ++ earlier) ≡ newer ++ (event hand first ∷ before ++ earlier) →
    others ≡ before
before_first hand first own others newer before earlier all apart none same =
    before_own hand first own others newer before all apart none
    (append_cancel_right (own ++ others) (newer ++ event hand first ∷ before) earlier
    (append_assoc own others earlier
    ∙ (same ∙ sym (append_assoc newer (event hand first ∷ before) earlier))))

-- ---- what goes on by them ----

-- the later execution is the earlier one with newer events of the hand alone
abbrev pub ContinuesAlone : ℕ → Execution → Execution → Type 0
ContinuesAlone hand earlier later =
    (newer : Execution) × (newer ++ earlier ≡ later) × IsAllBy hand newer

behind : (hand : ℕ) (newer t : Execution) → IsAllBy hand (newer ++ t) → IsAllBy hand t
behind hand [] t all = all
behind hand (e ∷ newer) t all = behind hand newer t all.1

before : (hand : ℕ) (newer t : Execution) → IsAllBy hand (newer ++ t) → IsAllBy hand newer
before hand [] t all = tt
before hand (e ∷ newer) t all = (all.0, before hand newer t all.1)

-- so is each part of the newer events the hand's
pub part_alone : (hand : ℕ) (earlier later first newer : Execution) →
    ContinuesAlone hand earlier later → Continues earlier first → Continues (newer ++ first) later →
    IsAllBy hand newer
part_alone hand earlier later first newer alone from on =
    let whole : (on.0 ++ (newer ++ from.0)) ++ earlier ≡ alone.0 ++ earlier =
    append_assoc on.0 (newer ++ from.0) earlier
    ∙ (ap (λ (z : Execution). on.0 ++ z)
    (append_assoc newer from.0 earlier ∙ ap (λ (z : Execution). newer ++ z) from.1)
    ∙ (on.1 ∙ sym alone.1))
    in
    let same = append_cancel_right (on.0 ++ (newer ++ from.0)) alone.0 earlier whole in
    before hand newer from.0
    (behind hand on.0 (newer ++ from.0) (subst (IsAllBy hand) (sym same) alone.2))

-- and what goes on from the earlier execution does so by the hand alone
pub moment_alone : (hand : ℕ) (earlier moment later : Execution) →
    ContinuesAlone hand earlier later → Continues earlier moment → Continues moment later →
    ContinuesAlone hand earlier moment
moment_alone hand earlier moment later alone from on = (
  from.0,
  from.1,
  part_alone hand earlier later earlier from.0 alone ([], refl)
      (subst (λ (z : Execution). Continues z later) (sym from.1) on),
)

-- ---- what others hold ----

-- the form is that of a place whose record was copied away
abbrev IsCopied : Form → Type 0
IsCopied (Copied v r x) = Unit {0}
IsCopied _ = ⊥

copied_is : (f : Form) → IsCopied f →
    (v : ℕ) × (r : Bool) × (x : ℕ) × (f ≡ Copied v r x)
copied_is Blank is = absurd is
copied_is (Unlocked v r x) is = absurd is
copied_is (Locked c v r x y) is = absurd is
copied_is (Copied v r x) is = (v, r, x, refl)
copied_is (Redirect p y) is = absurd is
copied_is Moved is = absurd is

either_copied : (w : Bool) (g f : Form) → (IsCopied g → IsCopied f) → IsCopied (cond w g f) →
    IsCopied f
either_copied true g f back is = back is
either_copied false g f back is = is

with_lock-copied : (hand : ℕ) (f : Form) → IsCopied (with_lock hand f) → IsCopied f
with_lock-copied hand Blank is = is
with_lock-copied hand (Unlocked v r x) is = absurd is
with_lock-copied hand (Locked c v r x y) is = is
with_lock-copied hand (Copied v r x) is = is
with_lock-copied hand (Redirect p y) is = is
with_lock-copied hand Moved is = is

with_value-copied : (n : ℕ) (f : Form) → IsCopied (with_value n f) → IsCopied f
with_value-copied n Blank is = is
with_value-copied n (Unlocked v r x) is = is
with_value-copied n (Locked c v r x y) is = is
with_value-copied n (Copied v r x) is = is
with_value-copied n (Redirect p y) is = is
with_value-copied n Moved is = is

without_lock-copied : (r : Bool) (f : Form) → IsCopied (without_lock r f) → IsCopied f
without_lock-copied r Blank is = is
without_lock-copied r (Unlocked v s x) is = is
without_lock-copied r (Locked c v s x y) is = absurd is
without_lock-copied r (Copied v s x) is = is
without_lock-copied r (Redirect p y) is = is
without_lock-copied r Moved is = is

-- a caller copies no record away: only the keeper may
copied_before : (o : Opening) (t : Execution) (hand : ℕ) (d : Action) → IsCaller o hand →
    Allowed o t hand d → (first place : ℕ) (f : Form) →
    IsCopied (form_after first place hand d f) → IsCopied f
copied_before o t hand (LinkRow g lane q d before next) caller may first place f is =
    either_copied (q == place) _ f (λ z. absurd z) is
copied_before o t hand (Lock q x) caller may first place f is =
    either_copied (q == place) (with_lock hand f) f (with_lock-copied hand f) is
copied_before o t hand (StoreValue q y) caller may first place f is =
    either_copied (q == place) (with_value y f) f (with_value-copied y f) is
copied_before o t hand (Unlock q r d w) caller may first place f is =
    either_copied (q == place) (without_lock r f) f (without_lock-copied r f) is
copied_before o t hand (StoreRedirect g q k to) caller may first place f is =
    either_copied (q == place) (Redirect to 0) f (λ z. absurd z) is
copied_before o t hand (Close q x) caller may first place f is =
    either_copied (q == place) (with_lock hand f) f (with_lock-copied hand f) is
copied_before o t hand (Copy q y) caller may first place f is =
    either_copied (q == place) (with_value y f) f (with_value-copied y f) is
copied_before o t hand (StoreDirect q from k r w) caller may first place f is =
    absurd (let keeper = may.keeper in omega arith)
copied_before o t hand (StoreMoved q) caller may first place f is =
    either_copied (q == place) Moved f (λ z. absurd z) is
copied_before o t hand d caller may first place f is = is

-- where others held no lock, they hold none behind a caller's own event
unlocked_after : (o : Opening) (hand : ℕ) (d : Action) (t : Execution) → IsCaller o hand →
    Allowed o t hand d → OthersHoldNoLock o hand t → OthersHoldNoLock o hand (event hand d ∷ t)
unlocked_after o hand d t caller may none place (inl held) =
    holds_no_lock_after o held.0 hand d t (λ _ same. held.1 (sym same))
    (λ q locked. none q (inl (held.0, held.1, locked))) place held.2
unlocked_after o hand d t caller may none place (inr held) =
    let copied =
    copied_before o t hand d caller may (first_version o) place (form o place t)
    (subst IsCopied (sym held.3) tt)
    in
    none place (inr (copied_is (form o place t) copied))

pub unlocked_on : (o : Opening) (hand : ℕ) (newer t : Execution) → IsCaller o hand →
    IsAllBy hand newer → Valid o (newer ++ t) → OthersHoldNoLock o hand t →
    OthersHoldNoLock o hand (newer ++ t)
unlocked_on o hand [] t caller all valid none = none
unlocked_on o hand (e ∷ newer) t caller all valid none =
    let rest = unlocked_on o hand newer t caller all.1 valid.1 none in
    subst (λ (z : ℕ). OthersHoldNoLock o hand (event z e.action ∷ newer ++ t)) (sym all.0)
    (unlocked_after o hand e.action (newer ++ t) caller
    (subst (λ (z : ℕ). Allowed o (newer ++ t) z e.action) all.0 valid.0) rest)
