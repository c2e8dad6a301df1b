-- The word that a caller locked stays the one that it keeps, until it locks another place.
use Rattle.std.proofs.Common.{◌≡◌, ◌≢◌, ℕ, ◌<◌, Bool, true, false, cond, Option, Some, None, [], ◌∷◌}
use Rattle.std.proofs.Common.{◌++◌, sym, ap, ◌∙◌, subst, arith}
use Rattle.std.specs.Prelude.{◌==◌}
use mathlib.Core.Logic.{dite}
use native.Mathlib.Decide.{ℕ_discrete}
use Rattle.word_layout.specs.State.{word_of_state}
use Rattle.word_layout.specs.declared.state.State.TheVariants as state
use Rattle.index_machine.specs.declared.events.Action.{Action}
use Rattle.index_machine.specs.declared.events.Action.TheVariants.{Close, Copy, LinkRow, Lock}
use Rattle.index_machine.specs.declared.events.Action.TheVariants.{StoreDirect, StoreMoved}
use Rattle.index_machine.specs.declared.events.Action.TheVariants.{StoreRedirect, StoreValue}
use Rattle.index_machine.specs.declared.events.Action.TheVariants.{Unlock}
use Rattle.index_machine.specs.declared.opening.Opening.{Opening}
use Rattle.index_machine.specs.Execution.{Execution, event, Without}
use Rattle.index_machine.specs.Sections.{IsCaller}
use Rattle.index_machine.specs.Forms.{Form, IsLockedBy, Blank, Unlocked, Locked, Copied, Redirect, Moved}
use Rattle.index_machine.specs.Forms.{with_lock, with_value, without_lock, made_direct, copied_away}
use Rattle.index_machine.specs.Forms.{form_after, state_word, last_version, put_value}
use Rattle.index_machine.specs.Places.{first_version, form}
use Rattle.index_machine.specs.RecordConditions.{IsAt}
use Rattle.index_machine.specs.Conditions.{Allowed, Valid}
use Rattle.index_machine.proofs.Executions.{choice-other, choice-same}
use Rattle.index_machine.proofs.Holders.{TakesLock}
use Rattle.machine_readers.proofs.LockSteps.{locked_step}
use Rattle.index_rule.specs.LockWords.{IsLockedWord, locked_word_after}
use Rattle.index_rule.proofs.Standing.{at_keyed, at_on, stays_inside}

-- ---- what stays of a lock ----

-- the hand that holds the lock, the version, and whether the record was removed
abbrev lock : Form → Option (ℕ × ℕ × Bool)
lock Blank = None
lock (Unlocked v r x) = None
lock (Locked c v r x y) = Some (c, v, r)
lock (Copied v r x) = None
lock (Redirect p y) = None
lock Moved = None

abbrev Fields : Type 0
Fields = ℕ × ℕ × Bool

none_is : {X : Type 0} {l : Fields} → None ≡ Some l → X
none_is e = cc

fields_are : {l m : Fields} → Some l ≡ Some m → l ≡ m
fields_are e = cc

-- the form that has this lock
lock_is : (f : Form) (c v : ℕ) (r : Bool) → lock f ≡ Some (c, v, r) →
    (x : ℕ) × (y : ℕ) × (f ≡ Locked c v r x y)
lock_is Blank c v r e = none_is e
lock_is (Unlocked w s x) c v r e = none_is e
lock_is (Locked b w s x y) c v r e =
    (x, y, ap (λ (z : Fields). Locked z.0 z.1 z.2 x y) (fields_are e))
lock_is (Copied w s x) c v r e = none_is e
lock_is (Redirect p y) c v r e = none_is e
lock_is Moved c v r e = none_is e

either_lock : (w : Bool) (g f : Form) (l : Fields) → (lock g ≡ Some l → lock f ≡ Some l) →
    lock (cond w g f) ≡ Some l → lock f ≡ Some l
either_lock true g f l back e = back e
either_lock false g f l back e = e

either_of_three : (w v : Bool) (g c f : Form) (l : Fields) →
    (lock g ≡ Some l → lock f ≡ Some l) → (lock c ≡ Some l → lock f ≡ Some l) →
    lock (cond w g (cond v c f)) ≡ Some l → lock f ≡ Some l
either_of_three true v g c f l first second e = first e
either_of_three false v g c f l first second e = either_lock v c f l second e

with_lock-lock : (b : ℕ) (f : Form) (l : Fields) → b ≢ l.0 → lock (with_lock b f) ≡ Some l →
    lock f ≡ Some l
with_lock-lock b Blank l other e = e
with_lock-lock b (Unlocked v r x) l other e =
    absurd (other (ap (λ (z : Fields). z.0) (fields_are e)))
with_lock-lock b (Locked c v r x y) l other e = e
with_lock-lock b (Copied v r x) l other e = e
with_lock-lock b (Redirect p y) l other e = e
with_lock-lock b Moved l other e = e

with_value-lock : (n : ℕ) (f : Form) (l : Fields) → lock (with_value n f) ≡ Some l →
    lock f ≡ Some l
with_value-lock n Blank l e = e
with_value-lock n (Unlocked v r x) l e = e
with_value-lock n (Locked c v r x y) l e = e
with_value-lock n (Copied v r x) l e = e
with_value-lock n (Redirect p y) l e = e
with_value-lock n Moved l e = e

without_lock-lock : (r : Bool) (f : Form) (l : Fields) → lock (without_lock r f) ≡ Some l →
    lock f ≡ Some l
without_lock-lock r Blank l e = e
without_lock-lock r (Unlocked v s x) l e = e
without_lock-lock r (Locked c v s x y) l e = none_is e
without_lock-lock r (Copied v s x) l e = e
without_lock-lock r (Redirect p y) l e = e
without_lock-lock r Moved l e = e

made_direct-lock : (first : ℕ) (r : Bool) (f : Form) (l : Fields) →
    lock (made_direct first r f) ≡ Some l → lock f ≡ Some l
made_direct-lock first r Blank l e = e
made_direct-lock first r (Unlocked v s x) l e = e
made_direct-lock first r (Locked c v s x y) l e = e
made_direct-lock first r (Copied v s x) l e = e
made_direct-lock first r (Redirect p y) l e = none_is e
made_direct-lock first r Moved l e = e

copied_away-lock : (f : Form) (l : Fields) → lock (copied_away f) ≡ Some l → lock f ≡ Some l
copied_away-lock Blank l e = e
copied_away-lock (Unlocked v s x) l e = e
copied_away-lock (Locked c v s x y) l e = none_is e
copied_away-lock (Copied v s x) l e = e
copied_away-lock (Redirect p y) l e = e
copied_away-lock Moved l e = e

-- a lock that a hand has after an action, and did not take by that, it had before, with this
-- version
lock_before : (first place b : ℕ) (d : Action) (f : Form) (l : Fields) → (TakesLock d → b ≢ l.0) →
    lock (form_after first place b d f) ≡ Some l → lock f ≡ Some l
lock_before first place b (LinkRow g lane q d before next) f l other e =
    either_lock (q == place) (Unlocked first false (put_value d)) f l none_is e
lock_before first place b (Lock q x) f l other e =
    either_lock (q == place) (with_lock b f) f l (with_lock-lock b f l (other tt)) e
lock_before first place b (StoreValue q y) f l other e =
    either_lock (q == place) (with_value y f) f l (with_value-lock y f l) e
lock_before first place b (Unlock q r d w) f l other e =
    either_lock (q == place) (without_lock r f) f l (without_lock-lock r f l) e
lock_before first place b (StoreRedirect g q k to) f l other e =
    either_lock (q == place) (Redirect to 0) f l none_is e
lock_before first place b (Close q x) f l other e =
    either_lock (q == place) (with_lock b f) f l (with_lock-lock b f l (other tt)) e
lock_before first place b (Copy q y) f l other e =
    either_lock (q == place) (with_value y f) f l (with_value-lock y f l) e
lock_before first place b (StoreDirect q from k r w) f l other e =
    either_of_three (q == place) (from == place) (made_direct first r f) (copied_away f) f l
    (made_direct-lock first r f l) (copied_away-lock f l) e
lock_before first place b (StoreMoved q) f l other e =
    either_lock (q == place) Moved f l none_is e
lock_before first place b d f l other e = e

-- ---- the word that was locked ----

-- where no lock is taken the word stays right
kept_word : (o : Opening) (c b word : ℕ) (d : Action) (t : Execution) → (TakesLock d → b ≢ c) →
    IsLockedWord o c word t → IsLockedWord o c word (event b d ∷ t)
kept_word o c b word d t other old place v r x y e =
    let was = lock_is (form o place t) c v r
    (lock_before (first_version o) place b d (form o place t) (c, v, r) other (ap lock e)) in
    old place v r was.0 was.1 was.2

-- so it does while others step
pub locked_word_on : (o : Opening) (c word : ℕ) (n t : Execution) → Without c n →
    IsLockedWord o c word t → IsLockedWord o c word (n ++ t)
locked_word_on o c word [] t out old = old
locked_word_on o c word (e ∷ n) t out old =
    kept_word o c e.by word e.action (n ++ t) (λ _. out.0) (locked_word_on o c word n t out.1 old)

-- the word of a place that a caller just locked
locked_now : (o : Opening) (c q expected : ℕ) (t : Execution) → Allowed o t c (Lock q expected) →
    IsLockedWord o c expected (event c (Lock q expected) ∷ t)
locked_now o c q expected t may place v r x y e =
    dite (ℕ_discrete q place)
    (λ (here : q ≡ place).
    let f : form o place t ≡ Unlocked may.version may.removed may.value =
    ap (λ (z : ℕ). form o z t) (sym here) ∙ may.unlocked
    in
    let now : Locked c may.version may.removed may.value may.value ≡ Locked c v r x y =
    ap (with_lock c) (sym f)
    ∙ (sym (choice-same q place (with_lock c (form o place t)) (form o place t) here) ∙ e)
    in
    let same : (c, may.version, may.removed) ≡ (c, v, r) = fields_are (ap lock now) in
    record {
      is = sym may.found_word
          ∙ (ap state_word may.unlocked
          ∙ ap (λ (z : Fields). word_of_state (state.Direct z.1 false z.2)) same);
      raisable = subst (λ (z : ℕ). z < last_version) (ap (λ (z : Fields). z.1) same) may.raisable;
    })
    (λ (elsewhere : q ≢ place). absurd (may.holds_none place (
      v,
      r,
      x,
      y,
      sym (choice-other q place (with_lock c (form o place t)) (form o place t) elsewhere) ∙ e,
    )))

-- and after a step of the caller's own
pub locked_word_own : (o : Opening) (c word : ℕ) (d : Action) (t : Execution) → IsCaller o c →
    Allowed o t c d → IsLockedWord o c word t →
    IsLockedWord o c (locked_word_after d word) (event c d ∷ t)
locked_word_own o c word (Lock q expected) t is may old = locked_now o c q expected t may
locked_word_own o c word (Close q expected) t is may old =
    absurd (let keeper = may.keeper in omega arith)
locked_word_own o c word d t is may old = kept_word o c c word d t (λ z. absurd z) old

-- ---- a lock that is held ----

-- a lock that a hand has and did not take by this action it had before, with this version
pub locked_before : (o : Opening) (c p b : ℕ) (d : Action) (t : Execution) → (TakesLock d → b ≢ c) →
    IsLockedBy c (form o p (event b d ∷ t)) → IsLockedBy c (form o p t)
locked_before o c p b d t other now =
    let was = lock_is (form o p t) c now.0 now.1
    (lock_before (first_version o) p b d (form o p t) (c, now.0, now.1) other (ap lock now.4)) in
    (now.0, now.1, was.0, was.1, was.2)

pub locked_before_on : (o : Opening) (c p : ℕ) (n t : Execution) → Without c n →
    IsLockedBy c (form o p (n ++ t)) → IsLockedBy c (form o p t)
locked_before_on o c p [] t out now = now
locked_before_on o c p (e ∷ n) t out now =
    locked_before_on o c p n t out.1
    (locked_before o c p e.by e.action (n ++ t) (λ _. out.0) now)

-- where a caller stands, the lock that it holds is as it left it
pub locked_on : (o : Opening) (c p : ℕ) (n t : Execution) → Valid o (n ++ t) → Without c n →
    IsAt o c p t → (v x y : ℕ) (r : Bool) → form o p t ≡ Locked c v r x y →
    form o p (n ++ t) ≡ Locked c v r x y
locked_on o c p [] t valid out at v x y r e = e
locked_on o c p (a ∷ n) t valid out at v x y r e =
    let keyed = at_keyed o c p (n ++ t) valid.1
    (at_on o c p n t valid.1 (stays_inside c n out.1) at) in
    locked_step o (n ++ t) a.by a.action c p keyed.0 v x y r valid.0 out.0 keyed.1
    (locked_on o c p n t valid.1 out.1 at v x y r e)
