-- What each action makes of the words of a form, of a phase, of a role and of a slot.
use Rattle.std.proofs.Common.{◌≡◌, ◌≢◌, ◌⊎◌, inl, inr, ℕ, ◌+◌, Some}
use Rattle.std.proofs.Common.{Bool, true, false, cond, refl, sym, ap, ◌∙◌, subst}
use Rattle.std.proofs.Common.{arith, eq-eqb, ne_eqb}
use Rattle.std.specs.Prelude.{◌==◌, ◌&&◌}
use mathlib.Core.Logic.{dite}
use native.Mathlib.Decide.{ℕ_discrete}
use Rattle.word_layout.specs.declared.phase.Phase.{Phase}
use Rattle.word_layout.specs.declared.phase.Phase.TheVariants.{Open, Frozen, Opened}
use Rattle.word_layout.specs.declared.state.State.TheVariants as state
use Rattle.word_layout.specs.Phase.{word_of_phase}
use Rattle.word_layout.specs.State.{word_of_state}
use Rattle.map_model.specs.declared.entries.Change.{Change}
use Rattle.map_model.specs.declared.entries.Change.TheVariants as change
use Rattle.index_machine.specs.declared.opening.Opening.{Opening}
use Rattle.index_machine.specs.Execution.{Execution}
use Rattle.index_machine.specs.Rows.{Role, Unused, HeldBy, InArray, InBuffer, role, role_key}
use Rattle.index_machine.specs.Rows.{emptied}
use Rattle.index_machine.specs.Forms.{Form, Blank, Unlocked, Locked, Copied, Redirect, Moved}
use Rattle.index_machine.specs.Forms.{with_lock, with_value, without_lock, made_direct, copied_away}
use Rattle.index_machine.specs.Forms.{put_value, state_word, HasValueWord, IsUnlocked}
use Rattle.index_machine.specs.Groups.{name_used_again}
use Rattle.index_machine.specs.RecordConditions.{IsChangeTo}
use Rattle.index_machine.specs.Represents.{is_opened_to}
use Rattle.index_machine.proofs.Executions.{choice-same, choice-other}
use Rattle.index_machine.proofs.Options.{none_some}

-- ---- choices ----

pub other : (b : Bool) (value n : ℕ) → cond (b && false) value n ≡ n
other true value n = refl
other false value n = refl

pub pick : (b : Bool) (g n m : ℕ) → n ≡ m → cond b g n ≡ cond b g m
pick true g n m e = refl
pick false g n m e = e

-- ---- forms and their words ----

pub lock_word : (v : ℕ) (r : Bool) →
    word_of_state (state.Direct v false r) + 4 ≡ word_of_state (state.Direct v true r)
lock_word v true = omega arith
lock_word v false = omega arith

pub locked_word : (hand : ℕ) (f : Form) → IsUnlocked f →
    state_word f + 4 ≡ state_word (with_lock hand f)
locked_word hand f is =
    ap (λ (y : Form). state_word y + 4) is.3 ∙ (lock_word is.0 is.1
    ∙ ap (λ (y : Form). state_word (with_lock hand y)) (sym is.3))

pub lock_value : (hand : ℕ) (f : Form) (n : ℕ) → HasValueWord f n →
    HasValueWord (with_lock hand f) n
lock_value hand Blank n h = h
lock_value hand (Unlocked v r x) n h = h
lock_value hand (Locked c v r x y) n h = h
lock_value hand (Copied v r x) n h = h
lock_value hand (Redirect p y) n h = h
lock_value hand Moved n h = h

pub value_word_kept : (y : ℕ) (f : Form) → state_word (with_value y f) ≡ state_word f
value_word_kept y Blank = refl
value_word_kept y (Unlocked v r x) = refl
value_word_kept y (Locked c v r x z) = refl
value_word_kept y (Copied v r x) = refl
value_word_kept y (Redirect p z) = refl
value_word_kept y Moved = refl

pub unlock_value : (r : Bool) (f : Form) (n : ℕ) → HasValueWord f n →
    HasValueWord (without_lock r f) n
unlock_value r Blank n h = h
unlock_value r (Unlocked v s x) n h = h
unlock_value r (Locked c v s x y) n h = h
unlock_value r (Copied v s x) n h = h
unlock_value r (Redirect p y) n h = h
unlock_value r Moved n h = h

pub copied_word : (f : Form) → state_word (copied_away f) ≡ state_word f
copied_word Blank = refl
copied_word (Unlocked v s x) = refl
copied_word (Locked c v s x y) = refl
copied_word (Copied v s x) = refl
copied_word (Redirect p y) = refl
copied_word Moved = refl

pub copied_value : (f : Form) (n : ℕ) → HasValueWord f n → HasValueWord (copied_away f) n
copied_value Blank n h = h
copied_value (Unlocked v s x) n h = h
copied_value (Locked c v s x y) n h = h
copied_value (Copied v s x) n h = h
copied_value (Redirect p y) n h = h
copied_value Moved n h = h

pub direct_value : (first : ℕ) (r : Bool) (f : Form) (n : ℕ) → HasValueWord f n →
    HasValueWord (made_direct first r f) n
direct_value first r Blank n h = h
direct_value first r (Unlocked v s x) n h = h
direct_value first r (Locked c v s x y) n h = h
direct_value first r (Copied v s x) n h = h
direct_value first r (Redirect p y) n h = h
direct_value first r Moved n h = h

-- a value word at one place
pub value_if : (b : Bool) (f g : Form) (n : ℕ) → HasValueWord f n → HasValueWord g n →
    HasValueWord (cond b f g) n
value_if true f g n h k = h
value_if false f g n h k = k

pub value_set : (q p y n : ℕ) (f g : Form) → (q ≡ p → HasValueWord f y) → HasValueWord g n →
    HasValueWord (cond (q == p) f g) (cond ((q == p) && true) y n)
value_set q p y n f g new old =
    dite (ℕ_discrete q p)
    (λ (z : q ≡ p). subst (λ (b : Bool). HasValueWord (cond b f g) (cond (b && true) y n))
    (sym (test q p z)) (new z))
    (λ (m : q ≢ p). subst (λ (b : Bool). HasValueWord (cond b f g) (cond (b && true) y n))
    (sym (no_test q p m)) old)
  where
    test : (q p : ℕ) → q ≡ p → (q == p) ≡ true
    test q p z = eq-eqb q p z

    no_test : (q p : ℕ) → q ≢ p → (q == p) ≡ false
    no_test q p m = ne_eqb q p m

pub state_if : (b : Bool) (n : ℕ) (f g : Form) → n ≡ state_word f → n ≡ state_word g →
    n ≡ state_word (cond b f g)
state_if true n f g h k = h
state_if false n f g h k = k

-- ---- phases ----

pub phase_set : (b st : Bool) (value n : ℕ) (x y : Phase) → value ≡ word_of_phase x →
    (st ≡ false → n ≡ word_of_phase y) → cond b false st ≡ false →
    cond (b && true) value n ≡ word_of_phase (cond b x y)
phase_set true st value n x y new old fresh = new
phase_set false st value n x y new old fresh = old fresh

pub used_again_same : (g : ℕ) (x : Phase) → is_opened_to g x ≡ false → name_used_again g x ≡ x
used_again_same g Open e = refl
used_again_same g Frozen e = refl
used_again_same g (Opened f) e = ap (λ (b : Bool). cond b Open (Opened f)) e

pub key_emptied : (g : ℕ) (r : Role) (k : ℕ) → role_key (emptied g r) ≡ Some k → role_key r ≡ Some k
key_emptied g Unused k e = e
key_emptied g (HeldBy c) k e = e
key_emptied g (InBuffer h j) k e = e
key_emptied g (InArray h j) k e = go (h == g) e
  where
    go : (b : Bool) → role_key (cond b Unused (InArray h j)) ≡ Some k → Some j ≡ Some k
    go true e = none_some e
    go false e = e

-- a choice at one place
pub state_pick : (q p n : ℕ) (f g : Form) → (q ≡ p → n ≡ state_word f) →
    (q ≢ p → n ≡ state_word g) →
    n ≡ state_word (cond (q == p) f g)
state_pick q p n f g new old =
    dite (ℕ_discrete q p)
    (λ (z : q ≡ p). new z ∙ ap state_word (sym (choice-same q p f g z)))
    (λ (m : q ≢ p). old m ∙ ap state_word (sym (choice-other q p f g m)))

pub state_store : (q p y n : ℕ) (f g : Form) → (q ≡ p → y ≡ state_word f) →
    (q ≢ p → n ≡ state_word g) →
    cond ((q == p) && true) y n ≡ state_word (cond (q == p) f g)
state_store q p y n f g new old =
    dite (ℕ_discrete q p)
    (λ (z : q ≡ p).
    subst (λ (b : Bool). cond (b && true) y n ≡ state_word (cond b f g))
    (sym (eq-eqb q p z)) (new z))
    (λ (m : q ≢ p).
    subst (λ (b : Bool). cond (b && true) y n ≡ state_word (cond b f g))
    (sym (ne_eqb q p m)) (old m))

pub value_pick : (q p n : ℕ) (f g : Form) → (q ≡ p → HasValueWord f n) →
    (q ≢ p → HasValueWord g n) → HasValueWord (cond (q == p) f g) n
value_pick q p n f g new old =
    dite (ℕ_discrete q p)
    (λ (z : q ≡ p). subst (λ (h : Form). HasValueWord h n) (sym (choice-same q p f g z)) (new z))
    (λ (m : q ≢ p). subst (λ (h : Form). HasValueWord h n) (sym (choice-other q p f g m)) (old m))

pub some-is : {a b : ℕ} → Some a ≡ Some b → a ≡ b
some-is e = cc

pub kept_key : (q p : ℕ) (u r : Role) (k : ℕ) → q ≢ p → role_key (cond (q == p) u r) ≡ Some k →
    role_key r ≡ Some k
kept_key q p u r k m e = ap role_key (sym (choice-other q p u r m)) ∙ e

pub key_pick : (q p : ℕ) (u r : Role) (k j : ℕ) → role_key u ≡ Some k →
    role_key (cond (q == p) u r) ≡ Some j →
    ((q ≡ p) × (k ≡ j)) ⊎ ((q ≢ p) × (role_key r ≡ Some j))
key_pick q p u r k j is e =
    dite (ℕ_discrete q p)
    (λ (z : q ≡ p).
    inl (z, some-is (sym is ∙ (ap role_key (sym (choice-same q p u r z)) ∙ e))))
    (λ (m : q ≢ p). inr (m, ap role_key (sym (choice-other q p u r m)) ∙ e))

-- a place that is nobody's is no place with a key
pub unused_key : (o : Opening) (t : Execution) (q place k : ℕ) → role o q t ≡ Unused →
    role_key (role o place t) ≡ Some k → q ≢ place
unused_key o t q place k free keyed e =
    none_some (sym (ap role_key free) ∙ ap (λ (p : ℕ). role_key (role o p t)) e ∙ keyed)

pub stale_set : (b st : Bool) (value n m : ℕ) → (st ≡ false → n ≡ m) → cond b true st ≡ false →
    cond (b && true) value n ≡ m
stale_set true st value n m old fresh = let bad = fresh in cc
stale_set false st value n m old fresh = old fresh

pub stale_not : (b st : Bool) → cond b true st ≡ false → (b ≡ false) × (st ≡ false)
stale_not true st e = let bad = e in cc
stale_not false st e = (refl, e)

pub begun_phase : (g group low n : ℕ) (x : Phase) (st : Bool) →
    (g ≡ group → n ≡ word_of_phase Open) → (st ≡ false → n ≡ word_of_phase x) →
    cond (g == group) false (cond (is_opened_to g x) true st) ≡ false →
    cond ((g == group) && false) low n
    ≡ word_of_phase (cond (g == group) Open (name_used_again g x))
begun_phase g group low n x st new old fresh =
    other (g == group) low n
    ∙ dite (ℕ_discrete g group)
    (λ (z : g ≡ group).
    new z ∙ ap word_of_phase (sym (choice-same g group Open (name_used_again g x) z)))
    (λ (m : g ≢ group).
    let f = stale_not (is_opened_to g x) st
    (sym (choice-other g group false (cond (is_opened_to g x) true st) m) ∙ fresh) in
    old f.1
    ∙ ap word_of_phase
    (sym (choice-other g group Open (name_used_again g x) m ∙ used_again_same g x f.0)))

-- the value of a put
pub put_is : (c y : ℕ) (d : Change) → IsChangeTo c false false y d → put_value d ≡ y
put_is c y (change.Put b k v) m = m.2
put_is c y (change.Remove b k) m = let bad = m.1 in cc
