-- What a caller knows of a record after one step of its own, whatever the others did before it.
use Rattle.std.proofs.Common.{◌≡◌, ◌≢◌, ℕ, ◌+◌, Bool, true, ◌∷◌, ◌++◌, refl, sym, ap}
use Rattle.std.proofs.Common.{◌∙◌, subst}
use mathlib.Core.Logic.{dite}
use native.Mathlib.Decide.{ℕ_discrete}
use Rattle.word_layout.specs.declared.state.State.{State}
use Rattle.word_layout.specs.State.{IsUnlockedWord, word_of_state}
use Rattle.map_model.specs.declared.entries.Change.{Change}
use Rattle.index_machine.specs.declared.events.Action.{Action}
use Rattle.index_machine.specs.declared.events.Action.TheVariants.{LoadState, LoadValue, Lock}
use Rattle.index_machine.specs.declared.events.Action.TheVariants.{StoreValue, Unlock}
use Rattle.index_machine.specs.Execution.{Execution, event}
use Rattle.index_machine.specs.Sections.{IsReading, IsNoCrossing, StaysInside}
use Rattle.index_machine.specs.Rows.{role}
use Rattle.index_machine.specs.Forms.{Form, Unlocked, Locked, HasValueWord, IsLockedBy}
use Rattle.index_machine.specs.Forms.{form_after, with_lock, with_value, without_lock}
use Rattle.index_machine.specs.Places.{first_version, form}
use Rattle.index_machine.specs.Reaching.{stands_in, reached}
use Rattle.index_machine.specs.RecordConditions.{HoldsNoLock, IsAt}
use Rattle.index_machine.specs.Conditions.{Valid}
use Rattle.index_machine.proofs.Executions.{choice-other, choice-same}
use Rattle.index_machine.proofs.Holders.{TakesLock}
use Rattle.machine_readers.proofs.FormsMet.{not_blank}
use Rattle.machine_readers.proofs.Reached.{reached_on}
use Rattle.machine_readers.proofs.ReadSections.{stands_in_on}
use Rattle.index_rule.specs.declared.board.Board.{Board}
use Rattle.index_rule.specs.declared.hand.Hand.{Hand}
use Rattle.index_rule.specs.Hands.{IsHandOf, Makes, known, opening_of}
use Rattle.index_rule.specs.Records.{HoldsNoOther}
use Rattle.index_rule.proofs.LockWords.{locked_before, locked_before_on, locked_on}
use Rattle.index_rule.proofs.Standing.{at_keyed, at_on, at_role, reading_on}
use Rattle.index_rule.proofs.Standing.{stays_inside}
use Rattle.index_rule.proofs.StateForms.{IsFormOf, form_by_word, unlocked_by_word}
use Rattle.index_rule.proofs.Stepping.{known_is, others_only, valid_after}

-- the action changes the form of no place
abbrev pub KeepsForms : Action → Type 0
KeepsForms action = (first place hand : ℕ) (f : Form) → form_after first place hand action f ≡ f

module _ (b : Board) (h k : Hand) (action : Action) (of : IsHandOf b h)
    (m : Makes b h action k) where
  -- what happened up to the step
  abbrev pub moment : Execution
  moment = m.acts.0 ++ known h

  -- what happened since, the step included
  abbrev pub since : Execution
  since = event h.number action ∷ m.acts.0

  -- a fact of a hand and of an execution holds of the hand after the step
  pub now : (P : ℕ → Execution → Type 0) → P h.number (since ++ known h) → P k.number (known k)
  now P p =
      subst (λ (z : ℕ × Execution). P z.0 z.1)
      (λ i. (sym m.number i, sym (known_is b h k action of m) i)) p

  pub valid_moment : Valid (opening_of b) moment
  valid_moment = (valid_after b h k action of m).1

  -- ---- where the caller stands ----

  pub goes_on_inside : IsNoCrossing action → StaysInside h.number since
  goes_on_inside none = ((λ _. none), stays_inside h.number m.acts.0 (others_only b h k action of m))

  pub still_inside : IsNoCrossing action → IsReading (opening_of b) h.number (known h) →
      IsReading (opening_of b) k.number (known k)
  still_inside none reading =
      now (IsReading (opening_of b))
      (reading_on (opening_of b) h.number since (known h) (goes_on_inside none) reading)

  pub still_at : IsNoCrossing action → (p : ℕ) → IsAt (opening_of b) h.number p (known h) →
      IsAt (opening_of b) k.number p (known k)
  still_at none p at =
      now (λ z t. IsAt (opening_of b) z p t)
      (at_on (opening_of b) h.number p since (known h) (valid_after b h k action of m)
      (goes_on_inside none) at)

  pub still_stands : IsNoCrossing action → (g : ℕ) → stands_in h.number g (known h) ≡ true →
      stands_in k.number g (known k) ≡ true
  still_stands none g s =
      now (λ z t. stands_in z g t ≡ true)
      (stands_in_on h.number g since (known h) (goes_on_inside none) s)

  pub still_reached : IsNoCrossing action → (p : ℕ) → reached h.number p (known h) ≡ true →
      reached k.number p (known k) ≡ true
  still_reached none p r =
      now (λ z t. reached z p t ≡ true)
      (reached_on h.number p since (known h) (goes_on_inside none) r)

  -- the place keeps its role, so its key
  pub same_role : IsNoCrossing action → (p : ℕ) → IsAt (opening_of b) h.number p (known h) →
      role (opening_of b) p (known k) ≡ role (opening_of b) p (known h)
  same_role none p at =
      ap (role (opening_of b) p) (known_is b h k action of m)
      ∙ at_role (opening_of b) h.number p since (known h) (valid_after b h k action of m)
      (goes_on_inside none) at

  -- it stood there at the moment of the step
  pub at_moment : (p : ℕ) → IsAt (opening_of b) h.number p (known h) →
      IsAt (opening_of b) h.number p moment
  at_moment p at =
      at_on (opening_of b) h.number p m.acts.0 (known h) valid_moment
      (stays_inside h.number m.acts.0 (others_only b h k action of m)) at

  -- ---- the lock that it holds ----

  -- at the moment of the step the lock was as it left it
  pub locked_moment : (p : ℕ) → IsAt (opening_of b) h.number p (known h) →
      (v x y : ℕ) (r : Bool) → form (opening_of b) p (known h) ≡ Locked h.number v r x y →
      form (opening_of b) p moment ≡ Locked h.number v r x y
  locked_moment p at v x y r e =
      locked_on (opening_of b) h.number p m.acts.0 (known h) valid_moment
      (others_only b h k action of m) at v x y r e

  -- the form after the step
  form_now : (p : ℕ) → form (opening_of b) p (known k)
      ≡ form_after (first_version (opening_of b)) p h.number action (form (opening_of b) p moment)
  form_now p = ap (form (opening_of b) p) (known_is b h k action of m)

  -- a load leaves it
  pub still_locked : KeepsForms action → (p : ℕ) → IsAt (opening_of b) h.number p (known h) →
      (v x y : ℕ) (r : Bool) → form (opening_of b) p (known h) ≡ Locked h.number v r x y →
      form (opening_of b) p (known k) ≡ Locked k.number v r x y
  still_locked keeps p at v x y r e =
      form_now p
      ∙ (keeps (first_version (opening_of b)) p h.number (form (opening_of b) p moment)
      ∙ (locked_moment p at v x y r e ∙ ap (λ (z : ℕ). Locked z v r x y) (sym m.number)))

  -- and it holds no lock that it did not hold before
  pub still_no_other : (TakesLock action → ⊥) → (p : ℕ) →
      HoldsNoOther (opening_of b) h.number p (known h) →
      HoldsNoOther (opening_of b) k.number p (known k)
  still_no_other none p only =
      now (λ z t. HoldsNoOther (opening_of b) z p t) (λ q apart locked.
      only q apart (locked_before_on (opening_of b) h.number q m.acts.0 (known h)
      (others_only b h k action of m)
      (locked_before (opening_of b) h.number q h.number action moment (λ z. absurd (none z)) locked)))

-- ---- loads of a record ----

-- what a loaded state word says of the place at the moment of the load, and by what the hand knows
-- since
pub state_found : (b : Board) (h k : Hand) (p found : ℕ) (of : IsHandOf b h)
    (m : Makes b h (LoadState p found) k) → IsAt (opening_of b) h.number p (known h) →
    (s : State) → word_of_state s ≡ found → IsFormOf s (form (opening_of b) p (m.acts.0 ++ known h))
state_found b h k p found of m at s e =
    let o = opening_of b in
    let valid = valid_after b h k (LoadState p found) of m in
    let there = at_moment b h k (LoadState p found) of m p at in
    let keyed = at_keyed o h.number p (m.acts.0 ++ known h) valid.1 there in
    form_by_word s (form o p (m.acts.0 ++ known h))
    (not_blank o (m.acts.0 ++ known h) valid.1 p keyed.0 keyed.1) (valid.0.says ∙ sym e)

-- what a loaded value word says
pub value_found : (b : Board) (h k : Hand) (p found : ℕ) (of : IsHandOf b h)
    (m : Makes b h (LoadValue p found) k) →
    HasValueWord (form (opening_of b) p (m.acts.0 ++ known h)) found
value_found b h k p found of m = (valid_after b h k (LoadValue p found) of m).0.says

-- ---- changes of a record ----

-- the exchanged word says what was locked
pub locked_after_lock : (b : Board) (h k : Hand) (p e v : ℕ) (r : Bool) (of : IsHandOf b h)
    (m : Makes b h (Lock p e) k) → IsUnlockedWord v r e →
    (x : ℕ) × (form (opening_of b) p (m.acts.0 ++ known h) ≡ Unlocked v r x)
    × (form (opening_of b) p (known k) ≡ Locked k.number v r x x)
locked_after_lock b h k p e v r of m is =
    let o = opening_of b in
    let t = m.acts.0 ++ known h in
    let valid = valid_after b h k (Lock p e) of m in
    let may = valid.0 in
    let was = unlocked_by_word (form o p t) v r
    (not_blank o t valid.1 p may.keyed.0 may.keyed.1) (may.found_word ∙ is.is) in (
      was.0,
      was.1,
      ap (form o p) (known_is b h k (Lock p e) of m)
          ∙ (choice-same p p (with_lock h.number (form o p t)) (form o p t) refl
          ∙ (ap (with_lock h.number) was.1
          ∙ ap (λ (z : ℕ). Locked z v r was.0 was.0) (sym m.number))),
    )

-- the caller holds that lock and no other
pub no_other_after_lock : (b : Board) (h k : Hand) (p e : ℕ) (of : IsHandOf b h)
    (m : Makes b h (Lock p e) k) → HoldsNoOther (opening_of b) k.number p (known k)
no_other_after_lock b h k p e of m =
    let o = opening_of b in
    let t = m.acts.0 ++ known h in
    let may = (valid_after b h k (Lock p e) of m).0 in
    now b h k (Lock p e) of m (λ z u. HoldsNoOther o z p u) (λ q apart locked.
    may.holds_none q
    (subst (IsLockedBy h.number)
    (choice-other p q (with_lock h.number (form o q t)) (form o q t) apart) locked))

-- the value that was stored stands in the locked place
pub locked_after_store : (b : Board) (h k : Hand) (p y : ℕ) (of : IsHandOf b h)
    (m : Makes b h (StoreValue p y) k) → IsAt (opening_of b) h.number p (known h) →
    (v x z : ℕ) (r : Bool) → form (opening_of b) p (known h) ≡ Locked h.number v r x z →
    form (opening_of b) p (known k) ≡ Locked k.number v r x y
locked_after_store b h k p y of m at v x z r e =
    let o = opening_of b in
    let t = m.acts.0 ++ known h in
    ap (form o p) (known_is b h k (StoreValue p y) of m)
    ∙ (choice-same p p (with_value y (form o p t)) (form o p t) refl
    ∙ (ap (with_value y) (locked_moment b h k (StoreValue p y) of m p at v x z r e)
    ∙ ap (λ (n : ℕ). Locked n v r x y) (sym m.number)))

-- and the caller holds no lock
pub no_lock_after_unlock : (b : Board) (h k : Hand) (p stored : ℕ) (removed : Bool) (d : Change) →
    IsHandOf b h → Makes b h (Unlock p removed d stored) k →
    HoldsNoOther (opening_of b) h.number p (known h) →
    HoldsNoLock (opening_of b) k.number (known k)
no_lock_after_unlock b h k p stored removed d of m only q =
    let o = opening_of b in
    let t = m.acts.0 ++ known h in
    let may = (valid_after b h k (Unlock p removed d stored) of m).0.1 in
    dite (ℕ_discrete p q)
    (λ (here : p ≡ q). now b h k (Unlock p removed d stored) of m
    (λ z u. IsLockedBy z (form o q u) → ⊥) (λ locked.
    let f : form o q t ≡ Locked h.number may.version may.was may.before may.value =
    ap (λ (z : ℕ). form o z t) (sym here) ∙ may.holds
    in
    let bad : Unlocked (may.version + 1) removed may.value
    ≡ Locked h.number locked.0 locked.1 locked.2 locked.3 =
    ap (without_lock removed) (sym f)
    ∙ (sym (choice-same p q (without_lock removed (form o q t)) (form o q t) here) ∙ locked.4)
    in
    cc))
    (λ (apart : p ≢ q).
    still_no_other b h k (Unlock p removed d stored) of m (λ z. absurd z) p only q apart)
