-- The steps on a record meet their conditions.
use Rattle.std.proofs.Common.{◌≡◌, ◌≢◌, ℕ, ◌+◌, ◌<◌, ◌==◌, inl, inr, ⊎_elim, Bool, true}
use Rattle.std.proofs.Common.{false, cond, Some, None, [], ◌∷◌, ◌++◌, refl, sym, ap, ◌∙◌, subst, arith, eq-eqb, ne_eqb, ◌%◌, ◌^◌}
use prog.Atomic.{either}
use Rattle.std.proofs.Math.Logic.{∥∥₁_elim}
use Rattle.std.proofs.Props.{props}
use Rattle.std.proofs.lemmas.Grind.{merely}
use Rattle.atomic_table.specs.Table.{Me, Allows}
use Rattle.word_layout.specs.declared.places.Part.TheVariants.{Key, State, Value}
use Rattle.word_layout.specs.declared.state.State.TheVariants as state
use Rattle.word_layout.specs.State.{IsLockable, IsUnlockedWord, word_of_state}
use Rattle.word_layout.specs.Places.{IsPlace}
use Rattle.word_layout.specs.Words.{IsWord, PlaceWord, Word, address_of}
use Rattle.word_layout.specs.Limits.{word_count}
use Rattle.word_layout.specs.Shape.{Shape}
use Rattle.word_layout.proofs.WordNames.{address_of-within, stand_apart}
use Rattle.index_machine.specs.declared.events.Action.TheVariants.{LoadKey, LoadState, LoadValue, Lock}
use Rattle.index_machine.specs.declared.events.Action.TheVariants.{FailLock, StoreValue, Unlock}
use Rattle.index_machine.specs.declared.events.Action.{Action}
use Rattle.map_model.specs.Map.{key_of}
use Rattle.index_machine.specs.declared.opening.Opening.{Opening}
use Rattle.index_machine.specs.Execution.{Execution, Without}
use Rattle.index_machine.specs.Words.{shape, store, word}
use Rattle.index_machine.specs.Sections.{IsCaller, IsReading}
use Rattle.index_machine.specs.Rows.{InBuffer, role, role_key}
use Rattle.index_machine.specs.Forms.{Form, Locked}
use Rattle.index_machine.specs.Forms.{IsLockedBy, is_removed, state_word}
use Rattle.index_machine.specs.Forms.{without_lock}
use Rattle.index_machine.specs.Places.{form}
use Rattle.index_machine.specs.Reaching.{reached}
use Rattle.index_machine.specs.Permissions.{IsBufferFor, MayInsertInto}
use Rattle.index_machine.specs.LivePlaces.{live_place}
use Rattle.index_machine.specs.RecordConditions.{HasKey, HoldsNoLock, IsAt, IsInArrayOf, KeepsPlace, MayLookAt}
use Rattle.index_machine.specs.RecordConditions.{MayFailLock, MayLoadKey, MayLoadState, MayLoadValue, MayLock}
use Rattle.index_machine.specs.RecordConditions.{IsChangeTo, MayUnlock}
use Rattle.index_machine.specs.Conditions.{Valid}
use Rattle.index_machine.proofs.Executions.{valid_before}
use Rattle.index_machine.proofs.Holders.{holds_no_lock_on}
use Rattle.index_machine.proofs.RepresentingAll.{represented}
use Rattle.machine_readers.proofs.FormsMet.{not_blank, reached_forms}
use Rattle.index_rule.specs.declared.board.Board.{Board}
use Rattle.index_rule.specs.declared.hand.Hand.{Hand}
use Rattle.index_rule.specs.declared.view.View.{View}
use Rattle.index_rule.specs.Hands.{IsHandOf, known, opening_of}
use Rattle.index_rule.specs.Records.{IsRevivable, Revives, key_at}
use Rattle.index_rule.specs.Records.{CanSee, MayRelease, change_by, or_zero, unlocked_word}
use Rattle.index_rule.specs.Records.{value_of}
use Rattle.index_rule.specs.Offsets.{offset_of_word}
use Rattle.index_rule.specs.Rule.{Kept, Does, first_of, word_in}
use Rattle.index_rule.specs.Steps.{says_removed, unlock_known, unlock_store}
use Rattle.index_rule.specs.Steps.{key_load, lock_failed, lock_made, state_load, value_load}
use Rattle.index_rule.specs.Steps.{value_store}
use Rattle.index_rule.proofs.LockWords.{locked_on}
use Rattle.index_rule.proofs.StateForms.{forwards_by_word, unlocked_by_word}
use Rattle.index_rule.proofs.StepKinds.{Tells, by_name, exchanges, loads, stores}
use Rattle.index_rule.proofs.Standing.{at_keyed, at_on, at_role, kept_keyed, kept_on, kept_place, keyed_place}
use Rattle.index_rule.proofs.Standing.{stays_inside}

-- ---- conditions, whatever others did ----

-- what can be seen has a key
seen_keyed : (o : Opening) (c p : ℕ) (t : Execution) → Valid o t → CanSee o c p t → HasKey o p t
seen_keyed o c p t valid can =
    ⊎_elim (λ (at : IsAt o c p t). at_keyed o c p t valid at)
    (λ (keeps : KeepsPlace o t c p). kept_keyed o c p t keeps) can

-- and is a place of the table
seen_place : (o : Opening) (c p : ℕ) (t : Execution) → Valid o t → CanSee o c p t →
    IsPlace (shape o) p
seen_place o c p t valid can = keyed_place o t valid p (seen_keyed o c p t valid can)

seen_on : (o : Opening) (c p : ℕ) (n t : Execution) → Valid o (n ++ t) → Without c n →
    CanSee o c p t → CanSee o c p (n ++ t)
seen_on o c p n t valid out can =
    ⊎_elim (λ (at : IsAt o c p t). inl (at_on o c p n t valid (stays_inside c n out) at))
    (λ (keeps : KeepsPlace o t c p). inr (kept_on o c p n t valid out keeps)) can

look : (o : Opening) (c p : ℕ) (t : Execution) → Valid o t → CanSee o c p t → MayLookAt o c p t
look o c p t valid can =
    ⊎_elim (λ (at : IsAt o c p t). inl at)
    (λ (keeps : KeepsPlace o t c p). inr (kept_place o c p t valid keeps)) can

-- a redirect is met in an array alone
follows : (o : Opening) (c p to : ℕ) (t : Execution) → Valid o t → IsCaller o c → CanSee o c p t →
    state_word (form o p t) ≡ word_of_state (state.Redirect to) →
    IsReading o c t × IsInArrayOf o c p t
follows o c p to t valid caller can e =
    ⊎_elim
    (λ (at : IsAt o c p t). (
      at.reading,
      ⊎_elim (λ (z : IsInArrayOf o c p t). z)
          (λ (z : reached c p t ≡ true).
          let f = forwards_by_word (form o p t) to e in
          absurd ((reached_forms o t valid c p caller z).0 to f.0 f.1)) at.there,
    ))
    (λ (keeps : KeepsPlace o t c p). absurd (let keeper = keeps.3 in omega arith)) can

may_load_state : (o : Opening) (c p : ℕ) (t : Execution) → Valid o t → CanSee o c p t →
    MayLoadState o c p (word o t (PlaceWord p State)) t
may_load_state o c p t valid can =
    let says = sym ((represented o t valid).states p (seen_keyed o c p t valid can)) in
    record {
      allowed = look o c p t valid can;
      found_word = refl;
      says = says;
      follows = λ caller to e. follows o c p to t valid caller can (says ∙ e);
    }

may_load_value : (o : Opening) (c p : ℕ) (t : Execution) → Valid o t → CanSee o c p t →
    MayLoadValue o c p (word o t (PlaceWord p Value)) t
may_load_value o c p t valid can =
    record {
      allowed = look o c p t valid can;
      found_word = refl;
      says = (represented o t valid).values p (seen_keyed o c p t valid can);
    }

may_load_key : (o : Opening) (c p : ℕ) (t : Execution) → Valid o t → CanSee o c p t →
    MayLoadKey o c p (word o t (PlaceWord p Key)) t
may_load_key o c p t valid can =
    let keyed = seen_keyed o c p t valid can in
    record {
      allowed = look o c p t valid can;
      found_word = refl;
      says = keyed.1 ∙ ap Some (sym ((represented o t valid).keys p keyed.0 keyed.1));
    }

may_lock : (o : Opening) (c p expected : ℕ) (t : Execution) → Valid o t → IsAt o c p t →
    HoldsNoLock o c t → IsLockable expected → word o t (PlaceWord p State) ≡ expected →
    MayLock o c p expected t
may_lock o c p expected t valid at none can hit =
    let keyed = at_keyed o c p t valid at in
    let says = sym ((represented o t valid).states p keyed) ∙ hit in
    let f = unlocked_by_word (form o p t) can.0 can.1 (not_blank o t valid p keyed.0 keyed.1)
    (says ∙ can.2.is) in
    record {
      reading = at.reading;
      there = at;
      keyed = keyed;
      holds_none = none;
      version = can.0;
      removed = can.1;
      value = f.0;
      unlocked = f.1;
      raisable = can.2.raisable;
      found_word = says;
    }

may_fail_lock : (o : Opening) (c p expected : ℕ) (t : Execution) → Valid o t → IsAt o c p t →
    expected ≢ word o t (PlaceWord p State) →
    MayFailLock o c p expected (word o t (PlaceWord p State)) t
may_fail_lock o c p expected t valid at ne =
    record {
      allowed = inl at;
      found_word = refl;
      says = sym ((represented o t valid).states p (at_keyed o c p t valid at));
      differs = ne;
    }

-- ---- the words of a place ----

-- the place that a word is of, from 1 on, or 0
abbrev place_number : Word → ℕ
place_number (PlaceWord p part) = p + 1
place_number _ = 0

-- a place of the table is one however this is known
place_named : (s : Shape) (p : ℕ) → ∥ IsPlace s p ∥₁ → (w : Word) → IsWord s w →
    address_of s w ≡ p → IsPlace s p
place_named s p some w is at = go w is (∥∥₁_elim some (hlevel props) (λ there.
    ap place_number ((stand_apart s).apart w (PlaceWord p Key) is there (at ∙ omega arith))))
  where
    go : (w : Word) → IsWord s w → place_number w ≡ p + 1 → IsPlace s p
    go (PlaceWord q part) is e = subst (IsPlace s) (omega arith) is
    go _ is e = absurd (omega arith)

-- a place that the hand can see is one of the table
pub seen_by_hand : (b : Board) (h : Hand) (p : ℕ) → IsHandOf b h →
    CanSee (opening_of b) h.number p (known h) → IsPlace (shape (opening_of b)) p
seen_by_hand b h p of can =
    let s = shape (opening_of b) in
    let some : ∥ IsPlace s p ∥₁ = ∥∥₁_elim (h.following (opening_of b) of.opened) (hlevel props)
    (λ follows. merely (seen_place (opening_of b) h.number p (known h) follows.valid can)) in
    let below : p < word_count s = ∥∥₁_elim some (hlevel props)
    (λ there. let z = address_of-within s (PlaceWord p Key) there in omega arith) in
    let w = (stand_apart s).named p below in
    place_named s p some w.0 w.1 w.2

-- and small enough for the addresses of its words
pub place_below : (o : Opening) (p : ℕ) → IsPlace (shape o) p → p < 2 ^ 28
place_below o p there =
    let z = address_of-within (shape o) (PlaceWord p Key) there in
    let most = o.layout.kept.most_words in
    omega arith

-- ---- unlocking ----

-- the unlocked word says whether the record is removed
pub says_unlocked : (f : Form) (c : ℕ) (removed : Bool) (word : ℕ) → IsLockedBy c f →
    word ≡ state_word (without_lock removed f) → says_removed word ≡ removed
says_unlocked f c removed word held e =
    says removed word held.0 (e ∙ ap (λ (z : Form). state_word (without_lock removed z)) held.4)
  where
    says : (r : Bool) (n v : ℕ) → n ≡ word_of_state (state.Direct (v + 1) false r) →
        says_removed n ≡ r
    says true n v is = eq-eqb (n % 16) 8 (omega arith)
    says false n v is = ne_eqb (n % 16) 8 (omega arith)

-- what may come to life has the key that the hand knows
revives_as : (o : Opening) (c p k : ℕ) (t : Execution) → key_at o p t ≡ k → IsRevivable o c p t →
    (group : ℕ) × (role o p t ≡ InBuffer group k) × MayInsertInto c group t
    × IsBufferFor o k group t × (live_place o k t ≡ None)
revives_as o c p k t same can =
    subst (λ (z : ℕ). (group : ℕ) × (role o p t ≡ InBuffer group z) × MayInsertInto c group t
    × IsBufferFor o z group t × (live_place o z t ≡ None)) same can

-- what the hand may change by its unlock
may_unlock : (o : Opening) (c p : ℕ) (removed : Bool) (u newer : Execution)
    (may : MayRelease o c p removed u) → let held = may.holds.locked in let t = newer ++ u in
    Valid o t → Without c newer → form o p t ≡ Locked c held.0 held.1 held.2 held.3 →
    HasKey o p u → role o p t ≡ role o p u → MayUnlock o t c p removed (change_by o c p removed u)
may_unlock o c p removed u newer may valid out now keyed same =
    record {
      version = may.holds.locked.0;
      was = may.holds.locked.1;
      before = may.holds.locked.2;
      value = may.holds.locked.3;
      holds = now;
      keyed = ap role_key same ∙ (keyed.1 ∙ ap (λ (z : ℕ). Some z) (key removed));
      makes = makes removed refl;
      revives = λ gone. ⊎_elim
          (λ (live : is_removed (form o p u) ≡ false).
          let bad : true ≡ false = sym gone ∙ was_live live in cc)
          (λ (revives : Revives o c p removed u).
          revives_as o c p (key_of (change_by o c p removed u)) (newer ++ u)
          (ap (λ z. or_zero (role_key z)) same ∙ (ap or_zero keyed.1 ∙ key removed))
          (revives.revivable newer valid out)) may.live;
    }
  where
    was_live : is_removed (form o p u) ≡ false → may.holds.locked.1 ≡ false
    was_live live = sym (ap is_removed may.holds.locked.4) ∙ live

    key : (r : Bool) → keyed.0 ≡ key_of (change_by o c p r u)
    key true = sym (ap or_zero keyed.1)
    key false = sym (ap or_zero keyed.1)

    makes : (r : Bool) → removed ≡ r →
        IsChangeTo c may.holds.locked.1 r may.holds.locked.3 (change_by o c p r u)
    makes true e = (
      refl,
      refl,
      ⊎_elim was_live
          (λ (revives : Revives o c p removed u).
          let bad : true ≡ false = sym e ∙ revives.kept in cc) may.live,
    )
    makes false e = (refl, refl, ap value_of may.holds.locked.4)

-- the action by which the store of an unlocked word is told
pub unlock_is : (o : Opening) (v : View) (c p word : ℕ) (removed : Bool) → v.numbers ≡ c ∷ [] →
    v.opening ≡ Some o → says_removed word ≡ removed →
    unlock_store v (PlaceWord p State) word
    ≡ Unlock p removed (change_by o c p removed v.known) word
unlock_is o v c p word removed is live says =
    ap (λ z. unlock_known z v p word) live
    ∙ ap (λ (z : ℕ × Bool). Unlock p z.1 (change_by o z.0 p z.1 v.known) word)
    (λ i. (ap first_of is i, says i))

-- ---- the steps ----

module _ (o : Opening) (slots id : ℕ) (me : Me (Unit {0}) View) (c : ℕ)
    (is : me.0.numbers ≡ c ∷ []) (live : me.0.opening ≡ Some o) where
  -- what others left of what the hand knows
  seen_now : (t newer : Execution) (p : ℕ) → Valid o t → newer ++ me.0.known ≡ t →
      Without c newer → CanSee o c p me.0.known → CanSee o c p t
  seen_now t newer p valid e out can =
      subst (CanSee o c p) e (seen_on o c p newer me.0.known (subst (Valid o) (sym e) valid) out can)

  at_now : (t newer : Execution) (p : ℕ) → Valid o t → newer ++ me.0.known ≡ t →
      Without c newer → IsAt o c p me.0.known → IsAt o c p t
  at_now t newer p valid e out at =
      subst (IsAt o c p) e
      (at_on o c p newer me.0.known (subst (Valid o) (sym e) valid) (stays_inside c newer out) at)

  locked_now : (t newer : Execution) (p : ℕ) → Valid o t → newer ++ me.0.known ≡ t →
      Without c newer → IsAt o c p me.0.known → (v x y : ℕ) (r : Bool) →
      form o p me.0.known ≡ Locked c v r x y → form o p t ≡ Locked c v r x y
  locked_now t newer p valid e out at v x y r f =
      ap (form o p) (sym e)
      ∙ locked_on o c p newer me.0.known (subst (Valid o) (sym e) valid) out at v x y r f

  pub loads_state : (p a : ℕ) → CanSee o c p me.0.known → IsPlace (shape o) p →
      a ≡ offset_of_word (shape o) (PlaceWord p State) →
      Allows (Kept o) slots id me a (λ n. n) (λ n x. Does me (state_load (word_in me.0 a) n) x)
  loads_state p a can is_place at =
      by_name o slots id me c is live (PlaceWord p State) a (λ n. n) state_load is_place at
      (loads o slots id me c is live (PlaceWord p State) (λ n. LoadState p n) is_place
      (λ _. refl)
      (λ t valid newer e out. may_load_state o c p t valid (seen_now t newer p valid e out can)))

  pub loads_value : (p a : ℕ) → CanSee o c p me.0.known → IsPlace (shape o) p →
      a ≡ offset_of_word (shape o) (PlaceWord p Value) →
      Allows (Kept o) slots id me a (λ n. n) (λ n x. Does me (value_load (word_in me.0 a) n) x)
  loads_value p a can is_place at =
      by_name o slots id me c is live (PlaceWord p Value) a (λ n. n) value_load is_place at
      (loads o slots id me c is live (PlaceWord p Value) (λ n. LoadValue p n) is_place
      (λ _. refl)
      (λ t valid newer e out. may_load_value o c p t valid (seen_now t newer p valid e out can)))

  pub loads_key : (p a : ℕ) → CanSee o c p me.0.known → IsPlace (shape o) p →
      a ≡ offset_of_word (shape o) (PlaceWord p Key) →
      Allows (Kept o) slots id me a (λ n. n) (λ n x. Does me (key_load (word_in me.0 a) n) x)
  loads_key p a can is_place at =
      by_name o slots id me c is live (PlaceWord p Key) a (λ n. n) key_load is_place at
      (loads o slots id me c is live (PlaceWord p Key) (λ n. LoadKey p n) is_place
      (λ _. refl)
      (λ t valid newer e out. may_load_key o c p t valid (seen_now t newer p valid e out can)))

  pub locks : (p a x y : ℕ) → y ≡ x + 4 → IsAt o c p me.0.known → HoldsNoLock o c me.0.known → IsLockable x →
      IsPlace (shape o) p → a ≡ offset_of_word (shape o) (PlaceWord p State) →
      Allows (Kept o) slots id me a (λ n. either (n == x) y n)
      (λ n w. Does me (cond (n == x) (lock_made (word_in me.0 a) x)
      (lock_failed (word_in me.0 a) x n)) w)
  locks p a x y locked at none can is_place here =
      by_name o slots id me c is live (PlaceWord p State) a (λ n. either (n == x) y n)
      (λ w n. cond (n == x) (lock_made w x) (lock_failed w x n)) is_place here
      (exchanges o slots id me c is live (PlaceWord p State) x y (Lock p x)
      (λ n. FailLock p x n) is_place
      (ap (λ (z : ℕ). Some (store (PlaceWord p State) z)) (sym locked)) (λ _. refl)
      (λ t valid newer e out. let now = at_now t newer p valid e out at in (
        (λ hit. may_lock o c p x t valid now
            (subst (HoldsNoLock o c) e (holds_no_lock_on o c newer me.0.known out none)) can hit),
        (λ ne. may_fail_lock o c p x t valid now ne),
      )))

  pub stores_value : (p a y : ℕ) → IsAt o c p me.0.known → IsLockedBy c (form o p me.0.known) →
      IsPlace (shape o) p → a ≡ offset_of_word (shape o) (PlaceWord p Value) →
      Allows (Kept o) slots id me a (λ _. y)
      (λ _ x. Does me (value_store (word_in me.0 a) y) x)
  stores_value p a y at held is_place here =
      by_name o slots id me c is live (PlaceWord p Value) a (λ _. y) (λ w _. value_store w y)
      is_place here
      (stores o slots id me c is live (PlaceWord p Value) y (StoreValue p y) is_place refl
      (λ t valid newer e out. let now = at_now t newer p valid e out at in (
        at.reading.caller,
        (
          held.0,
          held.1,
          held.2,
          held.3,
          locked_now t newer p valid e out at held.0 held.2 held.3 held.1 held.4,
        ),
        at_keyed o c p t valid now,
      )))

  -- ---- unlocking ----

  pub unlocks : (p a word : ℕ) (removed : Bool) → MayRelease o c p removed me.0.known →
      word ≡ unlocked_word o p removed me.0.known → IsPlace (shape o) p →
      a ≡ offset_of_word (shape o) (PlaceWord p State) →
      Allows (Kept o) slots id me a (λ _. word)
      (λ _ x. Does me (unlock_store me.0 (word_in me.0 a) word) x)
  unlocks p a word removed may stored is_place here =
      let at = may.holds.there in
      let says = says_unlocked (form o p me.0.known) c removed word may.holds.locked stored in
      by_name o slots id me c is live (PlaceWord p State) a (λ _. word)
      (λ w _. unlock_store me.0 w word) is_place here
      (subst (λ (d : Action). Tells o slots id me c is live (PlaceWord p State) (λ _. word) (λ _. d))
      (sym (unlock_is o me.0 c p word removed is live says))
      (stores o slots id me c is live (PlaceWord p State) word
      (Unlock p removed (change_by o c p removed me.0.known) word) is_place refl
      (λ t valid newer e out.
      let before : Valid o (newer ++ me.0.known) = subst (Valid o) (sym e) valid in
      let held = may.holds.locked in
      let now = locked_now t newer p valid e out at held.0 held.2 held.3 held.1 held.4 in (
        at.reading.caller,
        subst (λ (z : Execution). MayUnlock o z c p removed (change_by o c p removed me.0.known)) e
            (may_unlock o c p removed me.0.known newer may before out (ap (form o p) e ∙ now)
            (at_keyed o c p me.0.known (valid_before o newer me.0.known before) at)
            (at_role o c p newer me.0.known before (stays_inside c newer out) at)),
        stored ∙ ap (λ (z : Form). state_word (without_lock removed z)) (held.4 ∙ sym now),
      ))))

-- ---- what a step told its hand ----

-- the exchange that took the lock
pub lock_taken : (m x : Me (Unit {0}) View) (u : Word) (p n e : ℕ) → u ≡ PlaceWord p State →
    n ≡ e → Does m (cond (n == e) (lock_made u e) (lock_failed u e n)) x → Does m (Lock p e) x
lock_taken m x u p n e named hit does =
    subst (λ (d : Action). Does m d x)
    (ap (λ (z : Bool). cond z (lock_made u e) (lock_failed u e n)) (eq-eqb n e hit)
    ∙ ap (λ (z : Word). lock_made z e) named) does

-- and the one that found another word
pub lock_lost : (m x : Me (Unit {0}) View) (u : Word) (p n e : ℕ) → u ≡ PlaceWord p State →
    n ≢ e → Does m (cond (n == e) (lock_made u e) (lock_failed u e n)) x →
    Does m (FailLock p e n) x
lock_lost m x u p n e named differ does =
    subst (λ (d : Action). Does m d x)
    (ap (λ (z : Bool). cond z (lock_made u e) (lock_failed u e n)) (ne_eqb n e differ)
    ∙ ap (λ (z : Word). lock_failed z e n) named) does

-- the word that releases a lock is the one of the next version
pub released_is : (b : Board) (h : Hand) (p word : ℕ) (removed : Bool) → IsHandOf b h →
    MayRelease (opening_of b) h.number p removed (known h) →
    ((version : ℕ) (was : Bool) → IsUnlockedWord version was h.locked →
    word ≡ word_of_state (state.Direct (version + 1) false removed)) →
    word ≡ unlocked_word (opening_of b) p removed (known h)
released_is b h p word removed of may is =
    let held = may.holds.locked in
    is held.0 held.1
    (h.locks.kept (opening_of b) of.opened may.holds.there.reading.caller p held.0 held.1 held.2
    held.3 held.4)
    ∙ ap (λ (z : Form). state_word (without_lock removed z)) (sym held.4)
