-- What a caller knows of a record to which its place forwards.
use Rattle.std.proofs.Common.{◌≡◌, ◌≢◌, inl, inr, ⊎_elim, ℕ, Bool, true, false, cond}
use Rattle.std.proofs.Common.{Some, [], ◌∷◌, ◌++◌, eq-eqb, refl, sym, ap, ◌∙◌, subst, arith}
use Rattle.word_layout.specs.State.{IsWritableState, word_of_state}
use Rattle.word_layout.specs.declared.state.State.TheVariants as state
use Rattle.word_layout.specs.Places.{IsPlace}
use Rattle.index_machine.specs.declared.events.Action.{Action}
use Rattle.index_machine.specs.declared.events.Action.TheVariants.{LoadState}
use Rattle.index_machine.specs.declared.opening.Opening.{Opening}
use Rattle.index_machine.specs.Conditions.{Valid}
use Rattle.index_machine.specs.Execution.{Execution}
use Rattle.index_machine.specs.Forms.{Form, Blank, Unlocked, Locked, Copied, Redirect, Moved}
use Rattle.index_machine.specs.Forms.{state_word}
use Rattle.index_machine.specs.Places.{form}
use Rattle.index_machine.specs.Reaching.{reached, reached_after}
use Rattle.index_machine.specs.RecordConditions.{IsAt}
use Rattle.index_machine.specs.Rows.{role, role_key}
use Rattle.index_machine.specs.Sections.{IsNoCrossing}
use Rattle.index_machine.specs.Words.{shape}
use Rattle.index_machine.proofs.Executions.{own_step, valid_before}
use Rattle.machine_readers.specs.Readers.{KeepsKey}
use Rattle.machine_readers.specs.Targets.{IsDirect}
use Rattle.machine_readers.proofs.FormKinds.{Away, Direct, Forward, kind}
use Rattle.machine_readers.proofs.FormsMet.{targets_direct}
use Rattle.machine_readers.proofs.FromOpening.{redirects_old}
use Rattle.machine_readers.proofs.Redirects.{old_keyed}
use Rattle.index_rule.specs.declared.board.Board.{Board}
use Rattle.index_rule.specs.declared.hand.Hand.{Hand}
use Rattle.index_rule.specs.Hands.{IsHandOf, Makes, MakesAll, known, opening_of}
use Rattle.index_rule.proofs.RecordStepping.{goes_on_inside, now, same_role, since}
use Rattle.index_rule.proofs.RecordSteps.{place_below}
use Rattle.index_rule.proofs.Standing.{at_keyed, keeps_key_on, keyed_place}
use Rattle.index_rule.proofs.StateForms.{forwards_by_word}
use Rattle.index_rule.proofs.Stepping.{known_is, valid_after, valid_known}
use Rattle.record_cell.specs.Conditions.{IsRecordWord}
use Rattle.record_cell.specs.Finding.{CanStepAt, FollowsPointer, ForwardsTo, HasSameKey}
use Rattle.record_cell.specs.Finding.{IsFoundAt, IsReadyAt}
use Rattle.record_cell.proofs.Forwarding.{ForwardsOrAway, away_on, forwarded, forwards_on}
use Rattle.record_cell.proofs.Forwarding.{redirect_to}
use Rattle.record_cell.proofs.Found.{IsPointer, can_step, can_step_on, direct_word, key_after}
use Rattle.record_cell.proofs.Found.{loaded_key, loaded_ready, meets, no_moved, no_redirect, own_key}
use Rattle.record_cell.proofs.Found.{ready_on, record_or_pointer, same_key_on, state_says}

-- ---- a forwarding pointer was loaded ----

redirect_not_direct : {X : Type 0} (f : Form) (to y : ℕ) → f ≡ Redirect to y → IsDirect f → X
redirect_not_direct f to y e direct =
    ⊎_elim
    (λ z. let bad : Forward ≡ Direct = sym (ap kind e) ∙ ap kind z.3 in cc)
    (λ z. let bad : Forward ≡ Direct = sym (ap kind e) ∙ ap kind z.1.4 in cc) direct

pub direct_not_away : {X : Type 0} (f : Form) → IsDirect f → kind f ≡ Away → X
direct_not_away f direct away =
    ⊎_elim
    (λ z. let bad : Direct ≡ Away = sym (ap kind z.3) ∙ away in cc)
    (λ z. let bad : Direct ≡ Away = sym (ap kind z.1.4) ∙ away in cc) direct

-- a place of the table has a number that a forwarding pointer can name
writable : (o : Opening) (p : ℕ) → IsPlace (shape o) p → IsWritableState (state.Redirect p)
writable o p there = (
  ⊎_elim (λ row. let low = row.0 in omega arith) (λ array. let low = array.2.0 in omega arith) there,
  place_below o p there,
)

module _ (b : Board) (h k : Hand) (place word : ℕ) (ready : IsReadyAt b h place)
    (m : Makes b h (LoadState place word) k) where
  valid : Valid (opening_of b) (known k)
  valid = valid_known b h k (LoadState place word) ready.of m

  -- the place forwards where its state word says
  pub forwards_to : (to : ℕ) → word ≡ word_of_state (state.Redirect to) →
      ForwardsTo (opening_of b) place to (known k)
  forwards_to to e =
      forwards_by_word (form (opening_of b) place (known k)) to
      (state_says b h k place word ready.of m ∙ e)

  -- the place to which an array place forwards has the same key
  leads_to : (to y : ℕ) → form (opening_of b) place (known k) ≡ Redirect to y →
      HasSameKey b h place to k
  leads_to to y e =
      let o = opening_of b in
      ⊎_elim
      (λ (is : IsRecordWord word).
      absurd (no_redirect word to is
      (sym (state_says b h k place word ready.of m) ∙ ap state_word e)))
      (λ (p : IsPointer o place (known k)). (
        p.1,
        sym (ap role_key
            (same_role b h k (LoadState place word) ready.of m tt place ready.at_own.there))
            ∙ ap role_key p.2,
        old_keyed o (known k) p.1 to
            (redirects_old o (known k) valid place p.0 p.1 to y p.2 e),
      )) (record_or_pointer b h k place word ready m)

  pub pointer_key : (to : ℕ) → word ≡ word_of_state (state.Redirect to) → HasSameKey b h place to k
  pointer_key to e = let f = forwards_to to e in leads_to to f.0 f.1

  -- the caller can step there
  pub can_follow : (to : ℕ) → word ≡ word_of_state (state.Redirect to) → CanStepAt b k to
  can_follow to e =
      let after = loaded_ready b h k place word ready m in
      let action = LoadState place word in
      record {
        of = m.of;
        there = record {
          reading = after.at_own.there.reading;
          there = inr (now b h k action ready.of m (λ z t. reached z to t ≡ true)
              (own_step (reached_after to) false h.number action (m.acts.0 ++ known h)
              ∙ ap (λ (z : Bool). cond z true (reached h.number to (m.acts.0 ++ known h)))
              (eq-eqb word (word_of_state (state.Redirect to)) e)));
        };
        holds_none = after.holds_none;
      }

  -- where it says no such state, it says a record
  pub else_record : ((to : ℕ) → IsWritableState (state.Redirect to) →
      word_of_state (state.Redirect to) ≡ word → ⊥) → IsRecordWord word
  else_record none =
      let o = opening_of b in
      ⊎_elim (λ (is : IsRecordWord word). is)
      (λ (p : IsPointer o place (known k)).
      let to = p.3.0 in
      let key = leads_to to p.3.1 p.3.2 in
      absurd (none to
      (writable o to (keyed_place o (known k) valid to (key.0, key.2)))
      (sym (ap state_word p.3.2) ∙ state_says b h k place word ready.of m)))
      (record_or_pointer b h k place word ready m)

-- ---- the place to which it forwards ----

-- what stands where a record was copied away, by its state word
away_word : {X : Type 0} (f : Form) (word : ℕ) → kind f ≡ Away → state_word f ≡ word →
    (IsRecordWord word → X) → (word ≡ word_of_state state.Moved → X) → X
away_word Blank word away says is moved = let bad = away in cc
away_word (Unlocked v r x) word away says is moved = let bad = away in cc
away_word (Locked c v r x y) word away says is moved = let bad = away in cc
away_word (Copied v r x) word away says is moved = is (v, true, r, sym says)
away_word (Redirect p y) word away says is moved = let bad = away in cc
away_word Moved word away says is moved = moved (sym says)

-- a place where the caller stands keeps its key over a step by which it does not leave
keeps_since : (b : Board) (h k : Hand) (action : Action) (of : IsHandOf b h)
    (m : Makes b h action k) → IsNoCrossing action → (p key : ℕ) →
    IsAt (opening_of b) h.number p (known h) → role_key (role (opening_of b) p (known h)) ≡ Some key →
    KeepsKey (opening_of b) p key (since b h k action of m) (known h)
keeps_since b h k action of m none p key there keyed =
    keeps_key_on (opening_of b) h.number p key (since b h k action of m) (known h)
    (valid_after b h k action of m) (goes_on_inside b h k action of m none) there keyed

-- where a place forwards it forwarded there before the step
forwarded_since : (b : Board) (h k : Hand) (action : Action) (place to y : ℕ) → IsNoCrossing action →
    IsReadyAt b h place → Makes b h action k → form (opening_of b) place (known k) ≡ Redirect to y →
    (z : ℕ) × (form (opening_of b) place (known h) ≡ Redirect to z)
forwarded_since b h k action place to y none ready m e =
    forwarded (opening_of b) place to ready.at_own.key 0 (since b h k action ready.of m) (known h)
    (valid_after b h k action ready.of m)
    (keeps_since b h k action ready.of m none place ready.at_own.key ready.at_own.there
    (own_key b h place ready)) y
    (ap (form (opening_of b) place) (sym (known_is b h k action ready.of m)) ∙ e)

module _ (b : Board) (h k : Hand) (place to word : ℕ) (ready : IsReadyAt b h place)
    (forwards : ForwardsTo (opening_of b) place to (known h)) (target : CanStepAt b h to)
    (m : Makes b h (LoadState to word) k) where
  target_keyed : (key : ℕ) × (role_key (role (opening_of b) to (known h)) ≡ Some key)
  target_keyed =
      at_keyed (opening_of b) h.number to (known h)
      (valid_before (opening_of b) (since b h k (LoadState to word) ready.of m) (known h)
      (valid_after b h k (LoadState to word) ready.of m)) target.there

  pub first_ready : IsReadyAt b k place
  first_ready = ready_on b h k (LoadState to word) place tt m (λ z. z) ready

  pub target_can : CanStepAt b k to
  target_can = can_step_on b h k (LoadState to word) to tt m (λ z. z) target

  -- the place still forwards there, or the record was copied away from there
  pub forwards_still : ForwardsOrAway (opening_of b) place to (known k)
  forwards_still =
      let o = opening_of b in
      let action = LoadState to word in
      subst (ForwardsOrAway o place to) (sym (known_is b h k action ready.of m))
      (forwards_on o place to ready.at_own.key target_keyed.0 (since b h k action ready.of m) (known h)
      (valid_after b h k action ready.of m)
      (keeps_since b h k action ready.of m tt place ready.at_own.key ready.at_own.there
      (own_key b h place ready))
      (keeps_since b h k action ready.of m tt to target_keyed.0 target.there target_keyed.1)
      (inl forwards))

  -- where it still forwards, the record is there
  target_direct : (y : ℕ) → form (opening_of b) place (known k) ≡ Redirect to y →
      IsDirect (form (opening_of b) to (known k))
  target_direct y e =
      let o = opening_of b in
      let valid_k = valid_known b h k (LoadState to word) ready.of m in
      ⊎_elim
      (λ (direct : IsDirect (form o place (known k))).
      redirect_not_direct (form o place (known k)) to y e direct)
      (λ (p : IsPointer o place (known k)). targets_direct o (known k) valid_k place p.0 p.1 to y p.2 e)
      (meets b k place valid_k first_ready)

  -- so the word that was loaded is that of a record, or says that this was copied away
  pub behind_record : word ≢ word_of_state state.Moved → IsRecordWord word
  behind_record other =
      let o = opening_of b in
      ⊎_elim
      (λ (is : (value : ℕ) × (form o place (known k) ≡ Redirect to value)).
      direct_word (form o to (known k)) word (target_direct is.0 is.1) (state_says b h k to word ready.of m))
      (λ (away : kind (form o to (known k)) ≡ Away).
      away_word (form o to (known k)) word away (state_says b h k to word ready.of m)
      (λ is. is) (λ moved. absurd (other moved)))
      forwards_still

  now_away : word ≡ word_of_state state.Moved → kind (form (opening_of b) to (known k)) ≡ Away
  now_away moved =
      let o = opening_of b in
      ⊎_elim
      (λ (is : (value : ℕ) × (form o place (known k) ≡ Redirect to value)).
      absurd (no_moved word
      (direct_word (form o to (known k)) word (target_direct is.0 is.1) (state_says b h k to word ready.of m)) moved))
      (λ (away : kind (form o to (known k)) ≡ Away). away) forwards_still

  -- the key is that of the first place
  pub behind_key : (start : Hand) → HasSameKey b start place to h → HasSameKey b start place to k
  behind_key start same = same_key_on b start h k (LoadState to word) place to tt m target same

  -- ---- the first place, once more ----

  module _ (n : Hand) (second : ℕ) (moved : word ≡ word_of_state state.Moved)
      (q : Makes b k (LoadState place second) n) where
    moved_away : kind (form (opening_of b) to (known n)) ≡ Away
    moved_away =
        let o = opening_of b in
        let action = LoadState place second in
        let keyed = at_keyed o k.number to (known k) (valid_known b h k (LoadState to word) ready.of m)
        target_can.there in
        subst (λ (z : Execution). kind (form o to z) ≡ Away) (sym (known_is b k n action m.of q))
        (away_on o to keyed.0 (since b k n action m.of q) (known k) (valid_after b k n action m.of q)
        (keeps_since b k n action m.of q tt to keyed.0 target_can.there keyed.1) (now_away moved))

    -- it does not forward any more
    pub again_record : IsRecordWord second
    again_record =
        let o = opening_of b in
        ⊎_elim (λ (is : IsRecordWord second). is)
        (λ (p : IsPointer o place (known n)).
        let t : ℕ = p.3.0 in
        let before = forwarded_since b k n (LoadState place second) place t p.3.1 tt first_ready q p.3.2
        in
        let first = forwarded_since b h k (LoadState to word) place t before.0 tt ready m before.1 in
        let one : t ≡ to = redirect_to t to first.0 forwards.0 (sym first.1 ∙ forwards.1) in
        direct_not_away (form o to (known n))
        (subst (λ (z : ℕ). IsDirect (form o z (known n))) one
        (targets_direct o (known n) (valid_known b k n (LoadState place second) m.of q) place p.0 p.1 t
        p.3.1 p.2 p.3.2)) moved_away)
        (record_or_pointer b k n place second first_ready q)

-- ---- either way ----

-- the first place has its key still when it is loaded again
key_since : (b : Board) (h m n k : Hand) (place word second : ℕ) → IsReadyAt b h place →
    Makes b h (LoadState place word) m → (action : Action) → IsNoCrossing action →
    Makes b m action n → IsReadyAt b n place → Makes b n (LoadState place second) k →
    HasSameKey b h place place k
key_since b h m n k place word second ready first action none between n_ready last =
    let m_ready = loaded_ready b h m place word ready first in
    same_key_on b h n k (LoadState place second) place place tt last (can_step b n place n_ready)
    (key_after b h m n action place place none between m_ready.of m_ready.at_own.there
    (loaded_key b h m place word ready first))

-- where the record was found behind the forwarding pointer that the caller loaded
module _ (b : Board) (h m : Hand) (place word : ℕ) (ready : IsReadyAt b h place)
    (first : Makes b h (LoadState place word) m) (to : ℕ)
    (pointer : word ≡ word_of_state (state.Redirect to)) (k : Hand) (at second : ℕ)
    (follows : FollowsPointer b m place to at second k) where
  first_load : Makes b h (LoadState place (word_of_state (state.Redirect to))) m
  first_load = subst (λ (z : ℕ). Makes b h (LoadState place z) m) pointer first

  middle_ready : IsReadyAt b m place
  middle_ready = loaded_ready b h m place word ready first

  forwards : ForwardsTo (opening_of b) place to (known m)
  forwards = forwards_to b h m place word ready first to pointer

  target : CanStepAt b m to
  target = can_follow b h m place word ready first to pointer

  pub found_behind : IsRecordWord second → IsFoundAt b h place at second k
  found_behind is =
      ⊎_elim
      (λ (one : (at ≡ to) × Makes b m (LoadState to second) k).
      subst (λ (z : ℕ). IsFoundAt b h place z second k) (sym one.0)
      (record {
        steps = inr (to, m, first_load, inl (refl, one.1));
        says = state_says b m k to second middle_ready.of one.1;
        is_record = is;
        same_key = behind_key b m k place to second middle_ready forwards target one.1 h
            (pointer_key b h m place word ready first to pointer);
      }))
      (λ (two : (at ≡ place)
      × MakesAll b m (LoadState place second ∷ LoadState to (word_of_state state.Moved) ∷ []) k).
      let moved = LoadState to (word_of_state state.Moved) in
      let n : Hand = two.1.0 in
      let between : Makes b m moved n =
      subst (λ (z : Hand). Makes b z moved n) two.1.1.1 two.1.1.2 in
      let n_ready = ready_on b m n moved place tt between (λ z. z) middle_ready in
      subst (λ (z : ℕ). IsFoundAt b h place z second k) (sym two.0)
      (record {
        steps = inr (to, m, first_load, inr (refl, two.1));
        says = state_says b n k place second n_ready.of two.1.2;
        is_record = is;
        same_key = key_since b h m n k place word second ready first moved tt between n_ready two.1.2;
      })) follows
