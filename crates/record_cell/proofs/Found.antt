-- Where a caller is, and what it knows of a record once it has loaded the state word at its place.
use Rattle.std.proofs.Common.{◌≡◌, ◌⊎◌, inl, inr, ⊎_elim, ℕ, true, false}
use Rattle.std.proofs.Common.{Some, [], refl, sym, ap, ◌∙◌, arith}
use Rattle.word_layout.specs.State.{word_of_state}
use Rattle.word_layout.specs.declared.state.State.TheVariants as state
use Rattle.index_machine.specs.declared.events.Action.{Action}
use Rattle.index_machine.specs.declared.events.Action.TheVariants.{LoadState}
use Rattle.index_machine.specs.declared.opening.Opening.{Opening}
use Rattle.index_machine.specs.Conditions.{Valid}
use Rattle.index_machine.specs.Sections.{IsNoCrossing}
use Rattle.index_machine.specs.Forms.{Form, IsLockedBy, IsUnlocked, state_word}
use Rattle.index_machine.specs.Places.{form}
use Rattle.index_machine.specs.Execution.{Execution}
use Rattle.index_machine.specs.Rows.{InArray, InBuffer, role, role_key}
use Rattle.index_machine.specs.RecordConditions.{IsAt}
use Rattle.index_machine.proofs.Holders.{TakesLock}
use Rattle.machine_buffers.specs.Groups.{IsKeyOf}
use Rattle.machine_readers.specs.Targets.{HoldsRecords, IsDirect, IsRedirect}
use Rattle.machine_readers.proofs.FormsMet.{callers_meet}
use Rattle.machine_readers.proofs.NewRedirects.{in_group_keyed}
use Rattle.machine_readers.proofs.StandingCallers.{of_key_on}
use Rattle.index_rule.specs.declared.board.Board.{Board}
use Rattle.index_rule.specs.declared.hand.Hand.{Hand}
use Rattle.index_rule.specs.Hands.{IsHandOf, Makes, known, opening_of}
use Rattle.index_rule.proofs.RecordStepping.{goes_on_inside, now, same_role, since, still_at}
use Rattle.index_rule.proofs.RecordStepping.{still_stands}
use Rattle.index_rule.proofs.Stepping.{known_is, still_holds_no_lock, valid_after, valid_known}
use Rattle.record_cell.specs.Conditions.{IsRecordWord}
use Rattle.record_cell.specs.Finding.{CanStepAt, HasSameKey, IsAtOwn, IsFoundAt, IsReadyAt}

-- ---- where the caller is ----

-- whoever is at a place of its own group can step there
pub can_step : (b : Board) (h : Hand) (place : ℕ) → IsReadyAt b h place → CanStepAt b h place
can_step b h place ready =
    record { of = ready.of; there = ready.at_own.there; holds_none = ready.holds_none }

module _ (b : Board) (h k : Hand) (action : Action) (place : ℕ) (none : IsNoCrossing action)
    (m : Makes b h action k) where
  -- the caller is still there while it does not leave
  pub still_at_own : IsHandOf b h → IsAtOwn (opening_of b) h.number place (known h) →
      IsAtOwn (opening_of b) k.number place (known k)
  still_at_own of own =
      let same = same_role b h k action of m none place own.there in
      record {
        there = still_at b h k action of m none place own.there;
        group = own.group;
        key = own.key;
        stands = still_stands b h k action of m none own.group own.stands;
        in_group = ⊎_elim
            (λ (z : role (opening_of b) place (known h) ≡ InArray own.group own.key).
            inl (same ∙ z))
            (λ (z : role (opening_of b) place (known h) ≡ InBuffer own.group own.key).
            inr (same ∙ z)) own.in_group;
        of_key = now b h k action of m (λ z t. IsKeyOf (opening_of b) own.group own.key t)
            (of_key_on (opening_of b) h.number own.group own.key own.there.reading.caller
            (since b h k action of m) (known h) (valid_after b h k action of m)
            (goes_on_inside b h k action of m none) own.stands own.of_key);
      }

  pub ready_on : (TakesLock action → ⊥) → IsReadyAt b h place → IsReadyAt b k place
  ready_on takes_none ready =
      record {
        of = m.of;
        at_own = still_at_own ready.of ready.at_own;
        holds_none = still_holds_no_lock b h k action ready.of m takes_none ready.holds_none;
      }

  pub can_step_on : (TakesLock action → ⊥) → CanStepAt b h place → CanStepAt b k place
  can_step_on takes_none can =
      record {
        of = m.of;
        there = still_at b h k action can.of m none place can.there;
        holds_none = still_holds_no_lock b h k action can.of m takes_none can.holds_none;
      }

-- the key of its place
pub own_key : (b : Board) (h : Hand) (place : ℕ) → (ready : IsReadyAt b h place) →
    role_key (role (opening_of b) place (known h)) ≡ Some ready.at_own.key
own_key b h place ready =
    in_group_keyed (opening_of b) (known h) ready.at_own.group ready.at_own.key place
    ready.at_own.in_group

-- ---- state words ----

-- the state word of a record itself
pub direct_word : (f : Form) (word : ℕ) → IsDirect f → state_word f ≡ word → IsRecordWord word
direct_word f word direct says =
    ⊎_elim (λ (z : IsUnlocked f). (z.0, false, z.1, sym says ∙ ap state_word z.3))
    (λ (z : (c : ℕ) × IsLockedBy c f). (z.1.0, true, z.1.1, sym says ∙ ap state_word z.1.4)) direct

-- a record does not forward, and was not copied away
pub no_redirect : (word to : ℕ) → IsRecordWord word → word ≡ word_of_state (state.Redirect to) → ⊥
no_redirect word to (v, true, true, e) f = omega arith
no_redirect word to (v, true, false, e) f = omega arith
no_redirect word to (v, false, true, e) f = omega arith
no_redirect word to (v, false, false, e) f = omega arith

pub no_moved : (word : ℕ) → IsRecordWord word → word ≡ word_of_state state.Moved → ⊥
no_moved word (v, true, true, e) f = omega arith
no_moved word (v, true, false, e) f = omega arith
no_moved word (v, false, true, e) f = omega arith
no_moved word (v, false, false, e) f = omega arith

-- the form by what the hand knows has the state word that it loaded
pub state_says : (b : Board) (h k : Hand) (place word : ℕ) → IsHandOf b h →
    Makes b h (LoadState place word) k → state_word (form (opening_of b) place (known k)) ≡ word
state_says b h k place word of m =
    ap (λ z. state_word (form (opening_of b) place z)) (known_is b h k (LoadState place word) of m)
    ∙ (valid_after b h k (LoadState place word) of m).0.says

-- ---- the record ----

-- the place is one of an array, for a key, and forwards
abbrev pub IsPointer : Opening → ℕ → Execution → Type 0
IsPointer o place t =
    (group : ℕ) × (key : ℕ) × (role o place t ≡ InArray group key) × IsRedirect (form o place t)

-- what a caller meets at its place: the record itself, or in the array a forwarding pointer
pub meets : (b : Board) (h : Hand) (place : ℕ) → Valid (opening_of b) (known h) →
    IsReadyAt b h place →
    IsDirect (form (opening_of b) place (known h)) ⊎ IsPointer (opening_of b) place (known h)
meets b h place valid ready =
    let o = opening_of b in
    let own = ready.at_own in
    let holds : HoldsRecords o own.group own.key (known h) =
    callers_meet o h.number own.group own.key own.there.reading.caller [] (known h) valid tt
    own.stands own.of_key in
    ⊎_elim
    (λ (array : role o place (known h) ≡ InArray own.group own.key). ⊎_elim
    (λ (direct : IsDirect (form o place (known h))). inl direct)
    (λ (redirect : IsRedirect (form o place (known h))).
    inr (own.group, own.key, array, redirect))
    (holds.array place array))
    (λ (row : role o place (known h) ≡ InBuffer own.group own.key). inl (holds.rows place row))
    own.in_group

module _ (b : Board) (h k : Hand) (place word : ℕ) (ready : IsReadyAt b h place)
    (m : Makes b h (LoadState place word) k) where
  -- the caller is there still
  pub loaded_ready : IsReadyAt b k place
  loaded_ready = ready_on b h k (LoadState place word) place tt m (λ z. z) ready

  -- the key is what it was
  pub loaded_key : HasSameKey b h place place k
  loaded_key = (
    ready.at_own.key,
    own_key b h place ready,
    ap role_key (same_role b h k (LoadState place word) ready.of m tt place ready.at_own.there)
        ∙ own_key b h place ready,
  )

  -- the record is there, or the place forwards
  pub record_or_pointer : IsRecordWord word ⊎ IsPointer (opening_of b) place (known k)
  record_or_pointer =
      let o = opening_of b in
      ⊎_elim
      (λ (direct : IsDirect (form o place (known k))).
      inl (direct_word (form o place (known k)) word direct
      (state_says b h k place word ready.of m)))
      (λ (pointer : IsPointer o place (known k)). inr pointer)
      (meets b k place (valid_known b h k (LoadState place word) ready.of m) loaded_ready)

  -- so a record was found in its place
  pub found_as : IsRecordWord word → IsFoundAt b h place place word k
  found_as is =
      record {
        steps = inl (refl, m);
        says = state_says b h k place word ready.of m;
        is_record = is;
        same_key = loaded_key;
      }

-- ---- keys ----

-- the key of a place where the caller is, after a step by which it does not leave
pub key_after : (b : Board) (h m k : Hand) (action : Action) (place at : ℕ) →
    IsNoCrossing action → Makes b m action k → IsHandOf b m →
    IsAt (opening_of b) m.number at (known m) → HasSameKey b h place at m →
    HasSameKey b h place at k
key_after b h m k action place at none step of there same = (
  same.0,
  same.1,
  ap role_key (same_role b m k action of step none at there) ∙ same.2,
)

pub same_key_on : (b : Board) (h m k : Hand) (action : Action) (place at : ℕ) →
    IsNoCrossing action → Makes b m action k → CanStepAt b m at → HasSameKey b h place at m →
    HasSameKey b h place at k
same_key_on b h m k action place at none step can same =
    key_after b h m k action place at none step can.of can.there same
