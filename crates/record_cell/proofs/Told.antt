-- What the answers on a record tell of its key.
use Rattle.std.proofs.Common.{◌≡◌, inl, inr, ⊎_elim, ℕ, Bool, true, false, Option, Some}
use Rattle.std.proofs.Common.{None, ◌+◌, ◌≤◌, ◌++◌, refl, sym, ap, ◌∙◌, subst}
use Rattle.index_machine.specs.declared.events.Action.{Action}
use Rattle.index_machine.specs.declared.events.Action.TheVariants.{LoadState, LoadValue}
use Rattle.index_machine.specs.declared.opening.Opening.{Opening}
use Rattle.index_machine.specs.Execution.{Execution}
use Rattle.index_machine.specs.Forms.{Form, Blank, Unlocked, Locked, Copied, Redirect, Moved}
use Rattle.index_machine.specs.Forms.{is_removed, live_value, last_version}
use Rattle.index_machine.specs.Rows.{role}
use Rattle.index_machine.specs.Places.{first_version, form}
use Rattle.index_machine.specs.LivePlaces.{history, live_place, value_in_map}
use Rattle.map_model.specs.History.{changes_at}
use Rattle.index_machine.specs.RecordConditions.{IsAt}
use Rattle.index_machine.specs.Conditions.{Valid}
use Rattle.index_machine.proofs.Executions.{continues_trans}
use Rattle.machine_places.specs.Agreement.{HasLiveValue}
use Rattle.machine_places.proofs.FromOpening.{agreement}
use Rattle.index_machine.proofs.Options.{none_some}
use Rattle.machine_readers.specs.Redirects.{HasNoValue}
use Rattle.machine_readers.specs.Versions.{HasVersion}
use Rattle.machine_readers.proofs.FormsMet.{not_blank}
use Rattle.machine_readers.proofs.FromOpening.{versions_count_changes}
use Rattle.index_rule.specs.declared.board.Board.{Board}
use Rattle.index_rule.specs.declared.hand.Hand.{Hand}
use Rattle.index_rule.specs.Hands.{IsHandOf, Makes, known, opening_of}
use Rattle.index_rule.specs.Records.{key_at, or_zero}
use Rattle.index_rule.proofs.Calls.{begun_on, from_there, goes_on, is_within, up_to, within_end}
use Rattle.index_rule.proofs.RecordReading.{value_enclosed, value_in_map_at}
use Rattle.index_rule.proofs.RecordStepping.{same_role, still_at, valid_moment}
use Rattle.index_rule.proofs.StateForms.{locked_by_word, unlocked_by_word}
use Rattle.index_rule.proofs.Standing.{at_role, stays_inside}
use Rattle.index_rule.proofs.Stepping.{others_only, valid_known}
use Rattle.record_cell.specs.Conditions.{IsLiveState, IsLockedState, IsTombstoneState}
use Rattle.record_cell.specs.Finding.{CanStepAt, IsFoundAt, IsReadyAt}
use Rattle.record_cell.specs.Reads.{FindsLock, FindsNone, FindsValue}
use Rattle.record_cell.specs.Reads.{HasNoValueElsewhere}
use Rattle.record_cell.specs.Writes.{FindsLastVersion, worn_word}
use Rattle.record_cell.proofs.Found.{ready_on}
use Rattle.record_cell.proofs.FoundLoads.{finding_begins, loaded_last, removed_there}

-- ---- values ----

-- a place where the caller is keeps its role up to the moment of a step
role_at_moment : (b : Board) (h k : Hand) (action : Action) → (of : IsHandOf b h) →
    (m : Makes b h action k) (place : ℕ) → IsAt (opening_of b) h.number place (known h) →
    role (opening_of b) place (m.acts.0 ++ known h) ≡ role (opening_of b) place (known h)
role_at_moment b h k action of m place there =
    at_role (opening_of b) h.number place m.acts.0 (known h) (valid_moment b h k action of m)
    (stays_inside h.number m.acts.0 (others_only b h k action of m)) there

-- the value that was loaded between two loads of one state word
pub read_value : (b : Board) (h m n k : Hand) (place at word value : ℕ) → IsReadyAt b h place →
    IsFoundAt b h place at word m → IsLiveState word → Makes b m (LoadValue at value) n →
    Makes b n (LoadState at word) k → FindsValue b h place value k
read_value b h m n k place at word value ready found live l s =
    let o = opening_of b in
    let last = loaded_last b h m place at word ready found.steps in
    let first : Makes b last.before (LoadState at word) m = last.load in
    let enclosed =
    value_enclosed b last.before m n k at word value live.0 false last.ready.of first l s last.there
    (sym live.1)
    in
    let in_map =
    value_in_map_at b m n at value live.0 found.same_key.0 first.of l
    (still_at b last.before m (LoadState at word) last.ready.of first tt at last.there)
    found.same_key.2 enclosed
    in
    let moment : Execution = l.acts.0 ++ known m in
    let begun = finding_begins b h m place at word ready.of found.steps in (
      moment,
      is_within h k moment
          (begun_on h (known m) moment begun (up_to b m n (LoadValue at value) first.of l))
          (continues_trans moment (known n) (known k)
          (from_there b m n (LoadValue at value) first.of l)
          (goes_on b n k (LoadState at word) l.of s)),
      role_at_moment b m n (LoadValue at value) first.of l place
          (ready_on b last.before m (LoadState at word) place tt first (λ z. z) last.ready).at_own.there
          ∙ (same_role b last.before m (LoadState at word) last.ready.of first tt place
          last.ready.at_own.there
          ∙ last.still),
      subst (λ (z : ℕ). value_in_map o z moment ≡ Some value)
          (sym (ap or_zero found.same_key.1)) in_map,
    )

-- ---- tombstones ----

removed_has_none : (f : Form) (x : ℕ) {X : Type 0} → is_removed f ≡ true → live_value f ≡ Some x → X
removed_has_none Blank x gone alive = none_some alive
removed_has_none (Unlocked v true y) x gone alive = none_some alive
removed_has_none (Unlocked v false y) x gone alive = let bad = gone in cc
removed_has_none (Locked c v true y z) x gone alive = none_some alive
removed_has_none (Locked c v false y z) x gone alive = let bad = gone in cc
removed_has_none (Copied v r y) x gone alive = none_some alive
removed_has_none (Redirect p y) x gone alive = none_some alive
removed_has_none Moved x gone alive = none_some alive

-- a place without a value has none for its key
has_none : {X : Type 0} (o : Opening) (t : Execution) (p x : ℕ) → HasNoValue o t p →
    live_value (form o p t) ≡ Some x → X
has_none {X} o t p x none alive =
    ⊎_elim (λ (gone : is_removed (form o p t) ≡ true). removed_has_none (form o p t) x gone alive)
    (λ (away : (q : ℕ) × (y : ℕ) × (form o p t ≡ Redirect q y) × (is_removed (form o q t) ≡ true)).
    none_some (sym (ap live_value away.2) ∙ alive)) none

-- a key that has a value nowhere is not in the map
absent : (o : Opening) (t : Execution) → Valid o t → (place key : ℕ) → HasNoValue o t place →
    HasNoValueElsewhere o key place t → value_in_map o key t ≡ None
absent o t valid place key none elsewhere =
    by_place (live_place o key t) (agreement o t valid key)
  where
    by_place : (p : Option ℕ) → HasLiveValue o t key p → value_in_map o key t ≡ None
    by_place None has = has
    by_place (Some q) has =
        ⊎_elim
        (λ (here : q ≡ place). has_none o t place has.0 none
        (ap (λ (z : ℕ). live_value (form o z t)) (sym here) ∙ has.1))
        (λ (other : HasNoValue o t q). has_none o t q has.0 other has.1)
        (elsewhere q has.3)

-- a tombstone that was found
pub finds_none : (b : Board) (h k : Hand) (place at word : ℕ) → IsReadyAt b h place →
    IsFoundAt b h place at word k → IsTombstoneState word → FindsNone b h place k
finds_none b h k place at word ready found stone =
    let o = opening_of b in
    let last = loaded_last b h k place at word ready found.steps in
    let valid = valid_known b last.before k (LoadState at word) last.ready.of last.load in
    let f = unlocked_by_word (form o at (known k)) stone.0 true
    (not_blank o (known k) valid at found.same_key.0 found.same_key.2) (found.says ∙ stone.1) in
    let none : HasNoValue o (known k) place =
    removed_there b h k place at word ready found.steps (inl (stone.0, true, f.0, f.1))
    (ap is_removed f.1)
    in (
      known k,
      within_end h k (finding_begins b h k place at word ready.of found.steps),
      same_role b last.before k (LoadState at word) last.ready.of last.load tt place
          last.ready.at_own.there
          ∙ last.still,
      none,
      λ elsewhere. absent o (known k) valid place (key_at o place (known h)) none elsewhere,
    )

-- ---- locks and versions ----

-- a lock that was found is another hand's
pub finds_lock : (b : Board) (h k : Hand) (place at word : ℕ) → IsReadyAt b h place →
    k.number ≡ h.number → CanStepAt b k at → IsFoundAt b h place at word k → IsLockedState word →
    FindsLock b h place at k
finds_lock b h k place at word ready number can found locked = (
  ⊎_elim
      (λ (z : (c : ℕ) × (x : ℕ) × (y : ℕ)
      × (form (opening_of b) at (known k) ≡ Locked c locked.0 locked.1 x y)). inl (
        z.0,
        (λ own. can.holds_none at (
          locked.0,
          locked.1,
          z.1,
          z.2,
          z.3 ∙ ap (λ (n : ℕ). Locked n locked.0 locked.1 z.1 z.2) (own ∙ sym number),
        )),
        (locked.0, locked.1, z.1, z.2, z.3),
      ))
      (λ (z : (x : ℕ) × (form (opening_of b) at (known k) ≡ Copied locked.0 locked.1 x)).
      inr (locked.0, locked.1, z.0, z.1))
      (locked_by_word (form (opening_of b) at (known k)) locked.0 locked.1 (found.says ∙ locked.2)),
  found.same_key,
)

-- the last version tells of the changes of its key
pub finds_last : (b : Board) (h k : Hand) (place at word : ℕ) (removed : Bool) →
    IsReadyAt b h place → Valid (opening_of b) (known k) → IsFoundAt b h place at word k →
    word ≡ worn_word removed → FindsLastVersion b h place k
finds_last b h k place at word removed ready valid found worn =
    let o = opening_of b in
    let f = unlocked_by_word (form o at (known k)) last_version removed
    (not_blank o (known k) valid at found.same_key.0 found.same_key.2) (found.says ∙ worn) in
    let count = (versions_count_changes o (known k) valid).most at found.same_key.0 last_version
    found.same_key.2 (subst (λ (z : Form). HasVersion z last_version) (sym f.1) refl) in (
      known k,
      within_end h k (finding_begins b h k place at word ready.of found.steps),
      subst (λ (z : ℕ). last_version ≤ first_version o + changes_at z (history (known k)))
          (sym (ap or_zero found.same_key.1)) count,
    )
