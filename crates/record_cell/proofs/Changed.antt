-- A record is changed while its version lock is held, and released.
use Rattle.std.proofs.Common.{◌≡◌, ℕ, ◌⊎◌, inl, inr, ⊎_elim, Bool, true, false, Option, Some, ◌∷◌, ◌++◌, length, refl, sym}
use Rattle.std.proofs.Common.{ap, ◌∙◌, subst}
use Rattle.map_model.specs.declared.entries.Change.{Change}
use Rattle.map_model.specs.declared.entries.Change.TheVariants.{Put, Remove}
use Rattle.map_model.specs.declared.entries.Entry.TheVariants.{Made}
use Rattle.map_model.specs.Map.{key_of}
use Rattle.index_machine.specs.declared.events.Action.TheVariants.{Lock, LoadValue, StoreValue}
use Rattle.index_machine.specs.declared.events.Action.TheVariants.{Unlock}
use Rattle.index_machine.specs.Execution.{Execution}
use Rattle.index_machine.specs.Forms.{Form, Locked, HasValueWord, is_removed}
use Rattle.index_machine.specs.Places.{form}
use Rattle.index_machine.specs.LivePlaces.{history, value_in_map}
use Rattle.index_machine.specs.RecordConditions.{IsAt}
use Rattle.index_rule.specs.declared.board.Board.{Board}
use Rattle.index_rule.specs.declared.hand.Hand.{Hand}
use Rattle.index_rule.specs.Hands.{IsHandOf, Makes, known, opening_of}
use Rattle.index_rule.specs.Moments.{AddsChange, AddsNoEntry}
use Rattle.index_rule.specs.Records.{HoldsLock, HoldsNoOther, MayRelease, Revives, change_by, key_at, or_zero, value_of}
use Rattle.index_rule.proofs.Calls.{HasBegun, begun_on, from_there, goes_on, is_within, up_to}
use Rattle.index_rule.proofs.RecordReading.{change_entry, no_entry, value_before}
use Rattle.index_rule.proofs.RecordStepping.{locked_after_store, locked_moment, no_lock_after_unlock}
use Rattle.index_rule.proofs.RecordStepping.{still_at, still_locked, still_no_other, value_found}
use Rattle.record_cell.specs.Finding.{HasSameKey, IsAtOwn, IsReadyAt}
use Rattle.record_cell.specs.Locking.{HasLocked}
use Rattle.record_cell.specs.Writes.{put_at, remove_at}
use Rattle.record_cell.proofs.Found.{key_after, still_at_own}
use Rattle.record_cell.proofs.FoundLoads.{finding_begins}

-- the hand holds the lock of the record of the place, which was removed or had the one value, and
-- has the other now
pub record Holds (b : Board) (h : Hand) (place at version : ℕ) (removed : Bool) (old value : ℕ) (k : Hand)
    : Type 0 where
  pub of : IsHandOf b k
  pub number : k.number ≡ h.number
  pub own : IsAtOwn (opening_of b) k.number place (known k)
  pub there : IsAt (opening_of b) k.number at (known k)
  pub locked : form (opening_of b) at (known k) ≡ Locked k.number version removed old value
  pub no_other : HoldsNoOther (opening_of b) k.number at (known k)
  pub same_key : HasSameKey b h place at k
  pub no_entry : AddsNoEntry h k
  pub begun : HasBegun h (known k)

-- so it does once the lock is taken
pub locked_holds : (b : Board) (h k : Hand) (place at : ℕ) → IsHandOf b h → k.number ≡ h.number →
    (l : HasLocked b h place at k) → Holds b h place at l.version false l.value l.value k
locked_holds b h k place at of number l =
    record {
      of = l.locks.of;
      number = number;
      own = l.own;
      there = l.there;
      locked = l.locked;
      no_other = l.no_other;
      same_key = l.same_key;
      no_entry = l.no_entry;
      begun = begun_on h (known l.found) (known k)
          (finding_begins b h l.found place at l.word of l.finds)
          (goes_on b l.found k (Lock at l.word) l.found_of l.locks);
    }

module _ (b : Board) (h k n : Hand) (place at version : ℕ) (removed : Bool) (old value : ℕ)
    (held : Holds b h place at version removed old value k) where
  -- the value that is loaded under the lock
  pub loaded_is : (y : ℕ) → Makes b k (LoadValue at y) n → value ≡ y
  loaded_is y m =
      subst (λ (f : Form). HasValueWord f y)
      (locked_moment b k n (LoadValue at y) held.of m at held.there version old value removed
      held.locked)
      (value_found b k n at y held.of m)

  pub loaded_holds : (y : ℕ) → Makes b k (LoadValue at y) n →
      Holds b h place at version removed old value n
  loaded_holds y m =
      record {
        of = m.of;
        number = m.number ∙ held.number;
        own = still_at_own b k n (LoadValue at y) place tt m held.of held.own;
        there = still_at b k n (LoadValue at y) held.of m tt at held.there;
        locked = still_locked b k n (LoadValue at y) held.of m (λ first p c f. refl) at held.there
            version old value removed held.locked;
        no_other = still_no_other b k n (LoadValue at y) held.of m (λ z. z) at held.no_other;
        same_key = key_after b h k n (LoadValue at y) place at tt m held.of held.there held.same_key;
        no_entry = no_entry b k n (LoadValue at y) held.of m (λ o t l. refl) ∙ held.no_entry;
        begun = begun_on h (known k) (known n) held.begun
            (goes_on b k n (LoadValue at y) held.of m);
      }

  -- the value that is stored under the lock
  pub stored_holds : (y : ℕ) → Makes b k (StoreValue at y) n →
      Holds b h place at version removed old y n
  stored_holds y m =
      record {
        of = m.of;
        number = m.number ∙ held.number;
        own = still_at_own b k n (StoreValue at y) place tt m held.of held.own;
        there = still_at b k n (StoreValue at y) held.of m tt at held.there;
        locked = locked_after_store b k n at y held.of m held.there version old value removed
            held.locked;
        no_other = still_no_other b k n (StoreValue at y) held.of m (λ z. z) at held.no_other;
        same_key = key_after b h k n (StoreValue at y) place at tt m held.of held.there held.same_key;
        no_entry = no_entry b k n (StoreValue at y) held.of m (λ o t l. refl) ∙ held.no_entry;
        begun = begun_on h (known k) (known n) held.begun
            (goes_on b k n (StoreValue at y) held.of m);
      }

  -- ---- the release ----

  pub holds_lock : HoldsLock (opening_of b) k.number at (known k)
  holds_lock =
      record { there = held.there; locked = (version, removed, old, value, held.locked) }

  pub may_release : (gone : Bool) →
      (removed ≡ false) ⊎ Revives (opening_of b) k.number at gone (known k) →
      MayRelease (opening_of b) k.number at gone (known k)
  may_release gone live =
      record {
        holds = holds_lock;
        live = ⊎_elim (λ (z : removed ≡ false). inl (ap is_removed held.locked ∙ z))
            (λ (z : Revives (opening_of b) k.number at gone (known k)). inr z) live;
      }

  pub same_key_at : key_at (opening_of b) at (known k) ≡ key_at (opening_of b) place (known h)
  same_key_at = ap or_zero held.same_key.2 ∙ sym (ap or_zero held.same_key.1)

  pub put_is : change_by (opening_of b) k.number at false (known k) ≡ put_at b h place value
  put_is = λ i. Put (held.number i) (same_key_at i) (value_of (held.locked i))

  pub remove_is : change_by (opening_of b) k.number at true (known k) ≡ remove_at b h place
  remove_is = λ i. Remove (held.number i) (same_key_at i)

  module _ (gone : Bool) (change : Change) (stored : ℕ)
      (m : Makes b k (Unlock at gone change stored) n) where
    pub released : IsReadyAt b n place
    released =
        record {
          of = m.of;
          at_own = still_at_own b k n (Unlock at gone change stored) place tt m held.of held.own;
          holds_none = no_lock_after_unlock b k n at stored gone change held.of m held.no_other;
        }

    -- the change is the next entry of the log, with the value that its key had just before
    pub adds_entry : (before : Option ℕ) →
        value_in_map (opening_of b) (key_of change) (m.acts.0 ++ known k) ≡ before →
        AddsChange b h change before n
    adds_entry before value_is =
        let moment : Execution = m.acts.0 ++ known k in (
          moment,
          is_within h n moment
              (begun_on h (known k) moment held.begun
              (up_to b k n (Unlock at gone change stored) held.of m))
              (from_there b k n (Unlock at gone change stored) held.of m),
          value_is,
          change_entry b k n at stored gone change held.of m
              ∙ (λ i. Made (length (history moment)) change (value_is i) ∷ held.no_entry i),
        )

    -- that is the value of the record, where it had one
    pub adds_change : removed ≡ false → key_of change ≡ key_at (opening_of b) place (known h) →
        AddsChange b h change (Some old) n
    adds_change live of_key =
        let o = opening_of b in
        let moment : Execution = m.acts.0 ++ known k in
        let key_is : key_of change ≡ held.same_key.0 = of_key ∙ ap or_zero held.same_key.1 in
        adds_entry (Some old)
        (ap (λ (z : ℕ). value_in_map o z moment) key_is
        ∙ value_before b k n at stored version old value held.same_key.0 gone change held.of m
        held.there held.same_key.2
        (held.locked ∙ ap (λ (z : Bool). Locked k.number version z old value) live))
