-- The words stand for the state, through every action.
use Rattle.std.proofs.Common.{◌≡◌, ◌≢◌, ⊎_elim, ℕ, zero, suc, ◌+◌, Some}
use Rattle.std.proofs.Common.{false, cond, [], ◌∷◌, refl, sym, ap, ◌∙◌, subst}
use Rattle.std.specs.Prelude.{◌==◌, ◌&&◌}
use Rattle.word_layout.specs.declared.headers.HeaderWord.TheVariants as header
use Rattle.word_layout.specs.declared.phase.Phase.TheVariants.{Open, Frozen, Opened}
use Rattle.word_layout.specs.declared.places.Part.TheVariants as part
use Rattle.word_layout.specs.declared.state.State.TheVariants as state
use Rattle.word_layout.specs.Phase.{word_of_phase}
use Rattle.word_layout.specs.State.{word_of_state}
use Rattle.word_layout.specs.Words.{Root, Header, PlaceWord, SlotGroup}
use Rattle.map_model.specs.Map.{key_of}
use Rattle.index_machine.specs.declared.events.Action.TheVariants.{LoadEpoch, Enter, Leave}
use Rattle.index_machine.specs.declared.events.Action.TheVariants.{LoadFree, LoadFreeLink, PopFree}
use Rattle.index_machine.specs.declared.events.Action.TheVariants.{FailPop, StorePrivate, PushFree}
use Rattle.index_machine.specs.declared.events.Action.TheVariants.{FailPush}
use Rattle.index_machine.specs.declared.events.Action.TheVariants.{Lock}
use Rattle.index_machine.specs.declared.events.Action.TheVariants.{StoreValue, Unlock}
use Rattle.index_machine.specs.declared.events.Action.TheVariants.{LinkRow}
use Rattle.index_machine.specs.declared.events.Action.TheVariants.{Retire}
use Rattle.index_machine.specs.declared.events.Action.TheVariants.{Freeze, Thaw}
use Rattle.index_machine.specs.declared.events.Action.TheVariants.{StoreHeader, NewGroup}
use Rattle.index_machine.specs.declared.events.Action.TheVariants.{StoreArray}
use Rattle.index_machine.specs.declared.events.Action.TheVariants.{StoreRedirect, StoreOpened}
use Rattle.index_machine.specs.declared.events.Action.TheVariants.{Install, StoreSlot, Close, Copy}
use Rattle.index_machine.specs.declared.events.Action.TheVariants.{StoreDirect, StoreMoved}
use Rattle.index_machine.specs.declared.events.Action.TheVariants.{StoreUnusedGroup, StoreRoot}
use Rattle.index_machine.specs.declared.events.InstallWord.TheVariants.{NextOf, FirstSlot}
use Rattle.index_machine.specs.Execution.{Execution, event}
use Rattle.index_machine.specs.Words.{word}
use Rattle.index_machine.specs.Rows.{HeldBy, InArray, InBuffer, role, role_key}
use Rattle.index_machine.specs.Forms.{Form, Unlocked, Locked, Redirect, Moved}
use Rattle.index_machine.specs.Forms.{with_lock, with_value, without_lock, made_direct, copied_away}
use Rattle.index_machine.specs.Forms.{put_value, state_word, HasValueWord}
use Rattle.index_machine.specs.Places.{first_version, form}
use Rattle.index_machine.specs.Groups.{phase, slot, root}
use Rattle.index_machine.specs.Represents.{AllStepsRepresent}
use Rattle.index_machine.specs.Represents.{WordsStandForTheState, has_stale_phase}
use Rattle.index_machine.proofs.Stores.{store_apart}
use Rattle.index_machine.proofs.Counting.{counted}
use Rattle.index_machine.proofs.Linking.{linked}
use Rattle.index_machine.proofs.Representing.{key_before, rows_represent}
use Rattle.index_machine.proofs.Representing.{opening_represented}
use Rattle.index_machine.proofs.WordForms.{other, pick, locked_word, lock_value, value_word_kept}
use Rattle.index_machine.proofs.WordForms.{unlock_value, copied_word, copied_value, direct_value}
use Rattle.index_machine.proofs.WordForms.{value_if, value_set, state_if, phase_set, key_emptied}
use Rattle.index_machine.proofs.WordForms.{state_pick, state_store, value_pick, kept_key, key_pick}
use Rattle.index_machine.proofs.WordForms.{unused_key, stale_set, begun_phase, put_is}

-- ---- every action ----

pub all_represent : AllStepsRepresent
all_represent (LoadEpoch caller found) o t by valid old =
    rows_represent (LoadEpoch caller found) tt o t by valid old
all_represent (Enter n) o t by valid old =
    rows_represent (Enter n) tt o t by valid old
all_represent (Leave n) o t by valid old =
    rows_represent (Leave n) tt o t by valid old
all_represent (LoadFree found) o t by valid old =
    rows_represent (LoadFree found) tt o t by valid old
all_represent (LoadFreeLink place found) o t by valid old =
    rows_represent (LoadFreeLink place found) tt o t by valid old
all_represent (PopFree popped next) o t by valid old =
    rows_represent (PopFree popped next) tt o t by valid old
all_represent (FailPop expected found) o t by valid old =
    rows_represent (FailPop expected found) tt o t by valid old
all_represent (StorePrivate q at value) o t by valid old =
    rows_represent (StorePrivate q at value) tt o t by valid old
all_represent (PushFree pushed head) o t by valid old =
    rows_represent (PushFree pushed head) tt o t by valid old
all_represent (FailPush place expected found) o t by valid old =
    rows_represent (FailPush place expected found) tt o t by valid old
all_represent (Retire q next) o t by valid old =
    let later : Execution = event by (Retire q next) ∷ t in
    let may = valid.0 in
    record {
      epochs = (counted o later valid).count;
      free_rows = linked o later valid;
      keys = λ place k e. old.keys place k (key_before q place (HeldBy by)
          (role o place t) k refl e).1;
      values = λ place keyed. old.values place
          (keyed.0, (key_before q place (HeldBy by) (role o place t) keyed.0 refl keyed.1).1);
      states = λ place keyed. old.states place
          (keyed.0, (key_before q place (HeldBy by) (role o place t) keyed.0 refl keyed.1).1);
      phases = old.phases;
      slots = old.slots;
      root_word = old.root_word;
    }
all_represent (Freeze g) o t by valid old =
    let later : Execution = event by (Freeze g) ∷ t in
    let may = valid.0 in
    record {
      epochs = (counted o later valid).count;
      free_rows = linked o later valid;
      keys = old.keys;
      values = old.values;
      states = old.states;
      phases = λ group fresh.
          phase_set (g == group) (has_stale_phase group t) (word_of_phase Frozen)
          (word o t (Header group header.Phase)) Frozen (phase group t) refl
          (old.phases group) fresh;
      slots = old.slots;
      root_word = old.root_word;
    }
all_represent (Thaw g) o t by valid old =
    let later : Execution = event by (Thaw g) ∷ t in
    let may = valid.0 in
    record {
      epochs = (counted o later valid).count;
      free_rows = linked o later valid;
      keys = old.keys;
      values = old.values;
      states = old.states;
      phases = λ group fresh.
          phase_set (g == group) (has_stale_phase group t) (word_of_phase Open)
          (word o t (Header group header.Phase)) Open (phase group t) refl (old.phases group) fresh;
      slots = old.slots;
      root_word = old.root_word;
    }
all_represent (StoreOpened g f) o t by valid old =
    let later : Execution = event by (StoreOpened g f) ∷ t in
    let may = valid.0 in
    record {
      epochs = (counted o later valid).count;
      free_rows = linked o later valid;
      keys = old.keys;
      values = old.values;
      states = old.states;
      phases = λ group fresh.
          phase_set (g == group) (has_stale_phase group t) (word_of_phase (Opened f))
          (word o t (Header group header.Phase)) (Opened f) (phase group t) refl
          (old.phases group) fresh;
      slots = old.slots;
      root_word = old.root_word;
    }
all_represent (StoreHeader g header.Pivot value) o t by valid old =
    let later : Execution = event by (StoreHeader g header.Pivot value) ∷ t in
    let may = valid.0 in
    record {
      epochs = (counted o later valid).count;
      free_rows = linked o later valid;
      keys = old.keys;
      values = old.values;
      states = old.states;
      phases = λ group fresh.
          other (g == group) value (word o t (Header group header.Phase)) ∙ old.phases group fresh;
      slots = old.slots;
      root_word = old.root_word;
    }
all_represent (StoreHeader g header.Size value) o t by valid old =
    let later : Execution = event by (StoreHeader g header.Size value) ∷ t in
    let may = valid.0 in
    record {
      epochs = (counted o later valid).count;
      free_rows = linked o later valid;
      keys = old.keys;
      values = old.values;
      states = old.states;
      phases = λ group fresh.
          other (g == group) value (word o t (Header group header.Phase)) ∙ old.phases group fresh;
      slots = old.slots;
      root_word = old.root_word;
    }
all_represent (StoreHeader g header.LineError value) o t by valid old =
    let later : Execution = event by (StoreHeader g header.LineError value) ∷ t in
    let may = valid.0 in
    record {
      epochs = (counted o later valid).count;
      free_rows = linked o later valid;
      keys = old.keys;
      values = old.values;
      states = old.states;
      phases = λ group fresh.
          other (g == group) value (word o t (Header group header.Phase)) ∙ old.phases group fresh;
      slots = old.slots;
      root_word = old.root_word;
    }
all_represent (StoreHeader g header.Lanes value) o t by valid old =
    let later : Execution = event by (StoreHeader g header.Lanes value) ∷ t in
    let may = valid.0 in
    record {
      epochs = (counted o later valid).count;
      free_rows = linked o later valid;
      keys = old.keys;
      values = old.values;
      states = old.states;
      phases = λ group fresh.
          other (g == group) value (word o t (Header group header.Phase)) ∙ old.phases group fresh;
      slots = old.slots;
      root_word = old.root_word;
    }
all_represent (StoreHeader g (header.Head lane) value) o t by valid old =
    let later : Execution = event by (StoreHeader g (header.Head lane) value) ∷ t in
    let may = valid.0 in
    record {
      epochs = (counted o later valid).count;
      free_rows = linked o later valid;
      keys = old.keys;
      values = old.values;
      states = old.states;
      phases = λ group fresh.
          other (g == group) value (word o t (Header group header.Phase)) ∙ old.phases group fresh;
      slots = old.slots;
      root_word = old.root_word;
    }
all_represent (StoreHeader g (header.Cut lane) value) o t by valid old =
    let later : Execution = event by (StoreHeader g (header.Cut lane) value) ∷ t in
    let may = valid.0 in
    record {
      epochs = (counted o later valid).count;
      free_rows = linked o later valid;
      keys = old.keys;
      values = old.values;
      states = old.states;
      phases = λ group fresh.
          other (g == group) value (word o t (Header group header.Phase)) ∙ old.phases group fresh;
      slots = old.slots;
      root_word = old.root_word;
    }
all_represent (StoreHeader g header.Next value) o t by valid old =
    let later : Execution = event by (StoreHeader g header.Next value) ∷ t in
    let may = valid.0 in
    record {
      epochs = (counted o later valid).count;
      free_rows = linked o later valid;
      keys = old.keys;
      values = old.values;
      states = old.states;
      phases = λ group fresh.
          other (g == group) value (word o t (Header group header.Phase)) ∙ old.phases group fresh;
      slots = old.slots;
      root_word = old.root_word;
    }
all_represent (StoreHeader g header.FirstSpare value) o t by valid old =
    let later : Execution = event by (StoreHeader g header.FirstSpare value) ∷ t in
    let may = valid.0 in
    record {
      epochs = (counted o later valid).count;
      free_rows = linked o later valid;
      keys = old.keys;
      values = old.values;
      states = old.states;
      phases = λ group fresh.
          other (g == group) value (word o t (Header group header.Phase)) ∙ old.phases group fresh;
      slots = old.slots;
      root_word = old.root_word;
    }
all_represent (StoreHeader g header.SecondSpare value) o t by valid old =
    let later : Execution = event by (StoreHeader g header.SecondSpare value) ∷ t in
    let may = valid.0 in
    record {
      epochs = (counted o later valid).count;
      free_rows = linked o later valid;
      keys = old.keys;
      values = old.values;
      states = old.states;
      phases = λ group fresh.
          other (g == group) value (word o t (Header group header.Phase)) ∙ old.phases group fresh;
      slots = old.slots;
      root_word = old.root_word;
    }
all_represent (StoreHeader g header.Phase value) o t by valid old =
    let later : Execution = event by (StoreHeader g header.Phase value) ∷ t in
    let may = valid.0 in
    record {
      epochs = (counted o later valid).count;
      free_rows = linked o later valid;
      keys = old.keys;
      values = old.values;
      states = old.states;
      phases = λ group fresh.
          stale_set (g == group) (has_stale_phase group t) value
          (word o t (Header group header.Phase)) (word_of_phase (phase group t))
          (old.phases group) fresh;
      slots = old.slots;
      root_word = old.root_word;
    }
all_represent (StoreRoot q w) o t by valid old =
    let later : Execution = event by (StoreRoot q w) ∷ t in
    record {
      epochs = (counted o later valid).count;
      free_rows = linked o later valid;
      keys = old.keys;
      values = old.values;
      states = old.states;
      phases = old.phases;
      slots = old.slots;
      root_word = λ part. pick (q == part) w (word o t (Root part)) (root o part t) (old.root_word part);
    }
all_represent (StoreSlot q r j g) o t by valid old =
    let later : Execution = event by (StoreSlot q r j g) ∷ t in
    let may = valid.0 in
    record {
      epochs = (counted o later valid).count;
      free_rows = linked o later valid;
      keys = old.keys;
      values = old.values;
      states = old.states;
      phases = old.phases;
      slots = λ part side i.
          pick ((q == part) && ((r == side) && (j == i))) g (word o t (SlotGroup part side i))
          (slot o part side i t) (old.slots part side i);
      root_word = old.root_word;
    }
all_represent (StoreUnusedGroup q r j g) o t by valid old =
    let later : Execution = event by (StoreUnusedGroup q r j g) ∷ t in
    let may = valid.0 in
    record {
      epochs = (counted o later valid).count;
      free_rows = linked o later valid;
      keys = old.keys;
      values = old.values;
      states = old.states;
      phases = old.phases;
      slots = λ part side i.
          pick ((q == part) && ((r == side) && (j == i))) g (word o t (SlotGroup part side i))
          (slot o part side i t) (old.slots part side i);
      root_word = old.root_word;
    }
all_represent (Install (NextOf left) lead low high) o t by valid old =
    let later : Execution = event by (Install (NextOf left) lead low high) ∷ t in
    let may = valid.0 in
    record {
      epochs = (counted o later valid).count;
      free_rows = linked o later valid;
      keys = old.keys;
      values = old.values;
      states = old.states;
      phases = λ group fresh.
          other (left == group) (lead + 1) (word o t (Header group header.Phase))
          ∙ old.phases group fresh;
      slots = old.slots;
      root_word = old.root_word;
    }
all_represent (Install (FirstSlot q r) lead low high) o t by valid old =
    let later : Execution = event by (Install (FirstSlot q r) lead low high) ∷ t in
    let may = valid.0 in
    record {
      epochs = (counted o later valid).count;
      free_rows = linked o later valid;
      keys = old.keys;
      values = old.values;
      states = old.states;
      phases = old.phases;
      slots = λ part side i.
          pick ((q == part) && ((r == side) && (0 == i))) lead (word o t (SlotGroup part side i))
          (slot o part side i t) (old.slots part side i);
      root_word = old.root_word;
    }
all_represent (NewGroup g low high first) o t by valid old =
    let later : Execution = event by (NewGroup g low high first) ∷ t in
    let may = valid.0 in
    record {
      epochs = (counted o later valid).count;
      free_rows = linked o later valid;
      keys = λ place k e. old.keys place k (key_emptied g (role o place t) k e);
      values = λ place keyed. old.values place
          (keyed.0, key_emptied g (role o place t) keyed.0 keyed.1);
      states = λ place keyed. old.states place
          (keyed.0, key_emptied g (role o place t) keyed.0 keyed.1);
      phases = λ group fresh.
          begun_phase g group low (word o t (Header group header.Phase)) (phase group t)
          (has_stale_phase group t)
          (λ z. subst (λ (y : ℕ). word o t (Header y header.Phase) ≡ word_of_phase Open) z
          may.phase_word)
          (old.phases group) fresh;
      slots = old.slots;
      root_word = old.root_word;
    }
all_represent (Lock q x) o t by valid old =
    let later : Execution = event by (Lock q x) ∷ t in
    let may = valid.0 in
    record {
      epochs = (counted o later valid).count;
      free_rows = linked o later valid;
      keys = λ place k e. other (q == place) (x + 4) (word o t (PlaceWord place part.Key))
          ∙ old.keys place k e;
      values = λ place keyed.
          subst (HasValueWord (cond (q == place) (with_lock by (form o place t)) (form o place t)))
          (sym (other (q == place) (x + 4) (word o t (PlaceWord place part.Value))))
          (value_if (q == place) (with_lock by (form o place t)) (form o place t)
          (word o t (PlaceWord place part.Value))
          (lock_value by (form o place t) (word o t (PlaceWord place part.Value))
          (old.values place keyed)) (old.values place keyed));
      states = λ place keyed.
          state_store q place (x + 4) (word o t (PlaceWord place part.State))
          (with_lock by (form o place t)) (form o place t)
          (λ z.
          ap (λ (n : ℕ). n + 4) (sym may.found_word)
          ∙ (locked_word by (form o q t) (may.version, may.removed, may.value, may.unlocked)
          ∙ ap (λ (p : ℕ). state_word (with_lock by (form o p t))) z))
          (λ m. old.states place keyed);
      phases = old.phases;
      slots = old.slots;
      root_word = old.root_word;
    }
all_represent (Close q x) o t by valid old =
    let later : Execution = event by (Close q x) ∷ t in
    let may = valid.0 in
    record {
      epochs = (counted o later valid).count;
      free_rows = linked o later valid;
      keys = λ place k e. other (q == place) (x + 4) (word o t (PlaceWord place part.Key))
          ∙ old.keys place k e;
      values = λ place keyed.
          subst (HasValueWord (cond (q == place) (with_lock by (form o place t)) (form o place t)))
          (sym (other (q == place) (x + 4) (word o t (PlaceWord place part.Value))))
          (value_if (q == place) (with_lock by (form o place t)) (form o place t)
          (word o t (PlaceWord place part.Value))
          (lock_value by (form o place t) (word o t (PlaceWord place part.Value))
          (old.values place keyed)) (old.values place keyed));
      states = λ place keyed.
          state_store q place (x + 4) (word o t (PlaceWord place part.State))
          (with_lock by (form o place t)) (form o place t)
          (λ z.
          ap (λ (n : ℕ). n + 4) (sym may.found_word)
          ∙ (locked_word by (form o q t) may.unlocked
          ∙ ap (λ (p : ℕ). state_word (with_lock by (form o p t))) z))
          (λ m. old.states place keyed);
      phases = old.phases;
      slots = old.slots;
      root_word = old.root_word;
    }
all_represent (StoreValue q y) o t by valid old =
    let later : Execution = event by (StoreValue q y) ∷ t in
    let may = valid.0 in
    record {
      epochs = (counted o later valid).count;
      free_rows = linked o later valid;
      keys = λ place k e. other (q == place) y (word o t (PlaceWord place part.Key))
          ∙ old.keys place k e;
      values = λ place keyed.
          value_set q place y (word o t (PlaceWord place part.Value))
          (with_value y (form o place t)) (form o place t)
          (λ z.
          let l = may.1 in let is : form o place t ≡ Locked by l.0 l.1 l.2 l.3 =
          ap (λ (p : ℕ). form o p t) (sym z) ∙ l.4 in
          subst (λ (f : Form). HasValueWord (with_value y f) y) (sym is) refl)
          (old.values place keyed);
      states = λ place keyed.
          other (q == place) y (word o t (PlaceWord place part.State))
          ∙ state_if (q == place) (word o t (PlaceWord place part.State))
          (with_value y (form o place t)) (form o place t)
          (old.states place keyed ∙ sym (value_word_kept y (form o place t)))
          (old.states place keyed);
      phases = old.phases;
      slots = old.slots;
      root_word = old.root_word;
    }
all_represent (Copy q y) o t by valid old =
    let later : Execution = event by (Copy q y) ∷ t in
    let may = valid.0 in
    record {
      epochs = (counted o later valid).count;
      free_rows = linked o later valid;
      keys = λ place k e. other (q == place) y (word o t (PlaceWord place part.Key))
          ∙ old.keys place k e;
      values = λ place keyed.
          value_set q place y (word o t (PlaceWord place part.Value))
          (with_value y (form o place t)) (form o place t)
          (λ z.
          let is : form o place t ≡ Redirect may.place may.value =
          ap (λ (p : ℕ). form o p t) (sym z) ∙ may.forwards in
          subst (λ (f : Form). HasValueWord (with_value y f) y) (sym is) refl)
          (old.values place keyed);
      states = λ place keyed.
          other (q == place) y (word o t (PlaceWord place part.State))
          ∙ state_if (q == place) (word o t (PlaceWord place part.State))
          (with_value y (form o place t)) (form o place t)
          (old.states place keyed ∙ sym (value_word_kept y (form o place t)))
          (old.states place keyed);
      phases = old.phases;
      slots = old.slots;
      root_word = old.root_word;
    }
all_represent (Unlock q r d w) o t by valid old =
    let later : Execution = event by (Unlock q r d w) ∷ t in
    let may = valid.0 in
    record {
      epochs = (counted o later valid).count;
      free_rows = linked o later valid;
      keys = λ place k e. other (q == place) w (word o t (PlaceWord place part.Key))
          ∙ old.keys place k e;
      values = λ place keyed.
          subst (HasValueWord (cond (q == place) (without_lock r (form o place t))
          (form o place t)))
          (sym (other (q == place) w (word o t (PlaceWord place part.Value))))
          (value_if (q == place) (without_lock r (form o place t)) (form o place t)
          (word o t (PlaceWord place part.Value))
          (unlock_value r (form o place t) (word o t (PlaceWord place part.Value))
          (old.values place keyed)) (old.values place keyed));
      states = λ place keyed.
          state_store q place w (word o t (PlaceWord place part.State))
          (without_lock r (form o place t)) (form o place t)
          (λ z. may.2 ∙ ap (λ (p : ℕ). state_word (without_lock r (form o p t))) z)
          (λ m. old.states place keyed);
      phases = old.phases;
      slots = old.slots;
      root_word = old.root_word;
    }
all_represent (StoreMoved q) o t by valid old =
    let later : Execution = event by (StoreMoved q) ∷ t in
    let may = valid.0 in
    record {
      epochs = (counted o later valid).count;
      free_rows = linked o later valid;
      keys = λ place k e. other (q == place) (word_of_state state.Moved)
          (word o t (PlaceWord place part.Key)) ∙ old.keys place k e;
      values = λ place keyed.
          subst (HasValueWord (cond (q == place) Moved (form o place t)))
          (sym (other (q == place) (word_of_state state.Moved)
          (word o t (PlaceWord place part.Value))))
          (value_if (q == place) Moved (form o place t) (word o t (PlaceWord place part.Value)) tt
          (old.values place keyed));
      states = λ place keyed.
          state_store q place (word_of_state state.Moved)
          (word o t (PlaceWord place part.State)) Moved (form o place t) (λ z. refl)
          (λ m. old.states place keyed);
      phases = old.phases;
      slots = old.slots;
      root_word = old.root_word;
    }
all_represent (StoreDirect q from k r w) o t by valid old =
    let later : Execution = event by (StoreDirect q from k r w) ∷ t in
    let may = valid.0 in
    record {
      epochs = (counted o later valid).count;
      free_rows = linked o later valid;
      keys = λ place j e. other (q == place) w (word o t (PlaceWord place part.Key))
          ∙ old.keys place j e;
      values = λ place keyed.
          subst (HasValueWord (cond (q == place) (made_direct (first_version o) r (form o place t))
          (cond (from == place) (copied_away (form o place t)) (form o place t))))
          (sym (other (q == place) w (word o t (PlaceWord place part.Value))))
          (value_if (q == place) (made_direct (first_version o) r (form o place t))
          (cond (from == place) (copied_away (form o place t)) (form o place t))
          (word o t (PlaceWord place part.Value))
          (direct_value (first_version o) r (form o place t) (word o t (PlaceWord place part.Value))
          (old.values place keyed))
          (value_if (from == place) (copied_away (form o place t)) (form o place t)
          (word o t (PlaceWord place part.Value))
          (copied_value (form o place t) (word o t (PlaceWord place part.Value))
          (old.values place keyed)) (old.values place keyed)));
      states = λ place keyed.
          state_store q place w (word o t (PlaceWord place part.State))
          (made_direct (first_version o) r (form o place t))
          (cond (from == place) (copied_away (form o place t)) (form o place t))
          (λ z.
          let is : form o place t ≡ Redirect from may.value =
          ap (λ (p : ℕ). form o p t) (sym z) ∙ may.forwards in
          may.stored_word
          ∙ ap (λ (f : Form). state_word (made_direct (first_version o) r f)) (sym is))
          (λ m.
          state_if (from == place) (word o t (PlaceWord place part.State))
          (copied_away (form o place t)) (form o place t)
          (old.states place keyed ∙ sym (copied_word (form o place t)))
          (old.states place keyed));
      phases = old.phases;
      slots = old.slots;
      root_word = old.root_word;
    }
all_represent (StoreArray g q at value) o t by valid old =
    let later : Execution = event by (StoreArray g q at value) ∷ t in
    let may = valid.0 in
    record {
      epochs = (counted o later valid).count;
      free_rows = linked o later valid;
      keys = λ place k e. store_apart q place value
          (word o t (PlaceWord place part.Key)) at part.Key (unused_key o t q place k may.unused e)
          ∙ old.keys place k e;
      values = λ place keyed.
          subst (HasValueWord (form o place t))
          (sym (store_apart q place value (word o t (PlaceWord place part.Value)) at part.Value
          (unused_key o t q place keyed.0 may.unused keyed.1)))
          (old.values place keyed);
      states = λ place keyed. store_apart q place value
          (word o t (PlaceWord place part.State)) at part.State
          (unused_key o t q place keyed.0 may.unused keyed.1) ∙ old.states place keyed;
      phases = old.phases;
      slots = old.slots;
      root_word = old.root_word;
    }
all_represent (StoreRedirect g q k to) o t by valid old =
    let later : Execution = event by (StoreRedirect g q k to) ∷ t in
    let may = valid.0 in
    record {
      epochs = (counted o later valid).count;
      free_rows = linked o later valid;
      keys = λ place j e.
          other (q == place) (word_of_state (state.Redirect to))
          (word o t (PlaceWord place part.Key))
          ∙ ⊎_elim
          (λ (z : (q ≡ place) × (k ≡ j)).
          ap (λ (p : ℕ). word o t (PlaceWord p part.Key)) (sym z.0) ∙ (may.key_word ∙ z.1))
          (λ (z : (q ≢ place) × (role_key (role o place t) ≡ Some j)). old.keys place j z.1)
          (key_pick q place (InArray g k) (role o place t) k j refl e);
      values = λ place keyed.
          subst (HasValueWord (cond (q == place) (Redirect to 0) (form o place t)))
          (sym (other (q == place) (word_of_state (state.Redirect to))
          (word o t (PlaceWord place part.Value))))
          (value_pick q place (word o t (PlaceWord place part.Value)) (Redirect to 0)
          (form o place t)
          (λ z. sym (ap (λ (p : ℕ). word o t (PlaceWord p part.Value)) (sym z) ∙ may.value_word))
          (λ m. old.values place (
            keyed.0,
            kept_key q place (InArray g k)
                (role o place t) keyed.0 m keyed.1,
          )));
      states = λ place keyed.
          state_store q place (word_of_state (state.Redirect to))
          (word o t (PlaceWord place part.State)) (Redirect to 0) (form o place t) (λ z. refl)
          (λ m. old.states place (
            keyed.0,
            kept_key q place (InArray g k)
                (role o place t) keyed.0 m keyed.1,
          ));
      phases = old.phases;
      slots = old.slots;
      root_word = old.root_word;
    }
all_represent (LinkRow g lane q d zero next) o t by valid old =
    let later : Execution = event by (LinkRow g lane q d zero next) ∷ t in
    let may = valid.0 in
    record {
      epochs = (counted o later valid).count;
      free_rows = linked o later valid;
      keys = λ place k e.
          ⊎_elim
          (λ (z : (q ≡ place) × (key_of d ≡ k)).
          ap (λ (p : ℕ). word o t (PlaceWord p part.Key)) (sym z.0) ∙ (may.key_word ∙ z.1))
          (λ (z : (q ≢ place) × (role_key (role o place t) ≡ Some k)). old.keys place k z.1)
          (key_pick q place (InBuffer g (key_of d)) (role o place t) (key_of d) k refl e);
      values = λ place keyed.
          value_pick q place (word o t (PlaceWord place part.Value))
          (Unlocked (first_version o) false (put_value d)) (form o place t)
          (λ z.
          put_is by may.value d may.makes
          ∙ sym (ap (λ (p : ℕ). word o t (PlaceWord p part.Value)) (sym z) ∙ may.value_word))
          (λ m. old.values place (
            keyed.0,
            kept_key q place (InBuffer g (key_of d))
                (role o place t) keyed.0 m keyed.1,
          ));
      states = λ place keyed.
          state_pick q place (word o t (PlaceWord place part.State))
          (Unlocked (first_version o) false (put_value d)) (form o place t)
          (λ z. ap (λ (p : ℕ). word o t (PlaceWord p part.State)) (sym z) ∙ may.new_word)
          (λ m. old.states place (
            keyed.0,
            kept_key q place (InBuffer g (key_of d))
                (role o place t) keyed.0 m keyed.1,
          ));
      phases = λ group fresh.
          other (g == group) q (word o t (Header group header.Phase)) ∙ old.phases group fresh;
      slots = old.slots;
      root_word = old.root_word;
    }
all_represent (LinkRow g lane q d (suc n) next) o t by valid old =
    let later : Execution = event by (LinkRow g lane q d (suc n) next) ∷ t in
    let may = valid.0 in
    record {
      epochs = (counted o later valid).count;
      free_rows = linked o later valid;
      keys = λ place k e.
          other (suc n == place) q (word o t (PlaceWord place part.Key)) ∙ ⊎_elim
          (λ (z : (q ≡ place) × (key_of d ≡ k)).
          ap (λ (p : ℕ). word o t (PlaceWord p part.Key)) (sym z.0) ∙ (may.key_word ∙ z.1))
          (λ (z : (q ≢ place) × (role_key (role o place t) ≡ Some k)). old.keys place k z.1)
          (key_pick q place (InBuffer g (key_of d)) (role o place t) (key_of d) k refl e);
      values = λ place keyed.
          subst (HasValueWord (cond (q == place) (Unlocked (first_version o) false (put_value d))
          (form o place t)))
          (sym (other (suc n == place) q (word o t (PlaceWord place part.Value))))
          (value_pick q place (word o t (PlaceWord place part.Value))
          (Unlocked (first_version o) false (put_value d)) (form o place t)
          (λ z.
          put_is by may.value d may.makes
          ∙ sym (ap (λ (p : ℕ). word o t (PlaceWord p part.Value)) (sym z) ∙ may.value_word))
          (λ m. old.values place (
            keyed.0,
            kept_key q place (InBuffer g (key_of d))
                (role o place t) keyed.0 m keyed.1,
          )));
      states = λ place keyed.
          other (suc n == place) q (word o t (PlaceWord place part.State))
          ∙ state_pick q place (word o t (PlaceWord place part.State))
          (Unlocked (first_version o) false (put_value d)) (form o place t)
          (λ z. ap (λ (p : ℕ). word o t (PlaceWord p part.State)) (sym z) ∙ may.new_word)
          (λ m. old.states place (
            keyed.0,
            kept_key q place (InBuffer g (key_of d))
                (role o place t) keyed.0 m keyed.1,
          ));
      phases = old.phases;
      slots = old.slots;
      root_word = old.root_word;
    }
all_represent action o t by valid old =
    let later : Execution = event by action ∷ t in
    record {
      epochs = (counted o later valid).count;
      free_rows = linked o later valid;
      keys = old.keys;
      values = old.values;
      states = old.states;
      phases = old.phases;
      slots = old.slots;
      root_word = old.root_word;
    }

-- so the words always stand for the state
pub represented : WordsStandForTheState
represented o [] valid = opening_represented o
represented o (e ∷ t) valid =
    all_represent e.action o t e.by valid (represented o t valid.1)
