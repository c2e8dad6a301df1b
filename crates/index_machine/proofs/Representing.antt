-- The words stand for the state, through the actions on epoch words, on the free stack and on rows
-- in hands.
use Rattle.std.proofs.Common.{◌≡◌, ◌≢◌, ℕ, Option, Some, None, cond, [], ◌∷◌}
use Rattle.std.proofs.Common.{refl, sym, ap, ◌∙◌, subst}
use Rattle.std.specs.Prelude.{◌==◌}
use mathlib.Core.Logic.{dite}
use native.Mathlib.Decide.{ℕ_discrete}
use Rattle.word_layout.specs.declared.places.Part.TheVariants as part
use Rattle.word_layout.specs.Words.{PlaceWord}
use Rattle.index_machine.specs.declared.events.Action.TheVariants.{LoadEpoch, Enter, Leave}
use Rattle.index_machine.specs.declared.events.Action.TheVariants.{LoadFree}
use Rattle.index_machine.specs.declared.events.Action.TheVariants.{LoadFreeLink, PopFree, FailPop}
use Rattle.index_machine.specs.declared.events.Action.TheVariants.{StorePrivate, PushFree, FailPush}
use Rattle.index_machine.specs.declared.events.Action.{Action}
use Rattle.index_machine.specs.declared.opening.Opening.{Opening}
use Rattle.index_machine.specs.Represents.{IsRepresented, Represents}
use Rattle.index_machine.specs.Execution.{Execution, event}
use Rattle.index_machine.specs.Words.{word}
use Rattle.index_machine.specs.Rows.{Role, Unused, HeldBy, role, role_key, Holds}
use Rattle.index_machine.specs.Forms.{HasValueWord, state_word}
use Rattle.index_machine.specs.OpeningRows.{opening_row, value_word, key_word, row_state_word}
use Rattle.index_machine.specs.Openings.{form_of_row}
use Rattle.index_machine.specs.Places.{first_version, form}
use Rattle.index_machine.proofs.Executions.{choice-same, choice-other}
use Rattle.index_machine.proofs.Options.{none_some}
use Rattle.index_machine.proofs.Stores.{store_apart}
use Rattle.index_machine.proofs.Counting.{counted}
use Rattle.index_machine.proofs.Linking.{linked}
use Rattle.index_machine.proofs.OpeningRows.{opening_role-keyed}

-- the action is on an epoch word, on the free stack or on a row in a hand
abbrev pub IsOnRowsOrEpochs : Action → Type 0
IsOnRowsOrEpochs (LoadEpoch caller found) = Unit {0}
IsOnRowsOrEpochs (Enter n) = Unit {0}
IsOnRowsOrEpochs (Leave n) = Unit {0}
IsOnRowsOrEpochs (LoadFree found) = Unit {0}
IsOnRowsOrEpochs (LoadFreeLink place found) = Unit {0}
IsOnRowsOrEpochs (PopFree place next) = Unit {0}
IsOnRowsOrEpochs (FailPop expected found) = Unit {0}
IsOnRowsOrEpochs (StorePrivate place at value) = Unit {0}
IsOnRowsOrEpochs (PushFree place head) = Unit {0}
IsOnRowsOrEpochs (FailPush place expected found) = Unit {0}
IsOnRowsOrEpochs _ = ⊥

-- the words of the table as it is opened stand for its state
abbrev pub OpeningIsRepresented : Type 0
OpeningIsRepresented = (o : Opening) → IsRepresented o []

-- the actions on epoch words, on the free stack and on rows in hands keep that
abbrev pub RowsAndEpochsRepresent : Type 0
RowsAndEpochsRepresent = (action : Action) → IsOnRowsOrEpochs action → Represents action

-- the state word of a row is that of its form
state_of_row : (first : ℕ) (r : Option (ℕ × ℕ)) →
    row_state_word first r ≡ state_word (form_of_row first r)
state_of_row first None = refl
state_of_row first (Some r) = refl

pub opening_represented : OpeningIsRepresented
opening_represented o =
    record {
      epochs = (counted o [] tt).count;
      free_rows = linked o [] tt;
      keys = λ place k e. ap key_word (opening_role-keyed o place k e).1;
      values = λ place keyed.
          subst (λ (r : Option (ℕ × ℕ)). HasValueWord (form_of_row (first_version o) r) (value_word r))
          (sym (opening_role-keyed o place keyed.0 keyed.1).1) refl;
      states = λ place keyed. state_of_row (first_version o) (opening_row o place);
      phases = λ group fresh. refl;
      slots = λ part side i. refl;
      root_word = λ part. refl;
    }

-- a key that a place has after a role without key was set was there before, at another place
pub key_before : (q p : ℕ) (u r : Role) (k : ℕ) → role_key u ≡ None →
    role_key (cond (q == p) u r) ≡ Some k → (q ≢ p) × (role_key r ≡ Some k)
key_before q p u r k none e = dite (ℕ_discrete q p)
    (λ (z : q ≡ p). none_some (sym none ∙ (ap role_key (sym (set_at z)) ∙ e)))
    (λ (n : q ≢ p). (n, ap role_key (sym (kept_at n)) ∙ e))
  where
    set_at : q ≡ p → cond (q == p) u r ≡ u
    set_at z = choice-same q p u r z

    kept_at : q ≢ p → cond (q == p) u r ≡ r
    kept_at n = choice-other q p u r n

-- a row in a hand is no place with a key
held_apart : (o : Opening) (t : Execution) (by q place k : ℕ) → Holds o by q t →
    role_key (role o place t) ≡ Some k → q ≢ place
held_apart o t by q place k mine keyed e =
    none_some (sym (ap role_key mine) ∙ ap (λ (p : ℕ). role_key (role o p t)) e ∙ keyed)

pub rows_represent : RowsAndEpochsRepresent
rows_represent (LoadEpoch caller found) is o t by valid old =
    let later : Execution = event by (LoadEpoch caller found) ∷ t in
    record {
      epochs = (counted o later valid).count;
      free_rows = linked o later valid;
      keys = old.keys;
      values = old.values;
      states = old.states;
      phases = old.phases;
      slots = old.slots;
      root_word = old.root_word;
    }
rows_represent (Enter n) is o t by valid old =
    let later : Execution = event by (Enter n) ∷ t in
    record {
      epochs = (counted o later valid).count;
      free_rows = linked o later valid;
      keys = old.keys;
      values = old.values;
      states = old.states;
      phases = old.phases;
      slots = old.slots;
      root_word = old.root_word;
    }
rows_represent (Leave n) is o t by valid old =
    let later : Execution = event by (Leave n) ∷ t in
    record {
      epochs = (counted o later valid).count;
      free_rows = linked o later valid;
      keys = old.keys;
      values = old.values;
      states = old.states;
      phases = old.phases;
      slots = old.slots;
      root_word = old.root_word;
    }
rows_represent (LoadFree found) is o t by valid old =
    let later : Execution = event by (LoadFree found) ∷ t in
    record {
      epochs = (counted o later valid).count;
      free_rows = linked o later valid;
      keys = old.keys;
      values = old.values;
      states = old.states;
      phases = old.phases;
      slots = old.slots;
      root_word = old.root_word;
    }
rows_represent (LoadFreeLink place found) is o t by valid old =
    let later : Execution = event by (LoadFreeLink place found) ∷ t in
    record {
      epochs = (counted o later valid).count;
      free_rows = linked o later valid;
      keys = old.keys;
      values = old.values;
      states = old.states;
      phases = old.phases;
      slots = old.slots;
      root_word = old.root_word;
    }
rows_represent (FailPop expected found) is o t by valid old =
    let later : Execution = event by (FailPop expected found) ∷ t in
    record {
      epochs = (counted o later valid).count;
      free_rows = linked o later valid;
      keys = old.keys;
      values = old.values;
      states = old.states;
      phases = old.phases;
      slots = old.slots;
      root_word = old.root_word;
    }
rows_represent (FailPush place expected found) is o t by valid old =
    let later : Execution = event by (FailPush place expected found) ∷ t in
    record {
      epochs = (counted o later valid).count;
      free_rows = linked o later valid;
      keys = old.keys;
      values = old.values;
      states = old.states;
      phases = old.phases;
      slots = old.slots;
      root_word = old.root_word;
    }
rows_represent (PopFree popped next) is o t by valid old =
    let later : Execution = event by (PopFree popped next) ∷ t in
    record {
      epochs = (counted o later valid).count;
      free_rows = linked o later valid;
      keys = λ place k e. old.keys place k (key_before popped place (HeldBy by)
          (role o place t) k refl e).1;
      values = λ place keyed.
          old.values place (
            keyed.0,
            (key_before popped place (HeldBy by)
                (role o place t) keyed.0 refl keyed.1).1,
          );
      states = λ place keyed.
          old.states place (
            keyed.0,
            (key_before popped place (HeldBy by)
                (role o place t) keyed.0 refl keyed.1).1,
          );
      phases = old.phases;
      slots = old.slots;
      root_word = old.root_word;
    }
rows_represent (PushFree pushed head) is o t by valid old =
    let later : Execution = event by (PushFree pushed head) ∷ t in
    record {
      epochs = (counted o later valid).count;
      free_rows = linked o later valid;
      keys = λ place k e. old.keys place k (key_before pushed place Unused
          (role o place t) k refl e).1;
      values = λ place keyed.
          old.values place (
            keyed.0,
            (key_before pushed place Unused
                (role o place t) keyed.0 refl keyed.1).1,
          );
      states = λ place keyed.
          old.states place (
            keyed.0,
            (key_before pushed place Unused
                (role o place t) keyed.0 refl keyed.1).1,
          );
      phases = old.phases;
      slots = old.slots;
      root_word = old.root_word;
    }
rows_represent (StorePrivate q at value) is o t by valid old =
    let later : Execution = event by (StorePrivate q at value) ∷ t in
    record {
      epochs = (counted o later valid).count;
      free_rows = linked o later valid;
      keys = λ place k e.
          store_apart q place value (word o t (PlaceWord place part.Key)) at part.Key
          (held_apart o t by q place k valid.0.held e)
          ∙ old.keys place k e;
      values = λ place keyed.
          subst (HasValueWord (form o place t))
          (sym (store_apart q place value (word o t (PlaceWord place part.Value)) at part.Value
          (held_apart o t by q place keyed.0 valid.0.held keyed.1)))
          (old.values place keyed);
      states = λ place keyed.
          store_apart q place value (word o t (PlaceWord place part.State)) at part.State
          (held_apart o t by q place keyed.0 valid.0.held keyed.1)
          ∙ old.states place keyed;
      phases = old.phases;
      slots = old.slots;
      root_word = old.root_word;
    }
rows_represent action is o t by valid old = absurd is
