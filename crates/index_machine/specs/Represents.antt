-- When the words stand for the state: a fact for each kind of word but those of buffers and of the chain.
--
-- A hand learns the state from the words that it loads, so each of its conditions is shown from
-- these facts. The lanes of the buffers, their lists and the chain of the groups have their own laws.
use Rattle.std.specs.Prelude.{◌≡◌, ℕ, ◌%◌, ◌^◌, Bool, true, false, cond, ◌==◌, Some, []}
use Rattle.std.specs.Prelude.{◌∷◌}
use Rattle.word_layout.specs.declared.headers.HeaderWord.TheVariants as header
use Rattle.word_layout.specs.declared.places.Part.TheVariants as part
use Rattle.word_layout.specs.declared.phase.Phase.{Phase}
use Rattle.word_layout.specs.declared.phase.Phase.TheVariants.{Open, Frozen, Opened}
use Rattle.word_layout.specs.Phase.{word_of_phase}
use Rattle.word_layout.specs.Words.{Root, Epoch, SlotGroup, Header, PlaceWord}
use Rattle.index_machine.specs.declared.events.Action.{Action}
use Rattle.index_machine.specs.declared.events.Action.TheVariants.{Freeze, Thaw, StoreHeader}
use Rattle.index_machine.specs.declared.events.Action.TheVariants.{NewGroup}
use Rattle.index_machine.specs.declared.events.Action.TheVariants.{StoreOpened}
use Rattle.index_machine.specs.declared.opening.Opening.{Opening}
use Rattle.index_machine.specs.Execution.{Execution, event}
use Rattle.index_machine.specs.Words.{word}
use Rattle.index_machine.specs.Sections.{IsCaller, crossings}
use Rattle.index_machine.specs.Rows.{role, role_key}
use Rattle.index_machine.specs.Forms.{state_word, HasValueWord}
use Rattle.index_machine.specs.Places.{form}
use Rattle.index_machine.specs.Groups.{phase, slot, root}
use Rattle.index_machine.specs.RecordConditions.{HasKey}
use Rattle.index_machine.specs.Conditions.{Valid}
use Rattle.index_machine.specs.RowLaws.{IsLinked}

-- ---- phase words that nobody reads ----

-- whether the phase is that of a group opened to this rebuild
abbrev pub is_opened_to : ℕ → Phase → Bool
is_opened_to first Open = false
is_opened_to first Frozen = false
is_opened_to first (Opened f) = f == first

-- whether the phase word is one that nobody reads, after an action, where the group had this phase
abbrev pub has_stale_phase_after : ℕ → Phase → Action → Bool → Bool
has_stale_phase_after group x (Freeze g) b = cond (g == group) false b
has_stale_phase_after group x (Thaw g) b = cond (g == group) false b
has_stale_phase_after group x (StoreOpened g first) b = cond (g == group) false b
has_stale_phase_after group x (StoreHeader g header.Phase value) b = cond (g == group) true b
has_stale_phase_after group x (NewGroup g low high first) b =
    cond (g == group) false (cond (is_opened_to g x) true b)
has_stale_phase_after group x _ b = b

-- the phase word of a group that is out of the chain still names a rebuild whose name was used
-- again, or was written for the next group of its row
abbrev pub has_stale_phase : ℕ → Execution → Bool
has_stale_phase group [] = false
has_stale_phase group (e ∷ t) =
    has_stale_phase_after group (phase group t) e.action (has_stale_phase group t)

-- ---- the words ----

-- the words stand for the state
pub record IsRepresented (o : Opening) (t : Execution) : Type 0 where
  pub epochs : (caller : ℕ) → IsCaller o caller →
      word o t (Epoch caller) ≡ crossings caller t % 2 ^ 64
  pub free_rows : IsLinked o t
  pub keys : (place k : ℕ) → role_key (role o place t) ≡ Some k →
      word o t (PlaceWord place part.Key) ≡ k
  pub values : (place : ℕ) → HasKey o place t →
      HasValueWord (form o place t) (word o t (PlaceWord place part.Value))
  pub states : (place : ℕ) → HasKey o place t →
      word o t (PlaceWord place part.State) ≡ state_word (form o place t)
  pub phases : (group : ℕ) → has_stale_phase group t ≡ false →
      word o t (Header group header.Phase) ≡ word_of_phase (phase group t)
  pub slots : (part side i : ℕ) → word o t (SlotGroup part side i) ≡ slot o part side i t
  pub root_word : (part : ℕ) → word o t (Root part) ≡ root o part t

-- an action of this kind leaves words that stand for the state
abbrev pub Represents : Action → Type 0
Represents action =
    (o : Opening) (t : Execution) (by : ℕ) → Valid o (event by action ∷ t) → IsRepresented o t →
    IsRepresented o (event by action ∷ t)

-- ---- the laws ----

-- every action leaves words that stand for the state
abbrev pub AllStepsRepresent : Type 0
AllStepsRepresent = (action : Action) → Represents action

-- so the words always stand for the state
abbrev pub WordsStandForTheState : Type 0
WordsStandForTheState = (o : Opening) (t : Execution) → Valid o t → IsRepresented o t
