-- A row in a hand while others step.
--
-- The fact to remember: its words are written by that hand alone (held_words_on).
use Rattle.std.proofs.Common.{◌≡◌, ◌≢◌, ℕ, [], ◌∷◌, ◌++◌, refl, sym, ap, ◌∙◌}
use Rattle.word_layout.specs.declared.places.Part.{Part}
use Rattle.word_layout.specs.Words.{PlaceWord}
use Rattle.index_machine.specs.declared.events.Action.{Action}
use Rattle.index_machine.specs.declared.opening.Opening.{Opening}
use Rattle.index_machine.specs.Execution.{Execution, event, Without}
use Rattle.index_machine.specs.Words.{word}
use Rattle.index_machine.specs.Rows.{Holds, role_key}
use Rattle.index_machine.specs.Conditions.{Allowed, Valid}
use Rattle.index_machine.specs.RowLaws.{KeepsHeld}
use Rattle.index_machine.proofs.Placing.{placed, held_by-same, holds_on}
use Rattle.index_machine.proofs.Stores.{keyless_words}

held_words_step : (o : Opening) (t : Execution) (by : ℕ) (action : Action) → Valid o t →
    Allowed o t by action → (hand place : ℕ) → by ≢ hand → Holds o hand place t → (part : Part) →
    word o (event by action ∷ t) (PlaceWord place part) ≡ word o t (PlaceWord place part)
held_words_step o t by action valid may hand place differ mine part =
    keyless_words o t by action may place ((placed o t valid).held hand place mine).0
    (ap role_key mine) (λ theirs. differ (held_by-same (sym theirs ∙ mine))) part

pub held_words_on : (o : Opening) (hand place : ℕ) (newer t : Execution) → Valid o (newer ++ t) →
    Without hand newer → Holds o hand place t → (part : Part) →
    word o (newer ++ t) (PlaceWord place part) ≡ word o t (PlaceWord place part)
held_words_on o hand place [] t valid without mine part = refl
held_words_on o hand place (e ∷ newer) t valid without mine part =
    held_words_step o (newer ++ t) e.by e.action valid.1 valid.0 hand place without.0
    (holds_on o hand place newer t valid.1 without.1 mine) part
    ∙ held_words_on o hand place newer t valid.1 without.1 mine part

pub held_rows_stay : (o : Opening) (hand place : ℕ) (newer t : Execution) → Valid o (newer ++ t) →
    Without hand newer → Holds o hand place t → KeepsHeld o hand place newer t
held_rows_stay o hand place newer t valid without mine = (
  holds_on o hand place newer t valid without mine,
  held_words_on o hand place newer t valid without mine,
)
