-- What a change of a record did, and what its answer tells.
use Rattle.std.specs.Prelude.{◌≡◌, ◌≢◌, ℕ, Bool, ◌+◌, ◌≤◌, true, false, Some, None, List, [], ◌∷◌}
use Rattle.map_model.specs.declared.entries.Change.{Change}
use Rattle.map_model.specs.declared.entries.Change.TheVariants.{Put, Remove}
use Rattle.map_model.specs.History.{changes_at}
use Rattle.word_layout.specs.State.{word_of_state}
use Rattle.word_layout.specs.declared.state.State.TheVariants.{Direct}
use Rattle.index_machine.specs.declared.events.Action.{Action}
use Rattle.index_machine.specs.declared.events.Action.TheVariants.{LoadValue, Lock, FailLock}
use Rattle.index_machine.specs.declared.events.Action.TheVariants.{StoreValue, Unlock}
use Rattle.index_machine.specs.Execution.{Execution}
use Rattle.index_machine.specs.Forms.{last_version}
use Rattle.index_machine.specs.Places.{first_version}
use Rattle.index_machine.specs.LivePlaces.{history}
use Rattle.index_rule.specs.declared.board.Board.{Board}
use Rattle.index_rule.specs.declared.hand.Hand.{Hand}
use Rattle.index_rule.specs.Hands.{Makes, MakesAll, known, opening_of}
use Rattle.index_rule.specs.Moments.{IsWithin, AddsChange, AddsNoEntry}
use Rattle.index_rule.specs.Records.{key_at}
use Rattle.record_cell.specs.declared.answers.Wrote.{Wrote}
use Rattle.record_cell.specs.declared.answers.Wrote.TheVariants as wrote
use Rattle.record_cell.specs.Conditions.{IsLockedState, IsTombstoneState, IsChangeable}
use Rattle.record_cell.specs.Finding.{Finds, HasSameKey}
use Rattle.record_cell.specs.Reads.{FindsNone, FindsLock}

-- ---- changes ----

-- the hand's put of this value at the key of the place
abbrev pub put_at : Board → Hand → ℕ → ℕ → Change
put_at b h place value = Put h.number (key_at (opening_of b) place (known h)) value

-- the hand's remove of the key of the place
abbrev pub remove_at : Board → Hand → ℕ → Change
remove_at b h place = Remove h.number (key_at (opening_of b) place (known h))

-- the steps of a change under the version lock, the newest first: a put stores its value, and a
-- remove none
abbrev pub changing : ℕ → ℕ → ℕ → Change → ℕ → List Action
changing at word old (Put c k value) stored =
    Unlock at false (Put c k value) stored ∷ StoreValue at value ∷ LoadValue at old ∷ Lock at word
    ∷ []
changing at word old (Remove c k) stored =
    Unlock at true (Remove c k) stored ∷ LoadValue at old ∷ Lock at word ∷ []

-- the state word of the last version, of a record that is removed or not
abbrev pub worn_word : Bool → ℕ
worn_word removed = word_of_state (Direct last_version false removed)

-- ---- the steps ----

-- the steps of an update or a removal, by its answer; the causes are tried in this order
abbrev pub Writes : Board → Hand → ℕ → Change → Wrote → Hand → Type 0
Writes b h place change (wrote.Done None) k = ⊥
Writes b h place change (wrote.Done (Some old)) k =
    (at : ℕ) × (word : ℕ) × (stored : ℕ) × (m : Hand) × Finds b h place at word m
    × IsChangeable false word × MakesAll b m (changing at word old change stored) k
Writes b h place change (wrote.Locked at word) k = Finds b h place at word k × IsLockedState word
Writes b h place change (wrote.Gone word) k =
    (at : ℕ) × Finds b h place at word k × IsTombstoneState word
Writes b h place change (wrote.Worn at word) k =
    Finds b h place at word k × (word ≡ worn_word false)
Writes b h place change (wrote.Raced at expected found) k =
    (m : Hand) × Finds b h place at expected m × IsChangeable false expected
    × Makes b m (FailLock at expected found) k × (expected ≢ found)
Writes b h place change (wrote.Live word) k = ⊥

-- ---- what the answer tells ----

-- at a moment of the call the key had at least as many changes as raise a version from the first to the
-- last
abbrev pub FindsLastVersion : Board → Hand → ℕ → Hand → Type 0
FindsLastVersion b h place k =
    (moment : Execution) × IsWithin h k moment
    × (last_version ≤ first_version (opening_of b)
    + changes_at (key_at (opening_of b) place (known h)) (history moment))

-- what the answer of an update or a removal tells of the key, and the entry that it added
abbrev pub WriteTells : Board → Hand → ℕ → Change → Wrote → Hand → Type 0
WriteTells b h place change (wrote.Done old) k = AddsChange b h change old k
WriteTells b h place change (wrote.Locked at word) k =
    AddsNoEntry h k × FindsLock b h place at k
WriteTells b h place change (wrote.Gone word) k = AddsNoEntry h k × FindsNone b h place k
WriteTells b h place change (wrote.Worn at word) k =
    AddsNoEntry h k × FindsLastVersion b h place k × HasSameKey b h place at k
WriteTells b h place change (wrote.Raced at expected found) k =
    AddsNoEntry h k × HasSameKey b h place at k
WriteTells b h place change (wrote.Live word) k = ⊥
