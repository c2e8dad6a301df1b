-- What linking a row into a lane of a buffer needs and does.
use Rattle.std.specs.Prelude.{◌≡◌, ◌≢◌, ℕ, None, [], ◌∷◌, ◌++◌}
use Rattle.map_model.specs.declared.entries.Change.{Change}
use Rattle.map_model.specs.Map.{look}
use Rattle.word_layout.specs.declared.places.Part.TheVariants.{Link}
use Rattle.word_layout.specs.Words.{PlaceWord}
use Rattle.index_machine.specs.declared.events.Action.{Action}
use Rattle.index_machine.specs.declared.events.Action.TheVariants.{FailLink, LinkRow, StorePrivate}
use Rattle.index_machine.specs.declared.opening.Opening.{Opening}
use Rattle.index_machine.specs.Conditions.{Valid}
use Rattle.index_machine.specs.Execution.{Execution}
use Rattle.index_machine.specs.Permissions.{MayInsertInto}
use Rattle.index_machine.specs.Rows.{InBuffer, role}
use Rattle.index_machine.specs.Sections.{IsCaller}
use Rattle.index_machine.specs.Words.{word}
use Rattle.machine_readers.specs.Buffers.{rows}
use Rattle.machine_buffers.specs.Inserting.{IsNewKeyFor}
use Rattle.index_rule.specs.declared.board.Board.{Board}
use Rattle.index_rule.specs.declared.hand.Hand.{Hand}
use Rattle.index_rule.specs.declared.swap.Linked.{Linked}
use Rattle.index_rule.specs.declared.swap.Linked.TheVariants as linked
use Rattle.index_rule.specs.Buffers.{IsFilled, inserted_by, key_in}
use Rattle.index_rule.specs.Hands.{MakesAll, known, opening_of}
use Rattle.index_rule.specs.Moments.{AddsChange, AddsNoEntry}
use Rattle.index_rule.specs.OwnRows.{place_of_private}
use Rattle.index_rule.specs.Elsewhere.{HasNoneElsewhere}
use Rattle.delta_buffer.specs.Searching.{BelongsBetween}

-- ---- what it needs ----

-- the action stores a word of the hand's own row
abbrev pub IsPrivateStore : Action → Type 0
IsPrivateStore (StorePrivate place part value) = Unit {0}
IsPrivateStore _ = ⊥

-- the hand itself only stores into its own row
abbrev pub OnlyStores : ℕ → Execution → Type 0
OnlyStores hand [] = Unit {0}
OnlyStores hand (e ∷ newer) = (e.by ≡ hand → IsPrivateStore e.action) × OnlyStores hand newer

-- whatever others do until the row is linked: if the key has no row in the buffer, it belongs there and
-- has no value anywhere
abbrev pub BelongsUntilLinked : Opening → ℕ → ℕ → ℕ → Execution → Type 0
BelongsUntilLinked o hand group key t =
    (newer : Execution) → Valid o (newer ++ t) → OnlyStores hand newer →
    look (rows group (newer ++ t)) key ≡ None →
    IsNewKeyFor o key group (newer ++ t)

-- the caller's row is filled, its key belongs between the two places of the lane, and the caller has an
-- insert permission
pub record CanInsert (o : Opening) (hand group lane place before next : ℕ) (t : Execution)
    : Type 0 where
  pub filled : IsFilled o hand place (word o t (PlaceWord place Link)) t
  pub between : BelongsBetween o group lane (key_in o place t) before next t
  pub permission : MayInsertInto hand group t
  pub belongs : BelongsUntilLinked o hand group (key_in o place t) t

-- ---- what it does ----

-- the change that a caller makes as it links the row
abbrev pub change_of : Board → Hand → ℕ → Change
change_of b h place = inserted_by (opening_of b) h.number place (known h)

-- the steps, the newest first: the row's link is stored, and the link behind `before` exchanged once
abbrev pub Inserts : Board → Hand → ℕ → ℕ → ℕ → ℕ → ℕ → Linked → Hand → Type 0
Inserts b h group lane place before next linked.Done k =
    MakesAll b h (LinkRow group lane place (change_of b h place) before next
    ∷ StorePrivate place Link next ∷ []) k
Inserts b h group lane place before next (linked.Raced row found) k =
    (place_of_private row ≡ place) × (next ≢ found)
    × MakesAll b h (FailLink group lane before next found ∷ StorePrivate place Link next ∷ []) k

-- the caller still has the row, filled as before
pub record KeepsRow (b : Board) (h : Hand) (place next : ℕ) (k : Hand) : Type 0 where
  pub filled : IsFilled (opening_of b) k.number place next (known k)
  pub change : change_of b k place ≡ change_of b h place

-- what the answer tells: the row is in the buffer, and its key had no value just before; or nothing was
-- changed
abbrev pub InsertTells : Board → Hand → ℕ → ℕ → ℕ → Linked → Hand → Type 0
InsertTells b h group place next linked.Done k =
    AddsChange b h (change_of b h place) None k
    × (role (opening_of b) place (known k)
    ≡ InBuffer group (key_in (opening_of b) place (known h)))
InsertTells b h group place next (linked.Raced row found) k =
    AddsNoEntry h k × KeepsRow b h place next k

-- ---- the law ----

-- a key of which a caller knows in its read section that it has no value elsewhere, as for a revival,
-- belongs into the buffer until it is linked
abbrev pub KeysWithoutAValueBelong : Type 0
KeysWithoutAValueBelong =
    (o : Opening) (t : Execution) → Valid o t → (hand key group : ℕ) → IsCaller o hand →
    HasNoneElsewhere o hand key group t →
    BelongsUntilLinked o hand group key t
