-- When a tombstone of a buffer may come to life again, what a revival did, and what its answer
-- tells.
use Rattle.std.specs.Prelude.{◌≡◌, ◌≢◌, ℕ, true, false, Some, None, [], ◌∷◌, ◌++◌}
use Rattle.index_machine.specs.declared.events.Action.TheVariants.{LoadState, Lock, FailLock}
use Rattle.index_machine.specs.declared.events.Action.TheVariants.{StoreValue, Unlock}
use Rattle.index_machine.specs.declared.opening.Opening.{Opening}
use Rattle.index_machine.specs.Conditions.{Valid}
use Rattle.index_machine.specs.Execution.{Execution}
use Rattle.index_machine.specs.RecordConditions.{IsAt}
use Rattle.index_machine.specs.Rows.{InBuffer, role}
use Rattle.index_machine.specs.Sections.{StaysInside}
use Rattle.index_rule.specs.declared.board.Board.{Board}
use Rattle.index_rule.specs.declared.hand.Hand.{Hand}
use Rattle.index_rule.specs.Elsewhere.{HasNoneElsewhere}
use Rattle.index_rule.specs.Hands.{Makes, MakesAll}
use Rattle.index_rule.specs.Moments.{AddsNoEntry}
use Rattle.record_cell.specs.declared.answers.Wrote.{Wrote}
use Rattle.record_cell.specs.declared.answers.Wrote.TheVariants as wrote
use Rattle.record_cell.specs.Conditions.{IsChangeable, IsLiveState, IsLockedState}
use Rattle.record_cell.specs.Reads.{FindsLive}
use Rattle.record_cell.specs.Writes.{WriteTells, put_at, worn_word}

-- ---- what the caller knows ----

-- the place is a row of a buffer, and no place of its key elsewhere has a value. Of the row's own value
-- this says nothing
pub record MayRevive (o : Opening) (hand place : ℕ) (t : Execution) : Type 0 where
  pub group : ℕ
  pub key : ℕ
  pub row : role o place t ≡ InBuffer group key
  pub elsewhere : HasNoneElsewhere o hand key group t

-- ---- the law ----

-- what a caller may revive it may revive to the end of its read section, whatever is done until then
abbrev pub WhatMayBeRevivedStaysSo : Type 0
WhatMayBeRevivedStaysSo =
    (o : Opening) (hand place : ℕ) (newer t : Execution) → Valid o (newer ++ t) →
    StaysInside hand newer → IsAt o hand place t → MayRevive o hand place t →
    MayRevive o hand place (newer ++ t)

-- ---- the steps ----

-- the steps of a revival, by its answer; the causes are tried in this order
abbrev pub BringsToLife : Board → Hand → ℕ → ℕ → Wrote → Hand → Type 0
BringsToLife b h place value (wrote.Done None) k =
    (word : ℕ) × (stored : ℕ) × IsChangeable true word
    × MakesAll b h (Unlock place false (put_at b h place value) stored ∷ StoreValue place value
    ∷ Lock place word ∷ LoadState place word ∷ []) k
BringsToLife b h place value (wrote.Done (Some old)) k = ⊥
BringsToLife b h place value (wrote.Locked at word) k =
    (at ≡ place) × Makes b h (LoadState place word) k × IsLockedState word
BringsToLife b h place value (wrote.Live word) k =
    Makes b h (LoadState place word) k × IsLiveState word
BringsToLife b h place value (wrote.Worn at word) k =
    (at ≡ place) × Makes b h (LoadState place word) k × (word ≡ worn_word true)
BringsToLife b h place value (wrote.Raced at expected found) k =
    (at ≡ place) × IsChangeable true expected
    × MakesAll b h (FailLock place expected found ∷ LoadState place expected ∷ []) k
    × (expected ≢ found)
BringsToLife b h place value (wrote.Gone word) k = ⊥

-- ---- what the answer tells ----

-- what the answer of a revival tells of the key, and the entry that it added: as that of the put of
-- the value, but that a record with a value stays as it is
abbrev pub RevivalTells : Board → Hand → ℕ → ℕ → Wrote → Hand → Type 0
RevivalTells b h place value (wrote.Live word) k = AddsNoEntry h k × FindsLive b h place k
RevivalTells b h place value answer k = WriteTells b h place (put_at b h place value) answer k
