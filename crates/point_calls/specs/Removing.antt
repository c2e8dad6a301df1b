-- What the answer of a remove tells.
use Rattle.std.specs.Prelude.{◌≡◌, ℕ, false, Option, Some, None}
use Rattle.map_model.specs.declared.entries.Change.TheVariants.{Remove}
use Rattle.index_rule.specs.declared.board.Board.{Board}
use Rattle.index_rule.specs.declared.hand.Hand.{Hand}
use Rattle.tried_calls.specs.declared.tried.Tried.{Tried}
use Rattle.tried_calls.specs.declared.tried.Tried.TheVariants as tried
use Rattle.tried_calls.specs.declared.tried.Why.{Why}
use Rattle.tried_calls.specs.declared.tried.Why.TheVariants as why
use Rattle.index_rule.specs.Moments.{AddsChange, AddsNoEntry}
use Rattle.record_cell.specs.Writes.{worn_word}
use Rattle.point_calls.specs.Changing.{LosesLock, MeetsLast}
use Rattle.point_calls.specs.PointCalls.{LooksUp, MeetsLock}

-- why a remove is to be tried again
abbrev pub IsRemoveCause : Board → ℕ → Hand → Why → Hand → Type 0
IsRemoveCause b key h (why.Locked place word) k = MeetsLock b key h place word k
IsRemoveCause b key h (why.Changed place first second) k = ⊥
IsRemoveCause b key h (why.Frozen group word) k = ⊥
IsRemoveCause b key h (why.Raced address expected found) k =
    LosesLock b key h address expected found k

-- what the answer of a remove tells of the key, and the entry that it added: a change where the key had
-- a value, and else a look; a record that is worn out had a value
abbrev pub RemoveTells : Board → ℕ → Hand → Tried (Option ℕ) → Hand → Type 0
RemoveTells b key h (tried.Done (Some old)) k = AddsChange b h (Remove h.number key) (Some old) k
RemoveTells b key h (tried.Done None) k = LooksUp b key h None k
RemoveTells b key h (tried.Again cause) k = AddsNoEntry h k × IsRemoveCause b key h cause k
RemoveTells b key h tried.Full k = ⊥
RemoveTells b key h (tried.Worn place word) k =
    AddsNoEntry h k × MeetsLast b key h place word k × (word ≡ worn_word false)
