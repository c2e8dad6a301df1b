-- What the answer of a get tells.
use Rattle.std.specs.Prelude.{ℕ, Option}
use Rattle.index_rule.specs.declared.board.Board.{Board}
use Rattle.index_rule.specs.declared.hand.Hand.{Hand}
use Rattle.tried_calls.specs.declared.tried.Tried.{Tried}
use Rattle.tried_calls.specs.declared.tried.Tried.TheVariants as tried
use Rattle.tried_calls.specs.declared.tried.Why.{Why}
use Rattle.tried_calls.specs.declared.tried.Why.TheVariants as why
use Rattle.index_rule.specs.Moments.{AddsNoEntry}
use Rattle.point_calls.specs.PointCalls.{LooksUp, MeetsChange, MeetsLock}

-- why a get is to be tried again
abbrev pub IsGetCause : Board → ℕ → Hand → Why → Hand → Type 0
IsGetCause b key h (why.Locked place word) k = MeetsLock b key h place word k
IsGetCause b key h (why.Changed place first second) k = MeetsChange b key h place first second k
IsGetCause b key h (why.Frozen group word) k = ⊥
IsGetCause b key h (why.Raced place expected found) k = ⊥

-- what the answer of a get tells of the key, and the entry that it added
abbrev pub GetTells : Board → ℕ → Hand → Tried (Option ℕ) → Hand → Type 0
GetTells b key h (tried.Done found) k = LooksUp b key h found k
GetTells b key h (tried.Again cause) k = AddsNoEntry h k × IsGetCause b key h cause k
GetTells b key h tried.Full k = ⊥
GetTells b key h (tried.Worn place word) k = ⊥
