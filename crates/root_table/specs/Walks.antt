-- The loads of a walk along the chain, and where it ends.
use Rattle.std.specs.Prelude.{◌≡◌, ◌⊎◌, ℕ, zero, suc, ◌+◌, ◌<◌, ◌≤◌, Option, Some, None, [], ◌∷◌}
use Rattle.word_layout.specs.declared.headers.HeaderWord.TheVariants.{Pivot}
use Rattle.index_machine.specs.declared.events.Action.TheVariants.{LoadHeader, LoadNext}
use Rattle.index_rule.specs.declared.board.Board.{Board}
use Rattle.index_rule.specs.declared.hand.Hand.{Hand}
use Rattle.index_rule.specs.Hands.{MakesAll}

-- ---- one group on ----

-- the hand loaded the next word of the group, which names this one, and the pivot of this one
abbrev pub LooksAhead : Board → ℕ → ℕ → ℕ → Hand → Hand → Type 0
LooksAhead b group next pivot h k =
    MakesAll b h (LoadHeader next Pivot pivot ∷ LoadNext group (next + 1) ∷ []) k

-- the walk goes on to the next group, whose pivot is at most the key
abbrev pub GoesOn : Board → ℕ → ℕ → Hand → ℕ → Hand → Type 0
GoesOn b group key h next k = (pivot : ℕ) × (pivot ≤ key) × LooksAhead b group next pivot h k

-- the walk ends in the group: there is no next one, or its pivot is greater than the key
abbrev pub Stops : Board → ℕ → ℕ → Hand → Hand → Type 0
Stops b group key h k =
    MakesAll b h (LoadNext group 0 ∷ []) k
    ⊎ ((next : ℕ) × (pivot : ℕ) × (key < pivot) × LooksAhead b group next pivot h k)

-- it goes on to the next group that is told, or ends
abbrev pub StopsOrGoesOn : Board → ℕ → ℕ → Hand → Option ℕ → Hand → Type 0
StopsOrGoesOn b group key h None k = Stops b group key h k
StopsOrGoesOn b group key h (Some next) k = GoesOn b group key h next k

-- ---- the whole way ----

-- the hand went on so over this many groups, from the one to the other
abbrev pub HasGoneTo : Board → ℕ → ℕ → Hand → ℕ → ℕ → Hand → Type 0
HasGoneTo b from key h zero to k = (to ≡ from) × (k ≡ h)
HasGoneTo b from key h (suc steps) to k =
    (before : ℕ) × (m : Hand) × HasGoneTo b from key h steps before m × GoesOn b before key m to k

-- the hand walked from the one group to the other, where the walk ended
abbrev pub WalksTo : Board → ℕ → ℕ → Hand → ℕ → Hand → Type 0
WalksTo b from key h to k =
    (steps : ℕ) × (m : Hand) × HasGoneTo b from key h steps to m × Stops b to key m k
