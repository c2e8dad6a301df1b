-- Which buffers the keeper of their group's part can follow.
--
-- The fact to remember: only this keeper takes a row out of a buffer or refills a word of its lanes, so a
-- buffer that it knows to be whole stays so until it does this itself.
use Rattle.std.specs.Prelude.{◌≡◌, ◌⊎◌, ℕ, ◌<◌, Some, [], ◌∷◌, ◌++◌}
use Rattle.index_machine.specs.declared.opening.Opening.{Opening}
use Rattle.index_machine.specs.Conditions.{Valid}
use Rattle.index_machine.specs.Execution.{Execution}
use Rattle.index_machine.specs.KeyRanges.{predecessor}
use Rattle.index_machine.specs.Permissions.{IsReplaced}
use Rattle.index_machine.specs.Keepers.{IsGroupKeeper}
use Rattle.word_layout.specs.Shape.{group_total}
use Rattle.index_machine.specs.Words.{shape}
use Rattle.machine_buffers.specs.Groups.{IsOfAKey}
use Rattle.machine_buffers.specs.Walks.{IsWalkable, TakesApart}
use Rattle.index_rule.specs.declared.board.Board.{Board}
use Rattle.index_rule.specs.declared.hand.Hand.{Hand}
use Rattle.index_rule.specs.Hands.{IsHandOf, known, opening_of}
use Rattle.sorted_group.specs.Standing.{CanFollow}

-- the group answers for a key or is to; or it did before, and the groups of that rebuild are not all
-- gone
abbrev pub HasWholeBuffer : Opening → ℕ → Execution → Type 0
HasWholeBuffer o group t =
    IsOfAKey o group t
    ⊎ (((k : ℕ) × (predecessor o k t ≡ Some group)) × (IsReplaced o group t → ⊥))

-- by these newer events the hand itself takes no row out of the buffer and refills no word of its lanes
abbrev pub KeepsWhole : Opening → ℕ → ℕ → Execution → Execution → Type 0
KeepsWhole o hand group [] t = Unit {0}
KeepsWhole o hand group (e ∷ newer) t =
    (e.by ≡ hand → TakesApart o group e.action (newer ++ t) → ⊥) × KeepsWhole o hand group newer t

-- ---- the laws ----

-- the keeper of its part can follow the links of each group that has a whole buffer
abbrev pub KeepersCanFollow : Type 0
KeepersCanFollow =
    (b : Board) (h : Hand) (group : ℕ) → IsHandOf b h →
    IsGroupKeeper (opening_of b) h.number group → group < group_total (shape (opening_of b)) →
    HasWholeBuffer (opening_of b) group (known h) → CanFollow b group h

-- a buffer that is walkable stays so as long as the keeper of its group's part keeps it whole, whatever
-- others do, the keepers of other parts too
abbrev pub BuffersStayWalkableForKeepers : Type 0
BuffersStayWalkableForKeepers =
    (o : Opening) (keeper group : ℕ) → IsGroupKeeper o keeper group → (newer t : Execution) →
    Valid o (newer ++ t) → KeepsWhole o keeper group newer t → IsWalkable o group t →
    IsWalkable o group (newer ++ t)
