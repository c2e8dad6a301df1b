-- Where a caller is on its way to the group of a key.
use Rattle.std.specs.Prelude.{◌≡◌, ℕ, ◌+◌, ◌<◌, true, ◌++◌}
use Rattle.word_layout.specs.declared.phase.Phase.TheVariants.{Opened}
use Rattle.word_layout.specs.Shape.{group_total}
use Rattle.index_machine.specs.declared.opening.Opening.{Opening}
use Rattle.index_machine.specs.Conditions.{Valid}
use Rattle.index_machine.specs.Execution.{Execution}
use Rattle.index_machine.specs.Groups.{phase}
use Rattle.index_machine.specs.Reaching.{stands_in}
use Rattle.index_machine.specs.Sections.{StaysInside}
use Rattle.index_machine.specs.Words.{shape}
use Rattle.machine_chain.specs.Chain.{next_of}
use Rattle.machine_chain.specs.Walks.{AnswersFor, BeginsBefore}
use Rattle.index_rule.specs.declared.board.Board.{Board}
use Rattle.index_rule.specs.declared.hand.Hand.{Hand}
use Rattle.index_rule.specs.Calls.{CanCall}
use Rattle.index_rule.specs.Hands.{known, opening_of}

-- the caller can call, and stands in the group, which is of the table
pub record StandsIn (b : Board) (group : ℕ) (h : Hand) : Type 0 where
  pub call : CanCall b h
  pub stands : stands_in h.number group (known h) ≡ true
  pub in_table : group < group_total (shape (opening_of b))

-- the group where it stands answers, or did, for a key of the same part at or before this one
pub record IsBehindKey (b : Board) (group key : ℕ) (h : Hand) : Type 0 where
  pub call : CanCall b h
  pub stands : stands_in h.number group (known h) ≡ true
  pub begins : BeginsBefore (opening_of b) key group (known h)

-- the caller stands in a group that answers for the key, or did, and is opened to the rebuild with this first new
-- group, where it stands too
pub record IsInOpened (b : Board) (old first key : ℕ) (h : Hand) : Type 0 where
  pub call : CanCall b h
  pub stands : stands_in h.number old (known h) ≡ true
  pub answers : AnswersFor (opening_of b) key old (known h)
  pub opened : phase old (known h) ≡ Opened first
  pub stands_new : stands_in h.number first (known h) ≡ true

-- the next word of the group names a group of the table, if any, to the end of the read section
abbrev pub LeadsIntoTable : Opening → ℕ → ℕ → Execution → Type 0
LeadsIntoTable o caller group t =
    (newer : Execution) → Valid o (newer ++ t) → StaysInside caller newer →
    (next : ℕ) → next_of o group (newer ++ t) ≡ next + 1 → next < group_total (shape o)
