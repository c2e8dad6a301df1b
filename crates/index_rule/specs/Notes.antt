-- What hands tell each other by notes.
use Rattle.std.specs.Prelude.{◌≡◌, Some}
use Rattle.atomic_table.specs.Table.{Me}
use Rattle.index_machine.specs.declared.opening.Opening.{Opening}
use Rattle.index_machine.specs.Execution.{Execution, Continues, ContinuesWithout}
use Rattle.index_rule.specs.declared.board.Board.{Board}
use Rattle.index_rule.specs.declared.hand.Hand.{Hand}
use Rattle.index_rule.specs.declared.note.Note.{Note}
use Rattle.index_rule.specs.declared.view.View.{View}
use Rattle.index_rule.specs.Hands.{IsHandOf, known, opening_of, view}
use Rattle.index_rule.specs.Moments.{AddsNoEntry}
use Rattle.index_rule.specs.Rule.{Follows, GoesOnFromAll}
use Rattle.index_rule.specs.Seats.{longer, settled}

-- what the hand knew that told the note
abbrev pub known_of : Note → Execution
known_of n = n.seat.me.0.known

-- the note is one of this board
pub record IsNoteOf (b : Board) (n : Note) : Type 0 where
  pub table : n.seat.table_id ≡ b.words.shared.table_id
  pub opened : n.seat.me.0.opening ≡ Some (opening_of b)

-- what a load tells by which all that the seat heard becomes part of what it knows
pub record Settles (m x : Me (Unit {0}) View) : Type 0 where
  pub is : x.0 ≡ settled m.0
  pub heard : GoesOnFromAll m.0.heard m.0.known
  pub bare : x.1 ≡ m.1
  pub follows : (o : Opening) → x.0.opening ≡ Some o → Follows o x.0

-- the hand, still of the board and with its number and log, knows the longer of what it knew and
-- this news; what it knows then goes on from both, and from what it knew by events of others alone
pub record Heeds (b : Board) (h : Hand) (news : Execution) (k : Hand) : Type 0 where
  pub of : IsHandOf b k
  pub number : k.number ≡ h.number
  pub log : AddsNoEntry h k
  pub knows : known k ≡ longer (known h) news
  pub own : ContinuesWithout h.number (known h) (known k)
  pub told : Continues news (known k)
  pub follows : Follows (opening_of b) (view k)
