-- A look of a call, as an entry of its hand's log: the one entry that no event writes.
use Rattle.std.specs.Prelude.{◌≡◌, ℕ, Option, Some, ◌∷◌, length}
use Rattle.atomic_table.specs.Table.{Me}
use Rattle.map_model.specs.declared.entries.Entry.TheVariants.{Look}
use Rattle.map_model.specs.Answer.{pair_at}
use Rattle.index_machine.specs.declared.opening.Opening.{Opening}
use Rattle.index_machine.specs.Execution.{Execution}
use Rattle.index_machine.specs.Sections.{IsCaller}
use Rattle.index_machine.specs.LivePlaces.{history, value_in_map}
use Rattle.index_rule.specs.declared.board.Board.{Board}
use Rattle.index_rule.specs.declared.hand.Hand.{Hand}
use Rattle.index_rule.specs.declared.view.View.{View}
use Rattle.index_rule.specs.Calls.{HasAddedNone}
use Rattle.index_rule.specs.Hands.{opening_of, view}
use Rattle.index_rule.specs.Moments.{IsBetween, IsWithin}
use Rattle.index_rule.specs.Rule.{IsFollowing, number}

-- the seat with the entry that at this moment the key had this value, or none
abbrev pub with_look : View → Execution → ℕ → Option ℕ → View
with_look v moment key found =
    record v { log = Look (length (history moment)) key key (pair_at key found) ∷ v.log }

-- what the load that writes a look of the call that began so tells its hand
pub record TellsLook (start : View) (key : ℕ) (found : Option ℕ) (m x : Me (Unit {0}) View)
    : Type 0 where
  pub moment : Execution
  pub within : IsBetween (number m.0) start.known m.0.known moment
  pub value : (o : Opening) → m.0.opening ≡ Some o → value_in_map o key moment ≡ found
  pub is : x.0 ≡ with_look m.0 moment key found
  pub bare : x.1 ≡ m.1
  pub following : IsFollowing x.0

-- the caller has added no entry in the call that began so, and knows a moment of the call at which the
-- key had this value, or none
pub record MayWriteLook (b : Board) (start h : Hand) (key : ℕ) (found : Option ℕ) : Type 0 where
  pub so_far : HasAddedNone b start h
  pub caller : IsCaller (opening_of b) h.number
  pub moment : Execution
  pub within : IsWithin start h moment
  pub value : value_in_map (opening_of b) key moment ≡ found

-- the call that began so added one entry, a look at a moment of the call at which the key had this
-- value, or none; nothing else changed
abbrev pub AddsLook : Board → Hand → Hand → ℕ → Option ℕ → Hand → Type 0
AddsLook b start h key found k =
    (moment : Execution) × IsWithin start h moment
    × (value_in_map (opening_of b) key moment ≡ found)
    × (view k ≡ with_look (view h) moment key found)
