-- The loads by which a caller comes to the group of a key.
use Rattle.std.specs.Prelude.{◌≡◌, ℕ, ◌*◌, ◌^◌, ◌≤◌, List, [], ◌∷◌, length}
use Rattle.index_machine.specs.declared.events.Action.{Action}
use Rattle.index_machine.specs.declared.events.Action.TheVariants.{LoadRoot, LoadSlotGroup}
use Rattle.index_machine.specs.declared.events.Action.TheVariants.{LoadSlotPivot}
use Rattle.index_rule.specs.declared.board.Board.{Board}
use Rattle.index_rule.specs.declared.hand.Hand.{Hand}
use Rattle.index_rule.specs.Hands.{Makes, MakesAll, known, opening_of}
use Rattle.word_layout.specs.Parts.{HasKeyAlone}
use Rattle.index_machine.specs.Words.{shape}
use Rattle.root_table.specs.declared.slots.Slots.{Slots}
use Rattle.root_table.specs.Slots.{IsLastSlot, root_word_of}
use Rattle.root_table.specs.Walks.{WalksTo}

-- each action loads the pivot of a slot of this side of the part's root
abbrev pub ArePivotLoads : Slots → List Action → Type 0
ArePivotLoads slots [] = Unit {0}
ArePivotLoads slots (action ∷ actions) =
    ((slot : ℕ) × (pivot : ℕ) × (action ≡ LoadSlotPivot slots.part slots.side slot pivot))
    × ArePivotLoads slots actions

-- the hand loaded pivots of these slots, so few that doubling as often gives at most twice their number
abbrev pub LoadsFewPivots : Board → Slots → Hand → Hand → Type 0
LoadsFewPivots b slots h k =
    (actions : List Action) × ArePivotLoads slots actions
    × (2 ^ length actions ≤ 2 * slots.count) × MakesAll b h actions k

-- the hand found the group: it loaded the root word of the key's part, a few pivots of the slots that this names,
-- and the group of the last slot whose pivot is at most the key, and from there it walked
pub record FindsGroup (b : Board) (key : ℕ) (h : Hand) (group : ℕ) (k : Hand) : Type 0 where
  pub slots : Slots
  pub slot : ℕ
  pub from : ℕ
  pub rooted : Hand
  pub chosen : Hand
  pub entered : Hand
  pub part : HasKeyAlone (shape (opening_of b)).bounds slots.part key
  pub root : Makes b h (LoadRoot slots.part (root_word_of slots)) rooted
  pub pivots : LoadsFewPivots b slots rooted chosen
  pub last : IsLastSlot (opening_of b) slots key slot (known chosen)
  pub entry : Makes b chosen (LoadSlotGroup slots.part slots.side slot from) entered
  pub walk : WalksTo b from key entered group k
