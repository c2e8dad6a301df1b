-- What giving a row back does.
use Rattle.std.specs.Prelude.{◌≡◌, ◌≢◌, ℕ, [], ◌∷◌}
use Rattle.word_layout.specs.declared.places.Part.TheVariants.{Link}
use Rattle.index_machine.specs.declared.events.Action.TheVariants.{LoadFree, StorePrivate}
use Rattle.index_machine.specs.declared.events.Action.TheVariants.{PushFree, FailPush}
use Rattle.index_machine.specs.Rows.{Holds}
use Rattle.index_rule.specs.declared.board.Board.{Board}
use Rattle.index_rule.specs.declared.hand.Hand.{Hand}
use Rattle.index_rule.specs.declared.rows.RetiredRow.{RetiredRow}
use Rattle.index_rule.specs.Hands.{MakesAll, known, opening_of}
use Rattle.index_rule.specs.OwnRows.{place_of_retired}
use Rattle.row_arena.specs.declared.giving.Given.{Given}
use Rattle.row_arena.specs.declared.giving.Given.TheVariants as given

-- the steps of a give, the newest first: the head is loaded, becomes the row's link, and is
-- exchanged once
abbrev pub GivesRow : Board → Hand → RetiredRow → Given → Hand → Type 0
GivesRow b h row given.Done k =
    (head : ℕ) × MakesAll b h (PushFree (place_of_retired row) head
    ∷ StorePrivate (place_of_retired row) Link head ∷ LoadFree head ∷ []) k
GivesRow b h row (given.Raced kept expected found) k =
    (kept ≡ row) × (expected ≢ found)
    × Holds (opening_of b) k.number (place_of_retired row) (known k)
    × MakesAll b h (FailPush (place_of_retired row) expected found
    ∷ StorePrivate (place_of_retired row) Link expected ∷ LoadFree expected ∷ []) k
