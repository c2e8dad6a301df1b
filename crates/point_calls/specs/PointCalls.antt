-- What a call on one key needs, the entry that it adds, and what it does where it comes to no end.
use Rattle.std.specs.Prelude.{◌≡◌, ◌≢◌, ℕ, false, Option, Some, None, [], ◌∷◌, ◌++◌, length}
use Rattle.word_layout.specs.declared.places.Part.TheVariants.{State}
use Rattle.word_layout.specs.Words.{PlaceWord, Word, same_word}
use Rattle.map_model.specs.declared.entries.Entry.TheVariants.{Look}
use Rattle.map_model.specs.Answer.{pair_at}
use Rattle.index_machine.specs.declared.events.Action.{Action}
use Rattle.index_machine.specs.declared.events.Action.TheVariants.{LoadState}
use Rattle.index_machine.specs.Execution.{Execution, event, Continues}
use Rattle.index_machine.specs.LivePlaces.{history, value_in_map}
use Rattle.index_machine.specs.Places.{form}
use Rattle.index_machine.specs.Rows.{Holds, HoldsNone, role, role_key}
use Rattle.index_machine.specs.Sections.{crossings}
use Rattle.index_machine.specs.Words.{Store, store_of}
use Rattle.index_rule.specs.declared.board.Board.{Board}
use Rattle.index_rule.specs.declared.hand.Hand.{Hand}
use Rattle.index_rule.specs.declared.rows.PrivateRow.{PrivateRow}
use Rattle.index_rule.specs.Calls.{HasAddedNone}
use Rattle.index_rule.specs.Hands.{known, opening_of, view}
use Rattle.index_rule.specs.Moments.{IsWithin}
use Rattle.index_rule.specs.OwnRows.{place_of_private}
use Rattle.index_rule.specs.Rule.{Follows}
use Rattle.delta_buffer.specs.Walks.{HasJustMade}
use Rattle.record_cell.specs.Conditions.{IsLockedState}
use Rattle.record_cell.specs.Reads.{IsHeldByAnother}

-- ---- what a call needs ----

-- the spare row is the one that the hand holds; without one it holds none
abbrev pub HasSpare : Board → Hand → Option PrivateRow → Type 0
HasSpare b h (Some row) = Holds (opening_of b) h.number (place_of_private row) (known h)
HasSpare b h None = HoldsNone (opening_of b) h.number (known h)

-- the call took no row and gave none
abbrev pub KeepsRows : Board → Hand → Hand → Type 0
KeepsRows b h k = (spare : Option PrivateRow) → HasSpare b h spare → HasSpare b k spare

-- ---- its steps ----

-- the call stays within its read section: the hand neither entered nor left in it
abbrev pub IsOneSection : Hand → Hand → Type 0
IsOneSection h k = crossings k.number (known k) ≡ crossings h.number (known h)

-- the call that began so has made a step, has stayed within its read section, and has added no entry;
-- what its hand knows keeps the rule of the table
pub record IsCallSoFar (b : Board) (start h : Hand) : Type 0 where
  pub so_far : HasAddedNone b start h
  pub section : IsOneSection start h
  pub follows : Follows (opening_of b) (view h)

-- the store, if there is one, is at another word
abbrev pub StoresElsewhere : Word → Option Store → Type 0
StoresElsewhere w None = Unit {0}
StoresElsewhere w (Some s) = same_word s.word w ≡ false

-- the hand itself stored nothing at the word
abbrev pub LeavesWord : ℕ → Word → Execution → Type 0
LeavesWord hand w [] = Unit {0}
LeavesWord hand w (e ∷ newer) =
    (e.by ≡ hand → StoresElsewhere w (store_of hand e.action)) × LeavesWord hand w newer

-- the hand made this step in the call, and has stored nothing at the word since
abbrev pub MakesAt : Hand → Word → Action → Hand → Type 0
MakesAt h w action k =
    (earlier : Execution) × (newer : Execution) × Continues (known h) earlier
    × (newer ++ event h.number action ∷ earlier ≡ known k) × LeavesWord h.number w newer

-- the hand made the first of these steps in the call, and later on the other one, both at this
-- word, where it stored nothing in between
abbrev pub MakesThen : Hand → Word → Action → Action → Hand → Type 0
MakesThen h w first other k =
    (earlier : Execution) × (newer : Execution) × Continues (known h) earlier
    × Continues (event h.number other ∷ newer ++ event h.number first ∷ earlier) (known k)
    × LeavesWord h.number w newer

-- ---- its entry ----

-- the call added one entry, a look at a moment of it at which the key had this value, or none
abbrev pub LooksUp : Board → ℕ → Hand → Option ℕ → Hand → Type 0
LooksUp b key h found k =
    (moment : Execution) × IsWithin h k moment
    × (value_in_map (opening_of b) key moment ≡ found)
    × ((view k).log ≡ Look (length (history moment)) key key (pair_at key found) ∷ (view h).log)

-- ---- why it is to be tried again ----

-- the place is one of the key's
abbrev pub IsOfKey : Board → ℕ → ℕ → Hand → Type 0
IsOfKey b key place k = role_key (role (opening_of b) place (known k)) ≡ Some key

-- the call loaded this state word at a place of the key, whose version lock another hand held just then
pub record MeetsLock (b : Board) (key : ℕ) (h : Hand) (place word : ℕ) (k : Hand) : Type 0 where
  pub moment : Execution
  pub loaded : HasJustMade h (LoadState place word) moment
  pub within : IsWithin h k moment
  pub locked : IsLockedState word
  pub of_key : IsOfKey b key place k
  pub by_another : IsHeldByAnother h.number (form (opening_of b) place moment)

-- a load of the state word, at a place of the key, and a later one found these two words, which
-- differ; the call stored nothing there in between
pub record MeetsChange (b : Board) (key : ℕ) (h : Hand) (place first second : ℕ) (k : Hand)
    : Type 0 where
  pub loads : MakesThen h (PlaceWord place State) (LoadState place first) (LoadState place second) k
  pub of_key : IsOfKey b key place k
  pub differ : first ≢ second
