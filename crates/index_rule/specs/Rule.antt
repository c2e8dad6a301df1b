-- The rule of the table: some valid execution leaves its words, and each seat knows a beginning of
-- it in which all events of its hands stand. A seat that is one hand has the log of its calls.
use Rattle.std.specs.Prelude.{◌≡◌, ◌≢◌, true, ℕ, zero, suc, ◌+◌, Some, None, Option, List, [], ◌∷◌}
use Rattle.std.specs.Prelude.{◌++◌, length}
use mathlib.Core.Option.{some}
use lib.ListN.{get_elem?}
use Rattle.atomic_table.specs.Table.{State, Me}
use Rattle.word_layout.specs.Shape.{parts_in}
use Rattle.word_layout.specs.Words.{Word, FreeHead}
use Rattle.word_layout.specs.WordAt.{word_at}
use Rattle.map_model.specs.declared.entries.Entry.TheVariants.{Made}
use Rattle.map_model.specs.Map.{key_of}
use Rattle.map_model.specs.Logs.{Log, IsLogOf}
use Rattle.index_machine.specs.declared.events.Action.{Action}
use Rattle.index_machine.specs.declared.events.Action.TheVariants.{Unlock, LinkRow}
use Rattle.index_machine.specs.declared.opening.Opening.{Opening}
use Rattle.index_machine.specs.Execution.{Execution, event, Without}
use Rattle.index_machine.specs.Lists.{In, AreDistinct}
use Rattle.index_machine.specs.Words.{shape, limits}
use Rattle.index_machine.specs.Sections.{IsCaller, IsHand, crossings, crossings_after}
use Rattle.index_machine.specs.Openings.{opening_map}
use Rattle.index_machine.specs.LivePlaces.{history, value_in_map}
use Rattle.index_machine.specs.Conditions.{Valid}
use Rattle.index_rule.specs.declared.view.View.{View}
use Rattle.index_rule.specs.declared.view.Heard.{Heard}
use Rattle.index_rule.specs.LockWords.{IsLockedWord, locked_word_after}
use Rattle.index_rule.specs.Offsets.{HoldsWords, address_at}

-- ---- what a seat knows ----

-- the seat is the hand with this number
abbrev pub Owns : View → ℕ → Type 0
Owns v hand = In hand v.numbers

-- the execution goes on from what was known, by events of other hands than these
abbrev pub GoesOn : List ℕ → Execution → Execution → Type 0
GoesOn numbers known t =
    (newer : Execution) × (newer ++ known ≡ t) × ((hand : ℕ) → In hand numbers → Without hand newer)

-- so it does from all that was heard
abbrev pub GoesOnFromAll : List Heard → Execution → Type 0
GoesOnFromAll [] t = Unit {0}
GoesOnFromAll (h ∷ hs) t = GoesOn h.numbers h.known t × GoesOnFromAll hs t

-- what was heard is of hands that are the seat's
abbrev pub AreOwn : List Heard → List ℕ → Type 0
AreOwn [] numbers = Unit {0}
AreOwn (h ∷ hs) numbers = ((hand : ℕ) → In hand h.numbers → In hand numbers) × AreOwn hs numbers

-- a seat that is one hand has the log of its calls, in what it knows
abbrev pub HasLog : Opening → View → Type 0
HasLog o v =
    (hand : ℕ) → v.numbers ≡ hand ∷ [] → IsLogOf (opening_map o) hand (history v.known) v.log

-- so was each one hand that was heard
abbrev pub AreLogged : Opening → List Heard → Type 0
AreLogged o [] = Unit {0}
AreLogged o (h ∷ hs) =
    ((hand : ℕ) → h.numbers ≡ hand ∷ [] → IsLogOf (opening_map o) hand (history h.known) h.log)
    × AreLogged o hs

-- the seat knows a beginning of the execution, which goes on from all that it was told
pub record Knows (o : Opening) (t : Execution) (v : View) : Type 0 where
  pub opening : v.opening ≡ Some o
  pub goes_on : GoesOn v.numbers v.known t
  pub heard : GoesOnFromAll v.heard v.known
  pub own_heard : AreOwn v.heard v.numbers
  pub once : AreDistinct v.numbers
  pub hands : (hand : ℕ) → Owns v hand → IsHand o hand
  pub logged : HasLog o v
  pub heard_logged : AreLogged o v.heard

-- ---- the rule ----

-- no two seats are one hand
abbrev pub AreApart : List View → Type 0
AreApart views =
    (i j hand : ℕ) (v w : View) → get_elem? views i ≡ some v → get_elem? views j ≡ some w →
    Owns v hand → Owns w hand → i ≡ j

-- what holds between any two steps
pub record Kept (o : Opening) (s : State (Unit {0}) View) : Type 0 where
  pub execution : Execution
  pub valid : Valid o execution
  pub words : HoldsWords o s.words execution
  pub apart : AreApart s.views
  pub known : (id : ℕ) (v : View) → get_elem? s.views id ≡ some v → v.opening ≢ None →
      Knows o execution v

-- rising numbers from this one on, so many
abbrev pub counting : ℕ → ℕ → List ℕ
counting first zero = []
counting first (suc n) = first ∷ counting (first + 1) n

-- the seat that the table is made with is all hands
abbrev pub first_view : Opening → View
first_view o =
    record {
      numbers = counting 0 ((limits o).callers + parts_in (shape o));
      opening = Some o;
      known = [];
      heard = [];
      log = [];
    }

-- ---- a step ----

-- the log after an action of the hand, made after this execution: a change is an entry, at the end
-- of the history
abbrev pub log_after : Opening → Execution → Action → Log → Log
log_after o t (Unlock place removed change stored) log =
    Made (length (history t)) change (value_in_map o (key_of change) t) ∷ log
log_after o t (LinkRow group lane place change before next) log =
    Made (length (history t)) change (value_in_map o (key_of change) t) ∷ log
log_after o t _ log = log

-- likewise, of a table that was opened so
abbrev pub logged : Option Opening → Execution → Action → Log → Log
logged None t action log = log
logged (Some o) t action log = log_after o t action log

-- the first of the numbers
abbrev pub first_of : List ℕ → ℕ
first_of [] = 0
first_of (hand ∷ hands) = hand

-- the number of the hand that the seat is
abbrev pub number : View → ℕ
number v = first_of v.numbers

-- the word so far from the front of the memory of a table that was opened so
abbrev pub word_of_opening : Option Opening → ℕ → Word
word_of_opening None offset = FreeHead
word_of_opening (Some o) offset = word_at (shape o) (address_at (shape o) offset)

-- the word so far from the front of the memory of the seat's table
abbrev pub word_in : View → ℕ → Word
word_in v offset = word_of_opening v.opening offset

-- the view of a hand that has made this action after these events of others
abbrev pub stepped : View → Action → Execution → View
stepped v action newer =
    record v {
      known = event (number v) action ∷ newer ++ v.known;
      heard = [];
      log = logged v.opening (newer ++ v.known) action v.log;
    }

-- what the seat knows is a valid execution, and its log is that of its hand
pub record Follows (o : Opening) (v : View) : Type 0 where
  pub valid : Valid o v.known
  pub logged : HasLog o v

-- the hand made this action, after events of others, and follows the table
abbrev pub Acts : View → Action → View → Type 0
Acts v action w =
    (newer : Execution) × (w ≡ stepped v action newer) × Without (number v) newer
    × ((o : Opening) → v.opening ≡ Some o → Follows o w)

-- the seat follows its table
abbrev pub IsFollowing : View → Type 0
IsFollowing v = (o : Opening) → v.opening ≡ Some o → ∥ Follows o v ∥₁

-- a caller keeps the state word that it locked, while it holds a version lock
pub record KeepsLockedWord (v : View) (hand word : ℕ) : Type 0 where
  pub kept : (o : Opening) → v.opening ≡ Some o → IsCaller o hand → IsLockedWord o hand word v.known

-- what a step tells its hand
pub record Does (m : Me (Unit {0}) View) (action : Action) (x : Me (Unit {0}) View) : Type 0 where
  pub acts : Acts m.0 action x.0
  pub bare : x.1 ≡ m.1
  pub numbers : x.0.numbers ≡ m.0.numbers
  pub following : IsFollowing x.0
  pub crossed : (hand : ℕ) → m.0.numbers ≡ hand ∷ [] →
      crossings hand x.0.known ≡ crossings_after true action (crossings hand m.0.known)
  pub locked : (hand word : ℕ) → m.0.numbers ≡ hand ∷ [] → KeepsLockedWord m.0 hand word →
      KeepsLockedWord x.0 hand (locked_word_after action word)
