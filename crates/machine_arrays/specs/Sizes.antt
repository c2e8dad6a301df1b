-- Where the words for a group's size and for the error of its line are those of the keys of its array, and
-- how long an array stays as it is.
--
-- The fact to remember: both hold where a caller stands in a group that answers for a key, or did.
use Rattle.std.specs.Prelude.{◌≡◌, ◌⊎◌, ◌↔◌, ℕ, true, List, [], ◌∷◌, ◌++◌, length}
use Rattle.line_window.specs.Line.{error_of}
use Rattle.word_layout.specs.declared.headers.HeaderWord.TheVariants as header
use Rattle.word_layout.specs.declared.headers.HeaderWord.{HeaderWord}
use Rattle.word_layout.specs.Words.{Header}
use Rattle.index_machine.specs.declared.events.Action.{Action}
use Rattle.index_machine.specs.declared.events.Action.TheVariants.{NewGroup, StoreHeader, StoreRedirect}
use Rattle.index_machine.specs.declared.opening.Opening.{Opening}
use Rattle.index_machine.specs.Execution.{Execution, event}
use Rattle.index_machine.specs.Words.{word}
use Rattle.index_machine.specs.KeyRanges.{group_of}
use Rattle.index_machine.specs.Permissions.{IsReplaced}
use Rattle.index_machine.specs.Reaching.{stands_in}
use Rattle.index_machine.specs.Rows.{InArray, role}
use Rattle.index_machine.specs.Sections.{IsCaller, StaysInside}
use Rattle.index_machine.specs.Keepers.{IsGroupKeeper}
use Rattle.index_machine.specs.RebuildConditions.{IsLateHeader, IsSized}
use Rattle.index_machine.specs.Conditions.{Allowed, Valid}
use Rattle.machine_arrays.specs.Arrays.{array_keys}
use Rattle.machine_buffers.specs.Groups.{Begins}
use Rattle.machine_chain.specs.Walks.{AnswersFor}

-- the group's array has the same keys at the same places at the later execution, so the same list of them, and
-- the words for its size and for the error of its line are the same
pub record HasSameArray (o : Opening) (group : ℕ) (earlier later : Execution) : Type 0 where
  pub kept : (k place : ℕ) → role o place earlier ≡ InArray group k →
      role o place later ≡ InArray group k
  pub none_new : (k place : ℕ) → role o place later ≡ InArray group k →
      role o place earlier ≡ InArray group k
  pub keys : array_keys o group later ≡ array_keys o group earlier
  pub words : (which : HeaderWord) → IsLateHeader which →
      word o later (Header group which) ≡ word o earlier (Header group which)

-- the group's array has just these keys, and the words for its size and for the error of its line are theirs
pub record HasArray (o : Opening) (group : ℕ) (keys : List ℕ) (t : Execution) : Type 0 where
  pub just : array_keys o group t ≡ keys
  pub size : word o t (Header group header.Size) ≡ length keys
  pub error : word o t (Header group header.LineError) ≡ error_of keys

-- the action changes the group's array: it begins the group anew, puts a key into the array, or stores the
-- word for the size or for the error of the line
abbrev pub ChangesArray : ℕ → Action → Type 0
ChangesArray group action =
    Begins group action
    ⊎ (((place : ℕ) × (k : ℕ) × (to : ℕ) × (action ≡ StoreRedirect group place k to))
    ⊎ ((which : HeaderWord) × (value : ℕ) × (action ≡ StoreHeader group which value)
    × IsLateHeader which))

-- none of these events does
abbrev pub ArrayIsLeft : ℕ → Execution → Type 0
ArrayIsLeft group [] = Unit {0}
ArrayIsLeft group (e ∷ newer) = (ChangesArray group e.action → ⊥) × ArrayIsLeft group newer

-- ---- the laws of sizes, over all executions ----

-- a group is sized where its words for the size and for the error of the line are those of the keys of its array
abbrev pub SizesAreOfTheKeys : Type 0
SizesAreOfTheKeys =
    (o : Opening) (t : Execution) → Valid o t → (group : ℕ) →
    IsSized o group t
    ↔ ((word o t (Header group header.Size) ≡ length (array_keys o group t))
    × (word o t (Header group header.LineError) ≡ error_of (array_keys o group t)))

-- the array of a group that answers for a key, or did, is sized, until all old groups of its rebuild are gone
abbrev pub ArraysInUseAreSized : Type 0
ArraysInUseAreSized =
    (o : Opening) (t : Execution) → Valid o t → (group k : ℕ) → AnswersFor o k group t →
    IsSized o group t ⊎ IsReplaced o group t

-- so that of a group of the chain is
abbrev pub ArraysOfTheChainAreSized : Type 0
ArraysOfTheChainAreSized =
    (o : Opening) (t : Execution) → Valid o t → (group k : ℕ) → group_of o k t ≡ group →
    IsSized o group t

-- and that of such a group where a caller stands
abbrev pub ArraysWhereCallersStandAreSized : Type 0
ArraysWhereCallersStandAreSized =
    (o : Opening) (t : Execution) → Valid o t → (caller group k : ℕ) → IsCaller o caller →
    stands_in caller group t ≡ true → AnswersFor o k group t → IsSized o group t

-- ---- the laws of arrays that stay ----

-- while a caller stands in such a group its array stays
abbrev pub ArraysStayWhereCallersStand : Type 0
ArraysStayWhereCallersStand =
    (o : Opening) (caller group k : ℕ) → IsCaller o caller → (newer t : Execution) →
    Valid o (newer ++ t) → StaysInside caller newer → stands_in caller group t ≡ true →
    AnswersFor o k group t → HasSameArray o group t (newer ++ t)

-- so all that it loads in its read section is of one array
abbrev pub LoadsMeetOneArray : Type 0
LoadsMeetOneArray =
    (o : Opening) (caller group k : ℕ) → IsCaller o caller → (newer t : Execution) →
    Valid o (newer ++ t) → StaysInside caller newer → stands_in caller group t ≡ true →
    AnswersFor o k group t → HasArray o group (array_keys o group t) (newer ++ t)

-- and whoever stands there, it stays until it is changed
abbrev pub ArraysStayUntilChanged : Type 0
ArraysStayUntilChanged =
    (o : Opening) (group : ℕ) (newer t : Execution) → Valid o (newer ++ t) →
    ArrayIsLeft group newer → HasSameArray o group t (newer ++ t)

-- the keeper of the group's part alone changes it
abbrev pub KeepersAloneChangeArrays : Type 0
KeepersAloneChangeArrays =
    (o : Opening) (t : Execution) (by group : ℕ) (action : Action) → Allowed o t by action →
    ChangesArray group action → IsGroupKeeper o by group

-- an array is empty where its group was just begun
abbrev pub BegunArraysAreEmpty : Type 0
BegunArraysAreEmpty =
    (o : Opening) (by group low high first : ℕ) (t : Execution) →
    Valid o (event by (NewGroup group low high first) ∷ t) →
    array_keys o group (event by (NewGroup group low high first) ∷ t) ≡ []

-- and a key that is put into it comes behind all others
abbrev pub NewKeysComeLast : Type 0
NewKeysComeLast =
    (o : Opening) (by group place k to : ℕ) (t : Execution) →
    Valid o (event by (StoreRedirect group place k to) ∷ t) →
    array_keys o group (event by (StoreRedirect group place k to) ∷ t)
    ≡ array_keys o group t ++ (k ∷ [])
