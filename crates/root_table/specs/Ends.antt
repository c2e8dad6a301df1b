-- Where the keys of a group end, and the loads that tell it.
use Rattle.std.specs.Prelude.{◌≡◌, ◌⊎◌, ℕ, ◌+◌, ◌<◌, ◌≤◌, [], ◌∷◌}
use Rattle.word_layout.specs.Parts.{greatest_key}
use Rattle.index_machine.specs.declared.events.Action.TheVariants.{LoadNext}
use Rattle.index_machine.specs.declared.opening.Opening.{Opening}
use Rattle.index_machine.specs.Execution.{Execution}
use Rattle.index_machine.specs.Keepers.{last_key, part_of}
use Rattle.machine_chain.specs.Chain.{end_of}
use Rattle.machine_chain.specs.Walks.{AnswersFor, AnswersForNew}
use Rattle.index_rule.specs.declared.board.Board.{Board}
use Rattle.index_rule.specs.declared.hand.Hand.{Hand}
use Rattle.index_rule.specs.Hands.{MakesAll, known, opening_of}
use Rattle.root_table.specs.Standing.{IsInOpened}
use Rattle.root_table.specs.Walks.{LooksAhead}

-- ---- groups of keys ----

-- the group answers for this key, or did
abbrev pub IsOfKey : Board → ℕ → ℕ → Hand → Type 0
IsOfKey b group key h = (key ≤ greatest_key) × AnswersFor (opening_of b) key group (known h)

-- it is the new group of this key, for a caller of an old one that is opened to this rebuild
abbrev pub IsNewOfKey : Board → ℕ → ℕ → ℕ → ℕ → Hand → Type 0
IsNewOfKey b old first group key h =
    (key ≤ greatest_key) × IsInOpened b old first key h
    × AnswersForNew (opening_of b) old key group (known h)

-- it is one of these of some key
abbrev pub HasKeys : Board → ℕ → Hand → Type 0
HasKeys b group h =
    ((key : ℕ) × IsOfKey b group key h)
    ⊎ ((old : ℕ) × (first : ℕ) × (key : ℕ) × IsNewOfKey b old first group key h)

-- ---- where they end ----

-- the group answers, or did, for all keys from this one to the end; behind it another does, or the part ends
pub record EndsKeys (o : Opening) (group key end : ℕ) (t : Execution) : Type 0 where
  pub from : key ≤ end
  pub to : end ≤ end_of o key
  pub all : (m : ℕ) → key ≤ m → m ≤ end → AnswersFor o m group t
  pub behind : end < end_of o key → (next : ℕ) × AnswersFor o (end + 1) next t

-- it is the new group of all keys of the old one from this key to the end
pub record EndsNewKeys (o : Opening) (old group key end : ℕ) (earlier later : Execution)
    : Type 0 where
  pub from : key ≤ end
  pub to : end ≤ end_of o key
  pub all : (m : ℕ) → key ≤ m → m ≤ end → AnswersFor o m old earlier →
      AnswersForNew o old m group later

-- the hand loaded the next word of the group, and where there is a next one its pivot, which is behind the end;
-- else the part ends there
abbrev pub LoadsEnd : Board → ℕ → Hand → ℕ → Hand → Type 0
LoadsEnd b group h end k =
    ((end ≡ last_key (opening_of b) (part_of (opening_of b) group))
    × MakesAll b h (LoadNext group 0 ∷ []) k)
    ⊎ ((next : ℕ) × LooksAhead b group next (end + 1) h k)
