-- What a keeper's marks tell of the callers.
use Rattle.std.specs.Prelude.{◌≡◌, ◌≢◌, ◌⊎◌, ℕ, zero, suc, ◌+◌, ◌%◌, ◌^◌, ◌<◌, ◌≤◌, List, [], ◌∷◌, slice_index}
use Rattle.index_machine.specs.declared.events.Action.{Action}
use Rattle.index_machine.specs.declared.events.Action.TheVariants.{LoadEpoch}
use Rattle.index_machine.specs.declared.opening.Opening.{Opening}
use Rattle.index_machine.specs.Execution.{Execution, Continues}
use Rattle.index_machine.specs.Sections.{IsCaller, HasLeft, crossings}
use Rattle.index_machine.specs.Words.{limits}
use Rattle.index_rule.specs.declared.board.Board.{Board}
use Rattle.index_rule.specs.declared.hand.Hand.{Hand}
use Rattle.index_rule.specs.Hands.{Makes, known}
use Rattle.reader_epochs.specs.declared.marks.Marks.{Marks}
use Rattle.reader_epochs.specs.declared.marks.Barrier.{Barrier}
use Rattle.reader_epochs.specs.declared.marks.Barrier.TheVariants.{Quiet, Waiting}

-- ---- marks ----

-- the words that were marked, by the callers' numbers
abbrev pub words_of : Marks → List ℕ
words_of marks = marks.words

-- the word that was marked of a caller
abbrev pub mark_of : Marks → ℕ → ℕ
mark_of marks caller = slice_index marks.words caller

-- how many callers, from 0 up, have passed
abbrev pub passed_of : Marks → ℕ
passed_of marks = marks.passed

-- what the keeper knew as it began to mark
abbrev pub beginning : Marks → Execution
beginning marks = known marks.began.value

-- the loads of the epochs of the first callers, so many, the newest first
abbrev pub epoch_loads : List ℕ → ℕ → List Action
epoch_loads words zero = []
epoch_loads words (suc caller) =
    LoadEpoch caller (slice_index words caller) ∷ epoch_loads words caller

-- the mark was the caller's epoch word at this moment, after the marking began
pub record IsMark (caller mark : ℕ) (began later : Execution) : Type 0 where
  pub moment : Execution
  pub after : Continues began moment
  pub before : Continues moment later
  pub word : mark ≡ crossings caller moment % 2 ^ 64

-- the caller was outside at its mark, or has left that read section since
pub record HasPassed (caller mark : ℕ) (began later : Execution) : Type 0 where
  pub is_mark : IsMark caller mark began later
  pub left : HasLeft caller is_mark.moment later

-- the marks are of all callers, and those below the count have passed
pub record AreMarks (o : Opening) (marks : Marks) (later : Execution) : Type 0 where
  pub told : (caller : ℕ) → IsCaller o caller →
      IsMark caller (mark_of marks caller) (beginning marks) later
  pub few : passed_of marks ≤ (limits o).callers
  pub passed : (caller : ℕ) → caller < passed_of marks →
      HasPassed caller (mark_of marks caller) (beginning marks) later

-- ---- a check ----

-- a caller passes by its mark and its word
abbrev pub Passes : ℕ → ℕ → Type 0
Passes mark word = (mark % 2 ≡ 0) ⊎ ((word % 2 ≡ 0) ⊎ (word ≢ mark))

-- from one caller on, so many were looked at once each, and passed
abbrev pub LooksAt : Board → Hand → Marks → ℕ → ℕ → Hand → Type 0
LooksAt b h marks from zero k = k ≡ h
LooksAt b h marks from (suc n) k =
    (between : Hand) × (word : ℕ) × LooksAt b h marks from n between
    × Makes b between (LoadEpoch (from + n) word) k
    × Passes (mark_of marks (from + n)) word

-- the marks stay, and the count grows
pub record Grows (old new : Marks) (many : ℕ) : Type 0 where
  pub words : new.words ≡ old.words
  pub began : new.began ≡ old.began
  pub passed : passed_of new ≡ passed_of old + many

-- the check looked at callers that pass, and then at none or at one that does not pass
abbrev pub Checked : Board → Hand → Marks → Barrier → Marks → Hand → Type 0
Checked b h old Quiet new k =
    (many : ℕ) × Grows old new many × LooksAt b h old (passed_of old) many k
Checked b h old (Waiting caller word) new k =
    (many : ℕ) × Grows old new many × (caller ≡ passed_of new)
    × (word % 2 ≡ 1) × (word ≡ mark_of old caller)
    × ((between : Hand) × LooksAt b h old (passed_of old) many between
    × Makes b between (LoadEpoch caller word) k)
