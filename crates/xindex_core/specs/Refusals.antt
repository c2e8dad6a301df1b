-- Why no index was opened: the first broken rule of the limits, or of the rows, or want of memory.
use Rattle.std.specs.Prelude.{◌≡◌, ℕ, ◌+◌, ◌-◌, ◌<◌, ◌≤◌, length}
use Rattle.map_model.specs.Map.{IsRising, Map, key_at}
use Rattle.word_layout.specs.Limits.{IsFirstBrokenIn, KeepsRulesIn}
use Rattle.word_layout.specs.Shape.{Shape, parts_in}
use Rattle.index_machine.specs.OpeningPlan.{FitsTable, planned_count}
use Rattle.xindex_core.specs.declared.index.OpenError.{OpenError}
use Rattle.xindex_core.specs.declared.index.OpenError.TheVariants.{BadLimit, Memory, TooMany, Unsorted}

-- the key of the row at this position is not above the one before it, and no earlier one is so
pub record IsFirstUnsorted (rows : Map) (at : ℕ) : Type 0 where
  pub behind_one : 1 ≤ at
  pub is_row : at < length rows
  pub unsorted : key_at rows at ≤ key_at rows (at - 1)
  pub rise_before : (i : ℕ) → i + 1 < at → key_at rows i < key_at rows (i + 1)

-- so many groups are planned for the rows of a part, which has fewer, and it is the first such part
pub record NeedsGroups (s : Shape) (rows : Map) (need : ℕ) : Type 0 where
  pub part : ℕ
  pub is_part : part < parts_in s
  pub planned : need ≡ planned_count s rows part
  pub too_many : s.limits.groups < need
  pub others_fit : (earlier : ℕ) → earlier < part → planned_count s rows earlier ≤ s.limits.groups

-- why a table of this shape is not opened with the rows: they do not rise, or they do and do not fit
abbrev pub IsRowRefusal : Shape → Map → OpenError → Type 0
IsRowRefusal s rows (BadLimit number) = ⊥
IsRowRefusal s rows (Unsorted at) = IsFirstUnsorted rows at
IsRowRefusal s rows (TooMany need have) =
    IsRising rows × NeedsGroups s rows need × (have ≡ s.limits.groups)
IsRowRefusal s rows Memory = ⊥

-- why no index was opened: a rule is broken, of which this is the first; or all are kept and the rows are refused;
-- or these can be opened and there was no memory
abbrev pub IsRefusal : Shape → Map → OpenError → Type 0
IsRefusal s rows (BadLimit number) = IsFirstBrokenIn s number
IsRefusal s rows Memory = KeepsRulesIn s × IsRising rows × FitsTable s rows
IsRefusal s rows error = KeepsRulesIn s × IsRowRefusal s rows error
