-- Rows are kept: each record row is free or in a buffer, and each group row of a part is free or one of its groups.
use Rattle.std.specs.Prelude.{◌≡◌, ℕ, ◌+◌, ◌<◌, List, length, sum, sum_by}
use Rattle.word_layout.specs.Limits.{KeepsRulesIn}
use Rattle.word_layout.specs.Shape.{Shape, parts_in}
use Rattle.layout_model.specs.Calls.{get, put, remove}
use Rattle.layout_model.specs.Groups.{Group, row_count}
use Rattle.layout_model.specs.Layout.{Layout, Part, part_at}
use Rattle.layout_model.specs.Replay.{free, hold}
use Rattle.layout_model.specs.Scans.{scan}
use Rattle.layout_model.specs.WellFormed.{IsWellFormed}

-- ---- counts ----

-- how many rows the buffers of the groups have
abbrev pub rows_in : List Group → ℕ
rows_in groups = sum_by row_count groups

-- how many rows the buffers of a part have: of the chain, of the new groups, and of the groups taken out of the chain
abbrev pub part_rows : Part → ℕ
part_rows p = rows_in p.chain + rows_in p.coming + sum p.gone

-- how many rows there are: free ones, and those in buffers
abbrev pub all_rows : Layout → ℕ
all_rows s = s.free_rows + sum_by part_rows s.parts

-- how many group rows a part has: free ones, those of the chain, of the new groups, and of those taken out
abbrev pub part_groups : Part → ℕ
part_groups p = p.free_groups + length p.chain + length p.coming + length p.gone

-- ---- what is kept ----

-- the layout is well-formed; no row is lost or made, and each part has its group rows
pub record IsSound (h : Shape) (s : Layout) : Type 0 where
  pub formed : IsWellFormed h s
  pub rows : all_rows s ≡ h.limits.records
  pub groups : (i : ℕ) → i < parts_in h → part_groups (part_at s i) ≡ h.limits.groups

-- calls keep it so, and so do callers who are held and freed
abbrev pub GetsKeepLayouts : Type 0
GetsKeepLayouts = (h : Shape) (c k : ℕ) (s : Layout) → IsSound h s → IsSound h (get h c k s).left

abbrev pub ScansKeepLayouts : Type 0
ScansKeepLayouts = (h : Shape) (c from wanted : ℕ) (s : Layout) → IsSound h s →
    IsSound h (scan h c from wanted s).left

abbrev pub PutsKeepLayouts : Type 0
PutsKeepLayouts = (h : Shape) (c k v : ℕ) (s : Layout) → KeepsRulesIn h → IsSound h s →
    IsSound h (put h c k v s).left

abbrev pub RemovesKeepLayouts : Type 0
RemovesKeepLayouts = (h : Shape) (c k : ℕ) (s : Layout) → IsSound h s →
    IsSound h (remove h c k s).left

abbrev pub HoldsKeepLayouts : Type 0
HoldsKeepLayouts = (h : Shape) (c : ℕ) (s : Layout) → IsSound h s → IsSound h (hold c s)

abbrev pub FreesKeepLayouts : Type 0
FreesKeepLayouts = (h : Shape) (c : ℕ) (s : Layout) → IsSound h s → IsSound h (free c s)
