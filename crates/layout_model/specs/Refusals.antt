-- Exactly when a call is refused: no row is free, a record is worn, or a group is frozen.
--
-- The fact to remember: a refused call has located its key, and has changed nothing else.
use Rattle.std.specs.Prelude.{◌≡◌, ◌⊎◌, ◌↔◌, ℕ, Option, Some, ⊤}
use Rattle.word_layout.specs.Shape.{Shape}
use Rattle.layout_model.specs.CallLaws.{ChangesOnlyProbes}
use Rattle.layout_model.specs.Calls.{AgainFrozen, Done, Full, Reply, Worn, last_version, probes_for_key, put}
use Rattle.layout_model.specs.Calls.{remove}
use Rattle.layout_model.specs.Cells.{Cell}
use Rattle.layout_model.specs.Layout.{Layout, Part, part_for}
use Rattle.layout_model.specs.Records.{Found, HasNoRow, HasRemovedRow, IsFrozenFor, Spot, live_record}

-- ---- causes ----

-- the key has no value, no row at the spot where it is put, and none is free
pub record IsFullFor (h : Shape) (s : Layout) (k : ℕ) : Type 0 where
  pub spot : Spot
  pub no_row : HasNoRow (part_for h s k) k spot
  pub none_free : s.free_rows ≡ 0

-- the key has a value, in a record of the last version
pub record HasWornValue (p : Part) (k : ℕ) : Type 0 where
  pub at : Found
  pub live : live_record p k ≡ Some at
  pub worn : at.cell.version ≡ last_version

-- the key has no value, and a row of the last version at the spot where it is put
pub record HasWornRow (p : Part) (k : ℕ) : Type 0 where
  pub spot : Spot
  pub cell : Cell
  pub row : HasRemovedRow p k spot cell
  pub worn : cell.version ≡ last_version

-- ---- puts ----

abbrev pub PutsAreFull : Type 0
PutsAreFull = (h : Shape) (c k v : ℕ) (s : Layout) →
    ((put h c k v s).reply ≡ Full) ↔ IsFullFor h s k

abbrev pub PutsAreWorn : Type 0
PutsAreWorn = (h : Shape) (c k v : ℕ) (s : Layout) →
    let p = part_for h s k in
    ((put h c k v s).reply ≡ Worn) ↔ (HasWornValue p k ⊎ HasWornRow p k)

abbrev pub PutsAreFrozen : Type 0
PutsAreFrozen = (h : Shape) (c k v : ℕ) (s : Layout) →
    ((put h c k v s).reply ≡ AgainFrozen) ↔ IsFrozenFor (part_for h s k) k

-- ---- removes ----

abbrev pub RemovesAreWorn : Type 0
RemovesAreWorn = (h : Shape) (c k : ℕ) (s : Layout) →
    ((remove h c k s).reply ≡ Worn) ↔ HasWornValue (part_for h s k) k

-- the call is done, or its record is worn
abbrev pub IsDoneOrWorn : Reply → Type 0
IsDoneOrWorn reply = ((old : Option ℕ) × (reply ≡ Done old)) ⊎ (reply ≡ Worn)

-- a remove needs no row, and a frozen group refuses none
abbrev pub RemovesAreDoneOrWorn : Type 0
RemovesAreDoneOrWorn = (h : Shape) (c k : ℕ) (s : Layout) → IsDoneOrWorn (remove h c k s).reply

-- ---- what a refused call leaves ----

-- the reply is a refusal
abbrev pub IsRefusal : Reply → Type 0
IsRefusal (Done found) = ⊥
IsRefusal Full = ⊤
IsRefusal Worn = ⊤
IsRefusal AgainFrozen = ⊤

abbrev pub RefusedPutsChangeOnlyProbes : Type 0
RefusedPutsChangeOnlyProbes = (h : Shape) (c k v : ℕ) (s : Layout) →
    IsRefusal (put h c k v s).reply →
    ChangesOnlyProbes c (probes_for_key h s k) s (put h c k v s).left

abbrev pub RefusedRemovesChangeOnlyProbes : Type 0
RefusedRemovesChangeOnlyProbes = (h : Shape) (c k : ℕ) (s : Layout) →
    IsRefusal (remove h c k s).reply →
    ChangesOnlyProbes c (probes_for_key h s k) s (remove h c k s).left
