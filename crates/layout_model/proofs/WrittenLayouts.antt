-- What a layout is once records were written at a spot of a key: well-formed, with one value changed, and with its rows.
use Rattle.std.proofs.Common.{◌≡◌, ℕ, ◌+◌, ◌<◌, Bool, Some, None, List, length, set, refl, arith, inl, inr}
use Rattle.std.proofs.lemmas.Bool.{cases_eq}
use Rattle.std.proofs.lemmas.List.{get_or-set_other, get_or-set_same, length-set}
use Rattle.std.proofs.lemmas.List.Sums.{sum_by-set}
use Rattle.std.specs.Prelude.{sum_by}
use Rattle.word_layout.specs.Shape.{Shape, parts_in}
use Rattle.layout_model.specs.Cells.{Cell, unless_removed}
use Rattle.layout_model.specs.Layout.{Layout, Part, no_part, part_at, part_for, part_number}
use Rattle.layout_model.specs.Records.{InArray, InBuffer, InNewBuffer, Spot, cells_for, found_at, live_record, with_cells}
use Rattle.layout_model.specs.RowLaws.{part_groups, part_rows}
use Rattle.layout_model.specs.WellFormed.{AreRecords, AwaitsHeld, IsWellFormed, IsWellFormedPart}
use Rattle.layout_model.proofs.Counts.{part_groups-with_cells, part_rows-with_cells, rows_at}
use Rattle.layout_model.proofs.KeptParts.{HasKeyFor, with_cells-formed}
use Rattle.layout_model.proofs.Positions.{part_number-within}
use Rattle.layout_model.proofs.Values.{Writes, live_record-other, live_record-own, written-one_value}

-- ---- another part ----

-- the layout with a part that is well-formed, and waits for held callers alone
pub with_part-formed : (h : Shape) (s t : Layout) (i : ℕ) (q : Part) → IsWellFormed h s →
    i < parts_in h → t.parts ≡ set s.parts i q → t.held ≡ s.held → IsWellFormedPart h i q →
    AwaitsHeld s.held q → IsWellFormed h t
with_part-formed h s t i q formed inside is held own awaits =
    let within : i < length s.parts = rw formed.many inside in
    record {
      many = rw (is, length-set s.parts i q) formed.many;
      parts =
          λ j part.
          elim (cases_eq j i) [
            | inl here ↦ rw (here, is, get_or-set_same s.parts i q no_part within) own
            | inr apart ↦ rw (is, get_or-set_other s.parts i j q no_part apart) (formed.parts j part)
          ];
      awaited =
          λ j part.
          elim (cases_eq j i) [
            | inl here ↦ rw (here, is, held, get_or-set_same s.parts i q no_part within) awaits
            | inr apart ↦
                rw (is, held, get_or-set_other s.parts i j q no_part apart) (formed.awaited j part)
          ];
    }

with_cells-awaits : (held : ℕ → Bool) (p : Part) (k : ℕ) (spot : Spot) (cells : List Cell) →
    AwaitsHeld held p → AwaitsHeld held (with_cells k spot cells p)
with_cells-awaits held p k InArray cells awaits = awaits
with_cells-awaits held p k InBuffer cells awaits = awaits
with_cells-awaits held p k InNewBuffer cells awaits = awaits

-- ---- written records ----

-- a layout is left in which this record was written at a spot of the key
pub record Leaves (h : Shape) (s t : Layout) (k : ℕ) (spot : Spot) (new : Cell) : Type 0 where
  pub formed : IsWellFormed h t
  pub own : live_record (part_for h t k) k ≡ found_at spot (unless_removed (Some new)) None
  pub others : (q : ℕ) → (q ≡ k → ⊥) →
      live_record (part_for h t q) q ≡ live_record (part_for h s q) q
  pub groups : (i : ℕ) → part_groups (part_at t i) ≡ part_groups (part_at s i)

-- the records that fit at the spot of a key, with this one among them
pub record Fits (h : Shape) (p : Part) (k : ℕ) (spot : Spot) (new : Cell) (cells : List Cell) : Type 0 where
  pub writes : Writes p k spot new cells
  pub records : AreRecords (HasKeyFor h (part_number h k) p k spot) cells

-- the parts of a layout with records written at a spot of a key
abbrev pub written_parts : Shape → Layout → ℕ → Spot → List Cell → List Part
written_parts h s k spot cells =
    set s.parts (part_number h k) (with_cells k spot cells (part_for h s k))

pub written-leaves : (h : Shape) (s t : Layout) (k : ℕ) (spot : Spot) (new : Cell) (cells : List Cell) →
    IsWellFormed h s → Fits h (part_for h s k) k spot new cells →
    t.parts ≡ written_parts h s k spot cells → t.held ≡ s.held → Leaves h s t k spot new
written-leaves h s t k spot new cells formed fits is held =
    let i = part_number h k in
    let p = part_for h s k in
    let q = with_cells k spot cells p in
    let inside = part_number-within h k in
    let within : i < length s.parts = rw formed.many inside in
    let part = formed.parts i inside in
    let one = written-one_value p k spot new cells fits.writes part.one_value in
    record {
      formed =
          with_part-formed h s t i q formed inside is held
          (with_cells-formed h i p k spot cells part fits.writes.is fits.records one)
          (with_cells-awaits s.held p k spot cells (formed.awaited i inside));
      own =
          rw (is, get_or-set_same s.parts i q no_part within)
          (live_record-own p k spot new cells fits.writes);
      others =
          λ other apart.
          elim (cases_eq (part_number h other) i) [
            | inl here ↦
                rw (is, here, get_or-set_same s.parts i q no_part within)
                (live_record-other p k spot new cells other fits.writes apart)
            | inr away ↦
                rw (is, get_or-set_other s.parts i (part_number h other) q no_part away) refl
          ];
      groups =
          λ j.
          elim (cases_eq j i) [
            | inl here ↦
                rw (here, is, get_or-set_same s.parts i q no_part within)
                (part_groups-with_cells p k spot cells)
            | inr apart ↦ rw (is, get_or-set_other s.parts i j q no_part apart) refl
          ];
    }

-- it has more rows by as many as there are more records at a spot of a buffer
pub written-rows : (h : Shape) (s t : Layout) (k : ℕ) (spot : Spot) (new : Cell) (cells : List Cell) →
    IsWellFormed h s → Writes (part_for h s k) k spot new cells →
    t.parts ≡ written_parts h s k spot cells →
    sum_by part_rows t.parts + rows_at spot (length (cells_for (part_for h s k) k spot))
    ≡ sum_by part_rows s.parts + rows_at spot (length cells)
written-rows h s t k spot new cells formed writes is =
    let i = part_number h k in
    let p = part_for h s k in
    let within : i < length s.parts = rw formed.many (part_number-within h k) in
    let part = part_rows-with_cells p k spot cells writes.places writes.is in
    let all = sum_by-set part_rows s.parts i (with_cells k spot cells p) no_part within in
    rw is (omega arith)
