-- What a record that is overwritten, revived or removed, and a new row, leave of a layout.
use Rattle.std.proofs.Common.{◌≡◌, ℕ, ◌+◌, ◌≤◌, Some, List, [], ◌∷◌, length, refl, sym, ap, subst, arith, inl, inr}
use Rattle.std.proofs.lemmas.Bool.{cases_eq, eq-eqb, ne_eqb}
use Rattle.std.proofs.lemmas.List.Elements.{All-head, All-tail}
use Rattle.std.specs.Prelude.{All, sum_by}
use Rattle.word_layout.specs.Shape.{Shape}
use Rattle.layout_model.specs.Calls.{last_version, new_cell, with_row, with_written}
use Rattle.layout_model.specs.Cells.{Cell, added, cell_at, replaced}
use Rattle.layout_model.specs.Groups.{group_for}
use Rattle.layout_model.specs.Layout.{Layout, Part, part_for, part_number}
use Rattle.layout_model.specs.Phase.{Phase}
use Rattle.layout_model.specs.Phase as phase
use Rattle.layout_model.specs.Records.{Found, HasNoRow, InArray, InBuffer, InNewBuffer, Spot, cells_for, new_spot}
use Rattle.layout_model.specs.RowLaws.{part_rows}
use Rattle.layout_model.specs.WellFormed.{IsWellFormed}
use Rattle.layout_model.proofs.Counts.{length-added, length-replaced, rows_at}
use Rattle.layout_model.proofs.KeptParts.{own_key, places-formed, records_at}
use Rattle.layout_model.proofs.Lookups.{IsSpot-from_cell, IsSpot-from_named}
use Rattle.layout_model.proofs.Positions.{part_number-within}
use Rattle.layout_model.proofs.RecordLists.{AreRecords-added, AreRecords-replaced, cell_at-added, cell_at-added_other, cell_at-replaced, cell_at-replaced_other}
use Rattle.layout_model.proofs.Values.{OnlyAt, no_value}
use Rattle.layout_model.proofs.WrittenLayouts.{Fits, Leaves, written-leaves, written-rows}

-- ---- records that were found ----

-- what holds of all records holds of the one with a key
All-cell_at : (P : Cell → Type 0) (cells : List Cell) (k : ℕ) (c : Cell) → cell_at cells k ≡ Some c →
    All P cells → P c
All-cell_at P [] k c is all = cc
All-cell_at P (x ∷ xs) k c is all =
    elim (cases_eq x.key k) [
      | inl same ↦
          let found : Some x ≡ Some c = rw (eq-eqb x.key k same) at is in
          let here : x ≡ c = cc in
          subst P here (All-head P x xs all)
      | inr apart ↦ All-cell_at P xs k c (rw (ne_eqb x.key k apart) at is) (All-tail P x xs all)
    ]

next_version : (version last : ℕ) → version ≤ last → (version ≡ last → ⊥) → version + 1 ≤ last
next_version version last most less = omega arith

-- ---- a record in the place of another ----

-- a record that stands at the only spot at which its key may have a value
pub record StandsAt (h : Shape) (s : Layout) (k : ℕ) (at : Found) : Type 0 where
  pub only : OnlyAt (part_for h s k) k at.spot
  pub there : cell_at (cells_for (part_for h s k) k at.spot) k ≡ Some at.cell
  pub less : at.cell.version ≡ last_version → ⊥

-- another record of its key, its version raised
abbrev pub raised : Found → Cell → Cell
raised at new = record new { version = at.cell.version + 1 }

replaced-fits : (h : Shape) (s : Layout) (at : Found) (new : Cell) → IsWellFormed h s →
    StandsAt h s new.key at →
    Fits h (part_for h s new.key) new.key at.spot (raised at new)
    (replaced (raised at new) (cells_for (part_for h s new.key) new.key at.spot))
replaced-fits h s at new formed stands =
    let p = part_for h s new.key in
    let part = formed.parts (part_number h new.key) (part_number-within h new.key) in
    let cells = cells_for p new.key at.spot in
    let is = IsSpot-from_cell p new.key at.spot at.cell stands.there in
    let fit = records_at h (part_number h new.key) p new.key at.spot part is in
    let version =
    All-cell_at (λ (c : Cell). c.version ≤ last_version) cells new.key at.cell stands.there fit.versions in
    record {
      writes =
          record {
            places = places-formed h (part_number h new.key) p part;
            is = is;
            only = stands.only;
            own = cell_at-replaced (raised at new) cells at.cell stands.there;
            others = λ q apart. cell_at-replaced_other (raised at new) cells q (λ e. apart (sym e));
          };
      records =
          AreRecords-replaced _ (raised at new) cells
          (next_version at.cell.version last_version version stands.less) fit;
    }

-- the layout has one record for another, and as many rows
pub record LeavesWritten (h : Shape) (s : Layout) (k : ℕ) (at : Found) (new : Cell) : Type 0 where
  pub leaves : Leaves h s (with_written h at new s) k at.spot (raised at new)
  pub rows : sum_by part_rows (with_written h at new s).parts ≡ sum_by part_rows s.parts

own_key-leaves : (h : Shape) (s : Layout) (at : Found) (new : Cell) → IsWellFormed h s →
    StandsAt h s new.key at → LeavesWritten h s new.key at new
own_key-leaves h s at new formed stands =
    let cells = cells_for (part_for h s new.key) new.key at.spot in
    let fits = replaced-fits h s at new formed stands in
    let long = ap (rows_at at.spot) (length-replaced (raised at new) cells) in
    let rows =
    written-rows h s (with_written h at new s) new.key at.spot (raised at new)
    (replaced (raised at new) cells) formed fits.writes refl in
    record {
      leaves =
          written-leaves h s (with_written h at new s) new.key at.spot (raised at new)
          (replaced (raised at new) cells) formed fits refl refl;
      rows = omega (arith, rows, long);
    }

pub written-leaves_at : (h : Shape) (s : Layout) (k : ℕ) (at : Found) (new : Cell) → IsWellFormed h s →
    new.key ≡ k → StandsAt h s k at → LeavesWritten h s k at new
written-leaves_at h s k at new formed same stands =
    let P : ℕ → Type 0 = λ k. StandsAt h s k at → LeavesWritten h s k at new in
    subst P same (own_key-leaves h s at new formed) stands

-- ---- a new row ----

-- a new row stands in a buffer
named-rows : (is : Phase) (spot : Spot) (many : ℕ) → new_spot is ≡ Some spot → rows_at spot many ≡ many
named-rows phase.Open InArray many named = cc
named-rows phase.Open InBuffer many named = refl
named-rows phase.Open InNewBuffer many named = refl
named-rows phase.Frozen spot many named = cc
named-rows phase.Opened InArray many named = cc
named-rows phase.Opened InBuffer many named = refl
named-rows phase.Opened InNewBuffer many named = refl

pub row_more : (p : Part) (k : ℕ) (spot : Spot) (many : ℕ) →
    new_spot (group_for p.chain k).phase ≡ Some spot → rows_at spot many ≡ many
row_more p k spot many named = named-rows (group_for p.chain k).phase spot many named

added-fits : (h : Shape) (s : Layout) (spot : Spot) (new : Cell) → IsWellFormed h s →
    new.version ≤ last_version → HasNoRow (part_for h s new.key) new.key spot →
    Fits h (part_for h s new.key) new.key spot new (added new (cells_for (part_for h s new.key) new.key spot))
added-fits h s spot new formed version none =
    let p = part_for h s new.key in
    let i = part_number h new.key in
    let part = formed.parts i (part_number-within h new.key) in
    let cells = cells_for p new.key spot in
    let is = IsSpot-from_named p new.key spot none.named in
    record {
      writes =
          record {
            places = places-formed h i p part;
            is = is;
            only = λ other has. absurd (no_value p new.key none.absent other has);
            own = cell_at-added new cells none.none;
            others = λ q apart. cell_at-added_other new cells q (λ e. apart (sym e));
          };
      records =
          AreRecords-added _ new cells version (own_key h i p new.key spot refl is) none.none
          (records_at h i p new.key spot part is);
    }

-- the layout has one row more
pub record LeavesRow (h : Shape) (s : Layout) (spot : Spot) (k v left : ℕ) : Type 0 where
  pub leaves : Leaves h s (with_row h spot k v left s) k spot (new_cell h k v)
  pub rows : sum_by part_rows (with_row h spot k v left s).parts ≡ sum_by part_rows s.parts + 1

pub row-leaves : (h : Shape) (s : Layout) (spot : Spot) (k v left : ℕ) → IsWellFormed h s →
    h.limits.first_version ≤ last_version → HasNoRow (part_for h s k) k spot →
    LeavesRow h s spot k v left
row-leaves h s spot k v left formed version none =
    let cells = cells_for (part_for h s k) k spot in
    let new = new_cell h k v in
    let fits = added-fits h s spot new formed version none in
    let rows =
    written-rows h s (with_row h spot k v left s) k spot new (added new cells) formed fits.writes refl in
    let long = length-added new cells in
    let had = row_more (part_for h s k) k spot (length cells) none.named in
    let has = row_more (part_for h s k) k spot (length (added new cells)) none.named in
    record {
      leaves =
          written-leaves h s (with_row h spot k v left s) k spot new (added new cells) formed fits refl refl;
      rows = omega (arith, rows, long, had, has);
    }
