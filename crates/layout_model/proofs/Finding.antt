-- What is found of a key has the key, stands where it was found, and has a value.
use Rattle.std.proofs.Common.{◌≡◌, ℕ, Bool, true, false, cond, Option, Some, None, List, [], ◌∷◌, refl, inl, inr}
use Rattle.std.proofs.lemmas.Bool.{cases_Bool, eqb-true}
use Rattle.std.specs.Prelude.{◌==◌}
use Rattle.layout_model.specs.Cells.{Cell, cell_at, unless_removed}
use Rattle.layout_model.specs.Layout.{Part}
use Rattle.layout_model.specs.Records.{Found, InArray, InBuffer, InNewBuffer, Spot, cells_for, found_at, live_record}

-- the record with a key has it
pub cell_at-key : (cells : List Cell) (k : ℕ) (c : Cell) → cell_at cells k ≡ Some c → c.key ≡ k
cell_at-key [] k c e = cc
cell_at-key (x ∷ xs) k c e =
    elim (cases_Bool (x.key == k)) [
      | inl same ↦
          let is : Some x ≡ Some c = rw same at e in
          let key = eqb-true x.key k same in
          cc
      | inr other ↦ cell_at-key xs k c (rw other at e)
    ]

-- a record that was found stands at its spot, and has the key and a value
pub record IsThere (p : Part) (k : ℕ) (at : Found) : Type 0 where
  pub there : cell_at (cells_for p k at.spot) k ≡ Some at.cell
  pub key : at.cell.key ≡ k
  pub live : at.cell.removed ≡ false

-- so it is where anything was found
abbrev pub IsThereIfAny : Part → ℕ → Option Found → Type 0
IsThereIfAny p k None = Unit {0}
IsThereIfAny p k (Some at) = IsThere p k at

by_mark : (p : Part) (k : ℕ) (spot : Spot) (c : Cell) (removed : Bool) (elsewhere : Option Found) →
    cell_at (cells_for p k spot) k ≡ Some c → c.removed ≡ removed →
    IsThereIfAny p k elsewhere →
    IsThereIfAny p k (found_at spot (cond removed None (Some c)) elsewhere)
by_mark p k spot c true elsewhere e is there = there
by_mark p k spot c false elsewhere e is there =
    record { there = e; key = cell_at-key (cells_for p k spot) k c e; live = is }

found_at-there : (p : Part) (k : ℕ) (spot : Spot) (o : Option Cell) (elsewhere : Option Found) →
    cell_at (cells_for p k spot) k ≡ o → IsThereIfAny p k elsewhere →
    IsThereIfAny p k (found_at spot (unless_removed o) elsewhere)
found_at-there p k spot None elsewhere e there = there
found_at-there p k spot (Some c) elsewhere e there =
    by_mark p k spot c c.removed elsewhere e refl there

pub live_record-there : (p : Part) (k : ℕ) → IsThereIfAny p k (live_record p k)
live_record-there p k =
    found_at-there p k InArray (cell_at (cells_for p k InArray) k) _ refl
    (found_at-there p k InBuffer (cell_at (cells_for p k InBuffer) k) _ refl
    (found_at-there p k InNewBuffer (cell_at (cells_for p k InNewBuffer) k) None refl tt))
