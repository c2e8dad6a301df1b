-- What a put and a remove do at a layout in which their key is located, case by case, each with its cause.
use Rattle.std.proofs.Common.{◌≡◌, ℕ, zero, suc, false, true, Option, Some, None, refl, sym, inl, inr}
use Rattle.std.proofs.lemmas.Bool.{cases_Bool, eqb-false, eqb-true}
use Rattle.std.specs.Prelude.{◌==◌}
use Rattle.word_layout.specs.Shape.{Shape}
use Rattle.layout_model.specs.Calls.{AgainFrozen, Done, Full, Outcome, Worn, inserted, last_version, linked, located, outcome, put, put_new, put_over, remove, removed_from, with_row, with_written}
use Rattle.layout_model.specs.Cells.{Cell, cell_at}
use Rattle.layout_model.specs.Groups.{group_for}
use Rattle.layout_model.specs.Layout.{Layout, Part, part_for}
use Rattle.layout_model.specs.Phase.{Phase}
use Rattle.layout_model.specs.Phase as phase
use Rattle.layout_model.specs.Records.{Found, HasNoRow, HasRemovedRow, InBuffer, InNewBuffer, IsFrozenFor, Spot, cells_for, live_record, new_spot}
use Rattle.layout_model.proofs.Finding.{IsThereIfAny, IsThere, live_record-there}

-- the key has a value, in this record
pub record HasValue (p : Part) (k : ℕ) (at : Found) : Type 0 where
  pub live : live_record p k ≡ Some at
  pub there : IsThere p k at

-- ---- put ----

-- what a put of a value at a key comes to
pub data PutDoes (h : Shape) (k v : ℕ) (s : Layout) : Outcome → Type 0 where
  Overwrites : (at : Found) → HasValue (part_for h s k) k at → (at.cell.version ≡ last_version → ⊥) →
      PutDoes h k v s (outcome (Done (Some at.cell.value)) (with_written h at (record at.cell { value = v }) s))
  MeetsWornValue : (at : Found) → HasValue (part_for h s k) k at → at.cell.version ≡ last_version →
      PutDoes h k v s (outcome Worn s)
  MeetsFrozen : IsFrozenFor (part_for h s k) k → PutDoes h k v s (outcome AgainFrozen s)
  Revives : (spot : Spot) (row : Cell) → HasRemovedRow (part_for h s k) k spot row →
      (row.version ≡ last_version → ⊥) →
      PutDoes h k v s (outcome (Done None)
      (with_written h (record { spot = spot; cell = row }) (record row { value = v; removed = false }) s))
  MeetsWornRow : (spot : Spot) (row : Cell) → HasRemovedRow (part_for h s k) k spot row →
      row.version ≡ last_version → PutDoes h k v s (outcome Worn s)
  Links : (spot : Spot) (left : ℕ) → HasNoRow (part_for h s k) k spot → suc left ≡ s.free_rows →
      PutDoes h k v s (outcome (Done None) (with_row h spot k v left s))
  MeetsNoRow : (spot : Spot) → HasNoRow (part_for h s k) k spot → s.free_rows ≡ 0 →
      PutDoes h k v s (outcome Full s)

linked-does : (h : Shape) (spot : Spot) (k v left : ℕ) (s : Layout) → left ≡ s.free_rows →
    HasNoRow (part_for h s k) k spot → PutDoes h k v s (linked h spot k v left s)
linked-does h spot k v zero s is no_row = MeetsNoRow spot no_row (sym is)
linked-does h spot k v (suc left) s is no_row = Links spot left no_row is

revived-does : (h : Shape) (spot : Spot) (k v : ℕ) (row : Cell) (s : Layout) →
    HasRemovedRow (part_for h s k) k spot row →
    PutDoes h k v s (inserted h spot k v (Some row) s)
revived-does h spot k v row s there =
    elim (cases_Bool (row.version == last_version)) [
      | inl last ↦ rw last (MeetsWornRow spot row there (eqb-true row.version last_version last))
      | inr less ↦ rw less (Revives spot row there (eqb-false row.version last_version less))
    ]

inserted-does : (h : Shape) (spot : Spot) (k v : ℕ) (found : Option Cell) (s : Layout) →
    live_record (part_for h s k) k ≡ None →
    new_spot (group_for (part_for h s k).chain k).phase ≡ Some spot →
    cell_at (cells_for (part_for h s k) k spot) k ≡ found →
    PutDoes h k v s (inserted h spot k v found s)
inserted-does h spot k v None s absent named is =
    linked-does h spot k v s.free_rows s refl (record { absent = absent; named = named; none = is })
inserted-does h spot k v (Some row) s absent named is =
    revived-does h spot k v row s (record { absent = absent; named = named; there = is })

put_new-does : (h : Shape) (k v : ℕ) (is : Phase) (s : Layout) →
    (group_for (part_for h s k).chain k).phase ≡ is → live_record (part_for h s k) k ≡ None →
    PutDoes h k v s (put_new h k v is s)
put_new-does h k v phase.Open s e absent = inserted-does h InBuffer k v _ s absent (rw e refl) refl
put_new-does h k v phase.Frozen s e absent = MeetsFrozen (record { absent = absent; frozen = e })
put_new-does h k v phase.Opened s e absent =
    inserted-does h InNewBuffer k v _ s absent (rw e refl) refl

overwritten-does : (h : Shape) (k v : ℕ) (at : Found) (s : Layout) →
    HasValue (part_for h s k) k at → PutDoes h k v s (put_over h k v (Some at) s)
overwritten-does h k v at s has =
    elim (cases_Bool (at.cell.version == last_version)) [
      | inl last ↦ rw last (MeetsWornValue at has (eqb-true at.cell.version last_version last))
      | inr less ↦ rw less (Overwrites at has (eqb-false at.cell.version last_version less))
    ]

put_over-does : (h : Shape) (k v : ℕ) (found : Option Found) (s : Layout) →
    live_record (part_for h s k) k ≡ found → IsThereIfAny (part_for h s k) k found →
    PutDoes h k v s (put_over h k v found s)
put_over-does h k v None s is there = put_new-does h k v _ s refl is
put_over-does h k v (Some at) s is there =
    overwritten-does h k v at s (record { live = is; there = there })

pub put-does : (h : Shape) (c k v : ℕ) (s : Layout) →
    PutDoes h k v (located h c k s) (put h c k v s)
put-does h c k v s =
    put_over-does h k v _ (located h c k s) refl (live_record-there (part_for h s k) k)

-- ---- remove ----

-- what a remove of a key comes to
pub data RemoveDoes (h : Shape) (k : ℕ) (s : Layout) : Outcome → Type 0 where
  MeetsNone : live_record (part_for h s k) k ≡ None → RemoveDoes h k s (outcome (Done None) s)
  Removes : (at : Found) → HasValue (part_for h s k) k at → (at.cell.version ≡ last_version → ⊥) →
      RemoveDoes h k s (outcome (Done (Some at.cell.value))
      (with_written h at (record at.cell { value = 0; removed = true }) s))
  MeetsWorn : (at : Found) → HasValue (part_for h s k) k at → at.cell.version ≡ last_version →
      RemoveDoes h k s (outcome Worn s)

removed_one-does : (h : Shape) (k : ℕ) (at : Found) (s : Layout) → HasValue (part_for h s k) k at →
    RemoveDoes h k s (removed_from h (Some at) s)
removed_one-does h k at s has =
    elim (cases_Bool (at.cell.version == last_version)) [
      | inl last ↦ rw last (MeetsWorn at has (eqb-true at.cell.version last_version last))
      | inr less ↦ rw less (Removes at has (eqb-false at.cell.version last_version less))
    ]

removed_from-does : (h : Shape) (k : ℕ) (found : Option Found) (s : Layout) →
    live_record (part_for h s k) k ≡ found → IsThereIfAny (part_for h s k) k found →
    RemoveDoes h k s (removed_from h found s)
removed_from-does h k None s is there = MeetsNone is
removed_from-does h k (Some at) s is there =
    removed_one-does h k at s (record { live = is; there = there })

pub remove-does : (h : Shape) (c k : ℕ) (s : Layout) →
    RemoveDoes h k (located h c k s) (remove h c k s)
remove-does h c k s =
    removed_from-does h k _ (located h c k s) refl (live_record-there (part_for h s k) k)
