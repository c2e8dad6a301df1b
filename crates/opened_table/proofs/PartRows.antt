-- The rows of a part, cut off from the rows behind them.
use Rattle.std.proofs.Common.{◌≡◌, ◌≢◌, ℕ, zero, suc, ◌+◌, ◌<◌, ◌≤◌, List, [], ◌∷◌, ◌++◌, take, drop}
use Rattle.std.proofs.Common.{length, slice_index_or, refl, sym, ap, ◌∙◌, arith}
use Rattle.std.specs.List.{AllByRecursion}
use Rattle.std.specs.List.Sorted.{IsNonDecreasingBy, IsPartitionPoint}
use Rattle.std.proofs.lemmas.List.{take-append-drop}
use Rattle.std.proofs.lemmas.List.Elements.{filter-append}
use Rattle.std.specs.Prelude.{◌==◌}
use Rattle.map_model.specs.Map.{Map, IsRising}
use Rattle.word_layout.specs.Parts.{part_with}
use Rattle.word_layout.proofs.PartGroups.{part_with-monotone}
use Rattle.index_machine.proofs.OpeningKeys.{every_row, from_all}
use Rattle.opened_table.specs.Laying.{rows_for}
use Rattle.opened_table.proofs.GroupRows.{all_rows, no_rows}

-- ---- what holds of rows by their numbers ----

-- what all keep, the one with this number keeps
all_at : (P : ℕ × ℕ → Type 0) (rows : Map) (i : ℕ) (d : ℕ × ℕ) → AllByRecursion P rows →
    i < length rows → P (slice_index_or rows i d)
all_at P [] i d all below = absurd (omega arith)
all_at P (r ∷ rows) zero d all below = all.0
all_at P (r ∷ rows) (suc i) d all below = all_at P rows i d all.1 (omega arith)

-- a row behind another has the greater key, or the same one where it is no other
keys_rise : (rows : Map) (i j : ℕ) (d : ℕ × ℕ) → IsRising rows → i ≤ j → j < length rows →
    (slice_index_or rows i d).0 ≤ (slice_index_or rows j d).0
keys_rise [] i j d rising upto below = absurd (omega arith)
keys_rise (r ∷ rows) zero zero d rising upto below = omega arith
keys_rise (r ∷ rows) zero (suc j) d rising upto below =
    let less = all_at (λ (q : ℕ × ℕ). r.0 < q.0) rows j d rising.0 (omega arith) in omega arith
keys_rise (r ∷ rows) (suc i) zero d rising upto below = absurd (omega arith)
keys_rise (r ∷ rows) (suc i) (suc j) d rising upto below =
    keys_rise rows i j d rising.1 (omega arith) (omega arith)

-- so its part is the same or a later one
pub parts_rise : (bounds : List ℕ) (rows : Map) → IsRising rows →
    IsNonDecreasingBy (λ (r : ℕ × ℕ). part_with bounds r.0) rows
parts_rise bounds rows rising i j d upto below =
    part_with-monotone bounds (slice_index_or rows i d).0 (slice_index_or rows j d).0
    (keys_rise rows i j d rising upto below)

-- what holds of each of the first rows, all of them keep
all_before : (P Q : ℕ × ℕ → Type 0) (rows : Map) (n : ℕ) → IsPartitionPoint P Q rows n →
    n ≤ length rows → AllByRecursion P (take n rows)
all_before P Q rows zero at upto = tt
all_before P Q [] (suc n) at upto = absurd (omega arith)
all_before P Q (r ∷ rows) (suc n) at upto = (
  at.0 0 r (omega arith) (omega arith),
  all_before P Q rows n (
    λ k d least below. at.0 (suc k) d (omega arith) (omega arith),
    λ k d least below. at.1 (suc k) d (omega arith) (omega arith),
  )
      (omega arith),
)

-- and of each of the others, all of those
all_behind : (P Q : ℕ × ℕ → Type 0) (rows : Map) (n : ℕ) → IsPartitionPoint P Q rows n →
    AllByRecursion Q (drop n rows)
all_behind P Q [] zero at = tt
all_behind P Q (r ∷ rows) zero at = (
  at.1 0 r (omega arith) (omega arith),
  all_behind P Q rows 0 (
    λ k d least below. absurd (omega arith),
    λ k d least below. at.1 (suc k) d (omega arith) (omega arith),
  ),
)
all_behind P Q [] (suc n) at = tt
all_behind P Q (r ∷ rows) (suc n) at =
    all_behind P Q rows n (
      λ k d least below. at.0 (suc k) d (omega arith) (omega arith),
      λ k d least below. at.1 (suc k) d (omega arith) (omega arith),
    )

all_taken : (P : ℕ × ℕ → Type 0) (rows : Map) (n : ℕ) → AllByRecursion P rows →
    AllByRecursion P (take n rows)
all_taken P rows zero all = tt
all_taken P [] (suc n) all = tt
all_taken P (r ∷ rows) (suc n) all = (all.0, all_taken P rows n all.1)

rising_dropped : (rows : Map) (n : ℕ) → IsRising rows → IsRising (drop n rows)
rising_dropped rows zero rising = rising
rising_dropped [] (suc n) rising = tt
rising_dropped (r ∷ rows) (suc n) rising = rising_dropped rows n rising.1

both : (P Q : ℕ × ℕ → Type 0) (rows : Map) → AllByRecursion P rows → AllByRecursion Q rows →
    AllByRecursion (λ (r : ℕ × ℕ). P r × Q r) rows
both P Q [] p q = tt
both P Q (r ∷ rows) p q = ((p.0, q.0), both P Q rows p.1 q.1)

-- ---- the rows from a part on ----

-- the rows are those of the table that stand in this part and in later ones
pub record AreFrom (bounds : List ℕ) (part : ℕ) (all rows : Map) : Type 0 where
  pub rising : IsRising rows
  pub from : AllByRecursion (λ (r : ℕ × ℕ). part ≤ part_with bounds r.0) rows
  pub complete : (later : ℕ) → part ≤ later →
      rows_for (part_with bounds) later rows ≡ rows_for (part_with bounds) later all

-- the rows are cut behind those of the part
module _ (bounds : List ℕ) (part : ℕ) (all rows : Map) (n : ℕ) (are : AreFrom bounds part all rows)
    (upto : n ≤ length rows)
    (at : IsPartitionPoint (λ (r : ℕ × ℕ). part_with bounds r.0 ≤ part)
    (λ (r : ℕ × ℕ). part < part_with bounds r.0) rows n) where
  abbrev own : Map
  own = take n rows

  abbrev later : Map
  later = drop n rows

  abbrev IsOwn : ℕ × ℕ → Type 0
  IsOwn r = part_with bounds r.0 ≤ part

  abbrev IsLater : ℕ × ℕ → Type 0
  IsLater r = part < part_with bounds r.0

  abbrev IsFrom : ℕ × ℕ → Type 0
  IsFrom r = part ≤ part_with bounds r.0

  -- the part of an own row
  own_part : AllByRecursion (λ (r : ℕ × ℕ). part_with bounds r.0 ≡ part) own
  own_part =
      from_all (λ (r : ℕ × ℕ). IsOwn r × IsFrom r) (λ (r : ℕ × ℕ). part_with bounds r.0 ≡ part) own
      (λ r h. omega (arith, h.0, h.1))
      (both IsOwn IsFrom own (all_before IsOwn IsLater rows n at upto) (all_taken IsFrom rows n are.from))

  -- no later row has it
  later_part : AllByRecursion IsLater later
  later_part = all_behind IsOwn IsLater rows n at

  -- the rows of any part are its own ones and its later ones
  divided : (other : ℕ) →
      rows_for (part_with bounds) other rows
      ≡ rows_for (part_with bounds) other own ++ rows_for (part_with bounds) other later
  divided other =
      ap (rows_for (part_with bounds) other) (sym (take-append-drop n rows))
      ∙ filter-append (λ (r : ℕ × ℕ). part_with bounds r.0 == other) own later

  -- the own rows are the part's
  pub own_rows : own ≡ rows_for (part_with bounds) part all
  own_rows =
      let none : rows_for (part_with bounds) part later ≡ [] =
      no_rows (part_with bounds) part later
      (from_all IsLater (λ (r : ℕ × ℕ). part_with bounds r.0 ≢ part) later (λ r more e. absurd (omega (arith, more, e)))
      later_part)
      in
      sym (sym (are.complete part (omega arith))
      ∙ (divided part
      ∙ (ap (λ (z : Map). z ++ rows_for (part_with bounds) part later)
      (all_rows (part_with bounds) part own own_part)
      ∙ (ap (λ (z : Map). own ++ z) none ∙ append_nil own))))
    where
      append_nil : (xs : Map) → xs ++ [] ≡ xs
      append_nil [] = refl
      append_nil (x ∷ xs) = ap (λ (z : Map). x ∷ z) (append_nil xs)

  -- the others are those of later parts
  pub later_rows : AreFrom bounds (part + 1) all later
  later_rows =
      record {
        rising = rising_dropped rows n are.rising;
        from = from_all IsLater (λ (r : ℕ × ℕ). part + 1 ≤ part_with bounds r.0) later
            (λ r more. omega arith) later_part;
        complete = λ other least.
            let none : rows_for (part_with bounds) other own ≡ [] =
            no_rows (part_with bounds) other own
            (from_all (λ (r : ℕ × ℕ). part_with bounds r.0 ≡ part)
            (λ (r : ℕ × ℕ). part_with bounds r.0 ≢ other) own
            (λ r is e. absurd (omega (arith, is, e, least))) own_part)
            in
            sym (sym (are.complete other (omega arith))
            ∙ (divided other ∙ ap (λ (z : Map). z ++ rows_for (part_with bounds) other later) none));
      }

-- all rows stand in part 0 or in later ones
pub from_first : (bounds : List ℕ) (rows : Map) → IsRising rows → AreFrom bounds 0 rows rows
from_first bounds rows rising =
    record {
      rising = rising;
      from = every_row (λ (r : ℕ × ℕ). 0 ≤ part_with bounds r.0) rows (λ r. omega arith);
      complete = λ later least. refl;
    }
