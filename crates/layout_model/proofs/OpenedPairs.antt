-- The pairs of an index as it is opened are its rows.
use Rattle.std.proofs.Common.{◌≡◌, ℕ, ◌<◌, Bool, true, Option, Some, None, option_map, List, [], ◌∷◌, length, refl, sym, ◌∙◌, ap, inl, inr}
use Rattle.std.proofs.lemmas.Bool.{cases_Bool, cases_eq, eq-eqb, ne_eqb}
use Rattle.std.proofs.lemmas.List.{get_or-map, length-map}
use Rattle.std.specs.Prelude.{filter, ◌==◌}
use Rattle.map_model.specs.Map.{Map, look}
use Rattle.word_layout.specs.Parts.{first_key_of}
use Rattle.word_layout.specs.Shape.{Shape}
use Rattle.layout_model.specs.Calls.{value_of}
use Rattle.layout_model.specs.Cells.{Cell, cell_at, keys_of, unless_removed}
use Rattle.layout_model.specs.Groups.{Group, group_at, group_for, group_position, no_group, pivots_of, with_array}
use Rattle.layout_model.specs.Layout.{part_number}
use Rattle.layout_model.specs.Opening.{opening_cells, opening_chain, opening_part}
use Rattle.layout_model.specs.OpeningLaws.{OpeningsHaveTheirPairs}
use Rattle.layout_model.specs.Plans.{filled, planned_groups, records_for}
use Rattle.layout_model.specs.Records.{InArray, found_at, live_record}
use Rattle.layout_model.specs.Stretches.{begin_of}
use Rattle.layout_model.proofs.OpenedLayouts.{only_array, part-at}
use Rattle.layout_model.proofs.OpenedParts.{cells_of_rows, chain-some, rows_of_part}
use Rattle.layout_model.proofs.Planning.{pivots_of-filled}
use Rattle.layout_model.proofs.Positions.{group_position-within, part_number-within}
use Rattle.layout_model.proofs.Values.{live_record-only}

-- ---- records of rows ----

-- the value of a record, unless it is removed
abbrev cell_value : Option Cell → Option ℕ
cell_value o = option_map (λ (c : Cell). c.value) (unless_removed o)

-- the record of a key among those of a part's rows has the row's value
rows-value : (h : Shape) (rows : Map) (i k : ℕ) → part_number h k ≡ i →
    cell_value (cell_at (cells_of_rows h (rows_of_part h rows i)) k) ≡ look rows k
unfolding look
rows-value h [] i k part = refl
rows-value h (row ∷ rows) i k part =
    let rest = rows-value h rows i k part in
    elim (cases_eq row.0 k) [
      | inl same ↦
          let own : part_number h row.0 ≡ i = rw same part in
          rw (eq-eqb (part_number h row.0) i own, eq-eqb row.0 k same) refl
      | inr apart ↦
          elim (cases_Bool (part_number h row.0 == i)) [
            | inl passed ↦ rw (passed, ne_eqb row.0 k apart) rest
            | inr failed ↦ rw (failed, ne_eqb row.0 k apart) rest
          ]
    ]

-- a record is found among those that pass a test which its key passes
cell_at-filter : (test : ℕ → Bool) (cells : List Cell) (k : ℕ) → test k ≡ true →
    cell_at (filter (λ c. test c.key) cells) k ≡ cell_at cells k
cell_at-filter test [] k passes = refl
cell_at-filter test (c ∷ cs) k passes =
    let rest = cell_at-filter test cs k passes in
    elim (cases_eq c.key k) [
      | inl same ↦
          let own : test c.key ≡ true = rw same passes in
          rw (own, eq-eqb c.key k same) refl
      | inr apart ↦
          elim (cases_Bool (test c.key)) [
            | inl passed ↦ rw (passed, ne_eqb c.key k apart) rest
            | inr failed ↦ rw (failed, ne_eqb c.key k apart) rest
          ]
    ]

-- ---- one part ----

-- a key has the same record in the array of its group as among all records of its part
array-record : (h : Shape) (rows : Map) (i k : ℕ) →
    cell_at (group_for (opening_chain h rows i) k).array k ≡ cell_at (opening_cells h rows i) k
array-record h rows i k =
    let cells = opening_cells h rows i in
    let planned = planned_groups (first_key_of h.bounds i) (keys_of cells) h.limits.group_size in
    let fill : Group → Group = λ g. with_array (records_for planned cells g.pivot) g in
    let pivots = pivots_of planned in
    let some : 0 < length planned = rw (length-map planned fill) at (chain-some h rows i) in
    let at = group_position planned k in
    let within = group_position-within planned k some in
    let same = pivots_of-filled cells planned in
    let here = get_or-map (λ (g : Group). g.pivot) planned at no_group 0 within in
    let begin = (group_at planned at).pivot in
    let is : group_for (filled cells planned) k ≡ fill (group_at planned at) =
    rw same (get_or-map fill planned at no_group no_group within) in
    ap (λ (g : Group). cell_at g.array k) is
    ∙ cell_at-filter (λ key. begin_of pivots key == begin) cells k (eq-eqb (begin_of pivots k) begin here)

value-found : (o : Option Cell) →
    value_of (found_at InArray (unless_removed o) None) ≡ cell_value o
value-found None = refl
value-found (Some c) =
    elim (cases_Bool c.removed) [
      | inl gone ↦ rw gone refl
      | inr live ↦ rw live refl
    ]

part-value : (h : Shape) (rows : Map) (i k : ℕ) → part_number h k ≡ i →
    value_of (live_record (opening_part h rows i) k) ≡ look rows k
part-value h rows i k part =
    rw (live_record-only (opening_part h rows i) k InArray (only_array h rows i k))
    (value-found (cell_at (group_for (opening_chain h rows i) k).array k)
    ∙ (ap cell_value (array-record h rows i k) ∙ rows-value h rows i k part))

-- ---- the layout ----

pub openings_have_their_pairs : OpeningsHaveTheirPairs
openings_have_their_pairs h rows can =
    record {
      rising = can.rising;
      same =
          λ k.
          let i = part_number h k in
          rw (part-at h rows i (part_number-within h k)) (sym (part-value h rows i k refl));
    }
