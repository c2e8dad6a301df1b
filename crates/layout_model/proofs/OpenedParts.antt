-- A part as it is opened: its records are those of its rows, and it is well-formed.
use Rattle.std.proofs.Common.{◌≡◌, ℕ, ◌+◌, ◌<◌, ◌≤◌, Bool, true, List, [], ◌∷◌, length, map, replicate, refl, ◌∙◌, ap, arith, inl, inr}
use Rattle.std.proofs.lemmas.Bool.{cases_Bool, eqb-true}
use Rattle.std.proofs.lemmas.List.{length-map}
use Rattle.std.proofs.lemmas.List.Elements.{All-cons, All-from_get_or, All-get_or, All-head, All-map, All-nil, All-tail, Contains-get_or}
use Rattle.std.proofs.lemmas.List.FromFn.{get_or-map-range_with_len, length-map-range_with_len, length-range_with_len}
use Rattle.std.proofs.lemmas.Simd.{map-map}
use Rattle.std.specs.List.{AllByRecursion, range_with_len}
use Rattle.std.specs.List.Sorted.{IsStrictlyIncreasing}
use Rattle.std.specs.Prelude.{All, filter, ◌==◌, slice_index}
use Rattle.map_model.specs.Map.{IsRising, Map}
use Rattle.rebuild_plan.proofs.PlanLaws.{slots_divide}
use Rattle.rebuild_plan.proofs.RootLaws.{slots_reach}
use Rattle.rebuild_plan.proofs.Rounding.{div_ceil-pos}
use Rattle.rebuild_plan.specs.Keys.{RiseFrom, slot_pivot}
use Rattle.rebuild_plan.specs.Plan.{group_count, slot_count, slot_group, step_of}
use Rattle.word_layout.proofs.KeySpace.{has_a_key}
use Rattle.word_layout.proofs.PartGroups.{part_with-has, part_with-key}
use Rattle.word_layout.specs.Parts.{first_key_of, greatest_key}
use Rattle.word_layout.specs.Shape.{Shape, parts_in}
use Rattle.layout_model.specs.Calls.{last_version, new_cell}
use Rattle.layout_model.specs.Cells.{Cell, keys_of}
use Rattle.layout_model.specs.Groups.{Group, pivots_of, with_array}
use Rattle.layout_model.specs.Layout.{Slot, part_number}
use Rattle.layout_model.specs.Opening.{opening_cells, opening_chain}
use Rattle.layout_model.specs.OpeningLaws.{CanOpen}
use Rattle.layout_model.specs.Phase.{Phase}
use Rattle.layout_model.specs.Phase as phase
use Rattle.layout_model.specs.Plans.{planned_group, planned_groups, records_for}
use Rattle.layout_model.specs.Roots.{root_over, slot_at}
use Rattle.layout_model.specs.WellFormed.{AreGroups, AreRecords, AreSlots, IsKeyIn, IsSlot, phases_of}
use Rattle.layout_model.proofs.Planning.{AreGroups-filled, AreGroups-planned, length-planned, phases_of-filled, pivot-at, pivots_of-filled}
use Rattle.layout_model.proofs.RecordLists.{increasing-cons}

-- ---- the records of rows ----

-- the rows of a part
abbrev pub rows_of_part : Shape → Map → ℕ → Map
rows_of_part h rows i = filter (λ row. part_number h row.0 == i) rows

-- what holds of the rows that pass a test
rows-passed : (P : ℕ × ℕ → Type 0) (test : ℕ × ℕ → Bool) (rows : Map) → AllByRecursion P rows →
    AllByRecursion P (filter test rows)
rows-passed P test [] all = tt
rows-passed P test (row ∷ rows) all =
    elim (cases_Bool (test row)) [
      | inl passed ↦ rw passed (all.0, rows-passed P test rows all.1)
      | inr failed ↦ rw failed (rows-passed P test rows all.1)
    ]

rising-passed : (test : ℕ × ℕ → Bool) (rows : Map) → IsRising rows → IsRising (filter test rows)
rising-passed test [] up = tt
rising-passed test (row ∷ rows) up =
    elim (cases_Bool (test row)) [
      | inl passed ↦
          rw passed (rows-passed (λ (q : ℕ × ℕ). row.0 < q.0) test rows up.0, rising-passed test rows up.1)
      | inr failed ↦ rw failed (rising-passed test rows up.1)
    ]

-- the records of rows
abbrev pub cells_of_rows : Shape → Map → List Cell
cells_of_rows h rows = map (λ row. new_cell h row.0 row.1) rows

keys-rise : (h : Shape) (rows : Map) → IsRising rows → IsStrictlyIncreasing (keys_of (cells_of_rows h rows))
keys-rise h [] up = λ k within. absurd (omega (arith, within))
keys-rise h (row ∷ []) up = increasing-cons row.0 [] (λ some. absurd (omega (arith, some))) (λ k within. absurd (omega (arith, within)))
keys-rise h (row ∷ (next ∷ rows)) up =
    increasing-cons row.0 (keys_of (cells_of_rows h (next ∷ rows))) (λ some. up.0.0) (keys-rise h (next ∷ rows) up.1)

-- what holds of the keys of rows that pass a test, since they pass it
cells-have : (h : Shape) (P : ℕ → Type 0) (Q : ℕ × ℕ → Type 0) (test : ℕ × ℕ → Bool) (rows : Map) →
    ((row : ℕ × ℕ) → Q row → test row ≡ true → P row.0) → All Q rows →
    All (λ (c : Cell). P c.key) (cells_of_rows h (filter test rows))
cells-have h P Q test [] step all = All-nil (λ (c : Cell). P c.key)
cells-have h P Q test (row ∷ rows) step all =
    let rest = cells-have h P Q test rows step (All-tail Q row rows all) in
    elim (cases_Bool (test row)) [
      | inl passed ↦
          rw passed
          (All-cons (λ (c : Cell). P c.key) (new_cell h row.0 row.1) (cells_of_rows h (filter test rows))
          (step row (All-head Q row rows all) passed) rest)
      | inr failed ↦ rw failed rest
    ]

versions-are : (h : Shape) (rows : Map) → h.limits.first_version ≤ last_version →
    All (λ (c : Cell). c.version ≤ last_version) (cells_of_rows h rows)
versions-are h [] less = All-nil (λ (c : Cell). c.version ≤ last_version)
versions-are h (row ∷ rows) less =
    All-cons (λ (c : Cell). c.version ≤ last_version) (new_cell h row.0 row.1) (cells_of_rows h rows) less
    (versions-are h rows less)

-- the key is one of the keys that there are
abbrev IsSomeKey : ℕ × ℕ → Type 0
IsSomeKey row = row.0 ≤ greatest_key

pub records-opened : (h : Shape) (rows : Map) (i : ℕ) → CanOpen h rows →
    AreRecords (IsKeyIn h i) (opening_cells h rows i)
records-opened h rows i can =
    let test : ℕ × ℕ → Bool = λ row. part_number h row.0 == i in
    record {
      rising = keys-rise h (filter test rows) (rising-passed test rows can.rising);
      own =
          cells-have h (IsKeyIn h i) IsSomeKey test rows
          (λ row some passed. eqb-true (part_number h row.0) i passed) can.keys;
      versions = versions-are h (filter test rows) can.rules.most_first_version;
    }

-- ---- its groups ----

-- the keys of a part's records rise from its least key on
keys-from : (h : Shape) (rows : Map) (i : ℕ) → CanOpen h rows →
    All (λ (k : ℕ). first_key_of h.bounds i ≤ k) (keys_of (opening_cells h rows i))
keys-from h rows i can =
    let From : ℕ → Type 0 = λ k. first_key_of h.bounds i ≤ k in
    All-map From (λ (c : Cell). c.key) (opening_cells h rows i)
    (cells-have h From IsSomeKey (λ row. part_number h row.0 == i) rows
    (λ row some passed.
    let part = eqb-true (part_number h row.0) i passed in
    rw part at (part_with-has h.bounds row.0 can.bounds some).from) can.keys)

rise-opened : (h : Shape) (rows : Map) (i : ℕ) → CanOpen h rows →
    RiseFrom (first_key_of h.bounds i) (keys_of (opening_cells h rows i))
rise-opened h rows i can =
    record {
      rising = (records-opened h rows i can).rising;
      bounded =
          λ some.
          All-get_or (λ (k : ℕ). first_key_of h.bounds i ≤ k) (keys_of (opening_cells h rows i)) 0 0 some
          (keys-from h rows i can);
    }

-- the least key of a part is one of its keys
least-in : (h : Shape) (rows : Map) (i : ℕ) → CanOpen h rows → i < parts_in h →
    IsKeyIn h i (first_key_of h.bounds i)
least-in h rows i can inside =
    part_with-key h.bounds i (first_key_of h.bounds i) can.bounds inside
    (record { from = omega arith; to = has_a_key h.bounds i can.bounds inside })

-- the groups that are planned for the part
abbrev planned : Shape → Map → ℕ → List Group
planned h rows i =
    planned_groups (first_key_of h.bounds i) (keys_of (opening_cells h rows i)) h.limits.group_size

planned-fit : (h : Shape) (rows : Map) (i : ℕ) → CanOpen h rows → i < parts_in h →
    AreGroups (IsKeyIn h i) (planned h rows i)
planned-fit h rows i can inside =
    AreGroups-planned (IsKeyIn h i) (first_key_of h.bounds i) (keys_of (opening_cells h rows i))
    h.limits.group_size can.rules.least_group_size (rise-opened h rows i can) (least-in h rows i can inside)
    (All-map (IsKeyIn h i) (λ (c : Cell). c.key) (opening_cells h rows i) (records-opened h rows i can).own)

pub chain-opened : (h : Shape) (rows : Map) (i : ℕ) → CanOpen h rows → i < parts_in h →
    AreGroups (IsKeyIn h i) (opening_chain h rows i)
chain-opened h rows i can inside =
    AreGroups-filled (IsKeyIn h i) (planned h rows i) (opening_cells h rows i)
    (planned-fit h rows i can inside) (records-opened h rows i can)

chain-length : (h : Shape) (rows : Map) (i : ℕ) →
    length (opening_chain h rows i)
    ≡ group_count (length (keys_of (opening_cells h rows i))) h.limits.group_size
chain-length h rows i =
    length-map (planned h rows i) (λ g. with_array (records_for (planned h rows i) (opening_cells h rows i) g.pivot) g)
    ∙ length-planned (first_key_of h.bounds i) (keys_of (opening_cells h rows i)) h.limits.group_size

pub chain-some : (h : Shape) (rows : Map) (i : ℕ) → 0 < length (opening_chain h rows i)
chain-some h rows i = let long = chain-length h rows i in omega (arith, long)

pub chain-first : (h : Shape) (rows : Map) (i : ℕ) →
    slice_index (pivots_of (opening_chain h rows i)) 0 ≡ first_key_of h.bounds i
chain-first h rows i =
    let keys = keys_of (opening_cells h rows i) in
    rw (pivots_of-filled (opening_cells h rows i) (planned h rows i))
    (pivot-at (first_key_of h.bounds i) keys h.limits.group_size 0 (omega arith))

-- all its groups are open
open-phases : (first : ℕ) (keys : List ℕ) (size : ℕ) (js : List ℕ) →
    phases_of (map (planned_group first keys size) js) ≡ replicate (length js) phase.Open
open-phases first keys size [] = refl
open-phases first keys size (j ∷ js) =
    ap (λ (phases : List Phase). phase.Open ∷ phases) (open-phases first keys size js)

pub chain-phases : (h : Shape) (rows : Map) (i : ℕ) →
    phases_of (opening_chain h rows i) ≡ replicate (length (opening_chain h rows i)) phase.Open
chain-phases h rows i =
    let keys = keys_of (opening_cells h rows i) in
    let many = group_count (length keys) h.limits.group_size in
    phases_of-filled (opening_cells h rows i) (planned h rows i)
    ∙ (open-phases (first_key_of h.bounds i) keys h.limits.group_size (range_with_len 0 many)
    ∙ rw (length-range_with_len 0 many, chain-length h rows i) refl)

-- ---- its slots ----

slot-at : (room : ℕ) (chain : List Group) (slot : ℕ) →
    slot < slot_count (length (pivots_of chain)) (step_of (length (pivots_of chain)) room) →
    slice_index (map (λ slot. slot.pivot) (root_over room chain)) slot
    ≡ slot_pivot (pivots_of chain) room slot
slot-at room chain slot among =
    let pivots = pivots_of chain in
    let many = slot_count (length pivots) (step_of (length pivots) room) in
    rw (map-map (λ (slot : Slot). slot.pivot) (λ slot. slot_at (slot_pivot pivots room slot)) (range_with_len 0 many))
    (get_or-map-range_with_len (slot_pivot pivots room) 0 many slot slot 0 among (omega arith))

pub AreSlots-root : (least room : ℕ) (chain : List Group) → 1 ≤ room → 0 < length chain →
    IsStrictlyIncreasing (pivots_of chain) → slice_index (pivots_of chain) 0 ≡ least →
    AreSlots least chain (root_over room chain)
AreSlots-root least room chain some any up first =
    let pivots = pivots_of chain in
    let groups = length-map chain (λ (g : Group). g.pivot) in
    let step = step_of (length pivots) room in
    let many = slot_count (length pivots) step in
    let stepping = div_ceil-pos (length pivots) room (omega arith) some in
    let positive = div_ceil-pos (length pivots) step (omega arith) stepping in
    let divides = slots_divide pivots room (omega arith) some up in
    let reaches = slots_reach (length pivots) step stepping in
    let slots : length (root_over room chain) ≡ many =
    length-map-range_with_len {X = Slot} (λ slot. slot_at (slot_pivot pivots room slot)) 0 many in
    let named = length-map (root_over room chain) (λ (slot : Slot). slot.pivot) in
    record {
      some = omega arith;
      first =
          let none : slot_group step 0 ≡ 0 = omega arith in
          slot-at room chain 0 positive ∙ (ap (λ number. slice_index pivots number) none ∙ first);
      rising =
          λ k within.
          rw (slot-at room chain k (omega arith), slot-at room chain (k + 1) (omega arith))
          (divides.rise k (k + 1) (omega arith) (omega arith));
      each =
          All-from_get_or (IsSlot chain) (root_over room chain) (slot_at 0)
          (λ slot within.
          let among : slot < many = omega arith in
          rw (get_or-map-range_with_len (λ slot. slot_at (slot_pivot pivots room slot)) 0 many slot slot (slot_at 0) among (omega arith))
          (record {
            named = Contains-get_or pivots (slot_group step slot) 0 (reaches.names slot among);
            from = omega arith;
          }));
    }
