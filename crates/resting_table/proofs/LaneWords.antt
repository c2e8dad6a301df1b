-- Reading the rows of a lane at rest, by the words.
use Rattle.std.proofs.Common.{◌≡◌, ◌≢◌, inl, ℕ, ◌-◌, ◌<◌, ◌≤◌, ◌^◌, ◌==◌, true, Bool, Option, Some, ◌++◌}
use Rattle.std.proofs.Common.{List, length, slice_index, sym, ap, ◌∙◌, subst, arith}
use Rattle.std.specs.Bool.{if◌then◌else◌}
use Rattle.std.proofs.lemmas.Bool.{eq-eqb, ne_eqb}
use mathlib.Core.Logic.{dite}
use native.Mathlib.Decide.{ℕ_discrete}
use Rattle.map_model.specs.Map.{Map}
use Rattle.word_layout.specs.declared.headers.HeaderWord.TheVariants.{Head}
use Rattle.word_layout.specs.declared.layout.Layout.{Layout}
use Rattle.word_layout.specs.declared.places.Part.TheVariants as part
use Rattle.word_layout.specs.Headers.{most_lanes}
use Rattle.word_layout.specs.Layout.{shape_of}
use Rattle.word_layout.specs.Places.{part_address}
use Rattle.word_layout.specs.Words.{Header, PlaceWord, address_of}
use Rattle.index_machine.specs.declared.opening.Opening.{Opening}
use Rattle.index_machine.specs.Execution.{Execution}
use Rattle.index_machine.specs.Lanes.{lanes}
use Rattle.index_machine.specs.OpeningRows.{is_in_opening_chain}
use Rattle.index_machine.specs.Rows.{role_key}
use Rattle.index_machine.specs.Words.{word}
use Rattle.index_machine.proofs.Placing.{buffer_row}
use Rattle.machine_arrays.specs.Arrays.{array_keys}
use Rattle.machine_buffers.specs.Lanes.{IsBefore}
use Rattle.machine_buffers.proofs.BegunLanes.{cuts_rise}
use Rattle.resting_table.specs.Reading.{HasRead, HoldsRecord, pair_if, rows_left_from}
use Rattle.resting_table.specs.Resting.{LeaveAtRest}
use Rattle.resting_table.proofs.LaneReading.{MeetsRow, ReadsLane, key_rises, lane_begins, lane_on, meets, row_is}
use Rattle.resting_table.proofs.RestingRecords.{value_of}
use Rattle.resting_table.proofs.RestingWords.{header_is, header_within, record_holds}

-- while there is a next row, and its key is greater, the keys above it are fewer
pub fewer : (next link low high : ℕ) → next ≢ 0 → low < 2 ^ 64 → (link ≢ 0 → low < high) →
    (if link == 0 then 0 else (2 ^ 64 - high)) < (if next == 0 then 0 else (2 ^ 64 - low))
fewer next link low high some wide up =
    let before : (if next == 0 then 0 else (2 ^ 64 - low)) ≡ 2 ^ 64 - low =
    ap (λ (b : Bool). if b then 0 else (2 ^ 64 - low)) (ne_eqb next 0 some)
    in
    dite (ℕ_discrete link 0)
    (λ (none : link ≡ 0).
    let after : (if link == 0 then 0 else (2 ^ 64 - high)) ≡ 0 =
    ap (λ (b : Bool). if b then 0 else (2 ^ 64 - high)) (eq-eqb link 0 none)
    in
    omega (arith, before, after, wide))
    (λ (more : link ≢ 0).
    let after : (if link == 0 then 0 else (2 ^ 64 - high)) ≡ 2 ^ 64 - high =
    ap (λ (b : Bool). if b then 0 else (2 ^ 64 - high)) (ne_eqb link 0 more)
    in
    let less = up more in
    omega (arith, before, after, wide, less))

module _ (l : Layout) (ws : List ℕ) (o : Opening) (t : Execution) (rest : LeaveAtRest l ws o t) (group : ℕ)
    (chained : is_in_opening_chain o group ≡ true) (lane : ℕ) (is_lane : lane < lanes o group t) where
  abbrev Reads : ℕ → ℕ → Map → Type 0
  Reads index next pairs = ReadsLane o t rest.valid rest.none_rebuilt group chained lane is_lane index next pairs

  abbrev Meets : ℕ → ℕ → Map → Type 0
  Meets index next pairs = MeetsRow o t rest.valid rest.none_rebuilt group chained lane is_lane index next pairs

  -- ---- the head ----

  pub few_lanes : lane < most_lanes
  few_lanes = let few = (cuts_rise o t rest.valid group).few in omega arith

  pub head_within : (address : ℕ) → address ≡ address_of (shape_of l) (Header group (Head lane)) →
      address < length ws
  head_within address at = header_within l ws o t rest group chained (Head lane) address few_lanes at

  pub begins : (index address : ℕ) (pairs : Map) →
      HasRead o t group (rows_left_from o group lane t) index pairs →
      address ≡ address_of (shape_of l) (Header group (Head lane)) → Reads index (slice_index ws address) pairs
  begins index address pairs r at =
      lane_begins o t rest.valid rest.none_rebuilt group chained lane is_lane index (slice_index ws address) pairs r
      (header_is l ws o t rest group chained (Head lane) address few_lanes at)

  -- ---- a row ----

  pub met : (index next : ℕ) (pairs : Map) → Reads index next pairs → next ≢ 0 → Meets index next pairs
  met index next pairs r some = meets o t rest.valid rest.none_rebuilt group chained lane is_lane index next pairs r some

  module _ (index next : ℕ) (pairs : Map) (m : Meets index next pairs) where
    pub row_holds : HoldsRecord ws next m.key (value_of o t next)
    row_holds =
        let at = row_is o t rest.valid rest.none_rebuilt group chained lane is_lane index next pairs m in
        record_holds l ws o t rest next m.key (ap role_key at)
        (inl (buffer_row o t rest.valid next group m.key at))

    link_is : (address : ℕ) → address ≡ part_address next part.Link →
        slice_index ws address ≡ word o t (PlaceWord next part.Link)
    link_is address at =
        let row = row_is o t rest.valid rest.none_rebuilt group chained lane is_lane index next pairs m in
        ap (slice_index ws) at
        ∙ rest.stand_for.named (PlaceWord next part.Link) (inl (buffer_row o t rest.valid next group m.key row))

    -- the records of the array with smaller keys are read first
    pub up_to_row : HasRead o t group (Some (slice_index ws next)) index pairs
    up_to_row = subst (λ (k : ℕ). HasRead o t group (Some k) index pairs) (sym row_holds.key) m.read

    pub met_behind : (behind : ℕ) (more : Map) → HasRead o t group (Some (slice_index ws next)) behind more →
        Meets behind next more
    met_behind behind more r = record {
      key = m.key;
      row = m.row;
      begun = m.begun;
      before = m.before;
      read = subst (λ (k : ℕ). HasRead o t group (Some k) behind more) row_holds.key r;
    }

    -- and then the row, whose link leads on
    pub reads_on : (address : ℕ) → ((i : ℕ) → index ≤ i → i < length (array_keys o group t) →
        IsBefore (slice_index (array_keys o group t) i) (Some (slice_index ws next)) → ⊥) →
        address ≡ part_address next part.Link →
        Reads index (slice_index ws address) (pairs ++ pair_if m.key (value_of o t next))
    reads_on address array at =
        lane_on o t rest.valid rest.none_rebuilt group chained lane is_lane index next (slice_index ws address) pairs m
        (subst (λ (k : ℕ). (i : ℕ) → index ≤ i → i < length (array_keys o group t) →
        IsBefore (slice_index (array_keys o group t) i) (Some k) → ⊥) row_holds.key array)
        (link_is address at)

  -- the records of the array with smaller keys were read, and then the row
  pub read_row : (index next address behind : ℕ) (pairs more kept : Map) → Reads index next pairs → next ≢ 0 →
      HasRead o t group (Some (slice_index ws next)) behind more →
      ((i : ℕ) → behind ≤ i → i < length (array_keys o group t) →
      IsBefore (slice_index (array_keys o group t) i) (Some (slice_index ws next)) → ⊥) →
      address ≡ part_address next part.Link →
      ((k : ℕ) (found : Option ℕ) → HoldsRecord ws next k found → kept ≡ more ++ pair_if k found) →
      Meets behind next more × Reads behind (slice_index ws address) kept
  read_row index next address behind pairs more kept r some read array at pair =
      let m = met_behind index next pairs (met index next pairs r some) behind more read in (
        m,
        subst (Reads behind (slice_index ws address))
            (sym (pair m.key (value_of o t next) (row_holds behind next more m)))
            (reads_on behind next more m address array at),
      )

  -- a place that is next is small
  pub next_small : (index next : ℕ) (pairs : Map) → Reads index next pairs → next < 2 ^ 28
  next_small index next pairs r =
      dite (ℕ_discrete next 0) (λ (none : next ≡ 0). omega arith)
      (λ (some : next ≢ 0). (row_holds index next pairs (met index next pairs r some)).small)

  -- the key of the row behind is greater
  pub rises : (index next address : ℕ) (pairs more : Map) → (m : Meets index next pairs) →
      address ≡ part_address next part.Link → Reads index (slice_index ws address) more →
      slice_index ws address ≢ 0 → slice_index ws next < slice_index ws (slice_index ws address)
  rises index next address pairs more m at r some =
      let n = met index (slice_index ws address) more r some in
      let up = key_rises o t rest.valid rest.none_rebuilt group chained lane is_lane index next (slice_index ws address)
      pairs more m (link_is index next pairs m address at) n in
      let here = (row_holds index next pairs m).key in
      let there = (row_holds index (slice_index ws address) more n).key in
      omega arith
