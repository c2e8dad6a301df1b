-- What the words of a table at rest tell, by their addresses.
use Rattle.std.proofs.Common.{◌≡◌, ⊎_elim, ℕ, ◌<◌, ◌≤◌, Bool, true, Some}
use Rattle.std.proofs.Common.{List, length, slice_index, refl, sym, ap, ◌∙◌, subst, arith}
use Rattle.std.specs.Prelude.{nat_lt}
use Rattle.std.proofs.lemmas.Bool.{cases_lt, lt-ltb}
use Rattle.map_model.specs.Map.{look}
use Rattle.word_layout.specs.declared.headers.HeaderWord.{HeaderWord}
use Rattle.word_layout.specs.declared.headers.HeaderWord.TheVariants as header
use Rattle.word_layout.specs.declared.layout.Layout.{Layout}
use Rattle.word_layout.specs.declared.places.Part.{Part}
use Rattle.word_layout.specs.declared.places.Part.TheVariants as part
use Rattle.word_layout.specs.Headers.{IsHeaderWord}
use Rattle.word_layout.specs.Layout.{limits_of, shape_of}
use Rattle.word_layout.specs.Parts.{greatest_key}
use Rattle.word_layout.specs.Places.{IsPlace, part_address}
use Rattle.word_layout.specs.Shape.{group_total}
use Rattle.word_layout.specs.Words.{Header, IsWord, PlaceWord, Word, address_of}
use Rattle.word_layout.proofs.WordNames.{address_of-within}
use Rattle.index_machine.specs.declared.opening.Opening.{Opening}
use Rattle.index_machine.specs.Execution.{Execution}
use Rattle.index_machine.specs.Forms.{Blank, Copied, Form, HasValueWord, Locked, Moved, Redirect}
use Rattle.index_machine.specs.Forms.{Unlocked, live_value, state_word, unless}
use Rattle.index_machine.specs.Lanes.{lanes}
use Rattle.index_machine.specs.OpeningRows.{is_in_opening_chain, opening_group, opening_pivot}
use Rattle.index_machine.specs.Places.{form}
use Rattle.index_machine.specs.RecordConditions.{HasKey}
use Rattle.index_machine.specs.Rows.{role, role_key}
use Rattle.index_machine.specs.Words.{shape, word}
use Rattle.index_machine.proofs.OpeningPlan.{in_chain_is, opening_group-beyond, opening_group-exists}
use Rattle.index_machine.proofs.RepresentingAll.{represented}
use Rattle.machine_arrays.specs.Arrays.{array_keys}
use Rattle.machine_arrays.proofs.Keys.{list_fits, list_whole}
use Rattle.machine_arrays.proofs.Places.{are_keys}
use Rattle.machine_arrays.proofs.Sizes.{of_chain, of_keys}
use Rattle.machine_buffers.proofs.OpenedLanes.{opened_lane-chain}
use Rattle.machine_buffers.proofs.Reclaiming.{linked_rows_have_lanes}
use Rattle.machine_readers.proofs.FormsMet.{not_blank}
use Rattle.resting_table.specs.NoRebuildLaws.{IsInPlace}
use Rattle.resting_table.proofs.NoRebuildLaws.{in_place}
use Rattle.index_rule.proofs.RecordSteps.{place_below}
use Rattle.resting_table.specs.Reading.{HasRow, HoldsRecord}
use Rattle.resting_table.specs.Resting.{LeaveAtRest, map_left, pairs_before}
use Rattle.resting_table.proofs.PairsBelow.{all_pass}
use Rattle.resting_table.proofs.RestingGroups.{as_opened, pivot_is, walkable}
use Rattle.resting_table.proofs.RestingRecords.{IsInArray, there, value_of}

module _ (l : Layout) (ws : List ℕ) (o : Opening) (t : Execution) (rest : LeaveAtRest l ws o t) where
  -- the word at an address
  pub named : (w : Word) (address : ℕ) → IsWord (shape o) w →
      address ≡ address_of (shape_of l) w → slice_index ws address ≡ word o t w
  named w address is at =
      ap (slice_index ws) (at ∙ ap (λ (z : Layout). address_of (shape_of z) w) (sym rest.layout))
      ∙ rest.stand_for.named w is

  pub within : (w : Word) (address : ℕ) → IsWord (shape o) w →
      address ≡ address_of (shape_of l) w → address < length ws
  within w address is at =
      let inside = address_of-within (shape o) w is in
      let same = at ∙ ap (λ (z : Layout). address_of (shape_of z) w) (sym rest.layout) in
      let wide = rest.stand_for.wide in
      omega arith

  -- ---- records ----

  -- a record is unlocked
  unlocked : (place k : ℕ) → role_key (role o place t) ≡ Some k →
      (v : ℕ) × (r : Bool) × (x : ℕ) × (form o place t ≡ Unlocked v r x)
  unlocked place k e = go (form o place t) refl (in_place o t rest.none_rebuilt place)
    where
      go : (f : Form) → form o place t ≡ f → IsInPlace f →
          (v : ℕ) × (r : Bool) × (x : ℕ) × (form o place t ≡ Unlocked v r x)
      go Blank is here = absurd (not_blank o t rest.valid place k e is)
      go (Unlocked v r x) is here = (v, r, x, is)
      go (Locked c v r x y) is here = absurd (rest.unlocked c place (v, r, x, y, is))
      go (Copied v r x) is here = absurd here
      go (Redirect p y) is here = absurd here
      go Moved is here = absurd here

  -- its words tell its key and its value
  pub record_holds : (place k : ℕ) → role_key (role o place t) ≡ Some k → IsPlace (shape o) place →
      HoldsRecord ws place k (value_of o t place)
  record_holds place k e is =
      let words = represented o t rest.valid in
      let has : HasKey o place t = (k, e) in
      let direct = unlocked place k e in
      let at : (of : Part) → slice_index ws (part_address place of) ≡ word o t (PlaceWord place of) =
      λ of. rest.stand_for.named (PlaceWord place of) is
      in
      let value : direct.2 ≡ word o t (PlaceWord place part.Value) =
      subst (λ (f : Form). HasValueWord f (word o t (PlaceWord place part.Value))) direct.3
      (words.values place has)
      in
      let inside = address_of-within (shape o) (PlaceWord place part.Link) is in
      let wide = rest.stand_for.wide in
      let first : place ≡ part_address place part.Key = omega arith in
      record {
        small = place_below o place is;
        within = omega arith;
        key = ap (slice_index ws) first ∙ (at part.Key ∙ words.keys place k e);
        version = direct.0;
        removed = direct.1;
        state = sym (at part.State ∙ (words.states place has ∙ ap state_word direct.3));
        value = ap live_value direct.3 ∙ ap (unless direct.1) (value ∙ sym (at part.Value));
      }

  -- ---- headers ----

  module _ (group : ℕ) (chained : is_in_opening_chain o group ≡ true) where
    pub exists : group < group_total (shape o)
    exists = (in_chain_is o group chained).exists

    pub exists_in : group < group_total (shape_of l)
    exists_in = subst (λ (z : Layout). group < group_total (shape_of z)) rest.layout exists

    pub header_is : (which : HeaderWord) (address : ℕ) → IsHeaderWord which →
        address ≡ address_of (shape_of l) (Header group which) →
        slice_index ws address ≡ word o t (Header group which)
    header_is which address is at = named (Header group which) address (exists, is) at

    pub header_within : (which : HeaderWord) (address : ℕ) → IsHeaderWord which →
        address ≡ address_of (shape_of l) (Header group which) → address < length ws
    header_within which address is at = within (Header group which) address (exists, is) at

    -- the size is that of the array, which fits
    pub size_is : (address : ℕ) → address ≡ address_of (shape_of l) (Header group header.Size) →
        slice_index ws address ≡ length (array_keys o group t)
    size_is address at =
        let pivot : ℕ = opening_pivot o group in
        let sized = of_chain o t rest.valid group pivot (pivot_is o t rest.valid rest.none_rebuilt group chained) in
        header_is header.Size address tt at ∙ ((of_keys o t rest.valid group).0 sized).0

    pub size_fits : length (array_keys o group t) ≤ (limits_of l).group_size
    size_fits =
        let fits = list_fits o t rest.valid group in
        let same = ap (λ (z : Layout). (limits_of z).group_size) rest.layout in
        omega arith

    pub lanes_is : (address : ℕ) → address ≡ address_of (shape_of l) (Header group header.Lanes) →
        slice_index ws address ≡ lanes o group t
    lanes_is address at =
        header_is header.Lanes address tt at
        ∙ (walkable o t rest.valid rest.none_rebuilt group chained).lanes_word

  -- ---- all groups ----

  -- only keys are in the map
  small : (k x : ℕ) → look (map_left o t) k ≡ Some x → k ≤ greatest_key
  small k x is = ⊎_elim
      (λ (beyond : greatest_key < k).
      let total = opening_group-beyond o k beyond in
      ⊎_elim
      (λ (has : HasRow (opening_group o k) k t).
      absurd (no_row k has beyond))
      (λ (has : IsInArray o t rest.valid rest.none_rebuilt (opening_group o k) k).
      let key = has.is in
      let at = (list_whole o t rest.valid (opening_group o k)).stands has.index has.below in
      let its = are_keys o t rest.valid (opening_group o k) _ _ at in
      let some = its.0 in
      absurd (omega arith))
      (there o t rest.valid rest.none_rebuilt k x is))
      (λ (le : k ≤ greatest_key). le) (cases_lt greatest_key k)
    where
      no_row : (k : ℕ) → HasRow (opening_group o k) k t → greatest_key < k → ⊥
      no_row k has beyond =
          let group : ℕ = opening_group o k in
          let total = opening_group-beyond o k beyond in
          let lane = linked_rows_have_lanes o t rest.valid group k has.0 has.1 in
          let opened = subst (λ (n : ℕ). lane.0 < n) (as_opened o group header.Lanes t rest.none_rebuilt)
          lane.1.is_lane in
          let some = (in_chain_is o group (opened_lane-chain o group lane.0 opened).0).exists in
          omega arith

  -- the groups of all parts have all pairs
  pub all_groups : (many : ℕ) → many ≡ group_total (shape o) →
      pairs_before o many (map_left o t) ≡ map_left o t
  all_groups many is =
      all_pass (λ (k : ℕ). nat_lt (opening_group o k) many) (map_left o t)
      (λ k x e.
      let among = opening_group-exists o k (small k x e) in
      lt-ltb (opening_group o k) many (omega arith))
