-- Reading on in a group at rest: a record of the array, or a row behind the records with smaller keys.
--
-- The fact to remember: no key that the map has lies between what was read and the next record.
use Rattle.std.proofs.Common.{◌≡◌, ◌≢◌, ◌⊎◌, inl, inr, ⊎_elim, ℕ, ◌+◌, ◌<◌, ◌≤◌, Option, Some, None, nat_lt}
use Rattle.std.proofs.Common.{Bool, true, cond, ◌++◌, length, slice_index, sym, ap, ◌∙◌}
use Rattle.std.proofs.Common.{subst, arith, append-nil}
use Rattle.std.proofs.lemmas.Bool.{cases_lt, le-ltb, lt-ltb, ne_eqb}
use mathlib.Core.Logic.{dite}
use native.Mathlib.Decide.{ℕ_discrete}
use Rattle.map_model.specs.Map.{IsRising, Map, look}
use Rattle.map_model.proofs.Logging.{rising-after}
use Rattle.word_layout.specs.Addresses.{array_address}
use Rattle.index_machine.specs.declared.opening.Opening.{Opening}
use Rattle.index_machine.specs.Conditions.{Valid}
use Rattle.index_machine.specs.Execution.{Execution}
use Rattle.index_machine.specs.Lanes.{cut, lanes}
use Rattle.index_machine.specs.LivePlaces.{history, value_in_map}
use Rattle.index_machine.specs.OpeningRows.{is_in_opening_chain, opening_group, opening_pivot}
use Rattle.index_machine.specs.Openings.{opening_map}
use Rattle.index_machine.specs.Words.{shape}
use Rattle.index_machine.proofs.OpeningGroups.{opening_pivot-group, opening_pivot-least}
use Rattle.index_machine.proofs.OpeningPlan.{opening_group-monotone}
use Rattle.machine_arrays.specs.Arrays.{array_keys}
use Rattle.machine_buffers.specs.Lanes.{IsBefore}
use Rattle.resting_table.specs.NoRebuild.{HasNoRebuild}
use Rattle.resting_table.specs.Reading.{HasRead, HasRow, pair_if, pairs_below, rows_left_from}
use Rattle.resting_table.specs.Resting.{map_left, pairs_before}
use Rattle.resting_table.proofs.PairsBelow.{below_on, same_tests}
use Rattle.resting_table.proofs.RestingGroups.{array_key, array_role, first_cut, has_lane, rising, row_key, row_role}
use Rattle.resting_table.proofs.RestingRecords.{IsInArray, array_value, row_value, there, value_behind, value_of}

-- a key is before an end or not
pub before_or_not : (k : ℕ) (end : Option ℕ) → IsBefore k end ⊎ (IsBefore k end → ⊥)
before_or_not k None = inl tt
before_or_not k (Some end) =
    ⊎_elim (λ (lt : k < end). inl lt) (λ (le : end ≤ k). inr (λ (lt : k < end). omega arith)) (cases_lt k end)

-- what is not before an end is behind what is
pub behind_end : (j k : ℕ) (end : Option ℕ) → IsBefore j end → (IsBefore k end → ⊥) → j < k
behind_end j k None before not = absurd (not tt)
behind_end j k (Some end) before not =
    ⊎_elim (λ (lt : k < end). absurd (not lt)) (λ (le : end ≤ k). let lt : j < end = before in omega arith)
    (cases_lt k end)

module _ (o : Opening) (t : Execution) (valid : Valid o t) (none_rebuilt : HasNoRebuild t) (group : ℕ)
    (chained : is_in_opening_chain o group ≡ true) where
  abbrev left : Map
  left = map_left o t

  abbrev many : ℕ
  many = length (array_keys o group t)

  abbrev key : ℕ → ℕ
  key i = slice_index (array_keys o group t) i

  left_rises : IsRising left
  left_rises = rising-after (opening_map o) (history t) o.rising

  -- ---- the same records ----

  -- ends between which there is no row say the same
  pub moved : (end to : Option ℕ) (index : ℕ) (pairs : Map) → HasRead o t group end index pairs →
      ((k : ℕ) → HasRow group k t → (IsBefore k end → IsBefore k to) × (IsBefore k to → IsBefore k end)) →
      HasRead o t group to index pairs
  moved end to index pairs r same = record {
    low = r.low;
    pairs_are = r.pairs_are;
    earlier = r.earlier;
    later = r.later;
    rows_read = λ k has before. r.rows_read k has ((same k has).1 before);
    rows_left = λ k has not. r.rows_left k has (λ before. not ((same k has).0 before));
    fits = r.fits;
    array_read = r.array_read;
    array_left = r.array_left;
  }

  -- ---- one record more ----

  -- the next record that is read has the least key of those that are left
  least : (end : Option ℕ) (index k : ℕ) (pairs : Map) → (r : HasRead o t group end index pairs) →
      opening_group o k ≡ group →
      ((j : ℕ) → HasRow group j t → (IsBefore j end → ⊥) → k ≤ j) →
      ((i : ℕ) → index ≤ i → i < many → k ≤ key i) →
      (j x : ℕ) → look left j ≡ Some x → r.low ≤ j → k ≤ j
  least end index k pairs r of_group rows array j x is from =
      ⊎_elim
      (λ (lt : j < k).
      let up = opening_group-monotone o j k (omega arith) in
      let down = r.later j from in
      let same : opening_group o j ≡ group = omega arith in
      ⊎_elim (λ (has : HasRow (opening_group o j) j t). row (subst (λ (g : ℕ). HasRow g j t) same has))
      (λ (has : IsInArray o t valid none_rebuilt (opening_group o j) j).
      place (subst (λ (g : ℕ). IsInArray o t valid none_rebuilt g j) same has))
      (there o t valid none_rebuilt j x is))
      (λ (le : k ≤ j). le) (cases_lt j k)
    where
      row : HasRow group j t → k ≤ j
      row has =
          ⊎_elim (λ (before : IsBefore j end). let lt = r.rows_read j has before in absurd (omega arith))
          (λ (not : IsBefore j end → ⊥). rows j has not) (before_or_not j end)

      place : IsInArray o t valid none_rebuilt group j → k ≤ j
      place has =
          let same = has.is in
          ⊎_elim
          (λ (lt : has.index < index). let passed = r.array_read has.index lt in absurd (omega arith))
          (λ (le : index ≤ has.index). let up = array has.index le has.below in omega arith)
          (cases_lt has.index index)

  -- with the pair of the least key that is left the pairs are those up to it
  pairs_on : (end : Option ℕ) (index k : ℕ) (found : Option ℕ) (pairs : Map) →
      (r : HasRead o t group end index pairs) → r.low ≤ k → value_in_map o k t ≡ found →
      ((j x : ℕ) → look left j ≡ Some x → r.low ≤ j → k ≤ j) →
      pairs ++ pair_if k found ≡ pairs_below (k + 1) left
  pairs_on end index k found pairs r from is none =
      ap (λ (z : Map). z ++ pair_if k found) r.pairs_are
      ∙ (ap (λ (x : Option ℕ). pairs_below r.low left ++ pair_if k x) (sym is)
      ∙ sym (below_on left r.low k left_rises from none))

  -- a row is read behind the records of the array with smaller keys
  pub row_on : (k index place : ℕ) (pairs : Map) → HasRead o t group (Some k) index pairs →
      look (Rattle.machine_readers.specs.Buffers.rows group t) k ≡ Some place →
      ((i : ℕ) → index ≤ i → i < many → k ≤ key i) →
      HasRead o t group (Some (k + 1)) index (pairs ++ pair_if k (value_of o t place))
  row_on k index place pairs r has array =
      let row : HasRow group k t = (place, has) in
      let of_group = row_key o t valid none_rebuilt group chained k row in
      let from : r.low ≤ k = r.rows_left k row (λ (lt : k < k). omega arith) in
      let value = row_value o t valid none_rebuilt place k group (row_role o t valid none_rebuilt group chained k row) in
      record {
        low = k + 1;
        pairs_are = pairs_on (Some k) index k (value_of o t place) pairs r from value
            (least (Some k) index k pairs r of_group
            (λ j _ not. ⊎_elim (λ (lt : j < k). absurd (not lt)) (λ (le : k ≤ j). le) (cases_lt j k)) array);
        earlier = λ j lt.
            let up = opening_group-monotone o j k (omega arith) in omega arith;
        later = λ j le. r.later j (omega arith);
        rows_read = λ j _ lt. lt;
        rows_left = λ j _ not. ⊎_elim (λ (lt : j < k + 1). absurd (not lt)) (λ (le : k + 1 ≤ j). le)
            (cases_lt j (k + 1));
        fits = r.fits;
        array_read = λ i lt. let read = r.array_read i lt in omega arith;
        array_left = λ i le lt.
            let up = array i le lt in
            dite (ℕ_discrete k (key i))
            (λ (same : k ≡ key i). inr (subst (λ (j : ℕ). HasRow group j t) same row))
            (λ (other : k ≢ key i). inl (omega arith));
      }

  -- a record of the array is read where all rows with smaller keys were
  pub array_on : (end : Option ℕ) (index place : ℕ) (pairs : Map) → HasRead o t group end index pairs →
      index < many → IsBefore (key index) end → place ≡ array_address (shape o) group index →
      HasRead o t group end (index + 1) (pairs ++ pair_if (key index) (value_of o t place))
  array_on end index place pairs r lt before at =
      ⊎_elim passed new (cases_lt (key index) r.low)
    where
      k : ℕ
      k = key index

      -- all records up to this one were read
      read : (low : ℕ) → r.low ≤ low → key index < low → (i : ℕ) → i < index + 1 → key i < low
      read low up less i before_next =
          ⊎_elim (λ (z : i < index). let there = r.array_read i z in omega arith)
          (λ (z : index ≤ i).
          let same : index ≡ i = omega arith in
          subst (λ (j : ℕ). key j < low) same less)
          (cases_lt i index)

      -- its key had a row, which was read before
      passed : key index < r.low →
          HasRead o t group end (index + 1) (pairs ++ pair_if (key index) (value_of o t place))
      passed less =
          let none : value_of o t place ≡ None =
          ⊎_elim (λ (le : r.low ≤ key index). absurd (omega arith))
          (λ (has : HasRow group (key index) t).
          value_behind o t valid none_rebuilt place has.0 (key index) group group
          (array_role o t valid none_rebuilt group chained index place lt at)
          (row_role o t valid none_rebuilt group chained (key index) has))
          (r.array_left index (omega arith) lt)
          in
          record {
            low = r.low;
            pairs_are = ap (λ (x : Option ℕ). pairs ++ pair_if (key index) x) none
                ∙ (append-nil pairs ∙ r.pairs_are);
            earlier = r.earlier;
            later = r.later;
            rows_read = r.rows_read;
            rows_left = r.rows_left;
            fits = omega arith;
            array_read = read r.low (omega arith) less;
            array_left = λ i le below. r.array_left i (omega arith) below;
          }

      -- its key is the least one that is left
      new : r.low ≤ key index →
          HasRead o t group end (index + 1) (pairs ++ pair_if (key index) (value_of o t place))
      new from =
          let none : HasRow group (key index) t → ⊥ =
          λ has. let less = r.rows_read (key index) has before in omega arith
          in
          let value = array_value o t valid none_rebuilt place (key index) group
          (array_role o t valid none_rebuilt group chained index place lt at) none in
          let of_group = array_key o t valid none_rebuilt group chained index lt in
          record {
            low = key index + 1;
            pairs_are = pairs_on end index (key index) (value_of o t place) pairs r from value
                (least end index (key index) pairs r of_group
                (λ j _ not. let less = behind_end (key index) j end before not in omega arith)
                (λ i le below.
                dite (ℕ_discrete index i)
                (λ (same : index ≡ i). subst (λ (j : ℕ). key index ≤ key j) same (omega arith))
                (λ (other : index ≢ i).
                let up = rising o t valid none_rebuilt group chained index i (omega arith) below in omega arith)));
            earlier = λ j less.
                let up = opening_group-monotone o j (key index) (omega arith) in omega arith;
            later = λ j le. r.later j (omega arith);
            rows_read = λ j has lesser. let less = r.rows_read j has lesser in omega arith;
            rows_left = λ j has not. let less = behind_end (key index) j end before not in omega arith;
            fits = omega arith;
            array_read = read (key index + 1) (omega arith) (omega arith);
            array_left = λ i le below.
                let up = rising o t valid none_rebuilt group chained index i (omega arith) below in inl (omega arith);
          }

  -- ---- from group to group ----

  -- at first none was read
  pub group_begins : (pairs : Map) → pairs ≡ pairs_before o group left →
      HasRead o t group (rows_left_from o group 0 t) 0 pairs
  group_begins pairs is =
      let pivot : ℕ = opening_pivot o group in
      let its = opening_pivot-group o group chained in
      let same : rows_left_from o group 0 t ≡ Some pivot =
      let some = has_lane o t valid none_rebuilt group chained in
      ap (λ (b : Bool). cond b None (Some (cut o group 0 t))) (ne_eqb 0 (lanes o group t) (λ e. omega arith))
      ∙ ap Some (first_cut o t valid none_rebuilt group chained)
      in
      let from : (j : ℕ) → opening_group o j ≡ group → pivot ≤ j =
      λ j e. ⊎_elim
      (λ (less : j < pivot).
      let up = opening_pivot-least o j (omega arith) in
      let at : opening_pivot o (opening_group o j) ≡ pivot = ap (opening_pivot o) e in
      omega arith)
      (λ (le : pivot ≤ j). le) (cases_lt j pivot)
      in
      subst (λ (end : Option ℕ). HasRead o t group end 0 pairs) (sym same)
      (record {
        low = pivot;
        pairs_are = is ∙ same_tests (λ (j : ℕ). nat_lt (opening_group o j) group) (λ (j : ℕ). nat_lt j pivot) left
            (λ j _ _. ⊎_elim
            (λ (less : j < pivot).
            let up = opening_group-monotone o j pivot (omega arith) in
            let other : opening_group o j < group =
            dite (ℕ_discrete (opening_group o j) group)
            (λ (e : opening_group o j ≡ group). let not = from j e in omega arith)
            (λ (differ : opening_group o j ≢ group). omega arith)
            in
            lt-ltb (opening_group o j) group other ∙ sym (lt-ltb j pivot less))
            (λ (le : pivot ≤ j).
            let up = opening_group-monotone o pivot j le in
            le-ltb (opening_group o j) group (omega arith) ∙ sym (le-ltb j pivot le))
            (cases_lt j pivot));
        earlier = λ j less. let up = opening_group-monotone o j pivot (omega arith) in omega arith;
        later = λ j le. let up = opening_group-monotone o pivot j le in omega arith;
        rows_read = λ j _ less. less;
        rows_left = λ j has _. from j (row_key o t valid none_rebuilt group chained j has);
        fits = omega arith;
        array_read = λ i less. omega arith;
        array_left = λ i _ lt. inl (from (key i) (array_key o t valid none_rebuilt group chained i lt));
      })

  -- and once all rows and all records of the array were, the group was
  pub group_ends : (index : ℕ) (pairs : Map) → HasRead o t group None index pairs → many ≤ index →
      pairs ≡ pairs_before o (group + 1) left
  group_ends index pairs r all =
      r.pairs_are
      ∙ same_tests (λ (j : ℕ). nat_lt j r.low) (λ (j : ℕ). nat_lt (opening_group o j) (group + 1)) left
      (λ j x is. ⊎_elim
      (λ (less : j < r.low).
      let up = r.earlier j less in
      lt-ltb j r.low less ∙ sym (lt-ltb (opening_group o j) (group + 1) (omega arith)))
      (λ (le : r.low ≤ j).
      let past = behind j x is le in
      le-ltb j r.low le ∙ sym (le-ltb (opening_group o j) (group + 1) (omega arith)))
      (cases_lt j r.low))
    where
      behind : (j x : ℕ) → look left j ≡ Some x → r.low ≤ j → group < opening_group o j
      behind j x is le =
          let up = r.later j le in
          dite (ℕ_discrete (opening_group o j) group)
          (λ (same : opening_group o j ≡ group).
          ⊎_elim
          (λ (has : HasRow (opening_group o j) j t).
          let less = r.rows_read j (subst (λ (g : ℕ). HasRow g j t) same has) tt in absurd (omega arith))
          (λ (has : IsInArray o t valid none_rebuilt (opening_group o j) j).
          let at = subst (λ (g : ℕ). IsInArray o t valid none_rebuilt g j) same has in
          let is_key = at.is in
          let inside = at.below in
          let less = r.array_read at.index (omega arith) in
          absurd (omega arith))
          (there o t valid none_rebuilt j x is))
          (λ (other : opening_group o j ≢ group). omega arith)
