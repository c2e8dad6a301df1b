-- Reading the rows of a lane at rest: each link leads to the row with the next key.
use Rattle.std.proofs.Common.{◌≡◌, ◌≢◌, ⊎_elim, ℕ, ◌+◌, ◌<◌, ◌≤◌, Option, Some, None}
use Rattle.std.proofs.Common.{Bool, true, false, cond, ◌==◌, ◌++◌, length, slice_index, refl, sym, ap, ◌∙◌}
use Rattle.std.proofs.Common.{subst, arith}
use Rattle.std.proofs.lemmas.Bool.{cases_lt, ne_eqb, eqb-false}
use Rattle.map_model.specs.Map.{Map, look}
use Rattle.word_layout.specs.declared.headers.HeaderWord.TheVariants.{Head}
use Rattle.word_layout.specs.declared.places.Part.TheVariants as part
use Rattle.word_layout.specs.Words.{Header, PlaceWord}
use Rattle.word_layout.proofs.RowPlaces.{row-nonzero}
use Rattle.index_machine.specs.declared.opening.Opening.{Opening}
use Rattle.index_machine.specs.Conditions.{Valid}
use Rattle.index_machine.specs.Execution.{Execution}
use Rattle.index_machine.specs.Lanes.{HasLane, cut, lanes}
use Rattle.index_machine.specs.OpeningRows.{is_in_opening_chain}
use Rattle.index_machine.specs.Rows.{InBuffer, role}
use Rattle.index_machine.specs.Words.{shape, word}
use Rattle.index_machine.proofs.Placing.{buffer_row}
use Rattle.machine_arrays.specs.Arrays.{array_keys}
use Rattle.machine_buffers.specs.Lanes.{IsBefore, lane_end, link_from}
use Rattle.machine_buffers.proofs.BegunLanes.{cuts_rise, lane_of}
use Rattle.machine_buffers.proofs.NextRows.{HasNoneFrom, IsFirstBefore, row_or_none}
use Rattle.machine_buffers.proofs.Walks.{next_rows, rise}
use Rattle.machine_readers.specs.Buffers.{rows}
use Rattle.resting_table.specs.NoRebuild.{HasNoRebuild}
use Rattle.resting_table.specs.Reading.{HasRead, HasRow, pair_if, rows_left_from}
use Rattle.resting_table.proofs.GroupRecords.{before_or_not, behind_end, moved, row_on}
use Rattle.resting_table.proofs.RestingGroups.{row_role, walkable}
use Rattle.resting_table.proofs.RestingRecords.{value_of}

module _ (o : Opening) (t : Execution) (valid : Valid o t) (none_rebuilt : HasNoRebuild t) (group : ℕ)
    (chained : is_in_opening_chain o group ≡ true) (lane : ℕ) (is_lane : lane < lanes o group t) where
  abbrev end : Option ℕ
  end = lane_end o group lane t

  -- the lane is read so far: the next row is the first with this key or a greater one
  pub record ReadsLane (index next : ℕ) (pairs : Map) : Type 0 where
    pub from : ℕ
    pub begun : cut o group lane t ≤ from
    pub within : (k : ℕ) → (IsBefore k end → ⊥) → from ≤ k
    pub leads : next ≡ link_from end from (rows group t)
    pub read : HasRead o t group (Some from) index pairs

  -- the lane ends behind its cut
  behind_cut : (k : ℕ) → (IsBefore k end → ⊥) → cut o group lane t ≤ k
  behind_cut k not = go (lane + 1 == lanes o group t) refl not
    where
      go : (b : Bool) → (lane + 1 == lanes o group t) ≡ b →
          (IsBefore k (cond b None (Some (cut o group (lane + 1) t))) → ⊥) → cut o group lane t ≤ k
      go true is never = absurd (never tt)
      go false is never =
          let other = eqb-false (lane + 1) (lanes o group t) is in
          let up = (cuts_rise o t valid group).rising lane (omega arith) in
          ⊎_elim (λ (lt : k < cut o group (lane + 1) t). absurd (never lt))
          (λ (le : cut o group (lane + 1) t ≤ k). omega arith) (cases_lt k (cut o group (lane + 1) t))

  -- the head leads to its first row
  pub lane_begins : (index next : ℕ) (pairs : Map) →
      HasRead o t group (rows_left_from o group lane t) index pairs →
      next ≡ word o t (Header group (Head lane)) → ReadsLane index next pairs
  lane_begins index next pairs r is =
      let from : rows_left_from o group lane t ≡ Some (cut o group lane t) =
      ap (λ (b : Bool). cond b None (Some (cut o group lane t)))
      (ne_eqb lane (lanes o group t) (λ e. omega arith))
      in
      record {
        from = cut o group lane t;
        begun = omega arith;
        within = behind_cut;
        leads = is ∙ (walkable o t valid none_rebuilt group chained).heads lane is_lane;
        read = subst (λ (to : Option ℕ). HasRead o t group to index pairs) from r;
      }

  -- ---- a row that is met ----

  pub record MeetsRow (index next : ℕ) (pairs : Map) : Type 0 where
    pub key : ℕ
    pub row : look (rows group t) key ≡ Some next
    pub begun : cut o group lane t ≤ key
    pub before : IsBefore key end
    pub read : HasRead o t group (Some key) index pairs

  pub meets : (index next : ℕ) (pairs : Map) → ReadsLane index next pairs → next ≢ 0 →
      MeetsRow index next pairs
  meets index next pairs r some =
      ⊎_elim
      (λ (z : HasNoneFrom (rows group t) r.from end × (link_from end r.from (rows group t) ≡ 0)).
      absurd (some (r.leads ∙ z.1)))
      (λ (z : IsFirstBefore (rows group t) r.from end (link_from end r.from (rows group t))).
      first z.0 (z.1 ∙ ap Some (sym r.leads)) z.2 z.3 z.4)
      (row_or_none (rows group t) r.from end (rise o t valid group))
    where
      first : (k : ℕ) → look (rows group t) k ≡ Some next → r.from ≤ k → IsBefore k end →
          ((j q : ℕ) → look (rows group t) j ≡ Some q → r.from ≤ j → k ≤ j) → MeetsRow index next pairs
      first k row from before least = record {
        key = k;
        row = row;
        begun = let begun = r.begun in omega arith;
        before = before;
        read = moved o t valid none_rebuilt group chained (Some r.from) (Some k) index pairs r.read
            (λ j has. (
              (λ (lt : j < r.from). let less : j < k = omega arith in less),
              λ (lt : j < k). ⊎_elim (λ (less : j < r.from). less)
                  (λ (le : r.from ≤ j). let up = least j has.0 has.1 le in absurd (omega arith))
                  (cases_lt j r.from),
            ));
      }

  pub row_is : (index next : ℕ) (pairs : Map) → (m : MeetsRow index next pairs) →
      role o next t ≡ InBuffer group m.key
  row_is index next pairs m = row_role o t valid none_rebuilt group chained m.key (next, m.row)

  -- its link leads to the next one
  pub lane_on : (index next link : ℕ) (pairs : Map) → (m : MeetsRow index next pairs) →
      ((i : ℕ) → index ≤ i → i < length (array_keys o group t) →
      IsBefore (slice_index (array_keys o group t) i) (Some m.key) → ⊥) →
      link ≡ word o t (PlaceWord next part.Link) →
      ReadsLane index link (pairs ++ pair_if m.key (value_of o t next))
  lane_on index next link pairs m array is =
      let before = m.before in
      let begun = m.begun in
      let has : HasLane o group lane m.key t = lane_of o group lane m.key t is_lane (begun, before) in
      record {
        from = m.key + 1;
        begun = omega arith;
        within = λ k not. let less = behind_end m.key k end before not in omega arith;
        leads = is ∙ next_rows o t valid group lane m.key next (row_is index next pairs m) has;
        read = row_on o t valid none_rebuilt group chained m.key index next pairs m.read m.row
            (λ i le lt. ⊎_elim
            (λ (less : slice_index (array_keys o group t) i < m.key). absurd (array i le lt less))
            (λ (up : m.key ≤ slice_index (array_keys o group t) i). up)
            (cases_lt (slice_index (array_keys o group t) i) m.key));
      }

  -- it has a greater key
  pub key_rises : (index next link : ℕ) (pairs more : Map) → (m : MeetsRow index next pairs) →
      link ≡ word o t (PlaceWord next part.Link) → (n : MeetsRow index link more) → m.key < n.key
  key_rises index next link pairs more m is n =
      let has : HasLane o group lane m.key t = lane_of o group lane m.key t is_lane (m.begun, m.before) in
      let leads : link ≡ link_from end (m.key + 1) (rows group t) =
      is ∙ next_rows o t valid group lane m.key next (row_is index next pairs m) has in
      ⊎_elim
      (λ (z : HasNoneFrom (rows group t) (m.key + 1) end × (link_from end (m.key + 1) (rows group t) ≡ 0)).
      absurd (row-nonzero (shape o) link
      (buffer_row o t valid link group n.key (row_is index link more n)) (leads ∙ z.1)))
      (λ (z : IsFirstBefore (rows group t) (m.key + 1) end (link_from end (m.key + 1) (rows group t))).
      let up = z.2 in
      let same : z.0 ≡ n.key = one z.0 n.key link (z.1 ∙ ap Some (sym leads)) n.row in
      omega arith)
      (row_or_none (rows group t) (m.key + 1) end (rise o t valid group))
    where
      buffer_key : {g h j k : ℕ} → InBuffer g j ≡ InBuffer h k → j ≡ k
      buffer_key e = cc

      one : (i j place : ℕ) → look (rows group t) i ≡ Some place → look (rows group t) j ≡ Some place → i ≡ j
      one i j place here there =
          buffer_key (sym (row_role o t valid none_rebuilt group chained i (place, here))
          ∙ row_role o t valid none_rebuilt group chained j (place, there))

  -- where no row is next, all rows of the lane were read
  pub lane_ends : (index next : ℕ) (pairs : Map) → ReadsLane index next pairs → next ≡ 0 →
      HasRead o t group (rows_left_from o group (lane + 1) t) index pairs
  lane_ends index next pairs r none =
      moved o t valid none_rebuilt group chained (Some r.from) end index pairs r.read
      (λ j has. (
        (λ (lt : j < r.from).
            ⊎_elim (λ (before : IsBefore j end). before)
            (λ (not : IsBefore j end → ⊥). let le = r.within j not in absurd (omega arith))
            (before_or_not j end)),
        λ before. ⊎_elim (λ (lt : j < r.from). lt)
            (λ (le : r.from ≤ j). absurd (no_row j has le before)) (cases_lt j r.from),
      ))
    where
      no_row : (j : ℕ) → HasRow group j t → r.from ≤ j → IsBefore j end → ⊥
      no_row j has le before =
          ⊎_elim
          (λ (z : HasNoneFrom (rows group t) r.from end × (link_from end r.from (rows group t) ≡ 0)).
          z.0 j has.0 has.1 le before)
          (λ (z : IsFirstBefore (rows group t) r.from end (link_from end r.from (rows group t))).
          let place : ℕ = link_from end r.from (rows group t) in
          row-nonzero (shape o) place
          (buffer_row o t valid place group z.0 (row_role o t valid none_rebuilt group chained z.0 (place, z.1)))
          (sym r.leads ∙ none))
          (row_or_none (rows group t) r.from end (rise o t valid group))
