-- A table at rest has a place for each key of its map, so there are no more pairs than places.
use Rattle.std.proofs.Common.{◌≡◌, ⊎_elim, inl, inr, ℕ, zero, suc, ◌+◌, ◌*◌, ◌<◌, ◌≤◌, Option, Some, None}
use Rattle.std.proofs.Common.{List, [], ◌∷◌, ◌++◌, length, refl, sym, ap, ◌∙◌, subst, arith, length-append}
use Rattle.std.specs.Prelude.{nat_lt}
use mathlib.Core.Logic.{dite}
use native.Mathlib.Decide.{ℕ_discrete}
use Rattle.map_model.specs.Map.{IsRising, Map, look}
use Rattle.map_model.proofs.Logging.{rising-after}
use Rattle.map_model.proofs.Pairs.{AllAbove}
use Rattle.word_layout.specs.Addresses.{array_address}
use Rattle.word_layout.specs.Shape.{Shape, group_total}
use Rattle.index_machine.specs.declared.opening.Opening.{Opening}
use Rattle.index_machine.specs.Conditions.{Valid}
use Rattle.index_machine.specs.Execution.{Execution}
use Rattle.index_machine.specs.Lists.{In}
use Rattle.index_machine.specs.LivePlaces.{history, live_place}
use Rattle.index_machine.specs.OpeningRows.{opening_group}
use Rattle.index_machine.specs.Openings.{opening_map}
use Rattle.index_machine.specs.Rows.{InArray, InBuffer, role, role_key}
use Rattle.index_machine.specs.Words.{limits, shape}
use Rattle.index_machine.proofs.OpeningRows.{opening_role-row}
use Rattle.index_machine.proofs.Options.{none_some, some_is}
use Rattle.index_machine.proofs.Placing.{buffer_row, placed}
use Rattle.machine_arrays.proofs.Keys.{list_fits, list_whole}
use Rattle.machine_arrays.proofs.Places.{are_keys}
use Rattle.machine_buffers.proofs.NextRows.{look_first, look_other, none_in_empty}
use Rattle.machine_places.specs.Agreement.{HasLiveValue}
use Rattle.machine_places.specs.RowCounts.{all_rows}
use Rattle.machine_places.proofs.FromOpening.{agreement}
use Rattle.resting_table.specs.NoRebuild.{HasNoRebuild}
use Rattle.index_rule.proofs.HeldRows.{rows-length}
use Rattle.delta_buffer.proofs.KeyCounts.{HaveOwnPlaces, HavePlaces, below_fits, below_least, keys_end}
use Rattle.resting_table.specs.Reading.{HasRead}
use Rattle.resting_table.specs.Resting.{map_left, place_count}
use Rattle.resting_table.proofs.PairsBelow.{passing-length}
use Rattle.resting_table.proofs.RestingRecords.{live_where}

-- ---- all places ----

-- the first places of a group's array, so many
abbrev array_places : Shape → ℕ → ℕ → List ℕ
array_places s group zero = []
array_places s group (suc i) = array_address s group i ∷ array_places s group i

-- the places of the arrays of the first groups, so many
abbrev group_places : Shape → ℕ → List ℕ
group_places s zero = []
group_places s (suc group) = array_places s group s.limits.group_size ++ group_places s group

in_left : (q : ℕ) (xs ys : List ℕ) → In q xs → In q (xs ++ ys)
in_left q [] ys there = absurd there
in_left q (x ∷ xs) ys there =
    ⊎_elim (λ (z : q ≡ x). inl z) (λ (z : In q xs). inr (in_left q xs ys z)) there

in_right : (q : ℕ) (xs ys : List ℕ) → In q ys → In q (xs ++ ys)
in_right q [] ys there = there
in_right q (x ∷ xs) ys there = inr (in_right q xs ys there)

in_array : (s : Shape) (group i n : ℕ) → i < n → In (array_address s group i) (array_places s group n)
in_array s group i zero lt = absurd (omega arith)
in_array s group i (suc n) lt =
    dite (ℕ_discrete i n)
    (λ (same : i ≡ n). inl (ap (array_address s group) same))
    (λ (other : i ≡ n → ⊥). inr (in_array s group i n (omega arith)))

in_group : (s : Shape) (group i n : ℕ) → i < s.limits.group_size → group < n →
    In (array_address s group i) (group_places s n)
in_group s group i zero inside lt = absurd (omega arith)
in_group s group i (suc n) inside lt =
    dite (ℕ_discrete group n)
    (λ (same : group ≡ n).
    in_left (array_address s group i) (array_places s n s.limits.group_size) (group_places s n)
    (subst (λ (g : ℕ). In (array_address s group i) (array_places s g s.limits.group_size)) same
    (in_array s group i s.limits.group_size inside)))
    (λ (other : group ≡ n → ⊥).
    in_right (array_address s group i) (array_places s n s.limits.group_size) (group_places s n)
    (in_group s group i n inside (omega arith)))

array-length : (s : Shape) (group n : ℕ) → length (array_places s group n) ≡ n
array-length s group zero = refl
array-length s group (suc n) = let rest = array-length s group n in omega arith

groups-length : (s : Shape) (n : ℕ) → length (group_places s n) ≡ n * s.limits.group_size
groups-length s zero = omega arith
groups-length s (suc n) =
    let both = length-append (array_places s n s.limits.group_size) (group_places s n) in
    let one = array-length s n s.limits.group_size in
    let rest = groups-length s n in
    let more : suc n * s.limits.group_size ≡ s.limits.group_size + n * s.limits.group_size = omega arith in
    omega arith

-- ---- keys with their places ----

-- each key with a place in the stead of its value
abbrev with_places : (ℕ → ℕ) → Map → Map
with_places place [] = []
with_places place (r ∷ m) = (r.0, place r.0) ∷ with_places place m

places-length : (place : ℕ → ℕ) (m : Map) → length (with_places place m) ≡ length m
places-length place [] = refl
places-length place (r ∷ m) = let rest = places-length place m in omega arith

above_places : (place : ℕ → ℕ) (a : ℕ) (m : Map) → AllAbove a m → AllAbove a (with_places place m)
above_places place a [] above = tt
above_places place a (r ∷ m) above = (above.0, above_places place a m above.1)

rising_places : (place : ℕ → ℕ) (m : Map) → IsRising m → IsRising (with_places place m)
rising_places place [] rising = tt
rising_places place (r ∷ m) rising = (above_places place r.0 m rising.0, rising_places place m rising.1)

-- a key among them is one of the map, and has its place
look_places : (place : ℕ → ℕ) (m : Map) (k q : ℕ) → look (with_places place m) k ≡ Some q →
    (q ≡ place k) × ((x : ℕ) × (look m k ≡ Some x))
look_places place [] k q e = none_in_empty k q e
look_places place (r ∷ m) k q e =
    dite (ℕ_discrete r.0 k)
    (λ (here : r.0 ≡ k). (
      some_is (sym e ∙ (ap (look (with_places place (r ∷ m))) (sym here)
          ∙ look_first (r.0, place r.0) (with_places place m)))
          ∙ ap place here,
      (r.1, ap (look (r ∷ m)) (sym here) ∙ look_first r m),
    ))
    (λ (other : r.0 ≡ k → ⊥).
    let rest = look_places place m k q
    (sym (look_other (r.0, place r.0) (with_places place m) k other) ∙ e) in
    (rest.0, (rest.1.0, look_other r m k other ∙ rest.1.1)))

-- the place, or 0 for none
abbrev or_zero : Option ℕ → ℕ
or_zero None = 0
or_zero (Some place) = place

module _ (o : Opening) (t : Execution) (valid : Valid o t) (none_rebuilt : HasNoRebuild t) where
  abbrev left : Map
  left = map_left o t

  abbrev place : ℕ → ℕ
  place k = or_zero (live_place o k t)

  abbrev all_places : List ℕ
  all_places = all_rows o ++ group_places (shape o) (group_total (shape o))

  -- the live place of a key of the map
  live : (k x : ℕ) → look left k ≡ Some x →
      (live_place o k t ≡ Some (place k)) × (role_key (role o (place k) t) ≡ Some k)
  live k x is = go (live_place o k t) refl (agreement o t valid k)
    where
      go : (p : Option ℕ) → live_place o k t ≡ p → HasLiveValue o t k p →
          (live_place o k t ≡ Some (place k)) × (role_key (role o (place k) t) ≡ Some k)
      go None e has = none_some (sym has ∙ is)
      go (Some q) e has =
          let at : place k ≡ q = ap or_zero e in
          (e ∙ ap Some (sym at), ap (λ (p : ℕ). role_key (role o p t)) at ∙ has.3)

  -- is one of the table
  among : (k x : ℕ) → look left k ≡ Some x → In (place k) all_places
  among k x is =
      let there = (live k x is).0 in
      ⊎_elim
      (λ (z : role o (place k) t ≡ InArray (opening_group o k) k).
      let whole = (list_whole o t valid (opening_group o k)).whole k (place k) z in
      let below = whole.1 in
      let few = list_fits o t valid (opening_group o k) in
      in_right (place k) (all_rows o) (group_places (shape o) (group_total (shape o)))
      (subst (λ (p : ℕ). In p (group_places (shape o) (group_total (shape o)))) (sym whole.2)
      (in_group (shape o) (opening_group o k) whole.0 (group_total (shape o)) (omega arith)
      (are_keys o t valid (opening_group o k) k (place k) z).0)))
      (λ (z : role o (place k) t ≡ InBuffer (opening_group o k) k).
      let row = buffer_row o t valid (place k) (opening_group o k) k z in
      in_left (place k) (all_rows o) (group_places (shape o) (group_total (shape o)))
      ((placed o [] tt).all (place k) row (opening_role-row o (place k) row)))
      (live_where o t valid none_rebuilt k (place k) there)

  -- there are no more keys than places
  map_fits : length left ≤ place_count (shape o)
  map_fits =
      let m : Map = with_places place left in
      let end = keys_end m in
      let rises = rising_places place left (rising-after (opening_map o) (history t) o.rising) in
      let own : HaveOwnPlaces m = λ k j q e f.
      let here = look_places place left k q e in
      let there = look_places place left j q f in
      some_is (sym (live k here.1.0 here.1.1).1
      ∙ (ap (λ (p : ℕ). role_key (role o p t)) (sym here.0 ∙ there.0) ∙ (live j there.1.0 there.1.1).1)) in
      let inside : HavePlaces end.0 m all_places = λ k q lt e.
      let here = look_places place left k q e in
      subst (λ (p : ℕ). In p all_places) (sym here.0) (among k here.1.0 here.1.1) in
      let fits = below_fits end.0 m all_places own inside in
      let least = below_least end.0 m rises end.1 in
      let same = places-length place left in
      let both = length-append (all_rows o) (group_places (shape o) (group_total (shape o))) in
      let rows = rows-length (shape o) 0 (limits o).records in
      let groups = groups-length (shape o) (group_total (shape o)) in
      omega arith

  -- so what was read fits
  pub read_fits : (group index : ℕ) (end : Option ℕ) (pairs : Map) → HasRead o t group end index pairs →
      length pairs ≤ place_count (shape o)
  read_fits group index end pairs r =
      let few = passing-length (λ (k : ℕ). nat_lt k r.low) left in
      let same = ap (λ (m : Map). length m) r.pairs_are in
      let all = map_fits in
      omega arith
