-- The words that the array of a group gets for its rows.
use Rattle.std.proofs.Common.{◌≡◌, ◌≢◌, inr, ℕ, ◌+◌, ◌<◌, ◌≤◌, false, List, length, slice_index_or}
use Rattle.std.proofs.Common.{slice_set, sym, ◌∙◌, subst, arith, length-set}
use mathlib.Core.Logic.{dite}
use native.Mathlib.Decide.{ℕ_discrete}
use Rattle.map_model.specs.Map.{Map}
use Rattle.word_layout.specs.declared.places.Part.{Part}
use Rattle.word_layout.specs.declared.places.Part.TheVariants.{Key, Value, State, Link}
use Rattle.word_layout.specs.declared.state.State.TheVariants.{Direct}
use Rattle.word_layout.specs.Addresses.{array_address}
use Rattle.word_layout.specs.Limits.{word_count}
use Rattle.word_layout.specs.Places.{IsPlace, part_address}
use Rattle.word_layout.specs.Shape.{Shape, group_total}
use Rattle.word_layout.specs.State.{word_of_state}
use Rattle.word_layout.specs.Words.{Word, PlaceWord, IsWord, word_named}
use Rattle.word_layout.proofs.WordNames.{stores_by_name}
use Rattle.opened_table.specs.Laying.{FillsArray, HoldsRow}

place_of_word : (p q : ℕ) (a b : Part) → PlaceWord p a ≡ PlaceWord q b → p ≡ q
place_of_word p q a b e = cc

-- the place of a row of a group's array
pub array_place : (s : Shape) (group i : ℕ) → group < group_total s → i < s.limits.group_size →
    IsPlace s (array_address s group i)
array_place s group i exists below = inr (group, exists, (omega arith, omega arith, omega arith))

-- the table where one more row was stored at a place
abbrev stored_row : List ℕ → ℕ → ℕ × ℕ → ℕ → List ℕ
stored_row words place row state =
    slice_set
    (slice_set (slice_set words (part_address place Key) row.0) (part_address place Value) row.1)
    (part_address place State) state

-- what the three stores at a place do
module _ (s : Shape) (words : List ℕ) (place : ℕ) (row : ℕ × ℕ) (state : ℕ)
    (wide : length words ≡ word_count s) (is : IsPlace s place) where
  abbrev with_key : List ℕ
  with_key = slice_set words (part_address place Key) row.0

  abbrev with_value : List ℕ
  with_value = slice_set with_key (part_address place Value) row.1

  wide_key : length with_key ≡ word_count s
  wide_key = length-set words (part_address place Key) row.0 ∙ wide

  wide_value : length with_value ≡ word_count s
  wide_value = length-set with_key (part_address place Value) row.1 ∙ wide_key

  stored_key : word_named s (stored_row words place row state) (PlaceWord place Key) ≡ row.0
  stored_key =
      let by_name = stores_by_name s in
      by_name.kept with_value (PlaceWord place State) (PlaceWord place Key) state is is (λ e. cc)
      ∙ (by_name.kept with_key (PlaceWord place Value) (PlaceWord place Key) row.1 is is (λ e. cc)
      ∙ by_name.stored words (PlaceWord place Key) row.0 wide is)

  stored_value : word_named s (stored_row words place row state) (PlaceWord place Value) ≡ row.1
  stored_value =
      let by_name = stores_by_name s in
      by_name.kept with_value (PlaceWord place State) (PlaceWord place Value) state is is (λ e. cc)
      ∙ by_name.stored with_key (PlaceWord place Value) row.1 wide_key is

  stored_state : word_named s (stored_row words place row state) (PlaceWord place State) ≡ state
  stored_state = (stores_by_name s).stored with_value (PlaceWord place State) state wide_value is

  -- a word of no stored part of the place is as it was
  left : (w : Word) → IsWord s w → ((part : Part) → part ≢ Link → w ≢ PlaceWord place part) →
      word_named s (stored_row words place row state) w ≡ word_named s words w
  left w known none =
      let by_name = stores_by_name s in
      by_name.kept with_value (PlaceWord place State) w state is known
      (λ e. none State (λ z. cc) (sym e))
      ∙ (by_name.kept with_key (PlaceWord place Value) w row.1 is known
      (λ e. none Value (λ z. cc) (sym e))
      ∙ by_name.kept words (PlaceWord place Key) w row.0 is known (λ e. none Key (λ z. cc) (sym e)))

-- one more row
pub fill_more : (s : Shape) (group : ℕ) (rows : Map) (many : ℕ) (old words : List ℕ) →
    length old ≡ word_count s → group < group_total s → length rows ≤ s.limits.group_size →
    many < length rows → FillsArray s group rows many old words →
    FillsArray s group rows (many + 1) old
    (stored_row words (array_address s group many) (slice_index_or rows many (0, 0))
    (word_of_state (Direct s.limits.first_version false false)))
fill_more s group rows many old words wide exists few below done =
    let place : ℕ = array_address s group many in
    let row : ℕ × ℕ = slice_index_or rows many (0, 0) in
    let state : ℕ = word_of_state (Direct s.limits.first_version false false) in
    let new : List ℕ = stored_row words place row state in
    let is : IsPlace s place = array_place s group many exists (omega arith) in
    let wide_words : length words ≡ word_count s = done.wide ∙ wide in
    let other : (i : ℕ) → i < many → (part : Part) →
    word_named s new (PlaceWord (array_address s group i) part)
    ≡ word_named s words (PlaceWord (array_address s group i) part) =
    λ i lt part. left s words place row state wide_words is
    (PlaceWord (array_address s group i) part) (array_place s group i exists (omega arith))
    (λ at stored e.
    let same = place_of_word (array_address s group i) place part at e in absurd (omega arith))
    in
    record {
      wide = length-set (with_value s words place row state wide_words is) (part_address place State)
          state
          ∙ (wide_value s words place row state wide_words is ∙ sym wide);
      filled = λ i lt. dite (ℕ_discrete i many)
          (λ (same : i ≡ many).
          subst
          (λ (j : ℕ). HoldsRow s new (array_address s group j) (slice_index_or rows j (0, 0)))
          (sym same)
          (record {
            key = stored_key s words place row state wide_words is;
            value = stored_value s words place row state wide_words is;
            state = stored_state s words place row state wide_words is;
          }))
          (λ (differ : i ≢ many).
          let earlier : i < many = omega arith in
          let old_row = done.filled i earlier in
          record {
            key = other i earlier Key ∙ old_row.key;
            value = other i earlier Value ∙ old_row.value;
            state = other i earlier State ∙ old_row.state;
          });
      kept = λ w known none.
          left s words place row state wide_words is w known
          (λ part stored e. none many part (omega arith) stored e)
          ∙ done.kept w known (λ i part lt stored e. none i part (omega arith) stored e);
    }
