-- The words that are laid out for a group, as those of the table at its opening.
use Rattle.std.proofs.Common.{◌≡◌, ◌≢◌, ℕ, ◌+◌, ◌<◌, ◌≤◌, Bool, true, cond, List, length}
use Rattle.std.proofs.Common.{Some, slice_index_or, refl, sym, ap, ◌∙◌, subst, arith}
use Rattle.std.specs.List.{slice_get}
use Rattle.std.proofs.lemmas.Bool.{lt-ltb}
use Rattle.std.proofs.lemmas.Option.{slice_get-get_or}
use Rattle.line_window.specs.Line.{error_of}
use Rattle.map_model.specs.Map.{Map}
use Rattle.rebuild_plan.specs.Plan.{lane_count}
use Rattle.word_layout.specs.declared.headers.HeaderWord.{HeaderWord}
use Rattle.word_layout.specs.declared.headers.HeaderWord.TheVariants as header
use Rattle.word_layout.specs.declared.places.Part.{Part}
use Rattle.word_layout.specs.declared.places.Part.TheVariants.{Key, Value, State, Link}
use Rattle.word_layout.specs.Addresses.{array_address}
use Rattle.word_layout.specs.Headers.{IsHeaderWord}
use Rattle.word_layout.specs.Shape.{group_total}
use Rattle.word_layout.specs.Words.{Word, FreeHead, Root, Epoch, SlotPivot, SlotGroup, Header, PlaceWord}
use Rattle.word_layout.specs.Words.{IsWord, word_named}
use Rattle.index_machine.specs.declared.opening.Opening.{Opening}
use Rattle.index_machine.specs.OpeningRows.{index_behind, is_in_opening_chain, opening_group, opening_keys}
use Rattle.index_machine.specs.OpeningRows.{opening_next, opening_pivot, opening_row, key_word, value_word}
use Rattle.index_machine.specs.OpeningRows.{row_state_word}
use Rattle.index_machine.specs.Words.{shape, limits, opening_cut, opening_header, opening_word}
use Rattle.index_machine.proofs.OpeningPlan.{in_chain_is, opening_keys-fit}
use Rattle.index_machine.proofs.OpeningRows.{goes_on-first, index_first, seats_apart}
use Rattle.opened_table.specs.Laying.{keys_in, rows_of_group, TellsKeys, IsOfGroup}
use Rattle.opened_table.specs.Laying.{FillsArray, Lays, LaysHeader}
use Rattle.opened_table.proofs.GroupRows.{keys_of_group, row_at}
use Rattle.opened_table.proofs.LaidKeys.{length_of_keys}

-- ---- the rows of a group ----

-- at each index of a group's array stands the group's row with this number
pub opening_row-at : (o : Opening) (group n : ℕ) → n < (limits o).group_size →
    opening_row o (array_address (shape o) group n) ≡ slice_get (rows_of_group o group) n
opening_row-at o group n below =
    let none = index_first group in
    let same : index_behind 0 0 group + n ≡ n = omega (arith, none) in
    ap (λ (z : ℕ). opening_row o (array_address (shape o) group z)) (sym same)
    ∙ row_at (shape o) (opening_group o) 0 0 o.rows group n (goes_on-first o) (omega (arith, same, below))

-- the keys of its array are theirs
pub keys_are : (o : Opening) (group : ℕ) → opening_keys o group ≡ keys_in (rows_of_group o group)
keys_are o group = keys_of_group (opening_group o) group o.rows

pub many_keys : (o : Opening) (group : ℕ) → length (opening_keys o group) ≡ length (rows_of_group o group)
many_keys o group = ap (λ (z : List ℕ). length z) (keys_are o group) ∙ length_of_keys (rows_of_group o group)

-- a group has no more rows than an array has places
pub few_of_group : (o : Opening) (group : ℕ) → length (rows_of_group o group) ≤ (limits o).group_size
few_of_group o group = let fit = opening_keys-fit o group in let many = many_keys o group in omega (arith, fit, many)

-- ---- the words of a group ----

-- what is laid out for a group
module _ (o : Opening) (group : ℕ) (chained : is_in_opening_chain o group ≡ true) (old headed new : List ℕ)
    (head : LaysHeader (shape o) group (opening_pivot o group) (opening_next o group)
    (keys_in (rows_of_group o group)) old headed)
    (array : FillsArray (shape o) group (rows_of_group o group) (length (rows_of_group o group)) headed new) where
  abbrev rows : Map
  rows = rows_of_group o group

  abbrev keys : List ℕ
  keys = keys_in rows

  exists : group < group_total (shape o)
  exists = (in_chain_is o group chained).exists

  -- the words of the header
  header_kept : (which : HeaderWord) → IsHeaderWord which →
      word_named (shape o) new (Header group which) ≡ word_named (shape o) headed (Header group which)
  header_kept which known = array.kept (Header group which) (exists, known) (λ i at lt stored e. cc)

  laid_header : (which : HeaderWord) → IsHeaderWord which → TellsKeys (length rows) which →
      word_named (shape o) new (Header group which) ≡ opening_header o group which
  laid_header header.Pivot known tells =
      header_kept header.Pivot known
      ∙ (head.begins ∙ sym (ap (λ (b : Bool). cond b (opening_pivot o group) 0) chained))
  laid_header header.Size known tells =
      header_kept header.Size known ∙ (head.size ∙ sym (ap (λ (z : List ℕ). length z) (keys_are o group)))
  laid_header header.LineError known tells =
      header_kept header.LineError known ∙ (head.error ∙ sym (ap error_of (keys_are o group)))
  laid_header header.Next known tells = header_kept header.Next known ∙ head.leads
  laid_header header.Lanes known tells =
      header_kept header.Lanes known
      ∙ (head.lanes
      ∙ sym (ap (λ (b : Bool). cond b (lane_count (length (opening_keys o group))) 0) chained
      ∙ ap (λ (z : List ℕ). lane_count (length z)) (keys_are o group)))
  laid_header (header.Cut lane) known tells =
      let lt : lane < lane_count (length keys) =
      subst (λ (n : ℕ). lane < lane_count n) (sym (length_of_keys rows)) tells
      in
      let pivot : ℕ = opening_pivot o group in
      header_kept (header.Cut lane) known
      ∙ (head.cuts lane lt
      ∙ sym (ap (λ (b : Bool). cond b (opening_cut pivot (opening_keys o group) lane) 0) chained
      ∙ (ap (λ (z : List ℕ). opening_cut pivot z lane) (keys_are o group)
      ∙ rw (lt-ltb lane (lane_count (length keys)) lt) refl)))
  laid_header header.Phase known tells = absurd tells
  laid_header header.FirstSpare known tells = absurd tells
  laid_header header.SecondSpare known tells = absurd tells
  laid_header (header.Head lane) known tells = absurd tells

  -- the row at a place
  row_there : (i : ℕ) → i < length rows →
      opening_row o (array_address (shape o) group i) ≡ Some (slice_index_or rows i (0, 0))
  row_there i lt =
      let few = few_of_group o group in
      opening_row-at o group i (omega (arith, few, lt)) ∙ slice_get-get_or rows i (0, 0) lt

  laid_word : (w : Word) → IsWord (shape o) w → IsOfGroup o group w →
      word_named (shape o) new w ≡ opening_word o w
  laid_word FreeHead is of = absurd of
  laid_word (Root p) is of = absurd of
  laid_word (Epoch c) is of = absurd of
  laid_word (SlotPivot p side i) is of = absurd of
  laid_word (SlotGroup p side i) is of = absurd of
  laid_word (Header g which) is of =
      subst (λ (z : ℕ). word_named (shape o) new (Header z which) ≡ opening_header o z which)
      (sym of.0) (laid_header which is.1 of.1)
  laid_word (PlaceWord p Key) is of =
      ap (λ (z : ℕ). word_named (shape o) new (PlaceWord z Key)) of.2
      ∙ ((array.filled of.0 of.1).key
      ∙ sym (ap key_word (ap (opening_row o) of.2 ∙ row_there of.0 of.1)))
  laid_word (PlaceWord p Value) is of =
      ap (λ (z : ℕ). word_named (shape o) new (PlaceWord z Value)) of.2
      ∙ ((array.filled of.0 of.1).value
      ∙ sym (ap value_word (ap (opening_row o) of.2 ∙ row_there of.0 of.1)))
  laid_word (PlaceWord p State) is of =
      ap (λ (z : ℕ). word_named (shape o) new (PlaceWord z State)) of.2
      ∙ ((array.filled of.0 of.1).state
      ∙ sym (ap (row_state_word (limits o).first_version)
      (ap (opening_row o) of.2 ∙ row_there of.0 of.1)))
  laid_word (PlaceWord p Link) is of = absurd of

  -- the stored words of a row are the group's
  place_laid : (i : ℕ) (at : Part) → i < length rows → at ≢ Link →
      IsOfGroup o group (PlaceWord (array_address (shape o) group i) at)
  place_laid i Key lt stored = (i, lt, refl)
  place_laid i Value lt stored = (i, lt, refl)
  place_laid i State lt stored = (i, lt, refl)
  place_laid i Link lt stored = stored refl

  kept_word : (w : Word) → IsWord (shape o) w → (IsOfGroup o group w → ⊥) →
      word_named (shape o) new w ≡ word_named (shape o) old w
  kept_word w is none =
      array.kept w is
      (λ i at lt stored e. none (subst (IsOfGroup o group) (sym e) (place_laid i at lt stored)))
      ∙ head.kept w is
      (λ which tells e.
      none (subst (IsOfGroup o group) (sym e)
      (refl, subst (λ (n : ℕ). TellsKeys n which) (length_of_keys rows) tells)))

  pub group_laid : Lays o (IsOfGroup o group) old new
  group_laid = record { wide = array.wide ∙ head.wide; laid = laid_word; kept = kept_word }

-- ---- whose a word is ----

one_place : (o : Opening) (group other p : ℕ) → IsOfGroup o group (PlaceWord p Key) →
    IsOfGroup o other (PlaceWord p Key) → group ≡ other
one_place o group other p one two =
    let few = few_of_group o group in
    let few_other = few_of_group o other in
    let lt = one.1 in
    let lt_other = two.1 in
    (seats_apart (shape o) group other one.0 two.0 (omega arith) (omega arith) (sym one.2 ∙ two.2)).0

-- a word is laid out for one group alone
pub one_group : (o : Opening) (group other : ℕ) (w : Word) → IsOfGroup o group w → IsOfGroup o other w →
    group ≡ other
one_group o group other FreeHead one two = absurd one
one_group o group other (Root p) one two = absurd one
one_group o group other (Epoch c) one two = absurd one
one_group o group other (SlotPivot p side i) one two = absurd one
one_group o group other (SlotGroup p side i) one two = absurd one
one_group o group other (Header g which) one two = sym one.0 ∙ two.0
one_group o group other (PlaceWord p Key) one two = one_place o group other p one two
one_group o group other (PlaceWord p Value) one two = one_place o group other p one two
one_group o group other (PlaceWord p State) one two = one_place o group other p one two
one_group o group other (PlaceWord p Link) one two = absurd one
