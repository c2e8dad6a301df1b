-- The words that are laid out for a new table.
use Rattle.std.proofs.Common.{◌≡◌, ◌≢◌, ◌⊎◌, inl, inr, ⊎_elim, ℕ, ◌+◌, ◌^◌, ◌<◌, ◌≤◌, Bool, true, false, cond}
use Rattle.std.proofs.Common.{Option, Some, None, List, [], ◌∷◌, length, slice_index, slice_set, refl, sym, ap, ◌∙◌}
use Rattle.std.proofs.Common.{subst, arith, length-set, ne_eqb}
use Rattle.std.specs.Prelude.{◌==◌, ◌&&◌, nat_lt}
use Rattle.std.proofs.lemmas.Bool.{cases_lt, lt-leb, le-ltb}
use Rattle.std.proofs.lemmas.Option.{slice_get-get_or, slice_get_within}
use mathlib.Core.Logic.{dite}
use native.Mathlib.Decide.{ℕ_discrete}
use Rattle.line_window.specs.Line.{error_of}
use Rattle.rebuild_plan.specs.Plan.{lane_count, slot_group}
use Rattle.rebuild_plan.specs.Keys.{cut_of, slot_pivot}
use Rattle.word_layout.specs.declared.headers.HeaderWord.{HeaderWord}
use Rattle.word_layout.specs.declared.headers.HeaderWord.TheVariants as header
use Rattle.word_layout.specs.declared.places.Part.TheVariants.{Key, Value, State, Link}
use Rattle.word_layout.specs.Limits.{word_count}
use Rattle.word_layout.specs.Addresses.{array_address, first_row_word, row_address}
use Rattle.word_layout.specs.Places.{IsRow, IsPlace, IsArrayPlace, next_row}
use Rattle.word_layout.specs.Shape.{Shape, parts_in, group_total, first_group_of}
use Rattle.word_layout.specs.Words.{Word, FreeHead, Root, Epoch, SlotPivot, SlotGroup, Header}
use Rattle.word_layout.specs.Words.{PlaceWord, IsWord, address_of, word_named}
use Rattle.word_layout.proofs.PartGroups.{group-part}
use Rattle.word_layout.proofs.RowPlaces.{row_number, row_address-injective, next_row-inner, next_row-last}
use Rattle.word_layout.proofs.WordNames.{stores_by_name, array_inside}
use Rattle.index_machine.specs.declared.opening.Opening.{Opening}
use Rattle.index_machine.specs.Keepers.{IsPart, part_of}
use Rattle.index_machine.specs.OpeningRoots.{is_opening_slot, opening_slots, opening_step}
use Rattle.index_machine.specs.OpeningRows.{has_behind, is_in_opening_chain, number_in_part, opening_group}
use Rattle.index_machine.specs.OpeningRows.{opening_keys, opening_next, opening_pivot, opening_pivots}
use Rattle.index_machine.specs.OpeningRows.{opening_row, key_word, value_word, row_state_word}
use Rattle.index_machine.specs.Words.{shape, limits, opening_cut, opening_header, opening_word}
use Rattle.index_machine.proofs.OpeningGroups.{opening_group-chain}
use Rattle.index_machine.proofs.OpeningPlan.{IsOpened, group_is_row, in_chain, in_chain_is, opening_group-opened}
use Rattle.index_machine.proofs.OpeningPlan.{opening_keys-group, row_opened}
use Rattle.index_machine.proofs.OpeningRows.{goes_on-first, opening_row-key, row_from-place}
use Rattle.opened_table.specs.Laying.{group_row, rows_of_group, TellsKeys, IsOfFirst, IsOfGroup, IsOfGroups}
use Rattle.opened_table.specs.Laying.{IsOfPart, IsOfRoot, IsOfSlot, Lays, LinksRows, StandsFor}
use Rattle.opened_table.proofs.LaidGroups.{few_of_group, many_keys, opening_row-at}
use Rattle.opened_table.proofs.LaidLinks.{place_of_link}

-- ---- the links ----

-- a word of the table where the record rows are linked, and nothing else is laid out
abbrev linked_word : Shape → Word → ℕ
linked_word s FreeHead = row_address s 0
linked_word s (Root part) = 0
linked_word s (Epoch caller) = 0
linked_word s (SlotPivot part side i) = 0
linked_word s (SlotGroup part side i) = 0
linked_word s (Header group which) = 0
linked_word s (PlaceWord place Key) = 0
linked_word s (PlaceWord place Value) = 0
linked_word s (PlaceWord place State) = 0
linked_word s (PlaceWord place Link) = next_row s place

no_link_row : (s : Shape) (place : ℕ) → IsPlace s place →
    ((i : ℕ) → i + 1 < s.limits.records → PlaceWord place Link ≢ PlaceWord (row_address s i) Link) →
    next_row s place ≡ 0
no_link_row s place is none =
    ⊎_elim
    (λ (row : IsRow s place).
    let number = row_number s place row in
    let i : ℕ = number.0 in
    let below : i < s.limits.records = number.1 in
    dite (ℕ_discrete (i + 1) s.limits.records)
    (λ (last : i + 1 ≡ s.limits.records). ap (next_row s) number.2 ∙ next_row-last s i last)
    (λ (more : i + 1 ≢ s.limits.records).
    absurd (none i (omega arith) (ap (λ (p : ℕ). PlaceWord p Link) number.2))))
    (λ (array : (group : ℕ) × (group < group_total s) × IsArrayPlace s group place).
    let inside = array_inside s array.0 place 0 array.1 array.2 (omega arith) in
    let bound = inside.1 in
    let at = inside.2 in
    let before : place < first_row_word s = omega arith in
    rw (lt-leb (first_row_word s) place before) refl)
    is

-- a table of zeros where the head of the free stack was stored
abbrev pub headed : Shape → List ℕ → List ℕ
headed s zeros = slice_set zeros (address_of s FreeHead) (row_address s 0)

-- what the linking does to a table of zeros
module _ (s : Shape) (zeros linked : List ℕ) (wide : length zeros ≡ word_count s)
    (blank : (w : Word) → IsWord s w → word_named s zeros w ≡ 0)
    (links : LinksRows s s.limits.records (headed s zeros) linked) where
  -- the word is none of the links that were stored
  abbrev IsNoLink : Word → Type 0
  IsNoLink w = (i : ℕ) → i + 1 < s.limits.records → w ≢ PlaceWord (row_address s i) Link

  -- what no store changed is 0
  untouched : (w : Word) → IsWord s w → FreeHead ≢ w → IsNoLink w → word_named s linked w ≡ 0
  untouched w is no_head no_link =
      links.kept w is no_link
      ∙ ((stores_by_name s).kept zeros FreeHead w (row_address s 0) tt is no_head ∙ blank w is)

  unlinked : (p : ℕ) → IsPlace s p → IsNoLink (PlaceWord p Link) →
      word_named s linked (PlaceWord p Link) ≡ next_row s p
  unlinked p is none =
      untouched (PlaceWord p Link) is (λ e. cc) none ∙ sym (no_link_row s p is none)

  link_of_row : (p : ℕ) → IsRow s p → word_named s linked (PlaceWord p Link) ≡ next_row s p
  link_of_row p row =
      let number = row_number s p row in
      let i : ℕ = number.0 in
      let below : i < s.limits.records = number.1 in
      dite (ℕ_discrete (i + 1) s.limits.records)
      (λ (last : i + 1 ≡ s.limits.records). unlinked p (inl row)
      (λ j lt e.
      let same = row_address-injective s i j (sym number.2 ∙ place_of_link p (row_address s j) e) in
      absurd (omega arith)))
      (λ (more : i + 1 ≢ s.limits.records).
      ap (λ (q : ℕ). word_named s linked (PlaceWord q Link)) number.2
      ∙ (links.linked i (omega arith)
      ∙ (sym (next_row-inner s i (omega arith)) ∙ ap (next_row s) (sym number.2))))

  link_of_array : (p : ℕ) → (group : ℕ) × (group < group_total s) × IsArrayPlace s group p →
      word_named s linked (PlaceWord p Link) ≡ next_row s p
  link_of_array p array =
      unlinked p (inr array)
      (λ j lt e.
      let same = place_of_link p (row_address s j) e in
      let inside = array_inside s array.0 p 0 array.1 array.2 (omega arith) in
      let bound = inside.1 in
      let at = inside.2 in
      absurd (omega arith))

  each_linked : (w : Word) → IsWord s w → word_named s linked w ≡ linked_word s w
  each_linked FreeHead is =
      links.kept FreeHead is
      (λ i lt e. let z : FreeHead ≡ PlaceWord (row_address s i) Link = e in cc)
      ∙ (stores_by_name s).stored zeros FreeHead (row_address s 0) wide tt
  each_linked (Root p) is = untouched (Root p) is (λ e. cc) (λ i lt e. cc)
  each_linked (Epoch c) is = untouched (Epoch c) is (λ e. cc) (λ i lt e. cc)
  each_linked (SlotPivot p r i) is = untouched (SlotPivot p r i) is (λ e. cc) (λ j lt e. cc)
  each_linked (SlotGroup p r i) is = untouched (SlotGroup p r i) is (λ e. cc) (λ j lt e. cc)
  each_linked (Header g h) is = untouched (Header g h) is (λ e. cc) (λ j lt e. cc)
  each_linked (PlaceWord p Key) is = untouched (PlaceWord p Key) is (λ e. cc) (λ j lt e. cc)
  each_linked (PlaceWord p Value) is = untouched (PlaceWord p Value) is (λ e. cc) (λ j lt e. cc)
  each_linked (PlaceWord p State) is = untouched (PlaceWord p State) is (λ e. cc) (λ j lt e. cc)
  each_linked (PlaceWord p Link) is =
      ⊎_elim (λ row. link_of_row p row) (λ array. link_of_array p array) is

-- ---- what the opening says of words that are laid out for no part ----

-- a test that fails
test_fails : (w v : Bool) → w ≡ false ⊎ v ≡ false → (w && v) ≡ false
test_fails true true z = ⊎_elim (λ (e : true ≡ false). cc) (λ (e : true ≡ false). cc) z
test_fails true false z = refl
test_fails false v z = refl

-- a slot that is not in use
slot_blank : (o : Opening) (part side i : ℕ) → (side ≡ 0 → i < opening_slots o part → ⊥) →
    is_opening_slot o part side i ≡ false
slot_blank o part side i none =
    test_fails (side == 0) (nat_lt i (opening_slots o part)) (dite (ℕ_discrete side 0)
    (λ (at : side ≡ 0). inr (⊎_elim (λ (used : i < opening_slots o part). absurd (none at used))
    (λ (over : opening_slots o part ≤ i). le-ltb i (opening_slots o part) over)
    (cases_lt i (opening_slots o part))))
    (λ (other : side ≢ 0). inl (ne_eqb side 0 other)))

-- a group that is not in the chain
module _ (o : Opening) (g : ℕ) (out : is_in_opening_chain o g ≡ false) where
  no_keys : opening_keys o g ≡ []
  no_keys = go (opening_keys o g) refl
    where
      go : (keys : List ℕ) → opening_keys o g ≡ keys → keys ≡ []
      go [] e = refl
      go (k ∷ keys) e =
          let some : 0 < length (opening_keys o g) =
          subst (λ (z : List ℕ). 0 < length z) (sym e) (omega arith)
          in
          let is = opening_keys-group o g 0 some in
          let key : ℕ = slice_index (opening_keys o g) 0 in
          let chained : is_in_opening_chain o g ≡ true =
          subst (λ (z : ℕ). is_in_opening_chain o z ≡ true) is.0 (opening_group-chain o key is.1)
          in
          let bad : true ≡ false = sym chained ∙ out in cc

  no_next : opening_next o g ≡ 0
  no_next = ap (λ (b : Bool). cond (b && has_behind o g 1) (g + 1 + 1) 0) out

  unused_header : (which : HeaderWord) → opening_header o g which ≡ 0
  unused_header header.Pivot = ap (λ (b : Bool). cond b (opening_pivot o g) 0) out
  unused_header header.Size = ap (λ (z : List ℕ). length z) no_keys
  unused_header header.LineError = ap error_of no_keys
  unused_header header.Lanes =
      ap (λ (b : Bool). cond b (lane_count (length (opening_keys o g))) 0) out
  unused_header header.Phase = refl
  unused_header header.Next = no_next
  unused_header header.FirstSpare = refl
  unused_header header.SecondSpare = refl
  unused_header (header.Head lane) = refl
  unused_header (header.Cut lane) =
      ap (λ (b : Bool). cond b (opening_cut (opening_pivot o g) (opening_keys o g) lane) 0) out

-- whether a header word tells of so many keys
tells_or_not : (many : ℕ) (which : HeaderWord) → TellsKeys many which ⊎ (TellsKeys many which → ⊥)
tells_or_not many header.Pivot = inl tt
tells_or_not many header.Size = inl tt
tells_or_not many header.LineError = inl tt
tells_or_not many header.Next = inl tt
tells_or_not many header.Lanes = inl tt
tells_or_not many header.Phase = inr (λ of. of)
tells_or_not many header.FirstSpare = inr (λ of. of)
tells_or_not many header.SecondSpare = inr (λ of. of)
tells_or_not many (header.Head lane) = inr (λ of. of)
tells_or_not many (header.Cut lane) =
    ⊎_elim (λ (lt : lane < lane_count many). inl lt)
    (λ (over : lane_count many ≤ lane). inr (λ lt. omega (arith, over, lt)))
    (cases_lt lane (lane_count many))

-- a choice between a number and itself
no_choice : (b : Bool) (n : ℕ) → cond b n n ≡ n
no_choice true n = refl
no_choice false n = refl

-- a header word that does not tell of the group's keys is 0
untold : (o : Opening) (g : ℕ) (which : HeaderWord) →
    (TellsKeys (length (rows_of_group o g)) which → ⊥) → opening_header o g which ≡ 0
untold o g header.Pivot none = absurd (none tt)
untold o g header.Size none = absurd (none tt)
untold o g header.LineError none = absurd (none tt)
untold o g header.Next none = absurd (none tt)
untold o g header.Lanes none = absurd (none tt)
untold o g header.Phase none = refl
untold o g header.FirstSpare none = refl
untold o g header.SecondSpare none = refl
untold o g (header.Head lane) none = refl
untold o g (header.Cut lane) none =
    ⊎_elim (λ (lt : lane < lane_count (length (opening_keys o g))).
    absurd (none (subst (λ (n : ℕ). lane < lane_count n) (many_keys o g) lt)))
    (λ (over : lane_count (length (opening_keys o g)) ≤ lane).
    ap (λ (z : ℕ). cond (is_in_opening_chain o g) z 0)
    (ap (λ (b : Bool). cond b (cut_of (opening_pivot o g) (opening_keys o g) lane) 0)
    (le-ltb lane (lane_count (length (opening_keys o g))) over))
    ∙ no_choice (is_in_opening_chain o g) 0)
    (cases_lt lane (lane_count (length (opening_keys o g))))

none_some : {X : Type 0} {r : ℕ × ℕ} → None ≡ Some r → X
none_some e = cc

-- the place is that of a row of a group
abbrev HasRow : Opening → ℕ → Type 0
HasRow o p = (group : ℕ) × IsOpened o group × (i : ℕ) × (i < length (rows_of_group o group))
    × (p ≡ array_address (shape o) group i)

-- no group has a row at the place, and none stands there at the opening
abbrev HasNoRow : Opening → ℕ → Type 0
HasNoRow o p = (opening_row o p ≡ None)
    × ((group i : ℕ) → i < length (rows_of_group o group) → p ≢ array_address (shape o) group i)

-- one or the other
row_or_none : (o : Opening) (p : ℕ) → HasRow o p ⊎ HasNoRow o p
row_or_none o p = go (opening_row o p) refl
  where
    go : (found : Option (ℕ × ℕ)) → opening_row o p ≡ found → HasRow o p ⊎ HasNoRow o p
    go None e = inr (
      e,
      λ group i lt at.
          let few = few_of_group o group in
          none_some (sym e ∙ (ap (opening_row o) at
          ∙ (opening_row-at o group i (omega arith)
          ∙ slice_get-get_or (rows_of_group o group) i (0, 0) lt))),
    )
    go (Some r) e =
        let s : Shape = shape o in
        let group : ℕ = opening_group o r.0 in
        let small : r.0 < 2 ^ 64 = opening_row-key o p r.0 r.1 e in
        let on = goes_on-first o in
        let seat = row_from-place s (opening_group o) 0 0 o.rows p r on e in
        let room = on.room group in
        let known =
        slice_get_within (rows_of_group o group) seat.index r
        (sym (opening_row-at o group seat.index (omega (arith, seat.below, room)))
        ∙ (ap (opening_row o) (sym seat.is) ∙ e))
        in
        inl (group, opening_group-opened o r.0 (omega (arith, small)), seat.index, known, seat.is)

-- ---- the whole table ----

-- the word is one of a slot: of no other, and of no group
record IsSlotWord (p side i : ℕ) (w : Word) : Type 0 where
  own : side ≡ 0 → IsOfSlot p i w
  back : (part j : ℕ) → IsOfSlot part j w → (p ≡ part) × (side ≡ 0) × (i ≡ j)
  no_root : (part : ℕ) → w ≢ Root part
  no_group : (o : Opening) (group : ℕ) → IsOfGroup o group w → ⊥

-- the word is one that a row has at a place
record IsPlaceWord (o : Opening) (p : ℕ) (w : Word) : Type 0 where
  own : (group : ℕ) →
      (i : ℕ) × (i < length (rows_of_group o group)) × (p ≡ array_address (shape o) group i) →
      IsOfGroup o group w
  back : (group : ℕ) → IsOfGroup o group w →
      (i : ℕ) × (i < length (rows_of_group o group)) × (p ≡ array_address (shape o) group i)
  no_root : (part : ℕ) → w ≢ Root part
  no_slot : (part i : ℕ) → IsOfSlot part i w → ⊥

-- what the laying does to a table of zeros
module _ (o : Opening) (zeros linked new : List ℕ) (wide : length zeros ≡ word_count (shape o))
    (blank : (w : Word) → IsWord (shape o) w → word_named (shape o) zeros w ≡ 0)
    (links : LinksRows (shape o) (limits o).records (headed (shape o) zeros) linked)
    (parts : Lays o (IsOfFirst (IsOfPart o) (parts_in (shape o))) linked new) where
  -- a word that is laid out for no part
  unlaid : (w : Word) → IsWord (shape o) w → ((part : ℕ) → IsPart o part → IsOfPart o part w → ⊥) →
      word_named (shape o) new w ≡ linked_word (shape o) w
  unlaid w is none =
      parts.kept w is (λ of. none of.0 of.1 of.2) ∙ each_linked (shape o) zeros linked wide blank links w is

  -- a word that is laid out for a group of the chain
  of_group : (group : ℕ) (w : Word) → IsOpened o group → IsWord (shape o) w → IsOfGroup o group w →
      word_named (shape o) new w ≡ opening_word o w
  of_group group w opened is of =
      parts.laid w is (
        part_of o group,
        group-part (shape o) group opened.exists,
        inr (
          number_in_part o group,
          opened.among,
          subst (λ (g : ℕ). IsOfGroup o g w) (sym (group_is_row o group)) of,
        ),
      )

  -- a word that is laid out for no root and no group
  no_part : (w : Word) → ((part : ℕ) → w ≢ Root part) → ((part i : ℕ) → IsOfSlot part i w → ⊥) →
      ((group : ℕ) → IsOpened o group → IsOfGroup o group w → ⊥) → (part : ℕ) → IsPart o part →
      IsOfPart o part w → ⊥
  no_part w no_root no_slot no_group part is_part of = ⊎_elim
      (λ (z : IsOfRoot o part w). ⊎_elim (no_root part)
      (λ (slot : IsOfFirst (IsOfSlot part) (opening_slots o part) w). no_slot part slot.0 slot.2) z)
      (λ (z : IsOfGroups o part w). no_group (group_row o part z.0) (row_opened o part z.0 is_part z.1) z.2) of

  header_of : (g : ℕ) (which : HeaderWord) → IsWord (shape o) (Header g which) →
      word_named (shape o) new (Header g which) ≡ opening_header o g which
  header_of g which is = go (is_in_opening_chain o g) refl
    where
      zero : ((group : ℕ) → IsOpened o group → IsOfGroup o group (Header g which) → ⊥) →
          opening_header o g which ≡ 0 → word_named (shape o) new (Header g which) ≡ opening_header o g which
      zero none e =
          unlaid (Header g which) is
          (no_part (Header g which) (λ part z. cc) (λ part i z. z) none)
          ∙ sym e

      go : (b : Bool) → is_in_opening_chain o g ≡ b →
          word_named (shape o) new (Header g which) ≡ opening_header o g which
      go true e = ⊎_elim
          (λ (tells : TellsKeys (length (rows_of_group o g)) which).
          of_group g (Header g which) (in_chain_is o g e) is (refl, tells))
          (λ (not : TellsKeys (length (rows_of_group o g)) which → ⊥).
          zero
          (λ group opened of.
          not (subst (λ (h : ℕ). TellsKeys (length (rows_of_group o h)) which) (sym of.0) of.1))
          (untold o g which not))
          (tells_or_not (length (rows_of_group o g)) which)
      go false e =
          zero
          (λ group opened of.
          let chained : is_in_opening_chain o g ≡ true =
          subst (λ (h : ℕ). is_in_opening_chain o h ≡ true) (sym of.0) (in_chain o group opened)
          in
          let bad : true ≡ false = sym chained ∙ e in cc)
          (unused_header o g e which)

  -- a slot in use is laid out, and another is 0
  slot_of : (p side i : ℕ) (w : Word) → IsWord (shape o) w → IsPart o p → IsSlotWord p side i w →
      (is_opening_slot o p side i ≡ false → opening_word o w ≡ 0) → linked_word (shape o) w ≡ 0 →
      word_named (shape o) new w ≡ opening_word o w
  slot_of p side i w is is_part slot zero unlinked = dite (ℕ_discrete side 0)
      (λ (at : side ≡ 0). ⊎_elim
      (λ (used : i < opening_slots o p). parts.laid w is (p, is_part, inl (inr (i, used, slot.own at))))
      (λ (over : opening_slots o p ≤ i). none (λ z used. absurd (omega (arith, over, used))))
      (cases_lt i (opening_slots o p)))
      (λ (other : side ≢ 0). none (λ z used. absurd (other z)))
    where
      none : (side ≡ 0 → i < opening_slots o p → ⊥) → word_named (shape o) new w ≡ opening_word o w
      none unused =
          unlaid w is
          (λ part is_part of. ⊎_elim
          (λ (z : IsOfRoot o part w). ⊎_elim (slot.no_root part)
          (λ (first : IsOfFirst (IsOfSlot part) (opening_slots o part) w).
          let at = slot.back part first.0 first.2 in
          unused at.1 (subst (λ (q : ℕ). i < opening_slots o q) (sym at.0)
          (subst (λ (j : ℕ). j < opening_slots o part) (sym at.2) first.1))) z)
          (λ (z : IsOfGroups o part w). slot.no_group o (group_row o part z.0) z.2) of)
          ∙ (unlinked ∙ sym (zero (slot_blank o p side i unused)))

  -- a place has a row of a group, or its words are 0
  place_of : (p : ℕ) (w : Word) → IsWord (shape o) w → IsPlaceWord o p w →
      (opening_row o p ≡ None → opening_word o w ≡ 0) → linked_word (shape o) w ≡ 0 →
      word_named (shape o) new w ≡ opening_word o w
  place_of p w is place zero unlinked = ⊎_elim
      (λ (z : HasRow o p). of_group z.0 w z.1 is (place.own z.0 (z.2, z.3, z.4)))
      (λ (z : HasNoRow o p).
      unlaid w is
      (no_part w place.no_root place.no_slot
      (λ group opened of. let at = place.back group of in z.1 group at.0 at.1 at.2))
      ∙ (unlinked ∙ sym (zero z.0)))
      (row_or_none o p)

  each : (w : Word) → IsWord (shape o) w → word_named (shape o) new w ≡ opening_word o w
  each FreeHead is =
      unlaid FreeHead is (no_part FreeHead (λ part z. cc) (λ part i z. z) (λ group opened z. z))
  each (Root p) is = parts.laid (Root p) is (p, is, inl (inl refl))
  each (Epoch c) is =
      unlaid (Epoch c) is (no_part (Epoch c) (λ part z. cc) (λ part i z. z) (λ group opened z. z))
  each (SlotPivot p side i) is =
      slot_of p side i (SlotPivot p side i) is is.0
      (record {
        own = λ at. (refl, at, refl);
        back = λ part j z. z;
        no_root = λ part z. cc;
        no_group = λ q group z. z;
      })
      (λ e. ap (λ (b : Bool). cond b (slot_pivot (opening_pivots o p) (limits o).slots i) 0) e) refl
  each (SlotGroup p side i) is =
      slot_of p side i (SlotGroup p side i) is is.0
      (record {
        own = λ at. (refl, at, refl);
        back = λ part j z. z;
        no_root = λ part z. cc;
        no_group = λ q group z. z;
      })
      (λ e.
      ap (λ (b : Bool). cond b (first_group_of (shape o) p + slot_group (opening_step o p) i) 0) e) refl
  each (Header g which) is = header_of g which is
  each (PlaceWord p Key) is =
      place_of p (PlaceWord p Key) is
      (record { own = λ group z. z; back = λ group z. z; no_root = λ part z. cc; no_slot = λ part i z. z })
      (λ e. ap key_word e) refl
  each (PlaceWord p Value) is =
      place_of p (PlaceWord p Value) is
      (record { own = λ group z. z; back = λ group z. z; no_root = λ part z. cc; no_slot = λ part i z. z })
      (λ e. ap value_word e) refl
  each (PlaceWord p State) is =
      place_of p (PlaceWord p State) is
      (record { own = λ group z. z; back = λ group z. z; no_root = λ part z. cc; no_slot = λ part i z. z })
      (λ e. ap (row_state_word (limits o).first_version) e) refl
  each (PlaceWord p Link) is =
      unlaid (PlaceWord p Link) is (no_part (PlaceWord p Link) (λ part z. cc) (λ part i z. z) (λ group opened z. z))

  pub laid : StandsFor o new []
  laid =
      record {
        wide = parts.wide
            ∙ (links.wide ∙ (length-set zeros (address_of (shape o) FreeHead) (row_address (shape o) 0) ∙ wide));
        named = each;
      }
