-- The arrays as the table is opened: that of each group has the rows that the group answers for, in their order.
use Rattle.std.proofs.Common.{◌≡◌, ◌≢◌, ℕ, zero, suc, ◌+◌, ◌^◌, ◌<◌, ◌≤◌, Some, None, Bool, true, false}
use Rattle.std.proofs.Common.{List, [], ◌∷◌, cond, length, refl, sym, ap, ◌∙◌, subst, arith}
use Rattle.std.specs.List.{AllByRecursion}
use Rattle.std.specs.Prelude.{◌==◌, slice_index}
use Rattle.std.proofs.lemmas.List.Kept.{AllPairs-from_increasing}
use mathlib.Core.Logic.{dite}
use native.Mathlib.Decide.{ℕ_discrete}
use Rattle.index_machine.proofs.Executions.{choice-other, choice-same}
use Rattle.index_machine.proofs.OfParts.{group_exists, key_in_part}
use Rattle.index_machine.proofs.OpeningGroups.{opening_keys-rise}
use Rattle.index_machine.proofs.OpeningKeys.{keys_for-other, keys_for-same}
use Rattle.index_machine.proofs.OpeningPlan.{opening_keys-fit, opening_keys-group}
use Rattle.index_machine.proofs.OpeningRows.{GoesOn, goes_on, goes_on-first, index_first, next_other, next_same}
use Rattle.index_machine.proofs.OpeningRows.{opening_role-array, opening_row-key, opening_row-one}
use Rattle.index_machine.proofs.OpeningRows.{seats_apart}
use Rattle.index_machine.specs.Keepers.{IsKeyIn, part_of}
use Rattle.index_machine.specs.OpeningPlan.{keys_for}
use Rattle.index_machine.specs.OpeningRows.{index_behind, opening_keys}
use Rattle.index_machine.specs.OpeningRows.{opening_row, row_from}
use Rattle.index_machine.specs.Openings.{opening_group}
use Rattle.index_machine.specs.RebuildConditions.{HasKeysFrom, IsSized}
use Rattle.index_machine.specs.Rows.{InArray, role, role_of_row}
use Rattle.index_machine.specs.Words.{shape}
use Rattle.index_machine.specs.declared.opening.Opening.{Opening}
use Rattle.machine_arrays.proofs.Lists.{has_keys}
use Rattle.machine_arrays.specs.Arrays.{HasKeyAt, IsBehindSmallerKeys}
use Rattle.map_model.specs.Map.{Map}
use Rattle.word_layout.specs.Addresses.{array_address}
use Rattle.word_layout.specs.Parts.{greatest_key}
use Rattle.word_layout.specs.Shape.{Shape, group_total}

-- ---- addresses ----

-- places with different indices are different
pub one_index : (s : Shape) (g i j : ℕ) → array_address s g i ≡ array_address s g j → i ≡ j
one_index s g i j e = omega (arith, e)

-- ---- rows that go on ----

none_row : {X : Type 0} {r : ℕ × ℕ} → None ≡ Some r → X
none_row e = cc

some_row : {r q : ℕ × ℕ} → Some r ≡ Some q → r ≡ q
some_row e = cc

-- of rows that go on behind a group it has none
none_for : (of : ℕ → ℕ) (last g : ℕ) (rows : Map) → g < last →
    AllByRecursion (λ (r : ℕ × ℕ). last ≤ of r.0) rows → keys_for of g rows ≡ []
none_for of last g [] lt all = refl
none_for of last g (q ∷ rs) lt all =
    let first = all.0 in
    keys_for-other of g q rs (λ z. absurd (omega (arith, lt, first, z)))
    ∙ none_for of last g rs lt all.1

-- ---- where a row stands ----

-- where the first of the rows stands, and where those behind it do
module _ (s : Shape) (of : ℕ → ℕ) (last filled g : ℕ) (q : ℕ × ℕ) (rs : Map)
    (on : GoesOn s of last filled (q ∷ rs)) where
  abbrev group : ℕ
  group = of q.0

  abbrev i : ℕ
  i = index_behind last filled group

  abbrev base : ℕ
  base = index_behind last filled g

  abbrev place : ℕ → ℕ
  place n = array_address s g (base + n)

  abbrev Each : List ℕ → Type 0
  Each keys = (n : ℕ) → n < length keys →
      (x : ℕ) × (row_from s of last filled (q ∷ rs) (place n) ≡ Some (slice_index keys n, x))

  abbrev EachBehind : List ℕ → Type 0
  EachBehind keys = (n : ℕ) → n < length keys →
      (x : ℕ) × (row_from s of group (i + 1) rs (array_address s g (index_behind group (i + 1) g + n))
      ≡ Some (slice_index keys n, x))

  -- a row behind the first, which stands elsewhere
  behind : (n j k : ℕ) → array_address s group i ≢ place n → base + n ≡ j →
      (x : ℕ) × (row_from s of group (i + 1) rs (array_address s g j) ≡ Some (k, x)) →
      (x : ℕ) × (row_from s of last filled (q ∷ rs) (place n) ≡ Some (k, x))
  behind n j k other same row = (
    row.0,
    choice-other (array_address s group i) (place n) (Some q) (row_from s of group (i + 1) rs (place n))
        other
        ∙ ap (λ (y : ℕ). row_from s of group (i + 1) rs (array_address s g y)) same
        ∙ row.1,
  )

  -- the first is the group's
  here : group ≡ g → EachBehind (keys_for of g rs) → Each (q.0 ∷ keys_for of g rs)
  here z rest zero lt = (
    q.1,
    choice-same (array_address s group i) (place zero) (Some q)
        (row_from s of group (i + 1) rs (place zero))
        (ap (λ (y : ℕ). array_address s y (index_behind last filled y)) z
        ∙ ap (array_address s g) (omega arith)),
  )
  here z rest (suc m) lt =
      let first : i ≡ base = ap (index_behind last filled) z in
      let next = (next_same of last filled g q rs z).0 in
      let other : array_address s group i ≢ place (suc m) =
      λ e. let bad = one_index s g base (base + suc m)
      (ap (λ (y : ℕ). array_address s y (index_behind last filled y)) (sym z) ∙ e) in
      omega (arith, bad)
      in
      behind (suc m) (index_behind group (i + 1) g + m) (slice_index (keys_for of g rs) m) other
      (omega (arith, first, next)) (rest m (omega (arith, lt)))

  -- the first is another group's
  later : group ≢ g → EachBehind (keys_for of g rs) → Each (keys_for of g rs)
  later differ rest n lt = dite (ℕ_discrete g last)
      (λ (z : g ≡ last).
      let ahead = on.behind.0 in
      let none = ap (λ (y : List ℕ). length y) (none_for of group g rs (omega (arith, z, ahead, differ))
      (goes_on s of last filled q rs on).behind) in
      absurd (omega (arith, none, lt)))
      (λ (apart : g ≢ last).
      let now = choice-other g last filled 0 apart in
      let next = next_other of last filled g q rs differ in
      let room = on.room g in
      let own = next_same of last filled group q rs refl in
      let own_room = on.room group in
      behind n (index_behind group (i + 1) g + n) (slice_index (keys_for of g rs) n)
      (λ e. differ (seats_apart s group g i (base + n) (omega (arith, own.1, own_room))
      (omega (arith, now, next.1, room, lt)) e).0)
      (omega (arith, now, next.0)) (rest n lt))

  rows_step : EachBehind (keys_for of g rs) → Each (keys_for of g (q ∷ rs))
  rows_step rest = dite (ℕ_discrete group g)
      (λ (z : group ≡ g). subst Each (sym (keys_for-same of g q rs z)) (here z rest))
      (λ (n : group ≢ g). subst Each (sym (keys_for-other of g q rs n)) (later n rest))

-- the row of each of a group's keys stands at the index of the key, behind what is filled so far
row_at : (s : Shape) (of : ℕ → ℕ) (last filled g : ℕ) (rows : Map) → GoesOn s of last filled rows →
    (n : ℕ) → n < length (keys_for of g rows) →
    (x : ℕ) × (row_from s of last filled rows (array_address s g (index_behind last filled g + n))
    ≡ Some (slice_index (keys_for of g rows) n, x))
row_at s of last filled g [] on = λ n lt. absurd (omega (arith, lt))
row_at s of last filled g (q ∷ rs) on =
    rows_step s of last filled g q rs on
    (row_at s of (of q.0) (index_behind last filled (of q.0) + 1) g rs (goes_on s of last filled q rs on))

-- a row's key is one of its group's
key_of_row : (s : Shape) (of : ℕ → ℕ) (last filled : ℕ) (rows : Map) (place k x : ℕ) →
    row_from s of last filled rows place ≡ Some (k, x) →
    (n : ℕ) × (n < length (keys_for of (of k) rows)) × (slice_index (keys_for of (of k) rows) n ≡ k)
key_of_row s of last filled [] place k x e = none_row e
key_of_row s of last filled (q ∷ rs) place k x e =
    go (array_address s group (index_behind last filled group) == place) e
    (key_of_row s of group (index_behind last filled group + 1) rs place k x)
  where
    group : ℕ
    group = of q.0

    g : ℕ
    g = of k

    Has : List ℕ → Type 0
    Has keys = (n : ℕ) × (n < length keys) × (slice_index keys n ≡ k)

    kept : Has (keys_for of g rs) → Has (keys_for of g (q ∷ rs))
    kept has = dite (ℕ_discrete group g)
        (λ (z : group ≡ g).
        subst Has (sym (keys_for-same of g q rs z))
        (let lt = has.1 in (suc has.0, omega (arith, lt), has.2)))
        (λ (n : group ≢ g). subst Has (sym (keys_for-other of g q rs n)) has)

    go : (w : Bool) →
        cond w (Some q) (row_from s of group (index_behind last filled group + 1) rs place)
        ≡ Some (k, x) →
        (row_from s of group (index_behind last filled group + 1) rs place ≡ Some (k, x) →
        Has (keys_for of g rs)) →
        Has (keys_for of g (q ∷ rs))
    go true e rest =
        let same : q.0 ≡ k = ap (λ (r : ℕ × ℕ). r.0) (some_row e) in
        subst Has (sym (keys_for-same of g q rs (ap of same))) (0, omega arith, same)
    go false e rest = kept (rest e)

-- ---- the arrays ----

-- what stands in an array at the opening
pub record IsOpenedAt (o : Opening) (g k p : ℕ) : Type 0 where
  pub index : ℕ
  pub below : index < length (opening_keys o g)
  pub at : p ≡ array_address (shape o) g index
  pub is : slice_index (opening_keys o g) index ≡ k

-- the row of a group's key
opened_row : (o : Opening) (g n : ℕ) → n < length (opening_keys o g) →
    (x : ℕ) × (opening_row o (array_address (shape o) g n)
    ≡ Some (slice_index (opening_keys o g) n, x))
opened_row o g n lt =
    let row = row_at (shape o) (opening_group o) 0 0 g o.rows (goes_on-first o) n lt in
    let first = index_first g in
    let same : n ≡ index_behind 0 0 g + n = omega (arith, first) in
    (row.0, ap (λ (y : ℕ). opening_row o (array_address (shape o) g y)) same ∙ row.1)

opened_at : (o : Opening) (g n : ℕ) → n < length (opening_keys o g) →
    HasKeyAt o g n (slice_index (opening_keys o g) n) []
opened_at o g n lt =
    let key : ℕ = slice_index (opening_keys o g) n in
    ap (role_of_row o) (opened_row o g n lt).1
    ∙ ap (λ (y : ℕ). InArray y key) (opening_keys-group o g n lt).0

pub opened_index : (o : Opening) (g k p : ℕ) → role o p [] ≡ InArray g k → IsOpenedAt o g k p
opened_index o g k p e =
    let a = opening_role-array o p g k e in
    let found = key_of_row (shape o) (opening_group o) 0 0 o.rows p k a.1 a.2 in
    let w = subst (λ (y : ℕ). (n : ℕ) × (n < length (opening_keys o y))
    × (slice_index (opening_keys o y) n ≡ k)) (sym a.0) found in
    let row = opened_row o g w.0 w.1 in
    let here : opening_row o (array_address (shape o) g w.0) ≡ Some (k, row.0) =
    row.1 ∙ ap (λ (y : ℕ). Some (y, row.0)) w.2 in
    record {
      index = w.0;
      below = w.1;
      at = opening_row-one o p (array_address (shape o) g w.0) k a.1 row.0 a.2 here;
      is = w.2;
    }

-- the places are in order
pub opened_in_order : (o : Opening) (g k p : ℕ) → role o p [] ≡ InArray g k →
    IsBehindSmallerKeys o g k p []
opened_in_order o g k p e =
    let w = opened_index o g k p e in
    let most = opening_keys-fit o g in
    let below = w.below in
    record {
      index = w.index;
      in_array = omega (arith, most, below);
      at = w.at;
      smaller = λ i lt.
          let up = AllPairs-from_increasing (opening_keys o g) (opening_keys-rise o g).rising i w.index 0
          lt w.below in
          let is = w.is in (
            slice_index (opening_keys o g) i,
            opened_at o g i (omega (arith, lt, below)),
            omega (arith, up, is),
          );
    }

-- they are keys of the group's part, in a group of the table
pub opened_key : (o : Opening) (g k p : ℕ) → role o p [] ≡ InArray g k →
    (g < group_total (shape o)) × (k ≤ greatest_key) × IsKeyIn o (part_of o g) k
opened_key o g k p e =
    let a = opening_role-array o p g k e in
    let key = opening_row-key o p k a.1 a.2 in
    let small : k ≤ greatest_key = omega (arith, key) in
    let exists = group_exists o [] k tt small in (
      subst (λ (y : ℕ). y < group_total (shape o)) (sym a.0) exists,
      small,
      subst (λ (y : ℕ). IsKeyIn o (part_of o y) k) (sym a.0) (key_in_part o [] k tt exists),
    )

-- for which this group answers
pub opened_owned : (o : Opening) (g k p : ℕ) → role o p [] ≡ InArray g k → opening_group o k ≡ g
opened_owned o g k p e = sym (opening_role-array o p g k e).0

-- ---- sizes ----

pub opened_keys : (o : Opening) (g : ℕ) → HasKeysFrom o g 0 (opening_keys o g) []
opened_keys o g = has_keys o g (opening_keys o g) []
    (λ n lt. opened_at o g n lt)
    (λ k at.
    let many : ℕ = length (opening_keys o g) in
    let w = opened_index o g k (array_address (shape o) g many) at in
    let below = w.below in
    let same = one_index (shape o) g many w.index w.at in
    absurd (omega (arith, below, same)))

-- the words are those of the keys of each array
pub opened_sized : (o : Opening) (g : ℕ) → IsSized o g []
opened_sized o g = record {
  keys = opening_keys o g;
  array = opened_keys o g;
  size = refl;
  error = refl;
}
