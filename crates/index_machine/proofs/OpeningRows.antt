-- The rows of the opening: where each stands, and that no two have one key.
use Rattle.std.proofs.Common.{◌≡◌, ◌≢◌, ℕ, ◌+◌, ◌-◌, ◌*◌, ◌/◌, ◌^◌, ◌<◌, ◌≤◌, Option, Some, None, Bool, true}
use Rattle.std.proofs.Common.{false, cond, List, [], ◌∷◌, length, refl, sym, ap, ◌∙◌, subst, arith}
use Rattle.std.specs.Prelude.{◌==◌}
use Rattle.std.specs.List.{AllByRecursion}
use mathlib.Core.Logic.{dite}
use native.Mathlib.Decide.{ℕ_discrete}
use Rattle.map_model.specs.Map.{Map, IsRising, look}
use Rattle.word_layout.specs.Headers.{header_words}
use Rattle.word_layout.specs.Limits.{group_words_of}
use Rattle.word_layout.specs.Shape.{Shape, group_total}
use Rattle.std.proofs.lemmas.Nat.{div-mul-add}
use Rattle.word_layout.specs.Addresses.{array_address}
use Rattle.word_layout.specs.Places.{IsRow, IsArrayPlace}
use Rattle.word_layout.proofs.WordNames.{array_inside}
use Rattle.index_machine.specs.declared.opening.Opening.{Opening}
use Rattle.index_machine.specs.Words.{shape, limits}
use Rattle.index_machine.specs.OpeningPlan.{keys_for}
use Rattle.index_machine.specs.OpeningRows.{row_from, place_from, opening_row, index_behind}
use Rattle.index_machine.specs.Forms.{Unlocked, Redirect}
use Rattle.index_machine.specs.Openings.{first_version, form_of_row, opening_form}
use Rattle.index_machine.specs.Openings.{opening_live_place, opening_group}
use Rattle.index_machine.specs.Rows.{Unused, HeldBy, InArray, InBuffer, role_key, role_of_row}
use Rattle.index_machine.specs.Rows.{opening_role}
use Rattle.index_machine.specs.Keepers.{IsArrayPlaceOf}
use Rattle.index_machine.proofs.Executions.{choice-same, choice-other}
use Rattle.index_machine.proofs.Options.{none_some}
use Rattle.index_machine.proofs.OpeningKeys.{every_row, from_all, keys_for-other, keys_for-same}
use Rattle.index_machine.proofs.OpeningPlan.{opening_group-exists, opening_group-monotone, opening_keys-fit}

-- ---- where rows stand ----

some_row : {r q : ℕ × ℕ} → Some r ≡ Some q → r ≡ q
some_row e = cc

no_row : {X : Type 0} {r : ℕ × ℕ} → None ≡ Some r → X
no_row e = cc

some_place : {p q : ℕ} → Some p ≡ Some q → p ≡ q
some_place e = cc

-- the rows go on behind those that fill this group's array so far: they rise, no group is an earlier one, and each
-- array has room for what fills it so far and for the group's rows among these
pub record GoesOn (s : Shape) (of : ℕ → ℕ) (last filled : ℕ) (rows : Map) : Type 0 where
  pub monotone : (j k : ℕ) → j ≤ k → of j ≤ of k
  pub rising : IsRising rows
  pub behind : AllByRecursion (λ (r : ℕ × ℕ). last ≤ of r.0) rows
  pub room : (g : ℕ) → index_behind last filled g + length (keys_for of g rows) ≤ s.limits.group_size

-- behind a first row its group's array has one row more, and of the group's keys one less is left
pub next_same : (of : ℕ → ℕ) (last filled g : ℕ) (q : ℕ × ℕ) (rows : Map) → of q.0 ≡ g →
    (index_behind (of q.0) (index_behind last filled (of q.0) + 1) g ≡ index_behind last filled g + 1)
    × (length (keys_for of g (q ∷ rows)) ≡ length (keys_for of g rows) + 1)
next_same of last filled g q rows same =
    let now = choice-same g (of q.0) (index_behind last filled (of q.0) + 1) 0 (sym same) in
    let was = ap (index_behind last filled) same in
    let keys = ap (λ (z : List ℕ). length z) (keys_for-same of g q rows same) in
    (omega (arith, now, was), omega (arith, keys))

-- that of any other group begins
pub next_other : (of : ℕ → ℕ) (last filled g : ℕ) (q : ℕ × ℕ) (rows : Map) → of q.0 ≢ g →
    (index_behind (of q.0) (index_behind last filled (of q.0) + 1) g ≡ 0)
    × (length (keys_for of g (q ∷ rows)) ≡ length (keys_for of g rows))
next_other of last filled g q rows other = (
  choice-other g (of q.0) (index_behind last filled (of q.0) + 1) 0 (λ e. other (sym e)),
  ap (λ (z : List ℕ). length z) (keys_for-other of g q rows other),
)

pub goes_on : (s : Shape) (of : ℕ → ℕ) (last filled : ℕ) (q : ℕ × ℕ) (rows : Map) →
    GoesOn s of last filled (q ∷ rows) → GoesOn s of (of q.0) (index_behind last filled (of q.0) + 1) rows
goes_on s of last filled q rows on = record {
  monotone = on.monotone;
  rising = on.rising.1;
  behind = from_all (λ (r : ℕ × ℕ). q.0 < r.0) (λ (r : ℕ × ℕ). of q.0 ≤ of r.0) rows
      (λ r less. on.monotone q.0 r.0 (omega arith)) on.rising.0;
  room = λ g.
      let fits = on.room g in
      dite (ℕ_discrete (of q.0) g)
      (λ (same : of q.0 ≡ g).
      let next = next_same of last filled g q rows same in omega (arith, fits, next.0, next.1))
      (λ (other : of q.0 ≢ g).
      let next = next_other of last filled g q rows other in omega (arith, fits, next.0, next.1));
}

-- an array is filled from index 0 on
pub index_first : (g : ℕ) → index_behind 0 0 g ≡ 0
index_first g = go (g == 0)
  where
    go : (w : Bool) → cond {A = ℕ} w 0 0 ≡ 0
    go true = refl
    go false = refl

pub goes_on-first : (o : Opening) → GoesOn (shape o) (opening_group o) 0 0 o.rows
goes_on-first o = record {
  monotone = opening_group-monotone o;
  rising = o.rising;
  behind = every_row (λ (r : ℕ × ℕ). 0 ≤ opening_group o r.0) o.rows (λ r. omega arith);
  room = λ g. let first = index_first g in let fit = opening_keys-fit o g in omega (arith, first, fit);
}

-- the place is that with this index in the array of this group: behind what fills it already, and among as many as
-- the group has rows among these
pub record IsSeat (s : Shape) (of : ℕ → ℕ) (last filled : ℕ) (rows : Map) (group place : ℕ) : Type 0 where
  pub index : ℕ
  pub is : place ≡ array_address s group index
  pub below : index < index_behind last filled group + length (keys_for of group rows)
  pub behind : index_behind last filled group ≤ index

-- the seat of the first row
seat_here : (s : Shape) (of : ℕ → ℕ) (last filled : ℕ) (q : ℕ × ℕ) (rows : Map) (place : ℕ) →
    array_address s (of q.0) (index_behind last filled (of q.0)) ≡ place →
    IsSeat s of last filled (q ∷ rows) (of q.0) place
seat_here s of last filled q rows place here =
    let next = next_same of last filled (of q.0) q rows refl in
    record {
      index = index_behind last filled (of q.0);
      is = sym here;
      below = omega (arith, next.1);
      behind = omega arith;
    }

-- the seat of a later one
seat_later : (s : Shape) (of : ℕ → ℕ) (last filled : ℕ) (q : ℕ × ℕ) (rows : Map) (group place : ℕ) →
    last ≤ of q.0 → of q.0 ≤ group →
    IsSeat s of (of q.0) (index_behind last filled (of q.0) + 1) rows group place →
    IsSeat s of last filled (q ∷ rows) group place
seat_later s of last filled q rows group place low high seat =
    dite (ℕ_discrete (of q.0) group)
    (λ (same : of q.0 ≡ group).
    let next = next_same of last filled group q rows same in
    record {
      index = seat.index;
      is = seat.is;
      below = omega (arith, seat.below, next.0, next.1);
      behind = omega (arith, seat.behind, next.0);
    })
    (λ (other : of q.0 ≢ group).
    let next = next_other of last filled group q rows other in
    let begins = choice-other group last filled 0 (λ e. other (omega arith)) in
    record {
      index = seat.index;
      is = seat.is;
      below = omega (arith, seat.below, next.0, next.1, begins);
      behind = omega (arith, begins);
    })

-- what all rows keep, the row at a place keeps
pub row_from-all : (P : ℕ × ℕ → Type 0) (s : Shape) (of : ℕ → ℕ) (last filled : ℕ) (rows : Map) (place : ℕ)
    (r : ℕ × ℕ) → AllByRecursion P rows → row_from s of last filled rows place ≡ Some r → P r
row_from-all P s of last filled [] place r all e = no_row e
row_from-all P s of last filled (q ∷ rows) place r all e =
    let group : ℕ = of q.0 in
    let i : ℕ = index_behind last filled group in
    let at : ℕ = array_address s group i in
    let later : Option (ℕ × ℕ) = row_from s of group (i + 1) rows place in
    dite (ℕ_discrete at place)
    (λ (here : at ≡ place).
    subst P (some_row (sym (choice-same at place (Some q) later here) ∙ e)) all.0)
    (λ (apart : at ≢ place).
    row_from-all P s of group (i + 1) rows place r all.1
    (sym (choice-other at place (Some q) later apart) ∙ e))

pub row_from-place : (s : Shape) (of : ℕ → ℕ) (last filled : ℕ) (rows : Map) (place : ℕ) (r : ℕ × ℕ) →
    GoesOn s of last filled rows → row_from s of last filled rows place ≡ Some r →
    IsSeat s of last filled rows (of r.0) place
row_from-place s of last filled [] place r on e = no_row e
row_from-place s of last filled (q ∷ rows) place r on e =
    let group : ℕ = of q.0 in
    let i : ℕ = index_behind last filled group in
    let at : ℕ = array_address s group i in
    let later : Option (ℕ × ℕ) = row_from s of group (i + 1) rows place in
    dite (ℕ_discrete at place)
    (λ (here : at ≡ place).
    let same : q ≡ r = some_row (sym (choice-same at place (Some q) later here) ∙ e) in
    subst (λ (p : ℕ × ℕ). IsSeat s of last filled (q ∷ rows) (of p.0) place) same
    (seat_here s of last filled q rows place here))
    (λ (apart : at ≢ place).
    let before : later ≡ Some r = sym (choice-other at place (Some q) later apart) ∙ e in
    let next = goes_on s of last filled q rows on in
    seat_later s of last filled q rows (of r.0) place on.behind.0
    (row_from-all (λ (p : ℕ × ℕ). group ≤ of p.0) s of group (i + 1) rows place r
    next.behind before)
    (row_from-place s of group (i + 1) rows place r next before))

-- the place of a row is that of its key
pub place_of_row : (s : Shape) (of : ℕ → ℕ) (last filled : ℕ) (rows : Map) (place : ℕ) (r : ℕ × ℕ) →
    IsRising rows → row_from s of last filled rows place ≡ Some r →
    place_from s of last filled rows r.0 ≡ Some place
place_of_row s of last filled [] place r rising e = no_row e
place_of_row s of last filled (q ∷ rows) place r rising e =
    let group : ℕ = of q.0 in
    let i : ℕ = index_behind last filled group in
    let at : ℕ = array_address s group i in
    let later : Option (ℕ × ℕ) = row_from s of group (i + 1) rows place in
    let further : Option ℕ = place_from s of group (i + 1) rows r.0 in
    dite (ℕ_discrete at place)
    (λ (here : at ≡ place).
    let same : q ≡ r = some_row (sym (choice-same at place (Some q) later here) ∙ e) in
    choice-same q.0 r.0 (Some at) further (ap (λ (p : ℕ × ℕ). p.0) same)
    ∙ ap (λ (p : ℕ). Some p) here)
    (λ (apart : at ≢ place).
    let before : later ≡ Some r = sym (choice-other at place (Some q) later apart) ∙ e in
    let less : q.0 < r.0 =
    row_from-all (λ (p : ℕ × ℕ). q.0 < p.0) s of group (i + 1) rows place r rising.0 before in
    choice-other q.0 r.0 (Some at) further (λ same. absurd (omega arith))
    ∙ place_of_row s of group (i + 1) rows place r rising.1 before)

-- the key that has a place is that of one of the rows
key_of_place : (P : ℕ → Type 0) (s : Shape) (of : ℕ → ℕ) (last filled : ℕ) (rows : Map) (k place : ℕ) →
    AllByRecursion (λ (r : ℕ × ℕ). P r.0) rows → place_from s of last filled rows k ≡ Some place → P k
key_of_place P s of last filled [] k place all e = none_some e
key_of_place P s of last filled (q ∷ rows) k place all e =
    let group : ℕ = of q.0 in
    let i : ℕ = index_behind last filled group in
    let at : ℕ = array_address s group i in
    let further : Option ℕ = place_from s of group (i + 1) rows k in
    dite (ℕ_discrete q.0 k)
    (λ (here : q.0 ≡ k). subst P here all.0)
    (λ (apart : q.0 ≢ k).
    key_of_place P s of group (i + 1) rows k place all.1
    (sym (choice-other q.0 k (Some at) further apart) ∙ e))

pub place_from-place : (s : Shape) (of : ℕ → ℕ) (last filled : ℕ) (rows : Map) (k place : ℕ) → GoesOn s of last filled rows →
    place_from s of last filled rows k ≡ Some place →
    IsSeat s of last filled rows (of k) place
place_from-place s of last filled [] k place on e = none_some e
place_from-place s of last filled (q ∷ rows) k place on e =
    let group : ℕ = of q.0 in
    let i : ℕ = index_behind last filled group in
    let at : ℕ = array_address s group i in
    let further : Option ℕ = place_from s of group (i + 1) rows k in
    dite (ℕ_discrete q.0 k)
    (λ (here : q.0 ≡ k).
    subst (λ (j : ℕ). IsSeat s of last filled (q ∷ rows) (of j) place) here
    (seat_here s of last filled q rows place
    (some_place (sym (choice-same q.0 k (Some at) further here) ∙ e))))
    (λ (apart : q.0 ≢ k).
    let before : further ≡ Some place = sym (choice-other q.0 k (Some at) further apart) ∙ e in
    let next = goes_on s of last filled q rows on in
    seat_later s of last filled q rows (of k) place on.behind.0
    (key_of_place (λ (j : ℕ). group ≤ of j) s of group (i + 1) rows k place next.behind
    before)
    (place_from-place s of group (i + 1) rows k place next before))

-- places of arrays are apart: one has one group and one index
pub seats_apart : (s : Shape) (group other i j : ℕ) → i < s.limits.group_size →
    j < s.limits.group_size → array_address s group i ≡ array_address s other j →
    (group ≡ other) × (i ≡ j)
seats_apart s group other i j small least e =
    let width : ℕ = group_words_of s.limits in
    let one : (group * width + (header_words + 4 * i)) / width ≡ group =
    div-mul-add group width (header_words + 4 * i) (omega arith)
    in
    let two : (other * width + (header_words + 4 * j)) / width ≡ other =
    div-mul-add other width (header_words + 4 * j) (omega arith)
    in
    let same : group * width + (header_words + 4 * i) ≡ other * width + (header_words + 4 * j) =
    omega arith
    in
    let groups : group ≡ other = sym one ∙ ap (λ (n : ℕ). n / width) same ∙ two in
    let words : group * width ≡ other * width = ap (λ (g : ℕ). g * width) groups in
    (groups, omega arith)

-- at the place of a key stands the key's row, with the value that it has in the map
pub row_of_place : (s : Shape) (of : ℕ → ℕ) (last filled : ℕ) (rows : Map) (k place : ℕ) → GoesOn s of last filled rows →
    place_from s of last filled rows k ≡ Some place →
    (x : ℕ) × (row_from s of last filled rows place ≡ Some (k, x)) × (look rows k ≡ Some x)
unfolding look
row_of_place s of last filled [] k place on e = none_some e
row_of_place s of last filled (q ∷ rows) k place on e =
    let group : ℕ = of q.0 in
    let i : ℕ = index_behind last filled group in
    let at : ℕ = array_address s group i in
    let later : Option (ℕ × ℕ) = row_from s of group (i + 1) rows place in
    let further : Option ℕ = place_from s of group (i + 1) rows k in
    dite (ℕ_discrete q.0 k)
    (λ (here : q.0 ≡ k). (
      q.1,
      choice-same at place (Some q) later
          (some_place (sym (choice-same q.0 k (Some at) further here) ∙ e))
          ∙ ap (λ (j : ℕ). Some (j, q.1)) here,
      choice-same q.0 k (Some q.1) (look rows k) here,
    ))
    (λ (apart : q.0 ≢ k).
    let before : further ≡ Some place = sym (choice-other q.0 k (Some at) further apart) ∙ e in
    let next = goes_on s of last filled q rows on in
    let w = row_of_place s of group (i + 1) rows k place next before in
    let seat = place_from-place s of group (i + 1) rows k place next before in
    let first = next_same of last filled group q rows refl in
    let elsewhere : at ≢ place = λ same.
    let one =
    seats_apart s group (of k) i seat.index (omega (arith, on.room group, first.1))
    (omega (arith, next.room (of k), seat.below)) (same ∙ seat.is)
    in
    let index : i ≡ index_behind last filled (of k) = ap (index_behind last filled) one.0 in
    let behind = next_same of last filled (of k) q rows one.0 in
    absurd (omega (arith, index, behind.0, seat.behind, one.1))
    in (
      w.0,
      choice-other at place (Some q) later elsewhere ∙ w.1,
      choice-other q.0 k (Some q.1) (look rows k) apart ∙ w.2,
    ))

-- a key without a place is not in the map
pub key_without_place : (s : Shape) (of : ℕ → ℕ) (last filled : ℕ) (rows : Map) (k : ℕ) →
    place_from s of last filled rows k ≡ None → look rows k ≡ None
unfolding look
key_without_place s of last filled [] k e = refl
key_without_place s of last filled (q ∷ rows) k e =
    let group : ℕ = of q.0 in
    let i : ℕ = index_behind last filled group in
    let at : ℕ = array_address s group i in
    let further : Option ℕ = place_from s of group (i + 1) rows k in
    dite (ℕ_discrete q.0 k)
    (λ (here : q.0 ≡ k). none_some (sym e ∙ choice-same q.0 k (Some at) further here))
    (λ (apart : q.0 ≢ k).
    choice-other q.0 k (Some q.1) (look rows k) apart
    ∙ key_without_place s of group (i + 1) rows k (sym (choice-other q.0 k (Some at) further apart) ∙ e))

-- ---- the places of the rows ----

pub array_not_row : (s : Shape) (group place : ℕ) → group < group_total s →
    IsArrayPlace s group place → IsRow s place → ⊥
array_not_row s group place known array row =
    let inside = array_inside s group place 0 known array (omega arith) in
    let low = row.0 in let k : ℕ = place - array_address s group 0 in
    let where_it_is = inside.2 in let high = inside.1 in omega arith

-- the key of a row is one of 64 bits
pub opening_row-key : (o : Opening) (place k x : ℕ) → opening_row o place ≡ Some (k, x) →
    k < 2 ^ 64
opening_row-key o place k x e =
    row_from-all (λ (r : ℕ × ℕ). r.0 < 2 ^ 64) (shape o) (opening_group o) 0 0 o.rows place (k, x) o.keys e

-- it stands in the array of its group
pub opening_row-place : (o : Opening) (place : ℕ) (r : ℕ × ℕ) → opening_row o place ≡ Some r →
    IsArrayPlaceOf o (opening_group o r.0) place
opening_row-place o place r e =
    let on = goes_on-first o in
    let seat = row_from-place (shape o) (opening_group o) 0 0 o.rows place r on e in
    let group : ℕ = opening_group o r.0 in
    let is : place ≡ array_address (shape o) group seat.index = seat.is in
    let room = on.room group in
    let below : seat.index < (limits o).group_size = omega (arith, room, seat.below) in
    let small : r.0 < 2 ^ 64 = opening_row-key o place r.0 r.1 e in
    record {
      group_exists = opening_group-exists o r.0 (omega arith);
      in_array = (omega arith, omega arith, omega arith);
    }

-- its place is that of its key
pub opening_row-live : (o : Opening) (place k x : ℕ) → opening_row o place ≡ Some (k, x) →
    opening_live_place o k ≡ Some place
opening_row-live o place k x e = place_of_row (shape o) (opening_group o) 0 0 o.rows place (k, x) o.rising e

-- the live place of a key has its row
pub opening_live-row : (o : Opening) (k place : ℕ) → opening_live_place o k ≡ Some place →
    (x : ℕ) × (opening_row o place ≡ Some (k, x)) × (look o.rows k ≡ Some x)
opening_live-row o k place e =
    row_of_place (shape o) (opening_group o) 0 0 o.rows k place (goes_on-first o) e

-- a key without a live place is not in the map
pub opening_live-none : (o : Opening) (k : ℕ) → opening_live_place o k ≡ None → look o.rows k ≡ None
opening_live-none o k e = key_without_place (shape o) (opening_group o) 0 0 o.rows k e

-- so no two rows have one key
pub opening_row-one : (o : Opening) (place other k x y : ℕ) → opening_row o place ≡ Some (k, x) →
    opening_row o other ≡ Some (k, y) → place ≡ other
opening_row-one o place other k x y e f =
    some_place (sym (opening_row-live o place k x e) ∙ opening_row-live o other k y f)

-- ---- whose a place is at the opening ----

-- a place with a key has the key's row
pub opening_role-keyed : (o : Opening) (place k : ℕ) → role_key (opening_role o place) ≡ Some k →
    (x : ℕ) × (opening_row o place ≡ Some (k, x))
opening_role-keyed o place k e = go (opening_row o place) e
  where
    go : (r : Option (ℕ × ℕ)) → role_key (role_of_row o r) ≡ Some k → (x : ℕ) × (r ≡ Some (k, x))
    go None e = none_some e
    go (Some r) e = (r.1, ap (λ (j : ℕ). Some (j, r.1)) (some_place e))

-- it is in the array of the group of its key
pub opening_role-array : (o : Opening) (place group k : ℕ) →
    opening_role o place ≡ InArray group k →
    (group ≡ opening_group o k) × (x : ℕ) × (opening_row o place ≡ Some (k, x))
opening_role-array o place group k e =
    let keyed = opening_role-keyed o place k (ap role_key e) in
    (of_group (opening_row o place) e, keyed.0, keyed.1)
  where
    in_array : {g h j i : ℕ} → InArray g j ≡ InArray h i → (g ≡ h) × (j ≡ i)
    in_array e = (cc, cc)

    of_group : (r : Option (ℕ × ℕ)) → role_of_row o r ≡ InArray group k →
        group ≡ opening_group o k
    of_group None e = let bad = e in cc
    of_group (Some r) e =
        let same = in_array e in
        sym same.0 ∙ ap (opening_group o) same.1

pub opening_role-buffer : {X : Type 0} (o : Opening) (place group k : ℕ) →
    opening_role o place ≡ InBuffer group k → X
opening_role-buffer {X} o place group k e = go (opening_row o place) e
  where
    go : (r : Option (ℕ × ℕ)) → role_of_row o r ≡ InBuffer group k → X
    go None e = let bad = e in cc
    go (Some r) e = let bad = e in cc

pub opening_role-held : {X : Type 0} (o : Opening) (place hand : ℕ) →
    opening_role o place ≡ HeldBy hand → X
opening_role-held {X} o place hand e = go (opening_row o place) e
  where
    go : (r : Option (ℕ × ℕ)) → role_of_row o r ≡ HeldBy hand → X
    go None e = let bad = e in cc
    go (Some r) e = let bad = e in cc

-- a record row is nobody's
pub opening_role-row : (o : Opening) (place : ℕ) → IsRow (shape o) place →
    opening_role o place ≡ Unused
opening_role-row o place row = go (opening_row o place) refl
  where
    go : (r : Option (ℕ × ℕ)) → opening_row o place ≡ r → role_of_row o r ≡ Unused
    go None e = refl
    go (Some r) e =
        let array = opening_row-place o place r e in
        absurd (array_not_row (shape o) (opening_group o r.0) place array.group_exists array.in_array row)

-- ---- what a place holds at the opening ----

-- a place with a key holds its record, in the first version
pub opening_form-keyed : (o : Opening) (place k : ℕ) → role_key (opening_role o place) ≡ Some k →
    (x : ℕ) × (opening_form o place ≡ Unlocked (first_version o) false x)
opening_form-keyed o place k e =
    let row = opening_role-keyed o place k e in
    (row.0, ap (form_of_row (first_version o)) row.1)

-- no place forwards
pub opening_form-redirect : {X : Type 0} (o : Opening) (place to value : ℕ) →
    opening_form o place ≡ Redirect to value → X
opening_form-redirect {X} o place to value e = go (opening_row o place) e
  where
    go : (r : Option (ℕ × ℕ)) → form_of_row (first_version o) r ≡ Redirect to value → X
    go None e = let bad = e in cc
    go (Some r) e = let bad = e in cc
