-- The keys of an array as a list: it rises, fits, and is whole.
use Rattle.std.proofs.Common.{◌≡◌, ◌≢◌, ℕ, zero, suc, ◌+◌, ◌-◌, ◌<◌, ◌≤◌, ◌⊎◌, inl, inr, ⊎_elim}
use Rattle.std.proofs.Common.{Option, Some, None, true, List, [], length, refl, sym, ap, ◌∙◌, subst}
use Rattle.std.proofs.Common.{arith}
use Rattle.std.specs.Prelude.{slice_index}
use mathlib.Core.Logic.{dite}
use native.Mathlib.Decide.{ℕ_discrete}
use Rattle.index_machine.proofs.Executions.{choice-other, choice-same}
use Rattle.index_machine.proofs.Placing.{placed}
use Rattle.index_machine.proofs.RepresentingAll.{represented}
use Rattle.index_machine.specs.Conditions.{Valid}
use Rattle.index_machine.specs.Execution.{Execution}
use Rattle.index_machine.specs.RebuildConditions.{HasKeysFrom}
use Rattle.index_machine.specs.Reaching.{stands_in}
use Rattle.index_machine.specs.Sections.{IsReading}
use Rattle.index_machine.specs.Keepers.{IsGroupKeeper}
use Rattle.index_machine.specs.Rows.{HeldBy, InArray, InBuffer, Role, Unused, role, role_key}
use Rattle.index_machine.specs.Words.{limits, shape}
use Rattle.index_machine.specs.declared.opening.Opening.{Opening}
use Rattle.machine_arrays.proofs.Lists.{at_end, at_index, at_same, one_key, one_list}
use Rattle.machine_arrays.proofs.Opened.{one_index}
use Rattle.machine_arrays.proofs.Places.{in_order, keys_rise}
use Rattle.machine_arrays.specs.Arrays.{ArraysHaveTheirKeys, GapsOfListsHaveNoPlace, HasKeyAt}
use Rattle.machine_arrays.specs.Arrays.{KeysOfListsMayBeLoaded, ListsOfKeysAreWhole, ListsOfKeysFit}
use Rattle.machine_arrays.specs.Arrays.{ListsOfKeysRise, array_keys, behind_key, key_in_array}
use Rattle.machine_arrays.specs.Arrays.{keys_from}
use Rattle.machine_chain.proofs.Cases.{le_or_lt}
use Rattle.word_layout.specs.Addresses.{array_address}

-- an index at which a key stands is one of the array
index_fits : (o : Opening) (t : Execution) (g i k : ℕ) → Valid o t → HasKeyAt o g i k t →
    i < (limits o).group_size
index_fits o t g i k valid at =
    let w = in_order o t valid g k (array_address (shape o) g i) at in
    let same = one_index (shape o) g i w.index w.at in
    let lt = w.in_array in
    omega (arith, same, lt)

-- and so has each before it
pub before_has : (o : Opening) (t : Execution) (g i j k : ℕ) → Valid o t → HasKeyAt o g j k t → i ≤ j →
    (m : ℕ) × HasKeyAt o g i m t
before_has o t g i j k valid at le = dite (ℕ_discrete j i)
    (λ (z : j ≡ i). (k, at_same o g j i k t z at))
    (λ (n : j ≢ i).
    let w = in_order o t valid g k (array_address (shape o) g j) at in
    let same = one_index (shape o) g j w.index w.at in
    let s = w.smaller i (omega (arith, le, n, same)) in
    (s.0, s.1))

-- ---- there is a list ----

-- a place is in the array of the group, or has no key there
key_or_none : (g : ℕ) (r : Role) →
    ((k : ℕ) × (r ≡ InArray g k) × (key_in_array g r ≡ Some k))
    ⊎ (((k : ℕ) → r ≢ InArray g k) × (key_in_array g r ≡ None))
key_or_none g Unused = inr ((λ k e. let bad = e in cc), refl)
key_or_none g (HeldBy c) = inr ((λ k e. let bad = e in cc), refl)
key_or_none g (InBuffer h j) = inr ((λ k e. let bad = e in cc), refl)
key_or_none g (InArray h j) = dite (ℕ_discrete h g)
    (λ (z : h ≡ g). inl (j, ap (λ (y : ℕ). InArray y j) z, choice-same h g (Some j) None z))
    (λ (n : h ≢ g). inr ((λ k e. n (group_is e)), choice-other h g (Some j) None n))
  where
    group_is : {a b x y : ℕ} → InArray a x ≡ InArray b y → a ≡ b
    group_is e = cc

-- behind an index without a key are no keys
none_behind : (o : Opening) (t : Execution) (g : ℕ) → Valid o t → (more i j : ℕ) → i ≤ j →
    ((k : ℕ) → HasKeyAt o g i k t → ⊥) → keys_from o g j more t ≡ []
none_behind o t g valid zero i j le none = refl
none_behind o t g valid (suc more) i j le none = ⊎_elim
    (λ (z : (k : ℕ) × HasKeyAt o g j k t
    × (key_in_array g (role o (array_address (shape o) g j) t) ≡ Some k)).
    let m = before_has o t g i j z.0 valid z.1 le in absurd (none m.0 m.1))
    (λ (z : ((k : ℕ) → role o (array_address (shape o) g j) t ≢ InArray g k)
    × (key_in_array g (role o (array_address (shape o) g j) t) ≡ None)).
    ap (λ (y : Option ℕ). behind_key y (keys_from o g (j + 1) more t)) z.1
    ∙ none_behind o t g valid more i (j + 1) (omega (arith, le)) none)
    (key_or_none g (role o (array_address (shape o) g j) t))

has_from : (o : Opening) (t : Execution) (g : ℕ) → Valid o t → (more i : ℕ) →
    i + more ≡ (limits o).group_size → HasKeysFrom o g i (keys_from o g i more t) t
has_from o t g valid zero i e =
    λ k at. let lt = index_fits o t g i k valid at in absurd (omega (arith, e, lt))
has_from o t g valid (suc more) i e = ⊎_elim
    (λ (z : (k : ℕ) × HasKeyAt o g i k t
    × (key_in_array g (role o (array_address (shape o) g i) t) ≡ Some k)).
    subst (λ (y : List ℕ). HasKeysFrom o g i y t)
    (sym (ap (λ (y : Option ℕ). behind_key y (keys_from o g (i + 1) more t)) z.2))
    (z.1, has_from o t g valid more (i + 1) (omega (arith, e))))
    (λ (z : ((k : ℕ) → role o (array_address (shape o) g i) t ≢ InArray g k)
    × (key_in_array g (role o (array_address (shape o) g i) t) ≡ None)).
    subst (λ (y : List ℕ). HasKeysFrom o g i y t)
    (sym (ap (λ (y : Option ℕ). behind_key y (keys_from o g (i + 1) more t)) z.1
    ∙ none_behind o t g valid more i (i + 1) (omega arith) z.0))
    z.0)
    (key_or_none g (role o (array_address (shape o) g i) t))

pub has_keys_now : (o : Opening) (t : Execution) → Valid o t → (g : ℕ) →
    HasKeysFrom o g 0 (array_keys o g t) t
has_keys_now o t valid g = has_from o t g valid (limits o).group_size 0 (omega arith)

-- the keys that the array has are these
pub keys_are : (o : Opening) (t : Execution) → Valid o t → (g : ℕ) (keys : List ℕ) →
    HasKeysFrom o g 0 keys t → keys ≡ array_keys o g t
keys_are o t valid g keys has =
    one_list o g 0 keys (array_keys o g t) t has (has_keys_now o t valid g)

pub their_keys : ArraysHaveTheirKeys
their_keys o t valid g keys = (
  keys_are o t valid g keys,
  λ e. subst (λ (y : List ℕ). HasKeysFrom o g 0 y t) (sym e) (has_keys_now o t valid g),
)

-- ---- it rises, fits, and is whole ----

-- the key at each of its indices
stands_at : (o : Opening) (t : Execution) (g i : ℕ) → Valid o t → i < length (array_keys o g t) →
    HasKeyAt o g i (slice_index (array_keys o g t) i) t
stands_at o t g i valid lt = at_index o g (array_keys o g t) t (has_keys_now o t valid g) i lt

pub list_rises : ListsOfKeysRise
list_rises o t valid g i lt =
    let keys : List ℕ = array_keys o g t in
    keys_rise o t valid g i (i + 1) (slice_index keys i) (slice_index keys (i + 1)) (omega arith)
    (stands_at o t g i valid (omega (arith, lt))) (stands_at o t g (i + 1) valid lt)

pub list_fits : ListsOfKeysFit
list_fits o t valid g = ⊎_elim
    (λ (z : length (array_keys o g t) ≤ (limits o).group_size). z)
    (λ (z : (limits o).group_size < length (array_keys o g t)).
    let lt = index_fits o t g (limits o).group_size
    (slice_index (array_keys o g t) (limits o).group_size) valid
    (stands_at o t g (limits o).group_size valid z) in
    absurd (omega (arith, lt)))
    (le_or_lt (length (array_keys o g t)) (limits o).group_size)

-- a place is at an index of the list
below_end : (o : Opening) (t : Execution) (g i k : ℕ) → Valid o t → HasKeyAt o g i k t →
    i < length (array_keys o g t)
below_end o t g i k valid at = ⊎_elim
    (λ (z : length (array_keys o g t) ≤ i).
    let m = before_has o t g (length (array_keys o g t)) i k valid at z in
    absurd (at_end o g (array_keys o g t) t (has_keys_now o t valid g) m.0 m.1))
    (λ (z : i < length (array_keys o g t)). z)
    (le_or_lt (length (array_keys o g t)) i)

pub list_whole : ListsOfKeysAreWhole
list_whole o t valid g = record {
  stands = λ i lt. stands_at o t g i valid lt;
  whole = λ k p e.
      let w = in_order o t valid g k p e in
      let at : HasKeyAt o g w.index k t = ap (λ (q : ℕ). role o q t) (sym w.at) ∙ e in
      let lt = below_end o t g w.index k valid at in
      (w.index, lt, w.at, one_key (sym (stands_at o t g w.index valid lt) ∙ at));
}

-- ---- gaps ----

-- keys at later indices are no smaller
keys_up : (o : Opening) (t : Execution) (g i j : ℕ) → Valid o t → i ≤ j →
    j < length (array_keys o g t) →
    slice_index (array_keys o g t) i ≤ slice_index (array_keys o g t) j
keys_up o t g i j valid le lt =
    let keys : List ℕ = array_keys o g t in
    dite (ℕ_discrete i j)
    (λ (z : i ≡ j). let e = ap (slice_index keys) z in omega (arith, e))
    (λ (n : i ≢ j).
    let up = keys_rise o t valid g i j (slice_index keys i) (slice_index keys j)
    (omega (arith, le, n)) (stands_at o t g i valid (omega (arith, le, lt)))
    (stands_at o t g j valid lt) in
    omega (arith, up))

pub gaps_empty : GapsOfListsHaveNoPlace
gaps_empty o t valid g index from hi gap k p low high e =
    let w = (list_whole o t valid g).whole k p e in
    let at = w.0 in
    let lt = w.1 in
    let is = w.3 in
    ⊎_elim
    (λ (z : index ≤ at).
    let above = gap.there (omega (arith, z, lt)) in
    let up = keys_up o t g index at valid z lt in
    omega (arith, is, above, up, high))
    (λ (z : at < index).
    let before = gap.before (index - 1) (omega (arith, z)) in
    let less = before.1 in
    let up = keys_up o t g at (index - 1) valid (omega (arith, z)) before.0 in
    omega (arith, is, less, up, low))
    (le_or_lt index at)

-- ---- loads ----

pub keys_loaded : KeysOfListsMayBeLoaded
keys_loaded o t valid c g index found walks lt e =
    let key : ℕ = slice_index (array_keys o g t) index in
    let at = stands_at o t g index valid lt in
    let place : ℕ = array_address (shape o) g index in
    let is : found ≡ key = sym e ∙ (represented o t valid).keys place key (ap role_key at) in (
      record {
        allowed = ⊎_elim
            (λ (z : IsReading o c t × (stands_in c g t ≡ true)).
            inl (record { reading = z.0; there = inl (g, key, at, z.1) }))
            (λ (z : IsGroupKeeper o c g).
            inr (inr (g, (placed o t valid).arrayed g key place at, z))) walks;
        found_word = e;
        says = ap role_key at ∙ ap (λ (y : ℕ). Some y) (sym is);
      },
      is,
    )
