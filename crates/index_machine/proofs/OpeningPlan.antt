-- The plan of an opening: in which of its part's groups each key is, and with which number in the list of pivots.
use Rattle.std.proofs.Common.{◌≡◌, ◌≢◌, ◌⊎◌, inl, inr, ⊎_elim, ℕ, suc, ◌+◌, ◌*◌, ◌^◌, ◌<◌, ◌≤◌}
use Rattle.std.proofs.Common.{Bool, true, false, List, length, get_or, drop, refl, sym, ap, ◌∙◌}
use Rattle.std.proofs.Common.{subst, arith, lt-ltb, length-take}
use Rattle.std.specs.Prelude.{◌&&◌, nat_lt, slice_index}
use Rattle.std.specs.List.{AllByRecursion}
use Rattle.std.specs.List.Sorted.{IsStrictlyIncreasing}
use Rattle.std.proofs.Math.Nat.{mul-le-mul_right}
use Rattle.std.proofs.lemmas.Bool.{cases_lt, le-leb, lt-leb, ltb-true}
use Rattle.std.proofs.lemmas.Nat.{div-mul-add, mod-mul-add, div-add-mod', mod_below}
use mathlib.Core.Logic.{dite}
use native.Mathlib.Decide.{ℕ_discrete}
use Rattle.rebuild_plan.specs.Keys.{RiseFrom, DividesKeys, group_keys, later_pivots, pivot_of, planned_share}
use Rattle.rebuild_plan.specs.Plan.{IsGivenTo, fill_limit, first_record}
use Rattle.rebuild_plan.proofs.Parts.{divides}
use Rattle.rebuild_plan.proofs.PlanLaws.{pivots_divide, pivots-length, pivots-at, pivots_rise}
use Rattle.rebuild_plan.proofs.Rounding.{div_ceil-enough}
use Rattle.rebuild_plan.proofs.SharesLaws.{share_of-le_fill}
use Rattle.word_layout.specs.Parts.{greatest_key, part_with}
use Rattle.word_layout.specs.Shape.{parts_in, group_total}
use Rattle.word_layout.proofs.KeySpace.{Lies, Rises, lies, lies_alone, rises}
use Rattle.word_layout.proofs.PartGroups.{part_with-within, part_with-monotone, part_with-has}
use Rattle.index_machine.specs.declared.opening.Opening.{Opening}
use Rattle.index_machine.specs.Words.{limits, shape}
use Rattle.index_machine.specs.OpeningPlan.{part_keys}
use Rattle.index_machine.specs.OpeningRows.{number_in_part, opening_count, opening_group, opening_keys}
use Rattle.index_machine.specs.OpeningRows.{is_in_opening_chain, opening_pivots}
use Rattle.index_machine.specs.Keepers.{IsPart, part_of, first_key}
use Rattle.index_machine.proofs.OpeningKeys.{IsStretch, from_all, keys_at, keys_have, keys_rise, keys_taken}

-- ---- the table ----

pub some_group : (o : Opening) → 0 < (limits o).groups
some_group o = let least = o.layout.kept.least_groups in omega arith

pub big_group : (o : Opening) → 8 ≤ (limits o).group_size
big_group o = o.layout.kept.least_group_size

-- a group row of a part, by its number there
abbrev pub row_of : Opening → ℕ → ℕ → ℕ
row_of o part number = part * (limits o).groups + number

pub row-part : (o : Opening) (part number : ℕ) → number < (limits o).groups →
    part_of o (row_of o part number) ≡ part
row-part o part number few = div-mul-add part (limits o).groups number few

pub row-number : (o : Opening) (part number : ℕ) → number < (limits o).groups →
    number_in_part o (row_of o part number) ≡ number
row-number o part number few = mod-mul-add part (limits o).groups number few

pub row-exists : (o : Opening) (part number : ℕ) → IsPart o part → number < (limits o).groups →
    row_of o part number < group_total (shape o)
row-exists o part number is_part few =
    let next : part + 1 ≤ parts_in (shape o) = omega (arith, is_part) in
    let room : (part + 1) * (limits o).groups ≤ group_total (shape o) = mul-le-mul_right (limits o).groups next in
    omega arith

-- each group row is one of a part
pub group_is_row : (o : Opening) (group : ℕ) → row_of o (part_of o group) (number_in_part o group) ≡ group
group_is_row o group = div-add-mod' group (limits o).groups

pub number_few : (o : Opening) (group : ℕ) → number_in_part o group < (limits o).groups
number_few o group = mod_below group (limits o).groups (some_group o)

-- ---- the keys of a part ----

pub small_rows : (o : Opening) → AllByRecursion (λ (r : ℕ × ℕ). r.0 ≤ greatest_key) o.rows
small_rows o =
    from_all (λ (r : ℕ × ℕ). r.0 < 2 ^ 64) (λ (r : ℕ × ℕ). r.0 ≤ greatest_key) o.rows (λ r below. omega arith)
    o.keys

-- a number among so many groups is that of one of the part's group rows
pub count_few : (o : Opening) (part number : ℕ) → IsPart o part → number < opening_count o part →
    number < (limits o).groups
count_few o part number is_part among = let fits = o.fits part is_part in omega arith

module _ (o : Opening) (part : ℕ) where
  abbrev pub size : ℕ
  size = (limits o).group_size

  abbrev pub keys : List ℕ
  keys = part_keys (shape o) o.rows part

  abbrev pub least : ℕ
  least = first_key o part

  abbrev pub later : List ℕ
  later = later_pivots keys size

  pub keys_small : (n : ℕ) → n < length keys → get_or keys n 0 ≤ greatest_key
  keys_small n lt =
      keys_at (λ (k : ℕ). k ≤ greatest_key) (part_with (shape o).bounds) part o.rows
      (from_all (λ (r : ℕ × ℕ). r.0 ≤ greatest_key)
      (λ (r : ℕ × ℕ). part_with (shape o).bounds r.0 ≡ part → r.0 ≤ greatest_key) o.rows
      (λ r small here. small) (small_rows o)) n lt

  pub keys_part : (n : ℕ) → n < length keys → part_with (shape o).bounds (get_or keys n 0) ≡ part
  keys_part n lt = keys_have (part_with (shape o).bounds) part o.rows n lt

  -- they rise from the part's least key on
  pub keys_from : RiseFrom least keys
  keys_from = record {
    rising = keys_rise (part_with (shape o).bounds) part o.rows o.rising;
    bounded = λ some.
        let has = part_with-has (shape o).bounds (get_or keys 0 0) o.layout.cut (keys_small 0 some) in
        subst (λ (p : ℕ). first_key o p ≤ get_or keys 0 0) (keys_part 0 some) has.from;
  }

  -- ---- the pivots ----

  pub count_is : length (opening_pivots o part) ≡ opening_count o part
  count_is = pivots-length least keys size

  pub later_count : length later + 1 ≡ opening_count o part
  later_count = omega (arith, count_is)

  pub pivots_up : IsStrictlyIncreasing (opening_pivots o part)
  pivots_up = pivots_rise least keys size (big_group o) keys_from

  pub later_rise : Rises least later
  later_rise = rises least later pivots_up

  -- so many later pivots are at most a key
  abbrev pub number_of : ℕ → ℕ
  number_of k = part_with later k

  pub number_among : (k : ℕ) → number_of k < opening_count o part
  number_among k = omega (arith, part_with-within later k, later_count)

  -- the key is between the pivot with this number and the next
  pub number_lies : (k : ℕ) → least ≤ k → Lies least later (number_of k) k
  number_lies k from = lies least later k later_rise from

  pub number_alone : (number k : ℕ) → number < opening_count o part → Lies least later number k →
      number ≡ number_of k
  number_alone number k among at = lies_alone least later number k later_rise (omega (arith, among, later_count)) at

  -- ---- which records a group has ----

  abbrev pub share : ℕ
  share = planned_share keys size

  divided : DividesKeys (pivot_of least keys size) keys (opening_count o part) share
  divided = pivots_divide least keys size (big_group o) keys_from

  -- the key of a record lies in the group that the record is given to
  given_lies : (n number : ℕ) → IsGivenTo (length keys) share n number → number < opening_count o part →
      Lies least later number (get_or keys n 0)
  given_lies n number given among = record {
    from = subst (λ (p : ℕ). p ≤ get_or keys n 0) (sym (pivots-at least keys size number among))
        (divided.from n number given);
    before = λ more.
        let next : suc number < opening_count o part = omega (arith, more, later_count) in
        subst (λ (p : ℕ). get_or keys n 0 < p) (sym (pivots-at least keys size (suc number) next))
        (divided.below n number (suc number) given (omega arith) next);
  }

  given_number : (n number : ℕ) → IsGivenTo (length keys) share n number → number < opening_count o part →
      number_of (get_or keys n 0) ≡ number
  given_number n number given among =
      sym (number_alone number (get_or keys n 0) among (given_lies n number given among))

  -- and each record is given to the group of its key
  number_given : (n : ℕ) → n < length keys → IsGivenTo (length keys) share n (number_of (get_or keys n 0))
  number_given n lt =
      let covers = div_ceil-enough (length keys) (opening_count o part) (omega arith) in
      let given = (divides (length keys) (opening_count o part) share (omega (arith, covers))).given n lt in
      subst (λ (g : ℕ). IsGivenTo (length keys) share n g) (sym (given_number n given.0 given.2 given.1)) given.2

-- ---- the group of a key ----

pub opening_group-is : (o : Opening) (k : ℕ) → k ≤ greatest_key →
    opening_group o k
    ≡ row_of o (part_with (shape o).bounds k) (number_of o (part_with (shape o).bounds k) k)
opening_group-is o k small = rw (le-leb k greatest_key small) refl

-- the part of a key has a group with the number of the key
pub key_number : (o : Opening) (k : ℕ) →
    number_of o (part_with (shape o).bounds k) k < (limits o).groups
key_number o k =
    let part : ℕ = part_with (shape o).bounds k in
    count_few o part (number_of o part k) (part_with-within (shape o).bounds k) (number_among o part k)

pub opening_group-exists : (o : Opening) (k : ℕ) → k ≤ greatest_key → opening_group o k < group_total (shape o)
opening_group-exists o k small =
    let part : ℕ = part_with (shape o).bounds k in
    subst (λ (g : ℕ). g < group_total (shape o)) (sym (opening_group-is o k small))
    (row-exists o part (number_of o part k) (part_with-within (shape o).bounds k) (key_number o k))

pub opening_group-part : (o : Opening) (k : ℕ) → k ≤ greatest_key →
    part_of o (opening_group o k) ≡ part_with (shape o).bounds k
opening_group-part o k small =
    let part : ℕ = part_with (shape o).bounds k in
    ap (part_of o) (opening_group-is o k small) ∙ row-part o part (number_of o part k) (key_number o k)

pub opening_group-number : (o : Opening) (k : ℕ) → k ≤ greatest_key →
    number_in_part o (opening_group o k) ≡ number_of o (part_with (shape o).bounds k) k
opening_group-number o k small =
    let part : ℕ = part_with (shape o).bounds k in
    ap (number_in_part o) (opening_group-is o k small) ∙ row-number o part (number_of o part k) (key_number o k)

pub opening_group-beyond : (o : Opening) (k : ℕ) → greatest_key < k → opening_group o k ≡ group_total (shape o)
opening_group-beyond o k large = rw (lt-leb k greatest_key large) refl

le_or_lt : (n m : ℕ) → (n ≤ m) ⊎ (m < n)
le_or_lt n m = ⊎_elim (λ (more : m < n). inr more) (λ (less : n ≤ m). inl less) (cases_lt m n)

rows_up : (o : Opening) (p q i j : ℕ) → p ≤ q → (p ≡ q → i ≤ j) → i < (limits o).groups →
    row_of o p i ≤ row_of o q j
rows_up o p q i j upto same few = dite (ℕ_discrete p q)
    (λ (here : p ≡ q).
    let less = same here in
    let rows : p * (limits o).groups ≡ q * (limits o).groups = ap (λ (n : ℕ). n * (limits o).groups) here in
    omega arith)
    (λ (differ : p ≢ q).
    let next : p + 1 ≤ q = omega arith in
    let room : (p + 1) * (limits o).groups ≤ q * (limits o).groups = mul-le-mul_right (limits o).groups next in
    omega arith)

-- a greater key is in the same group or in a later one
pub opening_group-monotone : (o : Opening) (j k : ℕ) → j ≤ k → opening_group o j ≤ opening_group o k
opening_group-monotone o j k upto = ⊎_elim
    (λ (small : k ≤ greatest_key).
    let p : ℕ = part_with (shape o).bounds j in
    let q : ℕ = part_with (shape o).bounds k in
    let up = rows_up o p q (number_of o p j) (number_of o q k) (part_with-monotone (shape o).bounds j k upto)
    (λ e.
    subst (λ (x : ℕ). number_of o p j ≤ number_of o x k) e (part_with-monotone (later o p) j k upto))
    (key_number o j) in
    let here = opening_group-is o j (omega arith) in
    let there = opening_group-is o k small in
    omega (arith, up, here, there))
    (λ (large : greatest_key < k).
    let there = opening_group-beyond o k large in
    ⊎_elim
    (λ (small : j ≤ greatest_key). let below = opening_group-exists o j small in omega (arith, below, there))
    (λ (above : greatest_key < j). let here = opening_group-beyond o j above in omega (arith, here, there))
    (le_or_lt j greatest_key))
    (le_or_lt k greatest_key)

-- ---- the groups of the chain ----

both : (x y : Bool) → (x && y) ≡ true → (x ≡ true) × (y ≡ true)
both true y h = (refl, h)
both false y h = absurd cc

-- what the test of the chain says
pub record IsOpened (o : Opening) (group : ℕ) : Type 0 where
  pub exists : group < group_total (shape o)
  pub among : number_in_part o group < opening_count o (part_of o group)

pub in_chain : (o : Opening) (group : ℕ) → IsOpened o group → is_in_opening_chain o group ≡ true
in_chain o group is =
    let among : number_in_part o group + 0 < opening_count o (part_of o group) = omega (arith, is.among) in
    rw (lt-ltb group (group_total (shape o)) is.exists)
    (lt-ltb (number_in_part o group + 0) (opening_count o (part_of o group)) among)

pub in_chain_is : (o : Opening) (group : ℕ) → is_in_opening_chain o group ≡ true → IsOpened o group
in_chain_is o group e =
    let count : ℕ = opening_count o (part_of o group) in
    let w = both (nat_lt group (group_total (shape o))) (nat_lt (number_in_part o group + 0) count) e in
    record {
      exists = ltb-true group (group_total (shape o)) w.0;
      among = omega (arith, ltb-true (number_in_part o group + 0) count w.1);
    }

-- a group with one of the numbers of its part is in the chain
pub row_opened : (o : Opening) (part number : ℕ) → IsPart o part → number < opening_count o part →
    IsOpened o (row_of o part number)
row_opened o part number is_part among =
    let few = count_few o part number is_part among in
    record {
      exists = row-exists o part number is_part few;
      among = subst (λ (z : ℕ × ℕ). z.0 < opening_count o z.1)
          (λ j. (sym (row-number o part number few) j, sym (row-part o part number few) j)) among;
    }

pub opening_group-opened : (o : Opening) (k : ℕ) → k ≤ greatest_key → IsOpened o (opening_group o k)
opening_group-opened o k small =
    let part : ℕ = part_with (shape o).bounds k in
    subst (IsOpened o) (sym (opening_group-is o k small))
    (row_opened o part (number_of o part k) (part_with-within (shape o).bounds k) (number_among o part k))

-- ---- the keys of a group ----

-- the group of a key of a part
pub group_numbered : (o : Opening) (part k : ℕ) → k ≤ greatest_key → part_with (shape o).bounds k ≡ part →
    opening_group o k ≡ row_of o part (number_of o part k)
group_numbered o part k small of_part =
    opening_group-is o k small ∙ ap (λ (p : ℕ). row_of o p (number_of o p k)) of_part

-- the keys of a part's group are a stretch of the part's
pub stretch : (o : Opening) (part number : ℕ) → number < opening_count o part →
    IsStretch (opening_group o) (row_of o part number) (first_record (share o part) number) (share o part)
    (keys o part)
stretch o part number among = record {
  inside = λ n lt low high.
      let k : ℕ = get_or (keys o part) n 0 in
      let given : IsGivenTo (length (keys o part)) (share o part) n number =
      record { begins = low; ends = omega (arith, lt, high) }
      in
      group_numbered o part k (keys_small o part n lt) (keys_part o part n lt)
      ∙ ap (row_of o part) (given_number o part n number given among);
  only = λ n lt e.
      let k : ℕ = get_or (keys o part) n 0 in
      let is = group_numbered o part k (keys_small o part n lt) (keys_part o part n lt) in
      let same : number_of o part k ≡ number = omega (arith, is, e) in
      let given = subst (λ (g : ℕ). IsGivenTo (length (keys o part)) (share o part) n g) same
      (number_given o part n lt) in
      (given.begins, omega (arith, given.ends));
}

-- the rows of a part's group are the part's
pub rows_in_part : (o : Opening) (part number : ℕ) → IsPart o part → number < opening_count o part →
    AllByRecursion (λ (r : ℕ × ℕ). opening_group o r.0 ≡ row_of o part number → part_with (shape o).bounds r.0 ≡ part)
    o.rows
rows_in_part o part number is_part among =
    from_all (λ (r : ℕ × ℕ). r.0 ≤ greatest_key)
    (λ (r : ℕ × ℕ). opening_group o r.0 ≡ row_of o part number → part_with (shape o).bounds r.0 ≡ part) o.rows
    (λ r small e.
    sym (opening_group-part o r.0 small)
    ∙ (ap (part_of o) e ∙ row-part o part number (count_few o part number is_part among)))
    (small_rows o)

-- the keys of a part's group are those that the plan gives it
pub row_keys : (o : Opening) (part number : ℕ) → IsPart o part → number < opening_count o part →
    opening_keys o (row_of o part number) ≡ group_keys (keys o part) (size o part) number
row_keys o part number is_part among =
    keys_taken (opening_group o) (part_with (shape o).bounds) (row_of o part number) part o.rows
    (rows_in_part o part number is_part among)
    (first_record (share o part) number) (share o part) (stretch o part number among)

-- each is one of the group's, and a key
pub opening_keys-group : (o : Opening) (group i : ℕ) → i < length (opening_keys o group) →
    (opening_group o (slice_index (opening_keys o group) i) ≡ group)
    × (slice_index (opening_keys o group) i ≤ greatest_key)
opening_keys-group o group i lt = (
  keys_have (opening_group o) group o.rows i lt,
  keys_at (λ (k : ℕ). k ≤ greatest_key) (opening_group o) group o.rows
      (from_all (λ (r : ℕ × ℕ). r.0 ≤ greatest_key)
      (λ (r : ℕ × ℕ). opening_group o r.0 ≡ group → r.0 ≤ greatest_key) o.rows
      (λ r small here. small) (small_rows o)) i lt,
)

-- a group has so few that a quarter of its places is free
pub opening_keys-few : (o : Opening) (group : ℕ) → length (opening_keys o group) ≤ fill_limit (limits o).group_size
opening_keys-few o group = ⊎_elim
    (λ (none : length (opening_keys o group) < 1). omega arith)
    (λ (some : 1 ≤ length (opening_keys o group)).
    let is = opening_keys-group o group 0 (omega arith) in
    let k : ℕ = slice_index (opening_keys o group) 0 in
    let part : ℕ = part_with (shape o).bounds k in
    let number : ℕ = number_of o part k in
    let row : row_of o part number ≡ group = sym (opening_group-is o k is.1) ∙ is.0 in
    let given = row_keys o part number (part_with-within (shape o).bounds k) (number_among o part k) in
    let same : opening_keys o group ≡ group_keys (keys o part) (size o part) number =
    ap (opening_keys o) (sym row) ∙ given
    in
    let long = ap (λ (z : List ℕ). length z) same in
    let taken = length-take (share o part) (drop (first_record (share o part) number) (keys o part)) in
    let limit = share_of-le_fill (length (keys o part)) (size o part) (big_group o) in
    omega (arith, long, taken, limit))
    (cases_lt (length (opening_keys o group)) 1)

pub opening_keys-fit : (o : Opening) (group : ℕ) → length (opening_keys o group) ≤ (limits o).group_size
opening_keys-fit o group = let few = opening_keys-few o group in omega arith
