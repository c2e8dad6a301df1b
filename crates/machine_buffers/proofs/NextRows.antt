-- The row from a key on, as a row is put among others.
use Rattle.std.proofs.Common.{◌≡◌, ◌≢◌, ℕ, ◌+◌, ◌<◌, ◌≤◌, ◌⊎◌, inl, inr, ⊎_elim, Option, Some, None}
use Rattle.std.proofs.Common.{[], ◌∷◌, refl, sym, ap, ◌∙◌, arith}
use Rattle.std.proofs.lemmas.Bool.Decides.{nat_tests}
use mathlib.Core.Logic.{dite}
use native.Mathlib.Decide.{ℕ_discrete}
use Rattle.machine_buffers.specs.Lanes.{IsBefore, before_end, below, place_of_row, link_from}
use Rattle.index_machine.proofs.Options.{none_some, some_is}
use Rattle.map_model.proofs.Pairs.{AllAbove}
use Rattle.map_model.specs.Map.{IsRising, Map, first_from, look, put}

pub less_or_not : (i j : ℕ) → (i < j) ⊎ (j ≤ i)
less_or_not i j = grind arith

-- ---- what is among the rows ----

pub none_in_empty : {X : Type 0} (k q : ℕ) → look [] k ≡ Some q → X
unfolding look
none_in_empty k q e = none_some e

pub look_first : (r : ℕ × ℕ) (rs : Map) → look (r ∷ rs) r.0 ≡ Some r.1
unfolding look
look_first r rs = grind (arith, nat_tests)

pub look_other : (r : ℕ × ℕ) (rs : Map) (k : ℕ) → r.0 ≢ k → look (r ∷ rs) k ≡ look rs k
unfolding look
look_other r rs k other = grind (arith, nat_tests)

-- what is found is the first row or another
found_where : (r : ℕ × ℕ) (rs : Map) (k q : ℕ) → look (r ∷ rs) k ≡ Some q →
    ((r.0 ≡ k) × (r.1 ≡ q)) ⊎ ((r.0 ≢ k) × (look rs k ≡ Some q))
found_where r rs k q e =
    dite (ℕ_discrete r.0 k)
    (λ (s : r.0 ≡ k).
    inl (s, some_is (sym (look_first r rs) ∙ (ap (look (r ∷ rs)) s ∙ e))))
    (λ (n : r.0 ≢ k). inr (n, sym (look_other r rs k n) ∙ e))

-- what is found among rows above a key is above it
found_above : (a : ℕ) (m : Map) (k q : ℕ) → AllAbove a m → look m k ≡ Some q → a < k
found_above a [] k q above e = none_in_empty k q e
found_above a (r ∷ rs) k q above e =
    ⊎_elim
    (λ (s : (r.0 ≡ k) × (r.1 ≡ q)). let lt = above.0 in let is = s.0 in omega arith)
    (λ (s : (r.0 ≢ k) × (look rs k ≡ Some q)). found_above a rs k q above.1 s.1)
    (found_where r rs k q e)

-- what is found behind the first row is found among all
pub found_on : (r : ℕ × ℕ) (rs : Map) (k q : ℕ) → IsRising (r ∷ rs) → look rs k ≡ Some q →
    (r.0 < k) × (look (r ∷ rs) k ≡ Some q)
found_on r rs k q rising e =
    let above = found_above r.0 rs k q rising.0 e in
    (above, look_other r rs k (λ z. omega arith) ∙ e)

-- ---- the first row from a key on ----

from_none : (low : ℕ) → first_from [] low ≡ None
unfolding first_from
from_none low = refl

from_here : (r : ℕ × ℕ) (rs : Map) (low : ℕ) → low ≤ r.0 → first_from (r ∷ rs) low ≡ Some r
unfolding first_from
from_here r rs low le = grind (arith, nat_tests)

from_later : (r : ℕ × ℕ) (rs : Map) (low : ℕ) → r.0 < low →
    first_from (r ∷ rs) low ≡ first_from rs low
unfolding first_from
from_later r rs low lt = grind (arith, nat_tests)

-- none has this key or a greater one
abbrev EndsBelow : Map → ℕ → Type 0
EndsBelow m low = (i q : ℕ) → look m i ≡ Some q → i < low

-- this row is the first from the key on
abbrev IsFirstFrom : Map → ℕ → ℕ × ℕ → Type 0
IsFirstFrom m low r =
    (look m r.0 ≡ Some r.1) × (low ≤ r.0)
    × ((j q : ℕ) → look m j ≡ Some q → low ≤ j → r.0 ≤ j)

-- there is one, unless none is left
first_or_none : (m : Map) (low : ℕ) → IsRising m →
    (EndsBelow m low × (first_from m low ≡ None))
    ⊎ ((r : ℕ × ℕ) × (first_from m low ≡ Some r) × IsFirstFrom m low r)
first_or_none [] low rising = inl ((λ i q e. none_in_empty i q e), from_none low)
first_or_none (r ∷ rs) low rising = ⊎_elim
    (λ (lt : r.0 < low). later lt (first_or_none rs low rising.1))
    (λ (le : low ≤ r.0). inr (r, from_here r rs low le, (look_first r rs, le, first_least le)))
    (less_or_not r.0 low)
  where
    first_least : low ≤ r.0 → (j q : ℕ) → look (r ∷ rs) j ≡ Some q → low ≤ j → r.0 ≤ j
    first_least le j q e l = ⊎_elim
        (λ (s : (r.0 ≡ j) × (r.1 ≡ q)). let is = s.0 in omega arith)
        (λ (s : (r.0 ≢ j) × (look rs j ≡ Some q)).
        let up = (found_on r rs j q rising s.1).0 in omega arith)
        (found_where r rs j q e)

    later_least : (f : ℕ × ℕ) → r.0 < low → IsFirstFrom rs low f → (j q : ℕ) →
        look (r ∷ rs) j ≡ Some q → low ≤ j → f.0 ≤ j
    later_least f lt is j q e l = ⊎_elim
        (λ (s : (r.0 ≡ j) × (r.1 ≡ q)). let same = s.0 in absurd (omega arith))
        (λ (s : (r.0 ≢ j) × (look rs j ≡ Some q)). is.2 j q s.1 l)
        (found_where r rs j q e)

    later : r.0 < low →
        (EndsBelow rs low × (first_from rs low ≡ None))
        ⊎ ((f : ℕ × ℕ) × (first_from rs low ≡ Some f) × IsFirstFrom rs low f) →
        (EndsBelow (r ∷ rs) low × (first_from (r ∷ rs) low ≡ None))
        ⊎ ((f : ℕ × ℕ) × (first_from (r ∷ rs) low ≡ Some f) × IsFirstFrom (r ∷ rs) low f)
    later lt old = ⊎_elim
        (λ (z : EndsBelow rs low × (first_from rs low ≡ None)). inl (
          λ i q e. ⊎_elim
              (λ (s : (r.0 ≡ i) × (r.1 ≡ q)). let is = s.0 in omega arith)
              (λ (s : (r.0 ≢ i) × (look rs i ≡ Some q)). z.0 i q s.1)
              (found_where r rs i q e),
          from_later r rs low lt ∙ z.1,
        ))
        (λ (z : (f : ℕ × ℕ) × (first_from rs low ≡ Some f) × IsFirstFrom rs low f). inr (
          z.0,
          from_later r rs low lt ∙ z.1,
          ((found_on r rs (z.0).0 (z.0).1 rising (z.2).0).1, (z.2).1, later_least z.0 lt z.2),
        ))
        old

pub none_unless : (x : Option ℕ) → ((q : ℕ) → x ≡ Some q → ⊥) → x ≡ None
none_unless None never = refl
none_unless (Some q) never = absurd (never q refl)

-- ---- up to an end ----

here_below : (end : ℕ) (r : ℕ × ℕ) → r.0 < end → below end (Some r) ≡ Some r
here_below end r lt = grind (arith, nat_tests)

past_end : (end : ℕ) (r : ℕ × ℕ) → end ≤ r.0 → below end (Some r) ≡ None
past_end end r le = grind (arith, nat_tests)

-- a row before the end is kept
pub here_before : (end : Option ℕ) (r : ℕ × ℕ) → IsBefore r.0 end → before_end end (Some r) ≡ Some r
here_before None r is = refl
here_before (Some end) r is = here_below end r is

none_before : (end : Option ℕ) → before_end end None ≡ None
none_before None = refl
none_before (Some end) = refl

-- no link leads on among no rows
pub no_rows : (end : Option ℕ) (low : ℕ) → link_from end low [] ≡ 0
no_rows end low =
    ap (λ (f : Option (ℕ × ℕ)). place_of_row (before_end end f)) (from_none low)
    ∙ ap place_of_row (none_before end)

-- no row from this key on stands before the end
abbrev pub HasNoneFrom : Map → ℕ → Option ℕ → Type 0
HasNoneFrom m low end = (i q : ℕ) → look m i ≡ Some q → low ≤ i → IsBefore i end → ⊥

-- the row at this place is the first from the key on, and stands before the end
abbrev pub IsFirstBefore : Map → ℕ → Option ℕ → ℕ → Type 0
IsFirstBefore m low end place =
    (i : ℕ) × (look m i ≡ Some place) × (low ≤ i) × IsBefore i end
    × ((j q : ℕ) → look m j ≡ Some q → low ≤ j → i ≤ j)

-- a link leads to the first row of the lane from a key on, unless none is left
pub row_or_none : (m : Map) (low : ℕ) (end : Option ℕ) → IsRising m →
    (HasNoneFrom m low end × (link_from end low m ≡ 0))
    ⊎ IsFirstBefore m low end (link_from end low m)
row_or_none m low end rising = ⊎_elim
    (λ (z : EndsBelow m low × (first_from m low ≡ None)). inl (
      (λ i q e le is. let lt = z.0 i q e in absurd (omega arith)),
      ap (λ (f : Option (ℕ × ℕ)). place_of_row (before_end end f)) z.1
          ∙ ap place_of_row (none_before end),
    ))
    (λ (z : (r : ℕ × ℕ) × (first_from m low ≡ Some r) × IsFirstFrom m low r).
    go end z.0 z.1 (z.2).0 (z.2).1 (z.2).2)
    (first_or_none m low rising)
  where
    go : (to : Option ℕ) (r : ℕ × ℕ) → first_from m low ≡ Some r → look m r.0 ≡ Some r.1 →
        low ≤ r.0 → ((j q : ℕ) → look m j ≡ Some q → low ≤ j → r.0 ≤ j) →
        (HasNoneFrom m low to × (link_from to low m ≡ 0))
        ⊎ IsFirstBefore m low to (link_from to low m)
    go None r from here le least =
        inr (r.0, here ∙ ap Some (sym (ap place_of_row from)), le, tt, least)
    go (Some e) r from here le least = ⊎_elim
        (λ (lt : r.0 < e). inr (
          r.0,
          here ∙ ap Some (sym (ap (λ (f : Option (ℕ × ℕ)). place_of_row (below e f)) from
              ∙ ap place_of_row (here_below e r lt))),
          le,
          lt,
          least,
        ))
        (λ (past : e ≤ r.0). inl (
          (λ i q f l is. let up = least i q f l in let lt : i < e = is in absurd (omega arith)),
          ap (λ (f : Option (ℕ × ℕ)). place_of_row (below e f)) from
              ∙ ap place_of_row (past_end e r past),
        ))
        (less_or_not r.0 e)

-- ---- a row put among others ----

put_none : (k p : ℕ) → put [] k p ≡ (k, p) ∷ []
unfolding put
put_none k p = refl

put_first : (r : ℕ × ℕ) (rs : Map) (k p : ℕ) → k < r.0 → put (r ∷ rs) k p ≡ (k, p) ∷ r ∷ rs
unfolding put
put_first r rs k p h = grind (arith, nat_tests)

put_here : (r : ℕ × ℕ) (rs : Map) (k p : ℕ) → r.0 ≡ k → put (r ∷ rs) k p ≡ (k, p) ∷ rs
unfolding put
put_here r rs k p h = grind (arith, nat_tests)

put_later : (r : ℕ × ℕ) (rs : Map) (k p : ℕ) → r.0 < k → put (r ∷ rs) k p ≡ r ∷ put rs k p
unfolding put
put_later r rs k p h = grind (arith, nat_tests)

-- no row has a key from here to there
abbrev pub IsGap : Map → ℕ → ℕ → Type 0
IsGap m low k = (i q : ℕ) → look m i ≡ Some q → (i < low) ⊎ (k < i)

gap_on : (r : ℕ × ℕ) (rs : Map) (low k : ℕ) → IsRising (r ∷ rs) → IsGap (r ∷ rs) low k →
    IsGap rs low k
gap_on r rs low k rising gap i q e = gap i q (found_on r rs i q rising e).1

-- three ways in which keys stand
order : (i j : ℕ) → (i < j) ⊎ ((i ≡ j) ⊎ (j < i))
order i j = grind arith

-- behind the row that is put the rows are those that were there
pub from_behind_put : (m : Map) (low k p : ℕ) → k < low →
    first_from (put m k p) low ≡ first_from m low
from_behind_put [] low k p lt = rw (put_none k p) (from_later (k, p) [] low lt)
from_behind_put (r ∷ rs) low k p lt = ⊎_elim
    (λ (h : k < r.0). rw (put_first r rs k p h) (from_later (k, p) (r ∷ rs) low lt))
    (λ (z : (k ≡ r.0) ⊎ (r.0 < k)). ⊎_elim
    (λ (h : k ≡ r.0). rw (put_here r rs k p (sym h))
    (from_later (k, p) rs low lt ∙ sym (from_later r rs low (omega arith))))
    (λ (h : r.0 < k). rw (put_later r rs k p h)
    (from_later r (put rs k p) low (omega arith)
    ∙ (from_behind_put rs low k p lt ∙ sym (from_later r rs low (omega arith)))))
    z)
    (order k r.0)

-- a row put into a gap is the first of it
pub from_gap_put : (m : Map) (low k p : ℕ) → IsRising m → low ≤ k → IsGap m low k →
    first_from (put m k p) low ≡ Some (k, p)
from_gap_put [] low k p rising le gap = rw (put_none k p) (from_here (k, p) [] low le)
from_gap_put (r ∷ rs) low k p rising le gap = ⊎_elim
    (λ (h : k < r.0). rw (put_first r rs k p h) (from_here (k, p) (r ∷ rs) low le))
    (λ (z : (k ≡ r.0) ⊎ (r.0 < k)). ⊎_elim
    (λ (h : k ≡ r.0). rw (put_here r rs k p (sym h)) (from_here (k, p) rs low le))
    (λ (h : r.0 < k). rw (put_later r rs k p h) (⊎_elim
    (λ (lt : r.0 < low). from_later r (put rs k p) low lt
    ∙ from_gap_put rs low k p rising.1 le (gap_on r rs low k rising gap))
    (λ (lt : k < r.0). absurd (omega arith))
    (gap r.0 r.1 (look_first r rs))))
    z)
    (order k r.0)

-- where a row stands before the one that is put, that one is the first still
pub from_before_put : (m : Map) (low k p i q : ℕ) → IsRising m → low ≤ i → i < k →
    look m i ≡ Some q → first_from (put m k p) low ≡ first_from m low
from_before_put [] low k p i q rising le lt e = none_in_empty i q e
from_before_put (r ∷ rs) low k p i q rising le lt e = ⊎_elim
    (λ (s : (r.0 ≡ i) × (r.1 ≡ q)). let is = s.0 in
    rw (put_later r rs k p (omega arith))
    (from_here r (put rs k p) low (omega arith) ∙ sym (from_here r rs low (omega arith))))
    (λ (s : (r.0 ≢ i) × (look rs i ≡ Some q)).
    let up = (found_on r rs i q rising s.1).0 in
    rw (put_later r rs k p (omega arith)) (⊎_elim
    (λ (h : r.0 < low). from_later r (put rs k p) low h
    ∙ (from_before_put rs low k p i q rising.1 le lt s.1 ∙ sym (from_later r rs low h)))
    (λ (h : low ≤ r.0).
    from_here r (put rs k p) low h ∙ sym (from_here r rs low h))
    (less_or_not r.0 low)))
    (found_where r rs i q e)

-- the row from one end of a gap on is that from the other end on
pub from_over_gap : (m : Map) (low k : ℕ) → IsRising m → low ≤ k → IsGap m low k →
    first_from m (k + 1) ≡ first_from m low
from_over_gap [] low k rising le gap = from_none (k + 1) ∙ sym (from_none low)
from_over_gap (r ∷ rs) low k rising le gap = ⊎_elim
    (λ (lt : r.0 < low). from_later r rs (k + 1) (omega arith)
    ∙ (from_over_gap rs low k rising.1 le (gap_on r rs low k rising gap)
    ∙ sym (from_later r rs low lt)))
    (λ (lt : k < r.0).
    from_here r rs (k + 1) (omega arith) ∙ sym (from_here r rs low (omega arith)))
    (gap r.0 r.1 (look_first r rs))

-- a row put at a key that does not stand before the end, or below where the link begins, is not met
pub put_outside : (m : Map) (low k p : ℕ) (end : Option ℕ) → IsRising m → look m k ≡ None →
    (low ≤ k → IsBefore k end → ⊥) → link_from end low (put m k p) ≡ link_from end low m
put_outside m low k p end rising new out = ⊎_elim
    (λ (lt : k < low). same end (from_behind_put m low k p lt))
    (λ (le : low ≤ k). go end (out le) le)
    (less_or_not k low)
  where
    same : (to : Option ℕ) → first_from (put m k p) low ≡ first_from m low →
        link_from to low (put m k p) ≡ link_from to low m
    same to e = ap (λ (f : Option (ℕ × ℕ)). place_of_row (before_end to f)) e

    -- where the new one would be the first, it is behind the end, and so is what was the first
    behind : (e : ℕ) → e ≤ k → low ≤ k → IsGap m low k →
        (place_of_row (below e (first_from m low)) ≡ 0) →
        link_from (Some e) low (put m k p) ≡ link_from (Some e) low m
    behind e past le gap none =
        ap (λ (f : Option (ℕ × ℕ)). place_of_row (below e f)) (from_gap_put m low k p rising le gap)
        ∙ (ap place_of_row (past_end e (k, p) past) ∙ sym none)

    no_row : (q : ℕ) → look m k ≡ Some q → ⊥
    no_row q e = none_some (sym new ∙ e)

    go : (to : Option ℕ) → (IsBefore k to → ⊥) → low ≤ k →
        link_from to low (put m k p) ≡ link_from to low m
    go None never le = absurd (never tt)
    go (Some e) never le =
        let past : e ≤ k = ⊎_elim (λ (lt : k < e). absurd (never lt)) (λ (z : e ≤ k). z)
        (less_or_not k e) in
        ⊎_elim
        (λ (z : EndsBelow m low × (first_from m low ≡ None)).
        behind e past le (λ i q f. inl (z.0 i q f))
        (ap (λ (f : Option (ℕ × ℕ)). place_of_row (below e f)) z.1))
        (λ (z : (r : ℕ × ℕ) × (first_from m low ≡ Some r) × IsFirstFrom m low r). ⊎_elim
        (λ (lt : (z.0).0 < k). same (Some e)
        (from_before_put m low k p (z.0).0 (z.0).1 rising (z.2).1 lt (z.2).0))
        (λ (ge : k ≤ (z.0).0).
        let differ : k ≢ (z.0).0 = λ s. no_row (z.0).1 (ap (look m) s ∙ (z.2).0) in
        behind e past le (λ i q f. ⊎_elim (λ (lt : i < low). inl lt)
        (λ (up : low ≤ i). let least = (z.2).2 i q f up in inr (omega arith)) (less_or_not i low))
        (ap (λ (f : Option (ℕ × ℕ)). place_of_row (below e f)) z.1
        ∙ ap place_of_row (past_end e z.0 (omega arith))))
        (less_or_not (z.0).0 k))
        (first_or_none m low rising)
