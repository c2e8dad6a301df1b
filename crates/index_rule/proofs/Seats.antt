-- A seat may be cut in two, and two may be joined.
use Rattle.std.proofs.Common.{◌≡◌, ◌≢◌, ℕ, zero, suc, ◌<◌, ◌≤◌, lt-ltb, le-ltb, ◌⊎◌, inl, inr}
use Rattle.std.proofs.Common.{⊎_elim, Some, List, [], ◌∷◌, ◌++◌, length, set, refl, sym, ap, ◌∙◌}
use Rattle.std.proofs.Common.{subst, arith, append-nil, append_assoc, length-append}
use mathlib.Core.Option.{some, some-injective, some-ne-none}
use lib.ListN.{get_elem?}
use Rattle.atomic_table.specs.Table.{Splits, Joins}
use Rattle.atomic_table.proofs.Lists.{at_set, set_else}
use Rattle.index_machine.specs.declared.events.Event.{Event}
use Rattle.index_machine.specs.declared.opening.Opening.{Opening}
use Rattle.index_machine.specs.Execution.{Execution, Without}
use Rattle.index_machine.specs.Lists.{In, AreDistinct}
use Rattle.index_machine.specs.Rows.{below_top}
use Rattle.index_rule.specs.declared.view.View.{View}
use Rattle.index_rule.specs.declared.view.Heard.{Heard}
use Rattle.index_machine.specs.Openings.{opening_map}
use Rattle.index_machine.specs.LivePlaces.{history}
use Rattle.index_machine.specs.Conditions.{Valid}
use Rattle.index_machine.proofs.Executions.{valid_before, without_append}
use Rattle.map_model.specs.Logs.{Log, IsLogOf}
use Rattle.index_rule.specs.Rule.{Owns, AreOwn, Knows, AreApart, Kept, HasLog}
use Rattle.index_rule.specs.Rule.{GoesOn, GoesOnFromAll}
use Rattle.index_rule.specs.Seats.{others_left, one_hand, only_first, longer, joined, joined_log}
use Rattle.index_rule.specs.Seats.{spent, told}
use Rattle.index_rule.proofs.Steps.{apart_set, is_some}
use Rattle.index_rule.proofs.Logging.{log_on}

at_end : (l : List View) (a b : View) (j : ℕ) → get_elem? (l ++ a ∷ []) j ≡ some b →
    (get_elem? l j ≡ some b) ⊎ ((j ≡ length l) × (a ≡ b))
at_end [] a b zero e = inr (refl, some-injective a b e)
at_end [] a b (suc j) e = absurd (some-ne-none b (sym e))
at_end (x ∷ xs) a b zero e = inl e
at_end (x ∷ xs) a b (suc j) e =
    ⊎_elim inl (λ t. inr (ap suc t.0, t.1)) (at_end xs a b j e)

-- ---- cutting ----

-- what was heard before the first step
none_heard : (v : View) (numbers : List ℕ) → v.heard ≡ [] → AreOwn v.heard numbers
none_heard v numbers none = subst (λ (z : List Heard). AreOwn z numbers) (sym none) tt

-- before the first step there is no call to log
no_calls : (o : Opening) (c : ℕ) (known : Execution) (log : Log) → known ≡ [] → log ≡ [] →
    IsLogOf (opening_map o) c (history known) log
no_calls o c known log fresh blank =
    subst (λ (z : Execution × Log). IsLogOf (opening_map o) c (history z.0) z.1)
    (λ i. (sym fresh i, sym blank i)) (record { stand = tt; ordered = tt; complete = refl })

-- some of the seat's numbers go to a new seat; the seat has made no step and heard nothing yet
module _ (o : Opening) (id : ℕ) (v : View) (ls rs : List ℕ)
    (left : (hand : ℕ) → In hand ls → Owns v hand) (right : (hand : ℕ) → In hand rs → Owns v hand)
    (apart : AreDistinct v.numbers → (hand : ℕ) → In hand ls → In hand rs → ⊥)
    (once : AreDistinct v.numbers → AreDistinct ls × AreDistinct rs) where
  one : View
  one = record v { numbers = ls }

  two : View
  two = record v { numbers = rs }

  apart_split : (views : List View) → AreDistinct v.numbers → AreApart views →
      get_elem? views id ≡ some v → AreApart (set views id one ++ two ∷ [])
  unfolding one two
  apart_split views un old at i j c x y p q ox oy =
      ⊎_elim
      (λ (a : get_elem? (set views id one) i ≡ some x). ⊎_elim
      (λ (b : get_elem? (set views id one) j ≡ some y).
      apart_set views id v one old at left i j c x y a b ox oy)
      (λ (b : (j ≡ length (set views id one)) × (two ≡ y)).
      absurd (mixed i x a ox (subst (λ (z : View). Owns z c) (sym b.1) oy)))
      (at_end (set views id one) two y j q))
      (λ (a : (i ≡ length (set views id one)) × (two ≡ x)). ⊎_elim
      (λ (b : get_elem? (set views id one) j ≡ some y).
      absurd (mixed j y b oy (subst (λ (z : View). Owns z c) (sym a.1) ox)))
      (λ (b : (j ≡ length (set views id one)) × (two ≡ y)). a.0 ∙ sym b.0)
      (at_end (set views id one) two y j q))
      (at_end (set views id one) two x i p)
    where
      mixed : (i : ℕ) (x : View) → get_elem? (set views id one) i ≡ some x → Owns x c →
          In c rs → ⊥
      mixed i x a ox r =
          ⊎_elim
          (λ (b : (i ≡ id) × (one ≡ x)). apart un c (subst (λ (z : View). Owns z c) (sym b.1) ox) r)
          (λ (b : (i ≢ id) × (get_elem? views i ≡ some x)).
          b.0 (old i id c x v b.1 at ox (right c r)))
          (at_set views id i one x a)

  part : (t : Execution) (ns : List ℕ) → v.heard ≡ [] → v.known ≡ [] → v.log ≡ [] →
      ((hand : ℕ) → In hand ns → Owns v hand) → AreDistinct ns → Knows o t v →
      Knows o t (record v { numbers = ns })
  part t ns none fresh blank sub un k =
      record {
        opening = k.opening;
        goes_on = (k.goes_on.0, k.goes_on.1, λ c h. k.goes_on.2 c (sub c h));
        heard = k.heard;
        own_heard = none_heard v ns none;
        once = un;
        hands = λ c h. k.hands c (sub c h);
        logged = λ c one. no_calls o c v.known v.log fresh blank;
        heard_logged = k.heard_logged;
      }

  splits : v.opening ≡ Some o → v.heard ≡ [] → v.known ≡ [] → v.log ≡ [] →
      Splits (Kept o) id v (record v { numbers = ls }) (record v { numbers = rs })
  unfolding one two
  splits of none fresh blank s r at =
      let k = r.known id v at (is_some v.opening o of) in
      let un = once k.once in
      record {
        execution = r.execution;
        valid = r.valid;
        words = r.words;
        apart = apart_split s.views k.once r.apart at;
        known = λ i u p q. ⊎_elim
            (λ (a : get_elem? (set s.views id one) i ≡ some u). ⊎_elim
            (λ (b : (i ≡ id) × (one ≡ u)).
            subst (Knows o r.execution) b.1 (part r.execution ls none fresh blank left un.0 k))
            (λ (b : (i ≢ id) × (get_elem? s.views i ≡ some u)). r.known i u b.1 q)
            (at_set s.views id i one u a))
            (λ (a : (i ≡ length (set s.views id one)) × (two ≡ u)).
            subst (Knows o r.execution) a.1 (part r.execution rs none fresh blank right un.1 k))
            (at_end (set s.views id one) two u i p);
      }

-- the first of the numbers becomes a hand
pub makes_hand : (o : Opening) (id : ℕ) (v : View) → v.opening ≡ Some o → v.heard ≡ [] →
    v.known ≡ [] → v.log ≡ [] → Splits (Kept o) id v (others_left v) (one_hand v)
makes_hand o id v of none fresh blank = cut v.numbers refl
  where
    back : (ns : List ℕ) → v.numbers ≡ ns →
        Splits (Kept o) id v (record v { numbers = below_top ns })
        (record v { numbers = only_first ns }) →
        Splits (Kept o) id v (others_left v) (one_hand v)
    back ns e =
        subst (λ (z : List ℕ). Splits (Kept o) id v (record v { numbers = below_top z })
        (record v { numbers = only_first z })) (sym e)

    cut : (ns : List ℕ) → v.numbers ≡ ns → Splits (Kept o) id v (others_left v) (one_hand v)
    cut [] e =
        back [] e
        (splits o id v [] [] (λ c h. absurd h) (λ c h. absurd h) (λ _ c h _. h) (λ _. (tt, tt))
        of none fresh blank)
    cut (c ∷ cs) e =
        back (c ∷ cs) e
        (splits o id v cs (c ∷ [])
        (λ d h. subst (In d) (sym e) (inr h))
        (λ d h. subst (In d) (sym e) (⊎_elim inl (λ z. absurd z) h))
        (λ un d h k. let u : AreDistinct (c ∷ cs) = subst AreDistinct e un in
        u.0 (subst (λ (z : ℕ). In z cs) (⊎_elim (λ (z : d ≡ c). z) (λ z. absurd z) k) h))
        (λ un. let u : AreDistinct (c ∷ cs) = subst AreDistinct e un in (u.1, ((λ z. z), tt)))
        of none fresh blank)

-- ---- a seat of no hand ----

-- a seat more that is no hand
apart_told : (views : List View) (id : ℕ) (v : View) → AreApart views →
    get_elem? views id ≡ some v → AreApart (set views id v ++ told v ∷ [])
apart_told views id v old at i j c x y p q ox oy =
    apart_set views id v v old at (λ _ h. h) i j c x y (before i x p ox) (before j y q oy) ox oy
  where
    before : (i : ℕ) (x : View) → get_elem? (set views id v ++ told v ∷ []) i ≡ some x →
        Owns x c → get_elem? (set views id v) i ≡ some x
    before i x p own =
        ⊎_elim (λ (a : get_elem? (set views id v) i ≡ some x). a)
        (λ (a : (i ≡ length (set views id v)) × (told v ≡ x)).
        absurd (subst (λ (z : View). Owns z c) (sym a.1) own))
        (at_end (set views id v) (told v) x i p)

told_knows : (o : Opening) (t : Execution) (v : View) → Knows o t v → Knows o t (told v)
told_knows o t v k =
    record {
      opening = k.opening;
      goes_on = (k.goes_on.0, k.goes_on.1, λ c h. absurd h);
      heard = tt;
      own_heard = tt;
      once = tt;
      hands = λ c h. absurd h;
      logged = λ c one. absurd (let bad = one in cc);
      heard_logged = tt;
    }

-- the seat may tell what it knows, and stays as it is
pub tells : (o : Opening) (id : ℕ) (v : View) → v.opening ≡ Some o →
    Splits (Kept o) id v v (told v)
tells o id v of s r at =
    let k = r.known id v at (is_some v.opening o of) in
    record {
      execution = r.execution;
      valid = r.valid;
      words = r.words;
      apart = apart_told s.views id v r.apart at;
      known = λ i u p q. ⊎_elim
          (λ (a : get_elem? (set s.views id v) i ≡ some u). ⊎_elim
          (λ (b : (i ≡ id) × (v ≡ u)). subst (Knows o r.execution) b.1 k)
          (λ (b : (i ≢ id) × (get_elem? s.views i ≡ some u)). r.known i u b.1 q)
          (at_set s.views id i v u a))
          (λ (a : (i ≡ length (set s.views id v)) × (told v ≡ u)).
          subst (Knows o r.execution) a.1 (told_knows o r.execution v k))
          (at_end (set s.views id v) (told v) u i p);
    }

-- ---- two beginnings of one execution ----

without_before : (c : ℕ) (n m : Execution) → Without c (n ++ m) → Without c n
without_before c [] m out = tt
without_before c (e ∷ n) m out = (out.0, without_before c n m out.1)

tail_is : (a b : Event) (s t : Execution) → a ∷ s ≡ b ∷ t → s ≡ t
tail_is a b s t e = cc

-- one of them begins the other
pub one_begins : (n m v w : Execution) → n ++ v ≡ m ++ w →
    ((mid : Execution) × (v ≡ mid ++ w) × (m ≡ n ++ mid))
    ⊎ ((mid : Execution) × (w ≡ mid ++ v) × (n ≡ m ++ mid))
one_begins [] m v w e = inl (m, e, refl)
one_begins (a ∷ n) [] v w e = inr (a ∷ n, sym e, refl)
one_begins (a ∷ n) (b ∷ m) v w e =
    let same : a ≡ b = cc in
    ⊎_elim
    (λ (h : (mid : Execution) × (v ≡ mid ++ w) × (m ≡ n ++ mid)).
    inl (h.0, h.1, (λ i. sym same i ∷ h.2 i)))
    (λ (h : (mid : Execution) × (w ≡ mid ++ v) × (n ≡ m ++ mid)).
    inr (h.0, h.1, (λ i. same i ∷ h.2 i)))
    (one_begins n m v w (tail_is a b (n ++ v) (m ++ w) e))

longer_first : (v w : Execution) → length w ≤ length v → longer v w ≡ v
longer_first v w le = rw (le-ltb (length v) (length w) le) refl

longer_second : (v w : Execution) → length v < length w → longer v w ≡ w
longer_second v w lt = rw (lt-ltb (length v) (length w) lt) refl

-- the longer of two beginnings is a beginning, without events of any hand that made none after
-- either
shared : (n m v w t : Execution) → n ++ v ≡ t → m ++ w ≡ t →
    (newer : Execution) × (newer ++ longer v w ≡ t)
    × ((hand : ℕ) → Without hand n → Without hand newer)
    × ((hand : ℕ) → Without hand m → Without hand newer)
shared n m v w t en em =
    ⊎_elim
    (λ (h : (mid : Execution) × (v ≡ mid ++ w) × (m ≡ n ++ mid)).
    let long = length-append h.0 w in
    let same : length v ≡ length (h.0 ++ w) = ap (λ (z : Execution). length z) h.1 in (
      n,
      ap (λ (z : Execution). n ++ z) (longer_first v w (omega arith)) ∙ en,
      (λ c out. out),
      λ c out. without_before c n h.0 (subst (Without c) h.2 out),
    ))
    (λ (h : (mid : Execution) × (w ≡ mid ++ v) × (n ≡ m ++ mid)). second h.0 h.1 h.2)
    (one_begins n m v w (en ∙ sym em))
  where
    second : (mid : Execution) → w ≡ mid ++ v → n ≡ m ++ mid →
        (newer : Execution) × (newer ++ longer v w ≡ t)
        × ((hand : ℕ) → Without hand n → Without hand newer)
        × ((hand : ℕ) → Without hand m → Without hand newer)
    second [] e f =
        let same : length w ≡ length v = ap (λ (z : Execution). length z) e in (
          n,
          ap (λ (z : Execution). n ++ z) (longer_first v w (omega arith)) ∙ en,
          (λ c out. out),
          λ c out. subst (Without c) (sym (f ∙ append-nil m)) out,
        )
    second (x ∷ mid) e f =
        let long = length-append (x ∷ mid) v in
        let same : length w ≡ length (x ∷ mid ++ v) = ap (λ (z : Execution). length z) e in (
          m,
          ap (λ (z : Execution). m ++ z) (longer_second v w (omega arith)) ∙ em,
          (λ c out. without_before c m (x ∷ mid) (subst (Without c) f out)),
          λ c out. out,
        )

-- ---- joining ----

in_either : (c : ℕ) (ns ms : List ℕ) → In c (ns ++ ms) → In c ns ⊎ In c ms
in_either c [] ms h = inr h
in_either c (n ∷ ns) ms h =
    ⊎_elim (λ (e : c ≡ n). inl (inl e))
    (λ (k : In c (ns ++ ms)). ⊎_elim (λ (z : In c ns). inl (inr z)) inr (in_either c ns ms k)) h

pub in_left : (c : ℕ) (ns ms : List ℕ) → In c ns → In c (ns ++ ms)
in_left c [] ms h = absurd h
in_left c (n ∷ ns) ms h = ⊎_elim inl (λ k. inr (in_left c ns ms k)) h

pub in_right : (c : ℕ) (ns ms : List ℕ) → In c ms → In c (ns ++ ms)
in_right c [] ms h = h
in_right c (n ∷ ns) ms h = inr (in_right c ns ms h)

once_both : (ns ms : List ℕ) → AreDistinct ns → AreDistinct ms → ((c : ℕ) → In c ns → In c ms → ⊥) →
    AreDistinct (ns ++ ms)
once_both [] ms a b apart = b
once_both (n ∷ ns) ms a b apart = (
  (λ h. ⊎_elim a.0 (apart n (inl refl)) (in_either n ns ms h)),
  once_both ns ms a.1 b (λ c h k. apart c (inr h) k),
)

are_own_in : (hs : List Heard) (ns ms : List ℕ) → ((c : ℕ) → In c ns → In c ms) →
    AreOwn hs ns → AreOwn hs ms
are_own_in [] ns ms sub own = tt
are_own_in (h ∷ hs) ns ms sub own =
    ((λ c is. sub c (own.0 c is)), are_own_in hs ns ms sub own.1)

without_after : (c : ℕ) (n m : Execution) → Without c (n ++ m) → Without c m
without_after c [] m out = out
without_after c (e ∷ n) m out = without_after c n m out.1

-- the longer of two beginnings goes on from each of them, without events of any hand that made none
-- after it
begins_longer : (n m v w t : Execution) → n ++ v ≡ t → m ++ w ≡ t →
    ((mid : Execution) × (mid ++ v ≡ longer v w)
    × ((hand : ℕ) → Without hand n → Without hand mid))
    × ((mid : Execution) × (mid ++ w ≡ longer v w)
    × ((hand : ℕ) → Without hand m → Without hand mid))
begins_longer n m v w t en em =
    ⊎_elim
    (λ (h : (mid : Execution) × (v ≡ mid ++ w) × (m ≡ n ++ mid)).
    let long = length-append h.0 w in
    let same : length v ≡ length (h.0 ++ w) = ap (λ (z : Execution). length z) h.1 in
    let first : longer v w ≡ v = longer_first v w (omega arith) in (
      ([], sym first, λ c out. tt),
      (
        h.0,
        sym h.1 ∙ sym first,
        λ c out. without_after c n h.0 (subst (Without c) h.2 out),
      ),
    ))
    (λ (h : (mid : Execution) × (w ≡ mid ++ v) × (n ≡ m ++ mid)). second h.0 h.1 h.2)
    (one_begins n m v w (en ∙ sym em))
  where
    second : (mid : Execution) → w ≡ mid ++ v → n ≡ m ++ mid →
        ((mid : Execution) × (mid ++ v ≡ longer v w)
        × ((hand : ℕ) → Without hand n → Without hand mid))
        × ((mid : Execution) × (mid ++ w ≡ longer v w)
        × ((hand : ℕ) → Without hand m → Without hand mid))
    second [] e f =
        let same : length w ≡ length v = ap (λ (z : Execution). length z) e in
        let first : longer v w ≡ v = longer_first v w (omega arith) in
        (([], sym first, λ c out. tt), ([], e ∙ sym first, λ c out. tt))
    second (x ∷ mid) e f =
        let long = length-append (x ∷ mid) v in
        let same : length w ≡ length (x ∷ mid ++ v) = ap (λ (z : Execution). length z) e in
        let other : longer v w ≡ w = longer_second v w (omega arith) in (
          (
            x ∷ mid,
            sym e ∙ sym other,
            λ c out. without_after c m (x ∷ mid) (subst (Without c) f out),
          ),
          ([], sym other, λ c out. tt),
        )

-- what goes on from a later execution goes on from an earlier one
pub goes_further : (fewer numbers : List ℕ) (first second t : Execution) →
    ((hand : ℕ) → In hand fewer → In hand numbers) → GoesOn fewer first second →
    GoesOn numbers second t → GoesOn fewer first t
goes_further fewer numbers first second t sub f g = (
  g.0 ++ f.0,
  append_assoc g.0 f.0 first ∙ ap (λ (z : Execution). g.0 ++ z) f.1 ∙ g.1,
  λ c h. without_append c g.0 f.0 (g.2 c (sub c h)) (f.2 c h),
)

all_further : (hs : List Heard) (numbers : List ℕ) (known t : Execution) → AreOwn hs numbers →
    GoesOnFromAll hs known → GoesOn numbers known t → GoesOnFromAll hs t
all_further [] numbers known t own all on = tt
all_further (h ∷ hs) numbers known t own all on = (
  goes_further h.numbers numbers h.known known t own.0 all.0 on,
  all_further hs numbers known t own.1 all.1 on,
)

-- the numbers of two seats that are one hand, the first of them being one
front_is : (n c : ℕ) (ns ws : List ℕ) → n ∷ ns ++ ws ≡ c ∷ [] → n ∷ ns ≡ c ∷ []
front_is n c [] ws e = let same : n ≡ c = cc in λ i. same i ∷ []
front_is n c (x ∷ ns) ws e = absurd (let bad = e in cc)

-- the log of a seat, by a longer beginning
log_longer : (o : Opening) (c : ℕ) (mid known whole t : Execution) (log : Log) → Valid o t →
    ((newer : Execution) × (newer ++ whole ≡ t)) → mid ++ known ≡ whole → Without c mid →
    IsLogOf (opening_map o) c (history known) log → IsLogOf (opening_map o) c (history whole) log
log_longer o c mid known whole t log valid begins e out old =
    subst (λ (z : Execution). IsLogOf (opening_map o) c (history z) log) e
    (log_on o c mid known log
    (subst (Valid o) (sym e)
    (valid_before o begins.0 whole (subst (Valid o) (sym begins.1) valid)))
    out old)

-- the log of the one hand that two seats are
joined_logged : (o : Opening) (t : Execution) (v w : View) → Valid o t → Knows o t v →
    Knows o t w → HasLog o (joined v w)
joined_logged o t v w valid k g c one =
    by_numbers v.numbers refl one
    (shared k.goes_on.0 g.goes_on.0 v.known w.known t k.goes_on.1 g.goes_on.1)
    (begins_longer k.goes_on.0 g.goes_on.0 v.known w.known t k.goes_on.1 g.goes_on.1)
  where
    by_numbers : (ns : List ℕ) → v.numbers ≡ ns → ns ++ w.numbers ≡ c ∷ [] →
        ((newer : Execution) × (newer ++ longer v.known w.known ≡ t)
        × ((hand : ℕ) → Without hand k.goes_on.0 → Without hand newer)
        × ((hand : ℕ) → Without hand g.goes_on.0 → Without hand newer)) →
        ((mid : Execution) × (mid ++ v.known ≡ longer v.known w.known)
        × ((hand : ℕ) → Without hand k.goes_on.0 → Without hand mid))
        × ((mid : Execution) × (mid ++ w.known ≡ longer v.known w.known)
        × ((hand : ℕ) → Without hand g.goes_on.0 → Without hand mid)) →
        IsLogOf (opening_map o) c (history (longer v.known w.known)) (joined_log ns v.log w.log)
    by_numbers [] e f two go =
        log_longer o c go.1.0 w.known (longer v.known w.known) t w.log valid (two.0, two.1)
        go.1.1 (go.1.2 c (g.goes_on.2 c (subst (In c) (sym f) (inl refl)))) (g.logged c f)
    by_numbers (n ∷ ns) e f two go =
        let mine : v.numbers ≡ c ∷ [] = e ∙ front_is n c ns w.numbers f in
        log_longer o c go.0.0 v.known (longer v.known w.known) t v.log valid (two.0, two.1)
        go.0.1 (go.0.2 c (k.goes_on.2 c (subst (In c) (sym mine) (inl refl)))) (k.logged c mine)

-- what a seat knows that took in another
joined_knows : (o : Opening) (t : Execution) (v w : View) → Valid o t → Knows o t v →
    Knows o t w → ((c : ℕ) → Owns v c → Owns w c → ⊥) → Knows o t (joined v w)
joined_knows o t v w valid k g none =
    let two = shared k.goes_on.0 g.goes_on.0 v.known w.known t k.goes_on.1 g.goes_on.1 in
    let both = begins_longer k.goes_on.0 g.goes_on.0 v.known w.known t k.goes_on.1 g.goes_on.1 in
    let whole : Execution = longer v.known w.known in
    let ours : GoesOn v.numbers v.known whole =
    (both.0.0, both.0.1, λ c h. both.0.2 c (k.goes_on.2 c h))
    in
    let theirs : GoesOn w.numbers w.known whole =
    (both.1.0, both.1.1, λ c h. both.1.2 c (g.goes_on.2 c h))
    in
    record {
      opening = k.opening;
      goes_on = (
        two.0,
        two.1,
        λ c h. ⊎_elim (λ (a : Owns v c). two.2 c (k.goes_on.2 c a))
            (λ (b : Owns w c). two.3 c (g.goes_on.2 c b)) (in_either c v.numbers w.numbers h),
      );
      heard = (theirs, (ours, all_further v.heard v.numbers v.known whole k.own_heard k.heard ours));
      own_heard = (
        (λ c h. in_right c v.numbers w.numbers h),
        (
          (λ c h. in_left c v.numbers w.numbers h),
          are_own_in v.heard v.numbers (v.numbers ++ w.numbers)
              (λ c h. in_left c v.numbers w.numbers h) k.own_heard,
        ),
      );
      once = once_both v.numbers w.numbers k.once g.once none;
      hands = λ c h. ⊎_elim (k.hands c) (g.hands c) (in_either c v.numbers w.numbers h);
      logged = joined_logged o t v w valid k g;
      heard_logged = (g.logged, (k.logged, k.heard_logged));
    }

-- the seat takes in another
pub joins : (o : Opening) (id other : ℕ) (v w : View) → v.opening ≡ Some o → w.opening ≡ Some o →
    Joins (Kept o) id v other w (joined v w) spent
joins o id other v w of og s r at apart there0 =
    let x : View = joined v w in
    let there : get_elem? s.views other ≡ some w =
    sym (set_else s.views id other x apart) ∙ there0
    in
    let k = r.known id v at (is_some v.opening o of) in
    let g = r.known other w there (is_some w.opening o og) in
    let ours : (c : ℕ) → Owns x c → Owns v c ⊎ Owns w c =
    λ c h. in_either c v.numbers w.numbers h
    in
    let mine : Knows o r.execution x =
    joined_knows o r.execution v w r.valid k g (λ c a b. apart (r.apart other id c w v there at b a))
    in
    let views : List View = set (set s.views id x) other spent in
    let cases : (i : ℕ) (u : View) → get_elem? views i ≡ some u →
    (spent ≡ u)
    ⊎ (((i ≡ id) × (x ≡ u)) ⊎ ((i ≢ id) × (i ≢ other) × (get_elem? s.views i ≡ some u))) =
    λ i u p. ⊎_elim (λ (a : (i ≡ other) × (spent ≡ u)). inl a.1)
    (λ (a : (i ≢ other) × (get_elem? (set s.views id x) i ≡ some u)). ⊎_elim
    (λ (b : (i ≡ id) × (x ≡ u)). inr (inl b))
    (λ (b : (i ≢ id) × (get_elem? s.views i ≡ some u)). inr (inr (b.0, a.0, b.1)))
    (at_set s.views id i x u a.1))
    (at_set (set s.views id x) other i spent u p)
    in
    let alone : (i c : ℕ) (u : View) → i ≢ id → i ≢ other → get_elem? s.views i ≡ some u →
    Owns u c → Owns x c → ⊥ =
    λ i c u ne no p own h. ⊎_elim (λ (a : Owns v c). ne (r.apart i id c u v p at own a))
    (λ (b : Owns w c). no (r.apart i other c u w p there own b)) (ours c h)
    in
    record {
      execution = r.execution;
      valid = r.valid;
      words = r.words;
      apart = λ i j c u y p q ou oy. ⊎_elim
          (λ (a : spent ≡ u). absurd (subst (λ (z : View). Owns z c) (sym a) ou))
          (λ a. ⊎_elim
          (λ (b : spent ≡ y). absurd (subst (λ (z : View). Owns z c) (sym b) oy))
          (λ b. ⊎_elim
          (λ (a1 : (i ≡ id) × (x ≡ u)). ⊎_elim
          (λ (b1 : (j ≡ id) × (x ≡ y)). a1.0 ∙ sym b1.0)
          (λ (b1 : (j ≢ id) × (j ≢ other) × (get_elem? s.views j ≡ some y)).
          absurd (alone j c y b1.0 b1.1 b1.2 oy
          (subst (λ (z : View). Owns z c) (sym a1.1) ou)))
          b)
          (λ (a1 : (i ≢ id) × (i ≢ other) × (get_elem? s.views i ≡ some u)). ⊎_elim
          (λ (b1 : (j ≡ id) × (x ≡ y)).
          absurd (alone i c u a1.0 a1.1 a1.2 ou
          (subst (λ (z : View). Owns z c) (sym b1.1) oy)))
          (λ (b1 : (j ≢ id) × (j ≢ other) × (get_elem? s.views j ≡ some y)).
          r.apart i j c u y a1.2 b1.2 ou oy)
          b)
          a)
          (cases j y q))
          (cases i u p);
      known = λ i u p q. ⊎_elim
          (λ (a : spent ≡ u). absurd (q (sym (ap (λ (z : View). z.opening) a))))
          (λ a. ⊎_elim (λ (b : (i ≡ id) × (x ≡ u)). subst (Knows o r.execution) b.1 mine)
          (λ (b : (i ≢ id) × (i ≢ other) × (get_elem? s.views i ≡ some u)). r.known i u b.2 q)
          a)
          (cases i u p);
    }
