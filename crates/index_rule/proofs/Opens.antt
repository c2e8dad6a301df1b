-- The table as it is opened keeps the rule, and the hands that are made of its first seat.
use Rattle.std.proofs.Common.{◌≡◌, ◌≢◌, inl, inr, ⊎_elim, ℕ, zero, suc, ◌+◌, ◌-◌, ◌<◌, ◌≤◌, ◌%◌}
use Rattle.std.proofs.Common.{◌^◌, Some, List}
use Rattle.std.proofs.Common.{[], ◌∷◌, ◌++◌, length, refl, sym, ap, ◌∙◌, subst, arith}
use mathlib.Core.Logic.{dite}
use native.Mathlib.Decide.{ℕ_discrete}
use mathlib.Core.Option.{some, some-injective, some-ne-none}
use lib.ListN.{get_elem?}
use Rattle.std.proofs.lemmas.Grind.{merely}
use Rattle.atomic_table.specs.Table.{opening}
use Rattle.index_machine.specs.declared.opening.Opening.{Opening}
use Rattle.index_machine.specs.Lists.{In, AreDistinct}
use Rattle.word_layout.specs.Shape.{parts_in}
use Rattle.index_machine.specs.Words.{limits, shape}
use Rattle.index_machine.specs.Sections.{crossings}
use Rattle.index_machine.proofs.Holders.{holds_no_lock_first}
use Rattle.index_rule.specs.declared.view.View.{View}
use Rattle.index_rule.specs.declared.board.Board.{Board}
use Rattle.index_rule.specs.declared.hand.Hand.{Hand}
use Rattle.index_rule.specs.Offsets.{HoldsWords}
use Rattle.index_rule.specs.Rule.{Kept, Knows, IsFollowing, KeepsLockedWord}
use Rattle.index_rule.specs.Rule.{first_view, counting}
use Rattle.index_rule.specs.Hands.{IsHandOf, opening_of, view}
use Rattle.index_rule.specs.Seats.{new_hand, rest_of, others_left, one_hand}
use Rattle.index_rule.specs.Opened.{AreNewHands, HasNewHands}
use Rattle.index_rule.specs.Ended.{AreAllHands, AreOutside, numbers_of}

in_counting : (c i n : ℕ) → In c (counting i n) → (i ≤ c) × (c < i + n)
in_counting c i zero h = absurd h
in_counting c i (suc n) h =
    ⊎_elim (λ (e : c ≡ i). (omega arith, omega arith))
    (λ (k : In c (counting (i + 1) n)).
    let r = in_counting c (i + 1) n k in
    let a = r.0 in
    let b = r.1 in
    (omega arith, omega arith))
    h

once_counting : (i n : ℕ) → AreDistinct (counting i n)
once_counting i zero = tt
once_counting i (suc n) = (
  (λ h. let r = in_counting i (i + 1) n h in let a = r.0 in omega arith),
  once_counting (i + 1) n,
)

only : (x y : View) (i : ℕ) → get_elem? (x ∷ []) i ≡ some y → (i ≡ 0) × (x ≡ y)
only x y zero e = (refl, some-injective x y e)
only x y (suc i) e = absurd (some-ne-none y (sym e))

pub opens : (o : Opening) (memory : List ℕ) → HoldsWords o memory [] →
    Kept o (opening {S = Unit {0}} memory [] (first_view o))
opens o memory holds =
    let n : ℕ = (limits o).callers + parts_in (shape o) in
    record {
      execution = [];
      valid = tt;
      words = holds;
      apart = λ i j c v w p q _ _.
          (only (first_view o) v i p).0 ∙ sym (only (first_view o) w j q).0;
      known = λ i u p _. subst (Knows o []) (only (first_view o) u i p).1 (record {
        opening = refl;
        goes_on = ([], refl, λ _ _. tt);
        heard = tt;
        own_heard = tt;
        once = once_counting 0 n;
        hands = λ c h. let r = in_counting c 0 n h in let b = r.1 in omega arith;
        logged = λ c one. record { stand = tt; ordered = tt; complete = refl };
        heard_logged = tt;
      });
    }

-- ---- the hands ----

suc_minus : (k c : ℕ) → c < k + 1 → k + 1 - c ≡ suc (k + 1 - (c + 1))
suc_minus k c lt = omega arith

pub left_next : (o : Opening) (k c : ℕ) → c < k + 1 →
    others_left (rest_of o c (k + 1 - c)) ≡ rest_of o (c + 1) (k + 1 - (c + 1))
left_next o k c lt = ap (λ (n : ℕ). others_left (rest_of o c n)) (suc_minus k c lt)

pub one_next : (o : Opening) (k c : ℕ) → c < k + 1 →
    one_hand (rest_of o c (k + 1 - c)) ≡ new_hand o c
one_next o k c lt = ap (λ (n : ℕ). one_hand (rest_of o c n)) (suc_minus k c lt)

pub last_one : (o : Opening) (k c : ℕ) → c ≡ k → rest_of o c (k + 1 - c) ≡ new_hand o k
last_one o k c e =
    let one : k + 1 - c ≡ suc 0 = omega arith in
    ap (λ (z : ℕ × ℕ). rest_of o z.0 z.1) (λ i. (e i, one i))

pub are_push : (b : Board) (c : ℕ) (hs : List Hand) (h : Hand) → AreNewHands b c hs →
    IsHandOf b h → h.number ≡ c + length hs → view h ≡ new_hand (opening_of b) (c + length hs) →
    AreNewHands b c (hs ++ h ∷ [])
are_push b c [] h k of number is =
    (of, number ∙ omega arith, is ∙ ap (new_hand (opening_of b)) (omega arith), tt)
are_push b c (g ∷ hs) h k of number is = (
  k.0,
  k.1,
  k.2,
  are_push b (c + 1) hs h k.3 of (number ∙ omega arith)
      (is ∙ ap (new_hand (opening_of b)) (omega arith)),
)

pub new_following : (o : Opening) (c : ℕ) (v : View) → v ≡ new_hand o c → IsFollowing v
new_following o c v is =
    subst IsFollowing (sym is)
    (λ p of. merely (record {
      valid = tt;
      logged = λ hand one. record { stand = tt; ordered = tt; complete = refl };
    }))

pub new_crossings : (o : Opening) (c : ℕ) (v : View) → v ≡ new_hand o c →
    0 ≡ crossings c v.known % 2 ^ 64
new_crossings o c v is =
    let none : crossings c v.known ≡ 0 = ap (λ (z : View). crossings c z.known) is in omega arith

pub new_locked : (o : Opening) (c word : ℕ) (v : View) → v ≡ new_hand o c →
    KeepsLockedWord v c word
new_locked o c word v is =
    subst (λ (z : View). KeepsLockedWord z c word) (sym is) record {
      kept = λ p of caller place version removed before value e.
          absurd (holds_no_lock_first p c place (version, removed, before, value, e));
    }

pub new_opening : (o : Opening) (c : ℕ) (v : View) → v ≡ new_hand o c → v.opening ≡ Some o
new_opening o c v is = ap (λ (z : View). z.opening) is

-- ---- new hands are all hands ----

-- a new hand is outside of any read section
are_outside : (b : Board) (first : ℕ) (hands : List Hand) → AreNewHands b first hands →
    AreOutside b hands
are_outside b first [] new = tt
are_outside b first (h ∷ hands) new = (
  new.0,
  ap (λ (z : View). crossings h.number z.known % 2) new.2,
  are_outside b (first + 1) hands new.3,
)

-- their numbers are counted up
counted_up : (b : Board) (first : ℕ) (hands : List Hand) → AreNewHands b first hands →
    numbers_of hands ≡ counting first (length hands)
counted_up b first [] new = refl
counted_up b first (h ∷ hands) new =
    λ i. new.1 i ∷ counted_up b (first + 1) hands new.3 i

counting_has : (number first n : ℕ) → first ≤ number → number < first + n →
    In number (counting first n)
counting_has number first zero least most = absurd (omega arith)
counting_has number first (suc n) least most =
    dite (ℕ_discrete number first) inl
    (λ (more : number ≢ first).
    inr (counting_has number (first + 1) n (omega arith) (omega arith)))

-- the hands of a board that was just opened are all of its hands
pub all_new : (b : Board) (hands : List Hand) → HasNewHands b hands → AreAllHands b hands
all_new b hands has =
    record {
      outside = are_outside b 0 hands has.new;
      each = λ number is. let many = has.many in
          subst (In number) (sym (counted_up b 0 hands has.new))
          (counting_has number 0 (length hands) (omega arith) (omega arith));
    }
