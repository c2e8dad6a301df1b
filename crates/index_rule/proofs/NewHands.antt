-- The hands of a board before their first step.
use Rattle.std.proofs.Common.{◌≡◌, ℕ, ◌+◌, List, [], ◌∷◌, ◌++◌, length, ap, subst, sym, arith}
use Rattle.index_machine.specs.declared.opening.Opening.{Opening}
use Rattle.index_machine.specs.Execution.{Execution}
use Rattle.index_machine.specs.Rows.{HoldsNone}
use Rattle.index_machine.proofs.OpeningRows.{opening_role-held}
use Rattle.index_rule.specs.declared.board.Board.{Board}
use Rattle.index_rule.specs.declared.hand.Hand.{Hand}
use Rattle.index_rule.specs.declared.view.View.{View}
use Rattle.index_rule.specs.Opened.{AreNewHands, IsNew}

-- the last hand of a list of new ones
last_new : (b : Board) (n : ℕ) (hs : List Hand) (h : Hand) → AreNewHands b n (hs ++ h ∷ []) →
    AreNewHands b n hs × IsNew b (n + length hs) h
last_new b n [] h new = (
  tt,
  record {
    of = new.0;
    numbered = let e = new.1 in omega arith;
    first = ap (λ (v : View). v.known) new.2;
  },
)
last_new b n (g ∷ hs) h new =
    let rest = last_new b (n + 1) hs h new.3 in (
      (new.0, new.1, new.2, rest.0),
      record {
        of = rest.1.of;
        numbered = let e = rest.1.numbered in omega arith;
        first = rest.1.first;
      },
    )

-- the last of all
pub last_of_all : (b : Board) (all hs : List Hand) (h : Hand) → all ≡ hs ++ h ∷ [] →
    AreNewHands b 0 all → AreNewHands b 0 hs × IsNew b (length hs) h
last_of_all b all hs h is new =
    let parts = last_new b 0 hs h (subst (AreNewHands b 0) is new) in
    let same : 0 + length hs ≡ length hs = omega arith in
    (parts.0, subst (λ (n : ℕ). IsNew b n h) same parts.1)

-- a hand that made no step holds no row
pub none_first : (o : Opening) (hand : ℕ) (t : Execution) → t ≡ [] → HoldsNone o hand t
none_first o hand t e =
    subst (HoldsNone o hand) (sym e) (λ place held. opening_role-held o place hand held)
