use Rattle.std.proofs.Common.{rules, arith, ◌≡◌, ◌<◌, ◌+◌, length, sym, ap, subst, ◌∙◌, ℕ}
use Rattle.index_rule.specs.declared.view.View.{View}
use Rattle.index_rule.specs.Hands.{opening_of}
use Rattle.index_rule.specs.Opened.{AreNewHands}
use Rattle.index_rule.specs.Seats.{new_hand, one_hand, others_left, rest_of}
use Rattle.index_rule.proofs.Opens.{left_next, one_next, last_one, are_push, new_following}
use Rattle.index_rule.proofs.Opens.{new_crossings, new_locked, new_opening}
use Rattle.index_rule.proofs.Seats.{makes_hand}
use Rattle.index_rule.proofs.board.Board.make_hands.Goals as goal

pub loop-number-init : goal.loop-number-init
loop-number-init c =
    let b = c.args.self.now in
    let all = c.last_hand-last.ensures in
    record {
      table = c.requires.table;
      all = all;
      seat = c.requires.first
          ∙ ap (λ (n : ℕ). rest_of (opening_of b) 0 n) (omega arith);
      bare = c.requires.bare;
      many = search rules;
      hands = search rules;
    }

pub split_seat-one-requires : goal.split_seat-one-requires
split_seat-one-requires c =
    let s = c.loop-number.seat in
    let i = c.loop-number.invariant in (
      i.table,
      search rules,
      makes_hand (opening_of c.args.self.now) s.id s.me.0
          (ap (λ (z : View). z.opening) i.seat) (ap (λ (z : View). z.heard) i.seat)
          (ap (λ (z : View). z.known) i.seat) (ap (λ (z : View). z.log) i.seat),
    )

pub invariant_of-push : goal.invariant_of-push
invariant_of-push c =
    let o = opening_of c.args.self.now in
    let k : ℕ = c.last_hand-last.result in
    let n : ℕ = c.loop-number.number in
    let below : n < k = c.loop-number-test.true in
    let is = ap (λ z. z.0) c.split_seat-one.ensures.4
    ∙ (ap one_hand c.loop-number.invariant.seat ∙ one_next o k n (omega arith))
    in
    record {
      mine = ap (λ (z : View). z.numbers) is;
      counted = new_crossings o n _ is;
      following = new_following o n _ is;
      locks = new_locked o n 0 _ is;
      bare = ap (λ z. z.1) c.split_seat-one.ensures.4;
    }

pub loop-number-preserved : goal.loop-number-preserved
loop-number-preserved c =
    let b = c.args.self.now in
    let o = opening_of b in
    let k : ℕ = c.last_hand-last.result in
    let n : ℕ = c.loop-number.number in
    let below : n < k = c.loop-number-test.true in
    let i = c.loop-number.invariant in
    let e = c.split_seat-one.ensures in
    let is = ap (λ z. z.0) e.4 ∙ (ap one_hand i.seat ∙ one_next o k n (omega arith)) in
    let many = i.many in
    let at : n ≡ 0 + length c.loop-number.hands.items = omega arith in
    let items = c.in_ok-push.ensures.items in
    record {
      table = e.0 ∙ i.table;
      all = i.all;
      seat = ap (λ z. z.0) e.2 ∙ (ap others_left i.seat ∙ left_next o k n (omega arith));
      bare = ap (λ z. z.1) e.2 ∙ i.bare;
      many = search rules;
      hands = subst (AreNewHands b 0) (sym items)
          (are_push b 0 _ _ i.hands
          (record { table = e.3 ∙ i.table; opened = new_opening o n _ is })
          at
          (is ∙ ap (new_hand o) at));
    }

pub invariant_of-push-2 : goal.invariant_of-push-2
invariant_of-push-2 c =
    let o = opening_of c.args.self.now in
    let k : ℕ = c.last_hand-last.result in
    let n : ℕ = c.loop-number.number in
    let i = c.loop-number.invariant in
    let end : n ≡ k = search rules in
    let is = i.seat ∙ last_one o k n end in
    record {
      mine = ap (λ (z : View). z.numbers) is;
      counted = new_crossings o k _ is;
      following = new_following o k _ is;
      locks = new_locked o k 0 _ is;
      bare = i.bare;
    }

pub returns : goal.returns
returns c =
    let b = c.args.self.now in
    let o = opening_of b in
    let k : ℕ = c.last_hand-last.result in
    let n : ℕ = c.loop-number.number in
    let i = c.loop-number.invariant in
    let end : n ≡ k = search rules in
    let is = i.seat ∙ last_one o k n end in
    let many = i.many in
    let at : k ≡ 0 + length c.loop-number.hands.items = omega arith in
    let items = c.in_ok-push-2.ensures.items in
    let all = i.all in
    record {
      many = search rules;
      new = subst (AreNewHands b 0) (sym items)
          (are_push b 0 _ _ i.hands
          (record { table = i.table; opened = new_opening o k _ is })
          at
          (is ∙ ap (new_hand o) at));
    }
