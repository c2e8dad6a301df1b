use Rattle.std.proofs.Common.{ℕ, refl, sym, ◌∙◌, subst}
use Rattle.word_layout.specs.Words.{FreeHead}
use Rattle.index_machine.specs.declared.events.Action.TheVariants.{FailPop, LoadFree, LoadFreeLink}
use Rattle.index_machine.specs.declared.events.Action.TheVariants.{PopFree}
use Rattle.index_rule.specs.declared.hand.Hand.{Hand}
use Rattle.index_rule.specs.Hands.{Makes}
use Rattle.index_rule.specs.OwnRows.{place_of_private}
use Rattle.point_calls.proofs.Knowing.{call_since}
use Rattle.point_calls.proofs.LeftWords.{head_elsewhere, left_on, made_at, made_behind}
use Rattle.point_calls.proofs.NewRows.{made_there, may_on}
use Rattle.point_calls.proofs.CallExchanges.{take_makes_one}
use Rattle.point_calls.proofs.linking.own_row.Goals as goal

pub returns-in-Row-clause-may : goal.returns-in-Row-clause-may
returns-in-Row-clause-may c =
    let b = c.args.board.now in
    let h = c.args.start.now.value in
    let n = c.args.hand.now in
    let k = c.take-in-None.new.hand in
    let gap = c.args.gap in
    let s = c.in-Row.ensures.steps in
    let all = s.1.1 in
    let x : ℕ = place_of_private c.in-Row.row in
    let last = all.0 in
    let one = all.1.0 in
    let loads : Makes b n (LoadFree x) one =
    subst (λ (z : Hand). Makes b z (LoadFree x) one) all.1.1.1 all.1.1.2 in
    let may1 = may_on b h n one gap (LoadFree x)
    (record {
      none = tt;
      free = λ z. z;
      keeps = λ o t log. refl;
      elsewhere = tt;
      unbegun = λ g z. let bad = z.3 in cc;
    })
    loads c.requires.may in
    let may2 = may_on b h one last gap (LoadFreeLink x s.1.0)
    (record {
      none = tt;
      free = λ z. z;
      keeps = λ o t log. refl;
      elsewhere = tt;
      unbegun = λ g z. let bad = z.3 in cc;
    }) all.1.2 may1 in
    may_on b h last k gap (PopFree x s.1.0)
    (record {
      none = tt;
      free = λ z. z;
      keeps = λ o t log. refl;
      elsewhere = head_elsewhere gap.lane.group gap.lane.number gap.before;
      unbegun = λ g z. let bad = z.3 in cc;
    }) all.2 may2

pub returns-in-Empty-clause-may : goal.returns-in-Empty-clause-may
returns-in-Empty-clause-may c =
    let b = c.args.board.now in
    let h = c.args.start.now.value in
    let n = c.args.hand.now in
    let k = c.take-in-None.new.hand in
    let gap = c.args.gap in
    let s = c.in-Empty.ensures.steps in
    let loads : Makes b n (LoadFree 0) k = subst (λ (z : Hand). Makes b z (LoadFree 0) k) s.1 s.2 in
    may_on b h n k gap (LoadFree 0)
    (record {
      none = tt;
      free = λ z. z;
      keeps = λ o t log. refl;
      elsewhere = tt;
      unbegun = λ g z. let bad = z.3 in cc;
    })
    loads c.requires.may

pub returns-in-Empty-clause-answer : goal.returns-in-Empty-clause-answer
returns-in-Empty-clause-answer c =
    let b = c.args.board.now in
    let h = c.args.start.now.value in
    let n = c.args.hand.now in
    let k = c.take-in-None.new.hand in
    let gap = c.args.gap in
    let s = c.in-Empty.ensures.steps in
    let loads : Makes b n (LoadFree 0) k = subst (λ (z : Hand). Makes b z (LoadFree 0) k) s.1 s.2 in
    let may = may_on b h n k gap (LoadFree 0)
    (record {
      none = tt;
      free = λ z. z;
      keeps = λ o t log. refl;
      elsewhere = tt;
      unbegun = λ g z. let bad = z.3 in cc;
    })
    loads c.requires.may in (
      sym c.take.ensures.value ∙ c.in-None.is,
      c.in-Empty.ensures.holds,
      (
        made_there b h n k gap (LoadFree 0) c.requires.may loads,
        may.may.missing,
        c.in-Empty.ensures.used_up refl,
        may.no_row,
        may.may.room,
      ),
    )

pub returns-in-Raced-clause-may : goal.returns-in-Raced-clause-may
returns-in-Raced-clause-may c =
    let b = c.args.board.now in
    let h = c.args.start.now.value in
    let n = c.args.hand.now in
    let k = c.take-in-None.new.hand in
    let gap = c.args.gap in
    let s = c.in-Raced.ensures.steps in
    let all = s.2.1 in
    let x : ℕ = c.in-Raced.expected in
    let last = all.0 in
    let one = all.1.0 in
    let loads : Makes b n (LoadFree x) one =
    subst (λ (z : Hand). Makes b z (LoadFree x) one) all.1.1.1 all.1.1.2 in
    let may1 = may_on b h n one gap (LoadFree x)
    (record {
      none = tt;
      free = λ z. z;
      keeps = λ o t log. refl;
      elsewhere = tt;
      unbegun = λ g z. let bad = z.3 in cc;
    })
    loads c.requires.may in
    let may2 = may_on b h one last gap (LoadFreeLink x s.2.0)
    (record {
      none = tt;
      free = λ z. z;
      keeps = λ o t log. refl;
      elsewhere = tt;
      unbegun = λ g z. let bad = z.3 in cc;
    }) all.1.2 may1 in
    may_on b h last k gap (FailPop x c.in-Raced.found)
    (record {
      none = tt;
      free = λ z. z;
      keeps = λ o t log. refl;
      elsewhere = tt;
      unbegun = λ g z. let bad = z.3 in cc;
    }) all.2 may2

pub returns-in-Raced-clause-answer : goal.returns-in-Raced-clause-answer
returns-in-Raced-clause-answer c =
    let b = c.args.board.now in
    let h = c.args.start.now.value in
    let n = c.args.hand.now in
    let k = c.take-in-None.new.hand in
    let gap = c.args.gap in
    let s = c.in-Raced.ensures.steps in
    let all = s.2.1 in
    let x : ℕ = c.in-Raced.expected in
    let last = all.0 in
    let one = all.1.0 in
    let loads : Makes b n (LoadFree x) one =
    subst (λ (z : Hand). Makes b z (LoadFree x) one) all.1.1.1 all.1.1.2 in
    let may1 = may_on b h n one gap (LoadFree x)
    (record {
      none = tt;
      free = λ z. z;
      keeps = λ o t log. refl;
      elsewhere = tt;
      unbegun = λ g z. let bad = z.3 in cc;
    })
    loads c.requires.may in
    let may2 = may_on b h one last gap (LoadFreeLink x s.2.0)
    (record {
      none = tt;
      free = λ z. z;
      keeps = λ o t log. refl;
      elsewhere = tt;
      unbegun = λ g z. let bad = z.3 in cc;
    }) all.1.2 may1 in (
      sym c.take.ensures.value ∙ c.in-None.is,
      c.in-Raced.ensures.holds,
      record {
        is_address = c.free_head.ensures.address;
        steps = made_behind b h last k (LoadFree x) (FailPop x c.in-Raced.found) FreeHead
            may2.call.so_far.number may2.search.call.of
            (left_on b h one last (LoadFree x) (LoadFreeLink x s.2.0) FreeHead may1.call.so_far.number
            may1.search.call.of tt all.1.2
            (made_at b h n one (LoadFree x) FreeHead (call_since b h n c.requires.may.call)
            c.requires.may.call.so_far.number c.requires.may.search.call.of loads))
            all.2;
        differ = s.1;
      },
    )

pub returns-in-Row-clause-exchanges : goal.returns-in-Row-clause-exchanges
returns-in-Row-clause-exchanges c =
    take_makes_one c.args.board.now c.args.hand.now c.take-in-None.result c.take-in-None.new.hand
    c.requires.may.search.call.of c.take-in-None.ensures.steps

pub returns-in-Empty-clause-exchanges : goal.returns-in-Empty-clause-exchanges
returns-in-Empty-clause-exchanges c =
    take_makes_one c.args.board.now c.args.hand.now c.take-in-None.result c.take-in-None.new.hand
    c.requires.may.search.call.of c.take-in-None.ensures.steps

pub returns-in-Raced-clause-exchanges : goal.returns-in-Raced-clause-exchanges
returns-in-Raced-clause-exchanges c =
    take_makes_one c.args.board.now c.args.hand.now c.take-in-None.result c.take-in-None.new.hand
    c.requires.may.search.call.of c.take-in-None.ensures.steps
