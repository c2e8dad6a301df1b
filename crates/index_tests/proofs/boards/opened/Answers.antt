use Rattle.std.proofs.Common.{◌≡◌, ℕ, zero, suc, ◌*◌, ◌<◌, ◌≤◌, List, ◌∙◌, ap, length, subst, sym, arith}
use Rattle.rebuild_plan.specs.Plan.{fill_limit}
use Rattle.word_layout.specs.declared.layout.Layout.{Layout}
use Rattle.word_layout.specs.declared.limits.Limits.{Limits}
use Rattle.word_layout.specs.Layout.{bounds_of, limits_of}
use Rattle.index_rule.specs.declared.hand.Hand.{Hand}
use Rattle.index_rule.specs.Hands.{opening_of}
use Rattle.index_rule.specs.Opened.{AreNewHands}
use Rattle.index_tests.proofs.OneGroups.{one_group_each, rows_fit}
use Rattle.index_tests.proofs.boards.opened.Goals as goal

pub open-requires-clause-rising : goal.open-requires-clause-rising
open-requires-clause-rising g c = c.requires.rising

-- so many times are no fewer than once
some_times : (n many : ℕ) → 0 < n → many ≤ n * many
some_times zero many some = absurd (omega arith)
some_times (suc n) many some = omega arith

pub open-requires-clause-fits : goal.open-requires-clause-fits
open-requires-clause-fits g c =
    let laid = c.in-Ok.ensures.limits in
    let least = c.in-Ok.layout.kept.least_groups in
    let few = subst (λ (l : Limits). length c.args.rows.now ≤ fill_limit l.group_size) (sym laid) c.requires.few in
    let some = some_times (limits_of c.in-Ok.layout).groups (fill_limit (limits_of c.in-Ok.layout).group_size)
    (omega (arith, least))
    in
    rows_fit c.in-Ok.layout c.args.rows.now (omega (arith, few, some))

pub returns-clause-board : goal.returns-clause-board
returns-clause-board g c =
    let laid = c.in-Ok.ensures.limits in
    let kept = c.in-Ok-open.ensures.layout in
    let o = opening_of c.in-Ok-open.board in
    let size : (limits_of o.layout).group_size ≡ c.args.limits.group_size =
    ap (λ (z : Layout). (limits_of z).group_size) kept ∙ ap (λ (l : Limits). l.group_size) laid
    in
    let rows : length o.rows ≡ length c.args.rows.now = ap length c.in-Ok-open.ensures.rows in
    let few = subst (λ (z : ℕ × ℕ). z.0 ≤ fill_limit z.1) (λ i. (sym rows i, sym size i)) c.requires.few in
    record {
      callers = ap (λ (z : Layout). (limits_of z).callers) kept ∙ ap (λ (l : Limits). l.callers) laid;
      groups = ap (λ (z : Layout). (limits_of z).groups) kept ∙ ap (λ (l : Limits). l.groups) laid;
      one_group = record {
        one_part = ap (λ (z : Layout). bounds_of z) kept ∙ c.in-Ok.ensures.parts;
        one = one_group_each o few 0 (omega arith);
      };
      rows = c.in-Ok-open.ensures.rows;
    }

pub returns-clause-hands : goal.returns-clause-hands
returns-clause-hands g c =
    subst (λ (hands : List Hand). AreNewHands c.in-Ok-open.board 0 hands)
    (sym c.into_iter.ensures.rest) c.in-Ok-open.ensures.hands.new
