use Rattle.std.proofs.Common.{rules, arith, ◌≡◌, ◌<◌, ℕ, List, length, sym, ap, subst, ◌∙◌}
use Rattle.word_layout.specs.declared.layout.Layout.{Layout}
use Rattle.word_layout.specs.declared.limits.Limits.{Limits}
use Rattle.word_layout.specs.Layout.{limits_of}
use Rattle.index_machine.specs.declared.events.Action.{Action}
use Rattle.index_machine.specs.declared.events.Action.TheVariants.{LoadEpoch}
use Rattle.index_machine.proofs.Executions.{continues_trans}
use Rattle.index_rule.specs.Hands.{MakesAll, known, opening_of}
use Rattle.index_rule.proofs.Stepping.{continues, epoch_is}
use Rattle.reader_epochs.proofs.Passing.{loads_more, marked_more}
use Rattle.reader_epochs.proofs.marks.Marks.mark.Goals as goal

pub loop-caller-preserved : goal.loop-caller-preserved
loop-caller-preserved c =
    let b = c.args.board.now in
    let i = c.loop-caller.invariant in
    let n : ℕ = c.loop-caller.caller in
    let h = c.loop-caller.hand in
    let k = c.load_epoch.new.hand in
    let word : ℕ = c.load_epoch.result in
    let m = c.load_epoch.ensures in
    let began = c.of-began.result.value in
    let callers : c.limits-caller-end.result.callers ≡ (limits_of (opening_of b).layout).callers =
    ap (λ (l : Limits). l.callers) c.limits-caller-end.ensures.limits
    ∙ ap (λ (l : Layout). (limits_of l).callers) c.layout.ensures
    in
    let most = (opening_of b).layout.kept.most_callers in
    let below = c.loop-caller-test.true in
    let wide = i.room in
    let room : n < length c.loop-caller.words = omega arith in
    let goes_on = continues b h k (LoadEpoch n word) i.of m in
    let all = continues_trans (known began) (known h) (known k) i.continues goes_on in
    record {
      room = search rules;
      of = m.of;
      continues = all;
      steps = subst (λ (z : List Action). MakesAll b began z k)
          (sym (loads_more c.loop-caller.words n word room)) (h, i.steps, m);
      told = marked_more c.loop-caller.words n word (known began) (known h) (known k) room all goes_on
          (epoch_is b h k n word i.of m) i.told;
    }
