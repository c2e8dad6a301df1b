use Rattle.std.proofs.Common.{arith, ◌≡◌, ◌<◌, ◌≤◌, ℕ, suc, List, refl, ap, subst, ◌∙◌}
use Rattle.std.specs.Prelude.{slice_index}
use Rattle.word_layout.specs.declared.layout.Layout.{Layout}
use Rattle.word_layout.specs.declared.limits.Limits.{Limits}
use Rattle.word_layout.specs.Layout.{limits_of}
use Rattle.index_machine.specs.declared.events.Action.TheVariants.{LoadEpoch}
use Rattle.index_machine.specs.Words.{limits}
use Rattle.index_rule.specs.Hands.{Makes, known, opening_of}
use Rattle.index_rule.proofs.Stepping.{continues, epoch_is}
use Rattle.reader_epochs.specs.Marking.{Passes}
use Rattle.reader_epochs.proofs.Passing.{marks_stay, passed_more, quiet}
use Rattle.reader_epochs.proofs.marks.Marks.check.Goals as goal

pub returns-then-not-passes-clause-steps : goal.returns-then-not-passes-clause-steps
returns-then-not-passes-clause-steps c =
    let looked = c.loop-self.invariant.looked in
    let waits = c.if-not-passes.ensures in (
      looked.0,
      looked.1,
      refl,
      waits.0,
      waits.1 ∙ ap (λ (words : List ℕ). slice_index words c.loop-self.self.passed) looked.1.words,
      (c.loop-self.hand, looked.2, c.load_epoch-word.ensures),
    )

pub returns-then-not-passes-clause-marks : goal.returns-then-not-passes-clause-marks
returns-then-not-passes-clause-marks c =
    let b = c.args.board.now in
    let i = c.loop-self.invariant in
    let m = c.load_epoch-word.ensures in
    marks_stay (opening_of b) c.loop-self.self (known c.loop-self.hand) (known c.load_epoch-word.new.hand)
    (continues b c.loop-self.hand c.load_epoch-word.new.hand
    (LoadEpoch c.loop-self.self.passed c.load_epoch-word.result) i.of m)
    i.marks

pub loop-self-preserved : goal.loop-self-preserved
loop-self-preserved c =
    let b = c.args.board.now in
    let o = opening_of b in
    let i = c.loop-self.invariant in
    let marks = c.loop-self.self in
    let h = c.loop-self.hand in
    let k = c.load_epoch-word.new.hand in
    let word : ℕ = c.load_epoch-word.result in
    let m = c.load_epoch-word.ensures in
    let grows = i.looked.1 in
    let test : Passes (slice_index marks.words marks.passed) word = c.if-not-passes.ensures in
    let callers : c.limits-callers.result.callers ≡ (limits o).callers =
    ap (λ (l : Limits). l.callers) c.limits-callers.ensures.limits
    ∙ ap (λ (l : Layout). (limits_of l).callers) c.layout.ensures
    in
    let below : marks.passed < (limits o).callers =
    subst (λ (z : ℕ). marks.passed < z) callers c.loop-self-test.true
    in
    let many = grows.passed in
    record {
      of = m.of;
      marks = passed_more o marks (known k) word below
          (marks_stay o marks (known h) (known k)
          (continues b h k (LoadEpoch marks.passed word) i.of m) i.marks)
          (epoch_is b h k marks.passed word i.of m) test;
      looked = (
        suc i.looked.0,
        record { words = grows.words; began = grows.began; passed = omega arith },
        (
          h,
          word,
          i.looked.2,
          subst (λ (z : ℕ). Makes b h (LoadEpoch z word) k) many m,
          subst (λ (z : List ℕ × ℕ). Passes (slice_index z.0 z.1) word)
              (λ j. (grows.words j, many j)) test,
        ),
      );
    }

pub returns-clause-quiet : goal.returns-clause-quiet
returns-clause-quiet c is =
    let o = opening_of c.args.board.now in
    let callers : c.limits-callers.result.callers ≡ (limits o).callers =
    ap (λ (l : Limits). l.callers) c.limits-callers.ensures.limits
    ∙ ap (λ (l : Layout). (limits_of l).callers) c.layout.ensures
    in
    quiet o c.loop-self.self (known c.loop-self.hand)
    (subst (λ (z : ℕ). z ≤ c.loop-self.self.passed) callers c.loop-self-test.false)
    c.loop-self.invariant.marks
