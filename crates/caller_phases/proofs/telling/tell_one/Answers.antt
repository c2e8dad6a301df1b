use Rattle.std.proofs.Common.{◌+◌, ◌≡◌, ℕ, length, arith, ap, subst, sym}
use Rattle.caller_phases.proofs.Hearing.{HearsUpTo, hears_all, hears_more, hears_none, hears_own}
use Rattle.caller_phases.proofs.telling.tell_one.Goals as goal
use Rattle.caller_phases.proofs.telling.tell_one.Goals.{then-other-own, else-other-own}

pub loop-other-init : goal.loop-other-init
loop-other-init c =
    hears_none c.args.index.now c.args.passes.now.items c.args.own c.requires.own c.requires.of

pub loop-other-preserved : goal.loop-other-preserved
loop-other-preserved c =
    let i = c.args.index.now in
    let old = c.args.passes.now.items in
    let own = c.args.own in
    let other = c.loop-other.other in
    let now = c.loop-other.passes.items in
    let low = c.loop-other-test.true in
    let many = c.len-other-end.ensures in
    let long = c.args.passes.now.ok.0 in
    elim c.if-other-own.branch [
      | then-other-own w ↦
          let last = ap (λ v. v.items) w.passes-is in
          subst (HearsUpTo i old own (other + 1)) (sym last)
          (hears_more i old own other now w.index_mut.result.now w.index_mut-then-other-own.result.now _
          w.tell-note.new.self w.heed.new.self c.requires.own (omega arith) w.if-other-own.true
          c.loop-other.invariant w.index_mut.ensures.value w.tell-note.ensures.pass w.tell-note.ensures.known
          w.index_mut-then-other-own.ensures.value w.heed.ensures)
      | else-other-own w ↦
          let last = ap (λ v. v.items) w.passes-is in
          let same = w.if-other-own.false in
          subst (HearsUpTo i old own (other + 1)) (sym last)
          (subst (λ (n : ℕ). HearsUpTo i old own (n + 1) now) (sym same)
          (hears_own i old own now c.requires.own
          (subst (λ (n : ℕ). HearsUpTo i old own n now) same c.loop-other.invariant)))
    ]

pub returns : goal.returns
returns c =
    let past = c.loop-other-test.false in
    let most = c.loop-other.auto.other-end in
    let many = c.len-other-end.ensures in
    let long = c.args.passes.now.ok.0 in
    let all : c.loop-other.other ≡ length c.args.passes.now.items = omega arith in
    hears_all c.args.index.now c.args.passes.now.items c.args.own c.loop-other.passes.items c.requires.own
    (subst (λ (n : ℕ). HearsUpTo c.args.index.now c.args.passes.now.items c.args.own n c.loop-other.passes.items)
    all c.loop-other.invariant)
