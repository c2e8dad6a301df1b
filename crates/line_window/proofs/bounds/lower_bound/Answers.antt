use Rattle.std.proofs.Common.{◌≡◌, ◌∙◌, ◌+◌, ◌-◌, ◌/◌, ◌<◌, ◌≤◌, ap, get_or, refl, arith}
use Rattle.line_window.specs.Line.{Parts}
use Rattle.line_window.specs.Search.{count_below, probes_of}
use Rattle.line_window.proofs.Counts.{count-above, count-below}
use Rattle.line_window.proofs.Halvings.{comparisons-met, comparisons-above, comparisons-below}
use Rattle.line_window.proofs.Windows.{probes_of-few}
use Rattle.line_window.proofs.bounds.lower_bound.Goals as goal

pub loop-low-preserved-then-key : goal.loop-low-preserved-then-key
loop-low-preserved-then-key g c =
    let keys = g.K.Keys.list c.args.keys.now in
    let low = c.loop-low.low in
    let high = c.loop-low.high in
    let middle = low + (high - low) / 2 in
    let read : c.key.result ≡ get_or keys middle 0 = rw (← c.loop-low.invariant.list) c.key.ensures.key in
    let smaller : get_or keys middle 0 < c.args.key = omega arith in
    let above : middle < count_below keys c.args.key = count-above keys c.args.key middle c.requires.rising (omega arith) smaller in
    let cost = comparisons-above (count_below keys c.args.key) low high middle (omega arith) (omega arith) above in
    record {
      list = c.key.ensures.list ∙ c.loop-low.invariant.list;
      origin = c.key.ensures.origin ∙ c.loop-low.invariant.origin;
      above = omega arith;
      below = omega arith;
      within = omega arith;
      cost = omega arith;
      fits = omega arith;
      reads = omega arith;
      reads_kept = omega arith;
      leads = g.met.K.Keys.leads_on _ _ _ c.loop-low.invariant.leads c.key.ensures.leads;
    }

pub loop-low-preserved : goal.loop-low-preserved
loop-low-preserved g c =
    let keys = g.K.Keys.list c.args.keys.now in
    let low = c.loop-low.low in
    let high = c.loop-low.high in
    let middle = low + (high - low) / 2 in
    let read : c.key.result ≡ get_or keys middle 0 = rw (← c.loop-low.invariant.list) c.key.ensures.key in
    let greater : c.args.key ≤ get_or keys middle 0 = omega arith in
    let below : count_below keys c.args.key ≤ middle = count-below keys c.args.key middle c.requires.rising (omega arith) greater in
    let cost = comparisons-below (count_below keys c.args.key) low high middle (omega arith) (omega arith) below in
    record {
      list = c.key.ensures.list ∙ c.loop-low.invariant.list;
      origin = c.key.ensures.origin ∙ c.loop-low.invariant.origin;
      above = omega arith;
      below = omega arith;
      within = omega arith;
      cost = omega arith;
      fits = omega arith;
      reads = omega arith;
      reads_kept = omega arith;
      leads = g.met.K.Keys.leads_on _ _ _ c.loop-low.invariant.leads c.key.ensures.leads;
    }

pub returns-clause-probes : goal.returns-clause-probes
returns-clause-probes g c =
    let keys = g.K.Keys.list c.args.keys.now in
    let met = comparisons-met (count_below keys c.args.key) c.loop-low.low c.loop-low.high (omega arith) in
    let all : c.loop-low.comparisons ≡ probes_of keys c.args.key = omega (arith, met, c.loop-low.invariant.cost) in
    rw (c.add.ensures, all) refl

pub returns-clause-few : goal.returns-clause-few
returns-clause-few g c =
    let keys = g.K.Keys.list c.args.keys.now in
    omega (arith, probes_of-few keys c.args.key, ap (λ (p : Parts). p.error) c.requires.line)
