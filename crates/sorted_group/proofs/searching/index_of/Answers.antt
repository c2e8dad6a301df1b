use Rattle.std.proofs.Common.{◌≡◌, ◌≢◌, ◌∙◌, ◌<◌, length, ap, arith, List, ℕ}
use Rattle.std.specs.Prelude.{slice_index}
use Rattle.line_window.specs.Search.{count_below}
use Rattle.sorted_group.proofs.Missing.{missing}
use Rattle.sorted_group.proofs.searching.index_of.Goals as goal
use Rattle.sorted_group.proofs.searching.index_of.Goals.{else-index-len-via-then-index-len+else-key}
use Rattle.sorted_group.proofs.searching.index_of.Goals.{else-index-len-via-else-index-len}

pub returns-then-key-clause-leads : goal.returns-then-key-clause-leads
returns-then-key-clause-leads g c =
    let laws = g.met.K.Keys in
    laws.leads_on _ _ _
    (laws.leads_on _ _ _ c.line_with-line.ensures.leads c.lower_bound-index.ensures.leads)
    c.key.ensures.leads

pub returns-else-index-len-clause-index : goal.returns-else-index-len-clause-index
returns-else-index-len-clause-index g c =
    let keys : List ℕ = g.K.Keys.list c.args.keys.now in
    let key : ℕ = c.args.key in
    let index : ℕ = c.lower_bound-index.result in
    let read : g.K.Keys.list c.lower_bound-index.new.keys ≡ keys =
    c.lower_bound-index.ensures.list ∙ c.line_with-line.ensures.list in
    let count : index ≡ count_below keys key =
    c.lower_bound-index.ensures.count
    ∙ ap (λ (y : List ℕ). count_below y key) c.line_with-line.ensures.list in
    let differs : index < length keys → slice_index keys index ≢ key =
    elim c.else-index-len.branch [
      | else-index-len-via-then-index-len+else-key w ↦ λ lt at.
          w.if-key.false (w.key.ensures.key ∙ (ap (λ (y : List ℕ). slice_index y index) read ∙ at))
      | else-index-len-via-else-index-len w ↦ λ lt at.
          let far = w.if-index-len.false in
          let len = c.len.ensures in
          omega (arith, lt, far, len, ap length read)
    ] in
    (count, missing keys key index c.requires.rising count differs)
