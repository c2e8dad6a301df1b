use Rattle.std.proofs.Common.{◌≡◌, ◌+◌, ◌*◌, ◌<◌, ℕ, List, length, slice_index, slice_index_or, slice_set, sym, ap, subst, ◌∙◌, arith}
use Rattle.rebuild_plan.specs.Plan.{lane_count, lane_width}
use Rattle.rebuild_plan.specs.Keys.{cut_of}
use Rattle.word_layout.specs.Headers.{most_lanes}
use Rattle.word_layout.specs.Layout.{shape_of}
use Rattle.word_layout.specs.Words.{Header}
use Rattle.word_layout.specs.declared.headers.HeaderWord.TheVariants as header
use Rattle.word_layout.proofs.WordNames.{address_of-within}
use Rattle.opened_table.specs.Laying.{LaysCuts, keys_in}
use Rattle.opened_table.proofs.LaidHeaders.{cut_at, cut_more, no_cuts}
use Rattle.opened_table.proofs.LaidKeys.{key_in, length_of_keys}
use Rattle.opened_table.proofs.laying.lay_cuts.Goals as goal

pub loop-lane-init : goal.loop-lane-init
loop-lane-init c =
    let s = shape_of c.args.layout.now in
    let group : ℕ = c.args.group in
    let pivot : ℕ = c.args.pivot in
    let keys : List ℕ = keys_in c.args.rows.now in
    let old : List ℕ = c.args.words.now.items in
    record {
      done = subst (λ (z : ℕ). LaysCuts s group pivot keys 1 old (slice_set old z pivot))
          (sym c.lane_cut.ensures.named)
          (cut_more s group pivot keys 0 old old c.requires.is_group c.requires.wide (omega arith)
          (no_cuts s group pivot keys old));
    }

pub index_mut-requires-in-loop-lane : goal.index_mut-requires-in-loop-lane
index_mut-requires-in-loop-lane c =
    let s = shape_of c.args.layout.now in
    let group : ℕ = c.args.group in
    let lane : ℕ = c.loop-lane.lane in
    let below : lane < most_lanes =
    let lt = c.loop-lane-test.true in let most = c.lanes_for-lane-end.ensures.most in omega arith
    in
    let within = address_of-within s (Header group (header.Cut lane)) (c.requires.is_group, below) in
    let at = c.lane_cut-in-loop-lane.ensures.named in
    let wide = c.loop-lane.invariant.done.wide ∙ c.requires.wide in
    let len = c.loop-lane.words.ok.0 in
    omega arith

pub loop-lane-preserved : goal.loop-lane-preserved
loop-lane-preserved c =
    let s = shape_of c.args.layout.now in
    let group : ℕ = c.args.group in
    let pivot : ℕ = c.args.pivot in
    let rows = c.args.rows.now in
    let keys : List ℕ = keys_in rows in
    let lane : ℕ = c.loop-lane.lane in
    let width : ℕ = c.lane_width-width.result in
    let old : List ℕ = c.args.words.now.items in
    let words : List ℕ = c.loop-lane.words.items in
    let below : lane < most_lanes =
    let lt = c.loop-lane-test.true in let most = c.lanes_for-lane-end.ensures.most in omega arith
    in
    let is_width : width ≡ lane_width (length keys) =
    c.lane_width-width.ensures.width ∙ ap lane_width (sym (length_of_keys rows))
    in
    let number : c.from.result * width ≡ lane * lane_width (length keys) =
    ap (λ (z : ℕ). z * width) c.from.ensures ∙ ap (λ (z : ℕ). lane * z) is_width
    in
    let key : (slice_index_or rows (c.from.result * width) (0, 0)).0 ≡ cut_of pivot keys lane =
    sym (key_in rows (c.from.result * width))
    ∙ (ap (slice_index keys) number ∙ sym (cut_at pivot keys lane c.loop-lane.auto.lane))
    in
    record {
      done = subst
          (λ (z : ℕ × ℕ). LaysCuts s group pivot keys (lane + 1) old (slice_set words z.0 z.1))
          (λ j. (sym c.lane_cut-in-loop-lane.ensures.named j, sym key j))
          (cut_more s group pivot keys lane old words c.requires.is_group c.requires.wide below
          c.loop-lane.invariant.done);
    }

pub returns : goal.returns
returns c =
    let keys : List ℕ = keys_in c.args.rows.now in
    let over = c.loop-lane-test.false in
    let some = c.lanes_for-lane-end.ensures.some in
    let upto = c.loop-lane.auto.lane-end some in
    let count : c.loop-lane.lane ≡ lane_count (length keys) =
    let last : c.loop-lane.lane ≡ c.lanes_for-lane-end.result = omega arith in
    last
    ∙ (c.lanes_for-lane-end.ensures.count ∙ ap lane_count (sym (length_of_keys c.args.rows.now)))
    in
    subst
    (λ (z : ℕ).
    LaysCuts (shape_of c.args.layout.now) c.args.group c.args.pivot keys z c.args.words.now.items
    c.loop-lane.words.items)
    count c.loop-lane.invariant.done
