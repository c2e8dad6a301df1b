use Rattle.std.proofs.Common.{arith, ◌≡◌, ◌≢◌, ◌<◌, ℕ, List, length, set, slice_index, sym, ap, ◌∙◌, subst}
use Rattle.std.proofs.Common.{get_or-set_same, get_or-set_other, length-set}
use mathlib.Core.Logic.{dite}
use native.Mathlib.Decide.{ℕ_discrete}
use Rattle.std.specs.Slots.{slots_items}
use Rattle.word_layout.specs.declared.layout.Layout.{Layout}
use Rattle.word_layout.specs.Layout.{shape_of}
use Rattle.word_layout.specs.Limits.{word_count}
use Rattle.index_rule.specs.Hands.{opening_of}
use Rattle.index_rule.specs.Offsets.{offset_count, offset_of}
use Rattle.index_rule.proofs.Ending.{got, leaves_gathered}
use Rattle.index_rule.proofs.board.Board.close_into.Goals as goal

pub word-requires : goal.word-requires
word-requires c =
    let end = c.end-closed.ensures in
    let below = c.loop-i-test.true in
    let many = c.requires.many in
    let count = c.len-count.ensures in
    let s = shape_of c.args.self.layout in
    let within : offset_of s c.loop-i.i < offset_count s =
    c.offset_of.ensures.apart.within c.loop-i.i (omega arith)
    in
    (omega (arith, c.offset_of.ensures.offset, end.wide), end.full)

pub loop-i-preserved : goal.loop-i-preserved
loop-i-preserved c =
    let i = c.loop-i.invariant in
    let at : ℕ = c.loop-i.i in
    let words : List ℕ = c.loop-i.words.items in
    let closed : List ℕ = slots_items c.end-closed.result.words in
    let s = shape_of c.args.self.layout in
    let x : ℕ = c.word.result in
    let wide = i.wide in
    let below = c.loop-i-test.true in
    let stands : slice_index closed (offset_of s at) ≡ x =
    ap (slice_index closed) (sym c.offset_of.ensures.offset) ∙ got closed _ x c.word.ensures
    in
    record {
      wide = length-set words at x ∙ wide;
      same = λ k lt. dite (ℕ_discrete k at)
          (λ (here : k ≡ at).
          ap (λ (z : ℕ). slice_index closed (offset_of s z)) here
          ∙ (stands ∙ (sym (get_or-set_same words at x 0 (omega arith))
          ∙ ap (slice_index (set words at x)) (sym here))))
          (λ (other : k ≢ at).
          i.same k (omega arith) ∙ sym (get_or-set_other words at k x 0 other));
    }

pub returns : goal.returns
returns c =
    let b = c.args.self in
    let i = c.loop-i.invariant in
    let words : List ℕ = c.loop-i.words.items in
    let closed : List ℕ = slots_items c.end-closed.result.words in
    let wide = i.wide in
    let count = c.len-count.ensures in
    let many = c.requires.many in
    let end = c.loop-i-test.false in
    let Gathered : Layout → Type 0 = λ l.
    (length words ≡ word_count (shape_of l))
    × ((k : ℕ) → k < word_count (shape_of l) →
    slice_index closed (offset_of (shape_of l) k) ≡ slice_index words k)
    in
    let all : Gathered (opening_of b).layout =
    subst Gathered (sym b.laid) (omega arith, λ k lt. i.same k (omega arith))
    in
    leaves_gathered (opening_of b) c.args.hands.items words closed all.0 all.1
    c.end-closed.ensures.words
