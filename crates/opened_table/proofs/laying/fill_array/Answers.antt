use Rattle.std.proofs.Common.{arith, false, ◌≡◌, ◌+◌, ◌^◌, ◌<◌, ℕ, List, length, slice_index_or, slice_set, sym, ap, subst, ◌∙◌}
use Rattle.word_layout.specs.declared.limits.Limits.{Limits}
use Rattle.word_layout.specs.declared.places.Part.{Part}
use Rattle.word_layout.specs.Limits.{KeepsRulesIn, word_count}
use Rattle.word_layout.specs.Shape.{Shape, group_total}
use Rattle.word_layout.specs.Words.{PlaceWord}
use Rattle.word_layout.proofs.WordNames.{address_of-within}
use Rattle.word_layout.specs.declared.places.Part.TheVariants.{Key, Value, State}
use Rattle.word_layout.specs.declared.state.State.TheVariants.{Direct}
use Rattle.word_layout.specs.Addresses.{array_address}
use Rattle.word_layout.specs.Layout.{shape_of}
use Rattle.word_layout.specs.Places.{part_address}
use Rattle.word_layout.specs.State.{word_of_state}
use Rattle.opened_table.specs.Laying.{FillsArray}
use Rattle.opened_table.proofs.LaidArrays.{array_place, fill_more}
use Rattle.opened_table.proofs.laying.fill_array.Goals as goal

-- the words of a place stand in the table
within : (s : Shape) (group i : ℕ) (at : Part) (words old : List ℕ) → KeepsRulesIn s →
    group < group_total s → i < s.limits.group_size → length old ≡ word_count s →
    length words ≡ length old →
    (part_address (array_address s group i) at < length words)
    × (part_address (array_address s group i) at < 2 ^ 28)
within s group i at words old rules exists below wide same =
    let most = rules.most_words in
    let inside =
    address_of-within s (PlaceWord (array_address s group i) at) (array_place s group i exists below)
    in
    (omega arith, omega arith)

pub index_mut-requires : goal.index_mut-requires
index_mut-requires c =
    let l = c.args.layout.now in
    let lt = c.loop-i-test.true in
    let few = c.requires.few in
    let inside =
    within (shape_of l) c.args.group c.loop-i.i Key c.loop-i.words.items c.args.words.now.items l.kept
    c.requires.is_group (omega arith) c.requires.wide c.loop-i.invariant.done.wide
    in
    let at = c.array-place.ensures.address in
    let len = c.loop-i.words.ok.0 in
    omega (arith, inside.0)

pub value_word-requires : goal.value_word-requires
value_word-requires c =
    let l = c.args.layout.now in
    let lt = c.loop-i-test.true in
    let few = c.requires.few in
    let inside =
    within (shape_of l) c.args.group c.loop-i.i Key c.loop-i.words.items c.args.words.now.items l.kept
    c.requires.is_group (omega arith) c.requires.wide c.loop-i.invariant.done.wide
    in
    let at = c.array-place.ensures.address in
    omega (arith, inside.1)

pub index_mut-requires-in-loop-i : goal.index_mut-requires-in-loop-i
index_mut-requires-in-loop-i c =
    let l = c.args.layout.now in
    let lt = c.loop-i-test.true in
    let few = c.requires.few in
    let inside =
    within (shape_of l) c.args.group c.loop-i.i Value c.loop-i.words.items c.args.words.now.items l.kept
    c.requires.is_group (omega arith) c.requires.wide c.loop-i.invariant.done.wide
    in
    let at = c.array-place.ensures.address in
    let value_at = c.value_word.ensures in
    let len = c.loop-i.words.ok.0 in
    omega (arith, inside.0)

pub state_word-requires : goal.state_word-requires
state_word-requires c =
    let l = c.args.layout.now in
    let lt = c.loop-i-test.true in
    let few = c.requires.few in
    let inside =
    within (shape_of l) c.args.group c.loop-i.i Key c.loop-i.words.items c.args.words.now.items l.kept
    c.requires.is_group (omega arith) c.requires.wide c.loop-i.invariant.done.wide
    in
    let at = c.array-place.ensures.address in
    omega (arith, inside.1)

pub index_mut-requires-in-loop-i-2 : goal.index_mut-requires-in-loop-i-2
index_mut-requires-in-loop-i-2 c =
    let l = c.args.layout.now in
    let lt = c.loop-i-test.true in
    let few = c.requires.few in
    let inside =
    within (shape_of l) c.args.group c.loop-i.i State c.loop-i.words.items c.args.words.now.items l.kept
    c.requires.is_group (omega arith) c.requires.wide c.loop-i.invariant.done.wide
    in
    let at = c.array-place.ensures.address in
    let state_at = c.state_word.ensures in
    let len = c.loop-i.words.ok.0 in
    omega (arith, inside.0)

pub loop-i-preserved : goal.loop-i-preserved
loop-i-preserved c =
    let s = shape_of c.args.layout.now in
    let group : ℕ = c.args.group in
    let i : ℕ = c.loop-i.i in
    let rows = c.args.rows.now in
    let row : ℕ × ℕ = slice_index_or rows i (0, 0) in
    let words : List ℕ = c.loop-i.words.items in
    let place : ℕ = array_address s group i in
    let at : c.array-place.result ≡ place = c.array-place.ensures.address in
    let key_at : c.array-place.result ≡ part_address place Key = omega (arith, at) in
    let value_at : c.value_word.result ≡ part_address place Value =
    c.value_word.ensures ∙ ap (λ (p : ℕ). part_address p Value) at in
    let state_at : c.state_word.result ≡ part_address place State =
    c.state_word.ensures ∙ ap (λ (p : ℕ). part_address p State) at in
    let first : c.word-state.result ≡ word_of_state (Direct s.limits.first_version false false) =
    c.word-state.ensures
    ∙ ap (λ (z : Limits). word_of_state (Direct z.first_version false false))
    c.limits.ensures.limits in
    record {
      done = subst
          (λ (z : ℕ × ℕ × ℕ × ℕ).
          FillsArray s group rows (i + 1) c.args.words.now.items
          (slice_set (slice_set (slice_set words z.0 row.0) z.1 row.1) z.2 z.3))
          (λ j. (sym key_at j, sym value_at j, sym state_at j, sym first j))
          (fill_more s group rows i c.args.words.now.items words c.requires.wide c.requires.is_group
          c.requires.few c.loop-i-test.true c.loop-i.invariant.done);
    }
