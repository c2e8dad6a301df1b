use Rattle.std.proofs.Common.{◌≡◌, ◌++◌, [], ◌∷◌, ℕ, Option, Bool, true, false, length, slice_index}
use Rattle.std.proofs.Common.{List, sym, ap, ◌∙◌, arith, append-nil, length-append}
use Rattle.map_model.specs.Map.{Map}
use Rattle.word_layout.specs.declared.places.Part.TheVariants as part
use Rattle.word_layout.specs.Places.{part_address}
use Rattle.index_machine.specs.Forms.{unless}
use Rattle.resting_table.specs.Reading.{HoldsRecord, pair_if}
use Rattle.resting_table.proofs.PairsBelow.{pushed}
use Rattle.resting_table.proofs.reading.keep.Goals as goal

-- a record that is not removed has its pair in the words
pair_in : (words : List ℕ) (place k address : ℕ) (found : Option ℕ) → (h : HoldsRecord words place k found) →
    h.removed ≡ false → address ≡ part_address place part.Value →
    pair_if k found ≡ (slice_index words place, slice_index words address) ∷ []
pair_in words place k address found h kept at =
    ap (pair_if k)
    (h.value
    ∙ ap (λ (r : Bool). unless r (slice_index words (part_address place part.Value))) kept)
    ∙ (λ i. (sym h.key i, ap (slice_index words) (sym at) i) ∷ [])

-- and one that is removed has none
no_pair : (words : List ℕ) (place k : ℕ) (found : Option ℕ) → (h : HoldsRecord words place k found) →
    h.removed ≡ true → pair_if k found ≡ []
no_pair words place k found h removed =
    ap (pair_if k)
    (h.value
    ∙ ap (λ (r : Bool). unless r (slice_index words (part_address place part.Value))) removed)

pub unwrap-requires : goal.unwrap-requires
unwrap-requires c =
    let k = c.requires.0 in
    let found = c.requires.1 in
    let h = c.requires.2 in
    let says = c.says_removed.ensures h.version false h.removed
    (h.state ∙ ap (slice_index c.args.words.now) (sym c.state_word.ensures)) in
    let kept : h.removed ≡ false = sym says ∙ c.if-not-says_removed.true in
    let is = pair_in c.args.words.now c.args.place k c.value_word.result found h kept c.value_word.ensures in
    let room = c.requires.3 in
    let many = length-append c.args.pairs.now.items (pair_if k found) in
    let one = ap (λ (z : Map). length z) is in
    let long = c.args.pairs.now.ok in
    c.push.ensures.succeeds (omega arith)

pub returns-then-not-says_removed-clause-kept : goal.returns-then-not-says_removed-clause-kept
returns-then-not-says_removed-clause-kept c =
    λ k found h.
    let says = c.says_removed.ensures h.version false h.removed
    (h.state ∙ ap (slice_index c.args.words.now) (sym c.state_word.ensures)) in
    let kept : h.removed ≡ false = sym says ∙ c.if-not-says_removed.true in
    let is = pair_in c.args.words.now c.args.place k c.value_word.result found h kept c.value_word.ensures in
    pushed c.push.result c.unwrap.result c.push.new.self.items _ _ c.push.ensures.items c.unwrap.ensures
    ∙ ap (λ (z : Map). c.args.pairs.now.items ++ z) (sym is)

pub returns-else-not-says_removed-clause-kept : goal.returns-else-not-says_removed-clause-kept
returns-else-not-says_removed-clause-kept c =
    λ k found h.
    let says = c.says_removed.ensures h.version false h.removed
    (h.state ∙ ap (slice_index c.args.words.now) (sym c.state_word.ensures)) in
    let removed : h.removed ≡ true = sym says ∙ c.if-not-says_removed.false in
    sym (append-nil c.args.pairs.now.items)
    ∙ ap (λ (z : Map). c.args.pairs.now.items ++ z)
    (sym (no_pair c.args.words.now c.args.place k found h removed))
