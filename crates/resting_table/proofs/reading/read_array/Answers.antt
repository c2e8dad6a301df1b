use Rattle.std.proofs.Common.{◌≡◌, ◌+◌, ℕ, List, length, slice_index}
use Rattle.std.proofs.Common.{true, sym, ap, ◌∙◌, subst, arith}
use Rattle.std.proofs.lemmas.Bool.{false≢true}
use Rattle.map_model.specs.Map.{Map}
use Rattle.word_layout.specs.Addresses.{header_address}
use Rattle.word_layout.specs.Layout.{shape_of}
use Rattle.word_layout.specs.declared.layout.Layout.{Layout}
use Rattle.index_machine.specs.declared.opening.Opening.{Opening}
use Rattle.index_machine.specs.Execution.{Execution}
use Rattle.index_machine.specs.OpeningRows.{is_in_opening_chain}
use Rattle.machine_arrays.specs.Arrays.{array_keys}
use Rattle.resting_table.specs.Reading.{HasRead}
use Rattle.resting_table.specs.Resting.{LeaveAtRest}
use Rattle.resting_table.proofs.ArrayReading.{fits, holds, none_before, reads_on}
use Rattle.resting_table.proofs.RestingRecords.{value_of}
use Rattle.resting_table.proofs.RestingWords.{size_fits, size_is}
use Rattle.resting_table.proofs.reading.read_array.Goals as goal

-- the word that was read as the size is the number of the array's keys
size : (l : Layout) (ws : List ℕ) (o : Opening) (t : Execution) (rest : LeaveAtRest l ws o t) (group i address : ℕ) →
    is_in_opening_chain o group ≡ true → i ≡ 1 → address ≡ header_address (shape_of l) group i →
    slice_index ws address ≡ length (array_keys o group t)
size l ws o t rest group i address chained number at =
    size_is l ws o t rest group chained address (at ∙ ap (header_address (shape_of l) group) number)

pub overflow_cast-size-2 : goal.overflow_cast-size-2
overflow_cast-size-2 c =
    let l = c.args.layout.now in
    let r = c.requires.rest in
    let chained = c.requires.chained r.0 r.1 r.2 in
    let many = size l c.args.words.now r.0 r.1 r.2 c.args.group c.number.result c.header.result chained
    c.number.ensures c.header.ensures.address in
    let few = size_fits l c.args.words.now r.0 r.1 r.2 c.args.group chained in
    let most = l.kept.most_group_size in
    omega arith

pub array-place-requires-clause-is_place : goal.array-place-requires-clause-is_place
array-place-requires-clause-is_place c =
    let l = c.args.layout.now in
    let r = c.requires.rest in
    let chained = c.requires.chained r.0 r.1 r.2 in
    let many = size l c.args.words.now r.0 r.1 r.2 c.args.group c.number.result c.header.result chained
    c.number.ensures c.header.ensures.address in
    let few = size_fits l c.args.words.now r.0 r.1 r.2 c.args.group chained in
    let lt = c.loop-index-test.true in
    omega arith

pub bounds-words-place : goal.bounds-words-place
bounds-words-place c =
    let l = c.args.layout.now in
    let r = c.requires.rest in
    let chained = c.requires.chained r.0 r.1 r.2 in
    let many = size l c.args.words.now r.0 r.1 r.2 c.args.group c.number.result c.header.result chained
    c.number.ensures c.header.ensures.address in
    let lt = c.loop-index-test.true in
    let its = holds l c.args.words.now r.0 r.1 r.2 c.args.group chained c.loop-index.index c.array-place.result
    (omega arith) c.array-place.ensures.address c.array-place.ensures.is_place in
    let inside = its.within in
    omega arith

pub returns-then-not-is_before-clause-ended : goal.returns-then-not-is_before-clause-ended
returns-then-not-is_before-clause-ended c =
    λ o t rest.
    let l = c.args.layout.now in
    let chained = c.requires.chained o t rest in
    let many = size l c.args.words.now o t rest c.args.group c.number.result c.header.result chained
    c.number.ensures c.header.ensures.address in
    let lt = c.loop-index-test.true in
    none_before l c.args.words.now o t rest c.args.group chained c.loop-index.index c.array-place.result
    (omega arith) c.array-place.ensures.address c.array-place.ensures.is_place c.args.end
    (λ before. false≢true (sym c.if-not-is_before.true ∙ c.is_before.ensures.1 before))

pub keep-requires : goal.keep-requires
keep-requires c =
    let l = c.args.layout.now in
    let r = c.requires.rest in
    let chained = c.requires.chained r.0 r.1 r.2 in
    let many = size l c.args.words.now r.0 r.1 r.2 c.args.group c.number.result c.header.result chained
    c.number.ensures c.header.ensures.address in
    let lt = c.loop-index-test.true in
    let place = c.array-place.result in
    let i : ℕ = c.loop-index.index in
    let read = reads_on l c.args.words.now r.0 r.1 r.2 c.args.group chained i place (omega arith)
    c.array-place.ensures.address c.array-place.ensures.is_place c.args.end c.loop-index.pairs.items
    (c.loop-index.invariant.read r.0 r.1 r.2) (c.is_before.ensures.0 c.if-not-is_before.false) in
    let few = fits l c.args.words.now r.0 r.1 r.2 c.args.group chained c.args.end (i + 1) _ read in
    let room = c.loop-index.invariant.room in (
      slice_index (array_keys r.0 c.args.group r.1) i,
      value_of r.0 r.1 place,
      holds l c.args.words.now r.0 r.1 r.2 c.args.group chained i place (omega arith)
          c.array-place.ensures.address c.array-place.ensures.is_place,
      omega arith,
    )

pub loop-index-preserved : goal.loop-index-preserved
loop-index-preserved c =
    let l = c.args.layout.now in
    let more = c.keep.ensures.room in
    let room = c.loop-index.invariant.room in
    let grown = c.loop-index.invariant.grown in
    record {
      room = omega arith;
      grown = omega arith;
      read = λ o t rest.
          let chained = c.requires.chained o t rest in
          let many = size l c.args.words.now o t rest c.args.group c.number.result c.header.result chained
          c.number.ensures c.header.ensures.address in
          let lt = c.loop-index-test.true in
          let place = c.array-place.result in
          let i : ℕ = c.loop-index.index in
          let its = holds l c.args.words.now o t rest c.args.group chained i place (omega arith)
          c.array-place.ensures.address c.array-place.ensures.is_place in
          subst (λ (m : Map). HasRead o t c.args.group c.args.end (i + 1) m)
          (sym (c.keep.ensures.kept (slice_index (array_keys o c.args.group t) i) (value_of o t place) its))
          (reads_on l c.args.words.now o t rest c.args.group chained i place (omega arith)
          c.array-place.ensures.address c.array-place.ensures.is_place c.args.end c.loop-index.pairs.items
          (c.loop-index.invariant.read o t rest) (c.is_before.ensures.0 c.if-not-is_before.false));
    }

pub returns-clause-read : goal.returns-clause-read
returns-clause-read c =
    λ o t rest.
    let l = c.args.layout.now in
    let chained = c.requires.chained o t rest in
    let many = size l c.args.words.now o t rest c.args.group c.number.result c.header.result chained
    c.number.ensures c.header.ensures.address in
    let over = c.loop-index-test.false in
    let read = c.loop-index.invariant.read o t rest in
    let few = read.fits in
    subst (λ (i : ℕ). HasRead o t c.args.group c.args.end i c.loop-index.pairs.items) (omega arith) read

pub returns-clause-ended : goal.returns-clause-ended
returns-clause-ended c =
    λ o t rest i le below before.
    let chained = c.requires.chained o t rest in
    let many = size c.args.layout.now c.args.words.now o t rest c.args.group c.number.result c.header.result
    chained c.number.ensures c.header.ensures.address in
    absurd (omega arith)
