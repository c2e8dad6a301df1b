use Rattle.std.proofs.Common.{ℕ, ap, ◌∙◌, arith}
use Rattle.resting_table.specs.Resting.{map_left, pairs_before}
use Rattle.resting_table.proofs.ChainWords.{chained, last, next_on, next_small, next_within}
use Rattle.resting_table.proofs.reading.read_part.Goals as goal

pub read_group-requires-clause-chained : goal.read_group-requires-clause-chained
read_group-requires-clause-chained c =
    λ o t rest.
    chained c.args.layout.now c.args.words.now o t rest c.args.part c.loop-number._number c.loop-number.group
    c.requires.is_part (c.loop-number.invariant.among o t rest) c.loop-number.invariant.group

pub bounds-words-header : goal.bounds-words-header
bounds-words-header c =
    let r = c.requires.rest in
    next_within c.args.layout.now c.args.words.now r.0 r.1 r.2 c.args.part c.loop-number._number
    c.loop-number.group c.requires.is_part (c.loop-number.invariant.among r.0 r.1 r.2)
    c.loop-number.invariant.group c.number.result c.header.result c.number.ensures c.header.ensures.address

pub overflow_cast-next-in-loop-number : goal.overflow_cast-next-in-loop-number
overflow_cast-next-in-loop-number c =
    let r = c.requires.rest in
    let small = next_small c.args.layout.now c.args.words.now r.0 r.1 r.2 c.args.part c.loop-number._number
    c.loop-number.group c.requires.is_part (c.loop-number.invariant.among r.0 r.1 r.2)
    c.loop-number.invariant.group c.number.result c.header.result c.number.ensures c.header.ensures.address in
    omega arith

pub loop-number-preserved : goal.loop-number-preserved
loop-number-preserved c =
    let r = c.requires.rest in
    let more = c.read_group.ensures.room in
    let room = c.loop-number.invariant.room in
    let grown = c.loop-number.invariant.grown in
    let row = c.loop-number.invariant.group in
    let next = next_on c.args.layout.now c.args.words.now r.0 r.1 r.2 c.args.part c.loop-number._number
    c.loop-number.group c.requires.is_part (c.loop-number.invariant.among r.0 r.1 r.2)
    c.loop-number.invariant.group c.number.result c.header.result c.number.ensures c.header.ensures.address
    c.if-next-eq0.false in
    let at = next.0 in
    record {
      room = omega arith;
      grown = omega arith;
      group = omega arith;
      among = λ o t rest.
          (next_on c.args.layout.now c.args.words.now o t rest c.args.part c.loop-number._number
          c.loop-number.group c.requires.is_part (c.loop-number.invariant.among o t rest)
          c.loop-number.invariant.group c.number.result c.header.result c.number.ensures
          c.header.ensures.address c.if-next-eq0.false).1;
      tell = λ o t rest.
          c.read_group.ensures.pairs o t rest
          ∙ ap (λ (g : ℕ). pairs_before o g (map_left o t)) (omega arith);
    }

pub returns-then-next-eq0-clause-pairs : goal.returns-then-next-eq0-clause-pairs
returns-then-next-eq0-clause-pairs c =
    λ o t rest.
    last c.args.layout.now c.args.words.now o t rest c.args.part c.loop-number._number
    c.loop-number.group c.requires.is_part (c.loop-number.invariant.among o t rest)
    c.loop-number.invariant.group c.number.result c.header.result c.number.ensures c.header.ensures.address
    c.read_group.new.pairs.items c.if-next-eq0.true (c.read_group.ensures.pairs o t rest)
