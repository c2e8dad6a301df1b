use Rattle.std.proofs.Common.{◌≤◌, arith}
use Rattle.word_layout.specs.Parts.{greatest_key}
use Rattle.root_table.proofs.Walked.{answers_there, leads_there, nearer, stands_there, walk_begins, walked_to, walks_on}
use Rattle.root_table.proofs.walking.walk.Goals as goal

pub loop-next-init : goal.loop-next-init
loop-next-init c =
    let most : c.args.key ≤ greatest_key = omega arith in
    walk_begins c.args.board.now c.args.from c.args.key c.args.hand.now most c.requires

pub next_from-requires-clause-there : goal.next_from-requires-clause-there
next_from-requires-clause-there c =
    let most : c.args.key ≤ greatest_key = omega arith in
    stands_there c.args.board.now c.args.from c.args.key c.args.hand.now c.loop-next.group c.loop-next.hand most
    c.loop-next.invariant

pub next_from-requires-clause-leads : goal.next_from-requires-clause-leads
next_from-requires-clause-leads c =
    let most : c.args.key ≤ greatest_key = omega arith in
    leads_there c.args.board.now c.args.from c.args.key c.args.hand.now c.loop-next.group c.loop-next.hand most
    c.loop-next.invariant

pub loop-next-preserved : goal.loop-next-preserved
loop-next-preserved c =
    let most : c.args.key ≤ greatest_key = omega arith in
    walks_on c.args.board.now c.args.from c.args.key c.args.hand.now c.loop-next.group c.loop-next.hand most
    c.loop-next.invariant c.in-Some.next c.next_from.new.hand c.in-Some.ensures.steps c.in-Some.ensures.next
    c.in-Some.ensures.number c.in-Some.ensures.log

pub loop-next-smaller : goal.loop-next-smaller
loop-next-smaller c =
    let most : c.args.key ≤ greatest_key = omega arith in
    nearer c.args.board.now c.args.from c.args.key c.args.hand.now c.loop-next.group c.loop-next.hand most
    c.loop-next.invariant c.in-Some.next c.next_from.new.hand c.in-Some.ensures.steps c.in-Some.ensures.next
    c.in-Some.ensures.number c.in-Some.ensures.log

pub returns-clause-answers : goal.returns-clause-answers
returns-clause-answers c =
    let most : c.args.key ≤ greatest_key = omega arith in
    answers_there c.args.board.now c.args.from c.args.key c.args.hand.now c.loop-next.group c.loop-next.hand most
    c.loop-next.invariant c.next_from.new.hand c.in_default.ensures.steps

pub returns-clause-steps : goal.returns-clause-steps
returns-clause-steps c =
    let most : c.args.key ≤ greatest_key = omega arith in
    walked_to c.args.board.now c.args.from c.args.key c.args.hand.now c.loop-next.group c.loop-next.hand most
    c.loop-next.invariant c.next_from.new.hand c.in_default.ensures.steps
