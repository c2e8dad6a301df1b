use Rattle.std.proofs.Common.{◌≤◌, arith}
use Rattle.word_layout.specs.Parts.{greatest_key}
use Rattle.root_table.proofs.NewWalked.{leads_new, nearer_new, new_answers_there, new_opened_there}
use Rattle.root_table.proofs.NewWalked.{new_walk_begins, new_walked_to, walks_on_new}
use Rattle.root_table.proofs.walking.walk_new.Goals as goal

pub loop-next-init : goal.loop-next-init
loop-next-init c =
    let most : c.args.key ≤ greatest_key = omega arith in
    new_walk_begins c.args.board.now c.args.old c.args.first c.args.key c.args.hand.now most c.requires.opened
    c.requires.begins

pub next_from-requires-clause-leads : goal.next_from-requires-clause-leads
next_from-requires-clause-leads c =
    let most : c.args.key ≤ greatest_key = omega arith in
    leads_new c.args.board.now c.args.old c.args.first c.args.key c.args.hand.now c.loop-next.group
    c.loop-next.hand most c.loop-next.invariant

pub loop-next-preserved : goal.loop-next-preserved
loop-next-preserved c =
    let most : c.args.key ≤ greatest_key = omega arith in
    let e = c.in-Some.ensures in
    walks_on_new c.args.board.now c.args.old c.args.first c.args.key c.args.hand.now c.loop-next.group
    c.loop-next.hand most c.loop-next.invariant c.in-Some.next c.next_from.new.hand e.steps e.next e.number e.log

pub loop-next-smaller : goal.loop-next-smaller
loop-next-smaller c =
    let most : c.args.key ≤ greatest_key = omega arith in
    let e = c.in-Some.ensures in
    nearer_new c.args.board.now c.args.old c.args.first c.args.key c.args.hand.now c.loop-next.group
    c.loop-next.hand most c.loop-next.invariant c.in-Some.next c.next_from.new.hand e.steps e.next e.number e.log

pub returns-clause-opened : goal.returns-clause-opened
returns-clause-opened c =
    let most : c.args.key ≤ greatest_key = omega arith in
    new_opened_there c.args.board.now c.args.old c.args.first c.args.key c.args.hand.now c.loop-next.group
    c.loop-next.hand most c.loop-next.invariant c.next_from.new.hand c.in_default.ensures.steps
    c.in_default.ensures.there.call

pub returns-clause-answers : goal.returns-clause-answers
returns-clause-answers c =
    let most : c.args.key ≤ greatest_key = omega arith in
    new_answers_there c.args.board.now c.args.old c.args.first c.args.key c.args.hand.now c.loop-next.group
    c.loop-next.hand most c.loop-next.invariant c.next_from.new.hand c.in_default.ensures.steps
    c.in_default.ensures.there.call

pub returns-clause-steps : goal.returns-clause-steps
returns-clause-steps c =
    let most : c.args.key ≤ greatest_key = omega arith in
    new_walked_to c.args.board.now c.args.old c.args.first c.args.key c.args.hand.now c.loop-next.group
    c.loop-next.hand most c.loop-next.invariant c.next_from.new.hand c.in_default.ensures.steps
    c.in_default.ensures.there.call
