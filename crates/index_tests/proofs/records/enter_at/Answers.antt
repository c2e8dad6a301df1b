use Rattle.sorted_group.proofs.ArraySearches.{answered_locates}
use Rattle.index_tests.proofs.Places.{ready_at}
use Rattle.index_tests.proofs.records.enter_at.Goals as goal

pub locate-requires : goal.locate-requires
locate-requires g c =
    let there = c.come_to-group.ensures.there in
    answered_locates c.args.board.now c.come_to-group.result c.args.key c.come_to-group.new.hand there.search
    there.answers

pub returns-clause-ready : goal.returns-clause-ready
returns-clause-ready g c =
    let there = c.come_to-group.ensures.there in
    ready_at c.args.board.now _ c.come_to-group.result c.args.key c.in-At.place c.enter.new.hand
    c.come_to-group.new.hand c.locate.new.hand c.enter.ensures.inside.of c.come_to-group.ensures.steps there
    c.locate.ensures.steps (c.locate.ensures.search there.search) c.in-At.ensures.located
