use Rattle.std.proofs.Common.{refl, arith}
use Rattle.word_layout.specs.declared.headers.HeaderWord.TheVariants.{Lanes}
use Rattle.index_machine.specs.declared.events.Action.TheVariants.{LoadHeader}
use Rattle.sorted_group.proofs.BufferLoads.{follow_on, search_on}
use Rattle.sorted_group.proofs.LaneChoice.{few_lanes}
use Rattle.sorted_group.proofs.headers.lanes.Goals as goal

pub overflow_cast-result : goal.overflow_cast-result
overflow_cast-result c =
    let few = few_lanes c.args.board.now c.args.group c.load_header.result c.args.hand.now
    c.load_header.new.hand c.requires.of c.load_header.ensures.step
    (c.load_header.ensures.tells tt c.requires.walkable) in
    omega arith

pub returns-clause-can : goal.returns-clause-can
returns-clause-can c =
    follow_on c.args.board.now c.args.group c.args.hand.now c.load_header.new.hand
    (LoadHeader c.args.group Lanes c.load_header.result) refl c.load_header.ensures.step c.requires

pub returns-clause-search : goal.returns-clause-search
returns-clause-search c = λ first.
    search_on c.args.board.now c.args.group c.args.hand.now c.load_header.new.hand
    (LoadHeader c.args.group Lanes c.load_header.result) refl c.load_header.ensures.step first

pub returns-clause-few : goal.returns-clause-few
returns-clause-few c =
    few_lanes c.args.board.now c.args.group c.load_header.result c.args.hand.now
    c.load_header.new.hand c.requires.of c.load_header.ensures.step
    (c.load_header.ensures.tells tt c.requires.walkable)
