use Rattle.std.proofs.Common.{refl, arith}
use Rattle.word_layout.specs.declared.headers.HeaderWord.TheVariants.{Size}
use Rattle.index_machine.specs.declared.events.Action.TheVariants.{LoadHeader}
use Rattle.index_rule.specs.Hands.{known, opening_of}
use Rattle.sorted_group.proofs.ArrayLoads.{array_on, locate_on, locates_read}
use Rattle.sorted_group.proofs.BufferLoads.{search_on}
use Rattle.sorted_group.proofs.ArrayHeaders.{can_load, few_keys, size_is}
use Rattle.sorted_group.proofs.headers.size.Goals as goal

pub load_header-requires-clause-may : goal.load_header-requires-clause-may
load_header-requires-clause-may c =
    can_load c.args.board.now c.args.group c.args.hand.now c.requires

pub overflow_cast-result : goal.overflow_cast-result
overflow_cast-result c =
    let few = few_keys c.args.board.now c.args.group c.load_header.result Size c.args.hand.now
    c.load_header.new.hand c.requires c.load_header.ensures.step in
    let is = size_is c.args.board.now c.args.group c.load_header.result c.args.hand.now
    c.load_header.new.hand c.requires c.load_header.ensures.step in
    omega arith

pub returns-clause-can : goal.returns-clause-can
returns-clause-can c =
    locate_on c.args.board.now c.args.group c.args.hand.now c.load_header.new.hand
    (LoadHeader c.args.group Size c.load_header.result) refl c.load_header.ensures.step c.requires

pub returns-clause-search : goal.returns-clause-search
returns-clause-search c = λ first.
    search_on c.args.board.now c.args.group c.args.hand.now c.load_header.new.hand
    (LoadHeader c.args.group Size c.load_header.result) refl c.load_header.ensures.step first

pub returns-clause-size : goal.returns-clause-size
returns-clause-size c =
    size_is c.args.board.now c.args.group c.load_header.result c.args.hand.now
    c.load_header.new.hand c.requires c.load_header.ensures.step

pub returns-clause-array : goal.returns-clause-array
returns-clause-array c =
    array_on c.args.board.now c.args.group c.args.hand.now c.load_header.new.hand
    (LoadHeader c.args.group Size c.load_header.result) refl c.requires.of c.load_header.ensures.step
    (locates_read (opening_of c.args.board.now) c.args.hand.now.number c.args.group (known c.args.hand.now)
    c.requires.may)
