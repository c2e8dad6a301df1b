use Rattle.std.proofs.Common.{refl}
use Rattle.word_layout.specs.declared.headers.HeaderWord.TheVariants.{Pivot}
use Rattle.index_machine.specs.declared.events.Action.TheVariants.{LoadHeader}
use Rattle.sorted_group.proofs.BufferLoads.{follow_on, search_on}
use Rattle.sorted_group.proofs.headers.pivot.Goals as goal

pub returns-clause-can : goal.returns-clause-can
returns-clause-can c =
    follow_on c.args.board.now c.args.group c.args.hand.now c.load_header.new.hand
    (LoadHeader c.args.group Pivot c.load_header.result) refl c.load_header.ensures.step c.requires

pub returns-clause-search : goal.returns-clause-search
returns-clause-search c =
    search_on c.args.board.now c.args.group c.args.hand.now c.load_header.new.hand
    (LoadHeader c.args.group Pivot c.load_header.result) refl c.load_header.ensures.step
