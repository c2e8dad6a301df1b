use Rattle.index_rule.proofs.Stepping.{still_holds_none}
use Rattle.index_tests.proofs.boards.enter.Goals as goal

pub returns-clause-none : goal.returns-clause-none
returns-clause-none c =
    still_holds_none c.args.board.now c.args.hand.now c.enter.new.hand _ c.requires.rests.of
    c.enter.ensures.step tt
