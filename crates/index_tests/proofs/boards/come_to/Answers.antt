use Rattle.std.proofs.Common.{◌∙◌}
use Rattle.index_tests.proofs.Groups.{can_call, searches}
use Rattle.index_tests.proofs.boards.come_to.Goals as goal

pub group_for-requires : goal.group_for-requires
group_for-requires c = can_call c.args.board.now _ c.args.hand.now c.requires

pub returns-clause-there : goal.returns-clause-there
returns-clause-there c =
    record {
      numbered = c.group_for.ensures.number ∙ c.requires.numbered;
      search = searches c.args.board.now c.group_for.result c.group_for.new.hand c.group_for.ensures.there;
      answers = c.group_for.ensures.answers;
    }
