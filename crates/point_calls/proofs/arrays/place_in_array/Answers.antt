use Rattle.point_calls.proofs.ArraySearch.{at_array_place, has_searched}
use Rattle.point_calls.proofs.arrays.place_in_array.Goals as goal

pub returns-in-At-clause-searched : goal.returns-in-At-clause-searched
returns-in-At-clause-searched c =
    has_searched c.args.board.now c.args.start.now.value c.args.hand.now c.args.group c.args.key c.requires
    c.locate.new.hand c.locate.ensures.steps (c.locate.ensures.search c.requires.search) c.locate.ensures.log

pub returns-in-At-clause-answer : goal.returns-in-At-clause-answer
returns-in-At-clause-answer c =
    at_array_place c.args.board.now c.args.start.now.value c.args.hand.now c.args.group c.args.key c.requires
    c.locate.new.hand c.locate.ensures.steps (c.locate.ensures.search c.requires.search) c.locate.ensures.log
    c.in-At.place c.in-At.ensures.located

pub returns-in-Between-clause-searched : goal.returns-in-Between-clause-searched
returns-in-Between-clause-searched c =
    has_searched c.args.board.now c.args.start.now.value c.args.hand.now c.args.group c.args.key c.requires
    c.locate.new.hand c.locate.ensures.steps (c.locate.ensures.search c.requires.search) c.locate.ensures.log
