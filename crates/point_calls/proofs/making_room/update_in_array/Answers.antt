use Rattle.point_calls.proofs.ArrayWay.{passes_place}
use Rattle.point_calls.proofs.making_room.update_in_array.Goals as goal

pub returns-in_ok-update_at-clause-answer : goal.returns-in_ok-update_at-clause-answer
returns-in_ok-update_at-clause-answer c =
    passes_place c.args.board.now c.args.start.now.value c.args.hand.now c.place_in_array.new.hand c.args.group
    c.args.key c.place_in_array.ensures.searched c.in-Some.place c.in-Some.ensures.answer c.update_at.new.hand
    c.in_ok-update_at.ensures.answer.passes
