use Rattle.index_tests.proofs.hand_notes.hands_that_told_each_other_step_on.Goals as goal

pub enter-requires-2-clause-rests : goal.enter-requires-2-clause-rests
enter-requires-2-clause-rests g c =
    c.let_know.ensures.second.rests 1 c.next_hand-second.ensures.rests.rests

pub leave-requires : goal.leave-requires
leave-requires g c =
    c.let_know-2.ensures.second.inside 0 (c.let_know.ensures.first.inside 0 c.enter.ensures.inside)

pub leave-requires-2 : goal.leave-requires-2
leave-requires-2 g c = c.let_know-2.ensures.first.inside 1 c.enter-2.ensures.inside
