use Rattle.index_tests.proofs.passes_at_once.opened_for_four.Goals as goal

pub next_pass-second-requires : goal.next_pass-second-requires
next_pass-second-requires g c = c.next_pass-first.ensures.others

pub next_pass-third-requires : goal.next_pass-third-requires
next_pass-third-requires g c = c.next_pass-second.ensures.others

pub next_pass-fourth-requires : goal.next_pass-fourth-requires
next_pass-fourth-requires g c = c.next_pass-third.ensures.others

pub returns-clause-first : goal.returns-clause-first
returns-clause-first g c = c.next_pass-first.ensures.pass

pub returns-clause-second : goal.returns-clause-second
returns-clause-second g c = c.next_pass-second.ensures.pass

pub returns-clause-third : goal.returns-clause-third
returns-clause-third g c = c.next_pass-third.ensures.pass

pub returns-clause-fourth : goal.returns-clause-fourth
returns-clause-fourth g c = c.next_pass-fourth.ensures.pass
