use Rattle.std.proofs.Common.{Some}
use Rattle.xindex_core.specs.Passes.{name_of, opening_with}
use Rattle.index_tests.proofs.waiters.a_waiter_answers_that_a_version_is_exhausted.Given as goal

-- the index that was just opened
abbrev pub ghosts-waited : goal.ghosts-waited
ghosts-waited g a =
    record { table = name_of a.index.now; opening = Some (opening_with a.index.now) }
