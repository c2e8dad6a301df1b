use Rattle.index_rule.specs.Hands.{view}
use Rattle.point_calls.proofs.lookup.look.Given as goal

-- the look of the call that began at the start
abbrev pub ghosts-write_look : goal.ghosts-write_look
ghosts-write_look a = record { start = view a.start.now.value; key = a.key; found = a.found }
