-- The name of the index is that of the one that is run.
use Rattle.std.proofs.Common.{Some}
use Rattle.xindex_core.specs.Passes.{name_of, opening_with}
use Rattle.caller_phases.proofs.phases.run_phases.Given as goal

abbrev pub ghosts-run_named : goal.ghosts-run_named
ghosts-run_named g a =
    record { table = name_of a.opened.index; opening = Some (opening_with a.opened.index) }
