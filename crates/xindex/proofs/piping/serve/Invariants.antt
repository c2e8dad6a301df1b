-- The name of the index is that of the one that is served.
use Rattle.std.proofs.Common.{Some}
use Rattle.xindex_core.specs.Passes.{name_of, opening_with}
use Rattle.xindex.proofs.piping.serve.Given as goal

abbrev pub ghosts-serve_alone : goal.ghosts-serve_alone
ghosts-serve_alone g a =
    record { table = name_of a.opened.index; opening = Some (opening_with a.opened.index) }
