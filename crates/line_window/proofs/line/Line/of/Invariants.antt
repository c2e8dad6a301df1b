use Rattle.std.proofs.Common.{◌≡◌, ◌+◌, ◌≤◌, max, drop}
use Rattle.line_window.specs.Line.{guess_of, error_from, error_of}
use Rattle.line_window.proofs.line.Line.of.Given as goal

-- the error so far and that of the keys to come make up the error
abbrev pub invariant-loop-place : goal.invariant-loop-place
invariant-loop-place g l =
    record {
      list : g.K.Keys.list l.keys ≡ g.K.Keys.list l.fn.keys;
      origin : g.K.Keys.origin l.keys ≡ g.K.Keys.origin l.fn.keys;
      reads_kept : g.K.Keys.reads l.fn.keys ≤ g.K.Keys.reads l.keys;
      leads : g.K.Keys.leads_to l.fn.keys l.keys;
      reads_raised : g.K.Keys.reads l.keys ≤ g.K.Keys.reads l.fn.keys + 2 + l.place;
      error : max l.error (error_from (guess_of l.line) l.place (drop l.place (g.K.Keys.list l.fn.keys))) ≡ error_of (g.K.Keys.list l.fn.keys);
    }
