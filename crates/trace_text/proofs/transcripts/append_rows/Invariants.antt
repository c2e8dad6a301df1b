use Rattle.std.proofs.Common.{◌≡◌, ◌++◌, take, codes}
use Rattle.std.specs.List.{flat_map}
use Rattle.trace_text.specs.Text.{pair_line}
use Rattle.trace_text.proofs.transcripts.append_rows.Given as goal

abbrev pub invariant-loop-key : goal.invariant-loop-key
invariant-loop-key l =
    l.text.items
    ≡ l.initial.text.items
    ++ flat_map (λ row. pair_line (codes "row ") row.0 row.1) (take l.key-index l.rows)
