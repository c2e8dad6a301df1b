use Rattle.std.proofs.Common.{◌≡◌, ◌++◌, [], map, get_or}
use Rattle.std.specs.List.{flat_map, range_with_len}
use Rattle.trace_text.specs.Transcripts.{caller_text}
use Rattle.trace_text.proofs.transcripts.append_callers.Given as goal

abbrev pub invariant-loop-caller : goal.invariant-loop-caller
invariant-loop-caller l =
    l.text.items
    ≡ l.fn.text.items
    ++ flat_map (λ caller. caller_text caller (get_or (map (λ own. own.replies) l.replies) caller []))
    (range_with_len 0 l.caller)
