-- Transcripts: the replies phase by phase, caller by caller in each, and the final rows.
use Rattle.std.specs.Prelude.{◌≡◌, ℕ, List, [], ◌∷◌, ◌++◌, length, get_or, codes}
use Rattle.std.specs.List.{flat_map, range_with_len}
use Rattle.wire_commands.specs.declared.reply.Reply.{Reply}
use Rattle.wire_commands.specs.Replies.{line_of}
use Rattle.trace_text.specs.Text.{number_line, pair_line, headed}

-- the replies to a caller's calls, in order, under its number
abbrev pub caller_text : ℕ → List Reply → List ℕ
caller_text caller replies =
    headed (number_line (codes "caller ") caller) (flat_map line_of replies)

-- the final rows by rising key, and their number
abbrev pub rows_text : List (ℕ × ℕ) → List ℕ
rows_text rows =
    codes "rows\n" ++ flat_map (λ row. pair_line (codes "row ") row.0 row.1) rows
    ++ number_line (codes "end ") (length rows)

-- the replies in a phase, caller by caller, where these are each caller's by its number
abbrev pub callers_text : List (List Reply) → List ℕ
callers_text replies =
    flat_map (λ caller. caller_text caller (get_or replies caller []))
    (range_with_len 0 (length replies))

-- a phase with this number; one without a call has no text
abbrev pub phase_text : ℕ → List (List Reply) → List ℕ
phase_text number replies = headed (number_line (codes "phase ") number) (callers_text replies)

-- all phases, numbered from 0
abbrev pub phases_text : List (List (List Reply)) → List ℕ
phases_text phases =
    flat_map (λ number. phase_text number (get_or phases number []))
    (range_with_len 0 (length phases))

-- the transcript of these phases that left these rows
abbrev pub transcript_of : List (List (List Reply)) → List (ℕ × ℕ) → List ℕ
transcript_of phases rows = phases_text phases ++ rows_text rows

-- a text of the phases before the one with this number has become a text of these and that one
abbrev pub AddsPhase : ℕ → List (List Reply) → List ℕ → List ℕ → Type 0
AddsPhase number replies old new =
    (before : List (List (List Reply))) → length before ≡ number → old ≡ phases_text before
    → new ≡ phases_text (before ++ replies ∷ [])

-- a text of all phases has become the transcript
abbrev pub AddsRows : List (ℕ × ℕ) → List ℕ → List ℕ → Type 0
AddsRows rows old new =
    (phases : List (List (List Reply))) → old ≡ phases_text phases
    → new ≡ transcript_of phases rows
