-- The parts of a transcript, caller by caller and reply by reply.
use Rattle.std.proofs.Common.{◌≡◌, ◌≢◌, ℕ, ◌<◌, ◌≤◌, List, [], ◌∷◌, ◌++◌, length, take, get_or, codes, refl, sym, ap}
use Rattle.std.proofs.Common.{zero, suc, ◌+◌, All, inl, inr}
use Rattle.std.proofs.Common.{◌∙◌, append_assoc, arith}
use Rattle.std.specs.List.{flat_map, range_with_len}
use Rattle.std.proofs.lemmas.List.{take_all, length_push, flat_map_more, get_or_append_left, get_or_push, get_or_default}
use Rattle.std.proofs.lemmas.Bool.{cases_lt}
use Rattle.wire_commands.specs.declared.reply.Reply.{Reply}
use Rattle.wire_commands.specs.Replies.{text_of, line_of}
use Rattle.trace_text.specs.Text.{number_line, pair_line, headed}
use Rattle.trace_text.specs.Transcripts.{caller_text, callers_text, phase_text, phases_text, rows_text, AddsPhase, AddsRows}
use Rattle.trace_text.proofs.TextLaws.{headed-some, append-some, some-append, range_more}

-- the line of a reply is not empty
pub line_of-some : (reply : Reply) → line_of reply ≢ []
line_of-some reply = append-some (text_of reply) (10 ∷ []) (λ e. absurd (cc e))

-- replies have a text
pub lines-some : (replies : List Reply) → replies ≢ [] → flat_map line_of replies ≢ []
lines-some [] some = absurd (some refl)
lines-some (reply ∷ replies) some =
    some-append (line_of reply) (flat_map line_of replies) (line_of-some reply)

-- a caller with calls has a text under its number
pub caller_text-some : (caller : ℕ) (replies : List Reply) → replies ≢ []
    → caller_text caller replies ≡ number_line (codes "caller ") caller ++ flat_map line_of replies
caller_text-some caller replies some =
    headed-some (number_line (codes "caller ") caller) (flat_map line_of replies)
    (lines-some replies some)

-- a caller's replies were written under its number
pub caller_written : (old mid new : List ℕ) (caller : ℕ) (replies : List Reply)
    → mid ≡ old ++ number_line (codes "caller ") caller
    → new ≡ mid ++ flat_map line_of replies → 0 < length replies
    → new ≡ old ++ caller_text caller replies
caller_written old mid new caller replies head body some =
    body ∙ ap (λ l. l ++ flat_map line_of replies) head
    ∙ append_assoc old (number_line (codes "caller ") caller) (flat_map line_of replies)
    ∙ ap (λ l. old ++ l)
    (sym (caller_text-some caller replies (λ none. absurd (omega (arith, ap length none, some)))))

-- the texts of one more number
pub counted_more : (f : ℕ → List ℕ) (n : ℕ)
    → flat_map f (range_with_len 0 n) ++ f n ≡ flat_map f (range_with_len 0 (n + 1))
counted_more f n =
    flat_map_more f [] (range_with_len 0 n) n ∙ ap (flat_map f) (sym (range_more n))

-- texts that are equal at each number are equal together
counted_same : (f g : ℕ → List ℕ) (n : ℕ) → ((k : ℕ) → k < n → f k ≡ g k)
    → flat_map f (range_with_len 0 n) ≡ flat_map g (range_with_len 0 n)
counted_same f g zero same = refl
counted_same f g (suc n) same =
    let on : suc n ≡ n + 1 = omega arith in
    ap (λ m. flat_map f (range_with_len 0 m)) on ∙ sym (counted_more f n)
    ∙ ap (λ l. l ++ f n) (counted_same f g n (λ k below. same k (omega arith)))
    ∙ ap (λ l. flat_map g (range_with_len 0 n) ++ l) (same n (omega arith)) ∙ counted_more g n
    ∙ ap (λ m. flat_map g (range_with_len 0 m)) (sym on)

-- texts that are empty at each number are empty together
counted_none : (f : ℕ → List ℕ) (n : ℕ) → ((k : ℕ) → k < n → f k ≡ [])
    → flat_map f (range_with_len 0 n) ≡ []
counted_none f zero none = refl
counted_none f (suc n) none =
    let on : suc n ≡ n + 1 = omega arith in
    ap (λ m. flat_map f (range_with_len 0 m)) on ∙ sym (counted_more f n)
    ∙ ap (λ l. l ++ f n) (counted_none f n (λ k below. none k (omega arith))) ∙ none n (omega arith)

-- the parts of what is empty are empty
empty_parts : (xs ys : List ℕ) → xs ++ ys ≡ [] → (xs ≡ []) × (ys ≡ [])
empty_parts [] ys e = (refl, e)
empty_parts (x ∷ xs) ys e = absurd (cc e)

-- texts that are empty together are empty at each number
counted_empty : (f : ℕ → List ℕ) (n : ℕ) → flat_map f (range_with_len 0 n) ≡ []
    → (k : ℕ) → k < n → f k ≡ []
counted_empty f zero none k below = absurd (omega arith)
counted_empty f (suc n) none k below =
    let on : suc n ≡ n + 1 = omega arith in
    let parts = empty_parts (flat_map f (range_with_len 0 n)) (f n)
    (counted_more f n ∙ ap (λ m. flat_map f (range_with_len 0 m)) (sym on) ∙ none) in
    elim (cases_lt k n) [
      | inl before ↦ counted_empty f n parts.0 k before
      | inr after ↦ let same : k ≡ n = omega arith in ap f same ∙ parts.1
    ]

-- where no caller has a reply, there is no text
pub no_call-no_text : (number : ℕ) (replies : List (List Reply)) → All (λ own. own ≡ []) replies
    → phase_text number replies ≡ []
no_call-no_text number replies none =
    ap (headed (number_line (codes "phase ") number))
    (counted_none (λ k. caller_text k (get_or replies k [])) (length replies)
    (λ k below. ap (caller_text k) (none k [] below)))

-- a caller without text has no replies
no_replies : (caller : ℕ) (replies : List Reply) → caller_text caller replies ≡ [] → replies ≡ []
no_replies caller [] none = refl
no_replies caller (reply ∷ replies) none =
    absurd (some-append (number_line (codes "caller ") caller)
    (flat_map line_of (reply ∷ replies)) (λ e. absurd (cc e))
    (sym (caller_text-some caller (reply ∷ replies) (λ e. absurd (cc e))) ∙ none))

-- where some caller has a reply, there is a text
some_call-some_text : (replies : List (List Reply)) → ¬ (All (λ own. own ≡ []) replies)
    → callers_text replies ≢ []
some_call-some_text replies some = λ none.
    some (λ k d below. get_or_default replies k d [] below
    ∙ no_replies k (get_or replies k [])
    (counted_empty (λ c. caller_text c (get_or replies c [])) (length replies) none k below))

-- the replies of one more caller were written
pub callers_more : (replies : List (List Reply)) (caller : ℕ) (own : List Reply)
    (old mid new : List ℕ)
    → mid
    ≡ old ++ flat_map (λ c. caller_text c (get_or replies c [])) (range_with_len 0 caller)
    → own ≡ get_or replies caller [] → new ≡ mid ++ caller_text caller own
    → new
    ≡ old ++ flat_map (λ c. caller_text c (get_or replies c [])) (range_with_len 0 (caller + 1))
callers_more replies caller own old mid new before is added =
    let f : ℕ → List ℕ = λ c. caller_text c (get_or replies c []) in
    added ∙ ap (λ o. mid ++ caller_text caller o) is ∙ ap (λ l. l ++ f caller) before
    ∙ append_assoc old (flat_map f (range_with_len 0 caller)) (f caller)
    ∙ ap (λ l. old ++ l) (counted_more f caller)

-- a phase was written under its number
pub phase_written : (old mid new : List ℕ) (number : ℕ) (replies : List (List Reply))
    → mid ≡ old ++ number_line (codes "phase ") number → new ≡ mid ++ callers_text replies
    → ¬ (All (λ own. own ≡ []) replies) → new ≡ old ++ phase_text number replies
phase_written old mid new number replies head body some =
    body ∙ ap (λ l. l ++ callers_text replies) head
    ∙ append_assoc old (number_line (codes "phase ") number) (callers_text replies)
    ∙ ap (λ l. old ++ l)
    (sym (headed-some (number_line (codes "phase ") number) (callers_text replies)
    (some_call-some_text replies some)))

-- the rows were written, and their number
pub rows_written : (old head mid new : List ℕ) (n : ℕ) (rows : List (ℕ × ℕ))
    → head ≡ old ++ codes "rows\n"
    → mid ≡ head ++ flat_map (λ row. pair_line (codes "row ") row.0 row.1) (take n rows)
    → length rows ≤ n → new ≡ mid ++ number_line (codes "end ") (length rows)
    → new ≡ old ++ rows_text rows
rows_written old head mid new n rows first each all last =
    let line : ℕ × ℕ → List ℕ = λ row. pair_line (codes "row ") row.0 row.1 in
    let end = number_line (codes "end ") (length rows) in
    last ∙ ap (λ l. l ++ end) (each ∙ ap (λ l. head ++ flat_map line l) (take_all n rows all)
    ∙ ap (λ l. l ++ flat_map line rows) first
    ∙ append_assoc old (codes "rows\n") (flat_map line rows))
    ∙ append_assoc old (codes "rows\n" ++ flat_map line rows) end

-- the text of the rows ends a transcript of the phases before them
pub adds_rows : (rows : List (ℕ × ℕ)) (old new : List ℕ)
    → new ≡ old ++ rows_text rows → AddsRows rows old new
adds_rows rows old new added phases text = added ∙ ap (λ l. l ++ rows_text rows) text

-- one more phase
phases_more : (before : List (List (List Reply))) (replies : List (List Reply))
    → phases_text (before ++ replies ∷ []) ≡ phases_text before ++ phase_text (length before) replies
phases_more before replies =
    let n = length before in
    let all = before ++ replies ∷ [] in
    let f : ℕ → List ℕ = λ k. phase_text k (get_or all k []) in
    ap (λ m. flat_map f (range_with_len 0 m)) (length_push before replies) ∙ sym (counted_more f n)
    ∙ ap (λ l. l ++ f n)
    (counted_same f (λ k. phase_text k (get_or before k [])) n
    (λ k below. ap (phase_text k) (get_or_append_left before (replies ∷ []) [] k below)))
    ∙ ap (λ r. phases_text before ++ phase_text n r) (get_or_push before replies [] n refl)

-- the text of a phase goes on after those before it
pub adds_phase : (number : ℕ) (replies : List (List Reply)) (old new : List ℕ)
    → new ≡ old ++ phase_text number replies → AddsPhase number replies old new
adds_phase number replies old new added before count text =
    added ∙ ap (λ l. l ++ phase_text number replies) text
    ∙ ap (λ n. phases_text before ++ phase_text n replies) (sym count)
    ∙ sym (phases_more before replies)
