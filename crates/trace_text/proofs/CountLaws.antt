-- The lines of a transcript by what they begin with: as many as there are replies of that form.
use Rattle.std.proofs.Common.{◌≡◌, ◌≢◌, ℕ, zero, suc, ◌+◌, ◌/◌, ◌%◌, ◌≤◌, ◌==◌, Bool, true, false, cond}
use Rattle.std.proofs.Common.{List, [], ◌∷◌, ◌++◌, length, take, get_or, codes}
use Rattle.std.proofs.Common.{refl, sym, ap, ◌∙◌, subst, append_assoc, arith, eqb-true}
use Rattle.std.specs.Prelude.{◌&&◌, nat_eq, nat_lt, if◌then◌else◌}
use Rattle.std.specs.List.{flat_map, range_with_len, starts_with}
use Rattle.std.specs.Fmt.{decimal, digit_glyph, digits, digits_onto}
use Rattle.std.proofs.lemmas.List.{append-nil, flat_map_more, take_all, take_more}
use Rattle.wire_commands.specs.Stream.{HasNoNewline}
use Rattle.wire_commands.specs.Replies.{line_of, text_of}
use Rattle.wire_commands.specs.declared.request.Reason.TheVariants.{Long, Empty, Word, Count, Number, Range}
use Rattle.wire_commands.specs.declared.reply.Reply.{Reply}
use Rattle.wire_commands.specs.declared.reply.Reply.TheVariants as reply
use Rattle.trace_text.specs.declared.counting.Form.{Form}
use Rattle.trace_text.specs.declared.counting.Form.TheVariants.{Value, NoValue, New, Old, Full, Worn, End}
use Rattle.trace_text.specs.Counts.{all_replies, beginning_of, count_of, is_of, later_lines_with, lines_with}
use Rattle.trace_text.specs.Text.{headed, number_line}
use Rattle.trace_text.specs.Transcripts.{caller_text, callers_text, phase_text, phases_text}
use Rattle.trace_text.proofs.TextLaws.{range_more}

-- ---- bytes that are no newline ----

none_append : (xs ys : List ℕ) → HasNoNewline xs → HasNoNewline ys → HasNoNewline (xs ++ ys)
none_append [] ys one two = two
none_append (x ∷ xs) ys one two = (one.0, none_append xs ys one.1 two)

glyph_none : (upper : Bool) (d : ℕ) → digit_glyph upper d ≢ 10
glyph_none upper d = go (nat_lt d 10) upper
  where
    go : (small up : Bool) → (if small then 48 + d else (if up then 55 + d else 87 + d)) ≢ 10
    go true up e = omega (arith, e)
    go false true e = omega (arith, e)
    go false false e = omega (arith, e)

digits_none : (k n : ℕ) (acc : List ℕ) → HasNoNewline acc →
    HasNoNewline (digits_onto k 10 false n acc)
digits_none zero n acc none = none
digits_none (suc k) n acc none =
    go (n / 10 == 0) (digits_none k (n / 10) (digit_glyph false (n % 10) ∷ acc) (glyph_none false (n % 10), none))
  where
    here : HasNoNewline (digit_glyph false (n % 10) ∷ acc)
    here = (glyph_none false (n % 10), none)

    go : (b : Bool) →
        HasNoNewline (digits_onto k 10 false (n / 10) (digit_glyph false (n % 10) ∷ acc)) →
        HasNoNewline (if b then digit_glyph false (n % 10) ∷ acc
        else digits_onto k 10 false (n / 10) (digit_glyph false (n % 10) ∷ acc))
    go true more = here
    go false more = more

decimal_none : (n : ℕ) → HasNoNewline (decimal n)
unfolding digits
decimal_none n = digits_none 64 n [] tt

-- ---- one line ----

-- nothing begins within a line
skip_line : (beginning line rest : List ℕ) → HasNoNewline line →
    later_lines_with beginning (line ++ 10 ∷ rest) ≡ later_lines_with beginning (10 ∷ rest)
skip_line beginning [] rest none = refl
skip_line beginning (b ∷ line) rest none =
    go (b == 10) refl (skip_line beginning line rest none.1)
  where
    go : (newline : Bool) → (b == 10) ≡ newline →
        later_lines_with beginning (line ++ 10 ∷ rest) ≡ later_lines_with beginning (10 ∷ rest) →
        cond (newline && starts_with nat_eq (line ++ 10 ∷ rest) beginning)
        (later_lines_with beginning (line ++ 10 ∷ rest) + 1) (later_lines_with beginning (line ++ 10 ∷ rest))
        ≡ later_lines_with beginning (10 ∷ rest)
    go true same more = absurd (none.0 (eqb-true b 10 same))
    go false other more = more

-- one more line, and what begins in it
line_counts : (beginning line rest : List ℕ) → HasNoNewline line →
    lines_with beginning (line ++ 10 ∷ rest)
    ≡ cond (starts_with nat_eq (line ++ 10 ∷ rest) beginning) (lines_with beginning rest + 1)
    (lines_with beginning rest)
line_counts beginning line rest none =
    ap (λ (n : ℕ). cond (starts_with nat_eq (line ++ 10 ∷ rest) beginning) (n + 1) n)
    (skip_line beginning line rest none)

-- ---- one reply ----

text_none : (r : Reply) → HasNoNewline (text_of r)
text_none (reply.Value v) =
    none_append (codes "value ") (decimal v)
    (λ e. cc e, (λ e. cc e, (λ e. cc e, (λ e. cc e, (λ e. cc e, (λ e. cc e, tt)))))) (decimal_none v)
text_none reply.NoValue = (λ e. cc e, (λ e. cc e, (λ e. cc e, (λ e. cc e, tt))))
text_none reply.New = (λ e. cc e, (λ e. cc e, (λ e. cc e, tt)))
text_none (reply.Old v) =
    none_append (codes "old ") (decimal v) (λ e. cc e, (λ e. cc e, (λ e. cc e, (λ e. cc e, tt))))
    (decimal_none v)
text_none reply.Full = (λ e. cc e, (λ e. cc e, (λ e. cc e, (λ e. cc e, tt))))
text_none reply.Worn = (λ e. cc e, (λ e. cc e, (λ e. cc e, (λ e. cc e, tt))))
text_none reply.Bye = (λ e. cc e, (λ e. cc e, (λ e. cc e, tt)))
text_none (reply.Bad Long) = (λ e. cc e, (λ e. cc e, (λ e. cc e, (λ e. cc e, (λ e. cc e, (λ e. cc e, (λ e. cc e, (λ e. cc e, tt))))))))
text_none (reply.Bad Empty) = (λ e. cc e, (λ e. cc e, (λ e. cc e, (λ e. cc e, (λ e. cc e, (λ e. cc e, (λ e. cc e, (λ e. cc e, (λ e. cc e, tt)))))))))
text_none (reply.Bad Word) = (λ e. cc e, (λ e. cc e, (λ e. cc e, (λ e. cc e, (λ e. cc e, (λ e. cc e, (λ e. cc e, (λ e. cc e, tt))))))))
text_none (reply.Bad Count) = (λ e. cc e, (λ e. cc e, (λ e. cc e, (λ e. cc e, (λ e. cc e, (λ e. cc e, (λ e. cc e, (λ e. cc e, (λ e. cc e, tt)))))))))
text_none (reply.Bad Number) = (λ e. cc e, (λ e. cc e, (λ e. cc e, (λ e. cc e, (λ e. cc e, (λ e. cc e, (λ e. cc e, (λ e. cc e, (λ e. cc e, (λ e. cc e, tt))))))))))
text_none (reply.Bad Range) = (λ e. cc e, (λ e. cc e, (λ e. cc e, (λ e. cc e, (λ e. cc e, (λ e. cc e, (λ e. cc e, (λ e. cc e, (λ e. cc e, tt)))))))))

-- a reply's line begins as those of its form
begins_so : (form : Form) (r : Reply) (rest : List ℕ) →
    starts_with nat_eq (text_of r ++ 10 ∷ rest) (beginning_of form) ≡ is_of form r
begins_so Value (reply.Value v) rest = refl
begins_so Value reply.NoValue rest = refl
begins_so Value reply.New rest = refl
begins_so Value (reply.Old v) rest = refl
begins_so Value reply.Full rest = refl
begins_so Value reply.Worn rest = refl
begins_so Value reply.Bye rest = refl
begins_so Value (reply.Bad reason) rest = refl
begins_so NoValue (reply.Value v) rest = refl
begins_so NoValue reply.NoValue rest = refl
begins_so NoValue reply.New rest = refl
begins_so NoValue (reply.Old v) rest = refl
begins_so NoValue reply.Full rest = refl
begins_so NoValue reply.Worn rest = refl
begins_so NoValue reply.Bye rest = refl
begins_so NoValue (reply.Bad reason) rest = refl
begins_so New (reply.Value v) rest = refl
begins_so New reply.NoValue rest = refl
begins_so New reply.New rest = refl
begins_so New (reply.Old v) rest = refl
begins_so New reply.Full rest = refl
begins_so New reply.Worn rest = refl
begins_so New reply.Bye rest = refl
begins_so New (reply.Bad reason) rest = refl
begins_so Old (reply.Value v) rest = refl
begins_so Old reply.NoValue rest = refl
begins_so Old reply.New rest = refl
begins_so Old (reply.Old v) rest = refl
begins_so Old reply.Full rest = refl
begins_so Old reply.Worn rest = refl
begins_so Old reply.Bye rest = refl
begins_so Old (reply.Bad reason) rest = refl
begins_so Full (reply.Value v) rest = refl
begins_so Full reply.NoValue rest = refl
begins_so Full reply.New rest = refl
begins_so Full (reply.Old v) rest = refl
begins_so Full reply.Full rest = refl
begins_so Full reply.Worn rest = refl
begins_so Full reply.Bye rest = refl
begins_so Full (reply.Bad reason) rest = refl
begins_so Worn (reply.Value v) rest = refl
begins_so Worn reply.NoValue rest = refl
begins_so Worn reply.New rest = refl
begins_so Worn (reply.Old v) rest = refl
begins_so Worn reply.Full rest = refl
begins_so Worn reply.Worn rest = refl
begins_so Worn reply.Bye rest = refl
begins_so Worn (reply.Bad reason) rest = refl
begins_so End (reply.Value v) rest = refl
begins_so End reply.NoValue rest = refl
begins_so End reply.New rest = refl
begins_so End (reply.Old v) rest = refl
begins_so End reply.Full rest = refl
begins_so End reply.Worn rest = refl
begins_so End reply.Bye rest = refl
begins_so End (reply.Bad reason) rest = refl

reply_counts : (form : Form) (r : Reply) (rest : List ℕ) →
    lines_with (beginning_of form) (line_of r ++ rest)
    ≡ cond (is_of form r) (lines_with (beginning_of form) rest + 1) (lines_with (beginning_of form) rest)
reply_counts form r rest =
    ap (lines_with (beginning_of form)) (append_assoc (text_of r) (10 ∷ []) rest)
    ∙ (line_counts (beginning_of form) (text_of r) rest (text_none r)
    ∙ ap (λ (b : Bool). cond b (lines_with (beginning_of form) rest + 1) (lines_with (beginning_of form) rest))
    (begins_so form r rest))

lines_count : (form : Form) (replies : List Reply) (rest : List ℕ) →
    lines_with (beginning_of form) (flat_map line_of replies ++ rest)
    ≡ count_of form replies + lines_with (beginning_of form) rest
lines_count form [] rest = omega arith
lines_count form (r ∷ replies) rest =
    ap (lines_with (beginning_of form)) (append_assoc (line_of r) (flat_map line_of replies) rest)
    ∙ (reply_counts form r (flat_map line_of replies ++ rest)
    ∙ go (is_of form r) (lines_count form replies rest))
  where
    go : (b : Bool) →
        lines_with (beginning_of form) (flat_map line_of replies ++ rest)
        ≡ count_of form replies + lines_with (beginning_of form) rest →
        cond b (lines_with (beginning_of form) (flat_map line_of replies ++ rest) + 1)
        (lines_with (beginning_of form) (flat_map line_of replies ++ rest))
        ≡ cond b (count_of form replies + 1) (count_of form replies) + lines_with (beginning_of form) rest
    go true same = omega (arith, same)
    go false same = same

-- ---- heads ----

-- a head is a line that no reply begins as
abbrev IsHead : Form → List ℕ → Type 0
IsHead form head =
    (rest : List ℕ) → lines_with (beginning_of form) (head ++ rest) ≡ lines_with (beginning_of form) rest

headed_count : (form : Form) (head xs rest : List ℕ) → IsHead form head →
    lines_with (beginning_of form) (headed head xs ++ rest) ≡ lines_with (beginning_of form) (xs ++ rest)
headed_count form head [] rest is = refl
headed_count form head (x ∷ xs) rest is =
    ap (lines_with (beginning_of form)) (append_assoc head (x ∷ xs) rest) ∙ is (x ∷ xs ++ rest)

-- a line of a word and a number, of which no reply begins as the word, is a head
word_head : (form : Form) (word : List ℕ) (n : ℕ) → HasNoNewline word →
    ((behind : List ℕ) → starts_with nat_eq (word ++ behind) (beginning_of form) ≡ false) →
    IsHead form (number_line word n)
word_head form word n none other rest =
    let line = word ++ decimal n in
    let whole : number_line word n ++ rest ≡ line ++ 10 ∷ rest = append_assoc line (10 ∷ []) rest in
    let differs : starts_with nat_eq (line ++ 10 ∷ rest) (beginning_of form) ≡ false =
    ap (λ (t : List ℕ). starts_with nat_eq t (beginning_of form)) (append_assoc word (decimal n) (10 ∷ rest))
    ∙ other (decimal n ++ 10 ∷ rest) in
    ap (lines_with (beginning_of form)) whole
    ∙ (line_counts (beginning_of form) line rest (none_append word (decimal n) none (decimal_none n))
    ∙ ap (λ (b : Bool). cond b (lines_with (beginning_of form) rest + 1) (lines_with (beginning_of form) rest))
    differs)

caller_head : (form : Form) (n : ℕ) → IsHead form (number_line (codes "caller ") n)
caller_head form n =
    word_head form (codes "caller ") n
    (λ e. cc e, (λ e. cc e, (λ e. cc e, (λ e. cc e, (λ e. cc e, (λ e. cc e, (λ e. cc e, tt))))))) (other form)
  where
    other : (f : Form) (behind : List ℕ) →
        starts_with nat_eq (codes "caller " ++ behind) (beginning_of f) ≡ false
    other Value behind = refl
    other NoValue behind = refl
    other New behind = refl
    other Old behind = refl
    other Full behind = refl
    other Worn behind = refl
    other End behind = refl

phase_head : (form : Form) (n : ℕ) → IsHead form (number_line (codes "phase ") n)
phase_head form n =
    word_head form (codes "phase ") n
    (λ e. cc e, (λ e. cc e, (λ e. cc e, (λ e. cc e, (λ e. cc e, (λ e. cc e, tt)))))) (other form)
  where
    other : (f : Form) (behind : List ℕ) →
        starts_with nat_eq (codes "phase " ++ behind) (beginning_of f) ≡ false
    other Value behind = refl
    other NoValue behind = refl
    other New behind = refl
    other Old behind = refl
    other Full behind = refl
    other Worn behind = refl
    other End behind = refl

-- ---- texts by their places ----

-- numbers for each, added up
abbrev sum_of : {X : Type 0} → (X → ℕ) → List X → ℕ
sum_of n [] = 0
sum_of n (x ∷ xs) = n x + sum_of n xs

sum_push : {X : Type 0} (n : X → ℕ) (xs : List X) (x : X) → sum_of n (xs ++ x ∷ []) ≡ sum_of n xs + n x
sum_push n [] x = omega arith
sum_push n (y ∷ xs) x = let rest = sum_push n xs x in omega (arith, rest)

module _ {X : Type 0} (form : Form) (text : ℕ → X → List ℕ) (n : X → ℕ) (d : X) (xs : List X)
    (each : (k : ℕ) (x : X) (rest : List ℕ) →
    lines_with (beginning_of form) (text k x ++ rest) ≡ n x + lines_with (beginning_of form) rest) where
  abbrev at_place : ℕ → List ℕ
  at_place k = text k (get_or xs k d)

  front_counts : (m : ℕ) (rest : List ℕ) → m ≤ length xs →
      lines_with (beginning_of form) (flat_map at_place (range_with_len 0 m) ++ rest)
      ≡ sum_of n (take m xs) + lines_with (beginning_of form) rest
  front_counts zero rest within = omega arith
  front_counts (suc m) rest within =
      let on : suc m ≡ m + 1 = omega arith in
      let front = flat_map at_place (range_with_len 0 m) in
      let more : flat_map at_place (range_with_len 0 (m + 1)) ≡ front ++ at_place m =
      ap (flat_map at_place) (range_more m) ∙ sym (flat_map_more at_place [] (range_with_len 0 m) m) in
      let took : sum_of n (take (m + 1) xs) ≡ sum_of n (take m xs) + n (get_or xs m d) =
      ap (sum_of n) (take_more xs m d (omega (arith, within))) ∙ sum_push n (take m xs) (get_or xs m d) in
      let before = front_counts m (at_place m ++ rest) (omega (arith, within)) in
      let here = each m (get_or xs m d) rest in
      let whole : lines_with (beginning_of form) (flat_map at_place (range_with_len 0 (m + 1)) ++ rest)
      ≡ sum_of n (take (m + 1) xs) + lines_with (beginning_of form) rest =
      ap (λ (t : List ℕ). lines_with (beginning_of form) (t ++ rest)) more
      ∙ (ap (lines_with (beginning_of form)) (append_assoc front (at_place m) rest)
      ∙ omega (arith, before, here, took)) in
      subst
      (λ (z : ℕ). lines_with (beginning_of form) (flat_map at_place (range_with_len 0 z) ++ rest)
      ≡ sum_of n (take z xs) + lines_with (beginning_of form) rest) (sym on) whole

  places_count : (rest : List ℕ) →
      lines_with (beginning_of form) (flat_map at_place (range_with_len 0 (length xs)) ++ rest)
      ≡ sum_of n xs + lines_with (beginning_of form) rest
  places_count rest =
      front_counts (length xs) rest (omega arith)
      ∙ ap (λ (l : List X). sum_of n l + lines_with (beginning_of form) rest) (take_all (length xs) xs (omega arith))

-- ---- a transcript ----

caller_counts : (form : Form) (caller : ℕ) (replies : List Reply) (rest : List ℕ) →
    lines_with (beginning_of form) (caller_text caller replies ++ rest)
    ≡ count_of form replies + lines_with (beginning_of form) rest
caller_counts form caller replies rest =
    headed_count form (number_line (codes "caller ") caller) (flat_map line_of replies) rest
    (caller_head form caller)
    ∙ lines_count form replies rest

phase_counts : (form : Form) (number : ℕ) (replies : List (List Reply)) (rest : List ℕ) →
    lines_with (beginning_of form) (phase_text number replies ++ rest)
    ≡ sum_of (count_of form) replies + lines_with (beginning_of form) rest
phase_counts form number replies rest =
    headed_count form (number_line (codes "phase ") number) (callers_text replies) rest
    (phase_head form number)
    ∙ places_count form caller_text (count_of form) [] replies (caller_counts form) rest

count_append : (form : Form) (xs ys : List Reply) → count_of form (xs ++ ys) ≡ count_of form xs + count_of form ys
count_append form [] ys = omega arith
count_append form (x ∷ xs) ys = go (is_of form x) (count_append form xs ys)
  where
    go : (b : Bool) → count_of form (xs ++ ys) ≡ count_of form xs + count_of form ys →
        cond b (count_of form (xs ++ ys) + 1) (count_of form (xs ++ ys))
        ≡ cond b (count_of form xs + 1) (count_of form xs) + count_of form ys
    go true same = omega (arith, same)
    go false same = same

count_callers : (form : Form) (replies : List (List Reply)) →
    count_of form (flat_map (λ own. own) replies) ≡ sum_of (count_of form) replies
count_callers form [] = refl
count_callers form (own ∷ replies) =
    let rest = count_callers form replies in
    let parts = count_append form own (flat_map (λ own. own) replies) in
    omega (arith, rest, parts)

count_phases : (form : Form) (phases : List (List (List Reply))) →
    count_of form (all_replies phases) ≡ sum_of (λ phase. sum_of (count_of form) phase) phases
count_phases form [] = refl
count_phases form (phase ∷ phases) =
    let first = count_callers form phase in
    let rest = count_phases form phases in
    let parts = count_append form (flat_map (λ own. own) phase) (all_replies phases) in
    omega (arith, first, rest, parts)

-- as many lines of the text begin so as there are replies of the form
pub replies_counted : (form : Form) (phases : List (List (List Reply))) →
    lines_with (beginning_of form) (phases_text phases) ≡ count_of form (all_replies phases)
replies_counted form phases =
    let all = places_count form phase_text (λ phase. sum_of (count_of form) phase) [] phases (phase_counts form) [] in
    let none : lines_with (beginning_of form) [] ≡ 0 = nothing form in
    let same = count_phases form phases in
    ap (lines_with (beginning_of form)) (sym (append-nil (phases_text phases)))
    ∙ omega (arith, all, none, same)
  where
    nothing : (f : Form) → lines_with (beginning_of f) [] ≡ 0
    nothing Value = refl
    nothing NoValue = refl
    nothing New = refl
    nothing Old = refl
    nothing Full = refl
    nothing Worn = refl
    nothing End = refl
