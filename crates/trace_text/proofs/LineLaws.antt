-- What a line of a trace says, and what it cannot say.
use Rattle.std.proofs.Common.{◌≡◌, ◌≢◌, ℕ, ◌≤◌, List, [], ◌∷◌, ◌++◌, length, get_or, Option, Some, None, MatchOption, refl, sym, ap, subst, inl, inr, ◌∙◌, arith}
use Rattle.std.specs.List.{AllByRecursion}
use Rattle.std.proofs.lemmas.Bool.{cases_lt}
use Rattle.wire_commands.specs.declared.request.Request.{Request}
use Rattle.wire_commands.specs.declared.request.Request.TheVariants.{Bad}
use Rattle.wire_commands.specs.declared.request.Reason.{Reason}
use Rattle.wire_commands.specs.declared.request.Reason.TheVariants.{Long, Word}
use Rattle.wire_commands.specs.declared.forms.Form.{Form}
use Rattle.wire_commands.specs.declared.forms.Form.TheVariants as form
use Rattle.wire_commands.specs.Words.{HasWords, HasOtherCount, BeginsWith}
use Rattle.wire_commands.specs.Grammar.{keyword_of, longest, reasons, DropsReturn, Reads, Holds, IsFirstReason}
use Rattle.wire_commands.proofs.WordLaws.{same_words, same_first_word}
use Rattle.wire_commands.proofs.GrammarLaws.{same_line, same_request}
use Rattle.wire_commands.proofs.ReadingLaws.{unknown_word}
use Rattle.trace_text.specs.declared.lines.Mark.{Mark}
use Rattle.trace_text.specs.declared.lines.Mark.TheVariants as mark
use Rattle.trace_text.specs.declared.lines.Line.{Line}
use Rattle.trace_text.specs.declared.lines.Line.TheVariants.{Skip, Phase, Caller, Call}
use Rattle.trace_text.specs.Lines.{HasWordsOf, IsSkipped, IsCall, NamesCaller, HasCaller, keyword_of as name_of, IsMark, Fits, Says}
use Rattle.trace_text.specs.Laws.{SaysOneThing}
use Rattle.wire_commands.specs.Numbers.{value_of}

-- a line has one list of words only
pub same_words_of : (whole line : List ℕ) (words others : List (List ℕ)) → DropsReturn whole line
    → HasWords line words → HasWordsOf whole others → words ≡ others
same_words_of whole line words others dropped has has_others =
    let line_is = same_line whole has_others.line line has_others.dropped dropped in
    same_words line words others has (subst (λ l. HasWords l others) line_is has_others.has)

-- the first word of a line, and the words of what follows it
pub first_of_words : (whole line word rest first : List ℕ) (words : List (List ℕ))
    → DropsReturn whole line → BeginsWith line word rest → HasWordsOf whole (first ∷ words)
    → (word ≡ first) × HasWords rest words
first_of_words whole line word rest first words dropped begins has =
    let line_is = same_line whole has.line line has.dropped dropped in
    let here : HasWords line (first ∷ words) = subst (λ l. HasWords l (first ∷ words)) line_is has.has in
    let same = same_first_word line word rest first here.0 begins here.1 in
    (same.0, subst (λ r. HasWords r words) (sym same.1) here.2)

-- a line without words is no mark
pub no_words_no_mark : (callers : ℕ) (whole line : List ℕ) → DropsReturn whole line
    → HasWords line [] → (said : Line) → ¬ (IsMark callers whole said)
no_words_no_mark callers whole line dropped none Skip = λ is. is
no_words_no_mark callers whole line dropped none Phase = λ is.
    absurd (cc (same_words_of whole line [] (name_of mark.Phase ∷ []) dropped none is))
no_words_no_mark callers whole line dropped none (Caller caller) = λ is.
    absurd (cc (same_words_of whole line [] (name_of mark.Caller ∷ is.0 ∷ []) dropped none is.1))
no_words_no_mark callers whole line dropped none (Call request) = λ is. is

-- a first word that is no mark's keyword
pub unknown_mark : (callers : ℕ) (whole line word rest : List ℕ) → DropsReturn whole line
    → BeginsWith line word rest → ((m : Mark) → word ≢ name_of m)
    → (said : Line) → ¬ (IsMark callers whole said)
unknown_mark callers whole line word rest dropped begins unknown Skip = λ is. is
unknown_mark callers whole line word rest dropped begins unknown Phase = λ is.
    unknown mark.Phase
    (first_of_words whole line word rest (name_of mark.Phase) [] dropped begins is).0
unknown_mark callers whole line word rest dropped begins unknown (Caller caller) = λ is.
    unknown mark.Caller
    (first_of_words whole line word rest (name_of mark.Caller) (is.0 ∷ []) dropped begins is.1).0
unknown_mark callers whole line word rest dropped begins unknown (Call request) = λ is. is

-- more than the keyword marks no phase
pub no_phase : (callers : ℕ) (whole line word rest : List ℕ) → DropsReturn whole line
    → BeginsWith line word rest → word ≡ name_of mark.Phase → ¬ (HasWords rest [])
    → (said : Line) → ¬ (IsMark callers whole said)
no_phase callers whole line word rest dropped begins is some Skip = λ m. m
no_phase callers whole line word rest dropped begins is some Phase = λ m.
    some (first_of_words whole line word rest (name_of mark.Phase) [] dropped begins m).1
no_phase callers whole line word rest dropped begins is some (Caller caller) = λ m.
    let first =
    first_of_words whole line word rest (name_of mark.Caller) (m.0 ∷ []) dropped begins m.1 in
    absurd (cc (sym is ∙ first.0))
no_phase callers whole line word rest dropped begins is some (Call request) = λ m. m

-- the keyword and a caller's number mark the caller
pub marks_caller : (callers : ℕ) (whole line word rest : List ℕ) (caller : ℕ)
    → DropsReturn whole line → BeginsWith line word rest → word ≡ name_of mark.Caller
    → HasCaller callers rest caller → IsMark callers whole (Caller caller)
marks_caller callers whole line word rest caller dropped begins is has = (
  has.0,
  record {
    line = line;
    dropped = dropped;
    has = (rest, subst (λ w. BeginsWith line w rest) is begins, has.1);
  },
  has.2,
)

-- the keyword without a caller's number marks no caller
pub no_caller : (callers : ℕ) (whole line word rest : List ℕ) → DropsReturn whole line
    → BeginsWith line word rest → word ≡ name_of mark.Caller
    → ((caller : ℕ) → ¬ (HasCaller callers rest caller))
    → (said : Line) → ¬ (IsMark callers whole said)
no_caller callers whole line word rest dropped begins is none Skip = λ m. m
no_caller callers whole line word rest dropped begins is none Phase = λ m.
    let first = first_of_words whole line word rest (name_of mark.Phase) [] dropped begins m in
    absurd (cc (sym is ∙ first.0))
no_caller callers whole line word rest dropped begins is none (Caller caller) = λ m.
    let first =
    first_of_words whole line word rest (name_of mark.Caller) (m.0 ∷ []) dropped begins m.1 in
    none caller (m.0, first.1, m.2)
no_caller callers whole line word rest dropped begins is none (Call request) = λ m. m

-- a caller's number is the line's only word
same_caller_word : (callers : ℕ) (line word : List ℕ) (caller : ℕ) → HasWords line (word ∷ [])
    → HasCaller callers line caller → NamesCaller callers word caller
same_caller_word callers line word caller has has_caller =
    let words = same_words line (has_caller.0 ∷ []) (word ∷ []) has_caller.1 has in
    let same : has_caller.0 ≡ word = cc words in
    subst (λ w. NamesCaller callers w caller) same has_caller.2

-- what the line's only word names, the line names
pub names_by_word : (callers : ℕ) (line word : List ℕ) (result : Option ℕ)
    → HasWords line (word ∷ [])
    → MatchOption result ((caller : ℕ) → ¬ (NamesCaller callers word caller))
    (NamesCaller callers word)
    → MatchOption result ((caller : ℕ) → ¬ (HasCaller callers line caller))
    (HasCaller callers line)
names_by_word callers line word (Some caller) has names = (word, has, names)
names_by_word callers line word None has none = λ caller has_caller.
    none caller (same_caller_word callers line word caller has has_caller)

-- the first reason is tried before that of an unknown word
fits_before_word : (line : List ℕ) (words : List (List ℕ)) (before after : List Reason)
    → reasons ≡ before ++ Word ∷ after
    → AllByRecursion (λ earlier. ¬ (Holds earlier line words)) before → length line ≤ longest
fits_before_word line words [] after order none = absurd (cc order)
fits_before_word line words (first ∷ before) after order none =
    let is_long : first ≡ Long = cc order in
    let not_long : ¬ (Holds Long line words) =
    subst (λ r. ¬ (Holds r line words)) is_long none.0 in
    elim (cases_lt longest (length line)) [
      | inl long ↦ absurd (not_long long)
      | inr fits ↦ fits
    ]

-- a line that reads as an unknown word is not too long
pub unknown_fits : (whole : List ℕ) → Reads whole (Bad Word) → Fits whole
unknown_fits whole reads = λ line dropped.
    let first : IsFirstReason Word reads.line reads.is_request.0 = reads.is_request.2 in
    let line_is = same_line whole reads.line line reads.dropped dropped in
    subst (λ l. length l ≤ longest) line_is
    (fits_before_word reads.line reads.is_request.0 first.before first.after first.order
    first.none_before)

-- no keyword of a request is one of a mark
pub no_form_of_mark : (m : Mark) (form : Form) → name_of m ≢ keyword_of form
no_form_of_mark mark.Phase form.Get = λ e. absurd (cc e)
no_form_of_mark mark.Phase form.Put = λ e. absurd (cc e)
no_form_of_mark mark.Phase form.Remove = λ e. absurd (cc e)
no_form_of_mark mark.Phase form.Quit = λ e. absurd (cc e)
no_form_of_mark mark.Caller form.Get = λ e. absurd (cc e)
no_form_of_mark mark.Caller form.Put = λ e. absurd (cc e)
no_form_of_mark mark.Caller form.Remove = λ e.
    let letters : 99 ≡ 114 = ap (λ word. get_or word 0 0) e in absurd (omega (arith, letters))
no_form_of_mark mark.Caller form.Quit = λ e. absurd (cc e)

-- a line with a mark's keyword reads as an unknown word
unknown_with_keyword : (m : Mark) (whole : List ℕ) (words : List (List ℕ)) → Fits whole
    → HasWordsOf whole (name_of m ∷ words) → Reads whole (Bad Word)
unknown_with_keyword m whole words fits has = record {
  line = has.line;
  dropped = has.dropped;
  is_request =
      unknown_word has.line (name_of m) has.has.0 (fits has.line has.dropped) has.has.1
      (no_form_of_mark m);
}

-- a mark reads as an unknown word
pub mark_is_unknown : (callers : ℕ) (whole : List ℕ) (said : Line) → Fits whole
    → IsMark callers whole said → Reads whole (Bad Word)
mark_is_unknown callers whole Skip fits is = absurd is
mark_is_unknown callers whole Phase fits is = unknown_with_keyword mark.Phase whole [] fits is
mark_is_unknown callers whole (Caller caller) fits is =
    unknown_with_keyword mark.Caller whole (is.0 ∷ []) fits is.1
mark_is_unknown callers whole (Call request) fits is = absurd is

-- a line that is not skipped, and reads neither as a call nor as an unknown word, is bad
pub no_line : (callers : ℕ) (whole : List ℕ) (request : Request) → ¬ (IsSkipped whole)
    → Reads whole request → ¬ (IsCall request) → request ≢ Bad Word
    → (said : Line) → ¬ (Says callers whole said)
no_line callers whole request told reads no_call known Skip = λ says. told says
no_line callers whole request told reads no_call known Phase = λ says.
    known (same_request whole request (Bad Word) reads
    (mark_is_unknown callers whole Phase says.1 says.2))
no_line callers whole request told reads no_call known (Caller caller) = λ says.
    known (same_request whole request (Bad Word) reads
    (mark_is_unknown callers whole (Caller caller) says.1 says.2))
no_line callers whole request told reads no_call known (Call call) = λ says.
    no_call (subst IsCall (same_request whole call request says.1 reads) says.2)

-- a mark is what its line says
says_mark : (callers : ℕ) (whole : List ℕ) (said : Line) → ¬ (IsSkipped whole) → Fits whole
    → IsMark callers whole said → Says callers whole said
says_mark callers whole Skip told fits is = absurd is
says_mark callers whole Phase told fits is = (told, fits, is)
says_mark callers whole (Caller caller) told fits is = (told, fits, is)
says_mark callers whole (Call request) told fits is = absurd is

-- a line whose first word is unknown and that is no mark is bad
no_mark : (callers : ℕ) (whole : List ℕ) → ¬ (IsSkipped whole) → Reads whole (Bad Word)
    → ((said : Line) → ¬ (IsMark callers whole said)) → (said : Line) → ¬ (Says callers whole said)
no_mark callers whole told reads none Skip = λ says. told says
no_mark callers whole told reads none Phase = λ says. none Phase says.2
no_mark callers whole told reads none (Caller caller) = λ says. none (Caller caller) says.2
no_mark callers whole told reads none (Call call) = λ says.
    subst IsCall (same_request whole call (Bad Word) says.1 reads) says.2

-- a line whose first word is unknown says what it marks
pub says_as_mark : (callers : ℕ) (whole : List ℕ) (result : Option Line) → ¬ (IsSkipped whole)
    → Reads whole (Bad Word)
    → MatchOption result ((said : Line) → ¬ (IsMark callers whole said)) (IsMark callers whole)
    → MatchOption result ((said : Line) → ¬ (Says callers whole said)) (Says callers whole)
says_as_mark callers whole (Some said) told reads is =
    says_mark callers whole said told (unknown_fits whole reads) is
says_as_mark callers whole None told reads none = no_mark callers whole told reads none

-- without one word there is no caller's number
pub no_word_no_caller : (callers : ℕ) (line : List ℕ) → HasOtherCount line 1 → (caller : ℕ)
    → ¬ (HasCaller callers line caller)
no_word_no_caller callers line other caller = λ has.
    let words = same_words line other.0 (has.0 ∷ []) other.1 has.1 in other.2 (ap length words)

-- a line has the words of one list only
pub same_line_words : (whole : List ℕ) (words others : List (List ℕ)) → HasWordsOf whole words
    → HasWordsOf whole others → words ≡ others
same_line_words whole words others a b =
    same_words_of whole a.line words others a.dropped a.has b

-- a line marks one thing only
same_mark : (callers : ℕ) (whole : List ℕ) (said other : Line) → IsMark callers whole said
    → IsMark callers whole other → said ≡ other
same_mark callers whole Skip other a b = absurd a
same_mark callers whole (Call call) other a b = absurd a
same_mark callers whole Phase Skip a b = absurd b
same_mark callers whole Phase (Call call) a b = absurd b
same_mark callers whole Phase Phase a b = refl
same_mark callers whole Phase (Caller caller) a b =
    absurd (cc (same_line_words whole (name_of mark.Phase ∷ []) (name_of mark.Caller ∷ b.0 ∷ []) a b.1))
same_mark callers whole (Caller caller) Skip a b = absurd b
same_mark callers whole (Caller caller) (Call call) a b = absurd b
same_mark callers whole (Caller caller) Phase a b =
    absurd (cc (same_line_words whole (name_of mark.Phase ∷ []) (name_of mark.Caller ∷ a.0 ∷ []) b a.1))
same_mark callers whole (Caller caller) (Caller other) a b =
    let words =
    same_line_words whole (name_of mark.Caller ∷ a.0 ∷ []) (name_of mark.Caller ∷ b.0 ∷ []) a.1 b.1 in
    let word : a.0 ≡ b.0 = cc words in
    ap Caller (sym a.2.value ∙ ap value_of word ∙ b.2.value)

-- a mark is no call
no_call_of_mark : (callers : ℕ) (whole : List ℕ) (mark : Line) (call : Request) → Fits whole
    → IsMark callers whole mark → Reads whole call → ¬ (IsCall call)
no_call_of_mark callers whole mark call fits is reads =
    subst (λ r. ¬ (IsCall r))
    (same_request whole (Bad Word) call (mark_is_unknown callers whole mark fits is) reads)
    (λ is_call. is_call)

-- no line says two things
pub lines_say_one_thing : (callers : ℕ) → SaysOneThing (Says callers)
lines_say_one_thing callers whole Skip Skip a b = refl
lines_say_one_thing callers whole Skip Phase a b = absurd (b.0 a)
lines_say_one_thing callers whole Skip (Caller caller) a b = absurd (b.0 a)
lines_say_one_thing callers whole Skip (Call call) a b = absurd (b.0 a)
lines_say_one_thing callers whole Phase Skip a b = absurd (a.0 b)
lines_say_one_thing callers whole (Caller caller) Skip a b = absurd (a.0 b)
lines_say_one_thing callers whole (Call call) Skip a b = absurd (a.0 b)
lines_say_one_thing callers whole Phase Phase a b = refl
lines_say_one_thing callers whole Phase (Caller caller) a b =
    same_mark callers whole Phase (Caller caller) a.2 b.2
lines_say_one_thing callers whole (Caller caller) Phase a b =
    same_mark callers whole (Caller caller) Phase a.2 b.2
lines_say_one_thing callers whole (Caller caller) (Caller other) a b =
    same_mark callers whole (Caller caller) (Caller other) a.2 b.2
lines_say_one_thing callers whole Phase (Call call) a b =
    absurd (no_call_of_mark callers whole Phase call a.1 a.2 b.1 b.2)
lines_say_one_thing callers whole (Caller caller) (Call call) a b =
    absurd (no_call_of_mark callers whole (Caller caller) call a.1 a.2 b.1 b.2)
lines_say_one_thing callers whole (Call call) Phase a b =
    absurd (no_call_of_mark callers whole Phase call b.1 b.2 a.1 a.2)
lines_say_one_thing callers whole (Call call) (Caller caller) a b =
    absurd (no_call_of_mark callers whole (Caller caller) call b.1 b.2 a.1 a.2)
lines_say_one_thing callers whole (Call call) (Call other) a b =
    ap Call (same_request whole call other a.1 b.1)
