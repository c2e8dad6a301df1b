-- What stands behind a caller's number: a call or a deed.
use Rattle.std.proofs.Common.{◌≡◌, ℕ, ◌≤◌, List, [], ◌∷◌, length, map, get_or, cond, Option, Some, None, MatchOption, sym, ap, subst, inl, inr, ◌⊎◌, ◌∙◌}
use Rattle.std.specs.Prelude.{◌==◌}
use Rattle.wire_commands.specs.declared.request.Reason.{Reason}
use Rattle.wire_commands.specs.declared.request.Request.{Request}
use Rattle.wire_commands.specs.declared.request.Request.TheVariants.{Get, Put, Remove, Quit, Bad}
use Rattle.wire_commands.specs.declared.forms.Form.{Form}
use Rattle.wire_commands.specs.declared.forms.Form.TheVariants as form
use Rattle.wire_commands.specs.Words.{HasOtherCount}
use Rattle.wire_commands.specs.Numbers.{value_of}
use Rattle.wire_commands.specs.Grammar.{longest, keyword_of, DropsReturn, HasForm, Means, Reads}
use Rattle.wire_commands.proofs.GrammarLaws.{same_request}
use Rattle.trace_text.specs.declared.plays.Play.{Play}
use Rattle.trace_text.specs.declared.plays.Play.TheVariants.{Skip, Ask, Hold, Free, Probes, Layout}
use Rattle.trace_text.specs.Lines.{HasWordsOf, IsCall}
use Rattle.trace_text.specs.Plays.{Does, IsDeed}
use Rattle.trace_text.proofs.LineLaws.{same_line_words, same_words_of}

-- ---- words of a call and of a deed ----

-- a form with a number has two words or more
pub two_words_of : (f : Form) (line : List ℕ) (words : List (List ℕ)) (value : ℕ) (values : List ℕ)
    → HasForm f line words (value ∷ values)
    → (keyword number : List ℕ) × (more : List (List ℕ)) × (words ≡ keyword ∷ number ∷ more)
two_words_of f line words value values has = go has.others has.keyword has.numbers.values_are
  where
    go : (others : List (List ℕ)) → words ≡ keyword_of f ∷ others
        → map value_of others ≡ value ∷ values
        → (keyword number : List ℕ) × (more : List (List ℕ)) × (words ≡ keyword ∷ number ∷ more)
    go [] keyword none = absurd (cc none)
    go (number ∷ more) keyword some = (keyword_of f, number, more, keyword)

-- a call has a keyword and a number behind it
pub call_of_words : (line : List ℕ) (words : List (List ℕ)) (request : Request)
    → Means line words request → IsCall request
    → (keyword number : List ℕ) × (more : List (List ℕ)) × (words ≡ keyword ∷ number ∷ more)
call_of_words line words (Get key) means call = two_words_of form.Get line words key [] means
call_of_words line words (Put key value) means call =
    two_words_of form.Put line words key (value ∷ []) means
call_of_words line words (Remove key) means call =
    two_words_of form.Remove line words key [] means
call_of_words line words Quit means call = absurd call
call_of_words line words (Bad reason) means call = absurd call

-- one word is no call
pub no_call_of_word : (line word : List ℕ) (request : Request) → Means line (word ∷ []) request
    → ¬ (IsCall request)
no_call_of_word line word request means = λ call.
    let two = call_of_words line (word ∷ []) request means call in absurd (cc two.3)

-- a form has its words on each line that is not too long
pub form_on : (f : Form) (line other : List ℕ) (words : List (List ℕ)) (values : List ℕ)
    → length other ≤ longest → HasForm f line words values → HasForm f other words values
form_on f line other words values fits has = record {
  fits = fits;
  others = has.others;
  keyword = has.keyword;
  numbers = has.numbers;
}

-- so has a call
pub call_on : (line other : List ℕ) (words : List (List ℕ)) (request : Request)
    → length other ≤ longest → IsCall request → Means line words request
    → Means other words request
call_on line other words (Get key) fits call means =
    form_on form.Get line other words (key ∷ []) fits means
call_on line other words (Put key value) fits call means =
    form_on form.Put line other words (key ∷ value ∷ []) fits means
call_on line other words (Remove key) fits call means =
    form_on form.Remove line other words (key ∷ []) fits means
call_on line other words Quit fits call means = absurd call
call_on line other words (Bad reason) fits call means = absurd call

-- ---- calls and deeds ----

-- the play is a call, which stands behind the caller's number
pub record AsksFor (rest : List ℕ) (caller : ℕ) (play : Play) : Type 0 where
  pub request : Request
  pub play_is : play ≡ Ask caller request
  pub reads : Reads rest request
  pub call : IsCall request

-- the play is a deed, whose word stands behind the caller's number
pub record HasDeed (rest : List ℕ) (caller : ℕ) (play : Play) : Type 0 where
  pub word : List ℕ
  pub has : HasWordsOf rest (word ∷ [])
  pub deed : IsDeed word caller play

-- a caller makes a call or does a deed
pub does_either : (rest : List ℕ) (caller : ℕ) (play : Play) → Does rest caller play
    → AsksFor rest caller play ⊎ HasDeed rest caller play
does_either rest caller Skip does = absurd does.2
does_either rest caller (Ask other request) does =
    inl (record {
      request = request;
      play_is = ap (λ c. Ask c request) does.0;
      reads = does.1;
      call = does.2;
    })
does_either rest caller (Hold other) does =
    inr (record { word = does.0; has = does.1; deed = does.2 })
does_either rest caller (Free other) does =
    inr (record { word = does.0; has = does.1; deed = does.2 })
does_either rest caller (Probes other) does =
    inr (record { word = does.0; has = does.1; deed = does.2 })
does_either rest caller Layout does = absurd does.2

-- a deed's word is all that stands there
pub does_deed : (rest word : List ℕ) (caller : ℕ) (play : Play) → HasWordsOf rest (word ∷ [])
    → IsDeed word caller play → Does rest caller play
does_deed rest word caller Skip has deed = absurd deed
does_deed rest word caller (Ask other request) has deed = absurd deed
does_deed rest word caller (Hold other) has deed = (word, has, deed)
does_deed rest word caller (Free other) has deed = (word, has, deed)
does_deed rest word caller (Probes other) has deed = (word, has, deed)
does_deed rest word caller Layout has deed = absurd deed

-- one word reads as no call
pub no_call_reads : (rest word : List ℕ) (request : Request) → HasWordsOf rest (word ∷ [])
    → Reads rest request → ¬ (IsCall request)
no_call_reads rest word request has reads =
    let words =
    same_words_of rest reads.line reads.is_request.0 (word ∷ []) reads.dropped
    reads.is_request.1 has in
    no_call_of_word reads.line word request
    (subst (λ ws. Means reads.line ws request) words reads.is_request.2)

-- what one word makes a caller do
pub by_deed : (rest word : List ℕ) (caller : ℕ) (result : Option Play)
    → HasWordsOf rest (word ∷ [])
    → MatchOption result ((play : Play) → ¬ (IsDeed word caller play)) (IsDeed word caller)
    → MatchOption result ((play : Play) → ¬ (Does rest caller play)) (Does rest caller)
by_deed rest word caller (Some play) has deed = does_deed rest word caller play has deed
by_deed rest word caller None has none = λ play does.
    elim (does_either rest caller play does) [
      | inl asks ↦ no_call_reads rest word asks.request has asks.reads asks.call
      | inr does ↦
          let words = same_line_words rest (does.word ∷ []) (word ∷ []) does.has has in
          let same : does.word ≡ word = cc words in
          none play (subst (λ w. IsDeed w caller play) same does.deed)
    ]

-- what is neither one word nor a call makes a caller do nothing
pub no_deed : (rest : List ℕ) (caller : ℕ) (request : Request)
    → ((word : List ℕ) → ¬ (HasWordsOf rest (word ∷ []))) → Reads rest request
    → ¬ (IsCall request) → (play : Play) → ¬ (Does rest caller play)
no_deed rest caller request not_one reads no_call play does =
    elim (does_either rest caller play does) [
      | inl asks ↦
          no_call (subst IsCall (same_request rest asks.request request asks.reads reads) asks.call)
      | inr deed ↦ not_one deed.word deed.has
    ]

-- the end of a session and a bad line are no calls
pub no_call : (request : Request) → (request ≡ Quit) ⊎ ((reason : Reason) × (request ≡ Bad reason))
    → ¬ (IsCall request)
no_call request (inl quit) = λ call. subst IsCall quit call
no_call request (inr bad) = λ call. subst IsCall bad.1 call

-- a line with another number of words has not one
pub not_one_word : (whole line : List ℕ) → DropsReturn whole line → HasOtherCount line 1
    → (word : List ℕ) → ¬ (HasWordsOf whole (word ∷ []))
not_one_word whole line dropped other word has =
    let words = same_words_of whole line other.0 (word ∷ []) dropped other.1 has in
    other.2 (ap length words)

-- ---- only one of them ----

-- the deed whose word begins with this letter
abbrev deed_by_letter : ℕ → ℕ → Play
deed_by_letter letter caller =
    cond (letter == 104) (Hold caller) (cond (letter == 102) (Free caller) (Probes caller))

-- no two deeds have words that begin with one letter
pub deed_is_one : (word : List ℕ) (caller : ℕ) (play : Play) → IsDeed word caller play
    → play ≡ deed_by_letter (get_or word 0 0) caller
deed_is_one word caller Skip deed = absurd deed
deed_is_one word caller (Ask other request) deed = absurd deed
deed_is_one word caller (Hold other) deed =
    ap Hold deed.0 ∙ sym (ap (λ w. deed_by_letter (get_or w 0 0) caller) deed.1)
deed_is_one word caller (Free other) deed =
    ap Free deed.0 ∙ sym (ap (λ w. deed_by_letter (get_or w 0 0) caller) deed.1)
deed_is_one word caller (Probes other) deed =
    ap Probes deed.0 ∙ sym (ap (λ w. deed_by_letter (get_or w 0 0) caller) deed.1)
deed_is_one word caller Layout deed = absurd deed

-- what stands behind a caller's number makes one play only
pub does_one : (rest : List ℕ) (caller : ℕ) (play other : Play) → Does rest caller play
    → Does rest caller other → play ≡ other
does_one rest caller play other a b =
    elim (does_either rest caller play a) [
      | inl asks ↦ elim (does_either rest caller other b) [
        | inl asks' ↦
            asks.play_is
            ∙ ap (Ask caller) (same_request rest asks.request asks'.request asks.reads asks'.reads)
            ∙ sym asks'.play_is
        | inr deed ↦
            absurd (no_call_reads rest deed.word asks.request deed.has asks.reads asks.call)
      ]
      | inr deed ↦ elim (does_either rest caller other b) [
        | inl asks ↦
            absurd (no_call_reads rest deed.word asks.request deed.has asks.reads asks.call)
        | inr deed' ↦
            let words = same_line_words rest (deed.word ∷ []) (deed'.word ∷ []) deed.has deed'.has in
            let same : deed.word ≡ deed'.word = cc words in
            deed_is_one deed.word caller play deed.deed
            ∙ ap (λ w. deed_by_letter (get_or w 0 0) caller) same
            ∙ sym (deed_is_one deed'.word caller other deed'.deed)
      ]
    ]
