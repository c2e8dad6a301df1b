use Rattle.std.proofs.Common.{◌≡◌, ℕ, suc, ◌≤◌, cond, eqb, List, [], ◌∷◌, length, map, get_or, refl, sym, ap, subst, inl, inr, ◌⊎◌, ◌∙◌, arith}
use Rattle.std.proofs.lemmas.List.{append_cancel_right}
use Rattle.wire_commands.specs.declared.forms.Form.{Form}
use Rattle.wire_commands.specs.declared.forms.Form.TheVariants as form
use Rattle.wire_commands.specs.declared.request.Reason.{Reason}
use Rattle.wire_commands.specs.declared.request.Reason.TheVariants.{Long, Empty, Word, Count, Number, Range}
use Rattle.wire_commands.specs.declared.request.Request.{Request}
use Rattle.wire_commands.specs.declared.request.Request.TheVariants.{Get, Put, Remove, Quit, Bad}
use Rattle.wire_commands.specs.Words.{HasWords}
use Rattle.wire_commands.specs.Numbers.{value_of}
use Rattle.wire_commands.specs.Grammar.{keyword_of, limits_of, longest, AreWithin, AreNumbers, HasForm, Holds, IsFirstReason, Means, DropsReturn, Reads}
use Rattle.wire_commands.specs.Arguments.{FailsFirst}
use Rattle.wire_commands.proofs.Spans.{same_span}
use Rattle.wire_commands.proofs.WordLaws.{same_words}

-- the form whose keyword has this first letter
abbrev pub form_of_letter : ℕ → Form
form_of_letter letter =
    cond (eqb letter 103) form.Get
    (cond (eqb letter 112) form.Put (cond (eqb letter 114) form.Remove form.Quit))

-- no two keywords have one first letter
pub form_of_letter-keyword_of : (f : Form) → form_of_letter (get_or (keyword_of f) 0 0) ≡ f
form_of_letter-keyword_of form.Get = refl
form_of_letter-keyword_of form.Put = refl
form_of_letter-keyword_of form.Remove = refl
form_of_letter-keyword_of form.Quit = refl

-- no two forms have one keyword
pub same_form : (f g : Form) → keyword_of f ≡ keyword_of g → f ≡ g
same_form f g e =
    sym (form_of_letter-keyword_of f) ∙ ap (λ word. form_of_letter (get_or word 0 0)) e
    ∙ form_of_letter-keyword_of g

-- numbers within limits are as many
pub length_within : (limits : List ℕ) (words : List (List ℕ)) → AreWithin limits words
    → length words ≡ length limits
length_within [] [] within = refl
length_within [] (word ∷ words) within = absurd within
length_within (limit ∷ limits) [] within = absurd within
length_within (limit ∷ limits) (word ∷ words) within = ap suc (length_within limits words within.1)

-- the words that one form splits off, another does not split off otherwise
pub same_parts : (f g : Form) (others more : List (List ℕ))
    → keyword_of f ∷ others ≡ keyword_of g ∷ more
    → (f ≡ g) × (others ≡ more)
same_parts f g others more e =
    let keywords : keyword_of f ≡ keyword_of g = cc e in (same_form f g keywords, cc e)

-- a line with as many numbers as its form has has no other count
pub no_other_count : (f : Form) (line : List ℕ) (others : List (List ℕ))
    → length others ≡ length (limits_of f)
    → ¬ (Holds Count line (keyword_of f ∷ others))
no_other_count f line others as_many = λ other.
    let parts = same_parts f other.0 others other.1 other.2 in
    other.3 (sym (ap length parts.1) ∙ as_many ∙ ap (λ g. length (limits_of g)) parts.0)

-- no reason holds of a line that has a form
pub no_reason : (f : Form) (line : List ℕ) (others : List (List ℕ)) (values : List ℕ)
    → length line ≤ longest
    → AreNumbers (limits_of f) others values → (reason : Reason)
    → ¬ (Holds reason line (keyword_of f ∷ others))
no_reason f line others values fits numbers Long = λ long. absurd (omega arith)
no_reason f line others values fits numbers Empty = λ none. absurd (cc none)
no_reason f line others values fits numbers Word = λ unknown. unknown f others refl
no_reason f line others values fits numbers Count =
    no_other_count f line others (length_within (limits_of f) others numbers.within)
no_reason f line others values fits numbers Number = λ not_all. not_all numbers.each
no_reason f line others values fits numbers Range = λ above.
    let parts = same_parts f above.0 others above.1 above.2 in
    above.3 (subst (λ g. AreWithin (limits_of g) above.1) parts.0
    (subst (AreWithin (limits_of f)) parts.1 numbers.within))

-- the first reason about the numbers is the first of all, where a form's keyword stands in front
pub first_reason_of_numbers : (f : Form) (line : List ℕ) (others : List (List ℕ)) (reason : Reason)
    → length line ≤ longest
    → FailsFirst (limits_of f) others reason → IsFirstReason reason line (keyword_of f ∷ others)
first_reason_of_numbers f line others Long fits fails = absurd fails
first_reason_of_numbers f line others Empty fits fails = absurd fails
first_reason_of_numbers f line others Word fits fails = absurd fails
first_reason_of_numbers f line others Count fits fails = record {
  before = Long ∷ Empty ∷ Word ∷ [];
  after = Number ∷ Range ∷ [];
  order = refl;
  none_before = (
    λ long. absurd (omega arith),
    (λ none. absurd (cc none), (λ unknown. unknown f others refl, tt)),
  );
  holds = (f, others, refl, fails);
}
first_reason_of_numbers f line others Number fits fails = record {
  before = Long ∷ Empty ∷ Word ∷ Count ∷ [];
  after = Range ∷ [];
  order = refl;
  none_before = (
    λ long. absurd (omega arith),
    (
      λ none. absurd (cc none),
      (λ unknown. unknown f others refl, (no_other_count f line others fails.0, tt)),
    ),
  );
  holds = fails.1;
}
first_reason_of_numbers f line others Range fits fails = record {
  before = Long ∷ Empty ∷ Word ∷ Count ∷ Number ∷ [];
  after = [];
  order = refl;
  none_before = (
    λ long. absurd (omega arith),
    (
      λ none. absurd (cc none),
      (
        λ unknown. unknown f others refl,
        (no_other_count f line others fails.0, (λ not_all. not_all fails.1, tt)),
      ),
    ),
  );
  holds = (f, others, refl, fails.2);
}

-- the first reason that holds is one only
pub same_first_reason : (line : List ℕ) (words : List (List ℕ)) (reason other : Reason)
    → IsFirstReason reason line words → IsFirstReason other line words → reason ≡ other
same_first_reason line words reason other a b =
    let span =
    same_span (λ r. ¬ (Holds r line words)) a.before b.before (reason ∷ a.after) (other ∷ b.after)
    a.none_before b.none_before (λ not_held. not_held a.holds) (λ not_held. not_held b.holds)
    (sym a.order ∙ b.order) in
    cc span.1

-- the request that a form makes of its numbers
abbrev request_of : Form → List ℕ → Request
request_of form.Get values = Get (get_or values 0 0)
request_of form.Put values = Put (get_or values 0 0) (get_or values 1 0)
request_of form.Remove values = Remove (get_or values 0 0)
request_of form.Quit values = Quit

-- the line has a form, which makes the request
record IsMade (line : List ℕ) (words : List (List ℕ)) (request : Request) : Type 0 where
  the_form : Form
  values : List ℕ
  has_form : HasForm the_form line words values
  made : request ≡ request_of the_form values

-- a line's request is one that its form makes, or it is bad
made_or_bad : (line : List ℕ) (words : List (List ℕ)) (request : Request) → Means line words request
    → IsMade line words request
    ⊎ ((reason : Reason) × IsFirstReason reason line words × (request ≡ Bad reason))
made_or_bad line words (Get key) means =
    inl (record { the_form = form.Get; values = key ∷ []; has_form = means; made = refl })
made_or_bad line words (Put key value) means =
    inl (record { the_form = form.Put; values = key ∷ value ∷ []; has_form = means; made = refl })
made_or_bad line words (Remove key) means =
    inl (record { the_form = form.Remove; values = key ∷ []; has_form = means; made = refl })
made_or_bad line words Quit means =
    inl (record { the_form = form.Quit; values = []; has_form = means; made = refl })
made_or_bad line words (Bad reason) means = inr (reason, means, refl)

-- words have one form only, with one list of values
same_values : (f g : Form) (line : List ℕ) (words : List (List ℕ)) (values others : List ℕ)
    → HasForm f line words values → HasForm g line words others → (f ≡ g) × (values ≡ others)
same_values f g line words values others a b =
    let parts = same_parts f g a.others b.others (sym a.keyword ∙ b.keyword) in
    (parts.0, sym a.numbers.values_are ∙ ap (map value_of) parts.1 ∙ b.numbers.values_are)

-- a made request is not bad
not_made_and_bad : (line : List ℕ) (words : List (List ℕ)) (request : Request) (reason : Reason)
    → IsMade line words request → ¬ (Holds reason line words)
not_made_and_bad line words request reason made holds =
    let has = made.has_form in
    no_reason made.the_form line has.others made.values has.fits has.numbers reason
    (subst (Holds reason line) has.keyword holds)

-- a line with its words is one request only
pub same_meaning : (line : List ℕ) (words : List (List ℕ)) (request other : Request)
    → Means line words request → Means line words other → request ≡ other
same_meaning line words request other a b =
    elim (made_or_bad line words request a) [
      | inl made ↦ elim (made_or_bad line words other b) [
        | inl made' ↦
            let same =
            same_values made.the_form made'.the_form line words made.values made'.values
            made.has_form made'.has_form in
            made.made ∙ ap (λ f. request_of f made.values) same.0
            ∙ ap (request_of made'.the_form) same.1
            ∙ sym made'.made
        | inr bad ↦ absurd (not_made_and_bad line words request bad.0 made bad.1.holds)
      ]
      | inr bad ↦ elim (made_or_bad line words other b) [
        | inl made ↦ absurd (not_made_and_bad line words other bad.0 made bad.1.holds)
        | inr bad' ↦ bad.2 ∙ ap Bad (same_first_reason line words bad.0 bad'.0 bad.1 bad'.1)
            ∙ sym bad'.2
      ]
    ]

-- one return is dropped, in one way
pub same_line : (whole line other : List ℕ) → DropsReturn whole line → DropsReturn whole other
    → line ≡ other
same_line whole line other a b =
    elim a [
      | inl ends ↦ elim b [
        | inl ends' ↦ append_cancel_right line other (13 ∷ []) (sym ends ∙ ends')
        | inr none ↦ absurd (none.1 line ends)
      ]
      | inr none ↦
          elim b [ inl ends ↦ absurd (none.1 other ends) | inr none' ↦ sym none.0 ∙ none'.0 ]
    ]

-- a whole line reads as one request only
pub same_request : (whole : List ℕ) (request other : Request) → Reads whole request
    → Reads whole other → request ≡ other
same_request whole request other a b =
    let line = same_line whole a.line b.line a.dropped b.dropped in
    let words =
    same_words b.line a.is_request.0 b.is_request.0
    (subst (λ l. HasWords l a.is_request.0) line a.is_request.1) b.is_request.1 in
    same_meaning b.line b.is_request.0 request other
    (subst (λ ws. Means b.line ws request) words
    (subst (λ l. Means l a.is_request.0 request) line a.is_request.2)) b.is_request.2
