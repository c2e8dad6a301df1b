-- What a line of a replay says, and what it cannot say.
use Rattle.std.proofs.Common.{◌≡◌, ◌≢◌, ℕ, ◌<◌, ◌≤◌, true, List, [], ◌∷◌, ◌++◌, length, codes, Option, Some, None, MatchOption, refl, sym, ap, subst, inl, inr, ◌⊎◌, ◌∙◌, arith}
use Rattle.std.specs.List.{AllByRecursion}
use Rattle.std.proofs.lemmas.List.{length-append}
use Rattle.wire_commands.specs.Words.{IsBlank, HasWords, BeginsWith}
use Rattle.wire_commands.specs.Numbers.{IsNumber, value_of}
use Rattle.wire_commands.specs.Grammar.{longest, DropsReturn}
use Rattle.wire_commands.proofs.WordLaws.{same_first_word, no_first_word}
use Rattle.wire_commands.proofs.GrammarLaws.{same_line}
use Rattle.trace_text.specs.declared.plays.Play.{Play}
use Rattle.trace_text.specs.declared.plays.Play.TheVariants.{Skip, Ask, Hold, Free, Probes, Layout}
use Rattle.trace_text.specs.Laws.{IsReadOnce, SaysOneThing}
use Rattle.trace_text.specs.Lines.{HasWordsOf, IsSkipped, NamesCaller, Fits}
use Rattle.trace_text.specs.Plays.{AreOf, Does, IsDeed, IsPlay, IsPlayFor, IsPlayOf, IsReplay, SaysPlay, is_play}
use Rattle.trace_text.proofs.DeedLaws.{call_of_words, call_on, does_either, does_one}
use Rattle.trace_text.proofs.LineLaws.{same_words_of}
use Rattle.trace_text.proofs.OnceLaws.{lines_read_once, told_have}
use Rattle.trace_text.proofs.ReturnLaws.{begins_dropped, begins_whole}
use Rattle.trace_text.proofs.TextLaws.{append-some}

-- ---- whole lines ----

-- the line begins with a caller's number, and what stands behind it makes the play
record IsOfCaller (callers : ℕ) (whole : List ℕ) (play : Play) : Type 0 where
  word : List ℕ
  rest : List ℕ
  caller : ℕ
  begins : BeginsWith whole word rest
  names : NamesCaller callers word caller
  does : Does rest caller play

-- what has words is something
some_with_words : (line : List ℕ) (words : List (List ℕ)) → words ≢ [] → HasWords line words
    → line ≢ []
some_with_words line [] some has = absurd (some refl)
some_with_words line (word ∷ words) some has = λ none.
    no_first_word line word has.0 has.1 (subst (AllByRecursion IsBlank) (sym none) tt)

-- what is something without its carriage return is something with it
some_with_return : (whole line : List ℕ) → DropsReturn whole line → line ≢ [] → whole ≢ []
some_with_return whole line (inl ends) some = λ none.
    append-some line (13 ∷ []) (λ e. absurd (cc e)) (sym ends ∙ none)
some_with_return whole line (inr none) some = λ nothing. some (sym none.0 ∙ nothing)

-- what follows the first word is no longer than the line
rest_fits : (line word rest : List ℕ) → BeginsWith line word rest → length line ≤ longest
    → length rest ≤ longest
rest_fits line word rest begins fits =
    omega (
      arith,
      ap length begins.line_is,
      length-append begins.blanks (word ++ rest),
      length-append word rest,
    )

-- the words of a line with a caller's number in front, as they stand in the whole line
of_words : (callers : ℕ) (whole line : List ℕ) (words others : List (List ℕ)) (caller : ℕ)
    (play : Play)
    → DropsReturn whole line → length line ≤ longest → HasWords line words
    → AreOf callers words caller others → others ≢ []
    → ((behind rest : List ℕ) → DropsReturn behind rest → length rest ≤ longest
    → HasWords rest others → Does behind caller play)
    → IsOfCaller callers whole play
of_words callers whole line words others caller play dropped fits has are some does =
    let here : HasWords line (are.0 ∷ others) = subst (HasWords line) are.1 has in
    let begun =
    begins_whole whole line are.0 here.0 dropped here.1
    (some_with_words here.0 others some here.2) in
    record {
      word = are.0;
      rest = begun.behind;
      caller = caller;
      begins = begun.begins;
      names = are.2;
      does = does begun.behind here.0 begun.dropped (rest_fits line are.0 here.0 here.1 fits) here.2;
    }

-- a play is of a caller, or its line asks for the layout
of_caller : (callers : ℕ) (whole : List ℕ) (play : Play) → IsPlayOf callers whole play
    → HasWordsOf whole (codes "layout" ∷ []) ⊎ IsOfCaller callers whole play
of_caller callers whole Skip is = absurd is.is_play
of_caller callers whole (Ask caller request) is =
    let others = is.is_play.0 in
    let two = call_of_words is.line others request is.is_play.2 is.is_play.3 in
    inr (of_words callers whole is.line is.words others caller (Ask caller request) is.dropped is.fits
    is.has is.is_play.1 (λ none. absurd (cc (sym two.3 ∙ none)))
    (λ behind rest dropped fits has. (
      refl,
      record {
        line = rest;
        dropped = dropped;
        is_request =
            (others, has, call_on is.line rest others request fits is.is_play.3 is.is_play.2);
      },
      is.is_play.3,
    )))
of_caller callers whole (Hold caller) is =
    inr (of_words callers whole is.line is.words (codes "hold" ∷ []) caller (Hold caller) is.dropped
    is.fits is.has is.is_play (λ none. absurd (cc none))
    (λ behind rest dropped fits has.
    (codes "hold", record { line = rest; dropped = dropped; has = has }, (refl, refl))))
of_caller callers whole (Free caller) is =
    inr (of_words callers whole is.line is.words (codes "free" ∷ []) caller (Free caller) is.dropped
    is.fits is.has is.is_play (λ none. absurd (cc none))
    (λ behind rest dropped fits has.
    (codes "free", record { line = rest; dropped = dropped; has = has }, (refl, refl))))
of_caller callers whole (Probes caller) is =
    inr (of_words callers whole is.line is.words (codes "probes" ∷ []) caller (Probes caller)
    is.dropped is.fits is.has is.is_play (λ none. absurd (cc none))
    (λ behind rest dropped fits has.
    (codes "probes", record { line = rest; dropped = dropped; has = has }, (refl, refl))))
of_caller callers whole Layout is =
    inl (record {
      line = is.line;
      dropped = is.dropped;
      has = subst (HasWords is.line) is.is_play is.has;
    })

-- the words of a deed of a caller are a play
deed_is_play : (callers : ℕ) (line word : List ℕ) (words : List (List ℕ)) (caller : ℕ)
    (play : Play)
    → AreOf callers words caller (word ∷ []) → IsDeed word caller play
    → IsPlay callers line words play
deed_is_play callers line word words caller Skip are deed = absurd deed
deed_is_play callers line word words caller (Ask other request) are deed = absurd deed
deed_is_play callers line word words caller (Hold other) are deed =
    subst (λ c. AreOf callers words c (codes "hold" ∷ [])) (sym deed.0)
    (subst (λ w. AreOf callers words caller (w ∷ [])) deed.1 are)
deed_is_play callers line word words caller (Free other) are deed =
    subst (λ c. AreOf callers words c (codes "free" ∷ [])) (sym deed.0)
    (subst (λ w. AreOf callers words caller (w ∷ [])) deed.1 are)
deed_is_play callers line word words caller (Probes other) are deed =
    subst (λ c. AreOf callers words c (codes "probes" ∷ [])) (sym deed.0)
    (subst (λ w. AreOf callers words caller (w ∷ [])) deed.1 are)
deed_is_play callers line word words caller Layout are deed = absurd deed

-- a line that begins with a caller's number is the play that the rest makes
of_caller_play : (callers : ℕ) (whole word behind : List ℕ) (caller : ℕ) (play : Play)
    → Fits whole → BeginsWith whole word behind → NamesCaller callers word caller
    → Does behind caller play → IsPlayOf callers whole play
of_caller_play callers whole word behind caller play fits begins names does =
    elim (does_either behind caller play does) [
      | inl asks ↦
          let words = asks.reads.is_request.0 in
          let rest = asks.reads.line in
          let two = call_of_words rest words asks.request asks.reads.is_request.2 asks.call in
          let some = some_with_words rest words (λ none. absurd (cc (sym two.3 ∙ none)))
          asks.reads.is_request.1 in
          let begun =
          begins_dropped whole word behind rest begins asks.reads.dropped
          (some_with_return behind rest asks.reads.dropped some) in
          let short = fits begun.line begun.dropped in
          subst (IsPlayOf callers whole) (sym asks.play_is)
          (record {
            line = begun.line;
            dropped = begun.dropped;
            fits = short;
            words = word ∷ words;
            has = (rest, begun.begins, asks.reads.is_request.1);
            is_play = (
              words,
              (word, refl, names),
              call_on rest begun.line words asks.request short asks.call asks.reads.is_request.2,
              asks.call,
            );
          })
      | inr deed ↦
          let rest = deed.has.line in
          let some = some_with_words rest (deed.word ∷ []) (λ none. absurd (cc none)) deed.has.has in
          let begun =
          begins_dropped whole word behind rest begins deed.has.dropped
          (some_with_return behind rest deed.has.dropped some) in
          record {
            line = begun.line;
            dropped = begun.dropped;
            fits = fits begun.line begun.dropped;
            words = word ∷ deed.word ∷ [];
            has = (rest, begun.begins, deed.has.has);
            is_play =
                deed_is_play callers begun.line deed.word (word ∷ deed.word ∷ []) caller play
                (word, refl, names) deed.deed;
          }
    ]

-- a line without words is no play
pub no_play_of_nothing : (callers : ℕ) (whole : List ℕ)
    → ¬ (HasWordsOf whole (codes "layout" ∷ [])) → HasWords whole []
    → (play : Play) → ¬ (IsPlayOf callers whole play)
no_play_of_nothing callers whole no_layout none play is =
    elim (of_caller callers whole play is) [
      | inl layout ↦ no_layout layout
      | inr of ↦ no_first_word whole of.word of.rest of.begins none
    ]

-- a first word that names no caller begins no play of one
pub no_play_of_none : (callers : ℕ) (whole word rest : List ℕ)
    → ¬ (HasWordsOf whole (codes "layout" ∷ [])) → BeginsWith whole word rest
    → ((caller : ℕ) → ¬ (NamesCaller callers word caller))
    → (play : Play) → ¬ (IsPlayOf callers whole play)
no_play_of_none callers whole word rest no_layout begins none play is =
    elim (of_caller callers whole play is) [
      | inl layout ↦ no_layout layout
      | inr of ↦
          let same = same_first_word whole of.word of.rest word rest of.begins begins in
          none of.caller (subst (λ w. NamesCaller callers w of.caller) same.0 of.names)
    ]

-- what stands behind a caller's number settles what the line says
pub by_caller : (callers : ℕ) (whole word rest : List ℕ) (caller : ℕ) (result : Option Play)
    → ¬ (HasWordsOf whole (codes "layout" ∷ [])) → Fits whole → BeginsWith whole word rest
    → NamesCaller callers word caller
    → MatchOption result ((play : Play) → ¬ (Does rest caller play)) (Does rest caller)
    → MatchOption result ((play : Play) → ¬ (IsPlayOf callers whole play))
    (IsPlayOf callers whole)
by_caller callers whole word rest caller (Some play) no_layout fits begins names does =
    of_caller_play callers whole word rest caller play fits begins names does
by_caller callers whole word rest caller None no_layout fits begins names none = λ play is.
    elim (of_caller callers whole play is) [
      | inl layout ↦ no_layout layout
      | inr of ↦
          let same = same_first_word whole of.word of.rest word rest of.begins begins in
          let caller_is : of.caller ≡ caller =
          sym of.names.value ∙ ap value_of same.0 ∙ names.value in
          none play
          (subst (λ r. Does r caller play) same.1
          (subst (λ c. Does of.rest c play) caller_is of.does))
    ]

-- a line that is short without its carriage return fits
pub short_fits : (whole line : List ℕ) → DropsReturn whole line → length line ≤ longest
    → Fits whole
short_fits whole line dropped short other dropped' =
    subst (λ l. length l ≤ longest) (same_line whole line other dropped dropped') short

-- the line asks for the layout
pub layout_play : (callers : ℕ) (whole : List ℕ) → Fits whole
    → HasWordsOf whole (codes "layout" ∷ []) → IsPlayOf callers whole Layout
layout_play callers whole fits has = record {
  line = has.line;
  dropped = has.dropped;
  fits = fits has.line has.dropped;
  words = codes "layout" ∷ [];
  has = has.has;
  is_play = refl;
}

-- a line that is not skipped says the play that it is
pub says_play : (callers : ℕ) (whole : List ℕ) (play : Play) → ¬ (IsSkipped whole)
    → IsPlayOf callers whole play → SaysPlay callers whole play
says_play callers whole Skip told is = absurd is.is_play
says_play callers whole (Ask caller request) told is = (told, is)
says_play callers whole (Hold caller) told is = (told, is)
says_play callers whole (Free caller) told is = (told, is)
says_play callers whole (Probes caller) told is = (told, is)
says_play callers whole Layout told is = (told, is)

-- what a line says that is not skipped, it is
is_said : (callers : ℕ) (whole : List ℕ) (play : Play) → ¬ (IsSkipped whole)
    → SaysPlay callers whole play → IsPlayOf callers whole play
is_said callers whole Skip told says = absurd (told says)
is_said callers whole (Ask caller request) told says = says.1
is_said callers whole (Hold caller) told says = says.1
is_said callers whole (Free caller) told says = says.1
is_said callers whole (Probes caller) told says = says.1
is_said callers whole Layout told says = says.1

-- a line that is not skipped says nothing but the play that it is
pub by_play : (callers : ℕ) (whole : List ℕ) (result : Option Play) → ¬ (IsSkipped whole)
    → MatchOption result ((play : Play) → ¬ (IsPlayOf callers whole play))
    (IsPlayOf callers whole)
    → MatchOption result ((play : Play) → ¬ (SaysPlay callers whole play))
    (SaysPlay callers whole)
by_play callers whole (Some play) told is = says_play callers whole play told is
by_play callers whole None told none = λ play says.
    none play (is_said callers whole play told says)

-- a line that is too long and not skipped is bad
pub too_long : (callers : ℕ) (whole line : List ℕ) → ¬ (IsSkipped whole)
    → DropsReturn whole line → longest < length line
    → (play : Play) → ¬ (SaysPlay callers whole play)
too_long callers whole line told dropped long play says =
    let is = is_said callers whole play told says in
    let same = same_line whole is.line line is.dropped dropped in
    let fits = is.fits in
    absurd (omega (arith, ap length same, fits, long))

-- ---- no line says two things ----

-- the word of a layout names no caller
layout_of_none : (callers : ℕ) (words others : List (List ℕ)) (caller : ℕ)
    → words ≡ codes "layout" ∷ [] → ¬ (AreOf callers words caller others)
layout_of_none callers words others caller is = λ are.
    let word : codes "layout" ≡ are.0 = cc (sym is ∙ are.1) in
    let number : IsNumber (codes "layout") = subst IsNumber (sym word) are.2.number in
    absurd (omega (arith, number.1.0.1))

-- the words of a layout are no other play
layout_only : (callers : ℕ) (line : List ℕ) (words : List (List ℕ)) (play : Play)
    → words ≡ codes "layout" ∷ [] → IsPlay callers line words play → play ≡ Layout
layout_only callers line words Skip is play = absurd play
layout_only callers line words (Ask caller request) is play =
    absurd (layout_of_none callers words play.0 caller is play.1)
layout_only callers line words (Hold caller) is play =
    absurd (layout_of_none callers words (codes "hold" ∷ []) caller is play)
layout_only callers line words (Free caller) is play =
    absurd (layout_of_none callers words (codes "free" ∷ []) caller is play)
layout_only callers line words (Probes caller) is play =
    absurd (layout_of_none callers words (codes "probes" ∷ []) caller is play)
layout_only callers line words Layout is play = refl

-- a line that asks for the layout is no other play
asks_for_layout_only : (callers : ℕ) (whole : List ℕ) (play : Play)
    → HasWordsOf whole (codes "layout" ∷ []) → IsPlayOf callers whole play → play ≡ Layout
asks_for_layout_only callers whole play has is =
    layout_only callers is.line is.words play
    (same_words_of whole is.line is.words (codes "layout" ∷ []) is.dropped is.has has) is.is_play

-- a line is one play only
one_play : (callers : ℕ) (whole : List ℕ) (play other : Play) → IsPlayOf callers whole play
    → IsPlayOf callers whole other → play ≡ other
one_play callers whole play other a b =
    elim (of_caller callers whole play a) [
      | inl layout ↦
          asks_for_layout_only callers whole play layout a
          ∙ sym (asks_for_layout_only callers whole other layout b)
      | inr of ↦ elim (of_caller callers whole other b) [
        | inl layout ↦
            asks_for_layout_only callers whole play layout a
            ∙ sym (asks_for_layout_only callers whole other layout b)
        | inr of' ↦
            let same = same_first_word whole of.word of.rest of'.word of'.rest of.begins of'.begins in
            let caller : of.caller ≡ of'.caller =
            sym of.names.value ∙ ap value_of same.0 ∙ of'.names.value in
            does_one of'.rest of'.caller play other
            (subst (λ r. Does r of'.caller play) same.1
            (subst (λ c. Does of.rest c play) caller of.does)) of'.does
      ]
    ]

-- a line is skipped, or it is not and is a play
skipped_or_play : (callers : ℕ) (whole : List ℕ) (play : Play) → SaysPlay callers whole play
    → ((play ≡ Skip) × IsSkipped whole) ⊎ ((¬ (IsSkipped whole)) × IsPlayOf callers whole play)
skipped_or_play callers whole Skip says = inl (refl, says)
skipped_or_play callers whole (Ask caller request) says = inr says
skipped_or_play callers whole (Hold caller) says = inr says
skipped_or_play callers whole (Free caller) says = inr says
skipped_or_play callers whole (Probes caller) says = inr says
skipped_or_play callers whole Layout says = inr says

-- no line of a replay says two things
pub plays_say_one_thing : (callers : ℕ) → SaysOneThing (SaysPlay callers)
plays_say_one_thing callers whole play other a b =
    elim (skipped_or_play callers whole play a) [
      | inl skip ↦ elim (skipped_or_play callers whole other b) [
        | inl skip' ↦ skip.0 ∙ sym skip'.0
        | inr is ↦ absurd (is.0 skip.1)
      ]
      | inr is ↦ elim (skipped_or_play callers whole other b) [
        | inl skip ↦ absurd (is.0 skip.1)
        | inr is' ↦ one_play callers whole play other is.1 is'.1
      ]
    ]

-- a text is one replay, or has one first bad line
pub replay_once : (callers : ℕ) (text : List ℕ) → IsReadOnce (SaysPlay callers) is_play text
replay_once callers text =
    lines_read_once (SaysPlay callers) (plays_say_one_thing callers) is_play text

-- ---- whole texts ----

-- what a line says that is not skipped can stand in a replay
said_fits : (callers : ℕ) (line : List ℕ) (play : Play) → SaysPlay callers line play
    → is_play play ≡ true → IsPlayFor callers play
said_fits callers line Skip says is = absurd (cc is)
said_fits callers line (Ask caller request) says is =
    (says.1.is_play.1.2.below, says.1.is_play.3)
said_fits callers line (Hold caller) says is = says.1.is_play.2.below
said_fits callers line (Free caller) says is = says.1.is_play.2.below
said_fits callers line (Probes caller) says is = says.1.is_play.2.below
said_fits callers line Layout says is = tt

-- so all plays of a replay can
pub replay_fits : (callers : ℕ) (text : List ℕ) (plays : List Play) → IsReplay callers text plays
    → AllByRecursion (IsPlayFor callers) plays
replay_fits callers text plays replay =
    told_have (SaysPlay callers) is_play (IsPlayFor callers) text plays (said_fits callers) replay
