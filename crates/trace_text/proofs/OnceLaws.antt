-- A text is read in one way.
use Rattle.std.proofs.Common.{◌≡◌, ℕ, ◌+◌, Bool, true, false, List, [], ◌∷◌, ◌++◌, cond, length, refl, sym, ap, subst, ◌∙◌, arith}
use Rattle.std.specs.List.{AllByRecursion, AllZip, filter}
use Rattle.trace_text.specs.Laws.{IsReadOnce, SaysOneThing}
use Rattle.trace_text.specs.Lines.{Says}
use Rattle.trace_text.specs.TextLines.{LinesTell}
use Rattle.trace_text.specs.Traces.{is_told}
use Rattle.trace_text.proofs.LineLaws.{lines_say_one_thing}
use Rattle.trace_text.proofs.CuttingLaws.{same_lines}

module _ {Said : Type 0} (Says : List ℕ → Said → Type 0) where
  -- some line says this
  abbrev IsGood : List ℕ → Type 0
  IsGood line = (said : Said) × Says line said

  -- lines say one list of things
  said_once : SaysOneThing Says → (lines : List (List ℕ)) (said other : List Said)
      → AllZip Says lines said → AllZip Says lines other → said ≡ other
  said_once once [] [] [] one two = refl
  said_once once [] [] (o ∷ other) one two = absurd two
  said_once once [] (s ∷ said) other one two = absurd one
  said_once once (line ∷ lines) [] other one two = absurd one
  said_once once (line ∷ lines) (s ∷ said) [] one two = absurd two
  said_once once (line ∷ lines) (s ∷ said) (o ∷ other) one two =
      let first : s ≡ o = once line s o one.0 two.0 in
      let rest = said_once once lines said other one.1 two.1 in
      (λ j. first j ∷ rest j)

  -- no line that says something is bad
  none_bad : (before after : List (List ℕ)) (bad : List ℕ) (said : List Said)
      → AllZip Says (before ++ bad ∷ after) said → ((s : Said) → ¬ (Says bad s)) → ⊥
  none_bad [] after bad [] all is_bad = all
  none_bad [] after bad (s ∷ said) all is_bad = is_bad s all.0
  none_bad (line ∷ before) after bad [] all is_bad = all
  none_bad (line ∷ before) after bad (s ∷ said) all is_bad =
      none_bad before after bad said all.1 is_bad

  -- as many good lines stand before the first bad one, however it is found
  first_once : (before after others more : List (List ℕ)) (bad other : List ℕ)
      → before ++ bad ∷ after ≡ others ++ other ∷ more
      → AllByRecursion IsGood before → AllByRecursion IsGood others
      → ((s : Said) → ¬ (Says bad s)) → ((s : Said) → ¬ (Says other s))
      → length before ≡ length others
  first_once [] after [] more bad other same good good' is_bad is_bad' = refl
  first_once [] after (line ∷ others) more bad other same good good' is_bad is_bad' =
      let here : bad ≡ line = cc same in
      absurd (is_bad good'.0.0 (subst (λ (z : List ℕ). Says z good'.0.0) (sym here) good'.0.1))
  first_once (line ∷ before) after [] more bad other same good good' is_bad is_bad' =
      let here : line ≡ other = cc same in
      absurd (is_bad' good.0.0 (subst (λ (z : List ℕ). Says z good.0.0) here good.0.1))
  first_once (line ∷ before) after (line' ∷ others) more bad other same good good' is_bad is_bad' =
      let behind : before ++ bad ∷ after ≡ others ++ other ∷ more = cc same in
      let rest = first_once before after others more bad other behind good.1 good'.1 is_bad is_bad' in
      omega (arith, rest)

  -- where no line says two things, each text is read in one way
  pub lines_read_once : SaysOneThing Says → (tells : Said → Bool) (text : List ℕ)
      → IsReadOnce Says tells text
  lines_read_once once tells text = record {
    one_list = λ told other one two.
        let lines = same_lines text one.lines two.lines one.cut two.cut in
        let said = said_once once two.lines one.said two.said
        (subst (λ (z : List (List ℕ)). AllZip Says z one.said) lines one.each) two.each in
        one.told_are ∙ ap (filter tells) said ∙ sym two.told_are;
    one_bad = λ number other one two.
        let lines = same_lines text (one.before ++ one.bad ∷ one.after) (two.before ++ two.bad ∷ two.after)
        one.cut two.cut in
        let same = first_once one.before one.after two.before two.after one.bad two.bad lines one.good two.good
        one.is_bad two.is_bad in
        one.counted ∙ ap (λ (n : ℕ). n + 1) same ∙ sym two.counted;
    not_both = λ told number one two.
        let lines = same_lines text one.lines (two.before ++ two.bad ∷ two.after) one.cut two.cut in
        none_bad two.before two.after two.bad one.said
        (subst (λ (z : List (List ℕ)). AllZip Says z one.said) lines one.each) two.is_bad;
  }

  -- what is told has a property that follows from how it is said
  said_have : (tells : Said → Bool) (P : Said → Type 0) (lines : List (List ℕ)) (said : List Said)
      → ((line : List ℕ) (one : Said) → Says line one → tells one ≡ true → P one)
      → AllZip Says lines said → AllByRecursion P (filter tells said)
  said_have tells P [] [] follows all = tt
  said_have tells P [] (s ∷ said) follows all = absurd all
  said_have tells P (line ∷ lines) [] follows all = absurd all
  said_have tells P (line ∷ lines) (s ∷ said) follows all =
      go (tells s) refl (said_have tells P lines said follows all.1)
    where
      go : (told : Bool) → tells s ≡ told → AllByRecursion P (filter tells said)
          → AllByRecursion P (cond told (s ∷ filter tells said) (filter tells said))
      go true is rest = (follows line s all.0 is, rest)
      go false is rest = rest

  -- so has all that the lines of a text tell
  pub told_have : (tells : Said → Bool) (P : Said → Type 0) (text : List ℕ) (told : List Said)
      → ((line : List ℕ) (one : Said) → Says line one → tells one ≡ true → P one)
      → LinesTell Says tells text told → AllByRecursion P told
  told_have tells P text told follows tell =
      subst (AllByRecursion P) (sym tell.told_are)
      (said_have tells P tell.lines tell.said follows tell.each)

-- a text is one trace, or has one first bad line
pub read_once : (callers : ℕ) (text : List ℕ) → IsReadOnce (Says callers) is_told text
read_once callers text = lines_read_once (Says callers) (lines_say_one_thing callers) is_told text
