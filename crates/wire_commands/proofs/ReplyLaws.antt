use Rattle.std.proofs.Common.{◌≡◌, ℕ, ◌+◌, ◌-◌, ◌≤◌, List, ◌++◌, length, take, drop, sym, ap, ◌∙◌, arith}
use Rattle.std.proofs.lemmas.List.{drop-drop, length-append}
use Rattle.wire_commands.specs.Replies.{Writes}

-- what two lists have in common from a place on, they have from a later place on
pub same_from_later : (old new : List ℕ) (start later : ℕ) → start ≤ later
    → drop start new ≡ drop start old
    → drop later new ≡ drop later old
same_from_later old new start later after same =
    let later_is : start + (later - start) ≡ later = omega arith in
    ap (λ n. drop n new) (sym later_is) ∙ sym (drop-drop (later - start) start new)
    ∙ ap (drop (later - start)) same ∙ drop-drop (later - start) start old
    ∙ ap (λ n. drop n old) later_is

-- three texts, one after the other
pub writes_three : (old one two three : List ℕ) (a b c : List ℕ) (x y z : ℕ)
    → take x one ≡ a → drop x one ≡ drop x old → x ≡ length a
    → take y two ≡ take x one ++ b → drop y two ≡ drop y one → y ≡ x + length b
    → take z three ≡ take y two ++ c → drop z three ≡ drop z two → z ≡ y + length c
    → Writes old three (a ++ b ++ c) z
writes_three old one two three a b c x y z front rest is front' rest' is' front'' rest'' is'' =
    record {
      front = front'' ∙ ap (λ l. l ++ c) (front' ∙ ap (λ l. l ++ b) front);
      len_is = omega (arith, is, is', is'', length-append (a ++ b) c, length-append a b);
      rest =
          rest'' ∙ same_from_later one two y z (omega arith) rest'
          ∙ same_from_later old one x z (omega arith) rest;
    }
