-- The kinds of step: a load, a store and an exchange that is tried once, at a word by its name.
use Rattle.std.proofs.Common.{◌≡◌, ◌≢◌, ℕ, ◌<◌, ◌≤◌, Bool, true, false, cond, Some, None, ◌∷◌, [], ◌++◌}
use Rattle.std.proofs.Common.{refl, sym, ap, ◌∙◌, subst, ◌==◌, eq-eqb, ne_eqb}
use mathlib.Core.Logic.{dite}
use native.Mathlib.Decide.{ℕ_discrete}
use prog.Atomic.{either}
use Rattle.atomic_table.specs.Table.{Me, Allows}
use Rattle.word_layout.specs.Layout.{shape_of}
use Rattle.word_layout.specs.declared.layout.Layout.{Layout}
use Rattle.word_layout.specs.Shape.{Shape}
use Rattle.word_layout.specs.Words.{Word, IsWord, address_of, same_word}
use Rattle.word_layout.specs.WordAt.{word_at}
use Rattle.word_layout.proofs.SameWords.{same_word-true}
use Rattle.word_layout.proofs.WordNames.{word_at-address_of}
use Rattle.index_machine.specs.declared.events.Action.{Action}
use Rattle.index_machine.specs.declared.opening.Opening.{Opening}
use Rattle.index_machine.specs.Execution.{Execution, Without}
use Rattle.index_machine.specs.Words.{shape, store, store_of, stored, word}
use Rattle.index_machine.specs.Conditions.{Allowed, Valid}
use Rattle.index_rule.specs.declared.board.Board.{Board}
use Rattle.index_rule.specs.declared.view.View.{View}
use Rattle.index_rule.specs.declared.hand.Hand.{Hand}
use Rattle.index_rule.specs.Hands.{IsHandOf, Makes, opening_of, view}
use Rattle.index_rule.specs.Offsets.{address_at, cold_from, offset_count, offset_of}
use Rattle.index_rule.specs.Offsets.{offset_of_word}
use Rattle.index_rule.specs.Rule.{Acts, Kept, Does, word_in, word_of_opening}
use Rattle.index_rule.proofs.Offsets.{IsHot, address_at-offset_of, cold_behind}
use Rattle.index_rule.proofs.Offsets.{offset_of_word-within}
use Rattle.index_rule.proofs.Steps.{acts}

-- ---- the words of a board ----

-- a word of the board's table lies within its memory
pub inside : (b : Board) (w : Word) (a : ℕ) → IsWord (shape (opening_of b)) w →
    a ≡ offset_of_word (shape_of b.layout) w → a < b.words.shared.table_id.words
inside b w a is_word at =
    let known : IsWord (shape_of b.layout) w =
    subst (λ (l : Layout). IsWord (shape_of l) w) b.laid is_word
    in
    let within = offset_of_word-within (shape_of b.layout) w known in
    subst (λ (n : ℕ). a < n) (sym b.wide)
    (subst (λ (n : ℕ). n < offset_count (shape_of b.layout)) (sym at) within)

-- its offset, by the shape of the table that the board was opened with
pub at_word : (b : Board) (w : Word) (a : ℕ) → a ≡ offset_of_word (shape_of b.layout) w →
    a ≡ offset_of_word (shape (opening_of b)) w
at_word b w a at = at ∙ ap (λ (l : Layout). offset_of_word (shape_of l) w) (sym b.laid)

-- a word that is not hot stands behind those that are
pub cold : (b : Board) (w : Word) (address : ℕ) → IsWord (shape (opening_of b)) w →
    (IsHot w → ⊥) →
    address ≡ address_of (shape_of b.layout) w → cold_from (shape_of b.layout) ≤ address
cold b w address is_word not_hot at =
    let s = shape_of b.layout in
    let known : IsWord s w = subst (λ (l : Layout). IsWord (shape_of l) w) b.laid is_word in
    subst (λ (n : ℕ). cold_from s ≤ n) (sym at) (cold_behind s w known not_hot)

-- the offset of a word's address is the word's
pub at_address : (b : Board) (w : Word) (a address : ℕ) →
    a ≡ offset_of (shape_of b.layout) address → address ≡ address_of (shape_of b.layout) w →
    a ≡ offset_of_word (shape_of b.layout) w
at_address b w a address at is = at ∙ ap (offset_of (shape_of b.layout)) is

-- ---- what a step at a word stores ----

-- storing a word's own value changes nothing
unchanged : (o : Opening) (t : Execution) (w u : Word) (b : Bool) → same_word w u ≡ b →
    word o t u ≡ cond b (word o t w) (word o t u)
unchanged o t w u true e = ap (word o t) (sym (same_word-true w u e))
unchanged o t w u false e = refl

nothing : (o : Opening) (t : Execution) (c : ℕ) (d : Action) (w u : Word) → store_of c d ≡ None →
    stored (store_of c d) u (word o t u) ≡ cond (same_word w u) (word o t w) (word o t u)
nothing o t c d w u none = rw none (unchanged o t w u (same_word w u) refl)

-- the word that stands at a word's offset is that word
word_at-offset : (s : Shape) (w : Word) → IsWord s w →
    word_at s (address_at s (offset_of_word s w)) ≡ w
word_at-offset s w is_word =
    ap (word_at s) (address_at-offset_of s (address_of s w)) ∙ word_at-address_of s w is_word

module _ (o : Opening) (slots id : ℕ) (me : Me (Unit {0}) View) (c : ℕ)
    (is : me.0.numbers ≡ c ∷ []) (live : me.0.opening ≡ Some o) where
  -- the step is made at the word w, and tells of this action
  abbrev pub Tells : Word → (ℕ → ℕ) → (ℕ → Action) → Type 0
  Tells w f d =
      Allows (Kept o) slots id me (offset_of_word (shape o) w) f (λ n x. Does me (d n) x)

  -- what holds at every execution in which the hand makes its step
  abbrev pub Whenever : (Execution → Type 0) → Type 0
  Whenever P =
      (t : Execution) → Valid o t → (newer : Execution) → newer ++ me.0.known ≡ t →
      Without c newer → P t

  pub loads : (w : Word) (d : ℕ → Action) → IsWord (shape o) w →
      ((n : ℕ) → store_of c (d n) ≡ None) →
      Whenever (λ t. Allowed o t c (d (word o t w))) → Tells w (λ n. n) d
  loads w d is_word none may =
      acts o slots id me c w (λ n. n) d is_word is live
      (λ t valid newer e out. (
        may t valid newer e out,
        λ u. nothing o t c (d (word o t w)) w u (none (word o t w)),
      ))

  pub stores : (w : Word) (x : ℕ) (d : Action) → IsWord (shape o) w →
      store_of c d ≡ Some (store w x) → Whenever (λ t. Allowed o t c d) →
      Tells w (λ _. x) (λ _. d)
  stores w x d is_word some may =
      acts o slots id me c w (λ _. x) (λ _. d) is_word is live
      (λ t valid newer e out. (may t valid newer e out, λ u. rw some refl))

  pub exchanges : (w : Word) (x y : ℕ) (d : Action) (e : ℕ → Action) → IsWord (shape o) w →
      store_of c d ≡ Some (store w y) →
      ((n : ℕ) → store_of c (e n) ≡ None) →
      Whenever (λ t. (word o t w ≡ x → Allowed o t c d)
      × (x ≢ word o t w → Allowed o t c (e (word o t w)))) →
      Tells w (λ n. either (n == x) y n) (λ n. cond (n == x) d (e n))
  exchanges w x y d e is_word some none may =
      acts o slots id me c w (λ n. either (n == x) y n) (λ n. cond (n == x) d (e n)) is_word is live
      (λ t valid newer eq out.
      let n : ℕ = word o t w in
      let both = may t valid newer eq out in
      dite (ℕ_discrete n x)
      (λ (hit : n ≡ x). rw (eq-eqb n x hit) ((both.0 hit, λ u. rw some refl)))
      (λ (ne : n ≢ x).
      rw (ne_eqb n x ne)
      ((both.1 (λ z. ne (sym z)), λ u. nothing o t c (e n) w u (none n)))))

  -- the name of the word at its offset
  pub named : (w : Word) → IsWord (shape o) w → word_in me.0 (offset_of_word (shape o) w) ≡ w
  named w is_word =
      ap (λ z. word_of_opening z (offset_of_word (shape o) w)) live
      ∙ word_at-offset (shape o) w is_word

  -- a step that tells its action by the word at its offset
  pub by_name : (w : Word) (a : ℕ) (f : ℕ → ℕ) (d : Word → ℕ → Action) → IsWord (shape o) w →
      a ≡ offset_of_word (shape o) w → Tells w f (d w) →
      Allows (Kept o) slots id me a f (λ n x. Does me (d (word_in me.0 a) n) x)
  by_name w a f d is_word at tells =
      subst (λ (z : ℕ). Allows (Kept o) slots id me z f (λ n x. Does me (d (word_in me.0 z) n) x))
      (sym at)
      (subst (λ (u : Word). Tells w f (d u)) (sym (named w is_word)) tells)

-- ---- what a step told its hand ----

-- the name of a word at its offset, in the table of a hand
pub named_in : (b : Board) (h : Hand) (w : Word) (a : ℕ) → IsHandOf b h →
    IsWord (shape (opening_of b)) w → a ≡ offset_of_word (shape_of b.layout) w →
    word_in (view h) a ≡ w
named_in b h w a of is_word at =
    let s = shape (opening_of b) in
    ap (λ z. word_of_opening z a) of.opened
    ∙ (ap (λ (z : ℕ). word_at s (address_at s z)) (at_word b w a at)
    ∙ word_at-offset s w is_word)

-- the hand stays one of the board and keeps its number
pub makes : (b : Board) (h k : Hand) (d : Action) → IsHandOf b h →
    k.seat.table_id ≡ h.seat.table_id → k.number ≡ h.number → Acts (view h) d (view k) →
    Makes b h d k
makes b h k d of table number acted =
    record {
      of = record {
        table = table ∙ of.table;
        opened = ap (λ (z : View). z.opening) acted.1 ∙ of.opened;
      };
      number = number;
      acts = acted;
    }
