-- A hand that takes in a note knows the longer of what both knew, and stays the hand that it was.
use Rattle.std.proofs.Common.{◌≡◌, ℕ, ◌%◌, ◌^◌, Some, inl, List, [], ◌∷◌, ◌++◌, refl, sym, ap, ◌∙◌}
use Rattle.std.proofs.Common.{subst}
use Rattle.std.proofs.lemmas.Grind.{merely}
use Rattle.atomic_table.specs.Table.{Me, keeps, Allows}
use Rattle.index_machine.specs.declared.opening.Opening.{Opening}
use Rattle.index_machine.specs.Execution.{Execution, Continues, ContinuesWithout}
use Rattle.index_machine.specs.Lists.{In}
use Rattle.index_machine.specs.Sections.{crossings}
use Rattle.index_machine.proofs.Executions.{crossings_on}
use Rattle.index_rule.specs.declared.board.Board.{Board}
use Rattle.index_rule.specs.declared.hand.Hand.{Hand}
use Rattle.index_rule.specs.declared.note.Note.{Note}
use Rattle.index_rule.specs.declared.view.View.{View}
use Rattle.index_rule.specs.Hands.{IsHandOf, known, opening_of, view}
use Rattle.index_rule.specs.LockWords.{IsLockedWord}
use Rattle.index_rule.specs.Notes.{Settles, known_of}
use Rattle.index_rule.specs.Rule.{Follows, GoesOnFromAll, IsFollowing, Kept, Knows}
use Rattle.index_rule.specs.Rule.{KeepsLockedWord}
use Rattle.index_rule.specs.Seats.{joined, joined_log, longer, settled}
use Rattle.index_rule.proofs.LockWords.{locked_word_on}
use Rattle.index_rule.proofs.Steps.{follows_of, is_some, kept_with, one_opening}

-- ---- the load ----

settled_knows : (o : Opening) (t : Execution) (v : View) → Knows o t v → Knows o t (settled v)
settled_knows o t v k =
    record {
      opening = k.opening;
      goes_on = k.goes_on;
      heard = tt;
      own_heard = tt;
      once = k.once;
      hands = k.hands;
      logged = k.logged;
      heard_logged = tt;
    }

-- any seat may settle what it heard
pub settles : (o : Opening) (slots id : ℕ) (me : Me (Unit {0}) View) (a : ℕ) →
    me.0.opening ≡ Some o →
    Allows (Kept o) slots id me a (λ n. n) (λ n x. Settles me x)
settles o slots id me a live s r _ at _ =
    let v : View = me.0 in
    let k = r.known id v at (is_some v.opening o live) in
    let knows = settled_knows o r.execution v k in (
      settled v,
      keeps,
      tt,
      kept_with o s id a v (settled v) r at (λ _ h. h) knows,
      record {
        is = refl;
        heard = k.heard;
        bare = refl;
        follows = λ p of. subst (λ (z : Opening). Follows z (settled v))
            (one_opening o p (sym live ∙ of))
            (follows_of o r.execution (settled v) r.valid knows);
      },
    )

-- ---- the hand ----

-- the seat that took in a note is of the board
pub took_opened : (b : Board) (h : Hand) (n : Note) (x : Me (Unit {0}) View) → IsHandOf b h →
    x ≡ (joined (view h) n.seat.me.0, h.seat.me.1) → x.0.opening ≡ Some (opening_of b)
took_opened b h n x of took = ap (λ z. z.0.opening) took ∙ of.opened

module _ (b : Board) (h : Hand) (n : Note) (x y : Me (Unit {0}) View) (of : IsHandOf b h)
    (took : x ≡ (joined (view h) n.seat.me.0, h.seat.me.1)) (told : Settles x y) where
  both : View
  both = joined (view h) n.seat.me.0

  took_view : x.0 ≡ both
  unfolding both
  took_view = ap (λ z. z.0) took

  view_is : y.0 ≡ settled both
  view_is = told.is ∙ ap settled took_view

  pub opened_after : y.0.opening ≡ Some (opening_of b)
  unfolding both
  opened_after = ap (λ (z : View). z.opening) view_is ∙ of.opened

  pub numbers_after : y.0.numbers ≡ h.number ∷ []
  unfolding both
  numbers_after =
      ap (λ (z : View). z.numbers) view_is
      ∙ ap (λ (z : List ℕ × List ℕ). z.0 ++ z.1) (λ i. (h.mine i, n.none i))

  pub log_after_heed : y.0.log ≡ (view h).log
  unfolding both
  log_after_heed =
      ap (λ (z : View). z.log) view_is
      ∙ ap (λ (z : List ℕ). joined_log z (view h).log n.seat.me.0.log) h.mine

  pub knows_longer : y.0.known ≡ longer (known h) (known_of n)
  unfolding both
  knows_longer = ap (λ (z : View). z.known) view_is

  heard_all : GoesOnFromAll both.heard both.known
  heard_all = subst (λ (z : View). GoesOnFromAll z.heard z.known) took_view told.heard

  pub goes_on_own : ContinuesWithout h.number (known h) y.0.known
  unfolding both
  goes_on_own =
      let own = heard_all.1.0 in (
        own.0,
        own.1 ∙ sym knows_longer,
        own.2 h.number (subst (In h.number) (sym h.mine) (inl refl)),
      )

  pub goes_on_told : Continues (known_of n) y.0.known
  unfolding both
  goes_on_told = let theirs = heard_all.0 in (theirs.0, theirs.1 ∙ sym knows_longer)

  pub counted_after : h.epoch ≡ crossings h.number y.0.known % 2 ^ 64
  counted_after =
      h.counted
      ∙ ap (λ (z : ℕ). z % 2 ^ 64)
      (sym (crossings_on h.number goes_on_own.0 (known h) goes_on_own.2)
      ∙ ap (crossings h.number) goes_on_own.1)

  pub locks_after : KeepsLockedWord y.0 h.number h.locked
  unfolding both
  locks_after = record {
    kept = λ o is caller. subst (IsLockedWord o h.number h.locked) goes_on_own.1
        (locked_word_on o h.number h.locked goes_on_own.0 (known h) goes_on_own.2
        (h.locks.kept o (sym (ap (λ (z : View). z.opening) view_is) ∙ is) caller));
  }

  pub following_after : IsFollowing y.0
  following_after = λ o is. merely (told.follows o is)

  pub bare_after : y.1 ≡ []
  bare_after = told.bare ∙ (ap (λ z. z.1) took ∙ h.bare)
