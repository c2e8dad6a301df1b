-- What a caller knows once it looked ahead along the chain: at a next word, and at the pivot of the group that
-- this names.
use Rattle.std.proofs.Common.{◌≡◌, ℕ, ◌+◌, ◌<◌, ◌≤◌, true, false, ◌∷◌, ◌++◌, refl, sym, ap, ◌∙◌, subst, arith}
use Rattle.word_layout.specs.declared.headers.HeaderWord.TheVariants.{Pivot}
use Rattle.word_layout.specs.Parts.{greatest_key}
use Rattle.index_machine.specs.declared.events.Action.TheVariants.{LoadHeader, LoadNext}
use Rattle.index_machine.specs.declared.opening.Opening.{Opening}
use Rattle.index_machine.specs.Conditions.{Valid}
use Rattle.index_machine.specs.Execution.{Execution, Without, event}
use Rattle.index_machine.specs.Reaching.{stands_in, stands_in_after}
use Rattle.index_machine.specs.Sections.{IsCaller, StaysInside}
use Rattle.index_machine.proofs.Executions.{choice-same, own_step}
use Rattle.machine_chain.proofs.Rising.{walk_rises}
use Rattle.machine_chain.proofs.Walking.{answers_while, pivots_while, walks_end, walks_go_on}
use Rattle.machine_chain.specs.Chain.{pivot_of}
use Rattle.machine_chain.specs.Walks.{AnswersFor, BeginsBefore}
use Rattle.machine_readers.proofs.ReadSections.{stands_in_on}
use Rattle.index_rule.specs.declared.board.Board.{Board}
use Rattle.index_rule.specs.declared.hand.Hand.{Hand}
use Rattle.index_rule.specs.Hands.{IsHandOf, Makes, known, opening_of}
use Rattle.index_rule.proofs.Standing.{stays_inside}
use Rattle.index_rule.proofs.Stepping.{known_is, others_only, valid_after, valid_known}

-- what began at or before the key goes on to, while the caller stands there
pub begins_on : (o : Opening) (c g key : ℕ) (n t : Execution) → IsCaller o c → Valid o (n ++ t) →
    StaysInside c n → stands_in c g t ≡ true → BeginsBefore o key g t → BeginsBefore o key g (n ++ t)
begins_on o c g key n t is valid stays s from =
    (from.0, from.1, answers_while o c g from.0 is n t valid stays s from.2, from.3)

module _ (b : Board) (h m k : Hand) (g next pivot : ℕ) (of : IsHandOf b h)
    (loads : Makes b h (LoadNext g (next + 1)) m) (looks : Makes b m (LoadHeader next Pivot pivot) k) where
  -- what had happened before the next word was loaded
  abbrev pub before : Execution
  before = loads.acts.0 ++ known h

  -- and once it was
  abbrev pub named : Execution
  named = event h.number (LoadNext g (next + 1)) ∷ before

  -- what happened since, the load of the pivot included
  abbrev pub after : Execution
  after = event h.number (LoadHeader next Pivot pivot) ∷ looks.acts.0

  pub whole : known k ≡ after ++ named
  whole =
      known_is b m k (LoadHeader next Pivot pivot) loads.of looks
      ∙ (λ i. event (loads.number i) (LoadHeader next Pivot pivot)
      ∷ (looks.acts.0 ++ known_is b h m (LoadNext g (next + 1)) of loads i))

  pub ahead_valid : Valid (opening_of b) (after ++ named)
  ahead_valid =
      subst (Valid (opening_of b)) whole
      (valid_known b m k (LoadHeader next Pivot pivot) loads.of looks)

  pub valid_named : Valid (opening_of b) named
  valid_named = valid_after b h m (LoadNext g (next + 1)) of loads

  pub ahead_inside : StaysInside h.number after
  ahead_inside = (
    (λ _. tt),
    stays_inside h.number looks.acts.0
        (subst (λ (c : ℕ). Without c looks.acts.0) loads.number
        (others_only b m k (LoadHeader next Pivot pivot) loads.of looks)),
  )

  pub first_inside : StaysInside h.number loads.acts.0
  first_inside =
      stays_inside h.number loads.acts.0 (others_only b h m (LoadNext g (next + 1)) of loads)

  -- a fact of a hand and an execution holds of the hand at the end
  pub at_end : (P : ℕ → Execution → Type 0) → P h.number (after ++ named) → P k.number (known k)
  at_end P p =
      subst (λ (z : ℕ × Execution). P z.0 z.1)
      (λ i. (sym (looks.number ∙ loads.number) i, sym whole i)) p

  -- the pivot is that of the next group
  pub pivot_found : pivot_of (opening_of b) next (after ++ named) ≡ pivot
  pivot_found = ahead_valid.0.found_word

  -- the caller stands in the next group
  pub stands_named : stands_in h.number next named ≡ true
  stands_named =
      own_step (stands_in_after next) false h.number (LoadNext g (next + 1)) before
      ∙ choice-same (next + 1) (next + 1) true (stands_in h.number next before) refl

  module _ (key : ℕ) (caller : IsCaller (opening_of b) h.number) (is_key : key ≤ greatest_key)
      (s : stands_in h.number g (known h) ≡ true)
      (from : BeginsBefore (opening_of b) key g (known h)) where
    there : stands_in h.number g before ≡ true
    there = stands_in_on h.number g loads.acts.0 (known h) first_inside s

    from_there : BeginsBefore (opening_of b) key g before
    from_there =
        begins_on (opening_of b) h.number g key loads.acts.0 (known h) caller valid_named.1 first_inside s from

    way : (pivot_of (opening_of b) next (after ++ named) ≤ key →
        BeginsBefore (opening_of b) key next (after ++ named)
        × (stands_in h.number next (after ++ named) ≡ true))
        × (key < pivot_of (opening_of b) next (after ++ named) →
        AnswersFor (opening_of b) key g (after ++ named))
    way =
        walks_go_on (opening_of b) h.number g next key caller is_key after before ahead_valid ahead_inside
        from_there

    -- it is at most the key, so the next group begins there or before
    pub begins_next : pivot ≤ key → BeginsBefore (opening_of b) key next (known k)
    begins_next le =
        let found = pivot_found in
        at_end (λ c t. BeginsBefore (opening_of b) key next t) (way.0 (omega (arith, le, found))).0

    -- or it is greater, and the group has the key, or had
    pub ends_before : key < pivot → AnswersFor (opening_of b) key g (known k)
    ends_before lt =
        let found = pivot_found in
        at_end (λ c t. AnswersFor (opening_of b) key g t) (way.1 (omega (arith, lt, found)))

    -- the pivots rise
    pub rises : pivot ≤ key → pivot_of (opening_of b) g (known h) < pivot_of (opening_of b) next (known k)
    rises le =
        let o = opening_of b in
        let c : ℕ = h.number in
        let low = from_there.1 in
        let up : pivot_of o g before < pivot_of o next before =
        walk_rises o before valid_named.1 c g next from_there.0 caller there (omega (arith, low, is_key))
        from_there.2 valid_named.0.found_word in
        let same : pivot_of o g before ≡ pivot_of o g (known h) =
        pivots_while o c g caller loads.acts.0 (known h) valid_named.1 first_inside s in
        let found : pivot_of o next (known k) ≡ pivot = ap (pivot_of o next) whole ∙ pivot_found in
        let still : pivot_of o next (after ++ named) ≡ pivot_of o next named =
        pivots_while o c next caller after named ahead_valid ahead_inside stands_named in
        omega (arith, up, same, found, still, pivot_found)

-- there is no next group, and the group has the key, or had
pub ends_last : (b : Board) (h k : Hand) (g key : ℕ) → IsHandOf b h → Makes b h (LoadNext g 0) k →
    IsCaller (opening_of b) h.number → key ≤ greatest_key → stands_in h.number g (known h) ≡ true →
    BeginsBefore (opening_of b) key g (known h) → AnswersFor (opening_of b) key g (known k)
ends_last b h k g key of loads caller is_key s from =
    let o = opening_of b in
    let valid = valid_after b h k (LoadNext g 0) of loads in
    let inside = stays_inside h.number loads.acts.0 (others_only b h k (LoadNext g 0) of loads) in
    subst (AnswersFor o key g) (sym (known_is b h k (LoadNext g 0) of loads))
    (walks_end o h.number g key caller is_key (loads.acts.0 ++ known h) valid
    (begins_on o h.number g key loads.acts.0 (known h) caller valid.1 inside s from))
