-- A group that is to be begun with one lane or with two, from what its header has.
use Rattle.std.proofs.Common.{◌≡◌, ℕ, zero, suc, ◌+◌, ◌<◌, ◌≤◌, cond, [], refl, subst, arith, le-ltb, ◌∙◌}
use Rattle.std.specs.Prelude.{◌==◌}
use Rattle.index_machine.proofs.Executions.{choice-other}
use Rattle.index_machine.specs.Execution.{Execution}
use Rattle.index_machine.specs.Lanes.{HasNewLanes}
use Rattle.index_machine.specs.Words.{opening_cut, word}
use Rattle.index_machine.specs.declared.opening.Opening.{Opening}
use Rattle.word_layout.specs.Words.{Header}
use Rattle.word_layout.specs.declared.headers.HeaderWord.TheVariants as header
use Rattle.worked_executions.proofs.Equations.{Same}

-- no lane of the header has a row
abbrev pub HaveNoRow : Opening → ℕ → Execution → Type 0
HaveNoRow o group t = (i : ℕ) → Same (word o t (Header group (header.Head i))) 0

-- from this lane on the header has no cut
abbrev pub HaveNoCut : Opening → ℕ → ℕ → Execution → Type 0
HaveNoCut o group lanes t = (i : ℕ) → lanes ≤ i → Same (word o t (Header group (header.Cut i))) 0

-- the lanes of a group with one lane, which begins where the group does
pub one_lane : (o : Opening) (group low high : ℕ) (t : Execution) → low ≤ high →
    Same (word o t (Header group header.Lanes)) 1 →
    Same (word o t (Header group (header.Cut 0))) low → HaveNoCut o group 1 t →
    HaveNoRow o group t → HasNewLanes o group low high t
one_lane o group low high t within lanes first absent empty = record {
  some = omega (arith, lanes);
  few = omega (arith, lanes);
  first = first;
  rising = λ i more. absurd (omega (arith, lanes, more));
  last = λ i is.
      let zero : 0 ≡ i = omega (arith, lanes, is) in
      subst (λ (j : ℕ). word o t (Header group (header.Cut j)) ≤ high) zero
      (omega (arith, first, within));
  absent = λ i from few. absent i (omega (arith, lanes, from));
  empty = λ i few. empty i;
}

-- those of a group with two lanes, of which the second begins at the cut
pub two_lanes : (o : Opening) (group low cut high : ℕ) (t : Execution) → low < cut → cut ≤ high →
    Same (word o t (Header group header.Lanes)) 2 →
    Same (word o t (Header group (header.Cut 0))) low →
    Same (word o t (Header group (header.Cut 1))) cut → HaveNoCut o group 2 t →
    HaveNoRow o group t → HasNewLanes o group low high t
two_lanes o group low cut high t rises within lanes first second absent empty = record {
  some = omega (arith, lanes);
  few = omega (arith, lanes);
  first = first;
  rising = λ i more.
      let zero : 0 ≡ i = omega (arith, lanes, more) in
      subst (λ (j : ℕ). word o t (Header group (header.Cut j))
      < word o t (Header group (header.Cut (j + 1)))) zero (omega (arith, first, second, rises));
  last = λ i is. go i (omega (arith, lanes, is));
  absent = λ i from few. absent i (omega (arith, lanes, from));
  empty = λ i few. empty i;
}
  where
    lower : word o t (Header group (header.Cut 0)) ≤ high
    lower = omega (arith, first, rises, within)

    upper : word o t (Header group (header.Cut 1)) ≤ high
    upper = omega (arith, second, within)

    go : (i : ℕ) → i < 2 → word o t (Header group (header.Cut i)) ≤ high
    go zero is = lower
    go (suc zero) is = upper
    go (suc (suc i)) is = absurd (omega (arith, is))

-- a table that is opened without rows has one lane in group 0, and no cut behind it
pub no_opening_cut : (i : ℕ) → 1 ≤ i → Same (opening_cut 0 [] i) 0
no_opening_cut i from = rw (le-ltb i 1 from) refl

-- behind two cuts that were written stands what stood there before
pub behind_cuts : (i low cut x : ℕ) → 2 ≤ i → Same (cond (1 == i) cut (cond (0 == i) low x)) x
behind_cuts i low cut x from =
    choice-other 1 i cut (cond (0 == i) low x) (λ e. omega (arith, from, e))
    ∙ choice-other 0 i low x (λ e. omega (arith, from, e))
