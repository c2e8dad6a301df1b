-- The epoch words count the crossings.
--
-- The fact to remember: an epoch word is odd exactly while its caller is inside (counted).
use Rattle.std.proofs.Common.{◌≡◌, ◌≢◌, ℕ, zero, suc, ◌+◌, ◌%◌, ◌^◌, cond, [], ◌∷◌, refl, sym, ap}
use Rattle.std.proofs.Common.{◌∙◌, arith}
use Rattle.std.specs.Prelude.{◌==◌}
use mathlib.Core.Logic.{dite}
use native.Mathlib.Decide.{ℕ_discrete}
use Rattle.word_layout.specs.Words.{Epoch}
use Rattle.index_machine.specs.declared.events.Action.{Action}
use Rattle.index_machine.specs.declared.events.Action.TheVariants.{Enter, Leave, LinkRow, Install}
use Rattle.index_machine.specs.declared.events.InstallWord.TheVariants.{NextOf, FirstSlot}
use Rattle.index_machine.specs.declared.opening.Opening.{Opening}
use Rattle.index_machine.specs.Execution.{Execution, event}
use Rattle.index_machine.specs.Words.{word}
use Rattle.index_machine.specs.Sections.{IsCaller, IsInside, IsOutside, crossings}
use Rattle.index_machine.specs.Conditions.{Allowed, Valid, next_epoch}
use Rattle.index_machine.specs.SectionLaws.{EpochsCount}
use Rattle.index_machine.proofs.Executions.{choice-same, choice-other, crossings_own}

-- each epoch word is the count of its caller's crossings, up to the size of a word
abbrev IsCounted : Opening → Execution → Type 0
IsCounted o t =
    (caller : ℕ) → IsCaller o caller → word o t (Epoch caller) ≡ crossings caller t % 2 ^ 64

-- a crossing: the epoch word of this hand is stored, and of no other
crossed : (o : Opening) (t : Execution) (by n : ℕ) → n ≡ next_epoch by t → IsCounted o t →
    (caller : ℕ) → IsCaller o caller →
    cond (by == caller) n (word o t (Epoch caller))
    ≡ cond (by == caller) (crossings caller t + 1) (crossings caller t) % 2 ^ 64
crossed o t by n is old caller known =
    let before : ℕ = word o t (Epoch caller) in
    let count : ℕ = crossings caller t in
    dite (ℕ_discrete by caller)
    (λ (same : by ≡ caller).
    choice-same by caller n before same
    ∙ is
    ∙ ap (λ (hand : ℕ). next_epoch hand t) same
    ∙ ap (λ (z : ℕ). z % 2 ^ 64) (sym (choice-same by caller (count + 1) count same)))
    (λ (differ : by ≢ caller).
    choice-other by caller n before differ
    ∙ old caller known
    ∙ ap (λ (z : ℕ). z % 2 ^ 64) (sym (choice-other by caller (count + 1) count differ)))

counted_step : (o : Opening) (t : Execution) (by : ℕ) (action : Action) → Allowed o t by action →
    IsCounted o t → IsCounted o (event by action ∷ t)
counted_step o t by (Enter n) may old = crossed o t by n may.1 old
counted_step o t by (Leave n) may old = crossed o t by n may.1 old
counted_step o t by (LinkRow group lane place change zero next) may old = old
counted_step o t by (LinkRow group lane place change (suc n) next) may old = old
counted_step o t by (Install (NextOf left) first low high) may old = old
counted_step o t by (Install (FirstSlot part side) first low high) may old = old
counted_step o t by action may old = old

epoch_counted : (o : Opening) (t : Execution) → Valid o t → IsCounted o t
epoch_counted o [] valid caller known = refl
epoch_counted o (e ∷ t) valid caller known =
    counted_step o t e.by e.action valid.0 (epoch_counted o t valid.1) caller known

pub counted : (o : Opening) (t : Execution) → Valid o t → EpochsCount o t
counted o t valid =
    record {
      count = epoch_counted o t valid;
      inside = λ caller known odd.
          let is = epoch_counted o t valid caller known in omega arith;
      outside = λ caller known even.
          let is = epoch_counted o t valid caller known in omega arith;
    }

pub sections_alternate : (o : Opening) (hand n : ℕ) (t : Execution) →
    (Valid o (event hand (Enter n) ∷ t) → IsInside hand (event hand (Enter n) ∷ t))
    × (Valid o (event hand (Leave n) ∷ t) → IsOutside hand (event hand (Leave n) ∷ t))
sections_alternate o hand n t = (
  (λ valid. let before = valid.0.0.outside in
      let count = crossings_own hand (Enter n) t in omega arith),
  (λ valid. let before = valid.0.0.inside in
      let count = crossings_own hand (Leave n) t in omega arith),
)
