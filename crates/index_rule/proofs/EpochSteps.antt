-- The steps on epoch words meet their conditions.
use Rattle.std.proofs.Common.{◌≡◌, ℕ, ◌+◌, ◌%◌, ◌^◌, Some, [], ◌∷◌, ◌++◌, refl, sym, ap, ◌∙◌, subst}
use Rattle.std.proofs.Common.{arith}
use Rattle.atomic_table.specs.Table.{Me, Allows}
use Rattle.word_layout.specs.Words.{Epoch}
use Rattle.index_machine.specs.declared.events.Action.TheVariants.{LoadEpoch, Enter, Leave}
use Rattle.index_machine.specs.declared.opening.Opening.{Opening}
use Rattle.index_machine.specs.Execution.{Execution, Without}
use Rattle.index_machine.specs.Words.{shape}
use Rattle.index_machine.specs.Sections.{IsCaller, crossings}
use Rattle.index_machine.specs.Conditions.{MayEnter, MayLeave, next_epoch}
use Rattle.index_machine.specs.RecordConditions.{HoldsNoLock}
use Rattle.index_machine.proofs.Executions.{crossings_on}
use Rattle.index_machine.proofs.Holders.{holds_no_lock_on}
use Rattle.index_rule.specs.declared.view.View.{View}
use Rattle.index_rule.specs.Offsets.{offset_of_word}
use Rattle.index_rule.specs.Rule.{Kept, Does, word_in}
use Rattle.index_rule.specs.Steps.{epoch_load}
use Rattle.index_rule.proofs.StepKinds.{loads, stores, by_name}

-- the hand's epoch word plus 1 is the next one
pub next_is : (epoch count : ℕ) → epoch ≡ count % 2 ^ 64 →
    (epoch + 1) % 2 ^ 64 ≡ (count + 1) % 2 ^ 64
next_is epoch count e = omega arith

module _ (o : Opening) (slots id : ℕ) (me : Me (Unit {0}) View) (c : ℕ)
    (is : me.0.numbers ≡ c ∷ []) (live : me.0.opening ≡ Some o) where
  pub loads_epoch : (k a : ℕ) → IsCaller o k → a ≡ offset_of_word (shape o) (Epoch k) →
      Allows (Kept o) slots id me a (λ n. n) (λ n x. Does me (epoch_load (word_in me.0 a) n) x)
  loads_epoch k a caller at =
      by_name o slots id me c is live (Epoch k) a (λ n. n) epoch_load caller at
      (loads o slots id me c is live (Epoch k) (λ n. LoadEpoch k n) caller (λ _. refl)
      (λ t _ _ _ _. (caller, refl)))

  -- the events of others do not cross for the hand
  same_crossings : (t newer : Execution) → newer ++ me.0.known ≡ t → Without c newer →
      crossings c t ≡ crossings c me.0.known
  same_crossings t newer e out = ap (crossings c) (sym e) ∙ crossings_on c newer me.0.known out

  pub stores_enter : (a n : ℕ) → MayEnter o c me.0.known → n ≡ next_epoch c me.0.known →
      a ≡ offset_of_word (shape o) (Epoch c) →
      Allows (Kept o) slots id me a (λ _. n) (λ _ x. Does me (Enter n) x)
  stores_enter a n may next at =
      subst (λ (z : ℕ). Allows (Kept o) slots id me z (λ _. n) (λ _ x. Does me (Enter n) x))
      (sym at)
      (stores o slots id me c is live (Epoch c) n (Enter n) may.caller refl
      (λ t _ newer e out. let same = same_crossings t newer e out in (
        record {
          caller = may.caller;
          outside = ap (λ (z : ℕ). z % 2) same ∙ may.outside;
        },
        next ∙ ap (λ (z : ℕ). (z + 1) % 2 ^ 64) (sym same),
      )))

  pub stores_leave : (a n : ℕ) → MayLeave o c me.0.known → n ≡ next_epoch c me.0.known →
      a ≡ offset_of_word (shape o) (Epoch c) →
      Allows (Kept o) slots id me a (λ _. n) (λ _ x. Does me (Leave n) x)
  stores_leave a n may next at =
      subst (λ (z : ℕ). Allows (Kept o) slots id me z (λ _. n) (λ _ x. Does me (Leave n) x))
      (sym at)
      (stores o slots id me c is live (Epoch c) n (Leave n) may.caller refl
      (λ t _ newer e out. let same = same_crossings t newer e out in (
        record {
          caller = may.caller;
          inside = ap (λ (z : ℕ). z % 2) same ∙ may.inside;
          holds_none = subst (HoldsNoLock o c) e
              (holds_no_lock_on o c newer me.0.known out may.holds_none);
        },
        next ∙ ap (λ (z : ℕ). (z + 1) % 2 ^ 64) (sym same),
      )))
