-- The load of a next word meets its condition, by the law of the chain.
use Rattle.std.proofs.Common.{◌≡◌, ℕ, inl, inr, ⊎_elim, true, ◌∷◌, ◌++◌, [], refl, subst, Some}
use Rattle.atomic_table.specs.Table.{Me, Allows}
use Rattle.word_layout.specs.declared.headers.HeaderWord.TheVariants as header
use Rattle.word_layout.specs.Words.{Header, IsWord}
use Rattle.index_machine.specs.declared.events.Action.TheVariants.{LoadNext}
use Rattle.index_machine.specs.declared.opening.Opening.{Opening}
use Rattle.index_machine.specs.Execution.{Execution, Without}
use Rattle.index_machine.specs.Keepers.{IsGroupKeeper}
use Rattle.index_machine.specs.Words.{shape, word}
use Rattle.index_machine.specs.Sections.{IsReading}
use Rattle.index_machine.specs.Reaching.{stands_in}
use Rattle.index_machine.specs.RecordConditions.{MayWalk}
use Rattle.machine_chain.proofs.Walking.{next_words}
use Rattle.machine_readers.proofs.ReadSections.{stands_in_on}
use Rattle.index_rule.specs.declared.view.View.{View}
use Rattle.index_rule.specs.Offsets.{offset_of_word}
use Rattle.index_rule.specs.Rule.{Kept, Does, word_in}
use Rattle.index_rule.specs.Steps.{next_load}
use Rattle.index_rule.proofs.StepKinds.{by_name, loads}
use Rattle.index_rule.proofs.Standing.{reading_on, stays_inside}

-- what others do leaves the hand where it may walk
walk_stays : (o : Opening) (c g : ℕ) (n t : Execution) → Without c n → MayWalk o c g t →
    MayWalk o c g (n ++ t)
walk_stays o c g n t out may = ⊎_elim
    (λ (z : IsReading o c t × (stands_in c g t ≡ true)). inl (
      reading_on o c n t (stays_inside c n out) z.0,
      stands_in_on c g n t (stays_inside c n out) z.1,
    ))
    (λ (z : IsGroupKeeper o c g). inr z) may

module _ (o : Opening) (slots id : ℕ) (me : Me (Unit {0}) View) (c : ℕ)
    (is : me.0.numbers ≡ c ∷ []) (live : me.0.opening ≡ Some o) where
  pub loads_next : (g a : ℕ) → MayWalk o c g me.0.known → IsWord (shape o) (Header g header.Next) →
      a ≡ offset_of_word (shape o) (Header g header.Next) →
      Allows (Kept o) slots id me a (λ n. n) (λ n x. Does me (next_load (word_in me.0 a) n) x)
  loads_next g a may there at =
      by_name o slots id me c is live (Header g header.Next) a (λ n. n) next_load there at
      (loads o slots id me c is live (Header g header.Next) (λ n. LoadNext g n) there
      (λ _. refl)
      (λ t valid newer e out. next_words o t valid c g (word o t (Header g header.Next))
      (subst (MayWalk o c g) e (walk_stays o c g newer me.0.known out may)) refl))
