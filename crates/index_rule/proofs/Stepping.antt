-- What a hand knows after one step of its own, whatever the others did before it.
use Rattle.std.proofs.Common.{arith, ◌≡◌, ℕ, ◌%◌, ◌^◌, true, ◌∷◌, ◌++◌, sym, ap, ◌∙◌, subst}
use Rattle.word_layout.specs.declared.places.Part.{Part}
use Rattle.word_layout.specs.Words.{PlaceWord}
use Rattle.index_machine.specs.declared.events.Action.{Action}
use Rattle.index_machine.specs.declared.events.Action.TheVariants.{LoadEpoch}
use Rattle.index_machine.specs.declared.events.Action.TheVariants.{Enter}
use Rattle.index_machine.specs.Execution.{Execution, Continues, Without, event}
use Rattle.index_machine.specs.Words.{word, store_of, stored}
use Rattle.index_machine.specs.Sections.{IsCaller, crossings, crossings_after}
use Rattle.index_machine.specs.Rows.{Holds, HoldsNone}
use Rattle.index_machine.specs.ObservedHeads.{IsUnobserved}
use Rattle.index_machine.specs.Conditions.{IsReading, MayEnter, MayLeave, Valid}
use Rattle.index_machine.specs.HeadLaws.{IsNoPushOf}
use Rattle.index_machine.specs.RecordConditions.{HoldsNoLock}
use Rattle.index_machine.proofs.Counting.{counted}
use Rattle.index_machine.proofs.Executions.{valid_before}
use Rattle.index_machine.proofs.Holders.{TakesLock, holds_no_lock_after, holds_no_lock_on}
use Rattle.index_machine.proofs.Holders.{outside_holds_none}
use Rattle.index_machine.proofs.Executions.{crossings_on, crossings_own}
use Rattle.index_machine.proofs.GracePeriods.{others_push_none, unobserved_on}
use Rattle.index_machine.proofs.Holding.{held_words_on}
use Rattle.index_machine.proofs.Placing.{KeepsRoles, holds_kept, holds_none_kept, holds_none_on}
use Rattle.index_machine.proofs.Placing.{holds_on, unused-held}
use Rattle.index_rule.specs.declared.board.Board.{Board}
use Rattle.index_rule.specs.declared.hand.Hand.{Hand}
use Rattle.index_rule.specs.declared.view.View.{View}
use Rattle.index_rule.specs.Hands.{IsHandOf, Makes, known, opening_of}
use Rattle.index_rule.specs.Rule.{first_of}

-- an action by which no hand enters or leaves
abbrev pub KeepsCrossings : Action → Type 0
KeepsCrossings action = (count : ℕ) → crossings_after true action count ≡ count

module _ (b : Board) (h k : Hand) (action : Action) (of : IsHandOf b h)
    (m : Makes b h action k) where
  -- the whole of what it knows
  pub known_is : known k ≡ event h.number action ∷ m.acts.0 ++ known h
  known_is =
      ap (λ (z : View). z.known) m.acts.1
      ∙ ap (λ (z : ℕ). event z action ∷ m.acts.0 ++ known h) (ap first_of h.mine)

  pub others_only : Without h.number m.acts.0
  others_only = subst (λ (z : ℕ). Without z m.acts.0) (ap first_of h.mine) m.acts.2

  pub continues : Continues (known h) (known k)
  continues = (event h.number action ∷ m.acts.0, sym known_is)

  pub valid_after : Valid (opening_of b) (event h.number action ∷ m.acts.0 ++ known h)
  valid_after = subst (Valid (opening_of b)) known_is (m.acts.3 (opening_of b) of.opened).valid

  pub valid_known : Valid (opening_of b) (known k)
  valid_known = (m.acts.3 (opening_of b) of.opened).valid

  -- ---- its read section ----

  pub crossings_is : crossings k.number (known k)
      ≡ crossings_after true action (crossings h.number (known h))
  crossings_is =
      ap (λ (n : ℕ). crossings n (known k)) m.number
      ∙ (ap (crossings h.number) known_is
      ∙ (crossings_own h.number action (m.acts.0 ++ known h)
      ∙ ap (crossings_after true action) (crossings_on h.number m.acts.0 (known h) others_only)))

  pub still_reading : KeepsCrossings action → IsReading (opening_of b) h.number (known h) →
      IsReading (opening_of b) k.number (known k)
  still_reading none reading =
      record {
        caller = subst (IsCaller (opening_of b)) (sym m.number) reading.caller;
        inside = ap (λ (z : ℕ). z % 2) (crossings_is ∙ none (crossings h.number (known h)))
            ∙ reading.inside;
      }

  pub still_holds_no_lock : (TakesLock action → ⊥) →
      HoldsNoLock (opening_of b) h.number (known h) →
      HoldsNoLock (opening_of b) k.number (known k)
  still_holds_no_lock takes_none none =
      subst (λ (z : ℕ × Execution). HoldsNoLock (opening_of b) z.0 z.1)
      (λ i. (sym m.number i, sym known_is i))
      (holds_no_lock_after (opening_of b) h.number h.number action (m.acts.0 ++ known h)
      (λ takes. absurd (takes_none takes))
      (holds_no_lock_on (opening_of b) h.number m.acts.0 (known h) others_only none))

  pub still_may_leave : KeepsCrossings action → (TakesLock action → ⊥) →
      MayLeave (opening_of b) h.number (known h) → MayLeave (opening_of b) k.number (known k)
  still_may_leave none takes_none may =
      let reading = still_reading none (record { caller = may.caller; inside = may.inside }) in
      record {
        caller = reading.caller;
        inside = reading.inside;
        holds_none = still_holds_no_lock takes_none may.holds_none;
      }

  -- ---- its rows ----

  pub still_holds : KeepsRoles action → (place : ℕ) →
      Holds (opening_of b) h.number place (known h) →
      Holds (opening_of b) k.number place (known k)
  still_holds keeps place held =
      subst (λ (z : ℕ × Execution). Holds (opening_of b) z.0 place z.1)
      (λ i. (sym m.number i, sym known_is i))
      (holds_kept (opening_of b) h.number action (m.acts.0 ++ known h) keeps h.number place
      (holds_on (opening_of b) h.number place m.acts.0 (known h) valid_after.1 others_only held))

  pub still_holds_none : KeepsRoles action → HoldsNone (opening_of b) h.number (known h) →
      HoldsNone (opening_of b) k.number (known k)
  still_holds_none keeps none =
      subst (λ (z : ℕ × Execution). HoldsNone (opening_of b) z.0 z.1)
      (λ i. (sym m.number i, sym known_is i))
      (holds_none_kept (opening_of b) h.number action (m.acts.0 ++ known h) keeps h.number
      (holds_none_on (opening_of b) h.number m.acts.0 (known h) valid_after.1 others_only none))

  -- a word of a row that it held before the step
  pub held_word_is : (place : ℕ) (part : Part) → Holds (opening_of b) h.number place (known h) →
      word (opening_of b) (known k) (PlaceWord place part)
      ≡ stored (store_of h.number action) (PlaceWord place part)
      (word (opening_of b) (known h) (PlaceWord place part))
  held_word_is place part held =
      ap (λ (z : Execution). word (opening_of b) z (PlaceWord place part)) known_is
      ∙ ap (stored (store_of h.number action) (PlaceWord place part))
      (held_words_on (opening_of b) h.number place m.acts.0 (known h) valid_after.1 others_only held
      part)

  -- what nobody relies on, while the hand holds it
  pub still_unobserved : (place : ℕ) → IsNoPushOf place action →
      Holds (opening_of b) h.number place (known h) →
      IsUnobserved (opening_of b) place (known h) → IsUnobserved (opening_of b) place (known k)
  still_unobserved place none held unseen =
      subst (IsUnobserved (opening_of b) place) (sym known_is)
      (unobserved_on (opening_of b) place (event h.number action ∷ m.acts.0) (known h) valid_after (
        none,
        others_push_none (opening_of b) place h.number m.acts.0 (known h) valid_after.1 others_only
            held,
      )
      (λ z. unused-held (sym z ∙ held)) unseen)

-- ---- single steps ----

-- an epoch word that was loaded counts the crossings
pub epoch_is : (b : Board) (h k : Hand) (caller found : ℕ) → IsHandOf b h →
    Makes b h (LoadEpoch caller found) k → found ≡ crossings caller (known k) % 2 ^ 64
epoch_is b h k caller found of m =
    let valid = valid_after b h k (LoadEpoch caller found) of m in
    sym valid.0.1
    ∙ ((counted (opening_of b) (m.acts.0 ++ known h) valid.1).count caller valid.0.0
    ∙ ap (λ (z : Execution). crossings caller z % 2 ^ 64)
    (sym (known_is b h k (LoadEpoch caller found) of m)))

-- a caller that entered is inside
pub entered_reading : (b : Board) (h k : Hand) (n : ℕ) → IsHandOf b h → Makes b h (Enter n) k →
    MayEnter (opening_of b) h.number (known h) → IsReading (opening_of b) k.number (known k)
entered_reading b h k n of m may =
    let now = crossings_is b h k (Enter n) of m in
    let before = may.outside in
    record {
      caller = subst (IsCaller (opening_of b)) (sym m.number) may.caller;
      inside = omega arith;
    }

-- a caller that entered may leave
pub may_leave_after_enter : (b : Board) (h k : Hand) (n : ℕ) → IsHandOf b h →
    Makes b h (Enter n) k → MayEnter (opening_of b) h.number (known h) →
    IsReading (opening_of b) k.number (known k) → MayLeave (opening_of b) k.number (known k)
may_leave_after_enter b h k n of m may reading =
    let valid = valid_after b h k (Enter n) of m in
    let before = valid_before (opening_of b) m.acts.0 (known h) valid.1 in
    record {
      caller = reading.caller;
      inside = reading.inside;
      holds_none = still_holds_no_lock b h k (Enter n) of m (λ z. absurd z)
          (outside_holds_none (opening_of b) (known h) before h.number may.caller may.outside);
    }
