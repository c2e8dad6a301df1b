-- What a hand that heeds a note still is: all that its own events alone change.
use Rattle.std.proofs.Common.{◌≡◌, ℕ, ◌%◌, ◌++◌, sym, ap, ◌∙◌, subst}
use Rattle.index_machine.specs.Execution.{Execution, Continues}
use Rattle.index_machine.specs.Sections.{IsCaller, IsOutside, IsReading, crossings}
use Rattle.index_machine.specs.Rows.{Holds, HoldsNone}
use Rattle.index_machine.specs.Conditions.{MayEnter, MayLeave, Valid}
use Rattle.index_machine.specs.RecordConditions.{HoldsNoLock}
use Rattle.index_machine.proofs.Executions.{crossings_on}
use Rattle.index_machine.proofs.Holders.{holds_no_lock_on}
use Rattle.index_machine.proofs.Placing.{holds_none_on, holds_on}
use Rattle.index_rule.specs.declared.board.Board.{Board}
use Rattle.index_rule.specs.declared.hand.Hand.{Hand}
use Rattle.index_rule.specs.Hands.{known, opening_of}
use Rattle.index_rule.specs.Notes.{Heeds}

module _ (b : Board) (h k : Hand) (news : Execution) (m : Heeds b h news k) where
  -- what others did since
  others : Execution
  others = m.own.0

  pub heeds_on : Continues (known h) (known k)
  heeds_on = (m.own.0, m.own.1)

  valid_on : Valid (opening_of b) (others ++ known h)
  unfolding others
  valid_on = subst (Valid (opening_of b)) (sym m.own.1) m.follows.valid

  -- a fact of what others did since is one of what the hand knows now
  onward : (F : ℕ → Execution → Type 0) → F h.number (others ++ known h) → F k.number (known k)
  unfolding others
  onward F =
      subst (λ (z : ℕ × Execution). F z.0 z.1) (λ i. (sym m.number i, m.own.1 i))

  -- ---- its read section ----

  heeds_crossings : crossings k.number (known k) ≡ crossings h.number (known h)
  unfolding others
  heeds_crossings =
      onward (λ n t. crossings n t ≡ crossings h.number (known h))
      (crossings_on h.number others (known h) m.own.2)

  pub heeds_outside : IsOutside h.number (known h) → IsOutside k.number (known k)
  heeds_outside outside = ap (λ (z : ℕ). z % 2) heeds_crossings ∙ outside

  pub heeds_may_enter : MayEnter (opening_of b) h.number (known h) →
      MayEnter (opening_of b) k.number (known k)
  heeds_may_enter may =
      record {
        caller = subst (IsCaller (opening_of b)) (sym m.number) may.caller;
        outside = heeds_outside may.outside;
      }

  heeds_reading : IsReading (opening_of b) h.number (known h) →
      IsReading (opening_of b) k.number (known k)
  heeds_reading reading =
      record {
        caller = subst (IsCaller (opening_of b)) (sym m.number) reading.caller;
        inside = ap (λ (z : ℕ). z % 2) heeds_crossings ∙ reading.inside;
      }

  heeds_holds_no_lock : HoldsNoLock (opening_of b) h.number (known h) →
      HoldsNoLock (opening_of b) k.number (known k)
  unfolding others
  heeds_holds_no_lock none =
      onward (HoldsNoLock (opening_of b))
      (holds_no_lock_on (opening_of b) h.number others (known h) m.own.2 none)

  pub heeds_may_leave : MayLeave (opening_of b) h.number (known h) →
      MayLeave (opening_of b) k.number (known k)
  heeds_may_leave may =
      let reading = heeds_reading (record { caller = may.caller; inside = may.inside }) in
      record {
        caller = reading.caller;
        inside = reading.inside;
        holds_none = heeds_holds_no_lock may.holds_none;
      }

  -- ---- its rows ----

  pub heeds_holds : (place : ℕ) → Holds (opening_of b) h.number place (known h) →
      Holds (opening_of b) k.number place (known k)
  unfolding others
  heeds_holds place held =
      onward (λ n t. Holds (opening_of b) n place t)
      (holds_on (opening_of b) h.number place others (known h) valid_on m.own.2 held)

  pub heeds_holds_none : HoldsNone (opening_of b) h.number (known h) →
      HoldsNone (opening_of b) k.number (known k)
  unfolding others
  heeds_holds_none none =
      onward (HoldsNone (opening_of b))
      (holds_none_on (opening_of b) h.number others (known h) valid_on m.own.2 none)
