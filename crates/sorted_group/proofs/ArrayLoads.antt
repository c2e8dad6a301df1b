-- Loads change no array: what a hand reads of the array of a group stays while it does nothing but load, whatever
-- the others do.
use Rattle.std.proofs.Common.{◌≡◌, ◌⊎◌, ℕ, inl, inr, ⊎_elim, [], ◌∷◌, ◌++◌, sym, ◌∙◌, subst}
use Rattle.word_layout.specs.declared.headers.HeaderWord.{HeaderWord}
use Rattle.index_machine.specs.declared.events.Action.{Action}
use Rattle.index_machine.specs.declared.events.Action.TheVariants.{StoreHeader, StoreRedirect}
use Rattle.index_machine.specs.declared.opening.Opening.{Opening}
use Rattle.index_machine.specs.Conditions.{Valid}
use Rattle.index_machine.specs.Execution.{Execution, Without, event}
use Rattle.index_machine.specs.Keepers.{IsGroupKeeper}
use Rattle.index_machine.specs.RebuildConditions.{IsLateHeader, IsSized}
use Rattle.machine_arrays.specs.Sizes.{ArrayIsLeft, ChangesArray, HasSameArray}
use Rattle.machine_arrays.proofs.Changes.{keeper_alone, left_step, left_until, same_sized}
use Rattle.machine_arrays.proofs.Changes.{same_trans}
use Rattle.machine_arrays.proofs.Sizes.{where_standing, while_standing}
use Rattle.machine_buffers.specs.Groups.{Begins}
use Rattle.machine_chain.specs.Walks.{AnswersFor}
use Rattle.machine_chain.proofs.Walking.{answers_while}
use Rattle.index_rule.specs.declared.board.Board.{Board}
use Rattle.index_rule.specs.declared.hand.Hand.{Hand}
use Rattle.index_rule.specs.Hands.{IsHandOf, Makes, known, opening_of}
use Rattle.index_rule.proofs.RecordStepping.{goes_on_inside, now, since, still_inside, still_stands}
use Rattle.index_rule.proofs.RecordStepping.{moment, valid_moment}
use Rattle.index_rule.proofs.Standing.{stays_inside}
use Rattle.index_rule.proofs.Stepping.{known_is, others_only, valid_after}
use Rattle.sorted_group.specs.Arrays.{CanLocate, IsAnswered, MayLocate, MayReadKeys}
use Rattle.sorted_group.proofs.BufferLoads.{IsBufferLoad, load_begins_none, no_crossing}

-- a load changes no array
load_changes_none : (g : ℕ) (d : Action) → IsBufferLoad g d → ChangesArray g d → ⊥
load_changes_none g d is changes = ⊎_elim
    (λ (z : Begins g d). load_begins_none g d is z)
    (λ (u : ((place : ℕ) × (k : ℕ) × (to : ℕ) × (d ≡ StoreRedirect g place k to))
    ⊎ ((which : HeaderWord) × (value : ℕ) × (d ≡ StoreHeader g which value) × IsLateHeader which)).
    ⊎_elim
    (λ (z : (place : ℕ) × (k : ℕ) × (to : ℕ) × (d ≡ StoreRedirect g place k to)).
    subst (IsBufferLoad g) z.3 is)
    (λ (z : (which : HeaderWord) × (value : ℕ) × (d ≡ StoreHeader g which value)
    × IsLateHeader which).
    subst (IsBufferLoad g) z.2 is) u) changes

-- and others than the keeper change none
others_change_none : (o : Opening) (c g : ℕ) (n t : Execution) → Valid o (n ++ t) → Without c n →
    IsGroupKeeper o c g → ArrayIsLeft g n
others_change_none o c g [] t valid out keeper = tt
others_change_none o c g (e ∷ n) t valid out keeper = (
  (λ changes. out.0 (keeper_alone o (n ++ t) e.by g e.action valid.0 changes ∙ sym keeper)),
  others_change_none o c g n t valid.1 out.1 keeper,
)

-- who may search may read
pub locates_read : (o : Opening) (c g : ℕ) (t : Execution) → MayLocate o c g t → MayReadKeys o c g t
locates_read o c g t may = ⊎_elim (λ (z : IsAnswered o c g t). inl z)
    (λ (z : IsGroupKeeper o c g × IsSized o g t). inr z.0) may

-- and finds the true size and error there
pub sized_there : (o : Opening) (c g : ℕ) (t : Execution) → Valid o t → MayLocate o c g t →
    IsSized o g t
sized_there o c g t valid may = ⊎_elim
    (λ (z : IsAnswered o c g t).
    where_standing o t valid c g z.key z.reading.caller z.stands z.answers)
    (λ (z : IsGroupKeeper o c g × IsSized o g t). z.1) may

module _ (b : Board) (g : ℕ) (h k : Hand) (d : Action) (is : IsBufferLoad g d) (of : IsHandOf b h)
    (m : Makes b h d k) where
  -- the array at the moment of the load is that which the hand knew
  pub array_moment : MayReadKeys (opening_of b) h.number g (known h) →
      HasSameArray (opening_of b) g (known h) (moment b h k d of m)
  array_moment may = ⊎_elim
      (λ (z : IsAnswered (opening_of b) h.number g (known h)).
      while_standing (opening_of b) h.number g z.key z.reading.caller m.acts.0 (known h)
      (valid_moment b h k d of m) (stays_inside h.number m.acts.0 (others_only b h k d of m))
      z.stands z.answers)
      (λ (z : IsGroupKeeper (opening_of b) h.number g).
      left_until (opening_of b) g m.acts.0 (known h) (valid_moment b h k d of m)
      (others_change_none (opening_of b) h.number g m.acts.0 (known h) (valid_moment b h k d of m)
      (others_only b h k d of m) z)) may

  -- and that which it knows then
  pub array_on : MayReadKeys (opening_of b) h.number g (known h) →
      HasSameArray (opening_of b) g (known h) (known k)
  array_on may =
      subst (HasSameArray (opening_of b) g (known h)) (sym (known_is b h k d of m))
      (same_trans (opening_of b) g (known h) (moment b h k d of m)
      (event h.number d ∷ moment b h k d of m) (array_moment may)
      (left_step (opening_of b) (moment b h k d of m) h.number d g (valid_after b h k d of m)
      (load_changes_none g d is)))

  answered_on : IsAnswered (opening_of b) h.number g (known h) →
      IsAnswered (opening_of b) k.number g (known k)
  answered_on z = record {
    reading = still_inside b h k d of m (no_crossing g d is) z.reading;
    stands = still_stands b h k d of m (no_crossing g d is) g z.stands;
    key = z.key;
    answers = now b h k d of m (λ c t. AnswersFor (opening_of b) z.key g t)
        (answers_while (opening_of b) h.number g z.key z.reading.caller (since b h k d of m) (known h)
        (valid_after b h k d of m) (goes_on_inside b h k d of m (no_crossing g d is)) z.stands z.answers);
  }

  -- so it can read on
  pub may_read_on : MayReadKeys (opening_of b) h.number g (known h) →
      MayReadKeys (opening_of b) k.number g (known k)
  may_read_on may = ⊎_elim
      (λ (z : IsAnswered (opening_of b) h.number g (known h)). inl (answered_on z))
      (λ (z : IsGroupKeeper (opening_of b) h.number g). inr (m.number ∙ z)) may

  -- and search
  pub may_locate_on : MayLocate (opening_of b) h.number g (known h) →
      MayLocate (opening_of b) k.number g (known k)
  may_locate_on may = ⊎_elim
      (λ (z : IsAnswered (opening_of b) h.number g (known h)). inl (answered_on z))
      (λ (z : IsGroupKeeper (opening_of b) h.number g × IsSized (opening_of b) g (known h)).
      inr (m.number ∙ z.0, same_sized (opening_of b) g (known h) (known k) (array_on (inr z.0)) z.1))
      may

pub locate_on : (b : Board) (g : ℕ) (h k : Hand) (d : Action) → IsBufferLoad g d → Makes b h d k →
    CanLocate b g h → CanLocate b g k
locate_on b g h k d is m can = record {
  of = m.of;
  in_table = can.in_table;
  may = may_locate_on b g h k d is can.of m can.may;
}
