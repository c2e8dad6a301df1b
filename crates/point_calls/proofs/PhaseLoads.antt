-- What a phase word tells a caller of the group where it stands.
use Rattle.std.proofs.Common.{◌≡◌, ℕ, ◌<◌, ◌≤◌, Bool, true, false, cond, ◌++◌, inl, refl, sym, ap, ◌∙◌, arith}
use Rattle.std.proofs.Common.{eq-eqb}
use Rattle.std.proofs.Math.Logic.{∥∥₁_elim}
use Rattle.std.proofs.Props.{props}
use Rattle.word_layout.specs.declared.phase.Phase.{Phase}
use Rattle.word_layout.specs.declared.phase.Phase.TheVariants.{Open, Frozen, Opened}
use Rattle.word_layout.specs.Parts.{greatest_key}
use Rattle.word_layout.specs.Phase.{IsWritablePhase, word_of_phase}
use Rattle.index_machine.specs.declared.events.Action.TheVariants.{LoadPhase}
use Rattle.index_machine.specs.Groups.{phase}
use Rattle.index_machine.specs.Reaching.{saw_opened, saw_opened_after, stands_in, stands_in_after}
use Rattle.index_machine.proofs.Executions.{own_step}
use Rattle.machine_chain.proofs.NewWalks.{new_begins}
use Rattle.machine_chain.proofs.Walking.{answers_while, not_stale}
use Rattle.machine_chain.specs.Walks.{AnswersFor, BeginsBeforeNew}
use Rattle.index_rule.specs.declared.board.Board.{Board}
use Rattle.index_rule.specs.declared.hand.Hand.{Hand}
use Rattle.index_rule.specs.Buffers.{CanSeePhase}
use Rattle.index_rule.specs.Hands.{Makes, known, opening_of}
use Rattle.index_rule.proofs.BufferStepping.{phase_found}
use Rattle.index_rule.proofs.RecordStepping.{goes_on_inside, now, since}
use Rattle.index_rule.proofs.Stepping.{valid_after, valid_known}
use Rattle.sorted_group.proofs.BufferLoads.{search_after}
use Rattle.sorted_group.specs.Standing.{CanSearch}
use Rattle.root_table.proofs.InTable.{few_groups}
use Rattle.root_table.proofs.NewPivots.{new_exists}
use Rattle.root_table.specs.Standing.{IsInOpened}

-- a caller can load the phase of a group where it stands
pub sees_phase : (b : Board) (g : ℕ) (h : Hand) → CanSearch b g h →
    CanSeePhase (opening_of b) h.number g (known h)
sees_phase b g h can =
    record {
      allowed = inl (can.call.reading, can.stands);
      true_word = ∥∥₁_elim (h.following (opening_of b) can.call.of.opened) (hlevel props)
          (λ follows.
          not_stale (opening_of b) (known h) follows.valid h.number g can.call.reading.caller can.stands);
    }

module _ (b : Board) (g word key : ℕ) (h k : Hand) (can : CanSearch b g h) (most : key ≤ greatest_key)
    (answers : AnswersFor (opening_of b) key g (known h)) (m : Makes b h (LoadPhase g word) k) where
  pub search_seen : CanSearch b g k
  search_seen = search_after b g h k (LoadPhase g word) tt (λ z. z) m can

  -- the group still answers for the key, or did
  pub answers_seen : AnswersFor (opening_of b) key g (known k)
  answers_seen =
      now b h k (LoadPhase g word) can.call.of m (λ c t. AnswersFor (opening_of b) key g t)
      (answers_while (opening_of b) h.number g key can.call.reading.caller
      (since b h k (LoadPhase g word) can.call.of m) (known h)
      (valid_after b h k (LoadPhase g word) can.call.of m)
      (goes_on_inside b h k (LoadPhase g word) can.call.of m tt) can.stands answers)

  -- where it is opened, the caller stands in the first new group too
  module _ (first : ℕ) (at : phase g (known k) ≡ Opened first) where
    named : word ≡ word_of_phase (Opened first)
    named = sym (phase_found b h k g word can.call.of m) ∙ ap word_of_phase at

    stands_first : stands_in k.number first (known k) ≡ true
    stands_first =
        now b h k (LoadPhase g word) can.call.of m (λ c t. stands_in c first t ≡ true)
        (own_step (stands_in_after first) false h.number (LoadPhase g word) (m.acts.0 ++ known h)
        ∙ ap (λ (z : Bool). cond z true (stands_in h.number first (m.acts.0 ++ known h)))
        (eq-eqb word (word_of_phase (Opened first)) named))

    pub saw_first : saw_opened k.number first (known k) ≡ true
    saw_first =
        now b h k (LoadPhase g word) can.call.of m (λ c t. saw_opened c first t ≡ true)
        (own_step (saw_opened_after first) false h.number (LoadPhase g word) (m.acts.0 ++ known h)
        ∙ ap (λ (z : Bool). cond z true (saw_opened h.number first (m.acts.0 ++ known h)))
        (eq-eqb word (word_of_phase (Opened first)) named))

    pub in_opened : IsInOpened b g first key k
    in_opened =
        record {
          call = search_seen.call;
          stands = search_seen.stands;
          answers = answers_seen;
          opened = at;
          stands_new = stands_first;
        }

    pub begins_first : BeginsBeforeNew (opening_of b) g first key first (known k)
    begins_first =
        new_begins (opening_of b) (known k) (valid_known b h k (LoadPhase g word) can.call.of m) k.number g first
        key search_seen.call.reading.caller search_seen.stands at answers_seen

    small : first < 1048576
    small =
        let below = new_exists (opening_of b) (known k)
        (valid_known b h k (LoadPhase g word) can.call.of m) k.number g first key first
        search_seen.call.reading.caller most at stands_first begins_first in
        let few = few_groups (opening_of b) in
        omega (arith, below, few)

  -- so its word can be read
  pub writable : IsWritablePhase (phase g (known k))
  writable = go (phase g (known k)) refl
    where
      go : (p : Phase) → phase g (known k) ≡ p → IsWritablePhase p
      go Open is = tt
      go Frozen is = tt
      go (Opened first) is = small first is
