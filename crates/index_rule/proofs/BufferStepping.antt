-- What a caller knows of a buffer after one step of its own, whatever the others did before it.
use Rattle.std.proofs.Common.{◌≡◌, ℕ, inr, true, ◌++◌}
use Rattle.std.proofs.Common.{ap, ◌∙◌}
use Rattle.word_layout.specs.Phase.{word_of_phase}
use Rattle.index_machine.specs.declared.events.Action.{Action}
use Rattle.index_machine.specs.declared.events.Action.TheVariants.{LoadPhase}
use Rattle.index_machine.specs.Execution.{Execution}
use Rattle.index_machine.specs.Groups.{phase}
use Rattle.index_machine.specs.Reaching.{stands_in}
use Rattle.machine_buffers.proofs.BegunLanes.{HasSameLanes, begun_on, has_same}
use Rattle.machine_buffers.specs.Groups.{Begins}
use Rattle.index_machine.specs.Lanes.{HasLane, begun_word}
use Rattle.index_machine.specs.Rows.{InBuffer, role}
use Rattle.index_machine.specs.Sections.{IsCaller, IsNoCrossing}
use Rattle.machine_readers.proofs.ReadSections.{place_on}
use Rattle.index_rule.specs.declared.board.Board.{Board}
use Rattle.index_rule.specs.declared.hand.Hand.{Hand}
use Rattle.index_rule.specs.Buffers.{CanWalk}
use Rattle.index_rule.specs.Hands.{IsHandOf, Makes, known, opening_of}
use Rattle.index_rule.proofs.Lanes.{lanes_on}
use Rattle.index_rule.proofs.RecordStepping.{goes_on_inside, now, since}
use Rattle.index_rule.proofs.Stepping.{known_is, others_only, valid_after}

module _ (b : Board) (h k : Hand) (action : Action) (of : IsHandOf b h)
    (m : Makes b h action k) (caller : IsCaller (opening_of b) h.number) where
  -- the rows of the buffer where the caller stands stay there
  pub still_row : IsNoCrossing action → (g j p : ℕ) → stands_in h.number g (known h) ≡ true →
      role (opening_of b) p (known h) ≡ InBuffer g j →
      role (opening_of b) p (known k) ≡ InBuffer g j
  still_row none g j p s e =
      now b h k action of m (λ z t. role (opening_of b) p t ≡ InBuffer g j)
      (place_on (opening_of b) h.number g caller p j (since b h k action of m) (known h)
      (valid_after b h k action of m) (goes_on_inside b h k action of m none) s (inr e) ∙ e)

module _ (b : Board) (h k : Hand) (action : Action) (of : IsHandOf b h)
    (m : Makes b h action k) where
  -- the lanes of a buffer in which the hand can walk are what they were
  pub still_lanes : (g : ℕ) → (Begins g action → ⊥) →
      CanWalk (opening_of b) h.number g (known h) →
      HasSameLanes (opening_of b) g (known h) (known k)
  still_lanes g never can which =
      ap (begun_word (opening_of b) g which) (known_is b h k action of m)
      ∙ (begun_on (opening_of b) (m.acts.0 ++ known h) h.number action g never which
      ∙ lanes_on (opening_of b) h.number g m.acts.0 (known h) (valid_after b h k action of m).1
      (others_only b h k action of m) can which)

  -- and a key is in the lane in which it was
  pub still_in_lane : (g lane j : ℕ) → (Begins g action → ⊥) →
      CanWalk (opening_of b) h.number g (known h) →
      HasLane (opening_of b) g lane j (known h) → HasLane (opening_of b) g lane j (known k)
  still_in_lane g lane j never can has =
      has_same (opening_of b) g lane j (known h) (known k) (still_lanes g never can) has

-- a phase that was loaded is that of the group
pub phase_found : (b : Board) (h k : Hand) (g found : ℕ) → IsHandOf b h →
    Makes b h (LoadPhase g found) k → word_of_phase (phase g (known k)) ≡ found
phase_found b h k g found of m =
    ap (λ (t : Execution). word_of_phase (phase g t)) (known_is b h k (LoadPhase g found) of m)
    ∙ (valid_after b h k (LoadPhase g found) of m).0.says
