-- The moments of a call that made several steps.
use Rattle.std.proofs.Common.{◌∷◌, ◌++◌, [], refl, sym}
use Rattle.index_machine.specs.declared.events.Action.{Action}
use Rattle.index_machine.specs.Execution.{Execution, event, Without, Continues}
use Rattle.index_machine.proofs.Executions.{continues_same, continues_trans}
use Rattle.index_rule.specs.declared.board.Board.{Board}
use Rattle.index_rule.specs.declared.hand.Hand.{Hand}
use Rattle.index_rule.specs.Hands.{IsHandOf, Makes, known}
use Rattle.index_rule.specs.Moments.{IsWithin}
use Rattle.index_rule.proofs.Stepping.{known_is, others_only}

-- ---- moments ----

-- the execution is behind the first step of the call that the hand began so
abbrev pub HasBegun : Hand → Execution → Type 0
HasBegun h t =
    (first : Action) × (newer : Execution) × Without h.number newer
    × Continues (event h.number first ∷ newer ++ known h) t

-- so it is after the first step
pub begins : (b : Board) (h k : Hand) (action : Action) → IsHandOf b h → Makes b h action k →
    HasBegun h (known k)
begins b h k action of m =
    (action, m.acts.0, others_only b h k action of m, ([], sym (known_is b h k action of m)))

-- and later on
pub begun_on : (h : Hand) (t u : Execution) → HasBegun h t → Continues t u → HasBegun h u
begun_on h t u begun on =
    (begun.0, begun.1, begun.2, continues_trans _ t u begun.3 on)

-- a moment behind the first step, and not behind the end, is one of the call
pub is_within : (h k : Hand) (moment : Execution) → HasBegun h moment →
    Continues moment (known k) → IsWithin h k moment
is_within h k moment begun on =
    let first : Continues (begun.1 ++ known h) (event h.number begun.0 ∷ begun.1 ++ known h) =
    (event h.number begun.0 ∷ [], refl)
    in (
      begun.0,
      begun.1,
      begun.2,
      continues_trans _ moment (known k) begun.3 on,
      continues_trans _ _ moment first begun.3,
      on,
    )

pub within_end : (h k : Hand) → HasBegun h (known k) → IsWithin h k (known k)
within_end h k begun = is_within h k (known k) begun (continues_same (known k))

module _ (b : Board) (h k : Hand) (action : Action) (of : IsHandOf b h)
    (m : Makes b h action k) where
  -- what others did before it goes on from what the hand knew
  pub up_to : Continues (known h) (m.acts.0 ++ known h)
  up_to = (m.acts.0, refl)

  pub from_there : Continues (m.acts.0 ++ known h) (known k)
  from_there = (event h.number action ∷ [], sym (known_is b h k action of m))

  pub goes_on : Continues (known h) (known k)
  goes_on = continues_trans (known h) (m.acts.0 ++ known h) (known k) up_to from_there
