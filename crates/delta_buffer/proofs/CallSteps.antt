-- Which steps are those of a call, as it goes on.
use Rattle.std.proofs.Common.{◌≡◌, ℕ, [], ◌∷◌, ◌++◌, refl, sym, subst}
use Rattle.index_machine.specs.declared.events.Action.{Action}
use Rattle.index_machine.specs.Execution.{Continues, Execution, event}
use Rattle.index_machine.proofs.Executions.{continues_same, continues_trans}
use Rattle.index_rule.specs.declared.board.Board.{Board}
use Rattle.index_rule.specs.declared.hand.Hand.{Hand}
use Rattle.index_rule.specs.Hands.{IsHandOf, Makes, known}
use Rattle.index_rule.proofs.Calls.{HasBegun, up_to}
use Rattle.index_rule.proofs.Stepping.{known_is}
use Rattle.delta_buffer.specs.Walks.{HasJustMade, MakesIn}

-- what is known in a call goes on from what was known as it began
pub begun_since : (h : Hand) (t : Execution) → HasBegun h t → Continues (known h) t
begun_since h t begun =
    continues_trans (known h) (event h.number begun.0 ∷ begun.1 ++ known h) t
    (event h.number begun.0 ∷ begun.1, refl) begun.3

-- a step that was made after the call began is one of the call
pub just_made : (b : Board) (h i k : Hand) (d : Action) → Continues (known h) (known i) →
    i.number ≡ h.number → IsHandOf b i → Makes b i d k → HasJustMade h d (known k)
just_made b h i k d since same of m = (
  m.acts.0 ++ known i,
  continues_trans (known h) (known i) (m.acts.0 ++ known i) since (up_to b i k d of m),
  subst (λ (z : ℕ). event z d ∷ m.acts.0 ++ known i ≡ known k) same
      (sym (known_is b i k d of m)),
)

pub made_by : (h k : Hand) (d : Action) (t : Execution) → HasJustMade h d t →
    Continues t (known k) → MakesIn h d k
made_by h k d t m on =
    (m.0, m.1, continues_trans (event h.number d ∷ m.0) t (known k) ([], m.2) on)

pub made_in_call : (b : Board) (h i k : Hand) (d : Action) → Continues (known h) (known i) →
    i.number ≡ h.number → IsHandOf b i → Makes b i d k → MakesIn h d k
made_in_call b h i k d since same of m =
    made_by h k d (known k) (just_made b h i k d since same of m) (continues_same (known k))
