-- A caller that is held: what it still is after a call, and once it heeds a note.
use Rattle.std.proofs.Common.{◌≡◌, refl}
use Rattle.std.proofs.Math.Logic.{∥∥₁_elim}
use Rattle.index_machine.specs.Execution.{Continues, Execution}
use Rattle.index_rule.specs.declared.board.Board.{Board}
use Rattle.index_rule.specs.declared.hand.Hand.{Hand}
use Rattle.index_rule.specs.Calls.{CanCall}
use Rattle.index_rule.specs.Hands.{IsHandOf, known, opening_of}
use Rattle.index_rule.specs.Notes as notes
use Rattle.index_rule.proofs.Heeding.{heeds_may_leave, heeds_on}
use Rattle.point_calls.specs.PointCalls.{HasSpare}
use Rattle.xindex_core.specs.declared.held.Held.{Held}
use Rattle.xindex_core.specs.declared.index.Index.{Index}
use Rattle.xindex_core.specs.Callers.{IsLater, IsTruthful}
use Rattle.xindex_core.specs.Held.{HeedsHeld, IsHeldOf}
use Rattle.xindex_core.specs.OneProof.{IsTruthful-prop}
use Rattle.xindex_core.proofs.Heeding.{spare_heeded}
use Rattle.xindex_core.proofs.Sections.{caller_by, later, truthful}

-- a held caller can call
pub held_can : (i : Index) (held : Held) → IsHeldOf i held → CanCall i.board held.pass.hand
held_can i held of =
    record {
      of = of.of;
      reading = record { caller = of.inside.caller; inside = of.inside.inside };
      holds_none = of.inside.holds_none;
    }

-- what a hand of the board told is true
pub is_truthful : (b : Board) (k : Hand) → IsHandOf b k → IsTruthful (caller_by b k)
is_truthful b k of =
    ∥∥₁_elim (k.following (opening_of b) of.opened) (IsTruthful-prop (caller_by b k)) (λ follows. truthful b k follows)

-- it is the same caller later on
pub is_later : (b : Board) (h k : Hand) → IsHandOf b k → k.number ≡ h.number → Continues (known h) (known k) →
    IsLater (caller_by b h) (caller_by b k)
is_later b h k of number on =
    record { opening = refl; number = number; goes_on = on; truthful = is_truthful b k of }

-- who can call is held
pub is_held : (i : Index) (held : Held) → CanCall i.board held.pass.hand →
    HasSpare i.board held.pass.hand held.pass.spare → IsHeldOf i held
is_held i held can spare =
    record {
      of = can.of;
      inside = record {
        caller = can.reading.caller;
        inside = can.reading.inside;
        holds_none = can.holds_none;
      };
      spare = spare;
      truthful = is_truthful i.board held.pass.hand can.of;
    }

-- so is one that heeded a note
pub held_heeds : (i : Index) (old : Held) (k : Hand) (news : Execution) → IsHeldOf i old →
    notes.Heeds i.board old.pass.hand news k →
    HeedsHeld i old news
    (record { pass = record { hand = k; spare = old.pass.spare; probes = old.pass.probes } })
held_heeds i old k news of m =
    record {
      of = record {
        of = m.of;
        inside = heeds_may_leave i.board old.pass.hand k news m of.inside;
        spare = spare_heeded i.board old.pass.hand k news m old.pass.spare of.spare;
        truthful = truthful i.board k m.follows;
      };
      number = m.number;
      same = record { log = m.log; spare = refl; probes = refl };
      knows = m.knows;
      own = m.own;
      told = m.told;
      later = later i.board old.pass.hand k m.number (heeds_on i.board old.pass.hand k news m) m.follows;
    }
