-- Passes and keepers that tell or heed a note.
use Rattle.std.proofs.Common.{◌≡◌, ℕ, ◌∙◌, Option, Some, None, refl, sym, ap, subst}
use Rattle.index_machine.specs.Execution.{Execution, Without}
use Rattle.index_machine.specs.Keepers.{IsPartKeeper}
use Rattle.index_machine.proofs.Executions.{without_append}
use Rattle.index_rule.specs.declared.board.Board.{Board}
use Rattle.index_rule.specs.declared.hand.Hand.{Hand}
use Rattle.index_rule.specs.declared.rows.PrivateRow.{PrivateRow}
use Rattle.index_rule.specs.declared.view.View.{View}
use Rattle.index_rule.specs.Hands.{IsHandOf, known, view}
use Rattle.index_rule.specs.Notes as notes
use Rattle.index_rule.specs.OwnRows.{place_of_private}
use Rattle.index_rule.proofs.Heeding.{heeds_holds, heeds_holds_none, heeds_may_enter, heeds_on}
use Rattle.point_calls.specs.PointCalls.{HasSpare}
use Rattle.xindex_core.specs.declared.index.Index.{Index}
use Rattle.xindex_core.specs.declared.keeper.Keeper.{Keeper}
use Rattle.xindex_core.specs.declared.pass.Pass.{Pass}
use Rattle.xindex_core.specs.Notes.{HeedsNews, KeeperHeedsNews, KeeperStaysAs}
use Rattle.xindex_core.specs.Passes.{IsKeeperOf, IsPassOf, opening_with}
use Rattle.xindex_core.proofs.Sections.{later, truthful}

pub spare_heeded : (b : Board) (h k : Hand) (news : Execution) → notes.Heeds b h news k →
    (spare : Option PrivateRow) → HasSpare b h spare → HasSpare b k spare
spare_heeded b h k news m (Some row) held = heeds_holds b h k news m (place_of_private row) held
spare_heeded b h k news m None none = heeds_holds_none b h k news m none

pub heeds : (i : Index) (p : Pass) (k : Hand) (news : Execution) → IsPassOf i p →
    notes.Heeds i.board p.hand news k → HeedsNews i p news (record { hand = k; spare = p.spare; probes = p.probes })
heeds i p k news of m =
    record {
      of = record {
        of = m.of;
        rests = heeds_may_enter i.board p.hand k news m of.rests;
        spare = spare_heeded i.board p.hand k news m p.spare of.spare;
        truthful = truthful i.board k m.follows;
      };
      number = m.number;
      log = m.log;
      spare = refl;
      probes = refl;
      knows = m.knows;
      own = m.own;
      told = m.told;
      later = later i.board p.hand k m.number (heeds_on i.board p.hand k news m) m.follows;
    }

-- ---- keepers ----

-- a keeper with another hand, of its number and without a step, is the keeper of the same part
keeper_with : (i : Index) (keeper : Keeper) (k : Hand) → IsKeeperOf i keeper → IsHandOf i.board k →
    k.number ≡ keeper.hand.number → Without keeper.hand.number (known k) →
    IsKeeperOf i (record { hand = k; part = keeper.part })
keeper_with i keeper k is of number idle =
    record {
      of = of;
      is_part = is.is_part;
      number = subst (λ (n : ℕ). IsPartKeeper (opening_with i) n keeper.part) (sym number) is.number;
      idle = subst (λ (n : ℕ). Without n (known k)) (sym number) idle;
    }

-- a keeper that told a note is as it was
pub keeper_tells : (i : Index) (keeper : Keeper) (k : Hand) → IsKeeperOf i keeper → IsHandOf i.board k →
    k.number ≡ keeper.hand.number → view k ≡ view keeper.hand →
    KeeperStaysAs i keeper (record { hand = k; part = keeper.part })
keeper_tells i keeper k is of number same =
    let knows : known k ≡ known keeper.hand = ap (λ (v : View). v.known) same in
    record {
      of = keeper_with i keeper k is of number (subst (Without keeper.hand.number) (sym knows) is.idle);
      part = refl;
      known = knows;
    }

-- and one that heeded a note made no step by that
pub keeper_heeds : (i : Index) (keeper : Keeper) (k : Hand) (news : Execution) → IsKeeperOf i keeper →
    notes.Heeds i.board keeper.hand news k →
    KeeperHeedsNews i keeper news (record { hand = k; part = keeper.part })
keeper_heeds i keeper k news is m =
    let idle : Without keeper.hand.number (known k) =
    subst (Without keeper.hand.number) m.own.1
    (without_append keeper.hand.number m.own.0 (known keeper.hand) m.own.2 is.idle) in
    record {
      of = keeper_with i keeper k is m.of m.number idle;
      part = refl;
      knows = m.knows;
      own = m.own;
      told = m.told;
    }
