-- Two indexes with one name are one index to a pass and to the keeper.
use Rattle.std.proofs.Common.{◌≡◌, Option, Some, None, sym, ap, ◌∙◌, subst}
use Rattle.std.specs.Prelude.{unwrap_or}
use Rattle.atomic_table.specs.Seated.{TableId}
use Rattle.index_machine.specs.declared.opening.Opening.{Opening}
use Rattle.index_machine.specs.Conditions.{MayEnter}
use Rattle.index_machine.specs.Rows.{Holds, HoldsNone}
use Rattle.index_machine.specs.Keepers.{IsPart, IsPartKeeper}
use Rattle.index_rule.specs.declared.hand.Hand.{Hand}
use Rattle.index_rule.specs.declared.rows.PrivateRow.{PrivateRow}
use Rattle.index_rule.specs.Hands.{IsHandOf, known}
use Rattle.index_rule.specs.OwnRows.{place_of_private}
use Rattle.point_calls.specs.PointCalls.{HasSpare}
use Rattle.xindex_core.specs.declared.index.Index.{Index}
use Rattle.xindex_core.specs.declared.keeper.Keeper.{Keeper}
use Rattle.xindex_core.specs.declared.pass.Pass.{Pass}
use Rattle.xindex_core.specs.Naming.{IsNameOf, NamesSettleTheIndex}
use Rattle.xindex_core.specs.Callers.{IsTruthful}
use Rattle.xindex_core.specs.Passes.{log_of, IsKeeperOf, IsPassOf, known_to, number_of, opening_with}
use Rattle.xindex_core.specs.Passes.{part_kept_by}

module _ (table : TableId) (opening : Option Opening) (i j : Index)
    (one : IsNameOf table opening i) (other : IsNameOf table opening j) where
  -- they were opened with one opening
  opening_is : opening_with i ≡ opening_with j
  opening_is =
      ap (λ (o : Option Opening). unwrap_or o (opening_with i))
      (one.opening_is ∙ sym other.opening_is)

  hand_of : (h : Hand) → IsHandOf i.board h → IsHandOf j.board h
  hand_of h of =
      record {
        table = of.table ∙ (one.table_is ∙ sym other.table_is);
        opened = of.opened ∙ (one.opening_is ∙ sym other.opening_is);
      }

  spare_of_hand : (h : Hand) (spare : Option PrivateRow) → HasSpare i.board h spare →
      HasSpare j.board h spare
  spare_of_hand h None none =
      subst (λ (o : Opening). HoldsNone o h.number (known h)) opening_is none
  spare_of_hand h (Some row) held =
      subst (λ (o : Opening). Holds o h.number (place_of_private row) (known h)) opening_is held

  pass_of : (p : Pass) → IsPassOf i p → IsPassOf j p
  pass_of p of =
      record {
        of = hand_of p.hand of.of;
        rests = subst (λ (o : Opening). MayEnter o (number_of p) (known_to p)) opening_is of.rests;
        spare = spare_of_hand p.hand p.spare of.spare;
        truthful = subst
            (λ (o : Opening).
            IsTruthful
            (record { opening = o; number = number_of p; known = known_to p; log = log_of p }))
            opening_is of.truthful;
      }

  keeper_of : (keeper : Keeper) → IsKeeperOf i keeper → IsKeeperOf j keeper
  keeper_of keeper of =
      record {
        of = hand_of keeper.hand of.of;
        is_part = subst (λ (o : Opening). IsPart o (part_kept_by keeper)) opening_is of.is_part;
        number = subst
            (λ (o : Opening). IsPartKeeper o keeper.hand.number (part_kept_by keeper))
            opening_is of.number;
        idle = of.idle;
      }

pub names_settle : NamesSettleTheIndex
names_settle table opening i one = (
  λ p of j other. pass_of table opening i j one other p of,
  λ keeper of j other. keeper_of table opening i j one other keeper of,
)
