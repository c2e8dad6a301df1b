-- How a put brings the tombstone of its key back to life.
use Rattle.std.proofs.Common.{◌≡◌, ◌≢◌, ℕ, false, Option, Some, None, [], ◌∷◌}
use Rattle.std.proofs.Common.{ap, sym, ◌∙◌, subst, arith}
use Rattle.word_layout.specs.declared.places.Part.TheVariants.{State}
use Rattle.word_layout.specs.Words.{PlaceWord}
use Rattle.index_machine.specs.declared.events.Action.TheVariants.{LoadState, Lock, StoreValue, Unlock}
use Rattle.index_machine.specs.Rows.{InBuffer, role, role_key}
use Rattle.index_rule.specs.declared.board.Board.{Board}
use Rattle.index_rule.specs.declared.hand.Hand.{Hand}
use Rattle.index_rule.specs.Hands.{Makes, known, opening_of}
use Rattle.index_rule.proofs.Calls.{goes_on}
use Rattle.index_rule.proofs.RecordStepping.{same_role}
use Rattle.record_cell.specs.declared.answers.Wrote.{Wrote}
use Rattle.record_cell.specs.declared.answers.Wrote.TheVariants as wrote
use Rattle.record_cell.specs.Conditions.{IsLiveState, IsTombstoneState}
use Rattle.record_cell.specs.Finding.{IsReadyAt}
use Rattle.record_cell.specs.Reviving.{BringsToLife, MayRevive}
use Rattle.record_cell.specs.Writes.{put_at}
use Rattle.point_calls.specs.declared.found.FoundRow.{FoundRow}
use Rattle.point_calls.specs.PointCalls.{IsOfKey, MeetsChange}
use Rattle.point_calls.specs.Putting.{HasFoundTombstone, MayComeInto, MeetsWornTombstone}
use Rattle.point_calls.proofs.BufferWay.{ready_row}
use Rattle.point_calls.proofs.Knowing.{IsIn, in_all, in_call}
use Rattle.point_calls.proofs.LeftWords.{made_behind}
use Rattle.point_calls.proofs.NoneElsewhere.{room_on}
use Rattle.point_calls.proofs.PlaceRefusals.{WornTells}

stone_not_live : (x y : ℕ) → IsTombstoneState x → IsLiveState y → x ≢ y
stone_not_live x y (v, e) (u, f) same = omega arith

module _ (b : Board) (start h : Hand) (row : FoundRow) (first : ℕ) (stone : HasFoundTombstone b start h row first)
    (may : MayComeInto b start h row.group row.key) where
  pub in_found : IsIn b start h
  in_found =
      let at = stone.found.at in
      in_call b start h at.search.call.of at.call at.rows

  pub is_of_key : IsOfKey b row.key row.place h
  is_of_key = ap role_key stone.found.row.0

  pub ready : IsReadyAt b h row.place
  ready =
      ready_row b row.group row.key row.place h stone.found.at.search stone.found.at.of_key stone.found.row

  pub may_revive : MayRevive (opening_of b) h.number row.place (known h)
  may_revive =
      record { group = row.group; key = row.key; row = stone.found.row.0; elsewhere = may.elsewhere }

  module _ (k : Hand) where
    -- the row came to life
    pub in_revived : (value : ℕ) (old : Option ℕ) → BringsToLife b h row.place value (wrote.Done old) k →
        IsIn b start k
    in_revived value (Some old) s = absurd s
    in_revived value None s =
        in_all b start h (Unlock row.place false (put_at b h row.place value) s.1 ∷ StoreValue row.place value
        ∷ Lock row.place s.0 ∷ LoadState row.place s.0 ∷ []) k (tt, tt, (tt, tt, (tt, tt, (tt, tt, tt)))) s.3
        in_found

    still_row : (word : ℕ) → Makes b h (LoadState row.place word) k →
        role (opening_of b) row.place (known k) ≡ InBuffer row.group row.key
    still_row word s =
        same_role b h k (LoadState row.place word) ready.of s tt row.place ready.at_own.there ∙ stone.found.row.0

    -- it was alive
    pub was_alive : (second : ℕ) → Makes b h (LoadState row.place second) k → IsLiveState second →
        MeetsChange b row.key start row.place first second k
    was_alive second s live =
        record {
          loads = made_behind b start h k (LoadState row.place first) (LoadState row.place second)
              (PlaceWord row.place State) in_found.number in_found.of stone.loaded s;
          of_key = ap role_key (still_row second s);
          differ = stone_not_live first second stone.stone live;
        }

    -- its version is the last one
    pub worn_stone : (value : ℕ) (w : Wrote) → BringsToLife b h row.place value w k →
        WornTells b row.key start w k
    worn_stone value (wrote.Worn at word) s = λ gone.
        subst (λ (z : ℕ). MeetsWornTombstone b row.key start z k) (sym s.0)
        (record {
          group = row.group;
          row = still_row word s.1;
          room = room_on start h k (goes_on b h k (LoadState row.place word) ready.of s.1) may.room;
        })
    worn_stone value w s = tt
