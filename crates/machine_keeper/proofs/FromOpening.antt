-- The laws, from what stands at the opening.
use Rattle.std.proofs.Common.{◌≢◌, ℕ, [], ◌++◌, sym, ap, ◌∙◌}
use Rattle.index_machine.proofs.OpeningRows.{opening_form-redirect}
use Rattle.index_machine.specs.Execution.{own}
use Rattle.index_machine.specs.Forms.{Redirect}
use Rattle.index_machine.specs.Places.{form}
use Rattle.index_machine.specs.Rows.{role_key}
use Rattle.index_machine.specs.declared.opening.Opening.{Opening}
use Rattle.machine_barriers.proofs.Barriers.{first_barrier, second_barrier, side_barrier}
use Rattle.machine_barriers.proofs.Barriers.{third_barrier}
use Rattle.machine_keeper.proofs.Keeper.{gone, locked_step, merged, redirects_are_pending}
use Rattle.machine_keeper.proofs.Keeper.{rows_final, unowned_after}
use Rattle.machine_keeper.proofs.Marks.{inserts_over, old_groups_over, old_place_over, side_over}
use Rattle.machine_keeper.specs.Keeper.{BarrierFreesSide, ClosedBuffersGainNoRow}
use Rattle.machine_keeper.specs.Keeper.{FirstBarrierCloses, HeldRowsAreUnreached}
use Rattle.machine_keeper.specs.Keeper.{InstallTakesOldGroupsOut, LivePlacesAreMerged, LocksStay}
use Rattle.machine_keeper.specs.Keeper.{RedirectsArePending, SecondBarrierFrees, ThirdBarrierFrees}
use Rattle.index_machine.proofs.Options.{none_some}
use Rattle.machine_places.proofs.FromOpening.{agreement, live_places}
use Rattle.machine_readers.proofs.FromOpening.{reached_keys}

pub first_closes : FirstBarrierCloses
first_closes o keeper g n t valid of still shut quiescent =
    first_barrier o g n t valid (inserts_over o keeper g n t valid of still shut) quiescent

pub second_frees : SecondBarrierFrees
second_frees o keeper f n t valid of still shut quiescent g at =
    let over = old_groups_over o keeper f n t valid of still shut in
    gone o (n ++ t) g f at over.1
    (λ c is r. second_barrier o f n t valid over.0 quiescent c is r)

pub third_frees : ThirdBarrierFrees
third_frees o keeper p n t valid of still shut quiescent c is r =
    third_barrier o p n t valid (old_place_over o keeper p n t valid of still shut) quiescent c is r

pub side_frees : BarrierFreesSide
side_frees o keeper part side n t valid of still shut quiescent =
    let over = side_over o keeper part side n t valid of still shut in
    record {
      not_present = over.1;
      empty = λ c i is s. side_barrier o part side n t valid over.0 quiescent c is (i, s);
    }

pub locks_stay : LocksStay
locks_stay o t b d c p k v x z r may n s e = locked_step o t b d c p k v x z r may n s e

pub closed_buffers : ClosedBuffersGainNoRow
closed_buffers o t b d g k q may none e = rows_final o t b d g k q may none e

opening-no_redirect : (o : Opening) → (a q y : ℕ) → form o a [] ≢ Redirect q y
opening-no_redirect o a q y e = opening_form-redirect o a q y e

pub all_pending : RedirectsArePending
all_pending o t valid keeper a q y at e =
    redirects_are_pending o (opening-no_redirect o) t valid keeper a at q y e

pub merged_places : LivePlacesAreMerged
merged_places o t valid k g h p own successors each none e =
    merged o t (agreement o t valid) (live_places o t valid) k g h p own successors each none e

pub taken_out : InstallTakesOldGroupsOut
taken_out o t b spot lead low high g may all none k =
    unowned_after o t b spot lead low high g may all none k

pub unreached : HeldRowsAreUnreached
unreached o t valid hand p mine c is r =
    let keyed = reached_keys o t valid c p is r in
    none_some (sym (ap role_key mine) ∙ keyed.1)
