-- Nothing was rebuilt where no keeper made a step.
--
-- The fact to remember: only a keeper's hand makes the steps of a rebuild.
use Rattle.std.proofs.Common.{◌⊎◌, inl, inr, ⊎_elim, ℕ, ◌+◌, ◌-◌, [], ◌∷◌, arith}
use Rattle.index_machine.specs.declared.events.Action.{Action}
use Rattle.index_machine.specs.declared.events.Action.TheVariants.{Close, Copy, Freeze, Install, NewGroup, Retire}
use Rattle.index_machine.specs.declared.events.Action.TheVariants.{StoreArray, StoreDirect, StoreHeader, StoreMoved}
use Rattle.index_machine.specs.declared.events.Action.TheVariants.{StoreOpened, StoreRedirect, StoreRoot, StoreSlot}
use Rattle.index_machine.specs.declared.events.Action.TheVariants.{StoreUnusedGroup, StoreUnusedPivot, Thaw}
use Rattle.index_machine.specs.declared.opening.Opening.{Opening}
use Rattle.index_machine.specs.Conditions.{Allowed, Valid}
use Rattle.index_machine.specs.Execution.{Execution, Without}
use Rattle.index_machine.specs.Keepers.{IsKeeper, IsPart, IsPartKeeper, part_of}
use Rattle.index_machine.specs.RebuildConditions.{part_of_spot}
use Rattle.index_machine.specs.RecordConditions.{KeepsPlace}
use Rattle.index_machine.specs.Words.{limits}
use Rattle.resting_table.specs.NoRebuild.{HasNoRebuild, IsNoRebuild}

-- the keeper of a part has a keeper's number
of_part : (o : Opening) (hand part : ℕ) → IsPartKeeper o hand part → IsKeeper o hand
of_part o hand part is = omega arith

of_place : (o : Opening) (t : Execution) (hand place : ℕ) → KeepsPlace o t hand place → IsKeeper o hand
of_place o t hand place keeps = of_part o hand (part_of o keeps.0) keeps.3

-- a step of a rebuild is a keeper's
no_rebuild_or_keeper : (o : Opening) (t : Execution) (by : ℕ) (d : Action) → Allowed o t by d →
    IsNoRebuild d ⊎ IsKeeper o by
no_rebuild_or_keeper o t by (Retire place next) may = inr (of_place o t by place may.keeper)
no_rebuild_or_keeper o t by (Freeze group) may = inr (of_part o by (part_of o group) may.keeper)
no_rebuild_or_keeper o t by (Thaw group) may = inr (of_part o by (part_of o group) may.keeper)
no_rebuild_or_keeper o t by (StoreHeader group which value) may = inr (of_part o by (part_of o group) may.keeper)
no_rebuild_or_keeper o t by (NewGroup group low high first) may = inr (of_part o by (part_of o group) may.keeper)
no_rebuild_or_keeper o t by (StoreArray group place which value) may = inr (of_part o by (part_of o group) may.keeper)
no_rebuild_or_keeper o t by (StoreRedirect group place k to) may = inr (of_part o by (part_of o group) may.keeper)
no_rebuild_or_keeper o t by (StoreOpened group first) may = inr (of_part o by (part_of o group) may.keeper)
no_rebuild_or_keeper o t by (Install spot lead low high) may = inr (of_part o by (part_of_spot o spot) may.keeper)
no_rebuild_or_keeper o t by (StoreSlot part side i group) may = inr (of_part o by part may.keeper)
no_rebuild_or_keeper o t by (Close place expected) may = inr (of_place o t by place may.keeper)
no_rebuild_or_keeper o t by (Copy place value) may = inr (of_place o t by place may.keeper)
no_rebuild_or_keeper o t by (StoreDirect place from k removed stored) may = inr (of_place o t by place may.keeper)
no_rebuild_or_keeper o t by (StoreMoved place) may = inr (of_place o t by place may.keeper)
no_rebuild_or_keeper o t by (StoreUnusedPivot part side i pivot) may = inr (of_part o by part may.keeper)
no_rebuild_or_keeper o t by (StoreUnusedGroup part side i group) may = inr (of_part o by part may.keeper)
no_rebuild_or_keeper o t by (StoreRoot part stored) may = inr (of_part o by part may.keeper)
no_rebuild_or_keeper o t by d may = inl tt

-- so nothing was rebuilt where no keeper of a part made a step
pub nothing_rebuilt : (o : Opening) (t : Execution) → Valid o t →
    ((part : ℕ) → IsPart o part → Without ((limits o).callers + part) t) → HasNoRebuild t
nothing_rebuilt o [] valid idle = tt
nothing_rebuilt o (e ∷ t) valid idle = (
  ⊎_elim (λ (none_rebuilt : IsNoRebuild e.action). none_rebuilt)
      (λ (keeper : IsKeeper o e.by).
      let hand = valid.2 in
      let part : ℕ = e.by - (limits o).callers in
      let never = (idle part (omega arith)).0 in
      absurd (never (omega arith)))
      (no_rebuild_or_keeper o t e.by e.action valid.0),
  nothing_rebuilt o t valid.1 (λ part is. (idle part is).1),
)
