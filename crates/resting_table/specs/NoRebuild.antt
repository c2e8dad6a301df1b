-- The steps of a rebuild, which only keepers make, and the executions that have none of them.
use Rattle.std.specs.Prelude.{[], ◌∷◌}
use Rattle.index_machine.specs.declared.events.Action.{Action}
use Rattle.index_machine.specs.declared.events.Action.TheVariants.{Retire}
use Rattle.index_machine.specs.declared.events.Action.TheVariants.{Freeze, Thaw, StoreHeader}
use Rattle.index_machine.specs.declared.events.Action.TheVariants.{NewGroup, StoreArray}
use Rattle.index_machine.specs.declared.events.Action.TheVariants.{StoreRedirect, StoreOpened}
use Rattle.index_machine.specs.declared.events.Action.TheVariants.{Install, StoreSlot, Close, Copy}
use Rattle.index_machine.specs.declared.events.Action.TheVariants.{StoreDirect, StoreMoved}
use Rattle.index_machine.specs.declared.events.Action.TheVariants.{StoreUnusedPivot}
use Rattle.index_machine.specs.declared.events.Action.TheVariants.{StoreUnusedGroup, StoreRoot}
use Rattle.index_machine.specs.Execution.{Execution}

-- the step is none of a rebuild
abbrev pub IsNoRebuild : Action → Type 0
IsNoRebuild (Retire place next) = ⊥
IsNoRebuild (Freeze group) = ⊥
IsNoRebuild (Thaw group) = ⊥
IsNoRebuild (StoreHeader group part value) = ⊥
IsNoRebuild (NewGroup group low high first) = ⊥
IsNoRebuild (StoreArray group place part value) = ⊥
IsNoRebuild (StoreRedirect group place key to) = ⊥
IsNoRebuild (StoreOpened group first) = ⊥
IsNoRebuild (Install spot first low high) = ⊥
IsNoRebuild (StoreSlot part side i group) = ⊥
IsNoRebuild (Close place expected) = ⊥
IsNoRebuild (Copy place value) = ⊥
IsNoRebuild (StoreDirect place from key removed stored) = ⊥
IsNoRebuild (StoreMoved place) = ⊥
IsNoRebuild (StoreUnusedPivot part side i pivot) = ⊥
IsNoRebuild (StoreUnusedGroup part side i group) = ⊥
IsNoRebuild (StoreRoot part stored) = ⊥
IsNoRebuild _ = Unit {0}

-- no step of a rebuild was made
abbrev pub HasNoRebuild : Execution → Type 0
HasNoRebuild [] = Unit {0}
HasNoRebuild (e ∷ t) = IsNoRebuild e.action × HasNoRebuild t
