-- What passes and keepers tell each other.
use Rattle.std.specs.Prelude.{◌≡◌}
use Rattle.index_machine.specs.Execution.{Execution, Continues, ContinuesWithout}
use Rattle.index_rule.specs.Seats.{longer}
use Rattle.xindex_core.specs.declared.index.Index.{Index}
use Rattle.xindex_core.specs.declared.keeper.Keeper.{Keeper}
use Rattle.xindex_core.specs.declared.pass.Pass.{Pass}
use Rattle.xindex_core.specs.Callers.{IsLater}
use Rattle.xindex_core.specs.Passes.{IsKeeperOf, IsPassOf, caller_with, known_to, known_to_keeper, log_of}
use Rattle.xindex_core.specs.Passes.{number_of, number_of_keeper, part_kept_by, probes_of, spare_of}

-- ---- passes ----

-- the pass is as it was
pub record StaysAs (i : Index) (old new : Pass) : Type 0 where
  pub of : IsPassOf i new
  pub number : number_of new ≡ number_of old
  pub known : known_to new ≡ known_to old
  pub log : log_of new ≡ log_of old
  pub spare : spare_of new ≡ spare_of old
  pub probes : probes_of new ≡ probes_of old

-- the pass knows the longer of what it knew and this news; what it knows then goes on from both, and
-- from what it knew by events of others alone
pub record HeedsNews (i : Index) (old : Pass) (news : Execution) (new : Pass) : Type 0 where
  pub of : IsPassOf i new
  pub number : number_of new ≡ number_of old
  pub log : log_of new ≡ log_of old
  pub spare : spare_of new ≡ spare_of old
  pub probes : probes_of new ≡ probes_of old
  pub knows : known_to new ≡ longer (known_to old) news
  pub own : ContinuesWithout (number_of old) (known_to old) (known_to new)
  pub told : Continues news (known_to new)
  pub later : IsLater (caller_with i old) (caller_with i new)

-- ---- keepers ----

-- the keeper is as it was
pub record KeeperStaysAs (i : Index) (old new : Keeper) : Type 0 where
  pub of : IsKeeperOf i new
  pub part : part_kept_by new ≡ part_kept_by old
  pub known : known_to_keeper new ≡ known_to_keeper old

-- the keeper knows the longer of what it knew and this news; what it knows then goes on from both, and from what it
-- knew by events of others alone
pub record KeeperHeedsNews (i : Index) (old : Keeper) (news : Execution) (new : Keeper) : Type 0 where
  pub of : IsKeeperOf i new
  pub part : part_kept_by new ≡ part_kept_by old
  pub knows : known_to_keeper new ≡ longer (known_to_keeper old) news
  pub own : ContinuesWithout (number_of_keeper old) (known_to_keeper old) (known_to_keeper new)
  pub told : Continues news (known_to_keeper new)
