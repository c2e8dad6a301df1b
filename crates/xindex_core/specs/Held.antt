-- A caller that is held inside its read section, as contracts see it.
use Rattle.std.specs.Prelude.{◌≡◌}
use Rattle.index_machine.specs.declared.events.Action.TheVariants.{Enter, Leave}
use Rattle.index_machine.specs.Conditions.{MayLeave, next_epoch}
use Rattle.index_machine.specs.Execution.{Continues, ContinuesWithout, Execution}
use Rattle.index_rule.specs.Hands.{IsHandOf, Makes}
use Rattle.index_rule.specs.Seats.{longer}
use Rattle.point_calls.specs.PointCalls.{HasSpare}
use Rattle.xindex_core.specs.declared.held.Held.{Held}
use Rattle.xindex_core.specs.declared.index.Index.{Index}
use Rattle.xindex_core.specs.declared.pass.Pass.{Pass}
use Rattle.xindex_core.specs.Callers.{IsLater, IsTruthful}
use Rattle.xindex_core.specs.Passes.{IsPassOf, caller_with, known_to, log_of, number_of, opening_with, probes_of}
use Rattle.xindex_core.specs.Passes.{spare_of}

-- the caller is one of the index, inside its read section and between two calls, and its log is true
pub record IsHeldOf (i : Index) (held : Held) : Type 0 where
  pub of : IsHandOf i.board held.pass.hand
  pub inside : MayLeave (opening_with i) (number_of held.pass) (known_to held.pass)
  pub spare : HasSpare i.board held.pass.hand held.pass.spare
  pub truthful : IsTruthful (caller_with i held.pass)

-- two passes have the same log, spare row and probes
pub record HasSameBelongings (old new : Pass) : Type 0 where
  pub log : log_of new ≡ log_of old
  pub spare : spare_of new ≡ spare_of old
  pub probes : probes_of new ≡ probes_of old

-- the caller entered, and did nothing else
pub record EntersHeld (i : Index) (old : Pass) (new : Held) : Type 0 where
  pub of : IsHeldOf i new
  pub step : Makes i.board old.hand (Enter (next_epoch (number_of old) (known_to old))) new.pass.hand
  pub later : IsLater (caller_with i old) (caller_with i new.pass)
  pub same : HasSameBelongings old new.pass

-- the caller left, and did nothing else
pub record LeavesHeld (i : Index) (old : Held) (new : Pass) : Type 0 where
  pub of : IsPassOf i new
  pub step : Makes i.board old.pass.hand (Leave (next_epoch (number_of old.pass) (known_to old.pass)))
      new.hand
  pub later : IsLater (caller_with i old.pass) (caller_with i new)
  pub same : HasSameBelongings old.pass new

-- the caller is as it was
pub record StaysHeld (i : Index) (old new : Held) : Type 0 where
  pub of : IsHeldOf i new
  pub number : number_of new.pass ≡ number_of old.pass
  pub known : known_to new.pass ≡ known_to old.pass
  pub same : HasSameBelongings old.pass new.pass

-- the caller knows the longer of what it knew and this news; what it knows then goes on from both, and from what it
-- knew by events of others alone
pub record HeedsHeld (i : Index) (old : Held) (news : Execution) (new : Held) : Type 0 where
  pub of : IsHeldOf i new
  pub number : number_of new.pass ≡ number_of old.pass
  pub same : HasSameBelongings old.pass new.pass
  pub knows : known_to new.pass ≡ longer (known_to old.pass) news
  pub own : ContinuesWithout (number_of old.pass) (known_to old.pass) (known_to new.pass)
  pub told : Continues news (known_to new.pass)
  pub later : IsLater (caller_with i old.pass) (caller_with i new.pass)
