-- What a call comes to that a held caller tries once: as that of a pass, but that it stays inside.
use Rattle.std.specs.Prelude.{◌≡◌, ℕ, None, Option}
use Rattle.map_model.specs.declared.calls.Call.{Call}
use Rattle.tried_calls.specs.declared.tried.Tried.{Tried}
use Rattle.tried_calls.specs.declared.tried.Tried.TheVariants as tried
use Rattle.point_calls.specs.Arrays.{CountsOnce}
use Rattle.point_calls.specs.Exchanges.{MakesFewExchanges}
use Rattle.point_calls.specs.PointCalls.{IsOneSection}
use Rattle.xindex_core.specs.declared.held.Held.{Held}
use Rattle.xindex_core.specs.declared.index.Index.{Index}
use Rattle.xindex_core.specs.Callers.{IsLater}
use Rattle.xindex_core.specs.Passes.{caller_with, probes_of, spare_of}
use Rattle.xindex_core.specs.Tries.{EndsAs, SpareBecomes, StepsTell, key_of_call, most_exchanges}

-- the held caller tried the call once, within its read section
pub record TriesHeld (i : Index) (old : Held) (made : Call) (came : Tried (Option ℕ)) (new : Held)
    : Type 0 where
  pub later : IsLater (caller_with i old.pass) (caller_with i new.pass)
  pub ends : EndsAs (caller_with i old.pass) made came (caller_with i new.pass)
  pub section : IsOneSection old.pass.hand new.pass.hand
  pub does : StepsTell i.board made old.pass.hand came new.pass.hand
  pub exchanges : MakesFewExchanges (most_exchanges made) old.pass.hand new.pass.hand
  pub full : came ≡ tried.Full → spare_of old.pass ≡ None
  pub spare : SpareBecomes made (spare_of old.pass) came (spare_of new.pass)
  pub probes : CountsOnce i.board (key_of_call made) old.pass.hand (probes_of old.pass) (probes_of new.pass)
