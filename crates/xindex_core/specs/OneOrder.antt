-- The one order of what passes that know the same have in their logs: the weave of these.
use Rattle.std.specs.Prelude.{◌≡◌, ℕ, ◌+◌, ◌<◌, ◌≤◌, Some, List, [], ◌∷◌, length, map, slice_get}
use Rattle.map_model.specs.History.{after}
use Rattle.map_model.specs.Logs.{Log}
use Rattle.linearization.specs.Linearization.{AreLogsOf, Runs, Weave, entries_of, weave}
use Rattle.index_machine.specs.Execution.{Execution}
use Rattle.index_machine.specs.LivePlaces.{history}
use Rattle.index_machine.specs.Openings.{opening_map}
use Rattle.xindex_core.specs.declared.index.Index.{Index}
use Rattle.xindex_core.specs.declared.pass.Pass.{Pass}
use Rattle.xindex_core.specs.Passes.{IsPassOf, known_to, limits_of_index, log_of, number_of, opening_with}

-- ---- passes that know the same ----

-- the pass is that of the caller with this number
pub record IsPassOfCaller (i : Index) (caller : ℕ) (p : Pass) : Type 0 where
  pub of : IsPassOf i p
  pub number : number_of p ≡ caller

-- they are the passes of the callers from this number on, and each knows just this execution
abbrev pub AllKnow : Index → Execution → ℕ → List Pass → Type 0
AllKnow i t caller [] = Unit {0}
AllKnow i t caller (p ∷ ps) =
    IsPassOfCaller i caller p × (known_to p ≡ t) × AllKnow i t (caller + 1) ps

-- ---- their order ----

-- the log of each pass
abbrev pub logs_of : List Pass → List Log
logs_of passes = map log_of passes

-- the changes of the execution, with the looks of all passes between them
abbrev pub order_of : Index → Execution → List Pass → Weave
order_of i t passes = weave (opening_map (opening_with i)) (history t) (logs_of passes)

-- the logs are of one history, and so their entries have one order: the plain map runs over it, and
-- each caller's stand there in its order, each once; no other does where the list has all callers
pub record HaveOneOrder (i : Index) (t : Execution) (passes : List Pass) : Type 0 where
  pub logs : AreLogsOf (opening_map (opening_with i)) (history t) (logs_of passes)
  pub runs : Runs (opening_map (opening_with i)) (order_of i t passes)
      (after (opening_map (opening_with i)) (history t))
  pub own : (caller : ℕ) (p : Pass) → slice_get passes caller ≡ Some p →
      entries_of caller (order_of i t passes) ≡ log_of p
  pub others : 0 < length passes → length passes ≡ (limits_of_index i).callers →
      (caller : ℕ) → length passes ≤ caller → entries_of caller (order_of i t passes) ≡ []

-- ---- the law ----

-- once passes of an index know the same, the entries of their logs have one order
abbrev pub CallersShareOneOrder : Type 0
CallersShareOneOrder =
    (i : Index) (t : Execution) (passes : List Pass) → AllKnow i t 0 passes →
    HaveOneOrder i t passes
