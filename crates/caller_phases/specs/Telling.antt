-- Passes of which each has heard what all know.
use Rattle.std.specs.Prelude.{◌≡◌, ◌≢◌, ℕ, ◌<◌, List, length, slice_index_or}
use Rattle.index_machine.specs.Execution.{Continues, Execution}
use Rattle.xindex_core.specs.declared.index.Index.{Index}
use Rattle.xindex_core.specs.declared.pass.Pass.{Pass}
use Rattle.xindex_core.specs.Notes.{StaysAs}
use Rattle.xindex_core.specs.Passes.{IsPassOf, known_to, log_of, number_of}

-- each is a pass of the index, between two calls
abbrev pub AreEachOf : Index → List Pass → Type 0
AreEachOf i passes = (k : ℕ) (d : Pass) → k < length passes → IsPassOf i (slice_index_or passes k d)

-- the execution goes on from what each pass knows, and one of them knows just this
pub record IsLongest (passes : List Pass) (t : Execution) : Type 0 where
  pub behind : (k : ℕ) (d : Pass) → k < length passes → Continues (known_to (slice_index_or passes k d)) t
  pub whose : ℕ
  pub within : whose < length passes
  pub known : (d : Pass) → known_to (slice_index_or passes whose d) ≡ t

-- the pass knows this now, and is as it was otherwise
pub record HasHeard (i : Index) (old : Pass) (t : Execution) (new : Pass) : Type 0 where
  pub of : IsPassOf i new
  pub number : number_of new ≡ number_of old
  pub log : log_of new ≡ log_of old
  pub known : known_to new ≡ t

-- each pass knows the longest of what they knew, and is as it was otherwise
pub record AllHear (i : Index) (old new : List Pass) : Type 0 where
  pub many : length new ≡ length old
  pub longest : Execution
  pub is : IsLongest old longest
  pub each : (k : ℕ) (d : Pass) → k < length old →
      HasHeard i (slice_index_or old k d) longest (slice_index_or new k d)

-- this pass knows the longest of what they knew, and the others stay as they are
pub record OneHears (i : Index) (old : List Pass) (own : ℕ) (new : List Pass) : Type 0 where
  pub many : length new ≡ length old
  pub longest : Execution
  pub is : IsLongest old longest
  pub hears : (d : Pass) → HasHeard i (slice_index_or old own d) longest (slice_index_or new own d)
  pub others : (k : ℕ) (d : Pass) → k < length old → k ≢ own →
      StaysAs i (slice_index_or old k d) (slice_index_or new k d)
