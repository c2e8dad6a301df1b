-- An index as it is closed: who has to be there, and what the whole history leaves.
--
-- The fact to remember: nobody is in a call then, so nobody holds a version lock, and the words are the map.
use Rattle.std.specs.Prelude.{◌≡◌, ℕ, ◌+◌, List, [], ◌∷◌, length}
use Rattle.map_model.specs.History.{History, IsLegal, after}
use Rattle.map_model.specs.Logs.{IsLogOf}
use Rattle.map_model.specs.Map.{IsRising, Map}
use Rattle.index_machine.specs.declared.opening.Opening.{Opening}
use Rattle.index_machine.specs.Execution.{ContinuesWithout, Execution, Without}
use Rattle.index_machine.specs.Lists.{In}
use Rattle.index_machine.specs.LivePlaces.{history}
use Rattle.index_machine.specs.Openings.{opening_map}
use Rattle.index_machine.specs.Keepers.{IsKeeper, IsPart}
use Rattle.index_machine.specs.Sections.{IsCaller}
use Rattle.machine_places.specs.Agreement.{AreByCallers}
use Rattle.index_rule.specs.Ended.{AreAllHands, Leaves}
use Rattle.index_rule.specs.Hands.{known}
use Rattle.index_rule.specs.declared.hand.Hand.{Hand}
use Rattle.resting_table.specs.Resting.{TellPairs}
use Rattle.xindex_core.specs.declared.index.Index.{Index}
use Rattle.xindex_core.specs.declared.keeper.Keeper.{Keeper}
use Rattle.xindex_core.specs.declared.pass.Pass.{Pass}
use Rattle.xindex_core.specs.OneOrder.{HaveOneOrder, IsPassOfCaller}
use Rattle.xindex_core.specs.Passes.{IsKeeperOf, IsPassOf, known_to, limits_of_index, log_of, part_kept_by}
use Rattle.xindex_core.specs.Passes.{number_of, opening_with}

-- ---- all passes ----

-- the numbers of the passes' callers
abbrev pub caller_numbers : List Pass → List ℕ
caller_numbers [] = []
caller_numbers (p ∷ ps) = number_of p ∷ caller_numbers ps

-- passes of the index, between two calls
abbrev pub ArePassesOf : Index → List Pass → Type 0
ArePassesOf i [] = Unit {0}
ArePassesOf i (p ∷ ps) = IsPassOf i p × ArePassesOf i ps

-- the passes of all callers, in any order; no pass is there twice, so each of them stands there once
pub record AreAllPasses (i : Index) (passes : List Pass) : Type 0 where
  pub of : ArePassesOf i passes
  pub each : (caller : ℕ) → IsCaller (opening_with i) caller → In caller (caller_numbers passes)

-- the passes of the callers from this number on, in order
abbrev pub ArePassesFrom : Index → ℕ → List Pass → Type 0
ArePassesFrom i caller [] = Unit {0}
ArePassesFrom i caller (p ∷ ps) = IsPassOfCaller i caller p × ArePassesFrom i (caller + 1) ps

-- ---- the end ----

-- the execution has just the events of each caller that its pass knew
abbrev pub EndsForAll : List Pass → Execution → Type 0
EndsForAll [] t = Unit {0}
EndsForAll (p ∷ ps) t = ContinuesWithout (number_of p) (known_to p) t × EndsForAll ps t

-- the log of each pass is its caller's in this history: so it has just the caller's changes
abbrev pub AreAllLogsIn : Index → History → List Pass → Type 0
AreAllLogsIn i h [] = Unit {0}
AreAllLogsIn i h (p ∷ ps) =
    IsLogOf (opening_map (opening_with i)) (number_of p) h (log_of p) × AreAllLogsIn i h ps

-- these pairs are what the whole history leaves; its changes are by callers of the index, and those of each
-- are the changes in the log of its pass
pub record IsClosedWith (i : Index) (passes : List Pass) (pairs : Map) : Type 0 where
  pub execution : Execution
  pub ends : EndsForAll passes execution
  pub logs : AreAllLogsIn i (history execution) passes
  pub by_callers : AreByCallers (opening_with i) (history execution)
  pub legal : IsLegal (opening_map (opening_with i)) (history execution)
  pub left : pairs ≡ after (opening_map (opening_with i)) (history execution)
  pub rising : IsRising pairs

-- ---- all keepers ----

-- the parts of the keepers
abbrev pub parts_kept : List Keeper → List ℕ
parts_kept [] = []
parts_kept (k ∷ ks) = part_kept_by k ∷ parts_kept ks

-- keepers of the index
abbrev pub AreKeepersOf : Index → List Keeper → Type 0
AreKeepersOf i [] = Unit {0}
AreKeepersOf i (k ∷ ks) = IsKeeperOf i k × AreKeepersOf i ks

-- the keepers of all parts, in any order
pub record AreAllKeepers (i : Index) (keepers : List Keeper) : Type 0 where
  pub of : AreKeepersOf i keepers
  pub each : (part : ℕ) → IsPart (opening_with i) part → In part (parts_kept keepers)

-- ---- hands ----

-- the hands of the passes
abbrev pub calling_hands : List Pass → List Hand
calling_hands [] = []
calling_hands (p ∷ ps) = p.hand ∷ calling_hands ps

-- the hands of the keepers
abbrev pub keeping_hands : List Keeper → List Hand
keeping_hands [] = []
keeping_hands (k ∷ ks) = k.hand ∷ keeping_hands ks

-- those of these hands that are keepers' made no step
abbrev pub KeepersAreIdle : Opening → List Hand → Type 0
KeepersAreIdle o [] = Unit {0}
KeepersAreIdle o (h ∷ hs) =
    (IsKeeper o h.number → Without h.number (known h)) × KeepersAreIdle o hs

-- all hands of the index are there, outside of any read section, and the keepers' made no step
pub record AreGivenBack (i : Index) (hands : List Hand) : Type 0 where
  pub all : AreAllHands i.board hands
  pub idle : KeepersAreIdle (opening_with i) hands

-- these pairs were read of the words that some execution left, once these hands were given up
pub record IsReadBack (i : Index) (hands : List Hand) (pairs : Map) : Type 0 where
  pub words : List ℕ
  pub leaves : Leaves (opening_with i) hands words
  pub tells : TellPairs (opening_with i).layout words pairs

-- ---- the laws ----

-- the passes of callers 0 to the last one, in order, are the passes of all callers
abbrev pub PassesInOrderAreAll : Type 0
PassesInOrderAreAll =
    (i : Index) (passes : List Pass) → ArePassesFrom i 0 passes →
    length passes ≡ (limits_of_index i).callers → AreAllPasses i passes

-- what such passes have in their logs has one order, over which the plain map runs to the pairs
abbrev pub ClosedLogsHaveOneOrder : Type 0
ClosedLogsHaveOneOrder =
    (i : Index) (passes : List Pass) (pairs : Map) → ArePassesFrom i 0 passes →
    (closed : IsClosedWith i passes pairs) → HaveOneOrder i closed.execution passes
