-- An index as it was opened.
use Rattle.std.specs.Prelude.{◌≡◌, ℕ, List, [], length}
use Rattle.word_layout.specs.declared.limits.Limits.{Limits}
use Rattle.map_model.specs.Map.{IsRising, Map}
use Rattle.word_layout.specs.Limits.{KeepsRulesIn}
use Rattle.word_layout.specs.Parts.{part_count}
use Rattle.word_layout.specs.Shape.{in_one_part, shape}
use Rattle.index_machine.specs.OpeningPlan.{FitsTable}
use Rattle.index_machine.specs.Openings.{opening_map}
use Rattle.xindex_core.specs.declared.index.Opened.{Opened}
use Rattle.xindex_core.specs.declared.index.OpenedParts.{OpenedParts}
use Rattle.xindex_core.specs.Passes.{AreNewKeepers, AreNewPasses, IsKeeperOf, bounds_of_index, known_to_keeper}
use Rattle.xindex_core.specs.Passes.{limits_of_index, opening_with}

-- an index with these limits and parts, which keep the rules, and with these rows, which rise and fit; a new pass for
-- each caller, and a new keeper for each part
pub record IsNewlyOpenedIn (l : Limits) (bounds : List ℕ) (rows : Map) (opened : OpenedParts) : Type 0 where
  pub limits : limits_of_index opened.index ≡ l
  pub parts : bounds_of_index opened.index ≡ bounds
  pub rows_are : opening_map (opening_with opened.index) ≡ rows
  pub many : length opened.passes.items ≡ l.callers
  pub passes : AreNewPasses opened.index 0 opened.passes.items
  pub each : length opened.keepers.items ≡ part_count bounds
  pub keepers : AreNewKeepers opened.index 0 opened.keepers.items
  pub rules : KeepsRulesIn (shape l bounds)
  pub rise : IsRising rows
  pub fit : FitsTable (shape l bounds) rows

-- an index with these limits and one part, which keep the rules, and with these rows, which rise and fit; a new pass
-- for each caller, and the keeper
pub record IsNewlyOpened (l : Limits) (rows : Map) (opened : Opened) : Type 0 where
  pub limits : limits_of_index opened.index ≡ l
  pub parts : bounds_of_index opened.index ≡ []
  pub rows_are : opening_map (opening_with opened.index) ≡ rows
  pub many : length opened.passes.items ≡ l.callers
  pub passes : AreNewPasses opened.index 0 opened.passes.items
  pub keeper : IsKeeperOf opened.index opened.keeper
  pub keeper_new : known_to_keeper opened.keeper ≡ []
  pub rules : KeepsRulesIn (in_one_part l)
  pub rise : IsRising rows
  pub fit : FitsTable (in_one_part l) rows
