-- An index over which a session was served by its pass 0.
use Rattle.std.specs.Prelude.{◌≡◌, ℕ, ◌+◌, List, [], ◌∷◌, length}
use Rattle.map_model.specs.Logs.{Log, changes_of}
use Rattle.word_layout.specs.declared.limits.Limits.{Limits}
use Rattle.index_machine.specs.Execution.{Execution, Without}
use Rattle.index_machine.specs.LivePlaces.{history}
use Rattle.index_machine.specs.Openings.{opening_map}
use Rattle.xindex_core.specs.declared.index.Index.{Index}
use Rattle.xindex_core.specs.declared.index.Opened.{Opened}
use Rattle.xindex_core.specs.declared.pass.Pass.{Pass}
use Rattle.xindex_core.specs.Passes.{IsKeeperOf, IsPassOf, bounds_of_index, known_to, limits_of_index}
use Rattle.xindex_core.specs.Passes.{log_of, number_of, opening_with}

-- the log of the first pass
abbrev pub log_of_first : List Pass → Log
log_of_first [] = []
log_of_first (p ∷ ps) = log_of p

-- what the first pass knows
abbrev pub known_to_first : List Pass → Execution
known_to_first [] = []
known_to_first (p ∷ ps) = known_to p

-- the log of pass 0
abbrev pub first_log : Opened → Log
first_log opened = log_of_first opened.passes.items

-- a pass of the index that made no step, and knows this
pub record IsTold (i : Index) (seen : Execution) (number : ℕ) (p : Pass) : Type 0 where
  pub of : IsPassOf i p
  pub numbered : number_of p ≡ number
  pub known : known_to p ≡ seen
  pub idle : Without number seen
  pub none : log_of p ≡ []

-- so are they all, with rising numbers from this one on
abbrev pub AreTold : Index → Execution → ℕ → List Pass → Type 0
AreTold i seen number [] = Unit {0}
AreTold i seen number (p ∷ ps) = IsTold i seen number p × AreTold i seen (number + 1) ps

-- pass 0 stands before passes that made no step, and know what it knows
abbrev pub HasServed : Index → List Pass → Type 0
HasServed i [] = ⊥
HasServed i (p ∷ ps) =
    IsPassOf i p × (number_of p ≡ 0) × AreTold i (known_to p) 1 ps

-- an index that was opened empty with these limits and one part, whose callers but caller 0 made no step: the log
-- of pass 0 has all its changes
pub record IsServed (l : Limits) (opened : Opened) : Type 0 where
  pub limits : limits_of_index opened.index ≡ l
  pub parts : bounds_of_index opened.index ≡ []
  pub empty : opening_map (opening_with opened.index) ≡ []
  pub many : length opened.passes.items ≡ l.callers
  pub passes : HasServed opened.index opened.passes.items
  pub changes : changes_of (first_log opened) ≡ history (known_to_first opened.passes.items)
  pub keeper : IsKeeperOf opened.index opened.keeper
