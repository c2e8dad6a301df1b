-- One caller of an index, as contracts see it: what it knows, and what its calls came to.
use Rattle.std.specs.Prelude.{◌≡◌, ℕ}
use Rattle.map_model.specs.History.{History, IsLegal}
use Rattle.map_model.specs.Logs.{Log, IsLogOf}
use Rattle.index_machine.specs.declared.opening.Opening.{Opening}
use Rattle.index_machine.specs.Execution.{Continues, Execution}
use Rattle.index_machine.specs.LivePlaces.{history}
use Rattle.index_machine.specs.Openings.{opening_map}
use Rattle.machine_places.specs.Agreement.{AreByCallers}

-- which caller it is, of an index that was opened so, the beginning of the execution that it knows, and the
-- entries of its answered calls
pub record Caller : Type 0 where
  pub opening : Opening
  pub number : ℕ
  pub known : Execution
  pub log : Log

-- the changes that the caller has seen
abbrev pub seen_by : Caller → History
seen_by c = history c.known

-- the changes that the caller has seen are a legal history of the index's callers, in which its log
-- is true, in order, and has just the changes that are its own
pub record IsTruthful (c : Caller) : Type 0 where
  pub logged : IsLogOf (opening_map c.opening) c.number (seen_by c) c.log
  pub legal : IsLegal (opening_map c.opening) (seen_by c)
  pub by_callers : AreByCallers c.opening (seen_by c)

-- the same caller later on: what it knows goes on, and is truthful then
pub record IsLater (old new : Caller) : Type 0 where
  pub opening : new.opening ≡ old.opening
  pub number : new.number ≡ old.number
  pub goes_on : Continues old.known new.known
  pub truthful : IsTruthful new
