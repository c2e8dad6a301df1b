-- The versions of a record: each change of its key raises one by one, from the first version on.
--
-- The fact to remember: whoever finds the last version knows that the key has that many changes.
use Rattle.std.specs.Prelude.{◌≡◌, ℕ, ◌+◌, ◌≤◌, Some}
use Rattle.map_model.specs.History.{changes_at}
use Rattle.index_machine.specs.declared.opening.Opening.{Opening}
use Rattle.index_machine.specs.Execution.{Execution}
use Rattle.index_machine.specs.Rows.{role_key, role}
use Rattle.index_machine.specs.Forms.{Form, Blank, Unlocked, Locked, Copied, Redirect, Moved}
use Rattle.index_machine.specs.Forms.{last_version}
use Rattle.index_machine.specs.Places.{first_version, form}
use Rattle.index_machine.specs.LivePlaces.{history}

-- the form has this version
abbrev pub HasVersion : Form → ℕ → Type 0
HasVersion Blank n = ⊥
HasVersion (Unlocked v r x) n = v ≡ n
HasVersion (Locked c v r x y) n = v ≡ n
HasVersion (Copied v r x) n = v ≡ n
HasVersion (Redirect p y) n = ⊥
HasVersion Moved n = ⊥

-- the version of each place that has a key lies between the first one and the last one, and is
-- raised from the first one at most once for each change of the key
pub record VersionsCount (o : Opening) (t : Execution) : Type 0 where
  pub least : (place k version : ℕ) → role_key (role o place t) ≡ Some k →
      HasVersion (form o place t) version → first_version o ≤ version
  pub most : (place k version : ℕ) → role_key (role o place t) ≡ Some k →
      HasVersion (form o place t) version →
      version ≤ first_version o + changes_at k (history t)
  -- which the limits of a table keep for the first version
  pub last : first_version o ≤ last_version → (place k version : ℕ) →
      role_key (role o place t) ≡ Some k → HasVersion (form o place t) version →
      version ≤ last_version
