-- The form of each place, and the places of a group.
use Rattle.std.specs.Prelude.{◌≡◌, ◌⊎◌, ℕ, [], ◌∷◌}
use Rattle.index_machine.specs.declared.opening.Opening.{Opening}
use Rattle.index_machine.specs.Execution.{Execution}
use Rattle.index_machine.specs.Rows.{role, InArray, InBuffer}
use Rattle.index_machine.specs.Forms.{Form, form_after}
use Rattle.index_machine.specs.Openings.{opening_form}
pub use Rattle.index_machine.specs.Openings.{first_version}

-- the form of the place after the execution
abbrev pub form : Opening → ℕ → Execution → Form
form o place [] = opening_form o place
form o place (e ∷ t) = form_after (first_version o) place e.by e.action (form o place t)

-- the place is one of the group, for the key
abbrev pub IsInGroup : Opening → Execution → ℕ → ℕ → ℕ → Type 0
IsInGroup o t group k place =
    (role o place t ≡ InArray group k) ⊎ (role o place t ≡ InBuffer group k)
