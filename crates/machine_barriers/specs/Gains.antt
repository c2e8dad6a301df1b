-- What a hand comes to by one action of its own.
use Rattle.std.specs.Prelude.{◌≡◌, ◌≢◌, ◌⊎◌, ℕ, ◌+◌, ◌∷◌}
use Rattle.word_layout.specs.declared.phase.Phase.TheVariants.{Open, Opened}
use Rattle.word_layout.specs.declared.state.State.TheVariants as state
use Rattle.word_layout.specs.Phase.{word_of_phase}
use Rattle.word_layout.specs.State.{word_of_state}
use Rattle.index_machine.specs.declared.events.Action.{Action}
use Rattle.index_machine.specs.declared.events.Action.TheVariants.{LoadState, LoadHead, LoadLink}
use Rattle.index_machine.specs.declared.events.Action.TheVariants.{LoadNext, LoadPhase, LoadRoot}
use Rattle.index_machine.specs.declared.events.Action.TheVariants.{LoadSlotGroup}
use Rattle.index_machine.specs.Execution.{Execution, event}
use Rattle.index_machine.specs.Sections.{crossings}

-- what the hand has after an action it had before, in the same read section, or the action is its
-- own and gives it
abbrev pub Gain : (Execution → Type 0) → (Action → Type 0) → ℕ → ℕ → Action → Execution → Type 0
Gain Has Gives hand by action t =
    (crossings hand (event by action ∷ t) ≡ crossings hand t)
    × (Has t ⊎ ((by ≡ hand) × Gives action))

-- the action sees the group open
abbrev pub SeesOpen : ℕ → Action → Type 0
SeesOpen group action = action ≡ LoadPhase group (word_of_phase Open)

-- the action sees a group opened to this rebuild
abbrev pub SeesOpened : ℕ → Action → Type 0
SeesOpened first action = (old : ℕ) × (action ≡ LoadPhase old (word_of_phase (Opened first)))

-- the action loads the number of the group
abbrev pub LoadsGroup : ℕ → Action → Type 0
LoadsGroup group action =
    ((part : ℕ) × (side : ℕ) × (i : ℕ) × (action ≡ LoadSlotGroup part side i group))
    ⊎ (((left : ℕ) × (action ≡ LoadNext left (group + 1)))
    ⊎ ((old : ℕ) × (action ≡ LoadPhase old (word_of_phase (Opened group)))))

-- the action loads the number of the place, from a redirect or from a link
abbrev pub LoadsPlace : ℕ → Action → Type 0
LoadsPlace place action =
    ((from : ℕ) × (action ≡ LoadState from (word_of_state (state.Redirect place))))
    ⊎ (((group : ℕ) × (lane : ℕ) × (action ≡ LoadHead group lane place) × (place ≢ 0))
    ⊎ ((group : ℕ) × (row : ℕ) × (action ≡ LoadLink group row place) × (place ≢ 0)))

-- the action loads this root word of the part
abbrev pub LoadsRoot : ℕ → ℕ → Action → Type 0
LoadsRoot part found action = action ≡ LoadRoot part found
