-- What a caller came to in its present read section: a side of a root, groups, places, and leave
-- to insert.
use Rattle.std.specs.Prelude.{◌≡◌, ℕ, zero, suc, ◌+◌, Bool, true, false, cond, ◌==◌, ◌&&◌, Option}
use Rattle.std.specs.Prelude.{Some, None}
use Rattle.word_layout.specs.declared.phase.Phase.TheVariants.{Open, Opened}
use Rattle.word_layout.specs.declared.state.State.TheVariants as state
use Rattle.word_layout.specs.Phase.{word_of_phase}
use Rattle.word_layout.specs.State.{word_of_state}
use Rattle.index_machine.specs.declared.events.Action.{Action}
use Rattle.index_machine.specs.declared.events.Action.TheVariants.{Enter, Leave, LoadState}
use Rattle.index_machine.specs.declared.events.Action.TheVariants.{LoadHead, LoadLink, LoadNext}
use Rattle.index_machine.specs.declared.events.Action.TheVariants.{LoadPhase, LoadRoot}
use Rattle.index_machine.specs.declared.events.Action.TheVariants.{LoadSlotGroup}
use Rattle.index_machine.specs.Execution.{Execution, own}
use Rattle.index_machine.specs.Groups.{IsInUse}

-- ---- the roots ----

-- the root word of a part that a hand loaded last, after an action, its own or not
abbrev pub root_seen_after : ℕ → Bool → Action → Option ℕ → Option ℕ
root_seen_after part mine (Enter n) w = cond mine None w
root_seen_after part mine (Leave n) w = cond mine None w
root_seen_after part mine (LoadRoot p found) w = cond mine (cond (p == part) (Some found) w) w
root_seen_after part mine _ w = w

-- the root word of this part that the hand loaded last, in its present read section
abbrev pub root_seen : ℕ → ℕ → Execution → Option ℕ
root_seen hand part t = own (root_seen_after part) None hand t

-- the slot is in use by the root word of its part that the hand loaded last
abbrev pub SeesSlot : ℕ → ℕ → ℕ → ℕ → Execution → Type 0
SeesSlot hand part side i t = (w : ℕ) × (root_seen hand part t ≡ Some w) × IsInUse w side i

-- ---- phases ----

-- whether a hand saw the group open, after an action, its own or not
abbrev pub saw_open_after : ℕ → Bool → Action → Bool → Bool
saw_open_after group mine (Enter n) b = cond mine false b
saw_open_after group mine (Leave n) b = cond mine false b
saw_open_after group mine (LoadPhase g found) b =
    cond mine (cond ((g == group) && (found == word_of_phase Open)) true b) b
saw_open_after group mine _ b = b

-- it saw the group open
abbrev pub saw_open : ℕ → ℕ → Execution → Bool
saw_open hand group t = own (saw_open_after group) false hand t

-- whether a hand saw a group opened to this rebuild, after an action, its own or not
abbrev pub saw_opened_after : ℕ → Bool → Action → Bool → Bool
saw_opened_after first mine (Enter n) b = cond mine false b
saw_opened_after first mine (Leave n) b = cond mine false b
saw_opened_after first mine (LoadPhase g found) b =
    cond mine (cond (found == word_of_phase (Opened first)) true b) b
saw_opened_after first mine _ b = b

-- it saw an old group opened to the rebuild with this first new group
abbrev pub saw_opened : ℕ → ℕ → Execution → Bool
saw_opened hand first t = own (saw_opened_after first) false hand t

-- ---- groups ----

-- whether a hand stands in the group, after an action, its own or not
abbrev pub stands_in_after : ℕ → Bool → Action → Bool → Bool
stands_in_after group mine (Enter n) b = cond mine false b
stands_in_after group mine (Leave n) b = cond mine false b
stands_in_after group mine (LoadSlotGroup part side i found) b =
    cond mine (cond (found == group) true b) b
stands_in_after group mine (LoadNext g found) b = cond mine (cond (found == group + 1) true b) b
stands_in_after group mine (LoadPhase g found) b =
    cond mine (cond (found == word_of_phase (Opened group)) true b) b
stands_in_after group mine _ b = b

-- it loaded the number of the group
abbrev pub stands_in : ℕ → ℕ → Execution → Bool
stands_in hand group t = own (stands_in_after group) false hand t

-- ---- places ----

-- whether a link word names the place; 0 names none
abbrev pub names_place : ℕ → ℕ → Bool
names_place zero place = false
names_place (suc n) place = suc n == place

-- whether a hand reached the place, after an action, its own or not
abbrev pub reached_after : ℕ → Bool → Action → Bool → Bool
reached_after place mine (Enter n) b = cond mine false b
reached_after place mine (Leave n) b = cond mine false b
reached_after place mine (LoadState q found) b =
    cond mine (cond (found == word_of_state (state.Redirect place)) true b) b
reached_after place mine (LoadHead g lane found) b =
    cond mine (cond (names_place found place) true b) b
reached_after place mine (LoadLink g q found) b =
    cond mine (cond (names_place found place) true b) b
reached_after place mine _ b = b

-- it loaded the number of the place, from a redirect or from a link of a buffer
abbrev pub reached : ℕ → ℕ → Execution → Bool
reached hand place t = own (reached_after place) false hand t
