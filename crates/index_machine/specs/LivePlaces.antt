-- Where the value of a key is. A caller's change moves it, and the copying of its record to a new
-- group; nothing else does.
use Rattle.std.specs.Prelude.{◌≡◌, ◌⊎◌, ℕ, cond, ◌==◌, Option, Some, None, [], ◌∷◌}
use Rattle.map_model.specs.Map.{look, key_of}
use Rattle.map_model.specs.History.{History, after}
use Rattle.index_machine.specs.declared.events.Action.{Action}
use Rattle.index_machine.specs.declared.events.Action.TheVariants.{Unlock, LinkRow, StoreDirect}
use Rattle.index_machine.specs.declared.opening.Opening.{Opening}
use Rattle.index_machine.specs.Execution.{Execution}
use Rattle.index_machine.specs.Openings.{opening_map, opening_live_place}
use Rattle.index_machine.specs.Rows.{InArray, InBuffer, role}
use Rattle.index_machine.specs.Forms.{Redirect}
use Rattle.index_machine.specs.Places.{form}
use Rattle.index_machine.specs.KeyRanges.{group_of}
use Rattle.index_machine.specs.Permissions.{IsBufferFor}

-- the live place of a key after an action, where it was this before
abbrev pub live_place_after : ℕ → Action → Option ℕ → Option ℕ
live_place_after k (Unlock q r d w) p = cond (key_of d == k) (cond r None (Some q)) p
live_place_after k (LinkRow group lane q d before next) p = cond (key_of d == k) (Some q) p
live_place_after k (StoreDirect q from j r w) p = cond (j == k) (cond r p (Some q)) p
live_place_after k _ p = p

-- the place where the value of a key is, or none
abbrev pub live_place : Opening → ℕ → Execution → Option ℕ
live_place o k [] = opening_live_place o k
live_place o k (e ∷ t) = live_place_after k e.action (live_place o k t)

-- the history after an action, where it was this before
abbrev pub history_after : Action → History → History
history_after (Unlock q r d w) h = d ∷ h
history_after (LinkRow group lane q d before next) h = d ∷ h
history_after _ h = h

-- the changes of an execution
abbrev pub history : Execution → History
history [] = []
history (e ∷ t) = history_after e.action (history t)

-- the value of a key in the map after the history, or none
abbrev pub value_in_map : Opening → ℕ → Execution → Option ℕ
value_in_map o k t = look (after (opening_map o) (history t)) k

-- the place is one of the key's: in the array of its group, behind the redirect there, or a row of
-- a buffer for the key
abbrev pub IsPlaceOf : Opening → Execution → ℕ → ℕ → Type 0
IsPlaceOf o t k place =
    (role o place t ≡ InArray (group_of o k t) k)
    ⊎ (((new : ℕ) × (value : ℕ) × (role o new t ≡ InArray (group_of o k t) k)
    × (form o new t ≡ Redirect place value))
    ⊎ ((group : ℕ) × (role o place t ≡ InBuffer group k) × IsBufferFor o k group t))
