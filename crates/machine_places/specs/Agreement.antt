-- What the live place of a key has, and where it stands.
use Rattle.std.specs.Prelude.{◌≡◌, ℕ, Option, Some, None, [], ◌∷◌}
use Rattle.map_model.specs.History.{History, caller_of, IsLegal}
use Rattle.index_machine.specs.Sections.{IsCaller}
use Rattle.index_machine.specs.Openings.{opening_map}
use Rattle.index_machine.specs.declared.opening.Opening.{Opening}
use Rattle.index_machine.specs.Execution.{Execution}
use Rattle.index_machine.specs.Conditions.{Valid}
use Rattle.index_machine.specs.Rows.{role_key, role}
use Rattle.index_machine.specs.Forms.{live_value}
use Rattle.index_machine.specs.Places.{form}
use Rattle.index_machine.specs.LivePlaces.{live_place, history, value_in_map, IsPlaceOf}

-- a place that is placed for a key and has a value is the key's live place
abbrev pub OnlyLive : Opening → Execution → Type 0
OnlyLive o t =
    (place k value : ℕ) → role_key (role o place t) ≡ Some k →
    live_value (form o place t) ≡ Some value → live_place o k t ≡ Some place

-- the live place of a key has the value that the key has in the map; without one the key is not in
-- the map
abbrev pub HasLiveValue : Opening → Execution → ℕ → Option ℕ → Type 0
HasLiveValue o t k None = value_in_map o k t ≡ None
HasLiveValue o t k (Some place) =
    (value : ℕ) × (live_value (form o place t) ≡ Some value)
    × (value_in_map o k t ≡ Some value) × (role_key (role o place t) ≡ Some k)

-- each key has in the map what it has at its live place
abbrev pub MapAgrees : Opening → Execution → Type 0
MapAgrees o t = (k : ℕ) → HasLiveValue o t k (live_place o k t)

-- the live place of a key is one of the key's places
abbrev pub LivePlacesStand : Opening → Execution → Type 0
LivePlacesStand o t = (k place : ℕ) → live_place o k t ≡ Some place → IsPlaceOf o t k place

-- each change is by a caller of the table
abbrev pub AreByCallers : Opening → History → Type 0
AreByCallers o [] = Unit {0}
AreByCallers o (c ∷ cs) = IsCaller o (caller_of c) × AreByCallers o cs

-- ---- the laws, over all executions ----

-- a place of a key that has a value is the live place of the key
abbrev pub AtMostOneLivePlace : Type 0
AtMostOneLivePlace = (o : Opening) (t : Execution) → Valid o t → OnlyLive o t

-- the map after the history has at each key the value at its live place
abbrev pub MapAgreesWithLivePlaces : Type 0
MapAgreesWithLivePlaces = (o : Opening) (t : Execution) → Valid o t → MapAgrees o t

-- a live place is one of the places of its key
abbrev pub LivePlacesStandInTheirGroups : Type 0
LivePlacesStandInTheirGroups = (o : Opening) (t : Execution) → Valid o t → LivePlacesStand o t

-- each remove of the history finds its key, and each change is by a caller
abbrev pub HistoriesAreLegal : Type 0
HistoriesAreLegal =
    (o : Opening) (t : Execution) → Valid o t →
    IsLegal (opening_map o) (history t) × AreByCallers o (history t)
