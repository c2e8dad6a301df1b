-- The laws, from what stands at the opening.
use Rattle.std.proofs.Common.{◌≡◌, ℕ, Option, Some, None, Bool, false, [], ◌∷◌, refl, sym, ap}
use Rattle.std.proofs.Common.{◌∙◌, subst, inl}
use Rattle.std.specs.Prelude.{IsSome}
use Rattle.index_machine.specs.Conditions.{Allowed, Valid}
use Rattle.index_machine.specs.Execution.{Execution, event}
use Rattle.index_machine.specs.Forms.{live_value, unless}
use Rattle.index_machine.specs.LivePlaces.{history, live_place, value_in_map}
use Rattle.index_machine.specs.Openings.{first_version, form_of_row}
use Rattle.index_machine.specs.Openings.{opening_live_place, opening_map}
use Rattle.index_machine.specs.Places.{form}
use Rattle.index_machine.specs.RecordConditions.{IsChangeTo}
use Rattle.index_machine.specs.Rows.{role, role_key, role_of_row}
use Rattle.index_machine.specs.Sections.{IsCaller}
use Rattle.index_machine.specs.Words.{shape}
use Rattle.index_machine.specs.declared.events.Action.{Action}
use Rattle.index_machine.specs.declared.events.Action.TheVariants.{LinkRow, Unlock}
use Rattle.index_machine.specs.declared.opening.Opening.{Opening}
use Rattle.index_machine.proofs.OpeningRows.{opening_live-none, opening_live-row, opening_role-keyed}
use Rattle.index_machine.proofs.OpeningRows.{opening_row-live}
use Rattle.machine_places.proofs.Agreement.{map_agrees}
use Rattle.index_machine.proofs.Options.{none_some, not_so, some_is}
use Rattle.machine_places.proofs.LivePlaces.{live_places_stand}
use Rattle.machine_places.proofs.LiveValues.{only_live}
use Rattle.machine_places.specs.Agreement.{AreByCallers, AtMostOneLivePlace, HasLiveValue}
use Rattle.machine_places.specs.Agreement.{HistoriesAreLegal, LivePlacesStand}
use Rattle.machine_places.specs.Agreement.{LivePlacesStandInTheirGroups, MapAgrees}
use Rattle.machine_places.specs.Agreement.{MapAgreesWithLivePlaces, OnlyLive}
use Rattle.map_model.specs.History.{IsLegal, MayFollow, after, caller_of}
use Rattle.map_model.specs.Map.{Map, key_of, look}
use Rattle.map_model.specs.declared.entries.Change.{Change}
use Rattle.map_model.specs.declared.entries.Change.TheVariants as change

pub opening-only_live : (o : Opening) → OnlyLive o []
opening-only_live o p k x keyed alive =
    let row = opening_role-keyed o p k keyed in opening_row-live o p k row.0 row.1

pub opening-map_agrees : (o : Opening) → MapAgrees o []
opening-map_agrees o k = go (opening_live_place o k) refl
  where
    go : (p : Option ℕ) → opening_live_place o k ≡ p → HasLiveValue o [] k p
    go None e = opening_live-none o k e
    go (Some p) e =
        let row = opening_live-row o k p e in (
          row.0,
          ap (λ (r : Option (ℕ × ℕ)). live_value (form_of_row (first_version o) r)) row.1,
          row.2,
          ap (λ (r : Option (ℕ × ℕ)). role_key (role_of_row o r)) row.1,
        )

pub opening-live_places_stand : (o : Opening) → LivePlacesStand o []
opening-live_places_stand o k p e = inl (ap (role_of_row o) (opening_live-row o k p e).1)

pub one_live_place : AtMostOneLivePlace
one_live_place o t valid = only_live o (opening-only_live o) t valid

pub agreement : MapAgreesWithLivePlaces
agreement o t valid = map_agrees o (opening-only_live o) (opening-map_agrees o) t valid

pub live_places : LivePlacesStandInTheirGroups
live_places o t valid =
    live_places_stand o (opening-only_live o) (opening-map_agrees o) (opening-live_places_stand o) t
    valid

-- a change of a hand is by this hand
by_maker : (c : ℕ) (was r : Bool) (y : ℕ) (d : Change) → IsChangeTo c was r y d → caller_of d ≡ c
by_maker c was r y (change.Put b k v) m = m.0
by_maker c was r y (change.Remove b k) m = m.0

-- a change may follow where a place of its key had a value, or where it is no remove
may_follow : (c : ℕ) (was r : Bool) (y x : ℕ) (d : Change) (m : Map) → IsChangeTo c was r y d →
    (was ≡ false → look m (key_of d) ≡ Some x) → MayFollow m d
may_follow c was r y x (change.Put b k v) m makes had = tt
may_follow c was r y x (change.Remove b k) m makes had =
    subst (λ (f : Option ℕ). IsSome f) (sym (had makes.2)) refl

value_before : (o : Opening) (t : Execution) → Valid o t → (p k x : ℕ) →
    role_key (role o p t) ≡ Some k → live_value (form o p t) ≡ Some x →
    value_in_map o k t ≡ Some x
value_before o t valid p k x keyed alive =
    go (live_place o k t) (one_live_place o t valid p k x keyed alive) (agreement o t valid k)
  where
    go : (h : Option ℕ) → h ≡ Some p → HasLiveValue o t k h → value_in_map o k t ≡ Some x
    go None e h = none_some e
    go (Some q) e h =
        h.2 ∙ (sym h.1 ∙ (ap (λ (y : ℕ). live_value (form o y t)) (some_is e) ∙ alive))

legal_step : (o : Opening) (t : Execution) (b : ℕ) (d : Action) → Valid o t → Allowed o t b d →
    IsLegal (opening_map o) (history t) × AreByCallers o (history t) →
    IsLegal (opening_map o) (history (event b d ∷ t))
    × AreByCallers o (history (event b d ∷ t))
legal_step o t b (Unlock p r d raised) valid may old =
    let m = may.1 in (
      (
        may_follow b m.was r m.value m.before d (after (opening_map o) (history t)) m.makes
            (λ fresh. value_before o t valid p (key_of d) m.before m.keyed
            (ap live_value m.holds ∙ ap (λ (y : Bool). unless y m.before) fresh)),
        old.0,
      ),
      (subst (IsCaller o) (sym (by_maker b m.was r m.value d m.makes)) may.0, old.1),
    )
legal_step o t b (LinkRow g lane q d prior next) valid may old = (
  (linked_follows b may.value d (after (opening_map o) (history t)) may.makes, old.0),
  (subst (IsCaller o) (sym (by_maker b false false may.value d may.makes)) may.caller, old.1),
)
  where
    linked_follows : (c y : ℕ) (d : Change) (m : Map) → IsChangeTo c false false y d → MayFollow m d
    linked_follows c y (change.Put b k v) m makes = tt
    linked_follows c y (change.Remove b k) m makes = not_so makes.1
legal_step o t b d valid may old = old

pub legal : HistoriesAreLegal
legal o [] valid = (tt, tt)
legal o (e ∷ t) valid = legal_step o t e.by e.action valid.1 valid.0 (legal o t valid.1)
