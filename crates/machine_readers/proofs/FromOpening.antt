-- The laws, from what stands at the opening.
use Rattle.std.proofs.Common.{◌≡◌, ◌≢◌, ℕ, inr, [], sym, ap, ◌∙◌, subst}
use Rattle.index_machine.proofs.OpeningRows.{opening_form-redirect, opening_role-array}
use Rattle.index_machine.proofs.OpeningRows.{opening_role-buffer, opening_row-one}
use Rattle.index_machine.specs.Execution.{own}
use Rattle.index_machine.specs.Permissions.{MayInsertInto}
use Rattle.index_machine.specs.Rows.{InArray, InBuffer, role, role_key}
use Rattle.index_machine.specs.declared.opening.Opening.{Opening}
use Rattle.machine_barriers.proofs.OpenedGroups.{opened_groups_hold}
use Rattle.machine_places.proofs.FromOpening.{opening-live_places_stand, opening-map_agrees}
use Rattle.machine_places.proofs.FromOpening.{opening-only_live}
use Rattle.machine_readers.proofs.Buffers.{alone}
use Rattle.machine_readers.proofs.InstalledRedirects.{arrives_late, installed_redirects}
use Rattle.machine_readers.proofs.NewRedirects.{new_redirects}
use Rattle.machine_readers.proofs.Reached.{reached_keyed, reached_role}
use Rattle.machine_readers.proofs.Readers.{Starts, absent, absent_behind, behind_on, may_link_open}
use Rattle.machine_readers.proofs.Readers.{may_link_opened, none_found, value_at}
use Rattle.machine_readers.proofs.ReadSections.{place_on}
use Rattle.machine_readers.proofs.Redirects.{no_value_step, redirects_lead_to_old}
use Rattle.machine_readers.proofs.Roles.{one}
use Rattle.machine_readers.proofs.Tombstones.{removed_step}
use Rattle.machine_readers.proofs.VersionCounts.{versions_count}
use Rattle.machine_readers.proofs.Versions.{same_between}
use Rattle.machine_readers.specs.Readers.{ArrayTombstonesStay, BufferTombstonesStay}
use Rattle.machine_readers.specs.Readers.{CallersStayBehind, EqualVersionsEncloseTheValue}
use Rattle.machine_readers.specs.Readers.{GapsHaveNoRow, GroupsHaveOnePlaceEach}
use Rattle.machine_readers.specs.Readers.{InstalledRedirectsLeadBack, LateCallersAreBehind}
use Rattle.machine_readers.specs.Readers.{MayInsertBehindOpened, MayInsertWhereSeenOpen}
use Rattle.machine_readers.specs.Readers.{NewRedirectsLeadIntoTheGroup, NotFoundBehindIsAbsent}
use Rattle.machine_readers.specs.Readers.{NotFoundIsAbsent, PlacesWithoutValueStay}
use Rattle.machine_readers.specs.Readers.{PlacesStayWhereCallersStand, VersionsCountChanges}
use Rattle.machine_readers.specs.Readers.{ReachedPlacesHaveKeys, ReachedPlacesStay}
use Rattle.machine_readers.specs.Readers.{ReadValueIsInMap, RedirectsLeadToOldPlaces}
use Rattle.machine_readers.specs.Redirects.{RedirectsLeadToOld}
use Rattle.machine_readers.specs.Roles.{OnePlaceEach}

opening-redirects : (o : Opening) → RedirectsLeadToOld o []
opening-redirects o a g k q y s e = opening_form-redirect o a q y e

opening-one_place_each : (o : Opening) → OnePlaceEach o []
opening-one_place_each o = record {
  arrays = λ a b g k e f.
      let first = opening_role-array o a g k e in
      let second = opening_role-array o b g k f in
      opening_row-one o a b k first.1 second.1 first.2 second.2;
  rows = λ a b g k e f. opening_role-buffer o a g k e;
}

opening-no_row : (o : Opening) → (g k q : ℕ) → role o q [] ≢ InBuffer g k
opening-no_row o g k q e = opening_role-buffer o q g k e

starts : (o : Opening) → Starts o
starts o = record {
  opening_live = opening-only_live o;
  opening_map_agrees = opening-map_agrees o;
  opening_places = opening-live_places_stand o;
  opening_redirects = opening-redirects o;
}

pub value_read : ReadValueIsInMap
value_read o t valid p k x keyed alive = value_at o (starts o) t valid p k x keyed alive

pub versions : EqualVersionsEncloseTheValue
versions o p k v x y r u m n t valid before sm sn e f =
    same_between o p k v x y r u m n t valid before sm sn e f

pub not_found : NotFoundIsAbsent
not_found o t valid k g own un arrays buffer =
    let none = absent o (starts o) t valid k g own un arrays buffer in
    (none, none_found o (starts o) t valid k none)

pub not_found_behind : NotFoundBehindIsAbsent
not_found_behind o t valid k g f h behind un arrays buffer new =
    let none = absent_behind o (starts o) t valid k g f h behind un
    (λ a s. inr (arrays a s)) buffer new in
    (none, none_found o (starts o) t valid k none)

pub stay_behind : CallersStayBehind
stay_behind o c g f h k is apart n t valid stay s j from behind =
    behind_on o (starts o) c g f h k is apart n t valid stay s j from behind

pub late : LateCallersAreBehind
late o t valid c k g h is s was own a array = arrives_late o t valid c k g h is s was own a array

pub insert_open : MayInsertWhereSeenOpen
insert_open o c g k is n t valid stay s seen own arrays buffer =
    may_link_open o (starts o) c g k is n t valid stay s seen own arrays buffer

pub insert_behind : MayInsertBehindOpened
insert_behind o c g f h k is t valid j from behind arrays buffer new =
    may_link_opened o (starts o) c g f h k is t valid j from behind arrays buffer new

pub gaps : GapsHaveNoRow
gaps o t valid g k gap q = alone o (opening-no_row o) t valid g k gap q

pub array_tombstones : ArrayTombstonesStay
array_tombstones o t b d p g k may s e =
    removed_step o t b d p k may (ap role_key s)
    (λ h j c is z l. let bad : InArray g k ≡ InBuffer h j = sym s ∙ z in cc) e

pub buffer_tombstones : BufferTombstonesStay
buffer_tombstones o t b d p g k may none s e =
    removed_step o t b d p k may (ap role_key s)
    (λ h j c is z l.
    let two : InBuffer g k ≡ InBuffer h j = sym s ∙ z in let same : g ≡ h = cc in
    none c is (subst (λ (y : ℕ). MayInsertInto c y t) (sym same) l)) e

pub without_value : PlacesWithoutValueStay
without_value o t b d a g k valid may s e =
    no_value_step o t b d a g k may (opened_groups_hold o t valid)
    (redirects_lead_to_old o (opening-redirects o) t valid) s e

pub one_place_each : GroupsHaveOnePlaceEach
one_place_each o t valid = one o (opening-one_place_each o) t valid

pub reached_keys : ReachedPlacesHaveKeys
reached_keys o t valid c p is r = reached_keyed o (opening-redirects o) t valid c p is r

pub reached_stay : ReachedPlacesStay
reached_stay o c p is n t valid stay r =
    reached_role o (opening-redirects o) c p is n t valid stay r

pub redirects_old : RedirectsLeadToOldPlaces
redirects_old o t valid = redirects_lead_to_old o (opening-redirects o) t valid

pub redirects_new : NewRedirectsLeadIntoTheGroup
redirects_new o t valid = new_redirects o t valid

pub redirects_installed : InstalledRedirectsLeadBack
redirects_installed o t valid = installed_redirects o t valid

pub places_stay : PlacesStayWhereCallersStand
places_stay o c g k p is n t valid stay s there = place_on o c g is p k n t valid stay s there

pub versions_count_changes : VersionsCountChanges
versions_count_changes o t valid = versions_count o t valid
