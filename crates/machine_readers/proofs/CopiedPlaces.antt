-- A record that was copied away is of a group that the key left, and a place of a key is never
-- blank.
use Rattle.std.proofs.Common.{◌≡◌, ◌≢◌, ℕ, ◌⊎◌, ⊎_elim, Option, Some, Bool, true}
use Rattle.std.proofs.Common.{false, [], ◌∷◌, cond, refl, sym, ap, ◌∙◌, subst}
use Rattle.index_machine.specs.Conditions.{Allowed, Valid}
use Rattle.index_machine.specs.Execution.{Execution, event}
use Rattle.index_machine.specs.Groups.{phase}
use Rattle.index_machine.specs.KeyRanges.{group_of, or_else, predecessor, successor}
use Rattle.index_machine.specs.Openings.{within}
use Rattle.index_machine.specs.Permissions.{IsReplaced}
use Rattle.index_machine.proofs.OpeningRows.{opening_form-keyed, opening_role-buffer}
use Rattle.index_machine.specs.Places.{IsInGroup, form}
use Rattle.index_machine.specs.Rows.{InArray, InBuffer, role, role_key}
use Rattle.index_machine.specs.declared.events.Action.{Action}
use Rattle.index_machine.specs.declared.events.Action.TheVariants.{Install, NewGroup, StoreDirect}
use Rattle.index_machine.specs.declared.events.Action.TheVariants.{StoreRedirect}
use Rattle.index_machine.specs.declared.events.InstallWord.{InstallWord}
use Rattle.index_machine.specs.declared.opening.Opening.{Opening}
use Rattle.machine_barriers.proofs.OpenedGroups.{opened_groups_hold}
use Rattle.machine_barriers.proofs.Reaches.{may_as}
use Rattle.machine_barriers.specs.Barriers.{OpenedGroupsHold}
use Rattle.index_machine.proofs.Options.{some_is}
use Rattle.machine_readers.proofs.AwaitedGroups.{NewGroupsAwait, PlacesBelong, in_group_back}
use Rattle.machine_readers.proofs.AwaitedGroups.{new_groups_await, places_belong, successor_back}
use Rattle.machine_readers.proofs.FormKinds.{Away, CopiesFrom, Direct, Empty, Forward, Kind}
use Rattle.machine_readers.proofs.FormKinds.{MakesDirect, kind, kind_step, linked_kind}
use Rattle.machine_readers.proofs.InstalledRedirects.{remembered_back, replaced_step}
use Rattle.machine_readers.proofs.NewRedirects.{in_group_keyed}
use Rattle.machine_readers.proofs.Roles.{IsLinkOf, row_back}
use Rattle.word_layout.specs.declared.phase.Phase.TheVariants.{Opened}

-- ---- small facts ----

direct_away : {X : Type 0} {x : Kind} → x ≡ Direct → x ≡ Away → X
direct_away e f = let bad : Direct ≡ Away = sym e ∙ f in cc

forward_away : {X : Type 0} {x : Kind} → x ≡ Forward → x ≡ Away → X
forward_away e f = let bad : Forward ≡ Away = sym e ∙ f in cc

direct_empty : {X : Type 0} {x : Kind} → x ≡ Direct → x ≡ Empty → X
direct_empty e f = let bad : Direct ≡ Empty = sym e ∙ f in cc

forward_empty : {X : Type 0} {x : Kind} → x ≡ Forward → x ≡ Empty → X
forward_empty e f = let bad : Forward ≡ Empty = sym e ∙ f in cc

away_empty : {X : Type 0} {x : Kind} → x ≡ Away → x ≡ Empty → X
away_empty e f = let bad : Away ≡ Empty = sym e ∙ f in cc

-- a place is of one group
pub one_group : (o : Opening) (t : Execution) (g h k j p : ℕ) → IsInGroup o t g k p →
    IsInGroup o t h j p → g ≡ h
one_group o t g h k j p u v = ⊎_elim
    (λ (x : role o p t ≡ InArray g k). ⊎_elim
    (λ (y : role o p t ≡ InArray h j). let two : InArray g k ≡ InArray h j = sym x ∙ y in cc)
    (λ (y : role o p t ≡ InBuffer h j). let two : InArray g k ≡ InBuffer h j = sym x ∙ y in cc) v)
    (λ (x : role o p t ≡ InBuffer g k). ⊎_elim
    (λ (y : role o p t ≡ InArray h j). let two : InBuffer g k ≡ InArray h j = sym x ∙ y in cc)
    (λ (y : role o p t ≡ InBuffer h j). let two : InBuffer g k ≡ InBuffer h j = sym x ∙ y in cc)
    v) u

-- ---- places with records ----

-- a place of a group is not blank
abbrev pub PlacesAreFilled : Opening → Execution → Type 0
PlacesAreFilled o t = (g k p : ℕ) → IsInGroup o t g k p → kind (form o p t) ≢ Empty

filled_step : (o : Opening) (t : Execution) (b : ℕ) (d : Action) → Allowed o t b d →
    PlacesAreFilled o t → PlacesAreFilled o (event b d ∷ t)
filled_step o t b d may old g k p s e = ⊎_elim
    (λ (z : IsInGroup o t g k p). ⊎_elim
    (λ (w : kind (form o p (event b d ∷ t)) ≡ kind (form o p t)). old g k p z (sym w ∙ e))
    (λ (y : (MakesDirect p d × (kind (form o p (event b d ∷ t)) ≡ Direct))
    ⊎ (CopiesFrom p d × (kind (form o p (event b d ∷ t)) ≡ Away))). ⊎_elim
    (λ (w : MakesDirect p d × (kind (form o p (event b d ∷ t)) ≡ Direct)). direct_empty w.1 e)
    (λ (w : CopiesFrom p d × (kind (form o p (event b d ∷ t)) ≡ Away)). away_empty w.1 e) y)
    (kind_step o t b d p k may (in_group_keyed o t g k p z)))
    (λ (y : (IsLinkOf g p k d × (kind (form o p (event b d ∷ t)) ≡ Direct))
    ⊎ ((to : ℕ) × (d ≡ StoreRedirect g p k to)
    × (kind (form o p (event b d ∷ t)) ≡ Forward))). ⊎_elim
    (λ (z : IsLinkOf g p k d × (kind (form o p (event b d ∷ t)) ≡ Direct)). direct_empty z.1 e)
    (λ (z : (to : ℕ) × (d ≡ StoreRedirect g p k to)
    × (kind (form o p (event b d ∷ t)) ≡ Forward)). forward_empty z.2 e) y)
    (in_group_back o t b d g k p s)

pub places_are_filled : (o : Opening) (t : Execution) → Valid o t → PlacesAreFilled o t
places_are_filled o [] valid = λ g k p s e.
    let first = opening_form-keyed o p k (in_group_keyed o [] g k p s) in
    direct_empty (ap kind first.1) e
places_are_filled o (e ∷ t) valid =
    filled_step o t e.by e.action valid.0 (places_are_filled o t valid.1)

-- ---- rows forward to nothing ----

abbrev pub RowsForwardNowhere : Opening → Execution → Type 0
RowsForwardNowhere o t = (g k p : ℕ) → role o p t ≡ InBuffer g k → kind (form o p t) ≢ Forward

rows_step : (o : Opening) (t : Execution) (b : ℕ) (d : Action) → Allowed o t b d →
    RowsForwardNowhere o t → RowsForwardNowhere o (event b d ∷ t)
rows_step o t b d may old g k p s e = ⊎_elim
    (λ (z : role o p t ≡ InBuffer g k). ⊎_elim
    (λ (w : kind (form o p (event b d ∷ t)) ≡ kind (form o p t)). old g k p z (sym w ∙ e))
    (λ (y : (MakesDirect p d × (kind (form o p (event b d ∷ t)) ≡ Direct))
    ⊎ (CopiesFrom p d × (kind (form o p (event b d ∷ t)) ≡ Away))). ⊎_elim
    (λ (w : MakesDirect p d × (kind (form o p (event b d ∷ t)) ≡ Direct)). apart_direct w.1)
    (λ (w : CopiesFrom p d × (kind (form o p (event b d ∷ t)) ≡ Away)). forward_away e w.1) y)
    (kind_step o t b d p k may (ap role_key z)))
    (λ (z : IsLinkOf g p k d).
    apart_direct (linked_kind o t b d g z.lane p z.change z.before z.next z.is))
    (row_back o t b d p g k s)
  where
    apart_direct : kind (form o p (event b d ∷ t)) ≡ Direct → ⊥
    apart_direct w = let bad : Direct ≡ Forward = sym w ∙ e in cc

pub rows_forward_nowhere : (o : Opening) (t : Execution) → Valid o t → RowsForwardNowhere o t
rows_forward_nowhere o [] valid = λ g k p s e. opening_role-buffer o p g k s
rows_forward_nowhere o (e ∷ t) valid =
    rows_step o t e.by e.action valid.0 (rows_forward_nowhere o t valid.1)

-- ---- records that were copied away ----

-- the key left the group for good, and its group before is replaced
abbrev pub HasLeftGroup : Opening → Execution → ℕ → ℕ → Type 0
HasLeftGroup o t k g =
    (group_of o k t ≢ g) × (successor k t ≢ Some g)
    × (predecessor o k t ≡ Some g → IsReplaced o g t)

-- what was copied away is of a group that the key left
abbrev pub CopiedKeysHaveLeft : Opening → Execution → Type 0
CopiedKeysHaveLeft o t =
    (g k p : ℕ) → IsInGroup o t g k p → kind (form o p t) ≡ Away → HasLeftGroup o t k g

-- as a record is copied
leaves : (o : Opening) (t : Execution) (b : ℕ) (d : Action) (g k p : ℕ) → Allowed o t b d →
    NewGroupsAwait o t → PlacesBelong o t → IsInGroup o t g k p → CopiesFrom p d →
    HasLeftGroup o t k g
leaves o t b d g k p may await belong s c =
    let m = may_as o t b d (StoreDirect c.0 p c.1 c.2 c.3) c.4 may in
    let same : m.old.0 ≡ g = one_group o t m.old.0 g c.1 k p m.old.1 s in
    let replaced : IsReplaced o g t = subst (λ (i : ℕ). IsReplaced o i t) same m.old.3 in
    let out : group_of o k t ≢ g = λ z. m.old.2.unowned k (z ∙ sym same) in (
      out,
      λ z. ⊎_elim (λ (w : group_of o k t ≡ g). out w)
          (λ (w : (f : ℕ) × (phase (group_of o k t) t ≡ Opened f) × (successor k t ≡ Some g)).
          let n = await k w.0 w.1 in
          let new : n.0 ≡ g = some_is (sym n.1 ∙ z) in
          n.3 replaced.0 (ap (λ (i : ℕ). phase i t) new ∙ replaced.1))
          (belong g k p s z),
      λ z. replaced,
    )

has_left_install : (o : Opening) (t : Execution) (b : ℕ) (spot : InstallWord)
    (lead low high g k : ℕ) → Allowed o t b (Install spot lead low high) →
    OpenedGroupsHold o t → HasLeftGroup o t k g →
    HasLeftGroup o (event b (Install spot lead low high) ∷ t) k g
has_left_install o t b spot lead low high g k may quiet s = go (within low k high) refl
  where
    T : Execution
    T = event b (Install spot lead low high) ∷ t

    go : (w : Bool) → within low k high ≡ w → HasLeftGroup o T k g
    go false z = (
      λ e. s.0 (sym (ap (λ (i : Bool). cond i (or_else (successor k t) (group_of o k t))
          (group_of o k t)) z) ∙ e),
      s.1,
      λ e. replaced_step o t b (Install spot lead low high) g may quiet
          (s.2 (sym (ap (λ (i : Bool). cond i (Some (group_of o k t)) (predecessor o k t)) z)
          ∙ e)) (λ x. let bad = x.4 in cc),
    )
    go true z = let m = may.opened k z in
        let now : group_of o k T ≡ m.1 =
        ap (λ (i : Bool). cond i (or_else (successor k t) (group_of o k t)) (group_of o k t)) z
        ∙ ap (λ (i : Option ℕ). or_else i (group_of o k t)) m.3 in (
          λ e. s.1 (m.3 ∙ ap (λ (i : ℕ). Some i) (sym now ∙ e)),
          s.1,
          λ e. absurd (s.0 (some_is (sym (ap (λ (i : Bool).
              cond i (Some (group_of o k t)) (predecessor o k t)) z) ∙ e))),
        )

has_left_step : (o : Opening) (t : Execution) (b : ℕ) (d : Action) (g k p : ℕ) →
    Allowed o t b d → OpenedGroupsHold o t → IsInGroup o (event b d ∷ t) g k p →
    HasLeftGroup o t k g → HasLeftGroup o (event b d ∷ t) k g
has_left_step o t b (Install spot lead low high) g k p may quiet here s =
    has_left_install o t b spot lead low high g k may quiet s
has_left_step o t b (NewGroup n low high f) g k p may quiet here s = (
  s.0,
  λ e. s.1 (successor_back o t b (NewGroup n low high f) g k p may here e),
  λ e.
      let w = remembered_back t b n low high f g (predecessor o k t) e in
      let r = s.2 w.0 in
      replaced_step o t b (NewGroup n low high f) g may quiet r (w.1 r.0 r.1),
)
has_left_step o t b d g k p may quiet here s = (
  s.0,
  s.1,
  λ e. replaced_step o t b d g may quiet (s.2 e) (λ x. let bad = x.4 in cc),
)

left_step : (o : Opening) (t : Execution) (b : ℕ) (d : Action) → Allowed o t b d →
    OpenedGroupsHold o t → NewGroupsAwait o t → PlacesBelong o t → CopiedKeysHaveLeft o t →
    CopiedKeysHaveLeft o (event b d ∷ t)
left_step o t b d may quiet await belong old g k p s e = ⊎_elim
    (λ (z : IsInGroup o t g k p). ⊎_elim
    (λ (w : kind (form o p (event b d ∷ t)) ≡ kind (form o p t)).
    has_left_step o t b d g k p may quiet s (old g k p z (sym w ∙ e)))
    (λ (y : (MakesDirect p d × (kind (form o p (event b d ∷ t)) ≡ Direct))
    ⊎ (CopiesFrom p d × (kind (form o p (event b d ∷ t)) ≡ Away))). ⊎_elim
    (λ (w : MakesDirect p d × (kind (form o p (event b d ∷ t)) ≡ Direct)). direct_away w.1 e)
    (λ (w : CopiesFrom p d × (kind (form o p (event b d ∷ t)) ≡ Away)).
    has_left_step o t b d g k p may quiet s (leaves o t b d g k p may await belong z w.0)) y)
    (kind_step o t b d p k may (in_group_keyed o t g k p z)))
    (λ (y : (IsLinkOf g p k d × (kind (form o p (event b d ∷ t)) ≡ Direct))
    ⊎ ((to : ℕ) × (d ≡ StoreRedirect g p k to)
    × (kind (form o p (event b d ∷ t)) ≡ Forward))). ⊎_elim
    (λ (z : IsLinkOf g p k d × (kind (form o p (event b d ∷ t)) ≡ Direct)). direct_away z.1 e)
    (λ (z : (to : ℕ) × (d ≡ StoreRedirect g p k to)
    × (kind (form o p (event b d ∷ t)) ≡ Forward)). forward_away z.2 e) y)
    (in_group_back o t b d g k p s)

pub copied_keys_have_left : (o : Opening) (t : Execution) → Valid o t → CopiedKeysHaveLeft o t
copied_keys_have_left o [] valid = λ g k p s e.
    let first = opening_form-keyed o p k (in_group_keyed o [] g k p s) in
    direct_away (ap kind first.1) e
copied_keys_have_left o (e ∷ t) valid =
    left_step o t e.by e.action valid.0 (opened_groups_hold o t valid.1)
    (new_groups_await o t valid.1) (places_belong o t valid.1)
    (copied_keys_have_left o t valid.1)
