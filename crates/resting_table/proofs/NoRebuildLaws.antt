-- Arrays and groups are those of the opening, as long as nothing is rebuilt.
use Rattle.std.proofs.Common.{◌≡◌, ◌≢◌, ℕ, Bool, true, false, cond, ◌==◌, Some, None, [], ◌∷◌}
use Rattle.std.proofs.Common.{⊎_elim, Option, refl, sym, ap, ◌∙◌}
use mathlib.Core.Logic.{dite}
use native.Mathlib.Decide.{ℕ_discrete}
use Rattle.index_machine.specs.declared.events.Action.{Action}
use Rattle.index_machine.specs.declared.events.Action.TheVariants.{PopFree, PushFree, Lock}
use Rattle.index_machine.specs.declared.events.Action.TheVariants.{StoreValue, Unlock, LinkRow}
use Rattle.index_machine.specs.declared.events.Action.TheVariants.{Retire, StoreRedirect, NewGroup}
use Rattle.index_machine.specs.declared.events.Action.TheVariants.{Close, Copy, StoreDirect}
use Rattle.index_machine.specs.declared.events.Action.TheVariants.{StoreMoved, Install}
use Rattle.index_machine.specs.declared.opening.Opening.{Opening}
use Rattle.index_machine.specs.Execution.{Execution, event}
use Rattle.index_machine.specs.Forms.{Form, Blank, Unlocked, Locked, Copied, Redirect, Moved}
use Rattle.index_machine.specs.Forms.{with_lock, with_value, without_lock, form_after}
use Rattle.index_machine.specs.Places.{form}
use Rattle.index_machine.specs.OpeningRows.{opening_row}
use Rattle.index_machine.specs.Openings.{first_version, form_of_row}
use Rattle.index_machine.specs.Rows.{Unused, HeldBy, InArray, InBuffer, role}
use Rattle.index_machine.proofs.OpeningRows.{opening_role-array, opening_role-buffer, opening_row-one}
use Rattle.index_machine.specs.Conditions.{Allowed}
use Rattle.index_machine.proofs.Executions.{choice-same, choice-other}
use Rattle.resting_table.specs.NoRebuild.{HasNoRebuild, IsNoRebuild}
use Rattle.resting_table.specs.NoRebuildLaws.{IsInPlace, NoPlaceForwards, ArraysAreAsOpened}
use Rattle.resting_table.specs.NoRebuildLaws.{GroupsAreAsOpened, KeysHaveOnePlaceEach}
use Rattle.resting_table.specs.NoRebuildLaws.{RowsAreInTheirGroup}
use Rattle.index_machine.specs.Groups.{phase, phase_after}
use Rattle.index_machine.specs.KeyRanges.{group_after, group_of, successor, successor_after}
use Rattle.index_machine.specs.Openings.{opening_group}
use Rattle.index_machine.specs.Permissions.{IsBufferFor}
use Rattle.index_machine.specs.Forms.{put_value}
use Rattle.index_machine.specs.declared.events.Action.TheVariants.{Freeze, Thaw, StoreOpened}
use Rattle.machine_barriers.proofs.Reaches.{may_as}
use Rattle.machine_readers.proofs.FromOpening.{one_place_each as one_place_each_group}
use Rattle.machine_readers.proofs.Roles.{IsLinkOf, row_back}
use Rattle.map_model.specs.Map.{key_of}
use Rattle.word_layout.specs.declared.phase.Phase.{Phase}
use Rattle.word_layout.specs.declared.phase.Phase.TheVariants.{Open, Opened}
use Rattle.std.proofs.Common.{subst}

-- ---- forms ----

chosen : (b : Bool) (f g : Form) → IsInPlace f → IsInPlace g → IsInPlace (cond b f g)
chosen true f g here else = here
chosen false f g here else = else

locked : (hand : ℕ) (f : Form) → IsInPlace f → IsInPlace (with_lock hand f)
locked hand Blank is = tt
locked hand (Unlocked v r x) is = tt
locked hand (Locked c v r x y) is = tt
locked hand (Copied v r x) is = absurd is
locked hand (Redirect p y) is = absurd is
locked hand Moved is = absurd is

valued : (n : ℕ) (f : Form) → IsInPlace f → IsInPlace (with_value n f)
valued n Blank is = tt
valued n (Unlocked v r x) is = tt
valued n (Locked c v r x y) is = tt
valued n (Copied v r x) is = absurd is
valued n (Redirect p y) is = absurd is
valued n Moved is = absurd is

unlocked : (r : Bool) (f : Form) → IsInPlace f → IsInPlace (without_lock r f)
unlocked r Blank is = tt
unlocked r (Unlocked v s x) is = tt
unlocked r (Locked c v s x y) is = tt
unlocked r (Copied v s x) is = absurd is
unlocked r (Redirect p y) is = absurd is
unlocked r Moved is = absurd is

form_step : (first place hand : ℕ) (d : Action) (f : Form) → IsNoRebuild d → IsInPlace f →
    IsInPlace (form_after first place hand d f)
form_step first place hand (Lock q x) f none_rebuilt is =
    chosen (q == place) (with_lock hand f) f (locked hand f is) is
form_step first place hand (StoreValue q y) f none_rebuilt is =
    chosen (q == place) (with_value y f) f (valued y f is) is
form_step first place hand (Unlock q r d w) f none_rebuilt is =
    chosen (q == place) (without_lock r f) f (unlocked r f is) is
form_step first place hand (LinkRow g lane q d before next) f none_rebuilt is =
    chosen (q == place) (Unlocked first false (put_value d)) f tt is
form_step first place hand (StoreRedirect g q k to) f none_rebuilt is = absurd none_rebuilt
form_step first place hand (Close q x) f none_rebuilt is = absurd none_rebuilt
form_step first place hand (Copy q y) f none_rebuilt is = absurd none_rebuilt
form_step first place hand (StoreDirect q from k r w) f none_rebuilt is = absurd none_rebuilt
form_step first place hand (StoreMoved q) f none_rebuilt is = absurd none_rebuilt
form_step first place hand d f none_rebuilt is = is

opened : (first : ℕ) (row : Option (ℕ × ℕ)) → IsInPlace (form_of_row first row)
opened first None = tt
opened first (Some row) = tt

pub in_place : NoPlaceForwards
in_place o [] none_rebuilt place = opened (first_version o) (opening_row o place)
in_place o (e ∷ t) none_rebuilt place =
    form_step _ place e.by e.action (form o place t) none_rebuilt.0 (in_place o t none_rebuilt.1 place)

-- ---- roles ----

array_step : (o : Opening) (t : Execution) (by : ℕ) (d : Action) (g k place : ℕ) →
    Allowed o t by d → IsNoRebuild d →
    (role o place t ≡ InArray g k → role o place (event by d ∷ t) ≡ InArray g k)
    × (role o place (event by d ∷ t) ≡ InArray g k → role o place t ≡ InArray g k)
array_step o t by (PopFree popped next) g k place may none_rebuilt =
    dite (ℕ_discrete popped place)
    (λ (here : popped ≡ place). (
      (λ is. absurd
          (let bad : Unused ≡ InArray g k =
          sym may.2.unused ∙ (ap (λ (z : ℕ). role o z t) here ∙ is)
          in cc)),
      λ is. absurd
          (let bad : HeldBy by ≡ InArray g k =
          sym (choice-same popped place (HeldBy by) (role o place t) here) ∙ is
          in cc),
    ))
    (λ (else : popped ≢ place). (
      (λ is. choice-other popped place (HeldBy by) (role o place t) else ∙ is),
      λ is. sym (choice-other popped place (HeldBy by) (role o place t) else) ∙ is,
    ))
array_step o t by (PushFree pushed head) g k place may none_rebuilt =
    dite (ℕ_discrete pushed place)
    (λ (here : pushed ≡ place). (
      (λ is. absurd
          (let bad : HeldBy by ≡ InArray g k =
          sym may.held ∙ (ap (λ (z : ℕ). role o z t) here ∙ is)
          in cc)),
      λ is. absurd
          (let bad : Unused ≡ InArray g k =
          sym (choice-same pushed place Unused (role o place t) here) ∙ is
          in cc),
    ))
    (λ (else : pushed ≢ place). (
      (λ is. choice-other pushed place Unused (role o place t) else ∙ is),
      λ is. sym (choice-other pushed place Unused (role o place t) else) ∙ is,
    ))
array_step o t by (LinkRow group lane q d before next) g k place may none_rebuilt =
    dite (ℕ_discrete q place)
    (λ (here : q ≡ place). (
      (λ is. absurd
          (let bad : HeldBy by ≡ InArray g k =
          sym may.mine ∙ (ap (λ (z : ℕ). role o z t) here ∙ is)
          in cc)),
      λ is. absurd
          (let bad : InBuffer group (key_of d) ≡ InArray g k =
          sym (choice-same q place (InBuffer group (key_of d)) (role o place t) here) ∙ is
          in cc),
    ))
    (λ (else : q ≢ place). (
      (λ is. choice-other q place (InBuffer group (key_of d)) (role o place t) else ∙ is),
      λ is. sym (choice-other q place (InBuffer group (key_of d)) (role o place t) else) ∙ is,
    ))
array_step o t by (Retire q next) g k place may none_rebuilt = absurd none_rebuilt
array_step o t by (StoreRedirect group q j to) g k place may none_rebuilt = absurd none_rebuilt
array_step o t by (NewGroup group low high first) g k place may none_rebuilt = absurd none_rebuilt
array_step o t by d g k place may none_rebuilt = ((λ is. is), λ is. is)

pub arrays_as_opened : ArraysAreAsOpened
arrays_as_opened o [] valid none_rebuilt g k place = ((λ is. is), λ is. is)
arrays_as_opened o (e ∷ t) valid none_rebuilt g k place =
    let before = arrays_as_opened o t valid.1 none_rebuilt.1 g k place in
    let step = array_step o t e.by e.action g k place valid.0 none_rebuilt.0 in
    ((λ is. step.0 (before.0 is)), λ is. before.1 (step.1 is))

-- ---- groups ----

group_step : (o : Opening) (k : ℕ) (new : Option ℕ) (d : Action) (g : ℕ) → IsNoRebuild d →
    group_after k new d g ≡ g
group_step o k new (Install spot lead low high) g none_rebuilt = absurd none_rebuilt
group_step o k new d g none_rebuilt = refl

successor_step : (k : ℕ) (d : Action) (s : Option ℕ) → IsNoRebuild d → successor_after k d s ≡ s
successor_step k (NewGroup group low high first) s none_rebuilt = absurd none_rebuilt
successor_step k d s none_rebuilt = refl

phase_step : (g : ℕ) (d : Action) (x : Phase) → IsNoRebuild d → phase_after g d x ≡ x
phase_step g (Freeze h) x none_rebuilt = absurd none_rebuilt
phase_step g (Thaw h) x none_rebuilt = absurd none_rebuilt
phase_step g (NewGroup h low high first) x none_rebuilt = absurd none_rebuilt
phase_step g (StoreOpened h first) x none_rebuilt = absurd none_rebuilt
phase_step g d x none_rebuilt = refl

pub groups_as_opened : GroupsAreAsOpened
groups_as_opened o [] none_rebuilt = ((λ k. (refl, refl)), λ g. refl)
groups_as_opened o (e ∷ t) none_rebuilt =
    let before = groups_as_opened o t none_rebuilt.1 in (
      (λ k. (
        group_step o k (successor k t) e.action (group_of o k t) none_rebuilt.0 ∙ (before.0 k).0,
        successor_step k e.action (successor k t) none_rebuilt.0 ∙ (before.0 k).1,
      )),
      λ g. phase_step g e.action (phase g t) none_rebuilt.0 ∙ before.1 g,
    )

-- ---- rows ----

open_not : {X : Type 0} {f : ℕ} → Open ≡ Opened f → X
open_not e = cc

-- the buffer of a key is that of its group
buffer_is : (o : Opening) (t : Execution) (k g : ℕ) → HasNoRebuild t → IsBufferFor o k g t →
    g ≡ opening_group o k
buffer_is o t k g none_rebuilt belongs =
    let groups = groups_as_opened o t none_rebuilt in
    ⊎_elim (λ (z : group_of o k t ≡ g). sym z ∙ (groups.0 k).0)
    (λ (z : (f : ℕ) × (phase (group_of o k t) t ≡ Opened f) × (successor k t ≡ Some g)).
    open_not (sym (groups.1 (group_of o k t)) ∙ z.1)) belongs

pub rows_in_group : RowsAreInTheirGroup
rows_in_group o [] valid none_rebuilt place g k e = absurd (opening_role-buffer o place g k e)
rows_in_group o (e ∷ t) valid none_rebuilt place g k is =
    ⊎_elim
    (λ (z : role o place t ≡ InBuffer g k).
    rows_in_group o t valid.1 none_rebuilt.1 place g k z)
    (λ (z : IsLinkOf g place k e.action).
    let may = may_as o t e.by e.action (LinkRow g z.lane place z.change z.before z.next)
    z.is valid.0 in
    subst (λ (j : ℕ). g ≡ opening_group o j) z.key
    (buffer_is o t (key_of z.change) g none_rebuilt.1 may.belongs))
    (row_back o t e.by e.action place g k is)

-- ---- keys ----

pub one_place_each : KeysHaveOnePlaceEach
one_place_each o t valid none_rebuilt k p q g h = (
  λ here there.
      let a = (arrays_as_opened o t valid none_rebuilt g k p).1 here in
      let b = (arrays_as_opened o t valid none_rebuilt h k q).1 there in
      opening_row-one o p q k _ _ (opening_role-array o p g k a).2 (opening_role-array o q h k b).2,
  λ here there.
      let same : h ≡ g =
      rows_in_group o t valid none_rebuilt q h k there ∙ sym (rows_in_group o t valid none_rebuilt p g k here) in
      (one_place_each_group o t valid).rows p q g k here
      (there ∙ ap (λ (z : ℕ). InBuffer z k) same),
)
