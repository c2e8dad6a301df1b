-- A place that a caller reached is a record: it forwards nowhere, and it is not blank.
use Rattle.std.proofs.Common.{◌≡◌, ◌≢◌, ℕ, ◌⊎◌, inl, inr, ⊎_elim, Some, true, [], ◌∷◌, refl, sym}
use Rattle.std.proofs.Common.{ap, ◌∙◌, subst}
use Rattle.index_machine.specs.Conditions.{Allowed, Valid}
use Rattle.index_machine.specs.Execution.{Execution, event}
use Rattle.index_machine.specs.Forms.{Redirect}
use Rattle.index_machine.specs.Places.{IsInGroup, form}
use Rattle.index_machine.specs.Reaching.{reached, stands_in}
use Rattle.index_machine.specs.RecordConditions.{IsInArrayOf}
use Rattle.index_machine.specs.Rows.{HeldBy, InArray, InBuffer, Role, Unused, role, role_key}
use Rattle.index_machine.specs.Sections.{IsCaller}
use Rattle.index_machine.specs.declared.events.Action.{Action}
use Rattle.index_machine.specs.declared.opening.Opening.{Opening}
use Rattle.machine_barriers.proofs.Gains.{reached_gain}
use Rattle.machine_barriers.proofs.Reaches.{LeadsTo, loads_place}
use Rattle.machine_barriers.specs.Gains.{LoadsPlace}
use Rattle.index_machine.proofs.Options.{none_some, not_so, some_is}
use Rattle.machine_readers.proofs.CopiedPlaces.{places_are_filled, rows_forward_nowhere}
use Rattle.machine_readers.proofs.FormKinds.{Away, CopiesFrom, Direct, Empty, Forward}
use Rattle.machine_readers.proofs.FormKinds.{MakesDirect, kind, kind_step}
use Rattle.machine_readers.proofs.Reached.{reached_keyed}
use Rattle.machine_readers.proofs.Redirects.{old_keyed, redirects_lead_to_old}
use Rattle.machine_readers.proofs.Targets.{targets_are_direct}
use Rattle.machine_readers.specs.Redirects.{RedirectsLeadToOld}

-- a place of a key is in a group
pub keyed_in_group : (o : Opening) (t : Execution) (p k : ℕ) → role_key (role o p t) ≡ Some k →
    (g : ℕ) × IsInGroup o t g k p
keyed_in_group o t p k e = go (role o p t) refl
  where
    go : (r : Role) → role o p t ≡ r → (g : ℕ) × IsInGroup o t g k p
    go Unused s = none_some (sym (ap role_key s) ∙ e)
    go (HeldBy c) s = none_some (sym (ap role_key s) ∙ e)
    go (InArray g j) s = let same : j ≡ k = some_is (sym (ap role_key s) ∙ e) in
        (g, inl (s ∙ ap (λ (i : ℕ). InArray g i) same))
    go (InBuffer g j) s = let same : j ≡ k = some_is (sym (ap role_key s) ∙ e) in
        (g, inr (s ∙ ap (λ (i : ℕ). InBuffer g i) same))

-- the place is of a key and forwards nowhere
abbrev ForwardsNowhere : Opening → ℕ → Execution → Type 0
ForwardsNowhere o p t =
    (k : ℕ) × (role_key (role o p t) ≡ Some k) × (kind (form o p t) ≢ Forward)

leads_nowhere : (o : Opening) (c p : ℕ) (t : Execution) → RedirectsLeadToOld o [] → Valid o t →
    LeadsTo o c p t → ForwardsNowhere o p t
leads_nowhere o c p t start valid leads = ⊎_elim
    (λ (z : (a : ℕ) × (y : ℕ) × IsInArrayOf o c a t × (form o a t ≡ Redirect p y)).
    let s = z.2 in (
      s.1,
      old_keyed o t s.1 p (redirects_lead_to_old o start t valid z.0 s.0 s.1 p z.1 s.2 z.3),
      λ e. let bad : Direct ≡ Forward =
          sym (targets_are_direct o start t valid z.0 s.0 s.1 p z.1 s.2 z.3) ∙ e in cc,
    ))
    (λ (z : (g : ℕ) × (k : ℕ) × (stands_in c g t ≡ true) × (role o p t ≡ InBuffer g k)).
    (z.1, ap role_key z.3, rows_forward_nowhere o t valid z.0 z.1 p z.3)) leads

nowhere_step : (o : Opening) (t : Execution) (b : ℕ) (d : Action) (p : ℕ) → Allowed o t b d →
    ForwardsNowhere o p t → kind (form o p (event b d ∷ t)) ≢ Forward
nowhere_step o t b d p may s e = ⊎_elim
    (λ (w : kind (form o p (event b d ∷ t)) ≡ kind (form o p t)). s.2 (sym w ∙ e))
    (λ (x : (MakesDirect p d × (kind (form o p (event b d ∷ t)) ≡ Direct))
    ⊎ (CopiesFrom p d × (kind (form o p (event b d ∷ t)) ≡ Away))). ⊎_elim
    (λ (w : MakesDirect p d × (kind (form o p (event b d ∷ t)) ≡ Direct)).
    let bad : Direct ≡ Forward = sym w.1 ∙ e in cc)
    (λ (w : CopiesFrom p d × (kind (form o p (event b d ∷ t)) ≡ Away)).
    let bad : Away ≡ Forward = sym w.1 ∙ e in cc) x)
    (kind_step o t b d p s.0 may s.1)

pub reached_nowhere : (o : Opening) → RedirectsLeadToOld o [] → (t : Execution) → Valid o t →
    (c p : ℕ) → IsCaller o c → reached c p t ≡ true → kind (form o p t) ≢ Forward
reached_nowhere o start [] valid c p is r = not_so r
reached_nowhere o start (e ∷ t) valid c p is r = nowhere_step o t e.by e.action p valid.0 (⊎_elim
    (λ (z : reached c p t ≡ true).
    let k = reached_keyed o start t valid.1 c p is z in
    (k.0, k.1, reached_nowhere o start t valid.1 c p is z))
    (λ (z : (e.by ≡ c) × LoadsPlace p e.action).
    let mine : Allowed o t c e.action = subst (λ (y : ℕ). Allowed o t y e.action) z.0 valid.0 in
    leads_nowhere o c p t start valid.1 (loads_place o c p e.action t is mine z.1).1)
    (reached_gain c p e.by e.action t r).1)

pub reached_filled : (o : Opening) → RedirectsLeadToOld o [] → (t : Execution) → Valid o t →
    (c p : ℕ) → IsCaller o c → reached c p t ≡ true → kind (form o p t) ≢ Empty
reached_filled o start t valid c p is r =
    let k = reached_keyed o start t valid c p is r in
    let g = keyed_in_group o t p k.0 k.1 in
    places_are_filled o t valid g.0 k.0 p g.1
