-- A place that forwarded does so until its record is copied, and what was copied away is so for good.
--
-- The fact to remember: who came to a record by a forwarding pointer either finds it there, or finds the
-- place that forwarded no longer doing so.
use Rattle.std.proofs.Common.{◌≡◌, ◌≢◌, ◌⊎◌, ℕ, inl, inr, ⊎_elim, Bool, Some, [], ◌∷◌, ◌++◌, cond}
use Rattle.std.proofs.Common.{refl, sym, ap, ◌∙◌, subst}
use Rattle.std.specs.Prelude.{◌==◌}
use Rattle.index_machine.specs.declared.events.Action.{Action}
use Rattle.index_machine.specs.declared.events.Action.TheVariants.{StoreDirect, StoreRedirect}
use Rattle.index_machine.specs.declared.opening.Opening.{Opening}
use Rattle.index_machine.specs.Conditions.{Allowed, Valid}
use Rattle.index_machine.specs.Execution.{Execution, event}
use Rattle.index_machine.specs.Forms.{Form, Locked, Redirect, copied_away, made_direct}
use Rattle.index_machine.specs.Places.{first_version, form}
use Rattle.index_machine.specs.RebuildConditions.{MayDirect}
use Rattle.index_machine.specs.Rows.{role, role_key}
use Rattle.index_machine.proofs.Executions.{choice-other, choice-same}
use Rattle.index_machine.proofs.Options.{none_some}
use Rattle.machine_barriers.proofs.Reaches.{may_as}
use Rattle.machine_readers.specs.Readers.{KeepsKey}
use Rattle.machine_readers.proofs.FormKinds.{Away, CopiesFrom, Direct, Forward, MakesDirect, kind}
use Rattle.machine_readers.proofs.FormKinds.{kind_step}
use Rattle.machine_readers.proofs.Redirects.{redirect_back}
use Rattle.machine_readers.proofs.Targets.{forward_is}

-- a redirect leads to one place
pub redirect_to : (p q x y : ℕ) → Redirect p x ≡ Redirect q y → p ≡ q
redirect_to p q x y e = cc

-- ---- what was copied away ----

away_step : (o : Opening) (t : Execution) (b : ℕ) (d : Action) (p k : ℕ) → Allowed o t b d →
    role_key (role o p t) ≡ Some k → kind (form o p t) ≡ Away →
    kind (form o p (event b d ∷ t)) ≡ Away
away_step o t b d p k may keyed away =
    ⊎_elim (λ (same : kind (form o p (event b d ∷ t)) ≡ kind (form o p t)). same ∙ away)
    (λ (changed : (MakesDirect p d × (kind (form o p (event b d ∷ t)) ≡ Direct))
    ⊎ (CopiesFrom p d × (kind (form o p (event b d ∷ t)) ≡ Away))). ⊎_elim
    (λ (made : MakesDirect p d × (kind (form o p (event b d ∷ t)) ≡ Direct)).
    let m = may_as o t b d (StoreDirect p made.0.0 made.0.1 made.0.2 made.0.3) made.0.4 may in
    let bad : Away ≡ Forward = sym away ∙ ap kind m.forwards in cc)
    (λ (copied : CopiesFrom p d × (kind (form o p (event b d ∷ t)) ≡ Away)). copied.1) changed)
    (kind_step o t b d p k may keyed)

-- what is copied is away then
copied_kind : (o : Opening) (t : Execution) (b : ℕ) (d : Action) (a p j w : ℕ) (r : Bool) →
    d ≡ StoreDirect a p j r w → MayDirect o t b a p j r w →
    kind (form o p (event b d ∷ t)) ≡ Away
copied_kind o t b d a p j w r is m =
    subst (λ (i : Action). kind (form o p (event b i ∷ t)) ≡ Away) (sym is)
    (ap kind
    (choice-other a p (made_direct (first_version o) r (form o p t))
    (cond (p == p) (copied_away (form o p t)) (form o p t)) apart
    ∙ choice-same p p (copied_away (form o p t)) (form o p t) refl)
    ∙ ap (λ (f : Form). kind (copied_away f)) m.holds)
  where
    apart : a ≢ p
    apart same =
        let bad : Redirect p m.value ≡ Locked b m.version r m.value m.value =
        sym m.forwards ∙ (ap (λ (z : ℕ). form o z t) same ∙ m.holds) in cc

-- ---- what forwarded ----

-- the place forwards to the other, or what stood there was copied away
abbrev pub ForwardsOrAway : Opening → ℕ → ℕ → Execution → Type 0
ForwardsOrAway o place to t =
    ((value : ℕ) × (form o place t ≡ Redirect to value)) ⊎ (kind (form o to t) ≡ Away)

-- a redirect after a step was one before: no place of a key is written one
was_redirect : (o : Opening) (t : Execution) (b : ℕ) (d : Action) (p k q y : ℕ) →
    Allowed o t b d → role_key (role o p t) ≡ Some k → form o p (event b d ∷ t) ≡ Redirect q y →
    (z : ℕ) × (form o p t ≡ Redirect q z)
was_redirect o t b d p k q y may keyed now =
    ⊎_elim (λ (was : (z : ℕ) × (form o p t ≡ Redirect q z)). was)
    (λ (new : (g : ℕ) × (j : ℕ) × (d ≡ StoreRedirect g p j q)).
    let m = may_as o t b d (StoreRedirect new.0 p new.1 q) new.2 may in
    none_some (sym (ap role_key m.unused) ∙ keyed)) (redirect_back o t b d p q y now)

redirect_step : (o : Opening) (t : Execution) (b : ℕ) (d : Action) (place to k y : ℕ) →
    Allowed o t b d → role_key (role o place t) ≡ Some k → form o place t ≡ Redirect to y →
    ForwardsOrAway o place to (event b d ∷ t)
redirect_step o t b d place to k y may keyed is =
    ⊎_elim
    (λ (same : kind (form o place (event b d ∷ t)) ≡ kind (form o place t)).
    let now = forward_is (form o place (event b d ∷ t)) (same ∙ ap kind is) in
    let was = was_redirect o t b d place k now.0 now.1 may keyed now.2 in
    let one : now.0 ≡ to = redirect_to now.0 to was.0 y (sym was.1 ∙ is) in
    inl (now.1, now.2 ∙ ap (λ (z : ℕ). Redirect z now.1) one))
    (λ (changed : (MakesDirect place d × (kind (form o place (event b d ∷ t)) ≡ Direct))
    ⊎ (CopiesFrom place d × (kind (form o place (event b d ∷ t)) ≡ Away))). ⊎_elim
    (λ (made : MakesDirect place d × (kind (form o place (event b d ∷ t)) ≡ Direct)).
    let s = made.0 in
    let m = may_as o t b d (StoreDirect place s.0 s.1 s.2 s.3) s.4 may in
    let one : s.0 ≡ to = redirect_to s.0 to m.value y (sym m.forwards ∙ is) in
    let gone = copied_kind o t b d place s.0 s.1 s.3 s.2 s.4 m in
    inr (subst (λ (z : ℕ). kind (form o z (event b d ∷ t)) ≡ Away) one gone))
    (λ (copied : CopiesFrom place d × (kind (form o place (event b d ∷ t)) ≡ Away)).
    let s = copied.0 in
    let m = may_as o t b d (StoreDirect s.0 place s.1 s.2 s.3) s.4 may in
    let bad : Redirect to y ≡ Locked b m.version s.2 m.value m.value = sym is ∙ m.holds in cc)
    changed)
    (kind_step o t b d place k may keyed)

-- ---- over the steps of a read section ----

pub away_on : (o : Opening) (p k : ℕ) (n t : Execution) → Valid o (n ++ t) → KeepsKey o p k n t →
    kind (form o p t) ≡ Away → kind (form o p (n ++ t)) ≡ Away
away_on o p k [] t valid keeps away = away
away_on o p k (e ∷ n) t valid keeps away =
    away_step o (n ++ t) e.by e.action p k valid.0 keeps.0 (away_on o p k n t valid.1 keeps.1 away)

module _ (o : Opening) (place to k j : ℕ) where
  pub forwards_on : (n t : Execution) → Valid o (n ++ t) → KeepsKey o place k n t →
      KeepsKey o to j n t → ForwardsOrAway o place to t → ForwardsOrAway o place to (n ++ t)
  forwards_on [] t valid first other before = before
  forwards_on (e ∷ n) t valid first other before =
      ⊎_elim
      (λ (is : (value : ℕ) × (form o place (n ++ t) ≡ Redirect to value)).
      redirect_step o (n ++ t) e.by e.action place to k is.0 valid.0 first.0 is.1)
      (λ (away : kind (form o to (n ++ t)) ≡ Away).
      inr (away_step o (n ++ t) e.by e.action to j valid.0 other.0 away))
      (forwards_on n t valid.1 first.1 other.1 before)

  -- where a place forwards, it forwarded there before
  pub forwarded : (n t : Execution) → Valid o (n ++ t) → KeepsKey o place k n t → (y : ℕ) →
      form o place (n ++ t) ≡ Redirect to y → (z : ℕ) × (form o place t ≡ Redirect to z)
  forwarded [] t valid first y now = (y, now)
  forwarded (e ∷ n) t valid first y now =
      let was = was_redirect o (n ++ t) e.by e.action place k to y valid.0 first.0 now in
      forwarded n t valid.1 first.1 was.0 was.1
