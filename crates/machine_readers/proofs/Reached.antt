-- A place that a caller reached in its read section has a key, and keeps its role while the read
-- section lasts.
use Rattle.std.proofs.Common.{◌≡◌, ◌≢◌, ℕ, ◌⊎◌, ⊎_elim, Some, Bool, true, false, [], ◌∷◌, ◌++◌}
use Rattle.std.proofs.Common.{cond, refl, sym, ap, ◌∙◌, subst}
use Rattle.std.specs.Prelude.{◌==◌}
use Rattle.index_machine.proofs.Executions.{choice-other}
use Rattle.index_machine.specs.Conditions.{Allowed, Valid}
use Rattle.index_machine.specs.Execution.{Execution, event}
use Rattle.index_machine.specs.Forms.{Redirect}
use Rattle.index_machine.specs.Openings.{within}
use Rattle.index_machine.specs.Places.{form}
use Rattle.index_machine.specs.Reaching.{names_place, reached, stands_in}
use Rattle.index_machine.specs.RecordConditions.{IsInArrayOf}
use Rattle.index_machine.specs.Rows.{InArray, InBuffer, role, role_key}
use Rattle.index_machine.specs.Sections.{IsCaller, IsNoCrossing, StaysInside}
use Rattle.index_machine.specs.declared.events.Action.{Action}
use Rattle.index_machine.specs.declared.events.Action.TheVariants.{Enter, Leave, LoadHead, LoadLink}
use Rattle.index_machine.specs.declared.events.Action.TheVariants.{LoadState, NewGroup, Retire}
use Rattle.index_machine.specs.declared.opening.Opening.{Opening}
use Rattle.machine_barriers.proofs.Gains.{reached_gain}
use Rattle.machine_barriers.proofs.Reaches.{LeadsTo, loads_place}
use Rattle.machine_barriers.specs.Gains.{LoadsPlace}
use Rattle.index_machine.proofs.Options.{not_so}
use Rattle.machine_readers.proofs.Redirects.{old_keyed, redirects_lead_to_old}
use Rattle.machine_readers.proofs.Roles.{EndsRole, reached_stays, role_stays}
use Rattle.machine_readers.specs.Redirects.{RedirectsLeadToOld}
use Rattle.word_layout.specs.State.{word_of_state}
use Rattle.word_layout.specs.declared.state.State.TheVariants as state

-- a load is no action that takes a place out of its role
no_role_ends : (o : Opening) (t : Execution) (p : ℕ) (d : Action) → LoadsPlace p d →
    EndsRole o t p d → ⊥
no_role_ends o t p d by out =
    ⊎_elim
    (λ (z : (a : ℕ) × (d ≡ LoadState a (word_of_state (state.Redirect p)))). apart z.1 out)
    (λ (y : ((g : ℕ) × (lane : ℕ) × (d ≡ LoadHead g lane p) × (p ≢ 0))
    ⊎ ((g : ℕ) × (q : ℕ) × (d ≡ LoadLink g q p) × (p ≢ 0))).
    ⊎_elim (λ (z : (g : ℕ) × (lane : ℕ) × (d ≡ LoadHead g lane p) × (p ≢ 0)). head z.2 out)
    (λ (z : (g : ℕ) × (q : ℕ) × (d ≡ LoadLink g q p) × (p ≢ 0)). link z.2 out) y) by
  where
    apart : {a x : ℕ} → d ≡ LoadState a x → EndsRole o t p d → ⊥
    apart e out =
        ⊎_elim (λ (w : (n : ℕ) × (d ≡ Retire p n)). let bad = sym e ∙ w.1 in cc)
        (λ (w : (g : ℕ) × (low : ℕ) × (high : ℕ) × (f : ℕ) × (j : ℕ)
        × (d ≡ NewGroup g low high f) × (role o p t ≡ InArray g j)).
        let bad = sym e ∙ w.5 in cc) out

    head : {g l x : ℕ} → d ≡ LoadHead g l x → EndsRole o t p d → ⊥
    head e out =
        ⊎_elim (λ (w : (n : ℕ) × (d ≡ Retire p n)). let bad = sym e ∙ w.1 in cc)
        (λ (w : (g : ℕ) × (low : ℕ) × (high : ℕ) × (f : ℕ) × (j : ℕ)
        × (d ≡ NewGroup g low high f) × (role o p t ≡ InArray g j)).
        let bad = sym e ∙ w.5 in cc) out

    link : {g q x : ℕ} → d ≡ LoadLink g q x → EndsRole o t p d → ⊥
    link e out =
        ⊎_elim (λ (w : (n : ℕ) × (d ≡ Retire p n)). let bad = sym e ∙ w.1 in cc)
        (λ (w : (g : ℕ) × (low : ℕ) × (high : ℕ) × (f : ℕ) × (j : ℕ)
        × (d ≡ NewGroup g low high f) × (role o p t ≡ InArray g j)).
        let bad = sym e ∙ w.5 in cc) out

leads_keyed : (o : Opening) (c p : ℕ) (t : Execution) → RedirectsLeadToOld o t →
    LeadsTo o c p t → (k : ℕ) × (role_key (role o p t) ≡ Some k)
leads_keyed o c p t old leads =
    ⊎_elim
    (λ (z : (a : ℕ) × (y : ℕ) × IsInArrayOf o c a t × (form o a t ≡ Redirect p y)).
    let s = z.2 in
    (s.1, old_keyed o t s.1 p (old z.0 s.0 s.1 p z.1 s.2 z.3)))
    (λ (z : (g : ℕ) × (k : ℕ) × (stands_in c g t ≡ true) × (role o p t ≡ InBuffer g k)).
    (z.1, ap role_key z.3)) leads

pub reached_keyed : (o : Opening) → RedirectsLeadToOld o [] → (t : Execution) → Valid o t →
    (c p : ℕ) → IsCaller o c → reached c p t ≡ true →
    (k : ℕ) × (role_key (role o p t) ≡ Some k)
reached_keyed o start [] valid c p is r = not_so r
reached_keyed o start (e ∷ t) valid c p is r =
    ⊎_elim
    (λ (z : reached c p t ≡ true).
    let old = reached_keyed o start t valid.1 c p is z in
    (old.0, ap role_key (reached_stays o t e.by e.action c p old.0 valid.0 is z old.1) ∙ old.1))
    (λ (z : (e.by ≡ c) × LoadsPlace p e.action).
    let mine : Allowed o t c e.action = subst (λ (y : ℕ). Allowed o t y e.action) z.0 valid.0 in
    let leads = loads_place o c p e.action t is mine z.1 in
    let old = leads_keyed o c p t (redirects_lead_to_old o start t valid.1) leads.1 in (
      old.0,
      ⊎_elim
          (λ (w : role o p (event e.by e.action ∷ t) ≡ role o p t). ap role_key w ∙ old.1)
          (λ (w : EndsRole o t p e.action). absurd (no_role_ends o t p e.action z.1 w))
          (role_stays o t e.by e.action p old.0 valid.0 old.1),
    ))
    (reached_gain c p e.by e.action t r).1

still_reached : (b c : ℕ) (w x : Bool) → x ≡ true → cond (b == c) (cond w true x) x ≡ true
still_reached b c w x e = go (b == c) w
  where
    go : (v w : Bool) → cond v (cond w true x) x ≡ true
    go true true = refl
    go true false = e
    go false w = e

reached_step : (c p b : ℕ) (d : Action) (t : Execution) → (b ≡ c → IsNoCrossing d) →
    reached c p t ≡ true → reached c p (event b d ∷ t) ≡ true
reached_step c p b (Enter n) t within e = choice-other b c false (reached c p t) within ∙ e
reached_step c p b (Leave n) t within e = choice-other b c false (reached c p t) within ∙ e
reached_step c p b (LoadState a found) t within e =
    still_reached b c (found == word_of_state (state.Redirect p)) (reached c p t) e
reached_step c p b (LoadHead g lane found) t within e =
    still_reached b c (names_place found p) (reached c p t) e
reached_step c p b (LoadLink g q found) t within e =
    still_reached b c (names_place found p) (reached c p t) e
reached_step c p b d t within e = e

pub reached_on : (c p : ℕ) (n t : Execution) → StaysInside c n → reached c p t ≡ true →
    reached c p (n ++ t) ≡ true
reached_on c p [] t stay e = e
reached_on c p (x ∷ n) t stay e =
    reached_step c p x.by x.action (n ++ t) stay.0 (reached_on c p n t stay.1 e)

pub reached_role : (o : Opening) → RedirectsLeadToOld o [] → (c p : ℕ) → IsCaller o c →
    (n t : Execution) → Valid o (n ++ t) → StaysInside c n → reached c p t ≡ true →
    role o p (n ++ t) ≡ role o p t
reached_role o start c p is [] t valid stay r = refl
reached_role o start c p is (x ∷ n) t valid stay r =
    let now = reached_on c p n t stay.1 r in
    let k = reached_keyed o start (n ++ t) valid.1 c p is now in
    reached_stays o (n ++ t) x.by x.action c p k.0 valid.0 is now k.1
    ∙ reached_role o start c p is n t valid.1 stay.1 r
