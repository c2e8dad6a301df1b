-- A group has at most one array place and one row for a key, and a place that a caller reached in
-- its read section keeps its key.
use Rattle.std.proofs.Common.{◌≡◌, ◌≢◌, ℕ, ◌⊎◌, inl, inr, ⊎_elim, Some, true, [], ◌∷◌, cond, refl}
use Rattle.std.proofs.Common.{sym, ap, ◌∙◌, subst}
use Rattle.std.specs.Prelude.{◌==◌}
use mathlib.Core.Logic.{dite}
use native.Mathlib.Decide.{ℕ_discrete}
use Rattle.index_machine.proofs.Executions.{choice-other, choice-same}
use Rattle.index_machine.specs.Conditions.{Allowed, Valid}
use Rattle.index_machine.specs.Execution.{Execution, event}
use Rattle.index_machine.specs.Reaching.{reached, stands_in}
use Rattle.index_machine.specs.Rows.{HeldBy, InArray, InBuffer, Role, Unused, emptied, role}
use Rattle.index_machine.specs.Rows.{role_key}
use Rattle.index_machine.specs.Sections.{IsCaller}
use Rattle.index_machine.specs.declared.events.Action.{Action}
use Rattle.index_machine.specs.declared.events.Action.TheVariants.{LinkRow, NewGroup, PopFree}
use Rattle.index_machine.specs.declared.events.Action.TheVariants.{PushFree, Retire, StoreRedirect}
use Rattle.index_machine.specs.declared.opening.Opening.{Opening}
use Rattle.machine_barriers.proofs.Reaches.{may_as}
use Rattle.index_machine.proofs.Options.{none_some}
use Rattle.machine_readers.specs.Roles.{OnePlaceEach}
use Rattle.map_model.specs.Map.{key_of}
use Rattle.map_model.specs.declared.entries.Change.{Change}

-- what a place is, and is not
set_back : (q p : ℕ) (u s v : Role) → cond (q == p) u s ≡ v →
    ((q ≡ p) × (u ≡ v)) ⊎ ((q ≢ p) × (s ≡ v))
set_back q p u s v e = dite (ℕ_discrete q p) (λ (z : q ≡ p).
    inl (z, sym (choice-same q p u s z) ∙ e))
    (λ (n : q ≢ p). inr (n, sym (choice-other q p u s n) ∙ e))

emptied_array : (g : ℕ) (s : Role) (h k : ℕ) → emptied g s ≡ InArray h k → s ≡ InArray h k
emptied_array g Unused h k e = e
emptied_array g (HeldBy c) h k e = e
emptied_array g (InBuffer i j) h k e = e
emptied_array g (InArray i j) h k e = dite (ℕ_discrete i g)
    (λ (z : i ≡ g). let bad : Unused ≡ InArray h k = sym (choice-same i g Unused (InArray i j) z)
    ∙ e in cc) (λ (n : i ≢ g). sym (choice-other i g Unused (InArray i j) n) ∙ e)

emptied_buffer : (g : ℕ) (s : Role) (h k : ℕ) → emptied g s ≡ InBuffer h k → s ≡ InBuffer h k
emptied_buffer g Unused h k e = e
emptied_buffer g (HeldBy c) h k e = e
emptied_buffer g (InBuffer i j) h k e = e
emptied_buffer g (InArray i j) h k e = dite (ℕ_discrete i g)
    (λ (z : i ≡ g). let bad : Unused ≡ InBuffer h k = sym (choice-same i g Unused (InArray i j) z)
    ∙ e in cc) (λ (n : i ≢ g). sym (choice-other i g Unused (InArray i j) n) ∙ e)

-- the action links this row into the group's buffer, for the key
pub record IsLinkOf (g a k : ℕ) (d : Action) : Type 0 where
  pub lane : ℕ
  pub change : Change
  pub before : ℕ
  pub next : ℕ
  pub is : d ≡ LinkRow g lane a change before next
  pub key : key_of change ≡ k

-- the action takes the place out of its role: it is retired, or its group is begun anew
abbrev pub EndsRole : Opening → Execution → ℕ → Action → Type 0
EndsRole o t p d =
    ((n : ℕ) × (d ≡ Retire p n))
    ⊎ ((g : ℕ) × (low : ℕ) × (high : ℕ) × (f : ℕ) × (j : ℕ) × (d ≡ NewGroup g low high f)
    × (role o p t ≡ InArray g j))

-- the role of an array after an action was there before, or the action writes its redirect
pub array_back : (o : Opening) (t : Execution) (b : ℕ) (d : Action) (a g k : ℕ) →
    role o a (event b d ∷ t) ≡ InArray g k → (role o a t ≡ InArray g k) ⊎
    ((to : ℕ) × (d ≡ StoreRedirect g a k to))
array_back o t b (PopFree p next) a g k e = ⊎_elim
    (λ (z : (p ≡ a) × (HeldBy b ≡ InArray g k)). let bad = z.1 in cc)
    (λ (z : (p ≢ a) × (role o a t ≡ InArray g k)). inl z.1)
    (set_back p a (HeldBy b) (role o a t) (InArray g k) e)
array_back o t b (PushFree p head) a g k e = ⊎_elim
    (λ (z : (p ≡ a) × (Unused ≡ InArray g k)). let bad = z.1 in cc)
    (λ (z : (p ≢ a) × (role o a t ≡ InArray g k)). inl z.1)
    (set_back p a Unused (role o a t) (InArray g k) e)
array_back o t b (Retire p next) a g k e = ⊎_elim
    (λ (z : (p ≡ a) × (HeldBy b ≡ InArray g k)). let bad = z.1 in cc)
    (λ (z : (p ≢ a) × (role o a t ≡ InArray g k)). inl z.1)
    (set_back p a (HeldBy b) (role o a t) (InArray g k) e)
array_back o t b (LinkRow h lane p d prior next) a g k e =
    ⊎_elim (λ (z : (p ≡ a) × (InBuffer h (key_of d) ≡ InArray g k)). let bad = z.1 in cc)
    (λ (z : (p ≢ a) × (role o a t ≡ InArray g k)). inl z.1)
    (set_back p a (InBuffer h (key_of d)) (role o a t) (InArray g k) e)
array_back o t b (NewGroup h low high f) a g k e = inl (emptied_array h (role o a t) g k e)
array_back o t b (StoreRedirect h p j to) a g k e =
    ⊎_elim (λ (z : (p ≡ a) × (InArray h j ≡ InArray g k)). let two = z.1 in let x : h ≡ g = cc in
    let y : j ≡ k = cc in let w = z.0 in inr (to, cc))
    (λ (z : (p ≢ a) × (role o a t ≡ InArray g k)). inl z.1)
    (set_back p a (InArray h j) (role o a t) (InArray g k) e)
array_back o t b d a g k e = inl e

pub row_back : (o : Opening) (t : Execution) (b : ℕ) (d : Action) (a g k : ℕ) →
    role o a (event b d ∷ t) ≡ InBuffer g k → (role o a t ≡ InBuffer g k) ⊎ IsLinkOf g a k d
row_back o t b (PopFree p next) a g k e = ⊎_elim
    (λ (z : (p ≡ a) × (HeldBy b ≡ InBuffer g k)). let bad = z.1 in cc)
    (λ (z : (p ≢ a) × (role o a t ≡ InBuffer g k)). inl z.1)
    (set_back p a (HeldBy b) (role o a t) (InBuffer g k) e)
row_back o t b (PushFree p head) a g k e = ⊎_elim
    (λ (z : (p ≡ a) × (Unused ≡ InBuffer g k)). let bad = z.1 in cc)
    (λ (z : (p ≢ a) × (role o a t ≡ InBuffer g k)). inl z.1)
    (set_back p a Unused (role o a t) (InBuffer g k) e)
row_back o t b (Retire p next) a g k e = ⊎_elim
    (λ (z : (p ≡ a) × (HeldBy b ≡ InBuffer g k)). let bad = z.1 in cc)
    (λ (z : (p ≢ a) × (role o a t ≡ InBuffer g k)). inl z.1)
    (set_back p a (HeldBy b) (role o a t) (InBuffer g k) e)
row_back o t b (LinkRow h lane p d prior next) a g k e =
    ⊎_elim (λ (z : (p ≡ a) × (InBuffer h (key_of d) ≡ InBuffer g k)). let two = z.1 in
    let x : h ≡ g = cc in let y : key_of d ≡ k = cc in let w = z.0 in
    inr (record { lane = lane; change = d; before = prior; next = next; is = cc; key = y }))
    (λ (z : (p ≢ a) × (role o a t ≡ InBuffer g k)). inl z.1)
    (set_back p a (InBuffer h (key_of d)) (role o a t) (InBuffer g k) e)
row_back o t b (NewGroup h low high f) a g k e = inl (emptied_buffer h (role o a t) g k e)
row_back o t b (StoreRedirect h p j to) a g k e =
    ⊎_elim (λ (z : (p ≡ a) × (InArray h j ≡ InBuffer g k)). let bad = z.1 in cc)
    (λ (z : (p ≢ a) × (role o a t ≡ InBuffer g k)). inl z.1)
    (set_back p a (InArray h j) (role o a t) (InBuffer g k) e)
row_back o t b d a g k e = inl e

redirect_place : {g a k to h b j u : ℕ} → StoreRedirect g a k to ≡ StoreRedirect h b j u → a ≡ b
redirect_place e = cc

link_place : {g l a h m b u v x y : ℕ} {c d : Change} → LinkRow g l a c u v ≡ LinkRow h m b d x y →
    a ≡ b
link_place e = cc

one_step : (o : Opening) (t : Execution) (b : ℕ) (d : Action) → Allowed o t b d → OnePlaceEach o t →
    OnePlaceEach o (event b d ∷ t)
one_step o t b d may old = record {
  arrays = λ x y g k e f. ⊎_elim
      (λ (ex : role o x t ≡ InArray g k). ⊎_elim
      (λ (ey : role o y t ≡ InArray g k). old.arrays x y g k ex ey)
      (λ (ny : (to : ℕ) × (d ≡ StoreRedirect g y k to)).
      absurd ((may_as o t b d (StoreRedirect g y k ny.0) ny.1 may).alone x ex))
      (array_back o t b d y g k f))
      (λ (nx : (to : ℕ) × (d ≡ StoreRedirect g x k to)).
      ⊎_elim (λ (ey : role o y t ≡ InArray g k).
      absurd ((may_as o t b d (StoreRedirect g x k nx.0) nx.1 may).alone y ey))
      (λ (ny : (to : ℕ) × (d ≡ StoreRedirect g y k to)). redirect_place (sym nx.1 ∙ ny.1))
      (array_back o t b d y g k f)) (array_back o t b d x g k e);
  rows = λ x y g k e f. ⊎_elim
      (λ (ex : role o x t ≡ InBuffer g k). ⊎_elim
      (λ (ey : role o y t ≡ InBuffer g k). old.rows x y g k ex ey)
      (λ (ny : IsLinkOf g y k d). absurd ((may_as o t b d
      (LinkRow g ny.lane y ny.change ny.before ny.next) ny.is may).alone x
      (ex ∙ ap (λ (i : ℕ). InBuffer g i) (sym ny.key)))) (row_back o t b d y g k f))
      (λ (nx : IsLinkOf g x k d). ⊎_elim (λ (ey : role o y t ≡ InBuffer g k).
      absurd ((may_as o t b d (LinkRow g nx.lane x nx.change nx.before nx.next) nx.is may).alone y
      (ey ∙ ap (λ (i : ℕ). InBuffer g i) (sym nx.key))))
      (λ (ny : IsLinkOf g y k d). link_place (sym nx.is ∙ ny.is)) (row_back o t b d y g k f))
      (row_back o t b d x g k e);
}

pub one : (o : Opening) → OnePlaceEach o [] → (t : Execution) → Valid o t → OnePlaceEach o t
one o start [] valid = start
one o start (e ∷ t) valid = one_step o t e.by e.action valid.0 (one o start t valid.1)

-- a placed place keeps its role but where it is retired or its group is begun anew
pub role_stays : (o : Opening) (t : Execution) (b : ℕ) (d : Action) (p k : ℕ) → Allowed o t b d →
    role_key (role o p t) ≡ Some k
    → (role o p (event b d ∷ t) ≡ role o p t) ⊎ (EndsRole o t p d)
role_stays o t b (PopFree q next) p k may e =
    inl (choice-other q p (HeldBy b) (role o p t)
    (λ z. none_some (sym (ap role_key may.2.unused)
    ∙ (ap (λ (y : ℕ). role_key (role o y t)) z ∙ e))))
role_stays o t b (PushFree q head) p k may e =
    inl (choice-other q p Unused (role o p t)
    (λ z. none_some (sym (ap role_key may.held) ∙ (ap (λ (y : ℕ). role_key (role o y t)) z ∙ e))))
role_stays o t b (LinkRow g lane q d prior next) p k may e =
    inl (choice-other q p (InBuffer g (key_of d)) (role o p t)
    (λ z. none_some (sym (ap role_key may.mine) ∙ (ap (λ (y : ℕ). role_key (role o y t)) z ∙ e))))
role_stays o t b (StoreRedirect g q j to) p k may e =
    inl (choice-other q p (InArray g j) (role o p t)
    (λ z. none_some (sym (ap role_key may.unused) ∙ (ap (λ (y : ℕ). role_key (role o y t)) z ∙ e))))
role_stays o t b (Retire q next) p k may e = dite (ℕ_discrete q p)
    (λ (z : q ≡ p). inr (inl (next, ap (λ (y : ℕ). Retire y next) z)))
    (λ (n : q ≢ p). inl (choice-other q p (HeldBy b) (role o p t) n))
role_stays o t b (NewGroup g low high f) p k may e = go (role o p t) refl
  where
    go : (s : Role) → role o p t ≡ s → (emptied g (role o p t) ≡ role o p t) ⊎
        (EndsRole o t p (NewGroup g low high f))
    go Unused s = inl (ap (emptied g) s ∙ sym s)
    go (HeldBy c) s = inl (ap (emptied g) s ∙ sym s)
    go (InBuffer h j) s = inl (ap (emptied g) s ∙ sym s)
    go (InArray h j) s = dite (ℕ_discrete h g)
        (λ (z : h ≡ g). inr (inr (g, low, high, f, j, refl, s ∙ ap (λ (y : ℕ). InArray y j) z)))
        (λ (n : h ≢ g). inl (ap (emptied g) s ∙ (choice-other h g Unused (InArray h j) n ∙ sym s)))
role_stays o t b d p k may e = inl refl

-- a place that a caller reached keeps its role while the read section lasts
pub reached_stays : (o : Opening) (t : Execution) (b : ℕ) (d : Action) (c p k : ℕ) →
    Allowed o t b d →
    IsCaller o c → reached c p t ≡ true → role_key (role o p t) ≡ Some k →
    role o p (event b d ∷ t) ≡ role o p t
reached_stays o t b d c p k may is m e = ⊎_elim (λ (z : role o p (event b d ∷ t) ≡ role o p t). z)
    (λ (z : EndsRole o t p d). ⊎_elim
    (λ (w : (n : ℕ) × (d ≡ Retire p n)). absurd
    ((may_as o t b d (Retire p w.0) w.1 may).unreached c is m))
    (λ (w : (g : ℕ) × (low : ℕ) × (high : ℕ) × (f : ℕ) × (j : ℕ) × (d ≡ NewGroup g low high f) ×
    (role o p t ≡ InArray g j)). absurd ((may_as o t b d
    (NewGroup w.0 w.1 w.2 w.3) w.5 may).unreached c p w.4 is m w.6)) z)
    (role_stays o t b d p k may e)

-- and an array place while the caller stands in its group
pub array_stays : (o : Opening) (t : Execution) (b : ℕ) (d : Action) (c p g k : ℕ) →
    Allowed o t b d → IsCaller o c → stands_in c g t ≡ true → role o p t ≡ InArray g k →
    role o p (event b d ∷ t) ≡ InArray g k
array_stays o t b d c p g k may is s e = ⊎_elim
    (λ (z : role o p (event b d ∷ t) ≡ role o p t). z ∙ e)
    (λ (z : EndsRole o t p d). ⊎_elim
    (λ (w : (n : ℕ) × (d ≡ Retire p n)). let m =
    (may_as o t b d (Retire p w.0) w.1 may).where_it_is in
    let bad : InArray g k ≡ InBuffer m.0 m.1 = sym e ∙ m.2 in cc)
    (λ (w : (g : ℕ) × (low : ℕ) × (high : ℕ) × (f : ℕ) × (j : ℕ) × (d ≡ NewGroup g low high f) ×
    (role o p t ≡ InArray g j)).
    let two : InArray g k ≡ InArray w.0 w.4 = sym e ∙ w.6 in let same : g ≡ w.0 = cc in
    absurd ((may_as o t b d (NewGroup w.0 w.1 w.2 w.3) w.5 may).gone.empty c is
    (subst (λ (y : ℕ). stands_in c y t ≡ true) same s))) z)
    (role_stays o t b d p k may (ap role_key e))

-- and a row while it stands in the group
pub row_stays : (o : Opening) (t : Execution) (b : ℕ) (d : Action) (c p g k : ℕ) → Allowed o t b d →
    IsCaller o c → stands_in c g t ≡ true → role o p t ≡ InBuffer g k →
    role o p (event b d ∷ t) ≡ InBuffer g k
row_stays o t b d c p g k may is s e = ⊎_elim (λ (z : role o p (event b d ∷ t) ≡ role o p t). z ∙ e)
    (λ (z : EndsRole o t p d). ⊎_elim
    (λ (w : (n : ℕ) × (d ≡ Retire p n)). let m =
    (may_as o t b d (Retire p w.0) w.1 may).where_it_is in
    let two : InBuffer g k ≡ InBuffer m.0 m.1 = sym e ∙ m.2 in let same : g ≡ m.0 = cc in
    let r = m.3 in absurd ((r.2 m.0 r.1).empty c is (subst (λ (y : ℕ). stands_in c y t ≡ true) same s)))
    (λ (w : (g : ℕ) × (low : ℕ) × (high : ℕ) × (f : ℕ) × (j : ℕ) × (d ≡ NewGroup g low high f) ×
    (role o p t ≡ InArray g j)).
    let bad : InBuffer g k ≡ InArray w.0 w.4 = sym e ∙ w.6 in cc) z)
    (role_stays o t b d p k may (ap role_key e))
