-- What one step of another hand leaves of the places of a keeper's groups.
use Rattle.std.proofs.Common.{◌≡◌, ◌≢◌, ℕ, inl, inr, ⊎_elim, Some, [], ◌∷◌, ◌++◌, refl, sym, ap, ◌∙◌}
use Rattle.std.proofs.Common.{subst, arith}
use mathlib.Core.Logic.{dite}
use native.Mathlib.Decide.{ℕ_discrete}
use Rattle.index_machine.proofs.Executions.{choice-other, choice-same}
use Rattle.index_machine.proofs.OpeningRows.{array_not_row}
use Rattle.index_machine.proofs.Placing.{placed}
use Rattle.index_machine.specs.Conditions.{Valid}
use Rattle.index_machine.specs.Execution.{Execution, Without, event}
use Rattle.index_machine.specs.Keepers.{IsArrayPlaceOf, IsGroupKeeper, part_of}
use Rattle.index_machine.specs.Lists.{In}
use Rattle.index_machine.specs.Permissions.{IsClosedToInserts}
use Rattle.index_machine.specs.Places.{IsInGroup}
use Rattle.index_machine.specs.Rows.{HeldBy, InArray, InBuffer, Unused, emptied, role, role_key}
use Rattle.index_machine.specs.Words.{shape}
use Rattle.index_machine.specs.declared.events.Action.{Action}
use Rattle.index_machine.specs.declared.events.Action.TheVariants.{LinkRow, NewGroup, PopFree}
use Rattle.index_machine.specs.declared.events.Action.TheVariants.{PushFree, Retire, StoreRedirect}
use Rattle.index_machine.specs.declared.opening.Opening.{Opening}
use Rattle.machine_barriers.proofs.Reaches.{may_as}
use Rattle.machine_keeper.proofs.Keeper.{one_array, rows_final}
use Rattle.machine_readers.proofs.CopiedPlaces.{one_group}
use Rattle.machine_readers.proofs.Roles.{EndsRole, array_back, role_stays}
use Rattle.map_model.specs.Map.{key_of}
use Rattle.word_layout.specs.Places.{IsRow}

-- this step, after this execution, is that of another hand
pub record IsOther (o : Opening) (hand b : ℕ) (d : Action) (t : Execution) : Type 0 where
  pub valid : Valid o (event b d ∷ t)
  pub other : b ≢ hand

module _ {o : Opening} {hand b : ℕ} {d : Action} {t : Execution} (x : IsOther o hand b d t) where
  abbrev T : Execution
  T = event b d ∷ t

  -- another hand keeps no group of the part
  pub not_keeper : (h g : ℕ) → IsGroupKeeper o b h → IsGroupKeeper o hand g → part_of o h ≡ part_of o g → ⊥
  not_keeper h g theirs mine same = x.other (let one = same in omega (arith, mine, theirs, one))

  -- nor the group itself
  pub not_keeper_of : (h g : ℕ) → IsGroupKeeper o b h → IsGroupKeeper o hand g → h ≢ g
  not_keeper_of h g theirs mine same = not_keeper h g theirs mine (ap (part_of o) same)

  -- ---- roles ----

  -- a place of the group keeps its role
  pub role_on : (g k p : ℕ) → IsGroupKeeper o hand g → IsInGroup o t g k p →
      role o p (event b d ∷ t) ≡ role o p t
  role_on g k p mine s = ⊎_elim
      (λ (z : role o p (event b d ∷ t) ≡ role o p t). z)
      (λ (z : EndsRole o t p d). ⊎_elim
      (λ (w : (n : ℕ) × (d ≡ Retire p n)).
      let m = (may_as o t b d (Retire p w.0) w.1 x.valid.0).keeper in
      absurd (not_keeper_of m.0 g m.3 mine (one_group o t m.0 g m.1 k p m.2 s)))
      (λ (w : (h : ℕ) × (low : ℕ) × (high : ℕ) × (f : ℕ) × (j : ℕ) ×
      (d ≡ NewGroup h low high f) × (role o p t ≡ InArray h j)).
      let m = may_as o t b d (NewGroup w.0 w.1 w.2 w.3) w.5 x.valid.0 in
      absurd (not_keeper_of w.0 g m.keeper mine (one_group o t w.0 g w.4 k p (inl w.6) s))) z)
      (role_stays o t b d p k x.valid.0 (keyed s))
    where
      keyed : IsInGroup o t g k p → role_key (role o p t) ≡ Some k
      keyed s = ⊎_elim (λ (z : role o p t ≡ InArray g k). ap role_key z)
          (λ (z : role o p t ≡ InBuffer g k). ap role_key z) s

  pub array_on : (g k p : ℕ) → IsGroupKeeper o hand g → role o p t ≡ InArray g k →
      role o p (event b d ∷ t) ≡ InArray g k
  array_on g k p mine is = role_on g k p mine (inl is) ∙ is

  pub row_on : (g k p : ℕ) → IsGroupKeeper o hand g → role o p t ≡ InBuffer g k →
      role o p (event b d ∷ t) ≡ InBuffer g k
  row_on g k p mine is = role_on g k p mine (inr is) ∙ is

  pub place_on : (g k p : ℕ) → IsGroupKeeper o hand g → IsInGroup o t g k p →
      IsInGroup o (event b d ∷ t) g k p
  place_on g k p mine s = ⊎_elim
      (λ (z : role o p t ≡ InArray g k). inl (array_on g k p mine z))
      (λ (z : role o p t ≡ InBuffer g k). inr (row_on g k p mine z)) s

  -- an array of the part gets no place
  pub array_was : (g k p : ℕ) → IsGroupKeeper o hand g → role o p (event b d ∷ t) ≡ InArray g k →
      role o p t ≡ InArray g k
  array_was g k p mine is = ⊎_elim (λ (z : role o p t ≡ InArray g k). z)
      (λ (z : (to : ℕ) × (d ≡ StoreRedirect g p k to)).
      let m = may_as o t b d (StoreRedirect g p k z.0) z.1 x.valid.0 in
      absurd (not_keeper_of g g m.keeper mine refl))
      (array_back o t b d p g k is)

  -- nor does a buffer into which nobody may insert
  pub row_was : (g k p : ℕ) → IsClosedToInserts o g t → role o p (event b d ∷ t) ≡ InBuffer g k →
      role o p t ≡ InBuffer g k
  row_was g k p closed is = rows_final o t b d g k p x.valid.0 closed is

  pub place_was : (g k p : ℕ) → IsGroupKeeper o hand g → IsClosedToInserts o g t →
      IsInGroup o (event b d ∷ t) g k p → IsInGroup o t g k p
  place_was g k p mine closed s = ⊎_elim
      (λ (z : role o p (event b d ∷ t) ≡ InArray g k). inl (array_was g k p mine z))
      (λ (z : role o p (event b d ∷ t) ≡ InBuffer g k). inr (row_was g k p closed z)) s

  -- an array place of the group that is nobody's stays so
  pub unused_on : (g p : ℕ) → IsGroupKeeper o hand g → IsArrayPlaceOf o g p → role o p t ≡ Unused →
      role o p (event b d ∷ t) ≡ Unused
  unused_on g p mine at is = go d refl
    where
      go : (e : Action) → d ≡ e → role o p (event b e ∷ t) ≡ Unused
      go (PopFree q next) e =
          let top = (may_as o t b d (PopFree q next) e x.valid.0).2 in
          let free = (placed o t x.valid.1).free q (subst (In q) (sym top.top) (inl refl)) in
          choice-other q p (HeldBy b) (role o p t)
          (λ z. array_not_row (shape o) g p at.group_exists at.in_array
          (subst (IsRow (shape o)) z free.1))
          ∙ is
      go (PushFree q head) e = dite (ℕ_discrete q p)
          (λ (z : q ≡ p). choice-same q p Unused (role o p t) z)
          (λ (n : q ≢ p). choice-other q p Unused (role o p t) n ∙ is)
      go (LinkRow h lane q c before next) e =
          let m = may_as o t b d (LinkRow h lane q c before next) e x.valid.0 in
          choice-other q p (InBuffer h (key_of c)) (role o p t)
          (λ z. let bad : HeldBy b ≡ Unused = sym m.mine ∙ (ap (λ (i : ℕ). role o i t) z ∙ is) in cc)
          ∙ is
      go (Retire q next) e =
          let m = (may_as o t b d (Retire q next) e x.valid.0).where_it_is in
          choice-other q p (HeldBy b) (role o p t)
          (λ z. let bad : InBuffer m.0 m.1 ≡ Unused =
          sym m.2 ∙ (ap (λ (i : ℕ). role o i t) z ∙ is) in cc)
          ∙ is
      go (StoreRedirect h q k to) e =
          let m = may_as o t b d (StoreRedirect h q k to) e x.valid.0 in
          choice-other q p (InArray h k) (role o p t)
          (λ z. not_keeper_of h g m.keeper mine
          (one_array o h g p (subst (IsArrayPlaceOf o h) z m.in_array) at))
          ∙ is
      go (NewGroup h low high f) e = ap (emptied h) is
      go e same = is

-- ---- over all that other hands did ----

-- what each step of another hand leaves, all of them leave
pub over : (o : Opening) (hand : ℕ) (Holds : Execution → Type 0) →
    ((b : ℕ) (d : Action) (t : Execution) → IsOther o hand b d t → Holds t → Holds (event b d ∷ t)) →
    (n t : Execution) → Valid o (n ++ t) → Without hand n → Holds t → Holds (n ++ t)
over o hand Holds step [] t valid without is = is
over o hand Holds step (e ∷ n) t valid without is =
    step e.by e.action (n ++ t) (record { valid = valid; other = without.0 })
    (over o hand Holds step n t valid.1 without.1 is)
