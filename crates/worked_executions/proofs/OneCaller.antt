-- Tables with one caller whose roots have one slot in use each: which groups are gone, and where nobody inserts.
use Rattle.std.proofs.Common.{◌≡◌, ◌≢◌, ◌⊎◌, inl, inr, ℕ, ◌+◌, ◌*◌, ⊎_elim, Some, None, Bool, true, false, cond, refl, sym, ◌∙◌, subst, arith, eq-eqb}
use Rattle.std.specs.Prelude.{◌==◌, ◌&&◌}
use Rattle.machine_barriers.proofs.Gains.{test_is}
use Rattle.index_machine.proofs.Options.{none_some, not_so}
use Rattle.index_machine.specs.Execution.{Execution}
use Rattle.index_machine.specs.Groups.{IsInUse, rebuild, root, same_slot, slot}
use Rattle.index_machine.specs.KeyRanges.{group_of}
use Rattle.index_machine.specs.Permissions.{IsGone, IsReadableSlot, MayInsertInto}
use Rattle.index_machine.specs.Reaching.{SeesSlot, root_seen, saw_open, saw_opened, stands_in}
use Rattle.index_machine.specs.Sections.{IsCaller}
use Rattle.index_machine.specs.declared.opening.Opening.{Opening}
use Rattle.worked_executions.proofs.Equations.{Same}

-- caller 0 is the only one
abbrev pub HasOneCaller : Opening → Type 0
HasOneCaller o = (c : ℕ) → IsCaller o c → Same 0 c

-- ---- the first slot of a part, where an install may have stored it ----

-- what the first slot of a part names behind an install into the root of part q
abbrev pub first_slot : ℕ → ℕ → ℕ → ℕ → ℕ
first_slot q part lead before = cond (same_slot q 0 0 part 0 0) lead before

pub first_slot_is : (q part lead before g : ℕ) → Same (first_slot q part lead before) g →
    (Same q part × Same lead g) ⊎ ((q ≢ part) × Same before g)
first_slot_is q part lead before g = go (q == part) refl
  where
    go : (w : Bool) → (q == part) ≡ w → Same (cond (w && true) lead before) g →
        (Same q part × Same lead g) ⊎ ((q ≢ part) × Same before g)
    go true is e = inl (test_is q part is, e)
    go false is e = inr ((λ z. not_so (sym is ∙ eq-eqb q part z)), e)

-- ---- what the caller relies on ----

module _ (o : Opening) (one : HasOneCaller o) where
  -- the caller stands nowhere
  pub nobody_in : (t : Execution) (g : ℕ) → stands_in 0 g t ≡ false → (c : ℕ) → IsCaller o c →
      stands_in c g t ≡ true → ⊥
  nobody_in t g none c is s =
      not_so (sym none ∙ subst (λ (y : ℕ). stands_in y g t ≡ true) (sym (one c is)) s)

  -- the caller saw neither the group open nor one opened to a rebuild
  pub no_insert : (t : Execution) (g : ℕ) → saw_open 0 g t ≡ false →
      ((f : ℕ) → saw_opened 0 f t ≡ false) → (c : ℕ) → IsCaller o c → MayInsertInto c g t → ⊥
  no_insert t g shut none c is l = ⊎_elim
      (λ (z : saw_open c g t ≡ true). not_so (sym shut
      ∙ subst (λ (y : ℕ). saw_open y g t ≡ true) (sym (one c is)) z))
      (λ (z : (f : ℕ) × (rebuild g t ≡ Some f) × (saw_opened c f t ≡ true)).
      not_so (sym (none z.0)
      ∙ subst (λ (y : ℕ). saw_opened y z.0 t ≡ true) (sym (one c is)) z.2)) l

  -- the caller did not see the group open, and no rebuild made it
  pub no_insert_unmade : (t : Execution) (g : ℕ) → saw_open 0 g t ≡ false → rebuild g t ≡ None →
      (c : ℕ) → IsCaller o c → MayInsertInto c g t → ⊥
  no_insert_unmade t g shut none c is l = ⊎_elim
      (λ (z : saw_open c g t ≡ true). not_so (sym shut
      ∙ subst (λ (y : ℕ). saw_open y g t ≡ true) (sym (one c is)) z))
      (λ (z : (f : ℕ) × (rebuild g t ≡ Some f) × (saw_opened c f t ≡ true)).
      none_some (sym none ∙ z.1)) l

  used_slot : (side i : ℕ) → IsInUse 2 side i → Same 0 side × Same 0 i
  used_slot side i u = let e : Same 2 (2 * u.0 + side) = u.1 in let low = u.2 in
      let under = u.3 in
      (omega arith, omega arith)

  -- the slots that can be loaded are the first of each part, and where these name other groups the group
  -- is named by none
  pub unnamed_if : (t : Execution) (g : ℕ) → ((p : ℕ) → root o p t ≡ 2) →
      ((p w : ℕ) → root_seen 0 p t ≡ Some w → Same 2 w) → ((p : ℕ) → slot o p 0 0 t ≢ g) →
      (part side i : ℕ) → IsReadableSlot o part side i t → slot o part side i t ≢ g
  unnamed_if t g is seen other part side i r e = ⊎_elim
      (λ (z : IsInUse (root o part t) side i).
      named side i (subst (λ (y : ℕ). IsInUse y side i) (is part) z) e)
      (λ (z : (c : ℕ) × IsCaller o c × SeesSlot c part side i t). let w = z.2 in
      let same = seen part w.0 (subst (λ (y : ℕ). root_seen y part t ≡ Some w.0)
      (sym (one z.0 z.1)) w.1) in
      named side i (subst (λ (y : ℕ). IsInUse y side i) (sym same) w.2) e) r
    where
      named : (side i : ℕ) → IsInUse 2 side i → slot o part side i t ≢ g
      named side i u e = let s = used_slot side i u in
          other part (subst (λ (y : ℕ). slot o part y 0 t ≡ g) (sym s.0)
          (subst (λ (y : ℕ). slot o part side y t ≡ g) (sym s.1) e))

  -- so the group is gone where it answers for no key either, and the caller does not stand there
  pub gone_if : (t : Execution) (g : ℕ) → ((p : ℕ) → root o p t ≡ 2) →
      ((p w : ℕ) → root_seen 0 p t ≡ Some w → Same 2 w) → ((p : ℕ) → slot o p 0 0 t ≢ g) →
      stands_in 0 g t ≡ false → ((k : ℕ) → group_of o k t ≢ g) → IsGone o g t
  gone_if t g is seen other nobody unowned = record {
    unowned = unowned;
    unnamed = unnamed_if t g is seen other;
    empty = nobody_in t g nobody;
  }
