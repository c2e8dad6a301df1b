-- Arrays are filled from index 0 on, each place behind smaller keys.
use Rattle.std.proofs.Common.{◌≡◌, ℕ, ⊎_elim, [], ◌∷◌, sym, ap, ◌∙◌, arith}
use Rattle.index_machine.proofs.Executions.{choice-same}
use Rattle.index_machine.proofs.OfParts.{key_most, successor_exists, successor_in_part}
use Rattle.index_machine.specs.Keepers.{part_of}
use Rattle.index_machine.specs.Conditions.{Allowed}
use Rattle.index_machine.specs.Execution.{Execution, event}
use Rattle.index_machine.specs.Rows.{InArray, InBuffer, Unused, emptied, role, role_key}
use Rattle.index_machine.specs.Words.{shape}
use Rattle.index_machine.specs.declared.events.Action.{Action}
use Rattle.index_machine.specs.declared.events.Action.TheVariants.{NewGroup, Retire, StoreRedirect}
use Rattle.index_machine.specs.declared.opening.Opening.{Opening}
use Rattle.machine_arrays.proofs.Lists.{one_key}
use Rattle.machine_arrays.proofs.Opened.{one_index, opened_in_order, opened_key}
use Rattle.machine_arrays.specs.Arrays.{ArraysAreFilledInOrder, IsBehindSmallerKeys}
use Rattle.machine_arrays.specs.Arrays.{KeysOfArraysAreKeys, KeysOfArraysRise}
use Rattle.machine_barriers.proofs.Reaches.{may_as}
use Rattle.machine_buffers.specs.Groups.{Begins}
use Rattle.machine_readers.proofs.Roles.{EndsRole, array_back, role_stays}
use Rattle.word_layout.specs.Addresses.{array_address}

-- ---- a place of an array ----

-- stays in it until the group is begun anew
pub place_kept : (o : Opening) (t : Execution) (b : ℕ) (d : Action) (g k p : ℕ) →
    Allowed o t b d → (Begins g d → ⊥) → role o p t ≡ InArray g k →
    role o p (event b d ∷ t) ≡ InArray g k
place_kept o t b d g k p may never e = ⊎_elim
    (λ (z : role o p (event b d ∷ t) ≡ role o p t). z ∙ e)
    (λ (z : EndsRole o t p d). ⊎_elim
    (λ (w : (n : ℕ) × (d ≡ Retire p n)).
    let m = (may_as o t b d (Retire p w.0) w.1 may).where_it_is in
    let bad : InArray g k ≡ InBuffer m.0 m.1 = sym e ∙ m.2 in cc)
    (λ (w : (h : ℕ) × (low : ℕ) × (high : ℕ) × (f : ℕ) × (j : ℕ) × (d ≡ NewGroup h low high f)
    × (role o p t ≡ InArray h j)).
    let two : InArray g k ≡ InArray w.0 w.4 = sym e ∙ w.6 in
    let same : g ≡ w.0 = cc in
    absurd (never (w.1, w.2, w.3, w.5 ∙ ap (λ (y : ℕ). NewGroup y w.1 w.2 w.3) (sym same)))) z)
    (role_stays o t b d p k may (ap role_key e))

-- the group of one that stays was not begun anew
pub not_begun : (o : Opening) (t : Execution) (b : ℕ) (d : Action) (g k p : ℕ) →
    role o p t ≡ InArray g k → role o p (event b d ∷ t) ≡ InArray g k → Begins g d → ⊥
not_begun o t b d g k p before after z =
    let now : emptied g (role o p t) ≡ InArray g k =
    ap (λ (y : Action). role o p (event b y ∷ t)) (sym z.3) ∙ after in
    let empty : emptied g (InArray g k) ≡ Unused = choice-same g g Unused (InArray g k) refl_g in
    let bad : Unused ≡ InArray g k = sym empty ∙ (ap (emptied g) (sym before) ∙ now) in cc
  where
    refl_g : g ≡ g
    refl_g = λ i. g

-- ---- places in order ----

in_order_step : (o : Opening) (t : Execution) (b : ℕ) (d : Action) → Allowed o t b d →
    ((g k p : ℕ) → role o p t ≡ InArray g k → IsBehindSmallerKeys o g k p t) →
    (g k p : ℕ) → role o p (event b d ∷ t) ≡ InArray g k →
    IsBehindSmallerKeys o g k p (event b d ∷ t)
in_order_step o t b d may old g k p e = ⊎_elim
    (λ (z : role o p t ≡ InArray g k). let w = old g k p z in record {
      index = w.index;
      in_array = w.in_array;
      at = w.at;
      smaller = λ i lt. let s = w.smaller i lt in (
        s.0,
        place_kept o t b d g s.0 (array_address (shape o) g i) may (not_begun o t b d g k p z e) s.1,
        s.2,
      );
    })
    (λ (z : (to : ℕ) × (d ≡ StoreRedirect g p k to)).
    let m = may_as o t b d (StoreRedirect g p k z.0) z.1 may in
    let at = m.at in
    let top = m.in_array.in_array.1 in record {
      index = m.index;
      in_array = omega (arith, at, top);
      at = m.at;
      smaller = λ i lt. let s = m.filled i lt in (
        s.0,
        place_kept o t b d g s.0 (array_address (shape o) g i) may (no_beginning z.0 z.1) s.1,
        s.2,
      );
    })
    (array_back o t b d p g k e)
  where
    no_beginning : (to : ℕ) → d ≡ StoreRedirect g p k to → Begins g d → ⊥
    no_beginning to is z =
        let bad : StoreRedirect g p k to ≡ NewGroup g z.0 z.1 z.2 = sym is ∙ z.3 in cc

pub in_order : ArraysAreFilledInOrder
in_order o [] valid g k p e = opened_in_order o g k p e
in_order o (x ∷ t) valid g k p e =
    in_order_step o t x.by x.action valid.0 (λ h j q. in_order o t valid.1 h j q) g k p e

pub keys_rise : KeysOfArraysRise
keys_rise o t valid g i j k m lt a b =
    let w = in_order o t valid g m (array_address (shape o) g j) b in
    let same : j ≡ w.index = one_index (shape o) g j w.index w.at in
    let s = w.smaller i (omega (arith, lt, same)) in
    let is : k ≡ s.0 = one_key (sym a ∙ s.1) in
    let less = s.2 in
    omega (arith, is, less)

-- ---- keys ----

pub are_keys : KeysOfArraysAreKeys
are_keys o [] valid g k p e = opened_key o g k p e
are_keys o (x ∷ t) valid g k p e = ⊎_elim
    (λ (z : role o p t ≡ InArray g k). are_keys o t valid.1 g k p z)
    (λ (z : (to : ℕ) × (x.action ≡ StoreRedirect g p k to)).
    let m = may_as o t x.by x.action (StoreRedirect g p k z.0) z.1 valid.0 in
    let mine = successor_in_part o t k g valid.1 m.belongs in
    (successor_exists o t k g valid.1 m.belongs, key_most o (part_of o g) k mine, mine))
    (array_back o t x.by x.action p g k e)
