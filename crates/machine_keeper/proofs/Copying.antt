-- What a keeper may copy, it may still copy later.
use Rattle.std.proofs.Common.{◌≡◌, ℕ, ◌+◌, inl, ⊎_elim, Bool, ◌++◌, refl, sym, ap}
use Rattle.std.proofs.Common.{◌∙◌, subst}
use Rattle.index_machine.proofs.OfParts.{group_of-key}
use Rattle.index_machine.proofs.Placing.{placed}
use Rattle.index_machine.specs.Conditions.{Valid}
use Rattle.index_machine.specs.Execution.{Execution, Without}
use Rattle.index_machine.specs.Forms.{Copied, Locked, Redirect, Unlocked}
use Rattle.index_machine.specs.Keepers.{IsGroupKeeper, part_of}
use Rattle.index_machine.specs.KeyRanges.{group_of}
use Rattle.index_machine.specs.Places.{IsInGroup, form}
use Rattle.index_machine.specs.RecordConditions.{HasKey, KeepsPlace}
use Rattle.index_machine.specs.Rows.{InArray, InBuffer, role}
use Rattle.index_machine.specs.Words.{limits}
use Rattle.index_machine.specs.declared.opening.Opening.{Opening}
use Rattle.machine_keeper.proofs.GoneOver.{replaced_over}
use Rattle.machine_keeper.proofs.OtherForms.{form_kept, redirect_kept}
use Rattle.machine_keeper.proofs.OtherPlaces.{over, place_on, role_on}
use Rattle.machine_keeper.proofs.Others.{AreOthers, before, group_on}
use Rattle.machine_keeper.proofs.PlacesInPart.{owner_in_part, places_in_part}
use Rattle.machine_keeper.specs.Staying.{MayCopyStays, MayDirectStays, MayMoveStays}
use Rattle.machine_readers.proofs.CopiedPlaces.{one_group}
use Rattle.machine_readers.proofs.FormsMet.{rows_stay}
use Rattle.machine_readers.proofs.FromOpening.{redirects_old}
use Rattle.machine_readers.proofs.LockSteps.{locked_step}
use Rattle.machine_readers.proofs.NewRedirects.{in_group_keyed}
use Rattle.machine_readers.proofs.Redirects.{old_keyed}

-- ---- what a redirect of the part leads to ----

-- it has a key
target_keyed : (o : Opening) (t : Execution) (g k a q y : ℕ) → Valid o t → IsInGroup o t g k a →
    form o a t ≡ Redirect q y → HasKey o q t
target_keyed o t g k a q y valid s to = ⊎_elim
    (λ (z : role o a t ≡ InArray g k). (k, old_keyed o t k q (redirects_old o t valid a g k q y z to)))
    (λ (z : role o a t ≡ InBuffer g k). absurd (rows_stay o t valid a g k q y z to))
    s

-- ---- places ----

module _ (o : Opening) (hand : ℕ) (newer t : Execution) (valid : Valid o (newer ++ t))
    (without : Without hand newer) where
  -- the keeper's place stays, with its key
  pub keeps_over : (p : ℕ) (is : KeepsPlace o t hand p) →
      IsInGroup o (newer ++ t) is.0 is.1 p
  keeps_over p is =
      over o hand (λ s. IsInGroup o s is.0 is.1 p) (λ b d s y z. place_on y is.0 is.1 p is.3 z)
      newer t valid without is.2

  pub keyed_over : (p : ℕ) → KeepsPlace o t hand p → HasKey o p (newer ++ t)
  keyed_over p is = (is.1, in_group_keyed o (newer ++ t) is.0 is.1 p (keeps_over p is))

pub may_copy : MayCopyStays
may_copy o hand a newer t is_hand valid without may =
    let kept = may.keeper in
    let g : ℕ = kept.0 in
    let k : ℕ = kept.1 in
    let lock = may.holds in
    let m = over o hand
    (λ s. IsInGroup o s g k a × (form o a s ≡ Redirect may.place may.value)
    × (form o may.place s ≡ Locked hand lock.0 lock.1 lock.2 lock.3))
    (λ b d s y z.
    let keyed = target_keyed o s g k a may.place may.value y.valid.1 z.0 z.1 in (
      place_on y g k a kept.3 z.0,
      redirect_kept y g k a may.place may.value kept.3 z.0 z.1,
      locked_step o s b d hand may.place keyed.0 lock.0 lock.2 lock.3 lock.1 y.valid.0 y.other keyed.1 z.2,
    ))
    newer t valid without (kept.2, may.forwards, lock.4)
    in
    record {
      keeper = (g, k, m.0, kept.3);
      place = may.place;
      value = may.value;
      keyed = keyed_over o hand newer t valid without a kept;
      forwards = m.1;
      holds = (lock.0, lock.1, lock.2, lock.3, m.2);
    }

pub may_move : MayMoveStays
may_move o hand p newer t is_hand valid without may =
    let kept = may.keeper in
    let m = over o hand
    (λ s. IsInGroup o s kept.0 kept.1 p × (form o p s ≡ Copied may.version may.removed may.value))
    (λ b d s y z. (
      place_on y kept.0 kept.1 p kept.3 z.0,
      form_kept y kept.0 kept.1 p (Copied may.version may.removed may.value) kept.3 z.0 z.1
          (λ v r w e. copied_unlocked e) (λ c v r w u e. copied_locked e),
    ))
    newer t valid without (kept.2, may.copied)
    in
    record {
      keeper = (kept.0, kept.1, m.0, kept.3);
      keyed = keyed_over o hand newer t valid without p kept;
      version = may.version;
      removed = may.removed;
      value = may.value;
      copied = m.1;
    }
  where
    copied_unlocked : {v x w z : ℕ} {r u : Bool} → Copied v r x ≡ Unlocked w u z → ⊥
    copied_unlocked e = cc

    copied_locked : {v x c w y z : ℕ} {r u : Bool} → Copied v r x ≡ Locked c w u y z → ⊥
    copied_locked e = cc

pub may_direct : MayDirectStays
may_direct o hand a p k r stored newer t is_hand valid without may =
    let kept = may.keeper in
    let x : AreOthers o hand (part_of o kept.0) newer t =
    record { is_hand = is_hand; keeper = kept.3; valid = valid; without = without }
    in
    let owner : ℕ = group_of o k t in
    let here : kept.0 ≡ owner = one_group o t kept.0 owner kept.1 k a kept.2 (inl may.here) in
    let exists = ((placed o t (before x)).arrayed owner k a may.here).group_exists in
    let small = group_of-key o t k (before x) exists in
    let old : ℕ = may.old.0 in
    let parts : part_of o owner ≡ part_of o old =
    owner_in_part o t k owner (before x) small refl
    ∙ sym (places_in_part o t (before x) old k p may.old.1 small)
    in
    let of_part : part_of o old ≡ part_of o kept.0 = sym parts ∙ ap (part_of o) (sym here) in
    let of_old : IsGroupKeeper o hand old =
    kept.3 ∙ ap (λ (i : ℕ). (limits o).callers + i) (sym of_part)
    in
    let m = over o hand
    (λ s. (role o a s ≡ InArray owner k) × (form o a s ≡ Redirect p may.value)
    × IsInGroup o s old k p × (form o p s ≡ Locked hand may.version r may.value may.value))
    (λ b d s y z. (
      role_on y owner k a (subst (IsGroupKeeper o hand) here kept.3) (inl z.0) ∙ z.0,
      redirect_kept y owner k a p may.value (subst (IsGroupKeeper o hand) here kept.3) (inl z.0) z.1,
      place_on y old k p of_old z.2,
      locked_step o s b d hand p k may.version may.value may.value r y.valid.0 y.other
          (in_group_keyed o s old k p z.2) z.3,
    ))
    newer t valid without (may.here, may.forwards, may.old.1, may.holds)
    in
    let replaced = replaced_over x old of_part may.old.3 in
    record {
      keeper = (kept.0, kept.1, keeps_over o hand newer t valid without a kept, kept.3);
      version = may.version;
      value = may.value;
      forwards = m.1;
      holds = m.3;
      here = m.0 ∙ ap (λ (i : ℕ). InArray i k)
          (sym (group_on x k owner (ap (part_of o) (sym here)) refl));
      there = in_group_keyed o (newer ++ t) old k p m.2;
      old = (old, m.2, replaced.2 old replaced.1, replaced);
      stored_word = may.stored_word;
    }
