-- The old places that a keeper has merged stay merged.
use Rattle.std.proofs.Common.{◌≡◌, ℕ, inl, ⊎_elim, inr, Some, true, [], ◌∷◌, refl, sym, ap, ◌∙◌, subst}
use Rattle.index_machine.proofs.OfParts.{successor_of_part}
use Rattle.index_machine.proofs.Options.{some_is}
use Rattle.index_machine.specs.Execution.{Execution, event}
use Rattle.index_machine.specs.Forms.{Redirect, is_removed}
use Rattle.index_machine.specs.Groups.{phase}
use Rattle.index_machine.specs.Keepers.{IsGroupKeeper, part_of}
use Rattle.index_machine.specs.KeyRanges.{group_of, successor}
use Rattle.index_machine.specs.Places.{IsInGroup, form}
use Rattle.index_machine.specs.Rows.{InArray, role}
use Rattle.index_machine.specs.declared.events.Action.{Action}
use Rattle.index_machine.specs.declared.opening.Opening.{Opening}
use Rattle.machine_barriers.proofs.OpenedGroups.{opened_groups_hold}
use Rattle.machine_barriers.specs.Barriers.{OpenedGroupsHold}
use Rattle.machine_keeper.proofs.FromOpening.{merged_places}
use Rattle.machine_keeper.proofs.GoneOver.{one}
use Rattle.machine_keeper.proofs.OtherForms.{no_redirect, redirect_kept}
use Rattle.machine_keeper.proofs.OtherPlaces.{IsOther, array_on, array_was, over, place_was}
use Rattle.machine_keeper.proofs.Others.{AreOthers, for_group, group_on, new_on, phase_on}
use Rattle.machine_keeper.specs.Staying.{IsMerged, IsMergedKey, LivePlacesOfMergedKeys, MergedKeysStay}
use Rattle.machine_readers.proofs.NewRedirects.{in_group_keyed}
use Rattle.machine_readers.proofs.Redirects.{old_not_revivable}
use Rattle.machine_readers.proofs.Tombstones.{removed_step}
use Rattle.word_layout.specs.declared.phase.Phase.TheVariants.{Opened}

-- one step of another hand
module _ {o : Opening} {hand b : ℕ} {d : Action} {t : Execution} (x : IsOther o hand b d t)
    (g h k : ℕ) (of_g : IsGroupKeeper o hand g) (of_h : IsGroupKeeper o hand h) where
  -- an old place that is merged stays so, in an opened group
  merged_on : (f q : ℕ) → phase g t ≡ Opened f → IsInGroup o t g k q → IsMerged o h k q t →
      IsMerged o h k q (event b d ∷ t)
  merged_on f q opened s m = ⊎_elim
      (λ (z : is_removed (form o q t) ≡ true).
      inl (removed_step o t b d q k x.valid.0 (in_group_keyed o t g k q s)
      (old_not_revivable o t k q (opened_groups_hold o t x.valid.1) (g, f, opened, s)) z))
      (λ (z : (a : ℕ) × (y : ℕ) × (role o a t ≡ InArray h k) × (form o a t ≡ Redirect q y)).
      inr (z.0, z.1, array_on x h k z.0 of_h z.2, redirect_kept x h k z.0 q z.1 of_h (inl z.2) z.3))
      m

  merged_key_on : (is : IsMergedKey o hand k t) → group_of o k t ≡ g → is.new ≡ h →
      group_of o k (event b d ∷ t) ≡ g → phase g (event b d ∷ t) ≡ Opened is.opened.0 →
      successor k (event b d ∷ t) ≡ Some h → IsMergedKey o hand k (event b d ∷ t)
  merged_key_on is owner new owner_on opened_on new_on = record {
    keeper = subst (IsGroupKeeper o hand) (sym owner_on) of_g;
    opened = (is.opened.0, ap (λ (i : ℕ). phase i (event b d ∷ t)) owner_on ∙ opened_on);
    new = h;
    awaits = new_on;
    each = λ q s.
        let here = subst (λ (i : ℕ). IsInGroup o (event b d ∷ t) i k q) owner_on s in
        let was = place_was x g k q of_g (λ c caller may. hold.closed c g caller may is.opened.0 opened) here in
        merged_on is.opened.0 q opened was
        (subst (λ (i : ℕ). IsMerged o i k q t) new
        (is.each q (subst (λ (i : ℕ). IsInGroup o t i k q) (sym owner) was)));
    none = λ a to y s.
        let was = array_was x g k a of_g (s ∙ ap (λ (i : ℕ). InArray i k) owner_on) in
        no_redirect x g k a of_g (inl was)
        (λ p z. is.none a p z (was ∙ ap (λ (i : ℕ). InArray i k) (sym owner))) to y;
  }
    where
      hold : OpenedGroupsHold o t
      hold = opened_groups_hold o t x.valid.1

      opened : phase g t ≡ Opened is.opened.0
      opened = ap (λ (i : ℕ). phase i t) (sym owner) ∙ is.opened.1

pub merged_keys_stay : MergedKeysStay
merged_keys_stay o hand k newer t is_hand valid without is =
    over o hand (IsMergedKey o hand k)
    (λ b d s y z.
    let g : ℕ = group_of o k s in
    let w : AreOthers o hand (part_of o g) (event b d ∷ []) s = one is_hand z.keeper y in
    let of_h : part_of o z.new ≡ part_of o g = successor_of_part o s k z.new y.valid.1 z.awaits in
    merged_key_on y g z.new k z.keeper (for_group w z.new of_h).keeper z refl refl (group_on w k g refl refl)
    (phase_on w g (Opened z.opened.0) refl z.opened.1) (new_on w k z.new of_h z.awaits))
    newer t valid without is

pub merged_live_places : LivePlacesOfMergedKeys
merged_live_places o t valid hand k new place is awaits live =
    let same : is.new ≡ new = some_is (sym is.awaits ∙ awaits) in
    merged_places o t valid k (group_of o k t) new place refl awaits
    (λ q s. subst (λ (i : ℕ). IsMerged o i k q t) same (is.each q s)) is.none live
