-- What one step of another hand leaves of what the places of a keeper's groups hold.
use Rattle.std.proofs.Common.{◌≡◌, ◌≢◌, ℕ, zero, suc, ◌⊎◌, inl, inr, ⊎_elim, None, Bool, false, ◌∷◌}
use Rattle.std.proofs.Common.{cond, refl, sym, ap, ◌∙◌, subst, arith, ne_eqb}
use Rattle.std.specs.Prelude.{◌==◌}
use mathlib.Core.Logic.{dite}
use native.Mathlib.Decide.{ℕ_discrete}
use Rattle.index_machine.proofs.Executions.{choice-other}
use Rattle.index_machine.proofs.OfParts.{group_of-key}
use Rattle.index_machine.proofs.Options.{none_some}
use Rattle.index_machine.proofs.Placing.{placed}
use Rattle.index_machine.proofs.Stores.{store_apart}
use Rattle.index_machine.specs.Execution.{Execution, event}
use Rattle.index_machine.specs.Forms.{Form, Locked, Moved, Redirect, Unlocked, copied_away}
use Rattle.index_machine.specs.Forms.{made_direct, put_value, with_lock, with_value, without_lock}
use Rattle.index_machine.specs.Keepers.{IsArrayPlaceOf, IsGroupKeeper, part_of}
use Rattle.index_machine.specs.KeyRanges.{group_of}
use Rattle.index_machine.specs.Lanes.{HasLane}
use Rattle.index_machine.specs.Places.{IsInGroup, first_version, form}
use Rattle.index_machine.specs.RecordConditions.{HasKey, KeepsPlace}
use Rattle.index_machine.specs.Rows.{HeldBy, InArray, InBuffer, Unused, role, role_key}
use Rattle.index_machine.specs.Words.{word}
use Rattle.index_machine.specs.declared.events.Action.{Action}
use Rattle.index_machine.specs.declared.events.Action.TheVariants.{Close, Copy, Install, LinkRow, Lock}
use Rattle.index_machine.specs.declared.events.Action.TheVariants.{StoreArray, StoreDirect, StoreMoved}
use Rattle.index_machine.specs.declared.events.Action.TheVariants.{StorePrivate, StoreRedirect}
use Rattle.index_machine.specs.declared.events.Action.TheVariants.{StoreValue, Unlock}
use Rattle.index_machine.specs.declared.events.InstallWord.TheVariants.{FirstSlot, NextOf}
use Rattle.index_machine.specs.declared.opening.Opening.{Opening}
use Rattle.machine_barriers.proofs.Reaches.{may_as}
use Rattle.machine_keeper.proofs.Keeper.{one_array}
use Rattle.machine_keeper.proofs.OtherPlaces.{IsOther, not_keeper, not_keeper_of}
use Rattle.machine_keeper.proofs.PlacesInPart.{owner_in_part, places_in_part}
use Rattle.machine_readers.proofs.CopiedPlaces.{one_group}
use Rattle.machine_readers.proofs.Redirects.{redirect_back}
use Rattle.map_model.specs.declared.entries.Change.{Change}
use Rattle.word_layout.specs.Words.{PlaceWord}
use Rattle.word_layout.specs.declared.places.Part.{Part}

-- the action is a caller's change of the record at the place
abbrev pub ChangesRecord : ℕ → Action → Type 0
ChangesRecord p d =
    ((x : ℕ) × (d ≡ Lock p x))
    ⊎ (((y : ℕ) × (d ≡ StoreValue p y))
    ⊎ ((r : Bool) × (c : Change) × (w : ℕ) × (d ≡ Unlock p r c w)))

redirect_unlocked : {q y v z : ℕ} {r : Bool} → Redirect q y ≡ Unlocked v r z → ⊥
redirect_unlocked e = cc

redirect_locked : {q y c v z w : ℕ} {r : Bool} → Redirect q y ≡ Locked c v r z w → ⊥
redirect_locked e = cc

module _ {o : Opening} {hand b : ℕ} {d : Action} {t : Execution} (x : IsOther o hand b d t) where
  -- the hand keeps no place of a group of the part
  apart : (g k p q : ℕ) → IsGroupKeeper o hand g → IsInGroup o t g k p → KeepsPlace o t b q → q ≢ p
  apart g k p q mine s theirs same =
      not_keeper_of x theirs.0 g theirs.3 mine
      (one_group o t theirs.0 g theirs.1 k p
      (subst (λ (i : ℕ). IsInGroup o t theirs.0 theirs.1 i) same theirs.2) s)

  -- a place without a key is none of the group's
  keyless : (g k p q : ℕ) → IsInGroup o t g k p → role_key (role o q t) ≡ None → q ≢ p
  keyless g k p q s none same = ⊎_elim
      (λ (z : role o p t ≡ InArray g k).
      none_some (sym none ∙ (ap (λ (i : ℕ). role_key (role o i t)) same ∙ ap role_key z)))
      (λ (z : role o p t ≡ InBuffer g k).
      none_some (sym none ∙ (ap (λ (i : ℕ). role_key (role o i t)) same ∙ ap role_key z)))
      s

  -- another keeper copies no place of the group
  not_copied : (g k p a from j : ℕ) (r : Bool) (w : ℕ) → IsGroupKeeper o hand g → IsInGroup o t g k p →
      d ≡ StoreDirect a from j r w → from ≢ p
  not_copied g k p a from j r w mine s is same =
      let m = may_as o t b d (StoreDirect a from j r w) is x.valid.0 in
      let owner : ℕ = group_of o j t in
      let there : IsInGroup o t m.old.0 j p =
      subst (λ (i : ℕ). IsInGroup o t m.old.0 j i) same m.old.1 in
      let one : m.old.0 ≡ g = one_group o t m.old.0 g j k p there s in
      let theirs = one_group o t m.keeper.0 owner m.keeper.1 j a m.keeper.2 (inl m.here) in
      let exists = ((placed o t x.valid.1).arrayed owner j a m.here).group_exists in
      let small = group_of-key o t j x.valid.1 exists in
      let parts : part_of o owner ≡ part_of o g =
      owner_in_part o t j owner x.valid.1 small refl
      ∙ sym (places_in_part o t x.valid.1 g j p
      (subst (λ (i : ℕ). IsInGroup o t i j p) one there) small)
      in
      not_keeper x owner g (subst (IsGroupKeeper o b) theirs m.keeper.3) mine parts

  -- what a place of the group holds stays, but for changes by callers
  pub form_on : (g k p : ℕ) → IsGroupKeeper o hand g → IsInGroup o t g k p →
      (form o p (event b d ∷ t) ≡ form o p t) ⊎ ChangesRecord p d
  form_on g k p mine s = go d refl
    where
      go : (e : Action) → d ≡ e → (form o p (event b e ∷ t) ≡ form o p t) ⊎ ChangesRecord p d
      go (LinkRow h lane q c before next) is =
          let m = may_as o t b d (LinkRow h lane q c before next) is x.valid.0 in
          inl (choice-other q p (Unlocked (first_version o) false (put_value c)) (form o p t)
          (keyless g k p q s (ap role_key m.mine)))
      go (Lock q expected) is = dite (ℕ_discrete q p)
          (λ (z : q ≡ p). inr (inl (expected, is ∙ ap (λ (i : ℕ). Lock i expected) z)))
          (λ (n : q ≢ p). inl (choice-other q p (with_lock b (form o p t)) (form o p t) n))
      go (StoreValue q y) is = dite (ℕ_discrete q p)
          (λ (z : q ≡ p). inr (inr (inl (y, is ∙ ap (λ (i : ℕ). StoreValue i y) z))))
          (λ (n : q ≢ p). inl (choice-other q p (with_value y (form o p t)) (form o p t) n))
      go (Unlock q r c w) is = dite (ℕ_discrete q p)
          (λ (z : q ≡ p). inr (inr (inr (r, c, w, is ∙ ap (λ (i : ℕ). Unlock i r c w) z))))
          (λ (n : q ≢ p). inl (choice-other q p (without_lock r (form o p t)) (form o p t) n))
      go (StoreRedirect h q j to) is =
          let m = may_as o t b d (StoreRedirect h q j to) is x.valid.0 in
          inl (choice-other q p (Redirect to 0) (form o p t) (keyless g k p q s (ap role_key m.unused)))
      go (Close q expected) is =
          let m = may_as o t b d (Close q expected) is x.valid.0 in
          inl (choice-other q p (with_lock b (form o p t)) (form o p t) (apart g k p q mine s m.keeper))
      go (Copy q y) is =
          let m = may_as o t b d (Copy q y) is x.valid.0 in
          inl (choice-other q p (with_value y (form o p t)) (form o p t) (apart g k p q mine s m.keeper))
      go (StoreDirect a from j r w) is =
          let m = may_as o t b d (StoreDirect a from j r w) is x.valid.0 in
          inl (choice-other a p (made_direct (first_version o) r (form o p t))
          (cond (from == p) (copied_away (form o p t)) (form o p t)) (apart g k p a mine s m.keeper)
          ∙ choice-other from p (copied_away (form o p t)) (form o p t)
          (not_copied g k p a from j r w mine s is))
      go (StoreMoved q) is =
          let m = may_as o t b d (StoreMoved q) is x.valid.0 in
          inl (choice-other q p Moved (form o p t) (apart g k p q mine s m.keeper))
      go e is = inl refl

  -- it stays where callers change no form of this kind
  pub form_kept : (g k p : ℕ) (f : Form) → IsGroupKeeper o hand g → IsInGroup o t g k p → form o p t ≡ f →
      ((v : ℕ) (r : Bool) (y : ℕ) → f ≢ Unlocked v r y) →
      ((c v : ℕ) (r : Bool) (y z : ℕ) → f ≢ Locked c v r y z) → form o p (event b d ∷ t) ≡ f
  form_kept g k p f mine s is unlocked locked = ⊎_elim
      (λ (z : form o p (event b d ∷ t) ≡ form o p t). z ∙ is)
      (λ (z : ChangesRecord p d). absurd (never z))
      (form_on g k p mine s)
    where
      never : ChangesRecord p d → ⊥
      never z = ⊎_elim
          (λ (w : (e : ℕ) × (d ≡ Lock p e)).
          let m = may_as o t b d (Lock p w.0) w.1 x.valid.0 in
          unlocked m.version m.removed m.value (sym is ∙ m.unlocked))
          (λ (v : ((u : ℕ) × (d ≡ StoreValue p u))
          ⊎ ((r : Bool) × (c : Change) × (w : ℕ) × (d ≡ Unlock p r c w))). ⊎_elim
          (λ (w : (u : ℕ) × (d ≡ StoreValue p u)).
          let m = (may_as o t b d (StoreValue p w.0) w.1 x.valid.0).1 in
          locked b m.0 m.1 m.2 m.3 (sym is ∙ m.4))
          (λ (w : (r : Bool) × (c : Change) × (u : ℕ) × (d ≡ Unlock p r c u)).
          let m = (may_as o t b d (Unlock p w.0 w.1 w.2) w.3 x.valid.0).1 in
          locked b m.version m.was m.before m.value (sym is ∙ m.holds))
          v) z

  -- so does a redirect
  pub redirect_kept : (g k a q y : ℕ) → IsGroupKeeper o hand g → IsInGroup o t g k a →
      form o a t ≡ Redirect q y → form o a (event b d ∷ t) ≡ Redirect q y
  redirect_kept g k a q y mine s to =
      form_kept g k a (Redirect q y) mine s to (λ v r z e. redirect_unlocked e)
      (λ c v r z w e. redirect_locked e)

  -- and a record does not become one
  pub no_redirect : (g k p : ℕ) → IsGroupKeeper o hand g → IsInGroup o t g k p →
      ((q y : ℕ) → form o p t ≢ Redirect q y) → (q y : ℕ) → form o p (event b d ∷ t) ≢ Redirect q y
  no_redirect g k p mine s none q y is = ⊎_elim
      (λ (z : (v : ℕ) × (form o p t ≡ Redirect q v)). none q z.0 z.1)
      (λ (z : (h : ℕ) × (j : ℕ) × (d ≡ StoreRedirect h p j q)).
      let m = may_as o t b d (StoreRedirect z.0 p z.1 q) z.2 x.valid.0 in
      keyless g k p p s (ap role_key m.unused) refl)
      (redirect_back o t b d p q y is)

  -- ---- words ----

  -- the words of an array place of the group that is nobody's stay
  pub unused_words : (g p : ℕ) → IsGroupKeeper o hand g → IsArrayPlaceOf o g p → role o p t ≡ Unused →
      (part : Part) → word o (event b d ∷ t) (PlaceWord p part) ≡ word o t (PlaceWord p part)
  unused_words g p mine at is part = go d refl
    where
      keyed : (q : ℕ) → HasKey o q t → q ≢ p
      keyed q has same =
          none_some (sym (ap role_key is) ∙ (ap (λ (i : ℕ). role_key (role o i t)) (sym same) ∙ has.1))

      kept : (q : ℕ) → KeepsPlace o t b q → q ≢ p
      kept q theirs = keyed q (⊎_elim
          (λ (z : role o q t ≡ InArray theirs.0 theirs.1). (theirs.1, ap role_key z))
          (λ (z : role o q t ≡ InBuffer theirs.0 theirs.1). (theirs.1, ap role_key z)) theirs.2)

      of_theirs : (h q : ℕ) → IsGroupKeeper o b h → IsArrayPlaceOf o h q → q ≢ p
      of_theirs h q theirs there same =
          not_keeper_of x h g theirs mine (one_array o h g p (subst (IsArrayPlaceOf o h) same there) at)

      go : (e : Action) → d ≡ e → word o (event b e ∷ t) (PlaceWord p part) ≡ word o t (PlaceWord p part)
      go (StorePrivate q which v) e =
          let m = may_as o t b d (StorePrivate q which v) e x.valid.0 in
          store_apart q p v (word o t (PlaceWord p part)) which part
          (λ z. let bad : HeldBy b ≡ Unused = sym m.held ∙ (ap (λ (i : ℕ). role o i t) z ∙ is) in cc)
      go (Lock q expected) e =
          rw (ne_eqb q p (keyed q (may_as o t b d (Lock q expected) e x.valid.0).keyed)) refl
      go (StoreValue q v) e =
          rw (ne_eqb q p (keyed q (may_as o t b d (StoreValue q v) e x.valid.0).2)) refl
      go (Unlock q r c w) e =
          rw (ne_eqb q p (keyed q (_, (may_as o t b d (Unlock q r c w) e x.valid.0).1.keyed))) refl
      go (LinkRow h lane q c zero next) e = refl
      go (LinkRow h lane q c (suc n) next) e =
          let m = may_as o t b d (LinkRow h lane q c (suc n) next) e x.valid.0 in
          rw (ne_eqb (suc n) p
          (⊎_elim (λ (z : suc n ≡ 0). absurd (omega (arith, z)))
          (λ (z : (k : ℕ) × (role o (suc n) t ≡ InBuffer h k) × HasLane o h lane k t).
          keyed (suc n) (z.0, ap role_key z.1)) m.behind))
          refl
      go (StoreArray h q which v) e =
          let m = may_as o t b d (StoreArray h q which v) e x.valid.0 in
          rw (ne_eqb q p (of_theirs h q m.keeper m.in_array)) refl
      go (StoreRedirect h q j to) e =
          let m = may_as o t b d (StoreRedirect h q j to) e x.valid.0 in
          rw (ne_eqb q p (of_theirs h q m.keeper m.in_array)) refl
      go (Install (NextOf left) lead low high) e = refl
      go (Install (FirstSlot q side) lead low high) e = refl
      go (Close q expected) e =
          rw (ne_eqb q p (kept q (may_as o t b d (Close q expected) e x.valid.0).keeper)) refl
      go (Copy q v) e = rw (ne_eqb q p (kept q (may_as o t b d (Copy q v) e x.valid.0).keeper)) refl
      go (StoreDirect q from j r w) e =
          rw (ne_eqb q p (kept q (may_as o t b d (StoreDirect q from j r w) e x.valid.0).keeper)) refl
      go (StoreMoved q) e = rw (ne_eqb q p (kept q (may_as o t b d (StoreMoved q) e x.valid.0).keeper)) refl
      go e same = refl
