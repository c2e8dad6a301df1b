-- A keeper that may install its new groups may still do so later.
use Rattle.std.proofs.Common.{◌≡◌, ◌≢◌, ℕ, ◌+◌, ◌⊎◌, inl, inr, ⊎_elim, Some, None, Bool, true, false, cond, List, [], ◌∷◌}
use Rattle.std.proofs.Common.{◌++◌, refl, sym, ap, ◌∙◌, subst}
use Rattle.word_layout.specs.Addresses.{array_address}
use Rattle.word_layout.specs.declared.headers.HeaderWord.TheVariants as header
use Rattle.word_layout.specs.declared.phase.Phase.TheVariants.{Open, Opened}
use Rattle.index_machine.proofs.OfParts.{group_in_part, key_between, opened_in_part, rebuild_in_part}
use Rattle.index_machine.proofs.Ranges.{in_range}
use mathlib.Core.Logic.{dite}
use native.Mathlib.Decide.{ℕ_discrete}
use Rattle.index_machine.proofs.Executions.{choice-other, choice-same}
use Rattle.index_machine.proofs.Options.{none_some, some_is}
use Rattle.index_machine.specs.Conditions.{Allowed}
use Rattle.index_machine.specs.Execution.{Execution, event}
use Rattle.index_machine.specs.Forms.{Redirect, live_value, unless}
use Rattle.index_machine.specs.Groups.{IsInUse, phase, rebuild}
use Rattle.index_machine.specs.Keepers.{IsGroupKeeper, IsKeyIn, part_of}
use Rattle.index_machine.specs.KeyRanges.{group_of, successor}
use Rattle.index_machine.specs.Openings.{within}
use Rattle.index_machine.specs.Places.{form}
use Rattle.index_machine.specs.RebuildConditions.{HasKeysFrom, IsInstallWord, IsSized, MayInstall, part_of_spot}
use Rattle.index_machine.specs.LivePlaces.{live_place}
use Rattle.index_machine.specs.Permissions.{IsBufferFor, MayInsertInto}
use Rattle.index_machine.specs.RecordConditions.{MayUnlock}
use Rattle.index_machine.specs.Rows.{InArray, InBuffer, role}
use Rattle.index_machine.specs.Sections.{IsCaller}
use Rattle.index_machine.specs.Words.{shape}
use Rattle.index_machine.specs.declared.events.Action.{Action}
use Rattle.index_machine.specs.declared.events.Action.TheVariants.{LinkRow, StoreDirect, Unlock}
use Rattle.index_machine.specs.declared.events.InstallWord.{InstallWord}
use Rattle.index_machine.specs.declared.events.InstallWord.TheVariants.{FirstSlot, NextOf}
use Rattle.index_machine.specs.declared.opening.Opening.{Opening}
use Rattle.machine_barriers.proofs.OpenedGroups.{opened_groups_hold}
use Rattle.machine_barriers.proofs.Reaches.{may_as}
use Rattle.machine_keeper.proofs.Filling.{array_over, no_array_over}
use Rattle.machine_keeper.proofs.GoneOver.{one}
use Rattle.machine_keeper.proofs.OtherForms.{redirect_kept}
use Rattle.machine_keeper.proofs.OtherPlaces.{IsOther, array_on, not_keeper_of, over, row_on}
use Rattle.machine_keeper.proofs.Others.{AreOthers, before, for_group, group_on, group_was, is_part}
use Rattle.machine_keeper.proofs.Others.{made_on, made_was, new_on, new_part, new_was, next_word_on, owner_part}
use Rattle.machine_keeper.proofs.Others.{phase_on, phase_was, same}
use Rattle.machine_keeper.specs.Staying.{MayInstallStays}
use Rattle.machine_places.proofs.FromOpening.{one_live_place}
use Rattle.machine_readers.proofs.CopiedPlaces.{one_group}
use Rattle.map_model.specs.Map.{key_of}
use Rattle.map_model.specs.declared.entries.Change.{Change}

-- ---- live places ----

-- the live place of the key is in the new group's buffer, or has its redirect in the new group's array
abbrev HasLiveMerged : Opening → ℕ → ℕ → ℕ → Execution → Type 0
HasLiveMerged o h k p t =
    (role o p t ≡ InBuffer h k)
    ⊎ ((a : ℕ) × (y : ℕ) × (role o a t ≡ InArray h k) × (form o a t ≡ Redirect p y))

-- so it is at each moment at which the key's group is opened, and this is its new one
record LivePlaceIsMerged (o : Opening) (g h f k : ℕ) (t : Execution) : Type 0 where
  opened : phase g t ≡ Opened f
  owner : group_of o k t ≡ g
  new : successor k t ≡ Some h
  live : (p : ℕ) → live_place o k t ≡ Some p → HasLiveMerged o h k p t

module _ {o : Opening} {hand b : ℕ} {d : Action} {t : Execution} (x : IsOther o hand b d t)
    (g h f k : ℕ) (of_g : IsGroupKeeper o hand g) (of_h : IsGroupKeeper o hand h)
    (m : LivePlaceIsMerged o g h f k t) where
  kept : (p : ℕ) → live_place o k t ≡ Some p → HasLiveMerged o h k p (event b d ∷ t)
  kept p is = ⊎_elim
      (λ (z : role o p t ≡ InBuffer h k). inl (row_on x h k p of_h z))
      (λ (z : (a : ℕ) × (y : ℕ) × (role o a t ≡ InArray h k) × (form o a t ≡ Redirect p y)).
      inr (z.0, z.1, array_on x h k z.0 of_h z.2, redirect_kept x h k z.0 p z.1 of_h (inl z.2) z.3))
      (m.live p is)

  -- who inserts for the key does so in the new group
  inserts_new : (c i : ℕ) → IsCaller o c → MayInsertInto c i t → IsBufferFor o k i t → i ≡ h
  inserts_new c i is may belongs = ⊎_elim
      (λ (z : group_of o k t ≡ i).
      absurd ((opened_groups_hold o t x.valid.1).closed c i is may f
      (ap (λ (j : ℕ). phase j t) (sym z ∙ m.owner) ∙ m.opened)))
      (λ (z : (e : ℕ) × (phase (group_of o k t) t ≡ Opened e) × (successor k t ≡ Some i)).
      some_is (sym z.2 ∙ m.new)) belongs

  unlocked_live : (q : ℕ) (r : Bool) (c : Change) (w : ℕ) → d ≡ Unlock q r c w → key_of c ≡ k →
      HasLiveMerged o h k q (event b d ∷ t)
  unlocked_live q r c w is key = go may.was refl
    where
      all : Allowed o t b (Unlock q r c w)
      all = may_as o t b d (Unlock q r c w) is x.valid.0

      may : MayUnlock o t b q r c
      may = all.1

      go : (was : Bool) → may.was ≡ was → HasLiveMerged o h k q (event b d ∷ t)
      go false z =
          kept q (one_live_place o t x.valid.1 q k may.before
          (may.keyed ∙ ap (λ (i : ℕ). Some i) key)
          (ap live_value may.holds ∙ ap (λ (i : Bool). unless i may.before) z))
      go true z =
          let v = may.revives z in
          let same = inserts_new b v.0 all.0 v.2 (subst (λ (i : ℕ). IsBufferFor o i v.0 t) key v.3) in
          inl (row_on x h k q of_h
          (v.1 ∙ ap (λ (i : ℕ). InBuffer v.0 i) key ∙ ap (λ (i : ℕ). InBuffer i k) same))

  live_on : (p : ℕ) → live_place o k (event b d ∷ t) ≡ Some p → HasLiveMerged o h k p (event b d ∷ t)
  live_on p now = go d refl now
    where
      go : (e : Action) → d ≡ e → live_place o k (event b e ∷ t) ≡ Some p →
          HasLiveMerged o h k p (event b d ∷ t)
      go (Unlock q r c w) is at = dite (ℕ_discrete (key_of c) k)
          (λ (z : key_of c ≡ k).
          let same : q ≡ p = not_removed r
          (sym (choice-same (key_of c) k (cond r None (Some q)) (live_place o k t) z) ∙ at)
          in
          subst (λ (i : ℕ). HasLiveMerged o h k i (event b d ∷ t)) same (unlocked_live q r c w is z))
          (λ (n : key_of c ≢ k).
          kept p (sym (choice-other (key_of c) k (cond r None (Some q)) (live_place o k t) n) ∙ at))
        where
          not_removed : (r : Bool) → cond r None (Some q) ≡ Some p → q ≡ p
          not_removed true e = none_some e
          not_removed false e = some_is e
      go (LinkRow i lane q c prior next) is at = dite (ℕ_discrete (key_of c) k)
          (λ (z : key_of c ≡ k).
          let may = may_as o t b d (LinkRow i lane q c prior next) is x.valid.0 in
          let same : q ≡ p =
          some_is (sym (choice-same (key_of c) k (Some q) (live_place o k t) z) ∙ at)
          in
          let new = inserts_new b i may.caller may.permission
          (subst (λ (j : ℕ). IsBufferFor o j i t) z may.belongs)
          in
          inl (subst (λ (e : Action). role o p (event b e ∷ t) ≡ InBuffer h k) (sym is)
          (choice-same q p (InBuffer i (key_of c)) (role o p t) same
          ∙ (ap (λ (j : ℕ). InBuffer i j) z ∙ ap (λ (j : ℕ). InBuffer j k) new))))
          (λ (n : key_of c ≢ k).
          kept p (sym (choice-other (key_of c) k (Some q) (live_place o k t) n) ∙ at))
      go (StoreDirect a from j r w) is at = dite (ℕ_discrete j k)
          (λ (z : j ≡ k). moved r (sym (choice-same j k (cond r (live_place o k t) (Some a))
          (live_place o k t) z) ∙ at) z)
          (λ (n : j ≢ k).
          kept p (sym (choice-other j k (cond r (live_place o k t) (Some a)) (live_place o k t) n) ∙ at))
        where
          moved : (r : Bool) → cond r (live_place o k t) (Some a) ≡ Some p → j ≡ k →
              HasLiveMerged o h k p (event b d ∷ t)
          moved true e z = kept p e
          moved false e z =
              let may = may_as o t b d (StoreDirect a from j r w) is x.valid.0 in
              let theirs = one_group o t may.keeper.0 (group_of o j t) may.keeper.1 j a may.keeper.2
              (inl may.here)
              in
              absurd (not_keeper_of x may.keeper.0 g may.keeper.3 of_g
              (theirs ∙ ap (λ (i : ℕ). group_of o i t) z ∙ m.owner))
      go e is at = kept p at

-- ---- arrays ----

module _ {o : Opening} {hand : ℕ} {newer t : Execution} (g : ℕ)
    (x : AreOthers o hand (part_of o g) newer t) where
  keys_over : (i : ℕ) (keys : List ℕ) → HasKeysFrom o g i keys t → HasKeysFrom o g i keys (newer ++ t)
  keys_over i [] has = λ k. no_array_over x k (array_address (shape o) g i) (has k)
  keys_over i (k ∷ keys) has = (
    array_over x k (array_address (shape o) g i) has.0,
    keys_over (i + 1) keys has.1,
  )

  sized_over : IsSized o g t → IsSized o g (newer ++ t)
  sized_over is = record {
    keys = is.keys;
    array = keys_over 0 is.keys is.array;
    size = (same x).header_words g header.Size refl (λ z. z) ∙ is.size;
    error = (same x).header_words g header.LineError refl (λ z. z) ∙ is.error;
  }

-- ---- the install ----

module _ (o : Opening) (hand : ℕ) (spot : InstallWord) (lead low high : ℕ) {newer t : Execution}
    (x : AreOthers o hand (part_of_spot o spot) newer t) (may : MayInstall o t hand spot lead low high)
  where
    abbrev part : ℕ
    part = part_of_spot o spot

    abbrev T : Execution
    T = newer ++ t

    key : (k : ℕ) → within low k high ≡ true → IsKeyIn o (part_of_spot o spot) k
    key k inside =
        let range = in_range low high k inside in
        key_between o part low high k may.in_part.0 may.in_part.1 range.0 range.1

    leads : IsInstallWord o (newer ++ t) low spot
    leads = go spot x may.leads
      where
        go : (s : InstallWord) → AreOthers o hand (part_of_spot o s) newer t → IsInstallWord o t low s →
            IsInstallWord o (newer ++ t) low s
        go (NextOf left) y is = (is.0, is.1, group_on y is.0 left refl is.2)
        go (FirstSlot q side) y is = (
          is.0,
          subst (λ (w : ℕ). IsInUse w side 0) (sym (same y).root_word) is.1,
        )

    whole : (j k : ℕ) → group_of o j (newer ++ t) ≡ group_of o k (newer ++ t) →
        within low j high ≡ within low k high
    whole j k is = go (within low j high) (within low k high) refl refl
      where
        of_part : (i : ℕ) → within low i high ≡ true → part_of o (group_of o i (newer ++ t)) ≡ part
        of_part i inside = group_in_part o (newer ++ t) part i x.valid (is_part x) (key i inside)

        go : (u v : Bool) → within low j high ≡ u → within low k high ≡ v →
            within low j high ≡ within low k high
        go false false out other = out ∙ sym other
        go true v inside other =
            let g : ℕ = group_of o j (newer ++ t) in
            may.whole j k (group_was x j g (of_part j inside) refl
            ∙ sym (group_was x k g (of_part j inside) (sym is)))
        go false true out inside =
            let g : ℕ = group_of o k (newer ++ t) in
            may.whole j k (group_was x j g (of_part k inside) is
            ∙ sym (group_was x k g (of_part k inside) refl))

    opened : (k : ℕ) → within low k high ≡ true →
        (f : ℕ) × (h : ℕ) × (phase (group_of o k (newer ++ t)) (newer ++ t) ≡ Opened f)
        × (successor k (newer ++ t) ≡ Some h) × (rebuild h (newer ++ t) ≡ Some f)
        × (phase h (newer ++ t) ≡ Open)
    opened k inside =
        let m = may.opened k inside in
        let of_h = new_part x k m.1 (key k inside) m.3 in
        let of_f : part_of o m.0 ≡ part = rebuild_in_part o t (before x) m.1 m.0 m.4 ∙ of_h in
        let owner : ℕ = group_of o k t in (
          m.0,
          m.1,
          ap (λ (i : ℕ). phase i (newer ++ t)) ((same x).groups k (key k inside))
              ∙ phase_on x owner (Opened m.0) (owner_part x k (key k inside)) m.2,
          new_on x k m.1 of_h m.3,
          made_on x m.1 m.0 of_f m.4,
          phase_on x m.1 Open of_h m.5,
        )

    old_all : (j k f : ℕ) → within low j high ≡ true →
        phase (group_of o j (newer ++ t)) (newer ++ t) ≡ Opened f →
        phase (group_of o k (newer ++ t)) (newer ++ t) ≡ Opened f → within low k high ≡ true
    old_all j k f inside at_j at_k =
        let g : ℕ = group_of o j (newer ++ t) in
        let i : ℕ = group_of o k (newer ++ t) in
        let of_g : part_of o g ≡ part =
        group_in_part o (newer ++ t) part j x.valid (is_part x) (key j inside)
        in
        let of_i : part_of o i ≡ part =
        sym (opened_in_part o (newer ++ t) x.valid i f at_k)
        ∙ (opened_in_part o (newer ++ t) x.valid g f at_j ∙ of_g)
        in
        may.all_old j k f inside
        (ap (λ (z : ℕ). phase z t) (group_was x j g of_g refl) ∙ phase_was x g (Opened f) of_g at_j)
        (ap (λ (z : ℕ). phase z t) (group_was x k i of_i refl) ∙ phase_was x i (Opened f) of_i at_k)

    new_all : (j k f g h : ℕ) → within low j high ≡ true → successor j (newer ++ t) ≡ Some g →
        rebuild g (newer ++ t) ≡ Some f → successor k (newer ++ t) ≡ Some h →
        rebuild h (newer ++ t) ≡ Some f → within low k high ≡ true
    new_all j k f g h inside at_g of_g at_h of_h =
        let was : successor j t ≡ Some g = sym ((same x).news j (key j inside)) ∙ at_g in
        let mine_g = new_part x j g (key j inside) was in
        let mine_f : part_of o f ≡ part = rebuild_in_part o (newer ++ t) x.valid g f of_g ∙ mine_g in
        let mine_h : part_of o h ≡ part =
        sym (rebuild_in_part o (newer ++ t) x.valid h f of_h) ∙ mine_f
        in
        may.all_new j k f g h inside was (made_was x g f mine_f of_g) (new_was x k h mine_h at_h)
        (made_was x h f mine_f of_h)

    -- each live place in what goes has its redirect
    live_merged : (k h : ℕ) → within low k high ≡ true → successor k t ≡ Some h →
        (f : ℕ) × LivePlaceIsMerged o (group_of o k t) h f k (newer ++ t)
    live_merged k h inside is =
        let m = may.opened k inside in
        let g : ℕ = group_of o k t in
        let of_g = owner_part x k (key k inside) in
        let of_h = new_part x k h (key k inside) is in
        let kept_g = for_group x g of_g in
        let kept_h = for_group x h of_h in
        let first : LivePlaceIsMerged o g h m.0 k t =
        record { opened = m.2; owner = refl; new = is; live = λ p live. may.merged k h p inside is live }
        in (
          m.0,
          over o hand (LivePlaceIsMerged o g h m.0 k)
              (λ b d s y z.
              let w = one x.is_hand x.keeper y in
              record {
                opened = phase_on w g (Opened m.0) of_g z.opened;
                owner = group_on w k g of_g z.owner;
                new = new_on w k h of_h z.new;
                live = live_on y g h m.0 k kept_g.keeper kept_h.keeper z;
              })
              newer t x.valid x.without first,
        )

    pub may_install_on : MayInstall o (newer ++ t) hand spot lead low high
    may_install_on = record {
      keeper = may.keeper;
      in_part = may.in_part;
      leads = leads;
      first = (may.first.0, new_on x low lead of_lead may.first.1);
      named = made_on x lead lead of_lead may.named;
      starts = (same x).pivots lead of_lead ∙ may.starts;
      ends = λ h is.
          let was : successor high t ≡ Some h = sym ((same x).news high may.in_part.1) ∙ is in
          let of_h = new_part x high h may.in_part.1 was in
          next_word_on x high _ _ may.in_part.1 ((same x).nexts h of_h) (may.ends h was);
      whole = whole;
      opened = opened;
      all_old = old_all;
      all_new = new_all;
      sized = λ k h inside is.
          let was : successor k t ≡ Some h = sym ((same x).news k (key k inside)) ∙ is in
          let of_h = new_part x k h (key k inside) was in
          sized_over h (for_group x h of_h) (may.sized k h inside was);
      merged = λ k h p inside is live.
          let was : successor k t ≡ Some h = sym ((same x).news k (key k inside)) ∙ is in
          (live_merged k h inside was).1.live p live;
    }
      where
        of_lead : part_of o lead ≡ part
        of_lead = new_part x low lead may.in_part.0 may.first.1

pub may_install : MayInstallStays
may_install o hand spot lead low high newer t is_hand valid without may =
    let x : AreOthers o hand (part_of_spot o spot) newer t =
    record { is_hand = is_hand; keeper = may.keeper; valid = valid; without = without }
    in
    may_install_on o hand spot lead low high x may
