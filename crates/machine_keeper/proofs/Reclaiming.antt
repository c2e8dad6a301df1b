-- What a keeper may take back or close, it may still later.
use Rattle.std.proofs.Common.{◌≡◌, ◌≢◌, ℕ, ◌⊎◌, inl, inr, ⊎_elim, Some, Bool, true, false, ◌∷◌, ◌++◌}
use Rattle.std.proofs.Common.{refl, sym, ap, ◌∙◌, subst, arith}
use mathlib.Core.Logic.{dite}
use native.Mathlib.Decide.{ℕ_discrete}
use Rattle.word_layout.specs.State.{word_of_state}
use Rattle.word_layout.specs.Words.{PlaceWord}
use Rattle.word_layout.specs.declared.phase.Phase.TheVariants.{Opened}
use Rattle.word_layout.specs.declared.places.Part.TheVariants as part
use Rattle.word_layout.specs.declared.state.State.TheVariants as state
use Rattle.index_machine.proofs.Placing.{placed}
use Rattle.index_machine.proofs.RepresentingAll.{represented}
use Rattle.index_machine.specs.Conditions.{Allowed, Valid}
use Rattle.index_machine.specs.Execution.{Execution, event}
use Rattle.index_machine.specs.Forms.{Blank, Copied, Form, IsUnlocked, Locked, Moved, Redirect, Unlocked, state_word}
use Rattle.index_machine.specs.Groups.{phase}
use Rattle.index_machine.specs.Keepers.{IsGroupKeeper, IsKeeper, IsKeeperAt, part_of}
use Rattle.index_machine.specs.KeyRanges.{group_of, successor}
use Rattle.index_machine.specs.Lanes.{HasLane}
use Rattle.index_machine.specs.Permissions.{IsBufferFor, IsReplaced}
use Rattle.index_machine.specs.Places.{form}
use Rattle.index_machine.specs.Reaching.{reached, stands_in}
use Rattle.index_machine.specs.RecordConditions.{IsInArrayOf, KeepsPlace}
use Rattle.index_machine.specs.Rows.{InArray, InBuffer, role, role_key}
use Rattle.index_machine.specs.Sections.{IsCaller, IsHand}
use Rattle.index_machine.specs.Words.{word}
use Rattle.index_machine.specs.declared.events.Action.{Action}
use Rattle.index_machine.specs.declared.events.Action.TheVariants.{LinkRow, StoreRedirect}
use Rattle.index_machine.specs.declared.opening.Opening.{Opening}
use Rattle.machine_barriers.proofs.Gains.{reached_gain}
use Rattle.machine_barriers.proofs.OpenedGroups.{opened_groups_hold}
use Rattle.machine_barriers.proofs.Reaches.{loads_place, may_as}
use Rattle.machine_barriers.specs.Gains.{LoadsPlace}
use Rattle.machine_buffers.proofs.LinkWords.{LinksBehind, link_stays}
use Rattle.machine_buffers.proofs.LinkingRows.{row_place}
use Rattle.machine_buffers.proofs.OutOfUse.{opened_are_not_new}
use Rattle.machine_keeper.proofs.Copying.{keeps_over}
use Rattle.machine_keeper.proofs.GoneOver.{one, replaced_over}
use Rattle.machine_keeper.proofs.OtherPlaces.{IsOther, over, row_on}
use Rattle.machine_keeper.proofs.Others.{AreOthers}
use Rattle.machine_keeper.specs.Staying.{CanTryToCloseStays, MayRetireStays}
use Rattle.machine_keeper.specs.Staying.{TriesToCloseEnd}
use Rattle.machine_places.proofs.FromOpening.{live_places}
use Rattle.machine_readers.proofs.CopiedPlaces.{one_group}
use Rattle.machine_readers.proofs.FormsMet.{not_blank}
use Rattle.machine_readers.proofs.NewRedirects.{in_group_keyed}
use Rattle.machine_readers.proofs.Redirects.{redirect_back}

-- ---- retiring ----

row_is : {g h k j : ℕ} → InBuffer g k ≡ InBuffer h j → (g ≡ h) × (k ≡ j)
row_is e = (cc, cc)

-- a row of an old buffer that may be taken out: nothing leads there
record IsOldRow (o : Opening) (g k place link : ℕ) (t : Execution) : Type 0 where
  row : role o place t ≡ InBuffer g k
  replaced : IsReplaced o g t
  no_target : (a y : ℕ) → form o a t ≢ Redirect place y
  unreached : (c : ℕ) → IsCaller o c → reached c place t ≡ true → ⊥
  link_word : word o t (PlaceWord place part.Link) ≡ link

module _ {o : Opening} {hand b : ℕ} {d : Action} {t : Execution} (g k place link : ℕ)
    (is_hand : IsHand o hand) (keeper : IsGroupKeeper o hand g) (x : IsOther o hand b d t)
    (m : IsOldRow o g k place link t) where
  no_target_on : (a y : ℕ) → form o a (event b d ∷ t) ≢ Redirect place y
  no_target_on a y to = ⊎_elim
      (λ (z : (v : ℕ) × (form o a t ≡ Redirect place v)). m.no_target a z.0 z.1)
      (λ (z : (h : ℕ) × (j : ℕ) × (d ≡ StoreRedirect h a j place)).
      let source = (may_as o t b d (StoreRedirect z.0 a z.1 place) z.2 x.valid.0).source in
      let same = one_group o t (group_of o z.1 t) g z.1 k place source (inr m.row) in
      (m.replaced.2 g m.replaced.1).unowned z.1 same)
      (redirect_back o t b d a place y to)

  unreached_on : (c : ℕ) → IsCaller o c → reached c place (event b d ∷ t) ≡ true → ⊥
  unreached_on c caller reaches = ⊎_elim
      (λ (z : reached c place t ≡ true). m.unreached c caller z)
      (λ (z : (b ≡ c) × LoadsPlace place d). ⊎_elim
      (λ (w : (a : ℕ) × (y : ℕ) × IsInArrayOf o c a t × (form o a t ≡ Redirect place y)).
      m.no_target w.0 w.1 w.3)
      (λ (w : (h : ℕ) × (j : ℕ) × (stands_in c h t ≡ true) × (role o place t ≡ InBuffer h j)).
      let same = row_is (sym m.row ∙ w.3) in
      (m.replaced.2 g m.replaced.1).empty c caller
      (subst (λ (i : ℕ). stands_in c i t ≡ true) (sym same.0) w.2))
      (loads_place o c place d t caller (subst (λ (i : ℕ). Allowed o t i d) z.0 x.valid.0) z.1).1)
      (reached_gain c place b d t reaches).1

  link_on : word o (event b d ∷ t) (PlaceWord place part.Link) ≡ link
  link_on = ⊎_elim
      (λ (z : word o (event b d ∷ t) (PlaceWord place part.Link) ≡ word o t (PlaceWord place part.Link)).
      z ∙ m.link_word)
      (λ (z : LinksBehind place d).
      let store = may_as o t b d (LinkRow z.group z.lane z.place z.change place z.next) z.is x.valid.0 in
      absurd (⊎_elim
      (λ (w : place ≡ 0). row_place o t g k place x.valid.1 m.row w)
      (λ (w : (j : ℕ) × (role o place t ≡ InBuffer z.group j) × HasLane o z.group z.lane j t).
      let same = row_is (sym m.row ∙ w.1) in
      (opened_groups_hold o t x.valid.1).closed b z.group store.caller store.permission m.replaced.0
      (ap (λ (i : ℕ). phase i t) (sym same.0) ∙ m.replaced.1))
      store.behind))
      (link_stays o t b d place k x.valid.0 (ap role_key m.row))

  old_row_on : IsOldRow o g k place link (event b d ∷ t)
  old_row_on = record {
    row = row_on x g k place keeper m.row;
    replaced = replaced_over (one is_hand keeper x) g refl m.replaced;
    no_target = no_target_on;
    unreached = unreached_on;
    link_word = link_on;
  }

pub may_retire : MayRetireStays
may_retire o hand place next newer t is_hand valid without may =
    let kept = may.keeper in
    let at = may.where_it_is in
    let g : ℕ = at.0 in
    let k : ℕ = at.1 in
    let same = one_group o t kept.0 g kept.1 k place kept.2 (inr at.2) in
    let keeper : IsGroupKeeper o hand g = subst (IsGroupKeeper o hand) same kept.3 in
    let first : IsOldRow o g k place next t = record {
      row = at.2;
      replaced = at.3;
      no_target = may.no_target;
      unreached = may.unreached;
      link_word = may.found_word;
    } in
    let m = over o hand (IsOldRow o g k place next)
    (λ b d s y z. old_row_on g k place next is_hand keeper y z) newer t valid without first
    in
    record {
      keeper = (g, k, inr m.row, keeper);
      found_word = m.link_word;
      not_live = λ j live. ⊎_elim
          (λ (z : role o place (newer ++ t) ≡ InArray (group_of o j (newer ++ t)) j).
          let bad : InBuffer g k ≡ InArray (group_of o j (newer ++ t)) j = sym m.row ∙ z in cc)
          (λ (z : ((new : ℕ) × (value : ℕ)
          × (role o new (newer ++ t) ≡ InArray (group_of o j (newer ++ t)) j)
          × (form o new (newer ++ t) ≡ Redirect place value))
          ⊎ ((h : ℕ) × (role o place (newer ++ t) ≡ InBuffer h j) × IsBufferFor o j h (newer ++ t))). ⊎_elim
          (λ (w : (new : ℕ) × (value : ℕ)
          × (role o new (newer ++ t) ≡ InArray (group_of o j (newer ++ t)) j)
          × (form o new (newer ++ t) ≡ Redirect place value)). m.no_target w.0 w.1 w.3)
          (λ (w : (h : ℕ) × (role o place (newer ++ t) ≡ InBuffer h j) × IsBufferFor o j h (newer ++ t)).
          let here = row_is (sym m.row ∙ w.1) in
          not_for j (subst (λ (i : ℕ). IsBufferFor o j i (newer ++ t)) (sym here.0) w.2) m.replaced) z)
          (live_places o (newer ++ t) valid j place live);
      no_target = m.no_target;
      unreached = m.unreached;
      where_it_is = (g, k, m.row, m.replaced);
    }
  where
    not_for : {g : ℕ} (j : ℕ) → IsBufferFor o j g (newer ++ t) → IsReplaced o g (newer ++ t) → ⊥
    not_for {g} j belongs replaced = ⊎_elim
        (λ (z : group_of o j (newer ++ t) ≡ g). (replaced.2 g replaced.1).unowned j z)
        (λ (z : (f : ℕ) × (phase (group_of o j (newer ++ t)) (newer ++ t) ≡ Opened f)
        × (successor j (newer ++ t) ≡ Some g)).
        opened_are_not_new o (newer ++ t) valid j g replaced.0 replaced.1 z.2) belongs

-- ---- closing ----

pub can_try_to_close : CanTryToCloseStays
can_try_to_close o hand place expected newer t is_hand valid without can =
    let kept = can.keeper in
    let old = can.old in
    let x : AreOthers o hand (part_of o kept.0) newer t =
    record { is_hand = is_hand; keeper = kept.3; valid = valid; without = without }
    in
    let here = keeps_over o hand newer t valid without place kept in
    let same = one_group o t old.0 kept.0 old.1 kept.1 place old.2 kept.2 in
    record {
      keeper = (kept.0, kept.1, here, kept.3);
      old = (
        kept.0,
        kept.1,
        here,
        replaced_over x kept.0 refl (subst (λ (i : ℕ). IsReplaced o i t) same old.3),
      );
      unlocked = can.unlocked;
    }

-- what has the state word of an unlocked record is one
unlocked_is : (f : Form) (v : ℕ) (r : Bool) → f ≢ Blank →
    state_word f ≡ word_of_state (state.Direct v false r) → IsUnlocked f
unlocked_is Blank v r filled e = absurd (filled refl)
unlocked_is (Unlocked w s y) v r filled e = (w, s, y, refl)
unlocked_is (Locked c w true y z) v true filled e = absurd (omega (arith, e))
unlocked_is (Locked c w true y z) v false filled e = absurd (omega (arith, e))
unlocked_is (Locked c w false y z) v true filled e = absurd (omega (arith, e))
unlocked_is (Locked c w false y z) v false filled e = absurd (omega (arith, e))
unlocked_is (Copied w true y) v true filled e = absurd (omega (arith, e))
unlocked_is (Copied w true y) v false filled e = absurd (omega (arith, e))
unlocked_is (Copied w false y) v true filled e = absurd (omega (arith, e))
unlocked_is (Copied w false y) v false filled e = absurd (omega (arith, e))
unlocked_is (Redirect p y) v true filled e = absurd (omega (arith, e))
unlocked_is (Redirect p y) v false filled e = absurd (omega (arith, e))
unlocked_is Moved v true filled e = absurd (omega (arith, e))
unlocked_is Moved v false filled e = absurd (omega (arith, e))

-- a keeper may look at the places of its part
looks_at : (o : Opening) (hand place : ℕ) (t : Execution) → Valid o t → KeepsPlace o t hand place →
    IsKeeperAt o hand place
looks_at o hand place t valid kept = ⊎_elim
    (λ (z : role o place t ≡ InArray kept.0 kept.1).
    inr (kept.0, (placed o t valid).arrayed kept.0 kept.1 place z, kept.3))
    (λ (z : role o place t ≡ InBuffer kept.0 kept.1).
    let is = kept.3 in
    let keeper : IsKeeper o hand = omega (arith, is) in
    inl (keeper, (placed o t valid).buffered kept.0 kept.1 place z))
    kept.2

pub tries_to_close : TriesToCloseEnd
tries_to_close o t valid hand place expected can =
    let kept = can.keeper in
    let keyed = in_group_keyed o t kept.0 kept.1 place kept.2 in
    let says = (represented o t valid).states place (kept.1, keyed) in
    let u = can.unlocked in
    dite (ℕ_discrete expected (word o t (PlaceWord place part.State)))
    (λ (z : expected ≡ word o t (PlaceWord place part.State)). inl (record {
      keeper = kept;
      unlocked = unlocked_is (form o place t) u.0 u.1
          (λ empty. not_blank o t valid place kept.1 keyed empty) (sym says ∙ (sym z ∙ u.2));
      old = can.old;
      found_word = sym says ∙ sym z;
    }))
    (λ (n : expected ≢ word o t (PlaceWord place part.State)). inr (record {
      allowed = inr (looks_at o hand place t valid kept);
      found_word = refl;
      says = sym says;
      differs = n;
    }))
