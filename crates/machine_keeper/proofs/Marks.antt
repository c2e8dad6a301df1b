-- Between the mark and the check a barrier stays shut: callers change no structure, the part's keeper
-- does not meanwhile, and the other keepers change their own parts.
use Rattle.std.proofs.Common.{◌≡◌, ◌≢◌, ℕ, ◌+◌, Option, Some, Bool, true, false, cond, ◌⊎◌}
use Rattle.std.proofs.Common.{inl, inr, ⊎_elim, [], ◌∷◌, ◌++◌, refl, sym, ap, ◌∙◌}
use Rattle.std.proofs.Common.{subst, arith}
use mathlib.Core.Logic.{dite}
use native.Mathlib.Decide.{ℕ_discrete}
use Rattle.index_machine.proofs.Executions.{choice-other, choice-same}
use Rattle.index_machine.proofs.OfParts.{group_in_part, key_between, opened_in_part, rebuild_in_part}
use Rattle.index_machine.proofs.OfParts.{successor_of_part}
use Rattle.index_machine.proofs.Ranges.{in_range}
use Rattle.index_machine.specs.Conditions.{Valid}
use Rattle.index_machine.specs.Execution.{Execution, event}
use Rattle.index_machine.specs.Forms.{Redirect}
use Rattle.index_machine.specs.Groups.{IsInUse, name_used_again, phase, rebuild, root, slot}
use Rattle.index_machine.specs.Keepers.{IsGroupKeeper, IsPartKeeper, part_of}
use Rattle.index_machine.specs.KeyRanges.{group_of, or_else, successor}
use Rattle.index_machine.specs.Openings.{within}
use Rattle.index_machine.specs.Places.{IsInGroup, form}
use Rattle.index_machine.specs.RebuildConditions.{part_of_spot}
use Rattle.index_machine.specs.RecordConditions.{KeepsPlace}
use Rattle.index_machine.specs.Rows.{InArray, InBuffer, role}
use Rattle.index_machine.specs.Words.{limits}
use Rattle.index_machine.specs.declared.events.Action.{Action}
use Rattle.index_machine.specs.declared.events.Action.TheVariants.{Freeze, Install, NewGroup}
use Rattle.index_machine.specs.declared.events.Action.TheVariants.{Retire, StoreOpened, StoreRedirect}
use Rattle.index_machine.specs.declared.events.Action.TheVariants.{StoreRoot, Thaw}
use Rattle.index_machine.specs.declared.opening.Opening.{Opening}
use Rattle.machine_barriers.proofs.OpenedGroups.{begun_back, frozen_not, gone_on, made_back}
use Rattle.machine_barriers.proofs.OpenedGroups.{made_still, named_back, open_not, opened_back}
use Rattle.machine_barriers.proofs.OpenedGroups.{opened_groups_hold}
use Rattle.machine_barriers.proofs.Reaches.{may_as}
use Rattle.machine_barriers.specs.Barriers.{IsShutForInserts, IsShutForOldGroups, IsShutForOldPlace}
use Rattle.machine_barriers.specs.Barriers.{IsShutForSide, IsShutOver}
use Rattle.machine_keeper.specs.Marks.{KeeperKeepsStructure, KeepsStructure}
use Rattle.machine_readers.proofs.CopiedPlaces.{one_group}
use Rattle.machine_readers.proofs.NewRedirects.{in_group_keyed}
use Rattle.machine_readers.proofs.ReadSections.{group_step}
use Rattle.machine_readers.proofs.Redirects.{phase_stays, redirect_back}
use Rattle.machine_readers.proofs.Roles.{EndsRole, role_stays}
use Rattle.word_layout.specs.declared.phase.Phase.TheVariants.{Frozen, Open, Opened}

module _ (o : Opening) (t : Execution) (b : ℕ) (d : Action) (valid : Valid o (event b d ∷ t))
    (keeper : ℕ) (quiet : b ≡ keeper → KeepsStructure d) where
  abbrev T : Execution
  T = event b d ∷ t

  -- ---- the keepers of one part are one ----

  one_keeper : (g h : ℕ) → IsGroupKeeper o b g → IsGroupKeeper o keeper h →
      part_of o g ≡ part_of o h → b ≡ keeper
  one_keeper g h mine theirs same = omega (arith, mine, theirs, same)

  -- what would change the structure is another keeper's
  not_of : (e : Action) → d ≡ e → (KeepsStructure e → ⊥) → b ≡ keeper → ⊥
  not_of e is never same = never (subst (λ (y : Action). KeepsStructure y) is (quiet same))

  -- ---- phases, rebuilds and key ranges ----

  -- a group is opened to a rebuild of the part by its keeper alone
  opened_was : (g f : ℕ) → IsGroupKeeper o keeper f → phase g T ≡ Opened f → phase g t ≡ Opened f
  opened_was g f of at = go d refl at
    where
      go : (e : Action) → d ≡ e → phase g (event b e ∷ t) ≡ Opened f → phase g t ≡ Opened f
      go (Freeze h) is now = (opened_back h g Frozen (phase g t) f frozen_not now).1
      go (Thaw h) is now = (opened_back h g Open (phase g t) f open_not now).1
      go (NewGroup h low high i) is now = (begun_back h g (phase g t) f now).2
      go (StoreOpened h i) is now = dite (ℕ_discrete h g)
          (λ (z : h ≡ g).
          let named : part_of o f ≡ part_of o g = opened_in_part o T valid g f at in
          let m = may_as o t b d (StoreOpened h i) is valid.0 in
          absurd (not_of (StoreOpened h i) is (λ s. s)
          (one_keeper h f m.keeper of (ap (part_of o) z ∙ sym named))))
          (λ (n : h ≢ g). sym (choice-other h g (Opened i) (phase g t) n) ∙ now)
      go e is now = now

  -- a new group of the part is begun by its keeper alone
  made_was : (g f : ℕ) → IsGroupKeeper o keeper g → rebuild g T ≡ Some f → rebuild g t ≡ Some f
  made_was g f of from = go d refl from
    where
      go : (e : Action) → d ≡ e → rebuild g (event b e ∷ t) ≡ Some f → rebuild g t ≡ Some f
      go (NewGroup h low high i) is now = dite (ℕ_discrete h g)
          (λ (z : h ≡ g).
          let m = may_as o t b d (NewGroup h low high i) is valid.0 in
          absurd (not_of (NewGroup h low high i) is (λ s. s)
          (one_keeper h g m.keeper of (ap (part_of o) z))))
          (λ (n : h ≢ g). made_back h g (Some i) (rebuild g t) f n now)
      go e is now = now

  -- and stays one of its rebuild
  made_on : (g f : ℕ) → IsGroupKeeper o keeper f → rebuild g t ≡ Some f → rebuild g T ≡ Some f
  made_on g f of from = go d refl
    where
      named : part_of o f ≡ part_of o g
      named = rebuild_in_part o t valid.1 g f from

      go : (e : Action) → d ≡ e → rebuild g (event b e ∷ t) ≡ Some f
      go (NewGroup h low high i) is =
          let m = may_as o t b d (NewGroup h low high i) is valid.0 in
          let other : (j : ℕ) → part_of o j ≡ part_of o f → h ≢ j =
          λ j same z. not_of (NewGroup h low high i) is (λ s. s)
          (one_keeper h f m.keeper of (ap (part_of o) z ∙ same))
          in
          made_still h g (Some i) (rebuild g t) f (other g (sym named)) (λ z. other f refl (sym z)) from
      go e is = from

  -- what answers for a key and is opened did so before
  owner_was : (k g f : ℕ) → phase g t ≡ Opened f → group_of o k T ≡ g → group_of o k t ≡ g
  owner_was k g f at own = go d refl own
    where
      go : (e : Action) → d ≡ e → group_of o k (event b e ∷ t) ≡ g → group_of o k t ≡ g
      go (Install spot lead low high) is now = inner (within low k high) refl now
        where
          inner : (w : Bool) → within low k high ≡ w →
              cond w (or_else (successor k t) (group_of o k t)) (group_of o k t) ≡ g →
              group_of o k t ≡ g
          inner true inside now =
              let m = (may_as o t b d (Install spot lead low high) is valid.0).opened k inside in
              let new : m.1 ≡ g = sym (ap (λ (i : Option ℕ). or_else i (group_of o k t)) m.3) ∙ now in
              open_not (sym m.5 ∙ (ap (λ (i : ℕ). phase i t) new ∙ at))
          inner false outside now = now
      go e is now = now

  -- a group of the part stays in the chain but for an install of its keeper
  owner_on : (k g : ℕ) → IsGroupKeeper o keeper g → group_of o k t ≡ g → group_of o k T ≡ g
  owner_on k g of own = go d refl
    where
      go : (e : Action) → d ≡ e → group_of o k (event b e ∷ t) ≡ g
      go (Install spot lead low high) is = inner (within low k high) refl
        where
          inner : (w : Bool) → within low k high ≡ w →
              cond w (or_else (successor k t) (group_of o k t)) (group_of o k t) ≡ g
          inner true inside =
              let m = may_as o t b d (Install spot lead low high) is valid.0 in
              let range = in_range low high k inside in
              let part : ℕ = part_of_spot o spot in
              let hand = valid.2 in
              let mine = key_between o part low high k m.in_part.0 m.in_part.1 range.0 range.1 in
              let same = group_in_part o t part k valid.1 (omega (arith, hand, m.keeper)) mine in
              let is_mine : IsGroupKeeper o b g =
              m.keeper ∙ ap (λ (p : ℕ). (limits o).callers + p) (sym same ∙ ap (part_of o) own)
              in
              absurd (not_of (Install spot lead low high) is (λ s. s) (one_keeper g g is_mine of refl))
          inner false outside = own
      go e is = own

  -- ---- the first barrier ----

  frozen_on : (g : ℕ) → IsGroupKeeper o keeper g → phase g t ≡ Frozen → phase g T ≡ Frozen
  frozen_on g of frozen = go d refl
    where
      go : (e : Action) → d ≡ e → phase g (event b e ∷ t) ≡ Frozen
      go (Freeze h) is = dite (ℕ_discrete h g)
          (λ (z : h ≡ g). choice-same h g Frozen (phase g t) z)
          (λ (n : h ≢ g). choice-other h g Frozen (phase g t) n ∙ frozen)
      go (Thaw h) is = dite (ℕ_discrete h g)
          (λ (z : h ≡ g). absurd (not_of (Thaw h) is (λ s. s)
          (one_keeper h g (may_as o t b d (Thaw h) is valid.0).keeper of (ap (part_of o) z))))
          (λ (n : h ≢ g). choice-other h g Open (phase g t) n ∙ frozen)
      go (NewGroup h low high i) is = dite (ℕ_discrete h g)
          (λ (z : h ≡ g). absurd (not_of (NewGroup h low high i) is (λ s. s)
          (one_keeper h g (may_as o t b d (NewGroup h low high i) is valid.0).keeper of
          (ap (part_of o) z))))
          (λ (n : h ≢ g). choice-other h g Open (name_used_again h (phase g t)) n
          ∙ ap (name_used_again h) frozen)
      go (StoreOpened h i) is = dite (ℕ_discrete h g)
          (λ (z : h ≡ g). absurd (not_of (StoreOpened h i) is (λ s. s)
          (one_keeper h g (may_as o t b d (StoreOpened h i) is valid.0).keeper of
          (ap (part_of o) z))))
          (λ (n : h ≢ g). choice-other h g (Opened i) (phase g t) n ∙ frozen)
      go e is = frozen

  inserts_step : (g : ℕ) → IsGroupKeeper o keeper g → IsShutForInserts g o t → IsShutForInserts g o T
  inserts_step g of x = record {
    chained = (
      x.chained.0,
      group_step o t b d x.chained.0 g valid.0 (λ f e. frozen_not (sym x.frozen ∙ e)) x.chained.1,
    );
    frozen = frozen_on g of x.frozen;
    past = λ h f at from.
        let was = made_was g f of from in
        let named : part_of o f ≡ part_of o g = rebuild_in_part o t valid.1 g f was in
        let of_f : IsGroupKeeper o keeper f =
        of ∙ ap (λ (p : ℕ). (limits o).callers + p) (sym named)
        in
        gone_on o t b d valid.0 (opened_groups_hold o t valid.1) h f (opened_was h f of_f at)
        (λ j e. x.past j f e was);
  }

  -- ---- the second barrier ----

  -- a slot in use that names a group out of the chain was in use before
  use_was : (h part side i : ℕ) → ((k : ℕ) → group_of o k t ≢ h) → slot o part side i t ≡ h →
      IsInUse (root o part T) side i → IsInUse (root o part t) side i
  use_was h part side i unowned names now = go d refl now
    where
      go : (e : Action) → d ≡ e → IsInUse (root o part (event b e ∷ t)) side i →
          IsInUse (root o part t) side i
      go (StoreRoot q w) is now = dite (ℕ_discrete q part)
          (λ (z : q ≡ part).
          let stored : IsInUse w side i =
          subst (λ (y : ℕ). IsInUse y side i) (choice-same q part w (root o part t) z) now
          in
          let c = (may_as o t b d (StoreRoot q w) is valid.0).chained side i stored in
          absurd (unowned c.0 (c.2 ∙ ap (λ (p : ℕ). slot o p side i t) z ∙ names)))
          (λ (n : q ≢ part).
          subst (λ (y : ℕ). IsInUse y side i) (choice-other q part w (root o part t) n) now)
      go e is now = now

  old_groups_step : (f : ℕ) → IsGroupKeeper o keeper f → IsShutForOldGroups f o t →
      IsShutForOldGroups f o T
  old_groups_step f of x = record {
    unowned = λ k e.
        let was = opened_was (group_of o k T) f of e in
        let own = owner_was k (group_of o k T) f was refl in
        x.unowned k (ap (λ (y : ℕ). phase y t) own ∙ was);
    unnamed = λ part side i r e.
        let h : ℕ = slot o part side i T in
        let was : phase h t ≡ Opened f = opened_was h f of e in
        let unowned : (k : ℕ) → group_of o k t ≢ h =
        λ k own. x.unowned k (ap (λ (y : ℕ). phase y t) own ∙ was)
        in
        let named = named_back o t b d valid.0 h f was unowned part side i (inl r) refl in
        x.unnamed part side i (use_was h part side i unowned named.1 r)
        (ap (λ (y : ℕ). phase y t) named.1 ∙ was);
    installed =
        let y = x.installed in
        let named : part_of o f ≡ part_of o y.1 = rebuild_in_part o t valid.1 y.1 f y.2 in
        let of_new : IsGroupKeeper o keeper y.1 =
        of ∙ ap (λ (p : ℕ). (limits o).callers + p) named
        in
        (y.0, y.1, made_on y.1 f of y.2, owner_on y.0 y.1 of_new y.3);
  }

  -- ---- the third barrier ----

  -- the part's keeper alone changes what a place of the part is
  place_on : (p g k : ℕ) → IsGroupKeeper o keeper g → IsInGroup o t g k p → IsInGroup o T g k p
  place_on p g k of s = ⊎_elim
      (λ (z : role o p T ≡ role o p t).
      ⊎_elim (λ (w : role o p t ≡ InArray g k). inl (z ∙ w))
      (λ (w : role o p t ≡ InBuffer g k). inr (z ∙ w)) s)
      (λ (z : EndsRole o t p d). ⊎_elim
      (λ (w : (n : ℕ) × (d ≡ Retire p n)).
      let m = (may_as o t b d (Retire p w.0) w.1 valid.0).keeper in
      absurd (not_of (Retire p w.0) w.1 (λ s. s)
      (one_keeper m.0 g m.3 of (ap (part_of o) (one_group o t m.0 g m.1 k p m.2 s)))))
      (λ (w : (h : ℕ) × (low : ℕ) × (high : ℕ) × (f : ℕ) × (j : ℕ) ×
      (d ≡ NewGroup h low high f) × (role o p t ≡ InArray h j)).
      let m = may_as o t b d (NewGroup w.0 w.1 w.2 w.3) w.5 valid.0 in
      absurd (not_of (NewGroup w.0 w.1 w.2 w.3) w.5 (λ s. s)
      (one_keeper w.0 g m.keeper of (ap (part_of o) (one_group o t w.0 g w.4 k p (inl w.6) s))))) z)
      (role_stays o t b d p k valid.0 (in_group_keyed o t g k p s))

  -- and what a group of the part is opened to
  opened_on : (g f : ℕ) → IsGroupKeeper o keeper g → phase g t ≡ Opened f → phase g T ≡ Opened f
  opened_on g f of at = ⊎_elim
      (λ (z : phase g T ≡ Opened f). z)
      (λ (z : (h : ℕ) × (low : ℕ) × (high : ℕ) × (i : ℕ) × (d ≡ NewGroup h low high i)
      × ((h ≡ g) ⊎ (h ≡ f))).
      let m = may_as o t b d (NewGroup z.0 z.1 z.2 z.3) z.4 valid.0 in
      let named : part_of o f ≡ part_of o g = opened_in_part o t valid.1 g f at in
      let same : part_of o z.0 ≡ part_of o g =
      ⊎_elim (λ (y : z.0 ≡ g). ap (part_of o) y) (λ (y : z.0 ≡ f). ap (part_of o) y ∙ named) z.5
      in
      absurd (not_of (NewGroup z.0 z.1 z.2 z.3) z.4 (λ s. s) (one_keeper z.0 g m.keeper of same)))
      (phase_stays o t b d g f valid.0 at)

  old_place_step : (p : ℕ) → KeepsPlace o t keeper p → IsShutForOldPlace p o t →
      KeepsPlace o T keeper p × IsShutForOldPlace p o T
  old_place_step p mine x =
      let y = x.old in
      let g : ℕ = y.0 in
      let f : ℕ = y.1 in
      let k : ℕ = y.2 in
      let same : mine.0 ≡ g = one_group o t mine.0 g mine.1 k p mine.2 y.3 in
      let of : IsGroupKeeper o keeper g = subst (λ (i : ℕ). IsGroupKeeper o keeper i) same mine.3 in
      let named : part_of o f ≡ part_of o g = opened_in_part o t valid.1 g f y.4 in
      let of_f : IsGroupKeeper o keeper f =
      of ∙ ap (λ (p : ℕ). (limits o).callers + p) (sym named)
      in
      let here : IsInGroup o T g k p = place_on p g k of y.3 in (
        (g, k, here, of),
        record {
          no_target = λ a z e. no_target g k of y.3 a z e;
          old = (
            g,
            f,
            k,
            here,
            opened_on g f of y.4,
            λ j e.
                gone_on o t b d valid.0 (opened_groups_hold o t valid.1) j f
                (opened_was j f of_f e) y.5,
          );
        },
      )
    where
      no_target : (g k : ℕ) → IsGroupKeeper o keeper g → IsInGroup o t g k p → (a z : ℕ) →
          form o a T ≢ Redirect p z
      no_target g k of s a z e = ⊎_elim
          (λ (w : (i : ℕ) × (form o a t ≡ Redirect p i)). x.no_target a w.0 w.1)
          (λ (w : (h : ℕ) × (j : ℕ) × (d ≡ StoreRedirect h a j p)).
          let m = may_as o t b d (StoreRedirect w.0 a w.1 p) w.2 valid.0 in
          let part = successor_of_part o t w.1 w.0 valid.1 m.belongs in
          let same = one_group o t (group_of o w.1 t) g w.1 k p m.source s in
          not_of (StoreRedirect w.0 a w.1 p) w.2 (λ s. s)
          (one_keeper w.0 g m.keeper of (part ∙ ap (part_of o) same)))
          (redirect_back o t b d a p z e)

  -- ---- the roots ----

  side_step : (part side : ℕ) → IsPartKeeper o keeper part → IsShutForSide part side o t →
      IsShutForSide part side o T
  side_step part side of x i r = go d refl r
    where
      go : (e : Action) → d ≡ e → IsInUse (root o part (event b e ∷ t)) side i → ⊥
      go (StoreRoot q w) is now = dite (ℕ_discrete q part)
          (λ (z : q ≡ part).
          let m = may_as o t b d (StoreRoot q w) is valid.0 in
          let mine = m.keeper in
          not_of (StoreRoot q w) is (λ s. s) (omega (arith, mine, of, z)))
          (λ (n : q ≢ part).
          x i (subst (λ (y : ℕ). IsInUse y side i) (choice-other q part w (root o part t) n) now))
      go e is now = x i now

-- ---- from the mark to the check ----

module _ (o : Opening) (keeper : ℕ) (Mine Shut : Execution → Type 0)
    (step : (t : Execution) (b : ℕ) (d : Action) → Valid o (event b d ∷ t) →
    (b ≡ keeper → KeepsStructure d) → Mine t → Shut t →
    Mine (event b d ∷ t) × Shut (event b d ∷ t)) where
  over : (n t : Execution) → Valid o (n ++ t) → KeeperKeepsStructure keeper n → Mine t → Shut t →
      IsShutOver Shut n t × (Mine (n ++ t) × Shut (n ++ t))
  over [] t valid quiet mine x = (tt, (mine, x))
  over (e ∷ n) t valid quiet mine x = let r = over n t valid.1 quiet.1 mine x in (
    (r.1.1, r.0),
    step (n ++ t) e.by e.action valid quiet.0 r.1.0 r.1.1,
  )

pub inserts_over : (o : Opening) (keeper g : ℕ) (n t : Execution) → Valid o (n ++ t) →
    IsGroupKeeper o keeper g → KeeperKeepsStructure keeper n → IsShutForInserts g o t →
    IsShutOver (IsShutForInserts g o) n t
inserts_over o keeper g n t valid of quiet x =
    (over o keeper (λ t. IsGroupKeeper o keeper g) (IsShutForInserts g o)
    (λ t b d valid quiet of x. (of, inserts_step o t b d valid keeper quiet g of x))
    n t valid quiet of x).0

pub old_groups_over : (o : Opening) (keeper f : ℕ) (n t : Execution) → Valid o (n ++ t) →
    IsGroupKeeper o keeper f → KeeperKeepsStructure keeper n → IsShutForOldGroups f o t →
    IsShutOver (IsShutForOldGroups f o) n t × IsShutForOldGroups f o (n ++ t)
old_groups_over o keeper f n t valid of quiet x =
    let r = over o keeper (λ t. IsGroupKeeper o keeper f) (IsShutForOldGroups f o)
    (λ t b d valid quiet of x. (of, old_groups_step o t b d valid keeper quiet f of x))
    n t valid quiet of x in
    (r.0, r.1.1)

pub old_place_over : (o : Opening) (keeper p : ℕ) (n t : Execution) → Valid o (n ++ t) →
    KeepsPlace o t keeper p → KeeperKeepsStructure keeper n → IsShutForOldPlace p o t →
    IsShutOver (IsShutForOldPlace p o) n t
old_place_over o keeper p n t valid mine quiet x =
    (over o keeper (λ t. KeepsPlace o t keeper p) (IsShutForOldPlace p o)
    (λ t b d valid quiet mine x. old_place_step o t b d valid keeper quiet p mine x)
    n t valid quiet mine x).0

pub side_over : (o : Opening) (keeper part side : ℕ) (n t : Execution) → Valid o (n ++ t) →
    IsPartKeeper o keeper part → KeeperKeepsStructure keeper n → IsShutForSide part side o t →
    IsShutOver (IsShutForSide part side o) n t × IsShutForSide part side o (n ++ t)
side_over o keeper part side n t valid of quiet x =
    let r = over o keeper (λ t. IsPartKeeper o keeper part) (IsShutForSide part side o)
    (λ t b d valid quiet of x. (of, side_step o t b d valid keeper quiet part side of x))
    n t valid quiet of x in
    (r.0, r.1.1)
