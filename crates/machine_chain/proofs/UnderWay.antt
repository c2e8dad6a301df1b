-- What stands of a rebuild from its first opened group to its install.
use Rattle.std.proofs.Common.{arith, ◌<◌, ◌≡◌, ◌≢◌, ℕ, ◌+◌, ◌≤◌, ◌⊎◌, inl, inr, ⊎_elim, Some, true, false}
use Rattle.std.proofs.Common.{[], ◌∷◌, refl, sym, ap, ◌∙◌, subst}
use mathlib.Core.Logic.{dite}
use native.Mathlib.Decide.{ℕ_discrete}
use Rattle.index_machine.proofs.OfParts.{group_in_part, key_in_part, opened_exist, opened_in_part, other_phase}
use Rattle.index_machine.proofs.OfParts.{other_rebuild, other_successor, outside_install, rebuild_in_part}
use Rattle.index_machine.proofs.OfParts.{rebuilt_exist, spot_is_part, successor_in_part}
use Rattle.index_machine.specs.Keepers.{IsPart, IsKeyIn, last_key, part_of}
use Rattle.index_machine.specs.Words.{shape}
use Rattle.word_layout.specs.Shape.{group_total}
use Rattle.word_layout.proofs.PartGroups.{group-part}
use Rattle.index_machine.specs.declared.events.InstallWord.TheVariants.{NextOf}
use Rattle.index_machine.proofs.Executions.{choice-other, choice-same}
use Rattle.index_machine.specs.Conditions.{Allowed, Valid}
use Rattle.index_machine.specs.Execution.{Execution, event}
use Rattle.index_machine.specs.Groups.{phase, rebuild}
use Rattle.index_machine.specs.KeyRanges.{group_of, successor}
use Rattle.index_machine.specs.Openings.{within}
use Rattle.index_machine.specs.Permissions.{AreGone, IsGone}
use Rattle.index_machine.specs.RebuildConditions.{HasNewGroup, IsBehindFirst, IsNextWord, MayInstall, part_of_spot}
use Rattle.index_machine.specs.declared.events.Action.{Action}
use Rattle.index_machine.specs.declared.events.Action.TheVariants.{Freeze, Install}
use Rattle.index_machine.specs.declared.events.Action.TheVariants.{NewGroup, Thaw}
use Rattle.index_machine.specs.declared.events.Action.TheVariants.{StoreOpened}
use Rattle.index_machine.specs.declared.events.InstallWord.{InstallWord}
use Rattle.index_machine.specs.declared.opening.Opening.{Opening}
use Rattle.machine_barriers.proofs.OpenedGroups.{begun_back, frozen_not, gone_on, open_not}
use Rattle.machine_barriers.proofs.OpenedGroups.{opened_back, opened_groups_hold, opened_is}
use Rattle.machine_buffers.proofs.OutOfUse.{frozen_are_chained, group_in, group_out}
use Rattle.machine_chain.proofs.Cases.{in_or_out, both_ways}
use Rattle.machine_chain.proofs.Words.{next_same, pivot_same}
use Rattle.machine_chain.specs.Chain.{IsUnderWay, UnderWayHolds, next_of, pivot_of}
use Rattle.word_layout.specs.declared.phase.Phase.TheVariants.{Frozen, Open, Opened}

-- in a part, what is opened after an action that opens none was opened before
abbrev pub OpensNoneIn : Opening → ℕ → Execution → ℕ → Action → Type 0
OpensNoneIn o part t b d =
    (g f : ℕ) → part_of o g ≡ part → phase g (event b d ∷ t) ≡ Opened f → phase g t ≡ Opened f

-- all groups of a rebuild that were gone stay gone where none more is opened to it
pub all_gone_on : (o : Opening) (t : Execution) (b : ℕ) (d : Action) (f : ℕ) → Valid o t →
    Allowed o t b d → ((g : ℕ) → phase g (event b d ∷ t) ≡ Opened f → phase g t ≡ Opened f) →
    AreGone o f t → AreGone o f (event b d ∷ t)
all_gone_on o t b d f valid may back all g at =
    gone_on o t b d may (opened_groups_hold o t valid) g f (back g at) all

-- an action that changes no key range and no new group of the rebuild's part, and opens none there
module _ (o : Opening) (t : Execution) (b : ℕ) (d : Action) (f : ℕ)
    (now_valid : Valid o (event b d ∷ t)) (back : OpensNoneIn o (part_of o f) t b d)
    (groups : (k : ℕ) → IsKeyIn o (part_of o f) k → group_of o k (event b d ∷ t) ≡ group_of o k t)
    (news : (k : ℕ) → IsKeyIn o (part_of o f) k → successor k (event b d ∷ t) ≡ successor k t)
    (made : (g : ℕ) → part_of o g ≡ part_of o f → rebuild g (event b d ∷ t) ≡ rebuild g t)
    (no_new : (g low high i : ℕ) → part_of o g ≡ part_of o f → d ≢ NewGroup g low high i)
    (no_install : (g lead low high : ℕ) → part_of o g ≡ part_of o f →
    d ≢ Install (NextOf g) lead low high)
    (under : IsUnderWay o f (event b d ∷ t)) (old : IsUnderWay o f t → UnderWayHolds o f t) where
  abbrev pub T : Execution
  T = event b d ∷ t

  valid : Valid o t
  valid = now_valid.1

  may : Allowed o t b d
  may = now_valid.0

  -- a key whose group is opened to the rebuild is of its part
  of_part : (k : ℕ) → phase (group_of o k T) T ≡ Opened f → IsKeyIn o (part_of o f) k
  of_part k e =
      subst (λ (part : ℕ). IsKeyIn o part k) (sym (opened_in_part o T now_valid (group_of o k T) f e))
      (key_in_part o T k now_valid (opened_exist o T now_valid (group_of o k T) f e))

  opened_before : (k : ℕ) → phase (group_of o k T) T ≡ Opened f →
      phase (group_of o k t) t ≡ Opened f
  opened_before k e =
      ap (λ (y : ℕ). phase y t) (sym (groups k (of_part k e)))
      ∙ back (group_of o k T) f (sym (opened_in_part o T now_valid (group_of o k T) f e)) e

  was : UnderWayHolds o f t
  was = old (under.0, opened_before under.0 under.1)

  -- a key with a new group of the rebuild's part is of the part
  new_part : (k g : ℕ) → part_of o g ≡ part_of o f → successor k t ≡ Some g →
      IsKeyIn o (part_of o f) k
  new_part k g same e =
      subst (λ (part : ℕ). IsKeyIn o part k) same (successor_in_part o t k g valid e)

  made_part : (g : ℕ) → rebuild g t ≡ Some f → part_of o g ≡ part_of o f
  made_part g e = sym (rebuild_in_part o t valid g f e)

  made_part_now : (g : ℕ) → rebuild g T ≡ Some f → part_of o g ≡ part_of o f
  made_part_now g e = sym (rebuild_in_part o T now_valid g f e)

  -- a new group of the rebuild was one before
  made_before : (g : ℕ) → rebuild g T ≡ Some f → rebuild g t ≡ Some f
  made_before g e = sym (made g (made_part_now g e)) ∙ e

  new_before : (k g : ℕ) → rebuild g T ≡ Some f → successor k T ≡ Some g → successor k t ≡ Some g
  new_before k g e s =
      sym (news k (subst (λ (part : ℕ). IsKeyIn o part k) (made_part_now g e)
      (successor_in_part o T k g now_valid s))) ∙ s

  pivot_on : (k g : ℕ) → part_of o g ≡ part_of o f → successor k t ≡ Some g →
      pivot_of o g T ≡ pivot_of o g t
  pivot_on k g same e = pivot_same o t b d g may (λ gone s u. u k e)
      (λ low high i m z. no_new g low high i same z)

  next_on : (k g : ℕ) → part_of o g ≡ part_of o f → successor k t ≡ Some g →
      next_of o g T ≡ next_of o g t
  next_on k g same e = ⊎_elim (λ (z : next_of o g T ≡ next_of o g t). z)
      (λ z. absurd (no_install g z.0 z.1 z.2 same z.3))
      (next_same o t b d g may (λ gone s u. u k e))

  has_new : (k : ℕ) → HasNewGroup f k t → HasNewGroup f k T
  has_new k m =
      let same = made_part m.0 m.2 in
      (m.0, news k (new_part k m.0 same m.1) ∙ m.1, made m.0 same ∙ m.2)

  had_new : (k : ℕ) → HasNewGroup f k T → HasNewGroup f k t
  had_new k m = (m.0, new_before k m.0 m.2 m.1, made_before m.0 m.2)

  alone : (g e : ℕ) → part_of o g ≡ part_of o f → phase g T ≡ Opened e →
      ((e ≡ f) × ((k : ℕ) × (group_of o k T ≡ g))) ⊎ AreGone o e T
  alone g e same at =
      let part : part_of o e ≡ part_of o f = opened_in_part o T now_valid g e at ∙ same in
      ⊎_elim
      (λ (z : (e ≡ f) × ((k : ℕ) × (group_of o k t ≡ g))).
      let key : IsKeyIn o (part_of o f) z.1.0 =
      subst (λ (p : ℕ). IsKeyIn o p z.1.0) (ap (part_of o) z.1.1 ∙ same)
      (key_in_part o t z.1.0 valid
      (subst (λ (n : ℕ). n < group_total (shape o)) (sym z.1.1) (opened_exist o T now_valid g e at)))
      in
      inl (z.0, (z.1.0, groups z.1.0 key ∙ z.1.1)))
      (λ (z : AreGone o e t).
      inr (all_gone_on o t b d e valid may
      (λ i x. back i e (sym (opened_in_part o T now_valid i e x) ∙ part) x) z))
      (was.alone g e same (back g e same at))

  pub under_way_kept : UnderWayHolds o f T
  under_way_kept = record {
    alone = alone;
    planned = λ k e. has_new k (was.planned k (opened_before k e));
    unchained = λ k h e z.
        let same = made_part_now h e in
        let exists = subst (λ (n : ℕ). n < group_total (shape o)) (sym z)
        (rebuilt_exist o T now_valid h f e)
        in
        let key : IsKeyIn o (part_of o f) k =
        subst (λ (p : ℕ). IsKeyIn o p k) (ap (part_of o) z ∙ same)
        (key_in_part o T k now_valid exists)
        in
        was.unchained k h (made_before h e) (sym (groups k key) ∙ z);
    behind = λ k e.
        let m = was.behind k (opened_before k e) in
        let first = m.1 in
        let same : pivot_of o f T ≡ pivot_of o f t = pivot_on (pivot_of o f t) f refl first in
        subst (λ (y : ℕ). (y ≤ k) × (successor y T ≡ Some f)
        × ((j : ℕ) → y ≤ j → j ≤ k → HasNewGroup f j T)) (sym same) (
          m.0,
          news (pivot_of o f t) (new_part (pivot_of o f t) f refl first) ∙ first,
          λ j a c. has_new j (m.2 j a c),
        );
    chained = λ k g h mg mh sg sh n.
        let sg' = new_before k g mg sg in
        let sh' = new_before (k + 1) h mh sh in
        let m = was.chained k g h (made_before g mg) (made_before h mh) sg' sh' n in (
          next_on k g (made_part_now g mg) sg' ∙ m.0,
          pivot_on (k + 1) h (made_part_now h mh) sh' ∙ m.1,
        );
    ends = λ k h sh mh none.
        let sh' = new_before k h mh sh in
        let same = made_part_now h mh in
        let m = was.ends k h sh' (made_before h mh) (λ z. none (has_new (k + 1) z)) in
        ⊎_elim
        (λ (z : (k ≡ last_key o (part_of o f)) × (next_of o h t ≡ 0)).
        inl (z.0, next_on k h same sh' ∙ z.1))
        (λ (z : (k < last_key o (part_of o f)) × (next_of o h t ≡ group_of o (k + 1) t + 1)).
        let here = new_part k h same sh' in
        let there : IsKeyIn o (part_of o f) (k + 1) =
        record { from = omega (arith, here.from); to = omega (arith, z.0) }
        in
        inr (
          z.0,
          next_on k h same sh'
              ∙ (z.1 ∙ ap (λ (y : ℕ). y + 1) (sym (groups (k + 1) there))),
        )) m;
  }

-- as a group is opened
opened_step : (o : Opening) (t : Execution) (b h i f : ℕ) → Valid o (event b (StoreOpened h i) ∷ t) →
    part_of o f ≡ part_of o h → IsUnderWay o f (event b (StoreOpened h i) ∷ t) →
    (IsUnderWay o f t → UnderWayHolds o f t) → UnderWayHolds o f (event b (StoreOpened h i) ∷ t)
opened_step o t b h i f now_valid in_part under old =
    subst (λ (y : ℕ). UnderWayHolds o y T) (sym same) holds
  where
    valid : Valid o t
    valid = now_valid.1

    may : Allowed o t b (StoreOpened h i)
    may = now_valid.0

    T : Execution
    T = event b (StoreOpened h i) ∷ t

    -- the rebuild is of the part of the group that is opened
    named_part : part_of o i ≡ part_of o h
    named_part = opened_in_part o T now_valid h i (choice-same h h (Opened i) (phase h t) refl)

    -- what is opened is this group, or was before
    was : (g e : ℕ) → phase g T ≡ Opened e →
        ((h ≡ g) × (i ≡ e)) ⊎ ((h ≢ g) × (phase g t ≡ Opened e))
    was g e at = dite (ℕ_discrete h g)
        (λ (z : h ≡ g). inl (z, opened_is (sym (choice-same h g (Opened i) (phase g t) z) ∙ at)))
        (λ (n : h ≢ g). inr (n, sym (choice-other h g (Opened i) (phase g t) n) ∙ at))

    same : f ≡ i
    same = ⊎_elim (λ (z : (h ≡ group_of o under.0 t) × (i ≡ f)). sym z.1)
        (λ (z : (h ≢ group_of o under.0 t) × (phase (group_of o under.0 t) t ≡ Opened f)). ⊎_elim
        (λ (y : f ≡ i). y)
        (λ (y : IsGone o (group_of o under.0 t) t). absurd (y.unowned under.0 refl))
        (may.only (group_of o under.0 t) f
        (sym (opened_in_part o T now_valid (group_of o under.0 t) f under.1) ∙ in_part) z.1))
        (was (group_of o under.0 t) f under.1)

    alone : (g e : ℕ) → part_of o g ≡ part_of o i → phase g T ≡ Opened e →
        ((e ≡ i) × ((k : ℕ) × (group_of o k t ≡ g))) ⊎ AreGone o e T
    alone g e part at = dite (ℕ_discrete e i)
        (λ (z : e ≡ i). inl (
          z,
          ⊎_elim
              (λ (y : (h ≡ g) × (i ≡ e)).
              let c = frozen_in in (c.0, c.1 ∙ y.0))
              (λ (y : (h ≢ g) × (phase g t ≡ Opened e)).
              may.siblings g (y.1 ∙ ap (λ (x : ℕ). Opened x) z)) (was g e at),
        ))
        (λ (n : e ≢ i). inr (λ j then. go n j (was j e then)))
      where
        frozen_in : (k : ℕ) × (group_of o k t ≡ h)
        frozen_in = frozen_are_chained o t valid h may.frozen

        back : e ≢ i → (j : ℕ) → phase j T ≡ Opened e → phase j t ≡ Opened e
        back n j x = ⊎_elim (λ (y : (h ≡ j) × (i ≡ e)). absurd (n (sym y.1)))
            (λ (y : (h ≢ j) × (phase j t ≡ Opened e)). y.1) (was j e x)

        all : e ≢ i → AreGone o e t
        all n j x = ⊎_elim (λ (y : e ≡ i). absurd (n y)) (λ (y : IsGone o j t). y)
            (may.only j e
            (sym (opened_in_part o t valid j e x) ∙ (opened_in_part o T now_valid g e at
            ∙ (part ∙ named_part))) x)

        go : e ≢ i → (j : ℕ) → ((h ≡ j) × (i ≡ e)) ⊎ ((h ≢ j) × (phase j t ≡ Opened e)) →
            IsGone o j T
        go n j x = ⊎_elim (λ (y : (h ≡ j) × (i ≡ e)). absurd (n (sym y.1)))
            (λ (y : (h ≢ j) × (phase j t ≡ Opened e)).
            gone_on o t b (StoreOpened h i) may (opened_groups_hold o t valid) j e y.1 (all n)) x

    -- a group of the chain that is opened by now is planned for
    here : (k : ℕ) → phase (group_of o k t) T ≡ Opened i →
        HasNewGroup i k t × IsBehindFirst o i k t
    here k at = ⊎_elim
        (λ (z : (h ≡ group_of o k t) × (i ≡ i)).
        (may.planned k (sym z.0), may.behind k (sym z.0)))
        (λ (z : (h ≢ group_of o k t) × (phase (group_of o k t) t ≡ Opened i)).
        let x : f ≡ i = same in
        let o' = old (k, z.1 ∙ ap (λ (y : ℕ). Opened y) (sym x)) in
        let at' : phase (group_of o k t) t ≡ Opened f = z.1 ∙ ap (λ (y : ℕ). Opened y) (sym x) in (
          subst (λ (y : ℕ). HasNewGroup y k t) x (o'.planned k at'),
          subst (λ (y : ℕ). IsBehindFirst o y k t) x (o'.behind k at'),
        ))
        (was (group_of o k t) i at)

    holds : UnderWayHolds o i T
    holds = record {
      alone = alone;
      planned = λ k at. (here k at).0;
      unchained = λ k g e. may.unchained k g e;
      behind = λ k at. behind_on k ((here k at).1);
      chained = λ k g j mg mj sg sj n.
          let m = may.chained k g j mg mj sg sj n in
          (next_on k g sg ∙ m.0, pivot_on (k + 1) j sj ∙ m.1);
      ends = λ k g sg mg none.
          let m = may.ends k g sg mg none in
          subst (λ (part : ℕ). IsNextWord o T part k (next_of o g T)) (sym named_part)
          (⊎_elim
          (λ (z : (k ≡ last_key o (part_of o h)) × (next_of o g t ≡ 0)).
          inl (z.0, next_on k g sg ∙ z.1))
          (λ (z : (k < last_key o (part_of o h)) × (next_of o g t ≡ group_of o (k + 1) t + 1)).
          inr (z.0, next_on k g sg ∙ z.1)) m);
    }
      where
        pivot_on : (k g : ℕ) → successor k t ≡ Some g → pivot_of o g T ≡ pivot_of o g t
        pivot_on k g e = pivot_same o t b (StoreOpened h i) g may (λ gone s u. u k e)
            (λ low high j m z. let bad = z in cc)

        next_on : (k g : ℕ) → successor k t ≡ Some g → next_of o g T ≡ next_of o g t
        next_on k g e = ⊎_elim (λ (z : next_of o g T ≡ next_of o g t). z)
            (λ z. let bad = z.3 in cc)
            (next_same o t b (StoreOpened h i) g may (λ gone s u. u k e))

        behind_on : (k : ℕ) → IsBehindFirst o i k t → IsBehindFirst o i k T
        behind_on k m =
            let eq : pivot_of o i T ≡ pivot_of o i t = pivot_on (pivot_of o i t) i m.1 in
            subst (λ (y : ℕ). (y ≤ k) × (successor y t ≡ Some i)
            × ((j : ℕ) → y ≤ j → j ≤ k → HasNewGroup i j t)) (sym eq) m

-- after an install no rebuild is under way in its part
pub none_after : (o : Opening) (t : Execution) (b : ℕ) (spot : InstallWord) (lead low high f : ℕ) →
    Valid o (event b (Install spot lead low high) ∷ t) → part_of o f ≡ part_of_spot o spot →
    ((e : ℕ) → IsUnderWay o e t → UnderWayHolds o e t) →
    IsUnderWay o f (event b (Install spot lead low high) ∷ t) → ⊥
none_after o t b spot lead low high f now_valid in_part old under =
    go (in_or_out (within low under.0 high))
  where
    T : Execution
    T = event b (Install spot lead low high) ∷ t

    may : MayInstall o t b spot lead low high
    may = now_valid.0

    go : (within low under.0 high ≡ true) ⊎ (within low under.0 high ≡ false) → ⊥
    go w = ⊎_elim
        (λ (is : within low under.0 high ≡ true).
        let m = may.opened under.0 is in
        let now : group_of o under.0 T ≡ m.1 =
        group_in o t b spot lead low high under.0 m.1 is m.3 in
        open_not (sym m.5 ∙ (ap (λ (y : ℕ). phase y t) (sym now) ∙ under.1)))
        (λ (out : within low under.0 high ≡ false).
        let same : group_of o under.0 T ≡ group_of o under.0 t =
        group_out o t b spot lead low high under.0 out in
        let at : phase (group_of o under.0 t) t ≡ Opened f =
        ap (λ (y : ℕ). phase y t) (sym same) ∙ under.1 in
        let here = may.first.0 in
        let m = may.opened low here in
        let of_low : part_of o (group_of o low t) ≡ part_of_spot o spot =
        group_in_part o t (part_of_spot o spot) low now_valid.1
        (spot_is_part o t b spot lead low high now_valid.2 may) may.in_part.0
        in
        let part : part_of o (group_of o under.0 t) ≡ part_of o m.0 =
        sym (opened_in_part o t now_valid.1 (group_of o under.0 t) f at)
        ∙ (in_part ∙ (sym of_low ∙ sym (opened_in_part o t now_valid.1 (group_of o low t) m.0 m.2)))
        in
        let z = (old m.0 (low, m.2)).alone (group_of o under.0 t) f part at in
        ⊎_elim
        (λ (y : (f ≡ m.0) × ((k : ℕ) × (group_of o k t ≡ group_of o under.0 t))).
        both_ways (may.all_old low under.0 m.0 here m.2
        (at ∙ ap (λ (x : ℕ). Opened x) y.0)) out)
        (λ (y : AreGone o f t). (y (group_of o under.0 t) at).unowned under.0 refl) z)
        w

-- a beginning in the part of a rebuild under way is refused
begun_under : (o : Opening) (t : Execution) (b h low high i f : ℕ) →
    Valid o (event b (NewGroup h low high i) ∷ t) → part_of o f ≡ part_of o h →
    IsUnderWay o f (event b (NewGroup h low high i) ∷ t) → ⊥
begun_under o t b h low high i f now_valid same under =
    let T : Execution = event b (NewGroup h low high i) ∷ t in
    let w = begun_back h (group_of o under.0 t) (phase (group_of o under.0 t) t) f under.1 in
    let exists = opened_exist o t now_valid.1 (group_of o under.0 t) f w.2 in
    let part = opened_in_part o t now_valid.1 (group_of o under.0 t) f w.2 in
    now_valid.0.idle under.0 f
    (subst (λ (p : ℕ). IsKeyIn o p under.0) (sym part ∙ same)
    (key_in_part o t under.0 now_valid.1 exists)) w.2

-- a rebuild under way is of a part of the table
under_part : (o : Opening) (t : Execution) (b : ℕ) (d : Action) (f : ℕ) → Valid o (event b d ∷ t) →
    IsUnderWay o f (event b d ∷ t) → IsPart o (part_of o f)
under_part o t b d f valid under =
    let T : Execution = event b d ∷ t in
    subst (IsPart o) (sym (opened_in_part o T valid (group_of o under.0 T) f under.1))
    (group-part (shape o) (group_of o under.0 T)
    (opened_exist o T valid (group_of o under.0 T) f under.1))

under_way_step : (o : Opening) (t : Execution) (b : ℕ) (d : Action) → Valid o (event b d ∷ t) →
    ((f : ℕ) → IsUnderWay o f t → UnderWayHolds o f t) → (f : ℕ) →
    IsUnderWay o f (event b d ∷ t) → UnderWayHolds o f (event b d ∷ t)
under_way_step o t b (StoreOpened h i) valid old f under =
    dite (ℕ_discrete (part_of o f) (part_of o h))
    (λ (same : part_of o f ≡ part_of o h). opened_step o t b h i f valid same under (old f))
    (λ (apart : part_of o f ≢ part_of o h).
    under_way_kept o t b (StoreOpened h i) f valid
    (λ g e part at. sym (choice-other h g (Opened i) (phase g t)
    (λ z. apart (sym part ∙ ap (part_of o) (sym z)))) ∙ at)
    (λ k in_part. refl) (λ k in_part. refl) (λ g part. refl)
    (λ g low high x part z. let bad = z in cc)
    (λ g lead low high part z. let bad = z in cc) under (old f))
under_way_step o t b (NewGroup h low high i) valid old f under =
    let there : IsPart o (part_of o f) = under_part o t b (NewGroup h low high i) f valid under in
    dite (ℕ_discrete (part_of o f) (part_of o h))
    (λ (same : part_of o f ≡ part_of o h). absurd (begun_under o t b h low high i f valid same under))
    (λ (apart : part_of o f ≢ part_of o h).
    under_way_kept o t b (NewGroup h low high i) f valid
    (λ g e part at.
    sym (other_phase o t b h low high i g valid.1 (λ z. apart (sym part ∙ z))) ∙ at)
    (λ k in_part. refl)
    (λ k in_part. other_successor o t b h low high i (part_of o f) k valid.1 valid.0 there in_part
    apart)
    (λ g part. other_rebuild o t b h low high i g valid.1 (λ z. apart (sym part ∙ z)))
    (λ g l r x part z. apart (sym part ∙ ap (part_of o) (new_is z)))
    (λ g lead l r part z. let bad = z in cc) under (old f))
  where
    new_is : {g h l r x a c e : ℕ} → NewGroup h a c e ≡ NewGroup g l r x → g ≡ h
    new_is e = cc
under_way_step o t b (Install spot lead low high) valid old f under =
    let there : IsPart o (part_of o f) =
    under_part o t b (Install spot lead low high) f valid under
    in
    dite (ℕ_discrete (part_of o f) (part_of_spot o spot))
    (λ (same : part_of o f ≡ part_of_spot o spot).
    absurd (none_after o t b spot lead low high f valid same old under))
    (λ (apart : part_of o f ≢ part_of_spot o spot).
    under_way_kept o t b (Install spot lead low high) f valid
    (λ g e part at. at)
    (λ k in_part. group_out o t b spot lead low high k
    (outside_install o t b spot lead low high (part_of o f) k valid.2 valid.0 there in_part apart))
    (λ k in_part. refl) (λ g part. refl) (λ g l r x part z. let bad = z in cc)
    (λ g l lo hi part z. apart (sym part ∙ ap (part_of_spot o) (sym (spot_is z)))) under (old f))
  where
    spot_is : {s r : InstallWord} {a c e x y z : ℕ} → Install s a c e ≡ Install r x y z → s ≡ r
    spot_is e = cc
under_way_step o t b (Freeze h) valid old f under =
    under_way_kept o t b (Freeze h) f valid
    (λ g e part at. (opened_back h g Frozen (phase g t) e frozen_not at).1)
    (λ k in_part. refl) (λ k in_part. refl) (λ g part. refl)
    (λ g low high i part z. let bad = z in cc)
    (λ g lead low high part z. let bad = z in cc) under (old f)
under_way_step o t b (Thaw h) valid old f under =
    under_way_kept o t b (Thaw h) f valid
    (λ g e part at. (opened_back h g Open (phase g t) e open_not at).1)
    (λ k in_part. refl) (λ k in_part. refl) (λ g part. refl)
    (λ g low high i part z. let bad = z in cc)
    (λ g lead low high part z. let bad = z in cc) under (old f)
under_way_step o t b d valid old f under =
    under_way_kept o t b d f valid
    (λ g e part at. at)
    (λ k in_part. refl) (λ k in_part. refl) (λ g part. refl)
    (λ g low high i part z. let bad = z in cc)
    (λ g lead low high part z. let bad = z in cc) under (old f)

pub under_way_holds : (o : Opening) (t : Execution) → Valid o t → (f : ℕ) → IsUnderWay o f t →
    UnderWayHolds o f t
under_way_holds o [] valid f under = open_not under.1
under_way_holds o (e ∷ t) valid f under =
    under_way_step o t e.by e.action valid (under_way_holds o t valid.1) f under
