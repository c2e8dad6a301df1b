-- The old groups of a rebuild lead as they did before the install, until they are gone.
use Rattle.std.proofs.Common.{◌≡◌, ◌≢◌, ℕ, ◌+◌, ◌⊎◌, inl, inr, ⊎_elim, Some, None}
use Rattle.std.proofs.Common.{true, false, [], ◌∷◌, refl, sym, ap, ◌∙◌, subst, arith}
use mathlib.Core.Logic.{dite}
use native.Mathlib.Decide.{ℕ_discrete}
use Rattle.index_machine.proofs.OfParts.{before_in_part, group_in_part, key_between, opened_in_part, spot_is_part}
use Rattle.index_machine.specs.Keepers.{part_of}
use Rattle.index_machine.specs.Sections.{IsHand}
use Rattle.index_machine.specs.RebuildConditions.{part_of_spot}
use Rattle.index_machine.specs.Words.{shape}
use Rattle.word_layout.specs.Parts.{part_with}
use Rattle.word_layout.proofs.PartGroups.{part_with-key}
use Rattle.machine_chain.proofs.PartKeys.{key_lies, next_part, same_part}
use Rattle.machine_chain.proofs.Chained.{install_part}
use Rattle.index_machine.proofs.Executions.{choice-other}
use Rattle.index_machine.specs.Conditions.{Allowed, Valid}
use Rattle.index_machine.specs.Execution.{Execution, event}
use Rattle.index_machine.specs.Groups.{phase, rebuild}
use Rattle.index_machine.specs.KeyRanges.{group_of, predecessor, remembered, successor}
use Rattle.index_machine.specs.KeyRanges.{unless_opened}
use Rattle.index_machine.specs.Openings.{within}
use Rattle.index_machine.specs.Permissions.{AreGone, IsGone}
use Rattle.index_machine.specs.RebuildConditions.{IsSettled, MayInstall}
use Rattle.index_machine.specs.declared.events.Action.{Action}
use Rattle.index_machine.specs.declared.events.Action.TheVariants.{Freeze, Install, NewGroup}
use Rattle.index_machine.specs.declared.events.Action.TheVariants.{StoreHeader, StoreOpened, Thaw}
use Rattle.index_machine.specs.declared.events.InstallWord.{InstallWord}
use Rattle.index_machine.specs.declared.events.InstallWord.TheVariants.{NextOf}
use Rattle.index_machine.specs.declared.opening.Opening.{Opening}
use Rattle.machine_barriers.proofs.OpenedGroups.{begun_back, frozen_not, gone_on, open_not}
use Rattle.machine_barriers.proofs.OpenedGroups.{opened_back, opened_groups_hold, opened_is}
use Rattle.machine_buffers.proofs.OutOfUse.{group_in, group_out}
use Rattle.machine_chain.proofs.Before.{before_else, before_is, old_or_not}
use Rattle.machine_chain.proofs.Chained.{before_low, groups_chained, install_pivot}
use Rattle.machine_chain.proofs.Chained.{left_of}
use Rattle.machine_chain.proofs.Keys.{before_in, before_out, install_spot, old_unchained}
use Rattle.index_machine.proofs.Ranges.{in_range}
use Rattle.machine_chain.proofs.Cases.{both_ways, in_or_out, opened_or_not}
use Rattle.machine_chain.proofs.Cases.{no_open_frozen, no_open_open}
use Rattle.machine_chain.proofs.UnderWay.{all_gone_on, under_way_holds}
use Rattle.machine_chain.proofs.Words.{ChangesNext, ChangesPivot, chained_pivot, next_kept}
use Rattle.machine_chain.proofs.Words.{next_same, pivot_kept}
use Rattle.machine_chain.specs.Chain.{IsOldOf, OldAreChained, group_before, next_of}
use Rattle.machine_chain.specs.Chain.{pivot_of}
use Rattle.index_machine.proofs.Options.{some_is}
use Rattle.machine_readers.proofs.InstalledRedirects.{remembered_back}
use Rattle.machine_readers.proofs.Redirects.{phase_stays}
use Rattle.machine_readers.proofs.StandingCallers.{groups_before_are_opened}
use Rattle.word_layout.specs.declared.headers.HeaderWord.{HeaderWord}
use Rattle.word_layout.specs.declared.headers.HeaderWord.TheVariants as header
use Rattle.word_layout.specs.declared.phase.Phase.{Phase}
use Rattle.word_layout.specs.declared.phase.Phase.TheVariants.{Frozen, Open, Opened}

-- ---- what keeps them ----

module _ (o : Opening) (t : Execution) (b : ℕ) (d : Action) (f : ℕ) (valid : Valid o t)
    (may : Allowed o t b d)
    (groups : (k : ℕ) → part_with (shape o).bounds k ≡ part_of o f →
    group_of o k (event b d ∷ t) ≡ group_of o k t)
    (back : (k g : ℕ) → IsOldOf o f k g (event b d ∷ t) → IsOldOf o f k g t)
    (forth : (k g : ℕ) → IsOldOf o f k g t → IsOldOf o f k g (event b d ∷ t))
    (next_on : (k g : ℕ) → IsOldOf o f k g t →
    next_of o g (event b d ∷ t) ≡ next_of o g t)
    (pivot_on : (k g : ℕ) → IsOldOf o f k g t →
    pivot_of o g (event b d ∷ t) ≡ pivot_of o g t) where
  abbrev pub T : Execution
  T = event b d ∷ t

  -- a key that an old group had is of the rebuild's part
  of_part : (k g : ℕ) → IsOldOf o f k g t → part_with (shape o).bounds k ≡ part_of o f
  of_part k g is =
      sym (before_in_part o t valid k g is.0).1 ∙ sym (opened_in_part o t valid g f is.1)

  before_same : (k : ℕ) → part_with (shape o).bounds k ≡ part_of o f →
      group_before o f k T ≡ group_before o f k t
  before_same k part = ⊎_elim
      (λ (z : (g : ℕ) × IsOldOf o f k g t).
      before_is o f k z.0 T (forth k z.0 z.1) ∙ sym (before_is o f k z.0 t z.1))
      (λ (nope : (g : ℕ) → IsOldOf o f k g t → ⊥).
      before_else o f k T (λ g is. nope g (back k g is))
      ∙ (groups k part ∙ sym (before_else o f k t nope)))
      (old_or_not o f k t)

  before_pivot : (k h : ℕ) → group_before o f k t ≡ h → pivot_of o h T ≡ pivot_of o h t
  before_pivot k h e = ⊎_elim
      (λ (z : (g : ℕ) × IsOldOf o f k g t).
      let same : z.0 ≡ h = sym (before_is o f k z.0 t z.1) ∙ e in
      subst (λ (y : ℕ). pivot_of o y T ≡ pivot_of o y t) same (pivot_on k z.0 z.1))
      (λ (nope : (g : ℕ) → IsOldOf o f k g t → ⊥).
      chained_pivot o t b d h k may (sym (before_else o f k t nope) ∙ e))
      (old_or_not o f k t)

  pub old_kept : OldAreChained o f t → OldAreChained o f T
  old_kept old = record {
    next = λ k g h lt is at n.
        let was = back k g is in
        let at' : group_before o f (k + 1) t ≡ h =
        sym (before_same (k + 1) (next_part o k lt ∙ of_part k g was)) ∙ at
        in
        let m = old.next k g h lt was at' n in
        (next_on k g was ∙ m.0, before_pivot (k + 1) h at' ∙ m.1);
    left = λ k g lt is n.
        let was = back (k + 1) g is in
        pivot_on (k + 1) g was
        ∙ old.left k g lt was
        (λ z. n (before_same k (sym (next_part o k lt) ∙ of_part (k + 1) g was) ∙ z));
    least = λ k g starts is. pivot_on k g (back k g is) ∙ old.least k g starts (back k g is);
    last = λ k g ends is. next_on k g (back k g is) ∙ old.last k g ends (back k g is);
    lead = λ k g is.
        let was = back k g is in
        let m = old.lead k g was in
        let most = (before_in_part o t valid k g was.0).0 in
        let same = same_part o k m.0 m.3 (let lies = key_lies o k most in omega (arith, m.1, lies.1)) in
        (m.0, m.1, groups m.0 (same ∙ of_part k g was) ∙ m.2, m.3);
  }

-- ---- at an install ----

module _ (o : Opening) (t : Execution) (b : ℕ) (spot : InstallWord) (lead low high : ℕ)
    (valid : Valid o t) (is_hand : IsHand o b) (may : MayInstall o t b spot lead low high) where
  abbrev pub U : Execution
  U = event b (Install spot lead low high) ∷ t

  abbrev pub named : ℕ
  named = (may.opened low may.first.0).0

  opened_low : phase (group_of o low t) t ≡ Opened named
  opened_low = (may.opened low may.first.0).2

  not_gone : {X : Type 0} → AreGone o named t → X
  not_gone all = absurd ((all (group_of o low t) opened_low).unowned low refl)

  -- the rebuild is of the part
  named_part : part_of o named ≡ part_of_spot o spot
  named_part =
      opened_in_part o t valid (group_of o low t) named opened_low
      ∙ group_in_part o t (part_of_spot o spot) low valid
      (spot_is_part o t b spot lead low high is_hand may) may.in_part.0

  -- all groups of the part that are opened are of this rebuild, or gone
  is_named : (g f : ℕ) → part_of o g ≡ part_of_spot o spot → phase g t ≡ Opened f →
      (f ≡ named) ⊎ AreGone o f t
  is_named g f part at = ⊎_elim (λ (z : (f ≡ named) × ((k : ℕ) × (group_of o k t ≡ g))). inl z.0)
      (λ (z : AreGone o f t). inr z)
      ((under_way_holds o t valid named (low, opened_low)).alone g f (part ∙ sym named_part) at)

  of_spot : (k : ℕ) → within low k high ≡ true → part_of o (group_of o k t) ≡ part_of_spot o spot
  of_spot k here =
      let r = in_range low high k here in
      group_in_part o t (part_of_spot o spot) k valid
      (spot_is_part o t b spot lead low high is_hand may)
      (key_between o (part_of_spot o spot) low high k may.in_part.0 may.in_part.1 r.0 r.1)

  opened_in : (k : ℕ) → within low k high ≡ true → phase (group_of o k t) t ≡ Opened named
  opened_in k here = let m = may.opened k here in
      ⊎_elim (λ (z : m.0 ≡ named). m.2 ∙ ap (λ (y : ℕ). Opened y) z)
      (λ (z : AreGone o m.0 t). absurd ((z (group_of o k t) m.2).unowned k refl))
      (is_named (group_of o k t) m.0 (of_spot k here) m.2)

  was_in : (k g : ℕ) → IsOldOf o named k g U →
      (within low k high ≡ true) × (group_of o k t ≡ g)
  was_in k g is = ⊎_elim
      (λ (here : within low k high ≡ true).
      (here, some_is (sym (before_in o t b spot lead low high k here) ∙ is.0)))
      (λ (out : within low k high ≡ false).
      let was : predecessor o k t ≡ Some g =
      sym (before_out o t b spot lead low high k out) ∙ is.0 in
      absurd (⊎_elim
      (λ (z : (named ≡ named) × ((j : ℕ) × (group_of o j t ≡ g))).
      old_unchained o t valid k g z.1.0 was z.1.1)
      (λ (z : AreGone o named t). not_gone z)
      ((under_way_holds o t valid named (low, opened_low)).alone g named
      (sym (opened_in_part o t valid g named is.1)) is.1)))
      (in_or_out (within low k high))

  was_before : (k : ℕ) → group_before o named k U ≡ group_of o k t
  was_before k = ⊎_elim
      (λ (here : within low k high ≡ true).
      before_is o named k (group_of o k t) U
      (before_in o t b spot lead low high k here, opened_in k here))
      (λ (out : within low k high ≡ false).
      before_else o named k U (λ g is. both_ways (was_in k g is).0 out)
      ∙ group_out o t b spot lead low high k out)
      (in_or_out (within low k high))

  next_was : (k g : ℕ) → within low k high ≡ true → group_of o k t ≡ g →
      next_of o g U ≡ next_of o g t
  next_was k g here is = ⊎_elim (λ (z : next_of o g U ≡ next_of o g t). z)
      (λ z. let l = left_of o t b spot lead low high g may (install_spot z.3) in
      both_ways here (may.whole k l.0 (is ∙ sym l.2)
      ∙ before_low low high l.0 l.0 l.1 (omega arith)))
      (next_same o t b (Install spot lead low high) g may (λ gone s u. gone.unowned k is))

  old_install : OldAreChained o named U
  old_install =
      let chain = groups_chained o t valid in
      record {
        next = λ k g h lt is at n.
            let w = was_in k g is in
            let at' : group_of o (k + 1) t ≡ h = sym (was_before (k + 1)) ∙ at in
            let m = chain.next k g h lt w.1 at' n in
            (next_was k g w.0 w.1 ∙ m.0, install_pivot o t b spot lead low high h ∙ m.1);
        left = λ k g lt is n.
            let w = was_in (k + 1) g is in
            let m = chain.next k (group_of o k t) g lt refl w.1 (λ z. n (was_before k ∙ z)) in
            install_pivot o t b spot lead low high g ∙ m.1;
        least = λ k g starts is.
            install_pivot o t b spot lead low high g ∙ chain.first k g starts (was_in k g is).1;
        last = λ k g ends is. let w = was_in k g is in
            next_was k g w.0 w.1 ∙ chain.last k g ends w.1;
        lead = λ k g is.
            let r = in_range low high k (was_in k g is).0 in
            let m = may.opened low may.first.0 in
            let new : m.1 ≡ lead = some_is (sym m.3 ∙ may.first.1) in
            let name : lead ≡ named =
            some_is (sym may.named ∙ (ap (λ (y : ℕ). rebuild y t) (sym new) ∙ m.4)) in
            let starts = (install_part o t b spot lead low high k is_hand may r.0 r.1).0 in
            let from = may.in_part.0.from in (
              low,
              r.0,
              group_in o t b spot lead low high low lead may.first.0 may.first.1 ∙ name,
              omega (arith, starts, from),
            );
      }

  -- the old groups of a rebuild of another part stay as they are
  elsewhere : (f : ℕ) → part_of o f ≢ part_of_spot o spot → OldAreChained o f t → OldAreChained o f U
  elsewhere f apart old =
      old_kept o t b (Install spot lead low high) f valid may
      (λ k part. group_out o t b spot lead low high k (out k part))
      (λ k g is. back k g is (in_or_out (within low k high)))
      (λ k g is. (before_out o t b spot lead low high k (out k (was_part k g is)) ∙ is.0, is.1))
      (λ k g is. ⊎_elim (λ (z : next_of o g U ≡ next_of o g t). z)
      (λ (y : ChangesNext g (Install spot lead low high)). absurd (⊎_elim
      (λ x. let bad = x.1 in cc)
      (λ (x : (l : ℕ) × (s : ℕ) × (e : ℕ) × (Install spot lead low high ≡ Install (NextOf g) l s e)).
      apart (opened_in_part o t valid g f is.1 ∙ sym (ap (part_of_spot o) (install_spot x.3)))) y))
      (next_kept o t b (Install spot lead low high) g))
      (λ k g is. install_pivot o t b spot lead low high g) old
    where
      was_part : (k g : ℕ) → IsOldOf o f k g t → part_with (shape o).bounds k ≡ part_of o f
      was_part k g is =
          sym (before_in_part o t valid k g is.0).1 ∙ sym (opened_in_part o t valid g f is.1)

      out : (k : ℕ) → part_with (shape o).bounds k ≡ part_of o f → within low k high ≡ false
      out k part = ⊎_elim
          (λ (here : within low k high ≡ true).
          let r = in_range low high k here in
          let theirs =
          part_with-key (shape o).bounds (part_of_spot o spot) k o.layout.cut
          (spot_is_part o t b spot lead low high is_hand may)
          (key_between o (part_of_spot o spot) low high k may.in_part.0 may.in_part.1 r.0 r.1)
          in
          absurd (apart (sym part ∙ theirs)))
          (λ (no : within low k high ≡ false). no) (in_or_out (within low k high))

      back : (k g : ℕ) → IsOldOf o f k g U → (within low k high ≡ true) ⊎ (within low k high ≡ false) →
          IsOldOf o f k g t
      back k g is w = ⊎_elim
          (λ (here : within low k high ≡ true).
          let was : group_of o k t ≡ g =
          some_is (sym (before_in o t b spot lead low high k here) ∙ is.0)
          in
          absurd (apart (opened_in_part o t valid g f is.1
          ∙ (ap (part_of o) (sym was) ∙ of_spot k here))))
          (λ (no : within low k high ≡ false).
          (sym (before_out o t b spot lead low high k no) ∙ is.0, is.1)) w

  pub after_install : (f : ℕ) → AreGone o f t ⊎ OldAreChained o f t →
      AreGone o f U ⊎ OldAreChained o f U
  after_install f old = dite (ℕ_discrete f named)
      (λ (z : f ≡ named). inr (subst (λ (y : ℕ). OldAreChained o y U) (sym z) old_install))
      (λ (n : f ≢ named). dite (ℕ_discrete (part_of o f) (part_of_spot o spot))
      (λ (same : part_of o f ≡ part_of_spot o spot).
      inl (λ g at. ⊎_elim (λ (z : f ≡ named). absurd (n z))
      (λ (all : AreGone o f t). gone_on o t b (Install spot lead low high) may
      (opened_groups_hold o t valid) g f at all)
      (is_named g f (sym (opened_in_part o t valid g f at) ∙ same) at)))
      (λ (apart : part_of o f ≢ part_of_spot o spot). ⊎_elim
      (λ (all : AreGone o f t).
      inl (all_gone_on o t b (Install spot lead low high) f valid may (λ g e. e) all))
      (λ (z : OldAreChained o f t). inr (elsewhere f apart z)) old))

-- ---- the other actions ----

-- an action after which the same groups are opened, and that stores no header
module _ (o : Opening) (t : Execution) (b : ℕ) (d : Action) (f : ℕ) (valid : Valid o t)
    (may : Allowed o t b d)
    (groups : (k : ℕ) → group_of o k (event b d ∷ t) ≡ group_of o k t)
    (olds : (k : ℕ) → predecessor o k (event b d ∷ t) ≡ predecessor o k t)
    (phases : (g : ℕ) → phase g (event b d ∷ t) ≡ Opened f → phase g t ≡ Opened f)
    (no_header : (g v : ℕ) (which : HeaderWord) → d ≢ StoreHeader g which v)
    (no_new : (g low high i : ℕ) → d ≢ NewGroup g low high i)
    (no_install : (spot : InstallWord) (lead low high : ℕ) → d ≢ Install spot lead low high) where
  pub old_on : AreGone o f t ⊎ OldAreChained o f t →
      AreGone o f (event b d ∷ t) ⊎ OldAreChained o f (event b d ∷ t)
  old_on old = ⊎_elim
      (λ (all : AreGone o f t). inl (all_gone_on o t b d f valid may (λ g e. phases g e) all))
      (λ (z : OldAreChained o f t). inr (old_kept o t b d f valid may (λ k part. groups k)
      (λ k g is. (sym (olds k) ∙ is.0, phases g is.1))
      (λ k g is. (
        olds k ∙ is.0,
        ⊎_elim (λ (y : phase g (event b d ∷ t) ≡ Opened f). y)
            (λ y. absurd (no_new y.0 y.1 y.2 y.3 y.4)) (phase_stays o t b d g f may is.1),
      ))
      (λ k g is. ⊎_elim (λ (y : next_of o g (event b d ∷ t) ≡ next_of o g t). y)
      (λ (y : ChangesNext g d). absurd (⊎_elim
      (λ (x : (v : ℕ) × (d ≡ StoreHeader g header.Next v)). no_header g x.0 header.Next x.1)
      (λ (x : (lead : ℕ) × (low : ℕ) × (high : ℕ) × (d ≡ Install (NextOf g) lead low high)).
      no_install (NextOf g) x.0 x.1 x.2 x.3) y)) (next_kept o t b d g))
      (λ k g is. ⊎_elim (λ (y : pivot_of o g (event b d ∷ t) ≡ pivot_of o g t). y)
      (λ (y : ChangesPivot g d). absurd (⊎_elim
      (λ (x : (v : ℕ) × (d ≡ StoreHeader g header.Pivot v)). no_header g x.0 header.Pivot x.1)
      (λ (x : (low : ℕ) × (high : ℕ) × (i : ℕ) × (d ≡ NewGroup g low high i)).
      no_new g x.0 x.1 x.2 x.3) y)) (pivot_kept o t b d g)) z)) old

header_group : {h g v w : ℕ} {x y : HeaderWord} → StoreHeader h x v ≡ StoreHeader g y w → h ≡ g
header_group e = cc

old_header : (o : Opening) (t : Execution) (b h v f : ℕ) (which : HeaderWord) → Valid o t →
    Allowed o t b (StoreHeader h which v) → AreGone o f t ⊎ OldAreChained o f t →
    AreGone o f (event b (StoreHeader h which v) ∷ t)
    ⊎ OldAreChained o f (event b (StoreHeader h which v) ∷ t)
old_header o t b h v f which valid may old = ⊎_elim
    (λ (at : phase h t ≡ Opened f). ⊎_elim
    (λ (z : IsGone o h t × IsSettled o h t × ((k : ℕ) → successor k t ≢ Some h)).
    inl (on (z.1 f at)))
    (λ z. no_open_open z.0 at) may.stage)
    (λ (n : phase h t ≢ Opened f). ⊎_elim (λ (all : AreGone o f t). inl (on all))
    (λ (z : OldAreChained o f t). inr (old_kept o t b (StoreHeader h which v) f valid may (λ k part. refl)
    (λ k g is. is) (λ k g is. is)
    (λ k g is. ⊎_elim (λ (y : next_of o g T ≡ next_of o g t). y)
    (λ (y : ChangesNext g (StoreHeader h which v)). absurd (⊎_elim
    (λ (x : (w : ℕ) × (StoreHeader h which v ≡ StoreHeader g header.Next w)).
    n (ap (λ (y : ℕ). phase y t) (header_group x.1) ∙ is.1))
    (λ x. let bad = x.3 in cc) y)) (next_kept o t b (StoreHeader h which v) g))
    (λ k g is. ⊎_elim (λ (y : pivot_of o g T ≡ pivot_of o g t). y)
    (λ (y : ChangesPivot g (StoreHeader h which v)). absurd (⊎_elim
    (λ (x : (w : ℕ) × (StoreHeader h which v ≡ StoreHeader g header.Pivot w)).
    n (ap (λ (y : ℕ). phase y t) (header_group x.1) ∙ is.1))
    (λ x. let bad = x.3 in cc) y)) (pivot_kept o t b (StoreHeader h which v) g)) z)) old)
    (opened_or_not f (phase h t))
  where
    T : Execution
    T = event b (StoreHeader h which v) ∷ t

    on : AreGone o f t → AreGone o f T
    on all = all_gone_on o t b (StoreHeader h which v) f valid may (λ g e. e) all

new_group_is : {h g a b c x y z : ℕ} → NewGroup h a b c ≡ NewGroup g x y z → h ≡ g
new_group_is e = cc

old_new : (o : Opening) (t : Execution) (b n low high i f : ℕ) → Valid o t →
    Allowed o t b (NewGroup n low high i) → AreGone o f t ⊎ OldAreChained o f t →
    AreGone o f (event b (NewGroup n low high i) ∷ t)
    ⊎ OldAreChained o f (event b (NewGroup n low high i) ∷ t)
old_new o t b n low high i f valid may old = dite (ℕ_discrete f n)
    (λ (z : f ≡ n). inl (λ g at. absurd ((begun_back n g (phase g t) f at).1 z)))
    (λ (unlike : f ≢ n). ⊎_elim
    (λ (at : phase n t ≡ Opened f). inl (on (may.settled f at)))
    (λ (not_old : phase n t ≢ Opened f). ⊎_elim (λ (all : AreGone o f t). inl (on all))
    (λ (z : OldAreChained o f t). inr (old_kept o t b (NewGroup n low high i) f valid may (λ k part. refl)
    (λ k g is. (
      (remembered_back t b n low high i g (predecessor o k t) is.0).0,
      (begun_back n g (phase g t) f is.1).2,
    ))
    (λ k g is. (remember unlike not_old k g is, still unlike not_old g is.1))
    (λ k g is. ⊎_elim (λ (y : next_of o g T ≡ next_of o g t). y)
    (λ (y : ChangesNext g (NewGroup n low high i)). absurd (⊎_elim
    (λ x. let bad = x.1 in cc) (λ x. let bad = x.3 in cc) y))
    (next_kept o t b (NewGroup n low high i) g))
    (λ k g is. ⊎_elim (λ (y : pivot_of o g T ≡ pivot_of o g t). y)
    (λ (y : ChangesPivot g (NewGroup n low high i)). absurd (⊎_elim
    (λ x. let bad = x.1 in cc)
    (λ (x : (u : ℕ) × (v : ℕ) × (w : ℕ) × (NewGroup n low high i ≡ NewGroup g u v w)).
    not_old (ap (λ (y : ℕ). phase y t) (new_group_is x.3) ∙ is.1)) y))
    (pivot_kept o t b (NewGroup n low high i) g)) z)) old)
    (opened_or_not f (phase n t)))
  where
    T : Execution
    T = event b (NewGroup n low high i) ∷ t

    on : AreGone o f t → AreGone o f T
    on all = all_gone_on o t b (NewGroup n low high i) f valid may
        (λ g e. (begun_back n g (phase g t) f e).2) all

    other : phase n t ≢ Opened f → (g : ℕ) → phase g t ≡ Opened f → g ≢ n
    other not_old g at z = not_old (ap (λ (y : ℕ). phase y t) (sym z) ∙ at)

    still : f ≢ n → phase n t ≢ Opened f → (g : ℕ) → phase g t ≡ Opened f → phase g T ≡ Opened f
    still unlike not_old g at = ⊎_elim (λ (y : phase g T ≡ Opened f). y)
        (λ y. absurd (⊎_elim
        (λ (x : y.0 ≡ g). other not_old g at (sym x ∙ sym (new_group_is y.4)))
        (λ (x : y.0 ≡ f). unlike (sym x ∙ sym (new_group_is y.4))) y.5))
        (phase_stays o t b (NewGroup n low high i) g f may at)

    remember : f ≢ n → phase n t ≢ Opened f → (k g : ℕ) → IsOldOf o f k g t →
        predecessor o k T ≡ Some g
    remember unlike not_old k g is =
        ap (remembered n (λ j. phase j t)) is.0
        ∙ (choice-other g n None (unless_opened n (phase g t) g) (other not_old g is.1)
        ∙ (ap (λ (j : Phase). unless_opened n j g) is.1
        ∙ choice-other f n None (Some g) unlike))

old_opened : (o : Opening) (t : Execution) (b h i f : ℕ) → Valid o t →
    Allowed o t b (StoreOpened h i) → AreGone o f t ⊎ OldAreChained o f t →
    AreGone o f (event b (StoreOpened h i) ∷ t)
    ⊎ OldAreChained o f (event b (StoreOpened h i) ∷ t)
old_opened o t b h i f valid may old = dite (ℕ_discrete i f)
    (λ (z : i ≡ f). inr (nothing z))
    (λ (n : i ≢ f).
    old_on o t b (StoreOpened h i) f valid may (λ k. refl) (λ k. refl)
    (λ g at. (opened_back h g (Opened i) (phase g t) f (λ z. n (opened_is z)) at).1)
    (λ g v which z. let bad = z in cc) (λ g low high x z. let bad = z in cc)
    (λ spot lead low high z. let bad = z in cc) old)
  where
    T : Execution
    T = event b (StoreOpened h i) ∷ t

    none : i ≡ f → (k g : ℕ) → IsOldOf o f k g T → ⊥
    none z k g is =
        let p = groups_before_are_opened o t valid k g is.0 in
        let other : h ≢ g = λ y. no_open_frozen may.frozen (ap (λ (x : ℕ). phase x t) y ∙ p.1) in
        let was : phase g t ≡ Opened f =
        sym (choice-other h g (Opened i) (phase g t) other) ∙ is.1 in
        let c = may.siblings g (was ∙ ap (λ (x : ℕ). Opened x) (sym z)) in
        old_unchained o t valid k g c.0 is.0 c.1

    nothing : i ≡ f → OldAreChained o f T
    nothing z = record {
      next = λ k g h lt is at n. absurd (none z k g is);
      left = λ k g lt is n. absurd (none z (k + 1) g is);
      least = λ k g starts is. absurd (none z k g is);
      last = λ k g ends is. absurd (none z k g is);
      lead = λ k g is. absurd (none z k g is);
    }

old_step : (o : Opening) (t : Execution) (b : ℕ) (d : Action) (f : ℕ) → Valid o (event b d ∷ t) →
    AreGone o f t ⊎ OldAreChained o f t →
    AreGone o f (event b d ∷ t) ⊎ OldAreChained o f (event b d ∷ t)
old_step o t b (Install spot lead low high) f valid old =
    after_install o t b spot lead low high valid.1 valid.2 valid.0 f old
old_step o t b (StoreOpened h i) f valid old = old_opened o t b h i f valid.1 valid.0 old
old_step o t b (NewGroup n low high i) f valid old =
    old_new o t b n low high i f valid.1 valid.0 old
old_step o t b (StoreHeader h which v) f valid old =
    old_header o t b h v f which valid.1 valid.0 old
old_step o t b (Freeze h) f valid old = old_on o t b (Freeze h) f valid.1 valid.0 (λ k. refl)
    (λ k. refl) (λ g e. (opened_back h g Frozen (phase g t) f frozen_not e).1)
    (λ g v which z. let bad = z in cc) (λ g low high i z. let bad = z in cc)
    (λ spot lead low high z. let bad = z in cc) old
old_step o t b (Thaw h) f valid old = old_on o t b (Thaw h) f valid.1 valid.0 (λ k. refl)
    (λ k. refl) (λ g e. (opened_back h g Open (phase g t) f open_not e).1)
    (λ g v which z. let bad = z in cc) (λ g low high i z. let bad = z in cc)
    (λ spot lead low high z. let bad = z in cc) old
old_step o t b d f valid old = old_on o t b d f valid.1 valid.0 (λ k. refl) (λ k. refl)
    (λ g e. e) (λ g v which z. let bad = z in cc) (λ g low high i z. let bad = z in cc)
    (λ spot lead low high z. let bad = z in cc) old

pub old_chained : (o : Opening) (t : Execution) → Valid o t → (f : ℕ) →
    AreGone o f t ⊎ OldAreChained o f t
old_chained o [] valid f = inl (λ g at. open_not at)
old_chained o (e ∷ t) valid f =
    old_step o t e.by e.action f valid (old_chained o t valid.1 f)
