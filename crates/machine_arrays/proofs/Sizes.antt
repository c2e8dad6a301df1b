-- The words for the size and the line error of a group that answers for a key, or did, are those of the keys
-- of its array.
use Rattle.std.proofs.Common.{◌≡◌, ◌≢◌, ℕ, ◌⊎◌, inl, inr, ⊎_elim, Some, true, false, [], ◌∷◌, ◌++◌}
use Rattle.std.proofs.Common.{length, refl, sym, ap, ◌∙◌, subst}
use Rattle.index_machine.proofs.Executions.{choice-same, valid_before}
use Rattle.index_machine.proofs.Options.{some_is}
use Rattle.index_machine.specs.Conditions.{Allowed, Valid}
use Rattle.index_machine.specs.Execution.{Execution, event}
use Rattle.index_machine.specs.Groups.{name_used_again, phase}
use Rattle.index_machine.specs.KeyRanges.{group_of, predecessor, successor}
use Rattle.index_machine.specs.Openings.{within}
use Rattle.index_machine.specs.Permissions.{IsGone, IsReplaced}
use Rattle.index_machine.specs.RebuildConditions.{IsLateHeader, IsSettled, IsSized}
use Rattle.index_machine.specs.declared.events.Action.{Action}
use Rattle.index_machine.specs.declared.events.Action.TheVariants.{Install, NewGroup, StoreHeader}
use Rattle.index_machine.specs.declared.events.Action.TheVariants.{StoreRedirect}
use Rattle.index_machine.specs.declared.events.InstallWord.{InstallWord}
use Rattle.index_machine.specs.declared.opening.Opening.{Opening}
use Rattle.machine_arrays.proofs.Changes.{changes_or_not, left_step, same_now, same_sized, same_trans}
use Rattle.machine_arrays.proofs.Keys.{has_keys_now, keys_are}
use Rattle.machine_arrays.proofs.Opened.{opened_sized}
use Rattle.machine_arrays.specs.Arrays.{array_keys}
use Rattle.line_window.specs.Line.{error_of}
use Rattle.machine_arrays.specs.Sizes.{ArraysInUseAreSized, ArraysOfTheChainAreSized}
use Rattle.machine_arrays.specs.Sizes.{ArraysStayWhereCallersStand, ArraysWhereCallersStandAreSized}
use Rattle.machine_arrays.specs.Sizes.{ChangesArray, LoadsMeetOneArray, SizesAreOfTheKeys}
use Rattle.machine_barriers.proofs.OpenedGroups.{open_not}
use Rattle.machine_barriers.proofs.Reaches.{may_as}
use Rattle.machine_buffers.proofs.OutOfUse.{group_in, group_out, out_on}
use Rattle.machine_buffers.specs.Groups.{Begins, IsOutOfUse}
use Rattle.machine_chain.proofs.Cases.{in_or_out}
use Rattle.machine_chain.proofs.Keys.{before_in, before_out}
use Rattle.machine_chain.proofs.Walking.{answers_while}
use Rattle.machine_chain.specs.Walks.{AnswersFor}
use Rattle.machine_readers.proofs.InstalledRedirects.{remembered_back}
use Rattle.machine_readers.proofs.ReadSections.{stands_in_on}
use Rattle.machine_readers.proofs.StandingCallers.{groups_before_are_opened}
use Rattle.word_layout.specs.declared.headers.HeaderWord.{HeaderWord}
use Rattle.word_layout.specs.declared.headers.HeaderWord.TheVariants as header
use Rattle.word_layout.specs.declared.phase.Phase.TheVariants.{Open}

-- ---- who answers after an action ----

-- a group that an install brings
abbrev pub IsBrought : Execution → ℕ → ℕ → Action → Type 0
IsBrought t k g d =
    (spot : InstallWord) × (lead : ℕ) × (low : ℕ) × (high : ℕ)
    × (d ≡ Install spot lead low high) × (within low k high ≡ true) × (successor k t ≡ Some g)

-- a group that answers for a key, or did, was so before, or the install brings it
answers_back : (o : Opening) (t : Execution) (b : ℕ) (d : Action) (k g : ℕ) → Allowed o t b d →
    AnswersFor o k g (event b d ∷ t) → AnswersFor o k g t ⊎ IsBrought t k g d
answers_back o t b (Install spot lead low high) k g may a = ⊎_elim
    (λ (here : within low k high ≡ true). ⊎_elim
    (λ (z : group_of o k (event b (Install spot lead low high) ∷ t) ≡ g).
    let m = may.opened k here in
    let same : m.1 ≡ g = sym (group_in o t b spot lead low high k m.1 here m.3) ∙ z in
    inr (spot, lead, low, high, refl, here, m.3 ∙ ap Some same))
    (λ (z : predecessor o k (event b (Install spot lead low high) ∷ t) ≡ Some g).
    inl (inl (some_is (sym (before_in o t b spot lead low high k here) ∙ z)))) a)
    (λ (out : within low k high ≡ false). inl (⊎_elim
    (λ (z : group_of o k (event b (Install spot lead low high) ∷ t) ≡ g).
    inl (sym (group_out o t b spot lead low high k out) ∙ z))
    (λ (z : predecessor o k (event b (Install spot lead low high) ∷ t) ≡ Some g).
    inr (sym (before_out o t b spot lead low high k out) ∙ z)) a))
    (in_or_out (within low k high))
answers_back o t b (NewGroup h low high f) k g may a = inl (⊎_elim
    (λ (z : group_of o k t ≡ g). inl z)
    (λ (z : predecessor o k (event b (NewGroup h low high f) ∷ t) ≡ Some g).
    inr (remembered_back t b h low high f g (predecessor o k t) z).0) a)
answers_back o t b d k g may a = inl a

-- ---- what changes the array of such a group ----

-- a group that had a key before is not open
not_open : {X : Type 0} (o : Opening) (t : Execution) (k g : ℕ) → Valid o t →
    predecessor o k t ≡ Some g → phase g t ≡ Open → X
not_open o t k g valid was e = open_not (sym e ∙ (groups_before_are_opened o t valid k g was).1)

-- an action that changes the array of a group which answers for a key, or did, begins it anew, or refills the
-- header of one that is out of use
pub changes_used : (o : Opening) (t : Execution) (b : ℕ) (d : Action) (k g : ℕ) → Valid o t →
    Allowed o t b d → AnswersFor o k g t → ChangesArray g d →
    IsGone o g t × (Begins g d ⊎ IsOutOfUse o g t)
changes_used o t b d k g valid may a changes = ⊎_elim
    (λ (z : Begins g d). ((may_as o t b d (NewGroup g z.0 z.1 z.2) z.3 may).gone, inl z))
    (λ (y : ((p : ℕ) × (j : ℕ) × (to : ℕ) × (d ≡ StoreRedirect g p j to))
    ⊎ ((which : HeaderWord) × (value : ℕ) × (d ≡ StoreHeader g which value) × IsLateHeader which)).
    ⊎_elim
    (λ (z : (p : ℕ) × (j : ℕ) × (to : ℕ) × (d ≡ StoreRedirect g p j to)).
    let m = may_as o t b d (StoreRedirect g z.0 z.1 z.2) z.3 may in ⊎_elim
    (λ (x : group_of o k t ≡ g). absurd (m.unowned k x))
    (λ (x : predecessor o k t ≡ Some g). not_open o t k g valid x m.is_open) a)
    (λ (z : (which : HeaderWord) × (value : ℕ) × (d ≡ StoreHeader g which value)
    × IsLateHeader which).
    let m = may_as o t b d (StoreHeader g z.0 z.1) z.2 may in ⊎_elim
    (λ (x : IsGone o g t × IsSettled o g t × ((j : ℕ) → successor j t ≢ Some g)).
    (x.0, inr (record { unowned = m.unowned; unawaited = x.2; settled = x.1 })))
    (λ (x : (phase g t ≡ Open) × IsLateHeader z.0). ⊎_elim
    (λ (u : group_of o k t ≡ g). absurd (m.unowned k u))
    (λ (u : predecessor o k t ≡ Some g). not_open o t k g valid u x.0) a) m.stage) y) changes

-- a group that is begun answers for no key, nor did
begun_open : (o : Opening) (t : Execution) (b : ℕ) (d : Action) (k g : ℕ) →
    Valid o (event b d ∷ t) → Begins g d → AnswersFor o k g (event b d ∷ t) → ⊥
begun_open o t b d k g valid z a =
    let T : Execution = event b d ∷ t in
    let m = may_as o t b d (NewGroup g z.0 z.1 z.2) z.3 valid.0 in ⊎_elim
    (λ (x : group_of o k T ≡ g).
    m.gone.unowned k (ap (λ (y : Action). group_of o k (event b y ∷ t)) (sym z.3) ∙ x))
    (λ (x : predecessor o k T ≡ Some g). not_open o T k g valid x
    (ap (λ (y : Action). phase g (event b y ∷ t)) z.3
    ∙ choice-same g g Open (name_used_again g (phase g t)) refl)) a

-- ---- sizes ----

-- a group that answers for a key, or did, is sized, or out of use
sized_or_out : (o : Opening) (t : Execution) → Valid o t → (k g : ℕ) → AnswersFor o k g t →
    IsSized o g t ⊎ IsOutOfUse o g t
sized_or_out o [] valid k g a = inl (opened_sized o g)
sized_or_out o (x ∷ t) valid k g a = ⊎_elim
    (λ (was : AnswersFor o k g t). ⊎_elim
    (λ (z : ChangesArray g x.action). ⊎_elim
    (λ (y : Begins g x.action). absurd (begun_open o t x.by x.action k g valid y a))
    (λ (out : IsOutOfUse o g t). still out)
    (changes_used o t x.by x.action k g valid.1 valid.0 was z).1)
    (λ (never : ChangesArray g x.action → ⊥). ⊎_elim
    (λ (z : IsSized o g t).
    inl (same_sized o g t (x ∷ t) (left_step o t x.by x.action g valid never) z))
    (λ (out : IsOutOfUse o g t). still out)
    (sized_or_out o t valid.1 k g was))
    (changes_or_not g x.action))
    (λ (new : IsBrought t k g x.action). inl (brought new))
    (answers_back o t x.by x.action k g valid.0 a)
  where
    still : IsOutOfUse o g t → IsSized o g (x ∷ t) ⊎ IsOutOfUse o g (x ∷ t)
    still out = inr (out_on o t x.by x.action g valid.1 valid.0 out
        (λ y. begun_open o t x.by x.action k g valid y a))

    -- an install changes no array
    brought : IsBrought t k g x.action → IsSized o g (x ∷ t)
    brought z =
        let m = may_as o t x.by x.action (Install z.0 z.1 z.2 z.3) z.4 valid.0 in
        same_sized o g t (x ∷ t)
        (left_step o t x.by x.action g valid (subst (λ (y : Action). ChangesArray g y → ⊥) (sym z.4)
        (install_changes z.0 z.1 z.2 z.3)))
        (m.sized k g z.5 z.6)
      where
        install_changes : (spot : InstallWord) (lead low high : ℕ) →
            ChangesArray g (Install spot lead low high) → ⊥
        install_changes spot lead low high c = ⊎_elim
            (λ (y : Begins g (Install spot lead low high)). let bad = y.3 in cc)
            (λ u. ⊎_elim
            (λ (y : (p : ℕ) × (j : ℕ) × (to : ℕ)
            × (Install spot lead low high ≡ StoreRedirect g p j to)). let bad = y.3 in cc)
            (λ (y : (which : HeaderWord) × (value : ℕ)
            × (Install spot lead low high ≡ StoreHeader g which value) × IsLateHeader which).
            let bad = y.2 in cc) u) c

pub of_keys : SizesAreOfTheKeys
of_keys o t valid g = (
  λ sized. let same = keys_are o t valid g sized.keys sized.array in
      (sized.size ∙ ap length same, sized.error ∙ ap error_of same),
  λ words. record {
    keys = array_keys o g t;
    array = has_keys_now o t valid g;
    size = words.0;
    error = words.1;
  },
)

pub in_use : ArraysInUseAreSized
in_use o t valid g k a = ⊎_elim
    (λ (z : IsSized o g t). inl z)
    (λ (out : IsOutOfUse o g t). ⊎_elim
    (λ (z : group_of o k t ≡ g). absurd (out.unowned k z))
    (λ (z : predecessor o k t ≡ Some g).
    let p = groups_before_are_opened o t valid k g z in
    inr (p.0, p.1, out.settled p.0 p.1)) a)
    (sized_or_out o t valid k g a)

pub of_chain : ArraysOfTheChainAreSized
of_chain o t valid g k e = ⊎_elim
    (λ (z : IsSized o g t). z)
    (λ (out : IsOutOfUse o g t). absurd (out.unowned k e))
    (sized_or_out o t valid k g (inl e))

pub where_standing : ArraysWhereCallersStandAreSized
where_standing o t valid c g k is s a = ⊎_elim
    (λ (z : IsSized o g t). z)
    (λ (z : IsReplaced o g t). absurd ((z.2 g z.1).empty c is s))
    (in_use o t valid g k a)

-- ---- arrays that stay ----

pub while_standing : ArraysStayWhereCallersStand
while_standing o c g k is [] t valid stay s a = same_now o g t
while_standing o c g k is (x ∷ n) t valid stay s a =
    let there = stands_in_on c g n t stay.1 s in
    let answers = answers_while o c g k is n t valid.1 stay.1 s a in
    same_trans o g t (n ++ t) (event x.by x.action ∷ (n ++ t))
    (while_standing o c g k is n t valid.1 stay.1 s a)
    (left_step o (n ++ t) x.by x.action g valid (λ z.
    (changes_used o (n ++ t) x.by x.action k g valid.1 valid.0 answers z).0.empty c is there))

pub one_array : LoadsMeetOneArray
one_array o c g k is n t valid stay s a =
    let old = valid_before o n t valid in
    let same = while_standing o c g k is n t valid stay s a in
    let words = (of_keys o t old g).0 (where_standing o t old c g k is s a) in
    record {
      just = same.keys;
      size = same.words header.Size tt ∙ words.0;
      error = same.words header.LineError tt ∙ words.1;
    }
