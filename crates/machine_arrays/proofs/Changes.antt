-- Which actions change a group's array, and that it stays until one does.
use Rattle.std.proofs.Common.{◌≡◌, ◌≢◌, ℕ, zero, suc, ◌<◌, ◌≤◌, ◌⊎◌, inl, inr, ⊎_elim, List, []}
use Rattle.std.proofs.Common.{◌∷◌, ◌++◌, length, refl, sym, ap, ◌∙◌, subst, arith}
use Rattle.std.specs.Prelude.{slice_index}
use mathlib.Core.Logic.{dite}
use native.Mathlib.Decide.{ℕ_discrete}
use Rattle.index_machine.specs.Conditions.{Valid}
use Rattle.index_machine.specs.Execution.{Execution, event}
use Rattle.index_machine.specs.RebuildConditions.{HasKeysFrom, IsLateHeader, IsSized}
use Rattle.index_machine.specs.Rows.{InArray, Unused, role}
use Rattle.index_machine.specs.Words.{shape, word}
use Rattle.index_machine.specs.declared.events.Action.{Action}
use Rattle.index_machine.specs.declared.events.Action.TheVariants.{Freeze, Install, LinkRow}
use Rattle.index_machine.specs.declared.events.Action.TheVariants.{NewGroup, StoreHeader}
use Rattle.index_machine.specs.declared.events.Action.TheVariants.{StoreOpened, StoreRedirect, Thaw}
use Rattle.index_machine.specs.declared.events.InstallWord.TheVariants.{FirstSlot, NextOf}
use Rattle.index_machine.specs.declared.opening.Opening.{Opening}
use Rattle.machine_arrays.proofs.Lists.{at_end, at_index, at_same, has_keys}
use Rattle.machine_arrays.proofs.Opened.{one_index}
use Rattle.machine_chain.proofs.Cases.{le_or_lt}
use Rattle.word_layout.specs.Addresses.{array_address}
use Rattle.index_machine.proofs.Executions.{choice-same}
use Rattle.std.proofs.lemmas.List.{get_or_push}
use Rattle.std.proofs.Math.ListN.{get_or-append, length-append}
use Rattle.machine_arrays.proofs.Places.{not_begun, place_kept}
use Rattle.machine_arrays.proofs.Keys.{before_has, has_keys_now, keys_are}
use Rattle.machine_arrays.specs.Arrays.{HasKeyAt, array_keys}
use Rattle.machine_arrays.specs.Sizes.{ArraysStayUntilChanged, ChangesArray, HasSameArray}
use Rattle.machine_arrays.specs.Sizes.{BegunArraysAreEmpty, KeepersAloneChangeArrays, NewKeysComeLast}
use Rattle.machine_barriers.proofs.Reaches.{may_as}
use Rattle.machine_buffers.proofs.LinkWords.{other_header}
use Rattle.machine_buffers.proofs.OutOfUse.{begins_or_not}
use Rattle.machine_buffers.specs.Groups.{Begins}
use Rattle.machine_readers.proofs.Roles.{array_back}
use Rattle.word_layout.specs.Words.{Header}
use Rattle.word_layout.specs.declared.headers.HeaderWord.{HeaderWord}
use Rattle.word_layout.specs.declared.headers.HeaderWord.TheVariants as header

-- ---- the words for size and line error ----

-- they stay, unless the action stores them
late_word_stays : (o : Opening) (t : Execution) (b : ℕ) (d : Action) (g : ℕ) (which : HeaderWord) →
    IsLateHeader which → ((value : ℕ) → d ≢ StoreHeader g which value) →
    word o (event b d ∷ t) (Header g which) ≡ word o t (Header g which)
late_word_stays o t b (LinkRow h lane p c zero next) g which is never =
    other_header h g p _ (header.Head lane) which (λ z e. subst IsLateHeader (sym e) is)
late_word_stays o t b (LinkRow h lane p c (suc n) next) g which is never = refl
late_word_stays o t b (Freeze h) g which is never =
    other_header h g _ _ header.Phase which (λ z e. subst IsLateHeader (sym e) is)
late_word_stays o t b (Thaw h) g which is never =
    other_header h g _ _ header.Phase which (λ z e. subst IsLateHeader (sym e) is)
late_word_stays o t b (StoreOpened h f) g which is never =
    other_header h g _ _ header.Phase which (λ z e. subst IsLateHeader (sym e) is)
late_word_stays o t b (NewGroup h low high f) g which is never =
    other_header h g _ _ header.Pivot which (λ z e. subst IsLateHeader (sym e) is)
late_word_stays o t b (Install (NextOf left) first low high) g which is never =
    other_header left g _ _ header.Next which (λ z e. subst IsLateHeader (sym e) is)
late_word_stays o t b (Install (FirstSlot part side) first low high) g which is never = refl
late_word_stays o t b (StoreHeader h at value) g which is never =
    other_header h g value _ at which (λ z e. never value
    (ap (λ (y : ℕ). StoreHeader y at value) z
    ∙ ap (λ (y : HeaderWord). StoreHeader g y value) e))
late_word_stays o t b d g which is never = refl

-- ---- one action ----

-- what stands at the same places is the same list
same_list : (o : Opening) (g : ℕ) (earlier later : Execution) (keys : List ℕ) →
    ((k p : ℕ) → role o p earlier ≡ InArray g k → role o p later ≡ InArray g k) →
    ((k p : ℕ) → role o p later ≡ InArray g k → role o p earlier ≡ InArray g k) →
    HasKeysFrom o g 0 keys earlier → HasKeysFrom o g 0 keys later
same_list o g earlier later keys kept none_new has = has_keys o g keys later
    (λ n lt. kept (slice_index keys n) _ (at_index o g keys earlier has n lt))
    (λ k at. at_end o g keys earlier has k (none_new k _ at))

pub left_step : (o : Opening) (t : Execution) (b : ℕ) (d : Action) (g : ℕ) →
    Valid o (event b d ∷ t) → (ChangesArray g d → ⊥) → HasSameArray o g t (event b d ∷ t)
left_step o t b d g valid never = record {
  kept = kept;
  none_new = none_new;
  keys = sym (keys_are o (event b d ∷ t) valid g (array_keys o g t)
      (same_list o g t (event b d ∷ t) (array_keys o g t) kept none_new (has_keys_now o t valid.1 g)));
  words = λ which is. late_word_stays o t b d g which is
      (λ value e. never (inr (inr (which, value, e, is))));
}
  where
    kept : (k p : ℕ) → role o p t ≡ InArray g k → role o p (event b d ∷ t) ≡ InArray g k
    kept k p e = place_kept o t b d g k p valid.0 (λ z. never (inl z)) e

    none_new : (k p : ℕ) → role o p (event b d ∷ t) ≡ InArray g k → role o p t ≡ InArray g k
    none_new k p e = ⊎_elim
        (λ (z : role o p t ≡ InArray g k). z)
        (λ (z : (to : ℕ) × (d ≡ StoreRedirect g p k to)).
        absurd (never (inr (inl (p, k, z.0, z.1)))))
        (array_back o t b d p g k e)

-- ---- the list after a change ----

pub begun_empty : BegunArraysAreEmpty
begun_empty o b g low high f t valid =
    sym (keys_are o (event b (NewGroup g low high f) ∷ t) valid g [] (λ k at. ⊎_elim
    (λ (z : role o (array_address (shape o) g 0) t ≡ InArray g k).
    not_begun o t b (NewGroup g low high f) g k (array_address (shape o) g 0) z at
    (low, high, f, refl))
    (λ (z : (to : ℕ) × (NewGroup g low high f ≡ StoreRedirect g (array_address (shape o) g 0) k to)).
    let bad = z.1 in cc)
    (array_back o t b (NewGroup g low high f) (array_address (shape o) g 0) g k at)))

module _ (o : Opening) (b g p k to : ℕ) (t : Execution)
    (valid : Valid o (event b (StoreRedirect g p k to) ∷ t)) where
  abbrev T : Execution
  T = event b (StoreRedirect g p k to) ∷ t

  abbrev keys : List ℕ
  keys = array_keys o g t

  -- the place of the new key is the first that has none
  new_index : valid.0.index ≡ length keys
  new_index = ⊎_elim
      (λ (z : length keys ≤ valid.0.index). dite (ℕ_discrete (length keys) valid.0.index)
      (λ (y : length keys ≡ valid.0.index). sym y)
      (λ (n : length keys ≢ valid.0.index).
      let s = valid.0.filled (length keys) (omega (arith, z, n)) in
      absurd (at_end o g keys t (has_keys_now o t valid.1 g) s.0 s.1)))
      (λ (z : valid.0.index < length keys).
      let at = at_index o g keys t (has_keys_now o t valid.1 g) valid.0.index z in
      let bad : Unused ≡ InArray g (slice_index keys valid.0.index) =
      sym valid.0.unused ∙ (ap (λ (q : ℕ). role o q t) valid.0.at ∙ at) in cc)
      (le_or_lt (length keys) valid.0.index)

  new_place : p ≡ array_address (shape o) g (length keys)
  new_place = valid.0.at ∙ ap (array_address (shape o) g) new_index

  new_at : HasKeyAt o g (length keys) k T
  new_at = ap (λ (q : ℕ). role o q T) (sym new_place)
      ∙ choice-same p p (InArray g k) (role o p t) refl

  each : (n : ℕ) → n < length (keys ++ (k ∷ [])) →
      HasKeyAt o g n (slice_index (keys ++ (k ∷ [])) n) T
  each n lt =
      let many = length-append keys (k ∷ []) in
      dite (ℕ_discrete n (length keys))
      (λ (z : n ≡ length keys).
      subst (λ (y : ℕ). HasKeyAt o g n y T) (sym (get_or_push keys k 0 n (sym z)))
      (at_same o g (length keys) n k T (sym z) new_at))
      (λ (other : n ≢ length keys).
      let less : n < length keys = omega (arith, lt, many, other) in
      subst (λ (y : ℕ). HasKeyAt o g n y T) (sym (get_or-append keys (k ∷ []) 0 n less))
      (place_kept o t b (StoreRedirect g p k to) g (slice_index keys n)
      (array_address (shape o) g n) valid.0 (λ z. let bad = z.3 in cc)
      (at_index o g keys t (has_keys_now o t valid.1 g) n less)))

  none : (j : ℕ) → HasKeyAt o g (length (keys ++ (k ∷ []))) j T → ⊥
  none j at =
      let many = length-append keys (k ∷ []) in
      let end : ℕ = length (keys ++ (k ∷ [])) in
      ⊎_elim
      (λ (z : role o (array_address (shape o) g end) t ≡ InArray g j).
      let m = before_has o t g (length keys) end j valid.1 z (omega (arith, many)) in
      at_end o g keys t (has_keys_now o t valid.1 g) m.0 m.1)
      (λ (z : (u : ℕ) × (StoreRedirect g p k to
      ≡ StoreRedirect g (array_address (shape o) g end) j u)).
      let same = one_index (shape o) g (length keys) end (sym new_place ∙ put_is z.1) in
      absurd (omega (arith, same, many)))
      (array_back o t b (StoreRedirect g p k to) (array_address (shape o) g end) g j at)
    where
      put_is : {q i u : ℕ} → StoreRedirect g p k to ≡ StoreRedirect g q i u → p ≡ q
      put_is e = cc

  pub last_key : array_keys o g T ≡ keys ++ (k ∷ [])
  last_key = sym (keys_are o T valid g (keys ++ (k ∷ []))
      (has_keys o g (keys ++ (k ∷ [])) T each none))

pub new_last : NewKeysComeLast
new_last o b g p k to t valid = last_key o b g p k to t valid

-- ---- many actions ----

pub same_now : (o : Opening) (g : ℕ) (t : Execution) → HasSameArray o g t t
same_now o g t = record {
  kept = λ k p e. e;
  none_new = λ k p e. e;
  keys = refl;
  words = λ which is. refl;
}

pub same_trans : (o : Opening) (g : ℕ) (first second third : Execution) →
    HasSameArray o g first second → HasSameArray o g second third → HasSameArray o g first third
same_trans o g first second third a b = record {
  kept = λ k p e. b.kept k p (a.kept k p e);
  none_new = λ k p e. a.none_new k p (b.none_new k p e);
  keys = b.keys ∙ a.keys;
  words = λ which is. b.words which is ∙ a.words which is;
}

pub left_until : ArraysStayUntilChanged
left_until o g [] t valid left = same_now o g t
left_until o g (x ∷ n) t valid left =
    same_trans o g t (n ++ t) (event x.by x.action ∷ (n ++ t))
    (left_until o g n t valid.1 left.1)
    (left_step o (n ++ t) x.by x.action g valid left.0)

-- a sized array stays so
pub same_sized : (o : Opening) (g : ℕ) (earlier later : Execution) → HasSameArray o g earlier later →
    IsSized o g earlier → IsSized o g later
same_sized o g earlier later same sized = record {
  keys = sized.keys;
  array = same_list o g earlier later sized.keys same.kept same.none_new sized.array;
  size = same.words header.Size tt ∙ sized.size;
  error = same.words header.LineError tt ∙ sized.error;
}

-- ---- who changes arrays ----

pub keeper_alone : KeepersAloneChangeArrays
keeper_alone o t b g d may changes = ⊎_elim
    (λ (z : Begins g d). (may_as o t b d (NewGroup g z.0 z.1 z.2) z.3 may).keeper)
    (λ (y : ((p : ℕ) × (k : ℕ) × (to : ℕ) × (d ≡ StoreRedirect g p k to))
    ⊎ ((which : HeaderWord) × (value : ℕ) × (d ≡ StoreHeader g which value) × IsLateHeader which)).
    ⊎_elim
    (λ (z : (p : ℕ) × (k : ℕ) × (to : ℕ) × (d ≡ StoreRedirect g p k to)).
    (may_as o t b d (StoreRedirect g z.0 z.1 z.2) z.3 may).keeper)
    (λ (z : (which : HeaderWord) × (value : ℕ) × (d ≡ StoreHeader g which value)
    × IsLateHeader which).
    (may_as o t b d (StoreHeader g z.0 z.1) z.2 may).keeper) y) changes

-- ---- whether an action changes an array ----

late_or_not : (which : HeaderWord) → IsLateHeader which ⊎ (IsLateHeader which → ⊥)
late_or_not header.Size = inl tt
late_or_not header.LineError = inl tt
late_or_not which = inr (λ z. z)

pub changes_or_not : (g : ℕ) (d : Action) → ChangesArray g d ⊎ (ChangesArray g d → ⊥)
changes_or_not g (NewGroup h low high f) = ⊎_elim
    (λ (z : Begins g (NewGroup h low high f)). inl (inl z))
    (λ (n : Begins g (NewGroup h low high f) → ⊥). inr (λ c. ⊎_elim
    (λ (z : Begins g (NewGroup h low high f)). n z)
    (λ y. ⊎_elim
    (λ (z : (p : ℕ) × (k : ℕ) × (to : ℕ) × (NewGroup h low high f ≡ StoreRedirect g p k to)).
    let bad = z.3 in cc)
    (λ (z : (which : HeaderWord) × (value : ℕ) × (NewGroup h low high f ≡ StoreHeader g which value)
    × IsLateHeader which). let bad = z.2 in cc) y) c))
    (begins_or_not g (NewGroup h low high f))
changes_or_not g (StoreRedirect h p k to) = dite (ℕ_discrete h g)
    (λ (z : h ≡ g). inl (inr (inl (p, k, to, ap (λ (y : ℕ). StoreRedirect y p k to) z))))
    (λ (n : h ≢ g). inr (λ c. ⊎_elim
    (λ (z : Begins g (StoreRedirect h p k to)). let bad = z.3 in cc)
    (λ y. ⊎_elim
    (λ (z : (q : ℕ) × (j : ℕ) × (at : ℕ) × (StoreRedirect h p k to ≡ StoreRedirect g q j at)).
    n (put_is z.3))
    (λ (z : (which : HeaderWord) × (value : ℕ) × (StoreRedirect h p k to ≡ StoreHeader g which value)
    × IsLateHeader which). let bad = z.2 in cc) y) c))
  where
    put_is : {q j at : ℕ} → StoreRedirect h p k to ≡ StoreRedirect g q j at → h ≡ g
    put_is e = cc
changes_or_not g (StoreHeader h at value) = dite (ℕ_discrete h g)
    (λ (z : h ≡ g). ⊎_elim
    (λ (is : IsLateHeader at).
    inl (inr (inr (at, value, ap (λ (y : ℕ). StoreHeader y at value) z, is))))
    (λ (not : IsLateHeader at → ⊥).
    inr (λ c. no c (λ which same late. not (subst IsLateHeader (sym same.1) late))))
    (late_or_not at))
    (λ (n : h ≢ g). inr (λ c. no c (λ which same late. n same.0)))
  where
    stored_is : {v : ℕ} {which : HeaderWord} →
        StoreHeader h at value ≡ StoreHeader g which v → (h ≡ g) × (at ≡ which)
    stored_is e = (cc, cc)

    no : ChangesArray g (StoreHeader h at value) →
        ((which : HeaderWord) → (h ≡ g) × (at ≡ which) → IsLateHeader which → ⊥) → ⊥
    no c never = ⊎_elim
        (λ (z : Begins g (StoreHeader h at value)). let bad = z.3 in cc)
        (λ y. ⊎_elim
        (λ (z : (p : ℕ) × (k : ℕ) × (to : ℕ) × (StoreHeader h at value ≡ StoreRedirect g p k to)).
        let bad = z.3 in cc)
        (λ (z : (which : HeaderWord) × (v : ℕ) × (StoreHeader h at value ≡ StoreHeader g which v)
        × IsLateHeader which). never z.0 (stored_is z.2) z.3) y) c
changes_or_not g d = inr (λ c. ⊎_elim
    (λ (z : Begins g d). let bad = z.3 in cc)
    (λ y. ⊎_elim
    (λ (z : (p : ℕ) × (k : ℕ) × (to : ℕ) × (d ≡ StoreRedirect g p k to)). let bad = z.3 in cc)
    (λ (z : (which : HeaderWord) × (value : ℕ) × (d ≡ StoreHeader g which value)
    × IsLateHeader which). let bad = z.2 in cc) y) c)
