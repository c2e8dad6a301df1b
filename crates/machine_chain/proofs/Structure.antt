-- The keeper alone changes key ranges, phases, the root, and the words that lead through them.
use Rattle.std.proofs.Common.{◌≢◌, ◌+◌, ◌<◌, ◌≤◌, ne_eqb, arith, Bool, cond, false, ◌≡◌, ℕ, zero, suc, [], ◌∷◌, ◌++◌, inl, inr, ⊎_elim, Some, refl, sym}
use Rattle.std.proofs.Common.{ap, subst, ◌∙◌}
use Rattle.std.specs.Prelude.{◌==◌}
use Rattle.index_machine.proofs.Executions.{choice-other}
use Rattle.index_machine.proofs.OfParts.{group_exists, key_in_part, other_before, other_phase, other_rebuild}
use Rattle.index_machine.proofs.OfParts.{other_successor, outside_install, successor_in_part}
use Rattle.index_machine.proofs.OpeningPlan.{some_group}
use Rattle.index_machine.specs.Keepers.{IsGroupKeeper, IsKeyIn, IsPart, IsPartKeeper, part_of}
use Rattle.index_machine.specs.Groups.{rebuild, root, same_slot, slot}
use Rattle.index_machine.specs.KeyRanges.{predecessor}
use Rattle.index_machine.specs.Lanes.{begun_word}
use Rattle.index_machine.specs.Words.{limits, shape}
use Rattle.index_machine.specs.declared.events.InstallWord.TheVariants.{FirstSlot, NextOf}
use Rattle.word_layout.specs.Parts.{greatest_key}
use Rattle.word_layout.specs.Shape.{group_total, parts_in}
use Rattle.word_layout.proofs.PartGroups.{first_group-part}
use Rattle.machine_buffers.proofs.OutOfUse.{group_out}
use Rattle.machine_chain.proofs.Cases.{le_or_lt}
use Rattle.machine_chain.proofs.Keys.{before_out}
use Rattle.machine_chain.proofs.NewGroups.{keys_hold}
use Rattle.machine_chain.proofs.Words.{ChangesSlotPivot, slot_pivot_kept}
use Rattle.machine_chain.specs.Walks.{slot_pivot}
use Rattle.word_layout.specs.declared.headers.HeaderWord.{HeaderWord}
use Rattle.word_layout.specs.declared.phase.Phase.TheVariants.{Frozen, Open}
use Rattle.index_machine.specs.Conditions.{Valid}
use Rattle.index_machine.specs.Execution.{Execution, event}
use Rattle.index_machine.specs.Groups.{phase}
use Rattle.index_machine.specs.KeyRanges.{group_of, successor}
use Rattle.index_machine.specs.Permissions.{IsBufferFor}
use Rattle.index_machine.specs.Words.{word}
use Rattle.index_machine.specs.declared.events.Action.{Action}
use Rattle.index_machine.specs.declared.events.Action.TheVariants.{Freeze, Install, LinkRow}
use Rattle.index_machine.specs.declared.events.Action.TheVariants.{NewGroup, StoreHeader}
use Rattle.index_machine.specs.declared.events.Action.TheVariants.{StoreOpened, StoreRoot}
use Rattle.index_machine.specs.declared.events.Action.TheVariants.{StoreSlot}
use Rattle.index_machine.specs.declared.events.Action.TheVariants.{StoreUnusedGroup}
use Rattle.index_machine.specs.declared.events.Action.TheVariants.{StoreUnusedPivot, Thaw}
use Rattle.index_machine.specs.declared.opening.Opening.{Opening}
use Rattle.machine_buffers.proofs.LinkWords.{other_header}
use Rattle.machine_buffers.specs.Groups.{IsOfAKey}
use Rattle.machine_chain.proofs.Words.{never}
use Rattle.machine_chain.specs.Chain.{next_of, pivot_of}
use Rattle.machine_chain.specs.Keepers.{IsHeadWord, IsSameStructure, KeepersAloneChangeStructure}
use Rattle.word_layout.specs.Words.{Header}
use Rattle.word_layout.specs.declared.headers.HeaderWord.TheVariants as header
use Rattle.word_layout.specs.declared.phase.Phase.TheVariants.{Opened}

-- a group into whose buffer a row may be linked answers for a key, or is a key's new group
of_a_key : (o : Opening) (t : Execution) (h g k : ℕ) → h ≡ g → IsBufferFor o k h t → IsOfAKey o g t
of_a_key o t h g k same is = ⊎_elim
    (λ (z : group_of o k t ≡ h). inl (k, z ∙ same))
    (λ (z : (f : ℕ) × (phase (group_of o k t) t ≡ Opened f) × (successor k t ≡ Some h)).
    inr (k, z.2 ∙ ap Some same)) is

-- a structure that is as it was, where all header words of the part's groups are
module _ (o : Opening) (t : Execution) (b : ℕ) (d : Action) (part : ℕ)
    (groups : (k : ℕ) → IsKeyIn o part k → group_of o k (event b d ∷ t) ≡ group_of o k t)
    (news : (k : ℕ) → IsKeyIn o part k → successor k (event b d ∷ t) ≡ successor k t)
    (olds : (k : ℕ) → IsKeyIn o part k → predecessor o k (event b d ∷ t) ≡ predecessor o k t)
    (phases : (g : ℕ) → part_of o g ≡ part → phase g (event b d ∷ t) ≡ phase g t)
    (rebuilds : (g : ℕ) → part_of o g ≡ part → rebuild g (event b d ∷ t) ≡ rebuild g t)
    (slots : (side i : ℕ) → slot o part side i (event b d ∷ t) ≡ slot o part side i t)
    (root_word : root o part (event b d ∷ t) ≡ root o part t)
    (slot_pivots : (side i : ℕ) →
    slot_pivot o part side i (event b d ∷ t) ≡ slot_pivot o part side i t)
    (begun_words : (g : ℕ) (which : HeaderWord) → part_of o g ≡ part →
    begun_word o g which (event b d ∷ t) ≡ begun_word o g which t)
    (words : (g : ℕ) (which : HeaderWord) → part_of o g ≡ part →
    word o (event b d ∷ t) (Header g which) ≡ word o t (Header g which)) where
  same_words : IsSameStructure o part t (event b d ∷ t)
  same_words = record {
    groups = groups;
    news = news;
    olds = olds;
    phases = phases;
    rebuilds = rebuilds;
    slots = slots;
    root_word = root_word;
    nexts = λ g same. words g header.Next same;
    pivots = λ g same. words g header.Pivot same;
    slot_pivots = slot_pivots;
    begun_words = begun_words;
    header_words = λ g which same not. words g which same;
    head_words = λ g l same none. words g (header.Head l) same;
  }

-- an action of a keeper on a group of another part
module _ (o : Opening) (part b g : ℕ) (keeper : IsGroupKeeper o b g)
    (other : b ≢ (limits o).callers + part) where
  apart_part : part_of o g ≢ part
  apart_part z = other (keeper ∙ ap (λ (p : ℕ). (limits o).callers + p) z)

  apart_group : (h : ℕ) → part_of o h ≡ part → g ≢ h
  apart_group h same z = apart_part (ap (part_of o) z ∙ same)

-- and on a slot of another root
apart_root : (o : Opening) (part b q : ℕ) → IsPartKeeper o b q → b ≢ (limits o).callers + part → q ≢ part
apart_root o part b q keeper other z =
    other (keeper ∙ ap (λ (p : ℕ). (limits o).callers + p) z)

other_slot : (q s j part side i : ℕ) → q ≢ part → same_slot q s j part side i ≡ false
other_slot q s j part side i apart = rw (ne_eqb q part apart) refl

same_step : (o : Opening) (t : Execution) (b : ℕ) (d : Action) (part : ℕ) → Valid o (event b d ∷ t) →
    IsPart o part → b ≢ (limits o).callers + part → IsSameStructure o part t (event b d ∷ t)
same_step o t b (Freeze g) part valid is_part other =
    let apart = apart_group o part b g valid.0.keeper other in
    same_words o t b (Freeze g) part (λ k key. refl) (λ k key. refl) (λ k key. refl)
    (λ h same. choice-other g h Frozen (phase h t) (apart h same)) (λ h same. refl)
    (λ side i. refl) refl (λ side i. refl) (λ h which same. refl)
    (λ h which same. rw (ne_eqb g h (apart h same)) refl)
same_step o t b (Thaw g) part valid is_part other =
    let apart = apart_group o part b g valid.0.keeper other in
    same_words o t b (Thaw g) part (λ k key. refl) (λ k key. refl) (λ k key. refl)
    (λ h same. choice-other g h Open (phase h t) (apart h same)) (λ h same. refl)
    (λ side i. refl) refl (λ side i. refl) (λ h which same. refl)
    (λ h which same. rw (ne_eqb g h (apart h same)) refl)
same_step o t b (StoreHeader g which v) part valid is_part other =
    let apart = apart_group o part b g valid.0.keeper other in
    same_words o t b (StoreHeader g which v) part (λ k key. refl) (λ k key. refl) (λ k key. refl)
    (λ h same. refl) (λ h same. refl) (λ side i. refl) refl (λ side i. refl) (λ h w same. refl)
    (λ h w same. rw (ne_eqb g h (apart h same)) refl)
same_step o t b (NewGroup g low high f) part valid is_part other =
    let apart = apart_group o part b g valid.0.keeper other in
    let far = apart_part o part b g valid.0.keeper other in
    same_words o t b (NewGroup g low high f) part (λ k key. refl)
    (λ k key. other_successor o t b g low high f part k valid.1 valid.0 is_part key (λ z. far (sym z)))
    (λ k key. other_before o t b g low high f part k valid.1 is_part key (λ z. far (sym z)))
    (λ h same. other_phase o t b g low high f h valid.1 (λ z. far (sym z ∙ same)))
    (λ h same. other_rebuild o t b g low high f h valid.1 (λ z. far (sym z ∙ same)))
    (λ side i. refl) refl (λ side i. refl)
    (λ h w same. choice-other g h (word o t (Header h w)) (begun_word o h w t) (apart h same))
    (λ h w same. rw (ne_eqb g h (apart h same)) refl)
same_step o t b (StoreOpened g f) part valid is_part other =
    let apart = apart_group o part b g valid.0.keeper other in
    same_words o t b (StoreOpened g f) part (λ k key. refl) (λ k key. refl) (λ k key. refl)
    (λ h same. choice-other g h (Opened f) (phase h t) (apart h same)) (λ h same. refl)
    (λ side i. refl) refl (λ side i. refl) (λ h which same. refl)
    (λ h which same. rw (ne_eqb g h (apart h same)) refl)
same_step o t b (Install (NextOf left) lead low high) part valid is_part other =
    let apart = apart_group o part b left valid.0.keeper other in
    let far = apart_part o part b left valid.0.keeper other in
    let out = λ (k : ℕ) (key : IsKeyIn o part k).
    outside_install o t b (NextOf left) lead low high part k valid.2 valid.0 is_part key
    (λ z. far (sym z))
    in
    same_words o t b (Install (NextOf left) lead low high) part
    (λ k key. group_out o t b (NextOf left) lead low high k (out k key)) (λ k key. refl)
    (λ k key. before_out o t b (NextOf left) lead low high k (out k key))
    (λ h same. refl) (λ h same. refl) (λ side i. refl) refl (λ side i. refl) (λ h which same. refl)
    (λ h which same. rw (ne_eqb left h (apart h same)) refl)
same_step o t b (Install (FirstSlot q s) lead low high) part valid is_part other =
    let far = apart_root o part b q valid.0.keeper other in
    let out = λ (k : ℕ) (key : IsKeyIn o part k).
    outside_install o t b (FirstSlot q s) lead low high part k valid.2 valid.0 is_part key
    (λ z. far (sym z))
    in
    same_words o t b (Install (FirstSlot q s) lead low high) part
    (λ k key. group_out o t b (FirstSlot q s) lead low high k (out k key)) (λ k key. refl)
    (λ k key. before_out o t b (FirstSlot q s) lead low high k (out k key))
    (λ h same. refl) (λ h same. refl)
    (λ side i. ap (λ (w : Bool). cond w lead (slot o part side i t)) (other_slot q s 0 part side i far))
    refl (λ side i. refl) (λ h which same. refl) (λ h which same. refl)
same_step o t b (StoreSlot q s j g) part valid is_part other =
    let far = apart_root o part b q valid.0.keeper other in
    same_words o t b (StoreSlot q s j g) part (λ k key. refl) (λ k key. refl) (λ k key. refl)
    (λ h same. refl) (λ h same. refl)
    (λ side i. ap (λ (w : Bool). cond w g (slot o part side i t)) (other_slot q s j part side i far))
    refl (λ side i. refl) (λ h which same. refl) (λ h which same. refl)
same_step o t b (StoreUnusedPivot q s j p) part valid is_part other =
    let far = apart_root o part b q valid.0.keeper other in
    same_words o t b (StoreUnusedPivot q s j p) part (λ k key. refl) (λ k key. refl) (λ k key. refl)
    (λ h same. refl) (λ h same. refl) (λ side i. refl) refl
    (λ side i. ⊎_elim (λ z. z) (λ (z : ChangesSlotPivot part side i (StoreUnusedPivot q s j p)).
    absurd (far (pivot_part z.1))) (slot_pivot_kept o t b (StoreUnusedPivot q s j p) part side i))
    (λ h which same. refl) (λ h which same. refl)
  where
    pivot_part : {side i v : ℕ} → StoreUnusedPivot q s j p ≡ StoreUnusedPivot part side i v → q ≡ part
    pivot_part e = cc
same_step o t b (StoreUnusedGroup q s j g) part valid is_part other =
    let far = apart_root o part b q valid.0.keeper other in
    same_words o t b (StoreUnusedGroup q s j g) part (λ k key. refl) (λ k key. refl) (λ k key. refl)
    (λ h same. refl) (λ h same. refl)
    (λ side i. ap (λ (w : Bool). cond w g (slot o part side i t)) (other_slot q s j part side i far))
    refl (λ side i. refl) (λ h which same. refl) (λ h which same. refl)
same_step o t b (StoreRoot q w) part valid is_part other =
    let far = apart_root o part b q valid.0.keeper other in
    same_words o t b (StoreRoot q w) part (λ k key. refl) (λ k key. refl) (λ k key. refl)
    (λ h same. refl) (λ h same. refl) (λ side i. refl)
    (choice-other q part w (root o part t) far) (λ side i. refl) (λ h which same. refl)
    (λ h which same. refl)
same_step o t b (LinkRow h lane place change zero next) part valid is_part other = record {
  groups = λ k key. refl;
  news = λ k key. refl;
  olds = λ k key. refl;
  phases = λ g same. refl;
  rebuilds = λ g same. refl;
  slots = λ side i. refl;
  root_word = refl;
  nexts = λ g same. never (h == g) place (next_of o g t);
  pivots = λ g same. never (h == g) place (pivot_of o g t);
  slot_pivots = λ side i. refl;
  begun_words = λ g which same. refl;
  header_words = λ g which same not.
      other_header h g place (word o t (Header g which)) (header.Head lane) which
      (λ z e. not (subst IsHeadWord e tt));
  head_words = λ g l same none.
      other_header h g place (word o t (Header g (header.Head l))) (header.Head lane) (header.Head l)
      (λ z e. none (of_a_key o t h g _ z valid.0.belongs));
}
same_step o t b (LinkRow h lane place change (suc n) next) part valid is_part other =
    same_words o t b (LinkRow h lane place change (suc n) next) part (λ k key. refl) (λ k key. refl)
    (λ k key. refl) (λ h same. refl) (λ h same. refl) (λ side i. refl) refl (λ side i. refl)
    (λ h which same. refl) (λ h which same. refl)
same_step o t b d part valid is_part other =
    same_words o t b d part (λ k key. refl) (λ k key. refl) (λ k key. refl) (λ h same. refl)
    (λ h same. refl) (λ side i. refl) refl (λ side i. refl) (λ h which same. refl)
    (λ h which same. refl)

-- a key that has a group of the part, now or next, is of the part
of_part : (o : Opening) (t : Execution) (part g k : ℕ) → Valid o t → IsPart o part →
    part_of o g ≡ part → group_of o k t ≡ g → IsKeyIn o part k
of_part o t part g k valid is_part same is = ⊎_elim
    (λ (small : k ≤ greatest_key).
    subst (λ (p : ℕ). IsKeyIn o p k) (ap (part_of o) is ∙ same)
    (key_in_part o t k valid (group_exists o t k valid small)))
    (λ (large : greatest_key < k).
    let last : g ≡ group_total (shape o) = sym is ∙ (keys_hold o t valid).beyond k large in
    let parts : part_of o g ≡ parts_in (shape o) =
    ap (part_of o) last ∙ first_group-part (shape o) (parts_in (shape o)) (some_group o)
    in
    absurd (omega (arith, is_part, same, parts)))
    (le_or_lt k greatest_key)

pub keeper_alone : KeepersAloneChangeStructure
keeper_alone o part [] t is_part valid without = record {
  groups = λ k key. refl;
  news = λ k key. refl;
  olds = λ k key. refl;
  phases = λ g same. refl;
  rebuilds = λ g same. refl;
  slots = λ side i. refl;
  root_word = refl;
  nexts = λ g same. refl;
  pivots = λ g same. refl;
  slot_pivots = λ side i. refl;
  begun_words = λ g which same. refl;
  header_words = λ g which same not. refl;
  head_words = λ g l same none. refl;
}
keeper_alone o part (e ∷ n) t is_part valid without =
    let a = same_step o (n ++ t) e.by e.action part valid is_part without.0 in
    let m = keeper_alone o part n t is_part valid.1 without.1 in
    record {
      groups = λ k key. a.groups k key ∙ m.groups k key;
      news = λ k key. a.news k key ∙ m.news k key;
      olds = λ k key. a.olds k key ∙ m.olds k key;
      phases = λ g same. a.phases g same ∙ m.phases g same;
      rebuilds = λ g same. a.rebuilds g same ∙ m.rebuilds g same;
      slots = λ side i. a.slots side i ∙ m.slots side i;
      root_word = a.root_word ∙ m.root_word;
      nexts = λ g same. a.nexts g same ∙ m.nexts g same;
      pivots = λ g same. a.pivots g same ∙ m.pivots g same;
      slot_pivots = λ side i. a.slot_pivots side i ∙ m.slot_pivots side i;
      begun_words = λ g which same. a.begun_words g which same ∙ m.begun_words g which same;
      header_words = λ g which same not.
          a.header_words g which same not ∙ m.header_words g which same not;
      head_words = λ g l same none. a.head_words g l same (λ of. none (⊎_elim
          (λ (z : (k : ℕ) × (group_of o k (n ++ t) ≡ g)).
          inl (z.0, sym (m.groups z.0 (of_part o (n ++ t) part g z.0 valid.1 is_part same z.1)) ∙ z.1))
          (λ (z : (k : ℕ) × (successor k (n ++ t) ≡ Some g)).
          let key = subst (λ (p : ℕ). IsKeyIn o p z.0) same
          (successor_in_part o (n ++ t) z.0 g valid.1 z.1) in
          inr (z.0, sym (m.news z.0 key) ∙ z.1)) of))
          ∙ m.head_words g l same none;
    }
