-- What other hands leave of a keeper's part, over all that they did since.
use Rattle.std.proofs.Common.{◌≡◌, ◌≢◌, ℕ, ◌+◌, ◌<◌, ◌≤◌, Some, inl, inr, ⊎_elim, ◌++◌, sym, ap, ◌∙◌, subst, arith}
use Rattle.word_layout.specs.Parts.{greatest_key}
use Rattle.word_layout.specs.Shape.{group_total, parts_in}
use Rattle.word_layout.proofs.PartGroups.{first_group-part, group-part}
use Rattle.word_layout.specs.declared.phase.Phase.{Phase}
use Rattle.index_machine.specs.declared.opening.Opening.{Opening}
use Rattle.index_machine.specs.Conditions.{Valid}
use Rattle.index_machine.specs.Execution.{Execution, Without}
use Rattle.index_machine.specs.Groups.{phase, rebuild}
use Rattle.index_machine.specs.Keepers.{IsKeyIn, IsPart, IsPartKeeper, last_key, part_of}
use Rattle.index_machine.specs.KeyRanges.{group_of, successor}
use Rattle.index_machine.specs.Sections.{IsHand}
use Rattle.index_machine.specs.Words.{limits, shape}
use Rattle.index_machine.proofs.Executions.{valid_before}
use Rattle.index_machine.proofs.OfParts.{group_exists, group_in_part, key_in_part, one_part, rebuild_in_part}
use Rattle.index_machine.proofs.OfParts.{successor_exists, successor_in_part}
use Rattle.index_machine.proofs.OpeningPlan.{some_group}
use Rattle.machine_chain.proofs.Cases.{le_or_lt}
use Rattle.machine_chain.proofs.NewGroups.{keys_hold}
use Rattle.machine_chain.proofs.Structure.{keeper_alone}
use Rattle.index_machine.specs.RebuildConditions.{AreChained, HasNewGroup, IsBehindFirst, IsNextWord}
use Rattle.machine_chain.specs.Chain.{pivot_of}
use Rattle.machine_chain.specs.Keepers.{IsSameStructure}

-- a key that has a group of the part is of the part
pub key_of_group : (o : Opening) (t : Execution) (part g k : ℕ) → Valid o t → IsPart o part →
    part_of o g ≡ part → group_of o k t ≡ g → IsKeyIn o part k
key_of_group o t part g k valid is_part same is = ⊎_elim
    (λ (small : k ≤ greatest_key).
    subst (λ (p : ℕ). IsKeyIn o p k) (ap (part_of o) is ∙ same)
    (key_in_part o t k valid (group_exists o t k valid small)))
    (λ (large : greatest_key < k).
    let last : g ≡ group_total (shape o) = sym is ∙ (keys_hold o t valid).beyond k large in
    let parts : part_of o g ≡ parts_in (shape o) =
    ap (part_of o) last ∙ first_group-part (shape o) (parts_in (shape o)) (some_group o)
    in
    absurd (omega (arith, is_part, same, parts)))
    (le_or_lt k greatest_key)

-- these events, after this execution, are those of other hands than the keeper of this part
pub record AreOthers (o : Opening) (hand part : ℕ) (newer t : Execution) : Type 0 where
  pub is_hand : IsHand o hand
  pub keeper : IsPartKeeper o hand part
  pub valid : Valid o (newer ++ t)
  pub without : Without hand newer

module _ {o : Opening} {hand part : ℕ} {newer t : Execution} (x : AreOthers o hand part newer t) where
  pub is_part : IsPart o part
  is_part = let keeper = x.keeper in let is_hand = x.is_hand in omega arith

  pub before : Valid o t
  before = valid_before o newer t x.valid

  pub same : IsSameStructure o part t (newer ++ t)
  same = keeper_alone o part newer t is_part x.valid
      (subst (λ (h : ℕ). Without h newer) x.keeper x.without)

  -- ---- key ranges ----

  -- a group of the part answers for the keys for which it answered
  pub group_on : (k g : ℕ) → part_of o g ≡ part → group_of o k t ≡ g → group_of o k (newer ++ t) ≡ g
  group_on k g mine is = same.groups k (key_of_group o t part g k before is_part mine is) ∙ is

  pub group_was : (k g : ℕ) → part_of o g ≡ part → group_of o k (newer ++ t) ≡ g → group_of o k t ≡ g
  group_was k g mine is =
      sym (same.groups k (key_of_group o (newer ++ t) part g k x.valid is_part mine is)) ∙ is

  pub unowned_on : (g : ℕ) → part_of o g ≡ part → ((k : ℕ) → group_of o k t ≢ g) → (k : ℕ) →
      group_of o k (newer ++ t) ≢ g
  unowned_on g mine none k is = none k (group_was k g mine is)

  -- a new group of the part is that of keys of the part
  pub key_of_new : (k h : ℕ) → part_of o h ≡ part → successor k t ≡ Some h → IsKeyIn o part k
  key_of_new k h mine is =
      subst (λ (p : ℕ). IsKeyIn o p k) mine (successor_in_part o t k h before is)

  -- and is the new group of the keys of which it was
  pub new_on : (k h : ℕ) → part_of o h ≡ part → successor k t ≡ Some h → successor k (newer ++ t) ≡ Some h
  new_on k h mine is =
      same.news k (key_of_new k h mine is) ∙ is

  pub new_was : (k h : ℕ) → part_of o h ≡ part → successor k (newer ++ t) ≡ Some h → successor k t ≡ Some h
  new_was k h mine is =
      sym (same.news k (subst (λ (p : ℕ). IsKeyIn o p k) mine
      (successor_in_part o (newer ++ t) k h x.valid is))) ∙ is

  -- ---- phases ----

  pub phase_on : (g : ℕ) (x : Phase) → part_of o g ≡ part → phase g t ≡ x → phase g (newer ++ t) ≡ x
  phase_on g x mine is = same.phases g mine ∙ is

  pub phase_was : (g : ℕ) (y : Phase) → part_of o g ≡ part → phase g (newer ++ t) ≡ y → phase g t ≡ y
  phase_was g y mine is = sym (same.phases g mine) ∙ is

  -- ---- rebuilds ----

  -- a group is of the rebuild of the part by which it was made
  pub made_on : (h f : ℕ) → part_of o f ≡ part → rebuild h t ≡ Some f → rebuild h (newer ++ t) ≡ Some f
  made_on h f mine is = same.rebuilds h (sym (rebuild_in_part o t before h f is) ∙ mine) ∙ is

  pub made_was : (h f : ℕ) → part_of o f ≡ part → rebuild h (newer ++ t) ≡ Some f → rebuild h t ≡ Some f
  made_was h f mine is =
      sym (same.rebuilds h (sym (rebuild_in_part o (newer ++ t) x.valid h f is) ∙ mine)) ∙ is

  pub has_new_on : (f k : ℕ) → part_of o f ≡ part → HasNewGroup f k t → HasNewGroup f k (newer ++ t)
  has_new_on f k mine is =
      let h : ℕ = is.0 in
      let theirs : part_of o h ≡ part = sym (rebuild_in_part o t before h f is.2) ∙ mine in
      (h, new_on k h theirs is.1, made_on h f mine is.2)

  pub has_new_was : (f k : ℕ) → part_of o f ≡ part → HasNewGroup f k (newer ++ t) → HasNewGroup f k t
  has_new_was f k mine is =
      let h : ℕ = is.0 in
      let theirs : part_of o h ≡ part = sym (rebuild_in_part o (newer ++ t) x.valid h f is.2) ∙ mine in
      (h, new_was k h theirs is.1, made_was h f mine is.2)

  -- ---- words ----

  -- a next word leads on as it did
  pub next_word_on : (high n m : ℕ) → IsKeyIn o part high → m ≡ n → IsNextWord o t part high n →
      IsNextWord o (newer ++ t) part high m
  next_word_on high n m key e is = ⊎_elim
      (λ (z : (high ≡ last_key o part) × (n ≡ 0)). inl (z.0, e ∙ z.1))
      (λ (z : (high < last_key o part) × (n ≡ group_of o (high + 1) t + 1)).
      let next : IsKeyIn o part (high + 1) =
      let from = key.from in let below = z.0 in
      record { from = omega (arith, from); to = omega (arith, below) }
      in
      inr (z.0, e ∙ z.1 ∙ ap (λ (i : ℕ). i + 1) (sym (same.groups (high + 1) next)))) is

  -- the new groups of a rebuild lead to one another as they did
  pub chained_on : (f : ℕ) → part_of o f ≡ part → AreChained o f t → AreChained o f (newer ++ t)
  chained_on f mine is k g h of_g of_h at_g at_h apart =
      let mine_g : part_of o g ≡ part = sym (rebuild_in_part o (newer ++ t) x.valid g f of_g) ∙ mine in
      let mine_h : part_of o h ≡ part = sym (rebuild_in_part o (newer ++ t) x.valid h f of_h) ∙ mine in
      let m = is k g h (made_was g f mine of_g) (made_was h f mine of_h) (new_was k g mine_g at_g)
      (new_was (k + 1) h mine_h at_h) apart
      in
      (same.nexts g mine_g ∙ m.0, same.pivots h mine_h ∙ m.1)

  -- and lie behind the first
  pub behind_on : (f k : ℕ) → part_of o f ≡ part → IsBehindFirst o f k t → IsBehindFirst o f k (newer ++ t)
  behind_on f k mine is =
      let now : pivot_of o f (newer ++ t) ≡ pivot_of o f t = same.pivots f mine in (
        subst (λ (i : ℕ). i ≤ k) (sym now) is.0,
        ap (λ (i : ℕ). successor i (newer ++ t)) now ∙ new_on (pivot_of o f t) f mine is.1,
        λ j from to. has_new_on f j mine (is.2 j (subst (λ (i : ℕ). i ≤ j) now from) to),
      )

  -- ---- parts ----

  -- the new group of a key of the part is of the part
  pub new_part : (k h : ℕ) → IsKeyIn o part k → successor k t ≡ Some h → part_of o h ≡ part
  new_part k h key is =
      one_part o (part_of o h) part k (group-part (shape o) h (successor_exists o t k h before is)) is_part
      (successor_in_part o t k h before is) key

  -- so is a group of its keys
  pub owner_part : (k : ℕ) → IsKeyIn o part k → part_of o (group_of o k t) ≡ part
  owner_part k key = group_in_part o t part k before is_part key

  -- the part is that of each of its groups
  pub for_group : (g : ℕ) → part_of o g ≡ part → AreOthers o hand (part_of o g) newer t
  for_group g mine = record {
    is_hand = x.is_hand;
    keeper = x.keeper ∙ ap (λ (i : ℕ). (limits o).callers + i) (sym mine);
    valid = x.valid;
    without = x.without;
  }
