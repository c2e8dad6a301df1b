-- What a keeper may store in the root of its part, it may still store later.
use Rattle.std.proofs.Common.{◌≡◌, ℕ, ◌+◌, ◌<◌, ◌≤◌, ⊎_elim, Some, ◌∷◌, ◌++◌, sym, ◌∙◌, subst, arith}
use Rattle.word_layout.proofs.KeySpace.{has_a_key}
use Rattle.index_machine.specs.Conditions.{Allowed}
use Rattle.index_machine.specs.Execution.{Execution, event}
use Rattle.index_machine.specs.Groups.{IsInUse}
use Rattle.index_machine.specs.Keepers.{IsKeyIn, IsPartKeeper, first_key}
use Rattle.index_machine.specs.Reaching.{root_seen}
use Rattle.index_machine.specs.RebuildConditions.{IsReadySide, IsUnusedSide}
use Rattle.index_machine.specs.Sections.{IsHand}
use Rattle.index_machine.specs.Words.{shape}
use Rattle.index_machine.specs.declared.events.Action.{Action}
use Rattle.index_machine.specs.declared.opening.Opening.{Opening}
use Rattle.machine_barriers.proofs.Gains.{root_seen_gain}
use Rattle.machine_barriers.proofs.Reaches.{loads_root}
use Rattle.machine_barriers.specs.Gains.{LoadsRoot}
use Rattle.machine_chain.specs.Walks.{slot_pivot}
use Rattle.machine_keeper.proofs.GoneOver.{one}
use Rattle.machine_keeper.proofs.OtherPlaces.{IsOther, over}
use Rattle.machine_keeper.proofs.Others.{AreOthers, is_part, same}
use Rattle.machine_keeper.specs.Staying.{MayStoreRootStays, MayStoreSlotStays, MayStoreUnusedStays}

-- the side that is not in use stays so, and nobody comes to stand there
module _ {o : Opening} {hand part b : ℕ} {d : Action} {t : Execution} (is_hand : IsHand o hand)
    (keeper : IsPartKeeper o hand part) (x : IsOther o hand b d t) where
  unused_on : (side : ℕ) → IsUnusedSide o part side t → IsUnusedSide o part side (event b d ∷ t)
  unused_on side is = record {
    not_present = λ i uses.
        is.not_present i
        (subst (λ (w : ℕ). IsInUse w side i) (same (one is_hand keeper x)).root_word uses);
    empty = λ c i caller sees. ⊎_elim
        (λ (z : root_seen c part t ≡ Some sees.0). is.empty c i caller (sees.0, z, sees.2))
        (λ (z : (b ≡ c) × LoadsRoot part sees.0 d).
        let m = loads_root o c part sees.0 d t caller
        (subst (λ (y : ℕ). Allowed o t y d) z.0 x.valid.0) z.1
        in
        is.not_present i (subst (λ (w : ℕ). IsInUse w side i) (sym m.1) sees.2))
        (root_seen_gain c part sees.0 b d t sees.1).1;
  }

module _ {o : Opening} {hand part : ℕ} {newer t : Execution} (x : AreOthers o hand part newer t) where
  unused_over : (side : ℕ) → IsUnusedSide o part side t → IsUnusedSide o part side (newer ++ t)
  unused_over side is =
      over o hand (IsUnusedSide o part side) (λ b d s y z. unused_on x.is_hand x.keeper y side z)
      newer t x.valid x.without is

  ready_over : (side many : ℕ) → IsReadySide o part side many t → IsReadySide o part side many (newer ++ t)
  ready_over side many is = record {
    some = is.some;
    few = is.few;
    unused = unused_over side is.unused;
    least = (same x).slot_pivots side 0 ∙ is.least;
    begins = (same x).slots side 0 ∙ is.begins ∙ sym ((same x).groups (first_key o part) first);
    rising = λ i less.
        subst (λ (n : ℕ). n < slot_pivot o part side (i + 1) (newer ++ t))
        (sym ((same x).slot_pivots side i))
        (subst (λ (n : ℕ). slot_pivot o part side i t < n) (sym ((same x).slot_pivots side (i + 1)))
        (is.rising i less));
    reached_by = λ i less.
        let k = is.reached_by i less in (
          k.0,
          k.1,
          (same x).groups k.0 k.1 ∙ k.2 ∙ sym ((same x).slots side i),
          subst (λ (n : ℕ). k.0 ≤ n) (sym ((same x).slot_pivots side i)) k.3,
        );
  }
    where
      first : IsKeyIn o part (first_key o part)
      first = let most = has_a_key (shape o).bounds part o.layout.cut (is_part x) in
          record { from = omega arith; to = most }

pub may_store_slot : MayStoreSlotStays
may_store_slot o hand part side i g newer t is_hand valid without may =
    let x : AreOthers o hand part newer t =
    record { is_hand = is_hand; keeper = may.keeper; valid = valid; without = without }
    in
    let k = may.chained in
    record {
      keeper = may.keeper;
      in_use = subst (λ (w : ℕ). IsInUse w side i) (sym (same x).root_word) may.in_use;
      chained = (
        k.0,
        k.1,
        (same x).groups k.0 k.1 ∙ k.2,
        subst (λ (n : ℕ). k.0 ≤ n) (sym ((same x).slot_pivots side i)) k.3,
      );
    }

pub may_store_unused : MayStoreUnusedStays
may_store_unused o hand part side i newer t is_hand valid without may =
    let x : AreOthers o hand part newer t =
    record { is_hand = is_hand; keeper = may.keeper; valid = valid; without = without }
    in
    record {
      keeper = may.keeper;
      is_side = may.is_side;
      is_slot = may.is_slot;
      unused = unused_over x side may.unused;
    }

pub may_store_root : MayStoreRootStays
may_store_root o hand part stored newer t is_hand valid without may =
    let x : AreOthers o hand part newer t =
    record { is_hand = is_hand; keeper = may.keeper; valid = valid; without = without }
    in
    record {
      keeper = may.keeper;
      many = may.many;
      named = may.named;
      is_side = may.is_side;
      stored_word = may.stored_word;
      ready = ready_over x may.named may.many may.ready;
      chained = λ side i uses.
          let k = may.chained side i uses in
          (k.0, k.1, (same x).groups k.0 k.1 ∙ k.2 ∙ sym ((same x).slots side i));
    }
