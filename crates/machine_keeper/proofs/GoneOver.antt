-- Groups of a part that are gone stay so while other hands step.
use Rattle.std.proofs.Common.{◌≡◌, ◌≢◌, ℕ, ◌+◌, ⊎_elim, Some, true, [], ◌∷◌, ◌++◌, sym, ap}
use Rattle.std.proofs.Common.{◌∙◌}
use Rattle.word_layout.proofs.PartGroups.{group-part}
use Rattle.word_layout.specs.declared.phase.Phase.TheVariants.{Opened}
use Rattle.index_machine.proofs.OfParts.{one_part, opened_in_part, spot_is_part, successor_exists}
use Rattle.index_machine.proofs.OfParts.{successor_in_part}
use Rattle.index_machine.specs.Execution.{Execution, event}
use Rattle.index_machine.specs.Groups.{phase, slot}
use Rattle.index_machine.specs.Keepers.{IsPartKeeper, part_of}
use Rattle.index_machine.specs.KeyRanges.{group_of, predecessor}
use Rattle.index_machine.specs.Permissions.{AreGone, IsGone, IsReadableSlot, IsReplaced}
use Rattle.index_machine.specs.Reaching.{stands_in}
use Rattle.index_machine.specs.RebuildConditions.{IsSettled, MayInstall}
use Rattle.index_machine.specs.Sections.{IsCaller, IsHand}
use Rattle.index_machine.specs.Words.{limits, shape}
use Rattle.index_machine.specs.declared.events.Action.{Action}
use Rattle.index_machine.specs.declared.events.InstallWord.TheVariants.{FirstSlot}
use Rattle.index_machine.specs.declared.opening.Opening.{Opening}
use Rattle.machine_barriers.proofs.OpenedGroups.{gone_on, opened_groups_hold, slot_back}
use Rattle.machine_chain.proofs.Standing.{standing}
use Rattle.machine_chain.specs.Walks.{AnswersFor, IsAwaitedBy}
use Rattle.machine_keeper.proofs.OtherPlaces.{IsOther, over}
use Rattle.machine_keeper.proofs.Others.{AreOthers, group_was, phase_was, same, unowned_on}
use Rattle.machine_readers.proofs.StandingCallers.{groups_before_are_opened}

-- ---- one step ----

module _ {o : Opening} {hand part b : ℕ} {d : Action} {t : Execution} (is_hand : IsHand o hand)
    (keeper : IsPartKeeper o hand part) (x : IsOther o hand b d t) where
  pub one : AreOthers o hand part (event b d ∷ []) t
  one = record { is_hand = is_hand; keeper = keeper; valid = x.valid; without = (x.other, tt) }

  -- the old groups of a rebuild of the part are gone still
  pub are_gone_on : (f : ℕ) → part_of o f ≡ part → AreGone o f t → AreGone o f (event b d ∷ t)
  are_gone_on f mine all h at =
      let named : part_of o f ≡ part_of o h = opened_in_part o (event b d ∷ t) x.valid h f at in
      gone_on o t b d x.valid.0 (opened_groups_hold o t x.valid.1) h f
      (phase_was one h (Opened f) (sym named ∙ mine) at) all

  -- another keeper's install leads to no group of the part
  not_led : (g q s lead low high : ℕ) → part_of o g ≡ part →
      MayInstall o t b (FirstSlot q s) lead low high → lead ≡ g → ⊥
  not_led g q s lead low high mine m same =
      let theirs = successor_in_part o t low lead x.valid.1 m.first.1 in
      let exists = successor_exists o t low lead x.valid.1 m.first.1 in
      let is_part = spot_is_part o t b (FirstSlot q s) lead low high x.valid.2 m in
      let one_is = one_part o q (part_of o lead) low is_part (group-part (shape o) lead exists)
      m.in_part.0 theirs
      in
      x.other (m.keeper
      ∙ ap (λ (i : ℕ). (limits o).callers + i) (one_is ∙ (ap (part_of o) same ∙ mine))
      ∙ sym keeper)

  unnamed_on : (g : ℕ) → part_of o g ≡ part → ((k : ℕ) → group_of o k t ≢ g) →
      ((q side i : ℕ) → IsReadableSlot o q side i t → slot o q side i t ≢ g) → (q side i : ℕ) →
      IsReadableSlot o q side i (event b d ∷ t) → slot o q side i (event b d ∷ t) ≢ g
  unnamed_on g mine unowned none q side i readable names =
      let was = slot_back o t b d x.valid.0 g (λ r s lead low high m z. not_led g r s lead low high mine m z)
      unowned q side i readable names
      in
      none q side i was.0 was.1

-- ---- all that other hands did ----

module _ {o : Opening} {hand part : ℕ} {newer t : Execution} (x : AreOthers o hand part newer t) where
  pub are_gone_over : (f : ℕ) → part_of o f ≡ part → AreGone o f t → AreGone o f (newer ++ t)
  are_gone_over f mine all =
      over o hand (AreGone o f) (λ b d s y z. are_gone_on x.is_hand x.keeper y f mine z) newer t
      x.valid x.without all

  -- a group of the part that was opened is of the rebuild of which it was
  pub opened_was : (h f : ℕ) → part_of o f ≡ part → phase h (newer ++ t) ≡ Opened f → phase h t ≡ Opened f
  opened_was h f mine at =
      phase_was x h (Opened f) (sym (opened_in_part o (newer ++ t) x.valid h f at) ∙ mine) at

  pub settled_over : (g : ℕ) → part_of o g ≡ part → IsSettled o g t → IsSettled o g (newer ++ t)
  settled_over g mine settled f at =
      are_gone_over f (opened_in_part o (newer ++ t) x.valid g f at ∙ mine)
      (settled f (phase_was x g (Opened f) mine at))

  pub replaced_over : (g : ℕ) → part_of o g ≡ part → IsReplaced o g t → IsReplaced o g (newer ++ t)
  replaced_over g mine is = (
    is.0,
    (same x).phases g mine ∙ is.1,
    are_gone_over is.0 (opened_in_part o (newer ++ t) x.valid g is.0 ((same x).phases g mine ∙ is.1) ∙ mine)
        is.2,
  )

  -- a gone group that no caller awaits stays gone
  pub gone_over : (g : ℕ) → part_of o g ≡ part → IsGone o g t → IsSettled o g t →
      ((c : ℕ) → IsAwaitedBy o c g (newer ++ t) → ⊥) → IsGone o g (newer ++ t)
  gone_over g mine gone settled unawaited = record {
    unowned = unowned_on x g mine gone.unowned;
    unnamed = named.1;
    empty = empty;
  }
    where
      named : ((k : ℕ) → group_of o k (newer ++ t) ≢ g)
          × ((q side i : ℕ) → IsReadableSlot o q side i (newer ++ t) → slot o q side i (newer ++ t) ≢ g)
      named = over o hand
          (λ s. ((k : ℕ) → group_of o k s ≢ g)
          × ((q side i : ℕ) → IsReadableSlot o q side i s → slot o q side i s ≢ g))
          (λ b d s y z. (
            unowned_on (one x.is_hand x.keeper y) g mine z.0,
            unnamed_on x.is_hand x.keeper y g mine z.0 z.1,
          ))
          newer t x.valid x.without (gone.unowned, gone.unnamed)

      empty : (c : ℕ) → IsCaller o c → stands_in c g (newer ++ t) ≡ true → ⊥
      empty c is s = ⊎_elim
          (λ (z : (k : ℕ) × AnswersFor o k g (newer ++ t)). ⊎_elim
          (λ (y : group_of o z.0 (newer ++ t) ≡ g). gone.unowned z.0 (group_was x z.0 g mine y))
          (λ (y : predecessor o z.0 (newer ++ t) ≡ Some g).
          let old = groups_before_are_opened o (newer ++ t) x.valid z.0 g y in
          (settled_over g mine settled old.0 old.1 g old.1).empty c is s) z.1)
          (λ (z : IsAwaitedBy o c g (newer ++ t)). unawaited c z)
          (standing o (newer ++ t) x.valid c g is s)
