-- A keeper that may open a group may still do so later.
use Rattle.std.proofs.Common.{◌≡◌, ◌≢◌, ℕ, ◌+◌, inl, inr, ⊎_elim, Some, true, ◌∷◌, ◌++◌, refl, sym, ap}
use Rattle.std.proofs.Common.{◌∙◌, subst}
use mathlib.Core.Logic.{dite}
use native.Mathlib.Decide.{ℕ_discrete}
use Rattle.word_layout.specs.Phase.{word_of_phase}
use Rattle.word_layout.specs.declared.phase.Phase.TheVariants.{Frozen, Open, Opened}
use Rattle.index_machine.proofs.OfParts.{frozen_in_chain, opened_in_part, rebuild_in_part}
use Rattle.index_machine.proofs.OfParts.{successor_of_part}
use Rattle.index_machine.specs.Conditions.{Allowed}
use Rattle.index_machine.specs.Execution.{Execution, event}
use Rattle.index_machine.specs.Groups.{phase, rebuild}
use Rattle.index_machine.specs.Keepers.{IsPartKeeper, part_of}
use Rattle.index_machine.specs.Permissions.{IsClosedToInserts, IsGone, MayInsertInto}
use Rattle.index_machine.specs.Reaching.{stands_in}
use Rattle.index_machine.specs.Sections.{IsCaller, IsHand}
use Rattle.index_machine.specs.declared.events.Action.{Action}
use Rattle.index_machine.specs.declared.events.Action.TheVariants.{LoadPhase}
use Rattle.index_machine.specs.declared.opening.Opening.{Opening}
use Rattle.machine_barriers.proofs.OpenedGroups.{SeesInsert, insert_gain}
use Rattle.machine_barriers.proofs.Reaches.{loads_phase, may_as}
use Rattle.machine_barriers.specs.Gains.{SeesOpen, SeesOpened}
use Rattle.machine_keeper.proofs.GoneOver.{are_gone_over, one, opened_was}
use Rattle.machine_keeper.proofs.OtherPlaces.{IsOther, over}
use Rattle.machine_keeper.proofs.Others.{AreOthers, before, behind_on, chained_on, group_on, group_was}
use Rattle.machine_keeper.proofs.Others.{has_new_on, made_on, made_was, new_was, next_word_on}
use Rattle.machine_keeper.proofs.Others.{key_of_new, phase_on, same}
use Rattle.machine_keeper.specs.Staying.{IsOfPastRebuild, MayOpenStays}

-- no caller stands in the group, or it is not open
abbrev pub IsNotSeenOpen : Opening → ℕ → Execution → Type 0
IsNotSeenOpen o g t = (c : ℕ) → IsCaller o c → stands_in c g t ≡ true → phase g t ≡ Open → ⊥

-- ---- insert permissions ----

module _ {o : Opening} {hand part b : ℕ} {d : Action} {t : Execution} (is_hand : IsHand o hand)
    (keeper : IsPartKeeper o hand part) (x : IsOther o hand b d t) where
  -- a group into which nobody may insert, and that nobody can see open, stays closed
  pub closed_on : (g : ℕ) → part_of o g ≡ part → IsClosedToInserts o g t → IsNotSeenOpen o g t →
      IsOfPastRebuild o g t → IsClosedToInserts o g (event b d ∷ t)
  closed_on g mine closed unseen past c is now = ⊎_elim
      (λ (z : MayInsertInto c g t). closed c is z)
      (λ (z : (b ≡ c) × SeesInsert g d t). sees z.0 z.1)
      (insert_gain c g b d t (λ f made. sym ((same (one is_hand keeper x)).rebuilds g mine) ∙ made) now).1
    where
      sees : b ≡ c → SeesInsert g d t → ⊥
      sees by how =
          let mine : Allowed o t c d = subst (λ (y : ℕ). Allowed o t y d) by x.valid.0 in
          ⊎_elim
          (λ (w : SeesOpen g d).
          let m = loads_phase o c g (word_of_phase Open) Open t is
          (may_as o t c d (LoadPhase g (word_of_phase Open)) w mine) refl in
          unseen c is m.1 m.2)
          (λ (w : (f : ℕ) × (rebuild g t ≡ Some f) × SeesOpened f d).
          let old : ℕ = w.2.0 in
          let m = loads_phase o c old (word_of_phase (Opened w.0)) (Opened w.0) t is
          (may_as o t c d (LoadPhase old (word_of_phase (Opened w.0))) w.2.1 mine) refl in
          (past w.0 w.1 old m.2).empty c is m.1)
          how

module _ {o : Opening} {hand part : ℕ} {newer t : Execution} (x : AreOthers o hand part newer t) where
  pub past_over : (g : ℕ) → part_of o g ≡ part → IsOfPastRebuild o g t → IsOfPastRebuild o g (newer ++ t)
  past_over g mine past e made =
      let was : rebuild g t ≡ Some e = sym ((same x).rebuilds g mine) ∙ made in
      are_gone_over x e (rebuild_in_part o t (before x) g e was ∙ mine) (past e was)

module _ {o : Opening} {hand part : ℕ} {newer t : Execution} (x : AreOthers o hand part newer t) where
  -- a frozen group of the part stays closed
  pub frozen_closed : (g : ℕ) → part_of o g ≡ part → phase g t ≡ Frozen → IsOfPastRebuild o g t →
      IsClosedToInserts o g t → IsClosedToInserts o g (newer ++ t)
  frozen_closed g mine frozen past closed =
      (over o hand (λ s. (phase g s ≡ Frozen) × IsOfPastRebuild o g s × IsClosedToInserts o g s)
      (λ b d s y z.
      let w = one x.is_hand x.keeper y in (
        phase_on w g Frozen mine z.0,
        past_over w g mine z.1,
        closed_on x.is_hand x.keeper y g mine z.2
            (λ c is stands opens. let bad : Frozen ≡ Open = sym z.0 ∙ opens in cc) z.1,
      ))
      newer t x.valid x.without (frozen, past, closed)).2

pub may_open : MayOpenStays
may_open o hand g f newer t is_hand valid without may =
    let x : AreOthers o hand (part_of o g) newer t =
    record { is_hand = is_hand; keeper = may.keeper; valid = valid; without = without }
    in
    let c = frozen_in_chain o t (before x) g may.frozen in
    let new = may.planned c.0 c.1 in
    let mine : part_of o f ≡ part_of o g =
    rebuild_in_part o t (before x) new.0 f new.2
    ∙ (successor_of_part o t c.0 new.0 (before x) new.1 ∙ ap (part_of o) c.1)
    in
    let past : IsOfPastRebuild o g t = λ e made h at. may.past h e at made in
    record {
      keeper = may.keeper;
      frozen = phase_on x g Frozen refl may.frozen;
      closed = frozen_closed x g refl may.frozen past may.closed;
      named = made_on x f f mine may.named;
      fresh = λ h made.
          phase_on x h Open (sym (rebuild_in_part o (newer ++ t) valid h f made) ∙ mine)
          (may.fresh h (made_was x h f mine made));
      unchained = λ k h made is.
          may.unchained k h (made_was x h f mine made)
          (group_was x k h (sym (rebuild_in_part o (newer ++ t) valid h f made) ∙ mine) is);
      planned = λ k is. has_new_on x f k mine (may.planned k (group_was x k g refl is));
      behind = λ k is. behind_on x f k mine (may.behind k (group_was x k g refl is));
      chained = chained_on x f mine may.chained;
      ends = λ k h is made last.
          let of_h : part_of o h ≡ part_of o g =
          sym (rebuild_in_part o (newer ++ t) valid h f made) ∙ mine
          in
          let was = new_was x k h of_h is in
          next_word_on x k _ _ (key_of_new x k h of_h was) ((same x).nexts h of_h)
          (may.ends k h was (made_was x h f mine made) (λ z. last (has_new_on x f (k + 1) mine z)));
      siblings = λ j at.
          let s = may.siblings j (opened_was x j f mine at) in
          (s.0, group_on x s.0 j (sym (opened_in_part o (newer ++ t) valid j f at) ∙ mine) s.1);
      only = λ h e theirs at.
          let was = opened_was x h e (opened_in_part o (newer ++ t) valid h e at ∙ theirs) at in
          dite (ℕ_discrete e f) (λ (z : e ≡ f). inl z)
          (λ (n : e ≢ f). inr (are_gone_over x e (opened_in_part o (newer ++ t) valid h e at ∙ theirs)
          (λ j opened. ⊎_elim (λ (z : e ≡ f). absurd (n z)) (λ (z : IsGone o j t). z)
          (may.only j e
          (sym (opened_in_part o t (before x) j e opened)
          ∙ (opened_in_part o (newer ++ t) valid h e at ∙ theirs)) opened)) h at));
      past = λ h e at made. past_over x g refl past e made h at;
    }
