-- A gone group to which no rebuild leads stays gone.
use Rattle.std.proofs.Common.{◌≡◌, ◌≢◌, ℕ, ◌⊎◌, inr, ⊎_elim, Option, Some, None, Bool, true, false}
use Rattle.std.proofs.Common.{[], ◌∷◌, ◌+◌, cond, refl, sym, ap, ◌∙◌, subst}
use Rattle.std.specs.Prelude.{◌==◌}
use mathlib.Core.Logic.{dite}
use native.Mathlib.Decide.{ℕ_discrete}
use Rattle.index_machine.proofs.Executions.{choice-other, choice-same}
use Rattle.index_machine.specs.Conditions.{Allowed, Valid}
use Rattle.index_machine.specs.Execution.{Execution, event}
use Rattle.index_machine.specs.Groups.{name_used_again, phase, rebuild, slot}
use Rattle.index_machine.specs.KeyRanges.{group_of, or_else, successor}
use Rattle.index_machine.specs.Openings.{within}
use Rattle.index_machine.specs.Permissions.{IsGone}
use Rattle.index_machine.specs.Reaching.{SeesSlot, saw_opened, stands_in}
use Rattle.index_machine.specs.RebuildConditions.{MayInstall}
use Rattle.index_machine.specs.Sections.{IsCaller}
use Rattle.index_machine.specs.declared.events.Action.{Action}
use Rattle.index_machine.specs.declared.events.Action.TheVariants.{Enter, Freeze, Install, Leave}
use Rattle.index_machine.specs.declared.events.Action.TheVariants.{LoadNext, LoadPhase}
use Rattle.index_machine.specs.declared.events.Action.TheVariants.{LoadSlotGroup, NewGroup}
use Rattle.index_machine.specs.declared.events.Action.TheVariants.{StoreOpened, Thaw}
use Rattle.index_machine.specs.declared.events.InstallWord.{InstallWord}
use Rattle.index_machine.specs.declared.events.InstallWord.TheVariants.{FirstSlot}
use Rattle.index_machine.specs.declared.opening.Opening.{Opening}
use Rattle.machine_barriers.proofs.Gains.{saw_opened_gain, stands_in_gain}
use Rattle.machine_barriers.proofs.OpenedGroups.{frozen_not, not_reachable, open_not}
use Rattle.machine_barriers.proofs.OpenedGroups.{opened_groups_hold}
use Rattle.machine_barriers.proofs.OpenedGroups.{slot_back}
use Rattle.machine_barriers.proofs.Reaches.{loads_group, loads_phase, may_as}
use Rattle.machine_barriers.specs.Gains.{LoadsGroup, SeesOpened}
use Rattle.machine_barriers.specs.GoneGroups.{BegunGroupsAreGone}
use Rattle.machine_barriers.specs.GoneGroups.{GoneGroupsStay, IsLeftAlone}
use Rattle.machine_barriers.specs.GoneGroups.{NeverBegunGroupsAreLeftAlone}
use Rattle.machine_barriers.specs.GoneGroups.{ReplacedGroupsAreLeftAlone}
use Rattle.machine_barriers.specs.GoneGroups.{UnopenedGroupsAreLeftAlone}
use Rattle.index_machine.proofs.Options.{none_some, not_so, some_is}
use Rattle.word_layout.specs.Phase.{word_of_phase}
use Rattle.word_layout.specs.declared.phase.Phase.{Phase}
use Rattle.word_layout.specs.declared.phase.Phase.TheVariants.{Frozen, Open, Opened}

-- an install takes no group in that is left alone
not_taken_in : (o : Opening) (t : Execution) (b : ℕ) (spot : InstallWord) (lead low high g : ℕ) →
    MayInstall o t b spot lead low high → IsLeftAlone o g t → (k : ℕ) →
    within low k high ≡ true → successor k t ≡ Some g → ⊥
not_taken_in o t b spot lead low high g may alone k is e =
    let m = may.opened k is in
    let same : m.1 ≡ g = some_is (sym m.3 ∙ e) in
    alone.not_awaited k m.0 m.2 e (subst (λ (y : ℕ). rebuild y t ≡ Some m.0) same m.4)
    (subst (λ (y : ℕ). phase y t ≡ Open) same m.5)

unowned_stays : (o : Opening) (t : Execution) (b : ℕ) (d : Action) (g : ℕ) → Allowed o t b d →
    IsGone o g t → IsLeftAlone o g t → (k : ℕ) → group_of o k (event b d ∷ t) ≢ g
unowned_stays o t b (Install spot lead low high) g may gone alone k e =
    go (within low k high) refl e
  where
    new : (s : Option ℕ) → successor k t ≡ s → within low k high ≡ true →
        or_else s (group_of o k t) ≡ g → ⊥
    new None s is z = gone.unowned k z
    new (Some h) s is z =
        not_taken_in o t b spot lead low high g may alone k is (s ∙ ap Some z)

    go : (w : Bool) → within low k high ≡ w →
        cond w (or_else (successor k t) (group_of o k t)) (group_of o k t) ≡ g → ⊥
    go true is z = new (successor k t) refl is z
    go false is z = gone.unowned k z
unowned_stays o t b d g may gone alone k e = gone.unowned k e

pub gone_stays : GoneGroupsStay
gone_stays o t b d g may gone alone = record {
  unowned = unowned_stays o t b d g may gone alone;
  unnamed = λ part side i r e.
      let w = slot_back o t b d may g
      (λ q s lead low high m z.
      let first = m.first in
      not_taken_in o t b (FirstSlot q s) lead low high g m alone low first.0
      (first.1 ∙ ap Some z))
      gone.unowned part side i r e in
      gone.unnamed part side i w.0 w.1;
  empty = λ c is s.
      ⊎_elim (λ (z : stands_in c g t ≡ true). gone.empty c is z)
      (λ (z : (b ≡ c) × LoadsGroup g d).
      alone.unreachable c is
      (loads_group o c g d t is (subst (λ (y : ℕ). Allowed o t y d) z.0 may) z.1).1)
      (stands_in_gain c g b d t s).1;
}

pub begun_gone : BegunGroupsAreGone
begun_gone o t b g low high f may = record {
  unowned = λ k e. may.gone.unowned k e;
  unnamed = λ part side i r e. may.gone.unnamed part side i r e;
  empty = λ c is s. may.gone.empty c is s;
}

pub replaced_alone : ReplacedGroupsAreLeftAlone
replaced_alone o t valid g f at all = record {
  not_awaited = λ k e opened heir made is. open_not (sym is ∙ at);
  unreachable = λ c is r.
      not_reachable o t (opened_groups_hold o t valid) g f c is at all r;
}

-- ---- a caller that saw a group opened ----

-- what an action of a hand's own may set stays set
stays_set : (mine w x : Bool) → x ≡ true → cond mine (cond w true x) x ≡ true
stays_set true true x e = refl
stays_set true false x e = e
stays_set false w x e = e

-- at a crossing that is not its own, a hand keeps where it stands
stays_standing : (b c : ℕ) (saw stands : Bool) → cond (b == c) false saw ≡ true →
    stands ≡ true → cond (b == c) false stands ≡ true
stays_standing b c saw stands e s =
    dite (ℕ_discrete b c)
    (λ (z : b ≡ c). not_so (sym (choice-same b c false saw z) ∙ e))
    (λ (n : b ≢ c). choice-other b c false stands n ∙ s)

-- another phase than this one was not set here
other_phase : (i h f : ℕ) (x y : Phase) → (i ≡ h → ⊥) → y ≡ Opened f →
    cond (i == h) x y ≡ Opened f
other_phase i h f x y n e = choice-other i h x y n ∙ e

-- the caller stands in the group, which is opened to the rebuild
abbrev StandsInOpened : ℕ → ℕ → ℕ → Execution → Type 0
StandsInOpened c f h t = (stands_in c h t ≡ true) × (phase h t ≡ Opened f)

-- in one read section it goes on standing there, and the group stays opened: it is not gone
seen_old_step : (o : Opening) (t : Execution) (b : ℕ) (d : Action) → Allowed o t b d →
    (c f h : ℕ) → IsCaller o c → saw_opened c f (event b d ∷ t) ≡ true →
    StandsInOpened c f h t → StandsInOpened c f h (event b d ∷ t)
seen_old_step o t b (Enter n) may c f h is e at =
    (stays_standing b c (saw_opened c f t) (stands_in c h t) e at.0, at.1)
seen_old_step o t b (Leave n) may c f h is e at =
    (stays_standing b c (saw_opened c f t) (stands_in c h t) e at.0, at.1)
seen_old_step o t b (LoadSlotGroup part side i found) may c f h is e at =
    (stays_set (b == c) (found == h) (stands_in c h t) at.0, at.1)
seen_old_step o t b (LoadNext g found) may c f h is e at =
    (stays_set (b == c) (found == h + 1) (stands_in c h t) at.0, at.1)
seen_old_step o t b (LoadPhase g found) may c f h is e at =
    (stays_set (b == c) (found == word_of_phase (Opened h)) (stands_in c h t) at.0, at.1)
seen_old_step o t b (Freeze i) may c f h is e at = (
  at.0,
  other_phase i h f Frozen (phase h t)
      (λ z. open_not (sym may.was ∙ (ap (λ (y : ℕ). phase y t) z ∙ at.1))) at.1,
)
seen_old_step o t b (Thaw i) may c f h is e at = (
  at.0,
  other_phase i h f Open (phase h t)
      (λ z. frozen_not (sym may.was ∙ (ap (λ (y : ℕ). phase y t) z ∙ at.1))) at.1,
)
seen_old_step o t b (StoreOpened i j) may c f h is e at = (
  at.0,
  other_phase i h f (Opened j) (phase h t)
      (λ z. frozen_not (sym may.frozen ∙ (ap (λ (y : ℕ). phase y t) z ∙ at.1))) at.1,
)
seen_old_step o t b (NewGroup i low high j) may c f h is e at = (
  at.0,
  other_phase i h f Open (name_used_again i (phase h t))
      (λ z. may.gone.empty c is (subst (λ (y : ℕ). stands_in c y t ≡ true) (sym z) at.0))
      (ap (name_used_again i) at.1
      ∙ choice-other f i Open (Opened f)
      (λ z. (may.replaced h (at.1 ∙ ap (λ (y : ℕ). Opened y) z)).empty c is at.0)),
)
seen_old_step o t b d may c f h is e at = at

-- who saw a group opened to a rebuild stands in an old group of it
seen_old : (o : Opening) (t : Execution) → Valid o t → (c f : ℕ) → IsCaller o c →
    saw_opened c f t ≡ true → (h : ℕ) × StandsInOpened c f h t
seen_old o [] valid c f is e = not_so e
seen_old o (x ∷ t) valid c f is e =
    let on = λ (h : ℕ) (at : StandsInOpened c f h t).
    seen_old_step o t x.by x.action valid.0 c f h is e at in
    ⊎_elim
    (λ (z : saw_opened c f t ≡ true).
    let old = seen_old o t valid.1 c f is z in (old.0, on old.0 old.1))
    (λ (z : (x.by ≡ c) × SeesOpened f x.action).
    let h : ℕ = z.1.0 in
    let mine : Allowed o t c x.action =
    subst (λ (y : ℕ). Allowed o t y x.action) z.0 valid.0 in
    let m = loads_phase o c h (word_of_phase (Opened f)) (Opened f) t is
    (may_as o t c x.action (LoadPhase h (word_of_phase (Opened f))) z.1.1 mine) refl in
    (h, on h (m.1, m.2)))
    (saw_opened_gain c f x.by x.action t e).1

-- ---- groups that are not opened ----

pub unopened_alone : UnopenedGroupsAreLeftAlone
unopened_alone o t valid g gone unopened past = record {
  not_awaited = λ k f opened heir made is.
      (past f made (group_of o k t) opened).unowned k refl;
  unreachable = λ c is r.
      ⊎_elim (λ (z : (k : ℕ) × (group_of o k t ≡ g)). gone.unowned z.0 z.1)
      (λ (y : ((part : ℕ) × (side : ℕ) × (i : ℕ) × SeesSlot c part side i t × (slot o part side i t ≡ g))
      ⊎ (((j : ℕ) × (e : ℕ) × (stands_in c j t ≡ true) × (phase j t ≡ Opened e)
      × (phase g t ≡ Opened e))
      ⊎ (((e : ℕ) × (rebuild g t ≡ Some e) × (saw_opened c e t ≡ true))
      ⊎ ((j : ℕ) × (stands_in c j t ≡ true) × (phase j t ≡ Opened g))))).
      ⊎_elim
      (λ (z : (part : ℕ) × (side : ℕ) × (i : ℕ) × SeesSlot c part side i t × (slot o part side i t ≡ g)).
      gone.unnamed z.0 z.1 z.2 (inr (c, is, z.3)) z.4)
      (λ (x : ((j : ℕ) × (e : ℕ) × (stands_in c j t ≡ true) × (phase j t ≡ Opened e)
      × (phase g t ≡ Opened e))
      ⊎ (((e : ℕ) × (rebuild g t ≡ Some e) × (saw_opened c e t ≡ true))
      ⊎ ((j : ℕ) × (stands_in c j t ≡ true) × (phase j t ≡ Opened g)))).
      ⊎_elim
      (λ (z : (j : ℕ) × (e : ℕ) × (stands_in c j t ≡ true) × (phase j t ≡ Opened e)
      × (phase g t ≡ Opened e)). unopened z.1 z.4)
      (λ (w : ((e : ℕ) × (rebuild g t ≡ Some e) × (saw_opened c e t ≡ true))
      ⊎ ((j : ℕ) × (stands_in c j t ≡ true) × (phase j t ≡ Opened g))).
      ⊎_elim
      (λ (z : (e : ℕ) × (rebuild g t ≡ Some e) × (saw_opened c e t ≡ true)).
      let old = seen_old o t valid c z.0 is z.2 in
      (past z.0 z.1 old.0 old.1.1).empty c is old.1.0)
      (λ (z : (j : ℕ) × (stands_in c j t ≡ true) × (phase j t ≡ Opened g)).
      (past g ((opened_groups_hold o t valid).named z.0 g z.2) z.0 z.2).empty c is z.1)
      w) x) y) r;
}

pub never_begun_alone : NeverBegunGroupsAreLeftAlone
never_begun_alone o t valid g gone never unopened =
    unopened_alone o t valid g gone unopened (λ f made. none_some (sym never ∙ made))
