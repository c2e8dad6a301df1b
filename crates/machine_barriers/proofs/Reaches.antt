-- What the loads mean by which a caller comes to what it relies on.
use Rattle.std.proofs.Common.{◌≡◌, ◌≢◌, ℕ, ◌+◌, ◌⊎◌, inl, inr, ⊎_elim, Option, Some, None, Bool}
use Rattle.std.proofs.Common.{true, false}
use Rattle.std.proofs.Common.{refl, ap, ◌∙◌, subst, arith}
use Rattle.index_machine.specs.Conditions.{Allowed, Valid}
use Rattle.index_machine.specs.Execution.{Execution}
use Rattle.index_machine.specs.Forms.{Blank, Copied, Form, Locked, Moved, Redirect, Unlocked}
use Rattle.index_machine.specs.Forms.{state_word}
use Rattle.index_machine.specs.Groups.{phase, root}
use Rattle.index_machine.specs.Permissions.{IsReachable}
use Rattle.index_machine.specs.Places.{form}
use Rattle.index_machine.specs.Reaching.{SeesSlot, reached, root_seen, saw_open, saw_opened}
use Rattle.index_machine.specs.Reaching.{stands_in}
use Rattle.index_machine.specs.RebuildConditions.{MayLoadPhase}
use Rattle.index_machine.specs.Lanes.{HasLane}
use Rattle.index_machine.specs.RecordConditions.{IsInArrayOf, IsLinkInto, MayWalk}
use Rattle.index_machine.specs.Rows.{InBuffer, role}
use Rattle.index_machine.specs.Sections.{IsCaller, IsInside, IsOutside, IsReading}
use Rattle.index_machine.specs.Keepers.{IsKeeper, IsPartKeeper, IsGroupKeeper}
use Rattle.index_machine.specs.declared.events.Action.{Action}
use Rattle.index_machine.specs.declared.events.Action.TheVariants.{LoadHead, LoadLink, LoadNext}
use Rattle.index_machine.specs.declared.events.Action.TheVariants.{LoadPhase, LoadRoot}
use Rattle.index_machine.specs.declared.events.Action.TheVariants.{LoadSlotGroup, LoadState}
use Rattle.index_machine.specs.declared.opening.Opening.{Opening}
use Rattle.machine_barriers.proofs.Gains.{inside, reached_gain, root_seen_gain, saw_open_gain}
use Rattle.machine_barriers.proofs.Gains.{saw_opened_gain, stands_in_gain}
use Rattle.machine_barriers.specs.Barriers.{CallersOutsideRelyOnNothing}
use Rattle.machine_barriers.specs.Gains.{LoadsGroup, LoadsPlace, LoadsRoot, SeesOpen, SeesOpened}
use Rattle.index_machine.proofs.Options.{none_some, not_so}
use Rattle.word_layout.specs.Phase.{word_of_phase}
use Rattle.word_layout.specs.State.{word_of_state}
use Rattle.word_layout.specs.declared.phase.Phase.{Phase}
use Rattle.word_layout.specs.declared.phase.Phase.TheVariants.{Frozen, Open, Opened}
use Rattle.word_layout.specs.declared.state.State.TheVariants as state

pub caller_not_keeper : {X : Type 0} (o : Opening) (c : ℕ) → IsCaller o c → IsKeeper o c → X
caller_not_keeper o c is keeper = absurd (omega (arith, is, keeper))

-- ---- phases and their words ----

pub phase_word_is : (x y : Phase) → word_of_phase x ≡ word_of_phase y → x ≡ y
phase_word_is Open Open e = refl
phase_word_is Open Frozen e = absurd (omega (arith, e))
phase_word_is Open (Opened f) e = absurd (omega (arith, e))
phase_word_is Frozen Open e = absurd (omega (arith, e))
phase_word_is Frozen Frozen e = refl
phase_word_is Frozen (Opened f) e = absurd (omega (arith, e))
phase_word_is (Opened g) Open e = absurd (omega (arith, e))
phase_word_is (Opened g) Frozen e = absurd (omega (arith, e))
phase_word_is (Opened g) (Opened f) e =
    let same : g ≡ f = omega (arith, e) in ap (λ (y : ℕ). Opened y) same

-- ---- states and their words ----

direct_odd : (v p : ℕ) (l r : Bool) →
    word_of_state (state.Direct v l r) ≡ word_of_state (state.Redirect p) → ⊥
direct_odd v p true true e = absurd (omega (arith, e))
direct_odd v p true false e = absurd (omega (arith, e))
direct_odd v p false true e = absurd (omega (arith, e))
direct_odd v p false false e = absurd (omega (arith, e))

pub redirect_word_is : (f : Form) (p : ℕ) →
    state_word f ≡ word_of_state (state.Redirect p) → (y : ℕ) × (f ≡ Redirect p y)
redirect_word_is Blank p e = absurd (omega (arith, e))
redirect_word_is (Unlocked v r x) p e = absurd (direct_odd v p false r e)
redirect_word_is (Locked c v r x y) p e = absurd (direct_odd v p true r e)
redirect_word_is (Copied v r x) p e = absurd (direct_odd v p true r e)
redirect_word_is (Redirect q y) p e =
    let same : q ≡ p = omega (arith, e) in (y, ap (λ (i : ℕ). Redirect i y) same)
redirect_word_is Moved p e = absurd (omega (arith, e))

-- ---- the loads ----

pub may_as : (o : Opening) (t : Execution) (b : ℕ) (d e : Action) → d ≡ e → Allowed o t b d →
    Allowed o t b e
may_as o t b d e same may = subst (λ (y : Action). Allowed o t b y) same may

walks : (o : Opening) (c g : ℕ) (t : Execution) → IsCaller o c → MayWalk o c g t →
    IsReading o c t × (stands_in c g t ≡ true)
walks o c g t is may =
    ⊎_elim (λ (z : IsReading o c t × (stands_in c g t ≡ true)). z)
    (λ (z : IsGroupKeeper o c g). caller_not_keeper o c is (omega arith)) may

-- a phase load by a caller: it stands in the group, which has this phase
pub loads_phase : (o : Opening) (c g found : ℕ) (x : Phase) (t : Execution) → IsCaller o c →
    MayLoadPhase o c g found t → found ≡ word_of_phase x →
    IsReading o c t × (stands_in c g t ≡ true) × (phase g t ≡ x)
loads_phase o c g found x t is may e =
    let w = walks o c g t is may.allowed in
    (w.0, w.1, phase_word_is (phase g t) x (may.says ∙ e))

-- a load of a group's number by a caller: the group is one to which it may go
pub loads_group : (o : Opening) (c g : ℕ) (d : Action) (t : Execution) → IsCaller o c →
    Allowed o t c d → LoadsGroup g d → IsReading o c t × IsReachable o c g t
loads_group o c g d t is may by =
    ⊎_elim
    (λ (z : (part : ℕ) × (side : ℕ) × (i : ℕ) × (d ≡ LoadSlotGroup part side i g)).
    let m = may_as o t c d (LoadSlotGroup z.0 z.1 z.2 g) z.3 may in
    ⊎_elim
    (λ (w : IsReading o c t × SeesSlot c z.0 z.1 z.2 t).
    (w.0, inr (inl (z.0, z.1, z.2, w.1, m.says))))
    (λ (w : IsPartKeeper o c z.0). caller_not_keeper o c is (omega arith)) m.allowed)
    (λ (y : ((left : ℕ) × (d ≡ LoadNext left (g + 1)))
    ⊎ ((old : ℕ) × (d ≡ LoadPhase old (word_of_phase (Opened g))))).
    ⊎_elim
    (λ (z : (left : ℕ) × (d ≡ LoadNext left (g + 1))).
    let m = may_as o t c d (LoadNext z.0 (g + 1)) z.1 may in
    ((walks o c z.0 t is m.allowed).0, m.says is g refl))
    (λ (z : (old : ℕ) × (d ≡ LoadPhase old (word_of_phase (Opened g)))).
    let m = may_as o t c d (LoadPhase z.0 (word_of_phase (Opened g))) z.1 may in
    let w = loads_phase o c z.0 (word_of_phase (Opened g)) (Opened g) t is m refl in
    (w.0, inr (inr (inr (inr (z.0, w.1, w.2))))))
    y)
    by

-- a load of a place's number by a caller: a redirect in an array where it stands, or a row of a
-- buffer where it stands
abbrev pub LeadsTo : Opening → ℕ → ℕ → Execution → Type 0
LeadsTo o c p t =
    ((a : ℕ) × (y : ℕ) × IsInArrayOf o c a t × (form o a t ≡ Redirect p y))
    ⊎ ((g : ℕ) × (k : ℕ) × (stands_in c g t ≡ true) × (role o p t ≡ InBuffer g k))

link_leads : (o : Opening) (c g lane p : ℕ) (t : Execution) → stands_in c g t ≡ true → p ≢ 0 →
    IsLinkInto o g lane p t → LeadsTo o c p t
link_leads o c g lane p t s n says =
    ⊎_elim (λ (z : p ≡ 0). absurd (n z))
    (λ (z : (k : ℕ) × (role o p t ≡ InBuffer g k) × HasLane o g lane k t).
    inr (g, z.0, s, z.1)) says

pub loads_place : (o : Opening) (c p : ℕ) (d : Action) (t : Execution) → IsCaller o c →
    Allowed o t c d → LoadsPlace p d → IsReading o c t × LeadsTo o c p t
loads_place o c p d t is may by =
    ⊎_elim
    (λ (z : (a : ℕ) × (d ≡ LoadState a (word_of_state (state.Redirect p)))).
    let m = may_as o t c d (LoadState z.0 (word_of_state (state.Redirect p))) z.1 may in
    let f = m.follows is p refl in let r = redirect_word_is (form o z.0 t) p m.says in
    (f.0, inl (z.0, r.0, f.1, r.1)))
    (λ (y : ((g : ℕ) × (lane : ℕ) × (d ≡ LoadHead g lane p) × (p ≢ 0))
    ⊎ ((g : ℕ) × (q : ℕ) × (d ≡ LoadLink g q p) × (p ≢ 0))).
    ⊎_elim
    (λ (z : (g : ℕ) × (lane : ℕ) × (d ≡ LoadHead g lane p) × (p ≢ 0)).
    let m = may_as o t c d (LoadHead z.0 z.1 p) z.2 may in
    let w = walks o c z.0 t is m.allowed in
    (w.0, link_leads o c z.0 z.1 p t w.1 z.3 (m.says is)))
    (λ (z : (g : ℕ) × (q : ℕ) × (d ≡ LoadLink g q p) × (p ≢ 0)).
    let m = may_as o t c d (LoadLink z.0 z.1 p) z.2 may in
    let w = walks o c z.0 t is m.allowed in
    let on = m.says is in (w.0, link_leads o c z.0 on.lane p t w.1 z.3 on.link))
    y)
    by

-- a load of the root by a caller
pub loads_root : (o : Opening) (c part w : ℕ) (d : Action) (t : Execution) → IsCaller o c →
    Allowed o t c d → LoadsRoot part w d → IsReading o c t × (root o part t ≡ w)
loads_root o c part w d t is may by =
    let m = may_as o t c d (LoadRoot part w) by may in
    ⊎_elim (λ (z : IsReading o c t). (z, m.says))
    (λ (z : IsPartKeeper o c part). caller_not_keeper o c is (omega arith)) m.allowed

-- ---- a caller that relies on something is inside ----

pub stands_in-inside : (o : Opening) (c g : ℕ) (t : Execution) → IsCaller o c → Valid o t →
    stands_in c g t ≡ true → IsInside c t
stands_in-inside o c g t is valid e =
    inside o c (λ t. stands_in c g t ≡ true) (LoadsGroup g) (λ e. not_so e)
    (λ b d t e. stands_in_gain c g b d t e)
    (λ t d may by. (loads_group o c g d t is may by).0.inside) t valid e

pub saw_open-inside : (o : Opening) (c g : ℕ) (t : Execution) → IsCaller o c → Valid o t →
    saw_open c g t ≡ true → IsInside c t
saw_open-inside o c g t is valid e =
    inside o c (λ t. saw_open c g t ≡ true) (SeesOpen g) (λ e. not_so e)
    (λ b d t e. saw_open_gain c g b d t e)
    (λ t d may by.
    let m = may_as o t c d (LoadPhase g (word_of_phase Open)) by may in
    (loads_phase o c g (word_of_phase Open) Open t is m refl).0.inside) t valid e

pub saw_opened-inside : (o : Opening) (c f : ℕ) (t : Execution) → IsCaller o c → Valid o t →
    saw_opened c f t ≡ true → IsInside c t
saw_opened-inside o c f t is valid e =
    inside o c (λ t. saw_opened c f t ≡ true) (SeesOpened f) (λ e. not_so e)
    (λ b d t e. saw_opened_gain c f b d t e)
    (λ t d may by.
    let m = may_as o t c d (LoadPhase by.0 (word_of_phase (Opened f))) by.1 may in
    (loads_phase o c by.0 (word_of_phase (Opened f)) (Opened f) t is m refl).0.inside) t valid e

pub reached-inside : (o : Opening) (c p : ℕ) (t : Execution) → IsCaller o c → Valid o t →
    reached c p t ≡ true → IsInside c t
reached-inside o c p t is valid e =
    inside o c (λ t. reached c p t ≡ true) (LoadsPlace p) (λ e. not_so e)
    (λ b d t e. reached_gain c p b d t e)
    (λ t d may by. (loads_place o c p d t is may by).0.inside) t valid e

pub root_seen-inside : (o : Opening) (c part w : ℕ) (t : Execution) → IsCaller o c → Valid o t →
    root_seen c part t ≡ Some w → IsInside c t
root_seen-inside o c part w t is valid e =
    inside o c (λ t. root_seen c part t ≡ Some w) (LoadsRoot part w) (λ e. none_some e)
    (λ b d t e. root_seen_gain c part w b d t e)
    (λ t d may by. (loads_root o c part w d t is may by).0.inside) t valid e

-- ---- outside ----

outside_not : {X : Type 0} (c : ℕ) (t : Execution) → IsOutside c t → IsInside c t → X
outside_not c t out within = absurd (omega (arith, out, within))

false_unless : (x : Bool) → (x ≡ true → ⊥) → x ≡ false
false_unless true never = absurd (never refl)
false_unless false never = refl

none_unless : (x : Option ℕ) → ((w : ℕ) → x ≡ Some w → ⊥) → x ≡ None
none_unless None never = refl
none_unless (Some w) never = absurd (never w refl)

pub outside : CallersOutsideRelyOnNothing
outside o t valid c is out = record {
  roots = λ part. none_unless (root_seen c part t)
      (λ w e. outside_not c t out (root_seen-inside o c part w t is valid e));
  groups = λ g. false_unless (stands_in c g t)
      (λ e. outside_not c t out (stands_in-inside o c g t is valid e));
  open_groups = λ g. false_unless (saw_open c g t)
      (λ e. outside_not c t out (saw_open-inside o c g t is valid e));
  rebuilds = λ f. false_unless (saw_opened c f t)
      (λ e. outside_not c t out (saw_opened-inside o c f t is valid e));
  places = λ p. false_unless (reached c p t)
      (λ e. outside_not c t out (reached-inside o c p t is valid e));
}
