-- Which actions change the next word and the pivot word of a group, and the pivot of a slot.
use Rattle.std.proofs.Common.{◌≡◌, ◌≢◌, ℕ, zero, suc, ◌⊎◌, inl, inr, ⊎_elim, Some, Bool, true}
use Rattle.std.proofs.Common.{false}
use Rattle.std.proofs.Common.{◌∷◌, cond, refl, ap, ◌∙◌, ne_eqb}
use Rattle.std.specs.Prelude.{◌&&◌, ◌==◌, ◌&&◌}
use mathlib.Core.Logic.{dite}
use native.Mathlib.Decide.{ℕ_discrete}
use Rattle.index_machine.specs.Conditions.{Allowed}
use Rattle.index_machine.specs.Execution.{Execution, event}
use Rattle.index_machine.specs.KeyRanges.{group_of, successor}
use Rattle.index_machine.specs.Permissions.{IsGone}
use Rattle.index_machine.specs.RebuildConditions.{IsSettled}
use Rattle.index_machine.specs.Words.{word}
use Rattle.index_machine.specs.declared.events.Action.{Action}
use Rattle.index_machine.specs.declared.events.Action.TheVariants.{Freeze, Install, LinkRow}
use Rattle.index_machine.specs.declared.events.Action.TheVariants.{NewGroup, StoreHeader, Thaw}
use Rattle.index_machine.specs.declared.events.Action.TheVariants.{StoreOpened, StoreUnusedPivot}
use Rattle.index_machine.specs.declared.events.InstallWord.TheVariants.{FirstSlot, NextOf}
use Rattle.index_machine.specs.declared.opening.Opening.{Opening}
use Rattle.machine_barriers.proofs.Reaches.{may_as}
use Rattle.machine_chain.specs.Chain.{next_of, pivot_of}
use Rattle.word_layout.specs.Words.{SlotPivot}
use Rattle.word_layout.specs.declared.headers.HeaderWord.{HeaderWord}
use Rattle.word_layout.specs.declared.headers.HeaderWord.TheVariants as header

pub never : (w : Bool) (v n : ℕ) → cond (w && false) v n ≡ n
never true v n = refl
never false v n = refl

-- ---- next words ----

-- the action stores the next word of the group
abbrev pub ChangesNext : ℕ → Action → Type 0
ChangesNext g d =
    ((v : ℕ) × (d ≡ StoreHeader g header.Next v))
    ⊎ ((lead : ℕ) × (low : ℕ) × (high : ℕ) × (d ≡ Install (NextOf g) lead low high))

next_header : (o : Opening) (t : Execution) (b h g v : ℕ) (which : HeaderWord) →
    (next_of o g (event b (StoreHeader h which v) ∷ t) ≡ next_of o g t)
    ⊎ ChangesNext g (StoreHeader h which v)
next_header o t b h g v header.Next = dite (ℕ_discrete h g)
    (λ (z : h ≡ g). inr (inl (v, ap (λ (y : ℕ). StoreHeader y header.Next v) z)))
    (λ (n : h ≢ g). inl (rw (ne_eqb h g n) refl))
next_header o t b h g v which = inl (never (h == g) v (next_of o g t))

pub next_kept : (o : Opening) (t : Execution) (b : ℕ) (d : Action) (g : ℕ) →
    (next_of o g (event b d ∷ t) ≡ next_of o g t) ⊎ ChangesNext g d
next_kept o t b (Freeze h) g = inl (never (h == g) _ (next_of o g t))
next_kept o t b (Thaw h) g = inl (never (h == g) _ (next_of o g t))
next_kept o t b (StoreOpened h f) g = inl (never (h == g) _ (next_of o g t))
next_kept o t b (NewGroup h low high f) g = inl (never (h == g) _ (next_of o g t))
next_kept o t b (LinkRow h lane place change zero next) g = inl (never (h == g) _ (next_of o g t))
next_kept o t b (LinkRow h lane place change (suc n) next) g = inl refl
next_kept o t b (StoreHeader h which v) g = next_header o t b h g v which
next_kept o t b (Install (NextOf left) lead low high) g = dite (ℕ_discrete left g)
    (λ (z : left ≡ g).
    inr (inr (lead, low, high, ap (λ (y : ℕ). Install (NextOf y) lead low high) z)))
    (λ (n : left ≢ g). inl (rw (ne_eqb left g n) refl))
next_kept o t b (Install (FirstSlot part side) lead low high) g = inl refl
next_kept o t b d g = inl refl

-- a group that may not be refilled keeps its next word, but at the install behind it
pub next_same : (o : Opening) (t : Execution) (b : ℕ) (d : Action) (g : ℕ) → Allowed o t b d →
    (IsGone o g t → IsSettled o g t → ((k : ℕ) → successor k t ≢ Some g) → ⊥) →
    (next_of o g (event b d ∷ t) ≡ next_of o g t)
    ⊎ ((lead : ℕ) × (low : ℕ) × (high : ℕ) × (d ≡ Install (NextOf g) lead low high))
next_same o t b d g may used = ⊎_elim
    (λ (z : next_of o g (event b d ∷ t) ≡ next_of o g t). inl z)
    (λ (z : ChangesNext g d). ⊎_elim
    (λ (y : (v : ℕ) × (d ≡ StoreHeader g header.Next v)).
    let m = may_as o t b d (StoreHeader g header.Next y.0) y.1 may in
    absurd (⊎_elim
    (λ (x : IsGone o g t × IsSettled o g t × ((k : ℕ) → successor k t ≢ Some g)).
    used x.0 x.1 x.2) (λ x. x.1) m.stage))
    (λ (y : (lead : ℕ) × (low : ℕ) × (high : ℕ) × (d ≡ Install (NextOf g) lead low high)). inr y)
    z) (next_kept o t b d g)

-- ---- pivots ----

-- the action stores the pivot of the group
abbrev pub ChangesPivot : ℕ → Action → Type 0
ChangesPivot g d =
    ((v : ℕ) × (d ≡ StoreHeader g header.Pivot v))
    ⊎ ((low : ℕ) × (high : ℕ) × (first : ℕ) × (d ≡ NewGroup g low high first))

pivot_header : (o : Opening) (t : Execution) (b h g v : ℕ) (which : HeaderWord) →
    (pivot_of o g (event b (StoreHeader h which v) ∷ t) ≡ pivot_of o g t)
    ⊎ ChangesPivot g (StoreHeader h which v)
pivot_header o t b h g v header.Pivot = dite (ℕ_discrete h g)
    (λ (z : h ≡ g). inr (inl (v, ap (λ (y : ℕ). StoreHeader y header.Pivot v) z)))
    (λ (n : h ≢ g). inl (rw (ne_eqb h g n) refl))
pivot_header o t b h g v which = inl (never (h == g) v (pivot_of o g t))

pub pivot_kept : (o : Opening) (t : Execution) (b : ℕ) (d : Action) (g : ℕ) →
    (pivot_of o g (event b d ∷ t) ≡ pivot_of o g t) ⊎ ChangesPivot g d
pivot_kept o t b (Freeze h) g = inl (never (h == g) _ (pivot_of o g t))
pivot_kept o t b (Thaw h) g = inl (never (h == g) _ (pivot_of o g t))
pivot_kept o t b (StoreOpened h f) g = inl (never (h == g) _ (pivot_of o g t))
pivot_kept o t b (LinkRow h lane place change zero next) g = inl (never (h == g) _ (pivot_of o g t))
pivot_kept o t b (LinkRow h lane place change (suc n) next) g = inl refl
pivot_kept o t b (StoreHeader h which v) g = pivot_header o t b h g v which
pivot_kept o t b (NewGroup h low high f) g = dite (ℕ_discrete h g)
    (λ (z : h ≡ g). inr (inr (low, high, f, ap (λ (y : ℕ). NewGroup y low high f) z)))
    (λ (n : h ≢ g). inl (rw (ne_eqb h g n) refl))
pivot_kept o t b (Install (NextOf left) lead low high) g =
    inl (never (left == g) _ (pivot_of o g t))
pivot_kept o t b (Install (FirstSlot part side) lead low high) g = inl refl
pivot_kept o t b d g = inl refl

-- a group that may not be refilled nor begun keeps its pivot
pub pivot_same : (o : Opening) (t : Execution) (b : ℕ) (d : Action) (g : ℕ) → Allowed o t b d →
    (IsGone o g t → IsSettled o g t → ((k : ℕ) → successor k t ≢ Some g) → ⊥) →
    ((low high f : ℕ) → Allowed o t b (NewGroup g low high f) → d ≢ NewGroup g low high f) →
    pivot_of o g (event b d ∷ t) ≡ pivot_of o g t
pivot_same o t b d g may used never_begun = ⊎_elim
    (λ (z : pivot_of o g (event b d ∷ t) ≡ pivot_of o g t). z)
    (λ (z : ChangesPivot g d). ⊎_elim
    (λ (y : (v : ℕ) × (d ≡ StoreHeader g header.Pivot v)).
    let m = may_as o t b d (StoreHeader g header.Pivot y.0) y.1 may in
    absurd (⊎_elim
    (λ (x : IsGone o g t × IsSettled o g t × ((k : ℕ) → successor k t ≢ Some g)).
    used x.0 x.1 x.2) (λ x. x.1) m.stage))
    (λ (y : (low : ℕ) × (high : ℕ) × (f : ℕ) × (d ≡ NewGroup g low high f)).
    absurd (never_begun y.0 y.1 y.2 (may_as o t b d (NewGroup g y.0 y.1 y.2) y.3 may) y.3))
    z) (pivot_kept o t b d g)

-- a group of the chain keeps its pivot
pub chained_pivot : (o : Opening) (t : Execution) (b : ℕ) (d : Action) (g k : ℕ) →
    Allowed o t b d → group_of o k t ≡ g → pivot_of o g (event b d ∷ t) ≡ pivot_of o g t
chained_pivot o t b d g k may e = pivot_same o t b d g may (λ gone s u. gone.unowned k e)
    (λ low high f m z. m.gone.unowned k e)

-- and its next word, but at the install behind it
pub chained_next : (o : Opening) (t : Execution) (b : ℕ) (d : Action) (g k : ℕ) →
    Allowed o t b d → group_of o k t ≡ g →
    (next_of o g (event b d ∷ t) ≡ next_of o g t)
    ⊎ ((lead : ℕ) × (low : ℕ) × (high : ℕ) × (d ≡ Install (NextOf g) lead low high))
chained_next o t b d g k may e = next_same o t b d g may (λ gone s u. gone.unowned k e)

-- ---- pivots of slots ----

-- the action stores the pivot of the slot
abbrev pub ChangesSlotPivot : ℕ → ℕ → ℕ → Action → Type 0
ChangesSlotPivot part side i d = (v : ℕ) × (d ≡ StoreUnusedPivot part side i v)

pub slot_pivot_kept : (o : Opening) (t : Execution) (b : ℕ) (d : Action) (part side i : ℕ) →
    (word o (event b d ∷ t) (SlotPivot part side i) ≡ word o t (SlotPivot part side i))
    ⊎ ChangesSlotPivot part side i d
slot_pivot_kept o t b (StoreUnusedPivot q s j v) part side i = dite (ℕ_discrete q part)
    (λ (x : q ≡ part). dite (ℕ_discrete s side)
    (λ (z : s ≡ side). dite (ℕ_discrete j i)
    (λ (y : j ≡ i).
    inr (
      v,
      ap (λ (p : ℕ). StoreUnusedPivot p s j v) x
          ∙ (ap (λ (r : ℕ). StoreUnusedPivot part r j v) z
          ∙ ap (λ (k : ℕ). StoreUnusedPivot part side k v) y),
    ))
    (λ (n : j ≢ i).
    inl (rw (ne_eqb j i n, and-false (s == side), and-false (q == part)) refl)))
    (λ (n : s ≢ side). inl (rw (ne_eqb s side n, and-false (q == part)) refl)))
    (λ (n : q ≢ part). inl (rw (ne_eqb q part n) refl))
  where
    and-false : (x : Bool) → (x && false) ≡ false
    and-false true = refl
    and-false false = refl
slot_pivot_kept o t b (LinkRow h lane place change zero next) part side i = inl refl
slot_pivot_kept o t b (LinkRow h lane place change (suc n) next) part side i = inl refl
slot_pivot_kept o t b (Install (NextOf left) lead low high) part side i = inl refl
slot_pivot_kept o t b (Install (FirstSlot q s) lead low high) part side i = inl refl
slot_pivot_kept o t b d part side i = inl refl
