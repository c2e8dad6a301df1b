-- What a caller observed of the free stack in its read section.
--
-- The fact to remember: whenever the row is free, its link is the one that was loaded (heads_hold).
use Rattle.std.proofs.Common.{◌≡◌, ◌≢◌, ◌⊎◌, inl, inr, ⊎_elim, ℕ, zero, suc, ◌%◌, Bool, true, false}
use Rattle.std.proofs.Common.{cond, [], ◌∷◌, refl, sym, ap, ◌∙◌, subst, arith}
use Rattle.std.specs.Prelude.{◌==◌}
use mathlib.Core.Logic.{dite}
use Rattle.map_model.specs.Map.{key_of}
use native.Mathlib.Decide.{ℕ_discrete}
use Rattle.word_layout.specs.declared.places.Part.TheVariants.{Link}
use Rattle.word_layout.specs.Places.{IsRow}
use Rattle.word_layout.specs.Words.{FreeHead, PlaceWord}
use Rattle.index_machine.specs.declared.events.Action.{Action}
use Rattle.index_machine.specs.declared.events.Action.TheVariants.{Enter, Leave, LoadFree}
use Rattle.index_machine.specs.declared.events.Action.TheVariants.{LoadFreeLink, PopFree, PushFree}
use Rattle.index_machine.specs.declared.events.Action.TheVariants.{LinkRow, Retire, StoreRedirect}
use Rattle.index_machine.specs.declared.events.Action.TheVariants.{NewGroup}
use Rattle.index_machine.specs.declared.opening.Opening.{Opening}
use Rattle.index_machine.specs.Execution.{Execution, event}
use Rattle.index_machine.specs.Words.{shape, word}
use Rattle.index_machine.specs.Sections.{IsCaller, IsInside, crossings_after, crossings}
use Rattle.index_machine.specs.Keepers.{IsKeeper}
use Rattle.index_machine.specs.Rows.{Role, Unused, HeldBy, InArray, InBuffer, role}
use Rattle.index_machine.specs.Rows.{role_key}
use Rattle.index_machine.specs.ObservedHeads.{ObservedHead, NoHead, HeadAndLink, head_of}
use Rattle.index_machine.specs.ObservedHeads.{observed_after, observed_head, IsObservedRow}
use Rattle.index_machine.specs.ObservedHeads.{Observes}
use Rattle.index_machine.specs.Conditions.{IsReading, MayLoadFree, Allowed, Valid}
use Rattle.index_machine.specs.HeadLaws.{HeadsHold, IsNoPushOf}
use Rattle.index_machine.proofs.Executions.{choice-same, choice-other, crossings_on, crossings_own}
use Rattle.index_machine.proofs.Executions.{observed_head_on, observed_head_own}
use Rattle.index_machine.proofs.Placing.{unused-held, emptied_unused, array_no_row}
use Rattle.index_machine.proofs.Stores.{keyless_words}
use Rattle.index_machine.proofs.Linking.{top_free}

-- ---- observed heads ----

head_and_link-same : {a b m n : ℕ} → HeadAndLink a m ≡ HeadAndLink b n → (a ≡ b) × (m ≡ n)
head_and_link-same e = (cc, cc)

no_head-link : {a n : ℕ} {X : Type 0} → NoHead ≡ HeadAndLink a n → X
no_head-link e = cc

-- a load of the head loads no link
head_of-link : (found a n : ℕ) {X : Type 0} → head_of found ≡ HeadAndLink a n → X
head_of-link zero a n e = no_head-link e
head_of-link (suc found) a n e = cc

pub observed-head_and_link : (place link : ℕ) (observed : ObservedHead) →
    observed ≡ HeadAndLink place link → IsObservedRow place observed
observed-head_and_link place link observed e = subst (IsObservedRow place) (sym e) refl

-- a load of the head observes the row that it found, if it found one
pub observed-head_of : (place found : ℕ) → IsObservedRow place (head_of found) →
    (place ≡ found) × (found ≢ 0)
observed-head_of place zero h = absurd h
observed-head_of place (suc found) h = (h, λ e. omega arith)

-- ---- who observes a row ----

-- the hand may load the head, and that is this row
abbrev pub MayLoadHead : Opening → ℕ → ℕ → Execution → Type 0
MayLoadHead o hand place t =
    (word o t FreeHead ≡ place) × (place ≢ 0) × MayLoadFree o hand t

-- who observes a row after its own action observed it before or found it at the head
observed_own : (o : Opening) (t : Execution) (by : ℕ) (action : Action) → Allowed o t by action →
    (place : ℕ) → IsObservedRow place (observed_after true action (observed_head by t)) →
    (Observes by place t ⊎ MayLoadHead o by place t)
    × (crossings_after true action (crossings by t) ≡ crossings by t)
observed_own o t by (Enter n) may place observed = absurd observed
observed_own o t by (Leave n) may place observed = absurd observed
observed_own o t by (PopFree popped next) may place observed = absurd observed
observed_own o t by (LoadFree found) may place observed =
    let is = observed-head_of place found observed in
    (inr (may.1 ∙ sym is.0, (λ e. is.1 (sym is.0 ∙ e)), may.0), refl)
observed_own o t by (LoadFreeLink loaded found) may place observed =
    (inl (subst (λ (p : ℕ). Observes by p t) (sym observed) may.1), refl)
observed_own o t by action may place observed = (inl observed, refl)

-- so does who observes it after any action, and all that in one read section
pub observed_before : (o : Opening) (t : Execution) (by : ℕ) (action : Action) →
    Allowed o t by action → (hand place : ℕ) → Observes hand place (event by action ∷ t) →
    (Observes hand place t ⊎ MayLoadHead o hand place t)
    × (crossings hand (event by action ∷ t) ≡ crossings hand t)
observed_before o t by action may hand place observed =
    let later : Execution = event by action ∷ t in
    dite (ℕ_discrete by hand)
    (λ (same : by ≡ hand).
    subst
    (λ (h : ℕ). Observes h place later →
    (Observes h place t ⊎ MayLoadHead o h place t) × (crossings h later ≡ crossings h t))
    same
    (λ (mine : Observes by place later).
    let old = observed_own o t by action may place
    (subst (IsObservedRow place) (observed_head_own by action t) mine)
    in
    (old.0, crossings_own by action t ∙ old.1))
    observed)
    (λ (differ : by ≢ hand). (
      inl (subst (IsObservedRow place)
          (observed_head_on hand (event by action ∷ []) t (differ, tt)) observed),
      crossings_on hand (event by action ∷ []) t (differ, tt),
    ))

-- ---- the link of a row that is free ----

free_set : (q p : ℕ) (u r : Role) → (u ≡ Unused → ⊥) → cond (q == p) u r ≡ Unused → r ≡ Unused
free_set q p u r some e = go (q == p) e
  where
    go : (b : Bool) → cond b u r ≡ Unused → r ≡ Unused
    go true e = absurd (some e)
    go false e = e

-- a row that is free after an action that does not push it was free before
pub free_role : (o : Opening) (t : Execution) (by : ℕ) (action : Action) → Valid o t →
    (place : ℕ) → IsRow (shape o) place → IsNoPushOf place action →
    role o place (event by action ∷ t) ≡ Unused → role o place t ≡ Unused
free_role o t by (PopFree popped next) valid place row other free =
    dite (ℕ_discrete popped place)
    (λ (same : popped ≡ place).
    unused-held (sym free ∙ choice-same popped place (HeldBy by) (role o place t) same))
    (λ (differ : popped ≢ place).
    sym (choice-other popped place (HeldBy by) (role o place t) differ) ∙ free)
free_role o t by (PushFree pushed head) valid place row other free =
    sym (choice-other pushed place Unused (role o place t) other) ∙ free
free_role o t by (LinkRow group lane q change before next) valid place row other free =
    free_set q place (InBuffer group (key_of change)) (role o place t) (λ e. let bad = e in cc) free
free_role o t by (Retire q next) valid place row other free =
    free_set q place (HeldBy by) (role o place t) (λ e. let bad = e in cc) free
free_role o t by (StoreRedirect group q k to) valid place row other free =
    free_set q place (InArray group k) (role o place t) (λ e. let bad = e in cc) free
free_role o t by (NewGroup group low high first) valid place row other free =
    ⊎_elim (λ (z : role o place t ≡ Unused). z)
    (λ (z : (g : ℕ) × (k : ℕ) × (role o place t ≡ InArray g k)).
    absurd (array_no_row o t valid place z.0 z.1 z.2 row))
    (emptied_unused group (role o place t) free)
free_role o t by action valid place row other free = free

-- and its link is the same
free_before : (o : Opening) (t : Execution) (by : ℕ) (action : Action) → Valid o t →
    Allowed o t by action → (place : ℕ) → IsRow (shape o) place → IsNoPushOf place action →
    role o place (event by action ∷ t) ≡ Unused →
    (role o place t ≡ Unused)
    × (word o (event by action ∷ t) (PlaceWord place Link) ≡ word o t (PlaceWord place Link))
free_before o t by action valid may place row other free =
    let before = free_role o t by action valid place row other free in (
      before,
      keyless_words o t by action may place row (ap role_key before)
          (λ mine. unused-held (sym before ∙ mine)) Link,
    )

-- nobody pushes a row that a caller observes
observed-not_pushed : (o : Opening) (t : Execution) (by : ℕ) (action : Action) →
    Allowed o t by action → (caller place : ℕ) → IsCaller o caller → Observes caller place t →
    IsNoPushOf place action
observed-not_pushed o t by (PushFree pushed head) may caller place known observed =
    λ same. may.unobserved caller known (subst (λ (p : ℕ). Observes caller p t) (sym same) observed)
observed-not_pushed o t by action may caller place known observed = tt

-- a link that was loaded before the action
link_kept : (o : Opening) (t : Execution) (by : ℕ) (action : Action) → Valid o t →
    Allowed o t by action →
    HeadsHold o t → (caller place n : ℕ) → IsCaller o caller →
    observed_head caller t ≡ HeadAndLink place n → role o place (event by action ∷ t) ≡ Unused →
    word o (event by action ∷ t) (PlaceWord place Link) ≡ n
link_kept o t by action valid may old caller place n known is free =
    let observed : Observes caller place t =
    observed-head_and_link place n (observed_head caller t) is
    in
    let before = free_before o t by action valid may place (old.row caller place known observed)
    (observed-not_pushed o t by action may caller place known observed) free
    in
    before.1 ∙ old.link caller place n known is before.0

link_own : (o : Opening) (t : Execution) (by : ℕ) (action : Action) → Valid o t →
    Allowed o t by action →
    HeadsHold o t → (place n : ℕ) → IsCaller o by →
    observed_after true action (observed_head by t) ≡ HeadAndLink place n →
    role o place (event by action ∷ t) ≡ Unused →
    word o (event by action ∷ t) (PlaceWord place Link) ≡ n
link_own o t by (Enter m) valid may old place n known is free = no_head-link is
link_own o t by (Leave m) valid may old place n known is free = no_head-link is
link_own o t by (PopFree popped next) valid may old place n known is free = no_head-link is
link_own o t by (LoadFree found) valid may old place n known is free = head_of-link found place n is
link_own o t by (LoadFreeLink loaded found) valid may old place n known is free =
    let same = head_and_link-same is in
    ap (λ (p : ℕ). word o t (PlaceWord p Link)) (sym same.0) ∙ may.2 ∙ same.1
link_own o t by action valid may old place n known is free =
    link_kept o t by action valid may old by place n known is free

link_step : (o : Opening) (t : Execution) (by : ℕ) (action : Action) → Valid o t →
    Allowed o t by action →
    HeadsHold o t → (caller place n : ℕ) → IsCaller o caller →
    observed_head caller (event by action ∷ t) ≡ HeadAndLink place n →
    role o place (event by action ∷ t) ≡ Unused →
    word o (event by action ∷ t) (PlaceWord place Link) ≡ n
link_step o t by action valid may old caller place n known is free =
    let later : Execution = event by action ∷ t in
    dite (ℕ_discrete by caller)
    (λ (same : by ≡ caller).
    let mine : IsCaller o by = subst (IsCaller o) (sym same) known in
    let head : observed_head by later ≡ HeadAndLink place n =
    ap (λ (h : ℕ). observed_head h later) same ∙ is
    in
    link_own o t by action valid may old place n mine
    (sym (observed_head_own by action t) ∙ head) free)
    (λ (differ : by ≢ caller).
    link_kept o t by action valid may old caller place n known
    (sym (observed_head_on caller (event by action ∷ []) t (differ, tt)) ∙ is) free)

-- ---- what the callers observed ----

-- a caller that may load the head is inside
loads_inside : (o : Opening) (hand : ℕ) (t : Execution) → IsCaller o hand → MayLoadFree o hand t →
    IsInside hand t
loads_inside o hand t known may =
    ⊎_elim
    (λ (reading : IsReading o hand t). reading.inside)
    (λ (keeper : IsKeeper o hand). absurd (omega arith))
    may

heads_step : (o : Opening) (t : Execution) (by : ℕ) (action : Action) → Valid o t →
    Allowed o t by action → HeadsHold o t → HeadsHold o (event by action ∷ t)
heads_step o t by action valid may old =
    record {
      inside = λ caller place known observed.
          let before = observed_before o t by action may caller place observed in
          ap (λ (count : ℕ). count % 2) before.1
          ∙ ⊎_elim
          (λ (earlier : Observes caller place t). old.inside caller place known earlier)
          (λ (loaded : MayLoadHead o caller place t). loads_inside o caller t known loaded.2)
          before.0;
      row = λ caller place known observed.
          ⊎_elim
          (λ (earlier : Observes caller place t). old.row caller place known earlier)
          (λ (loaded : MayLoadHead o caller place t).
          let some : word o t FreeHead ≢ 0 = λ e. loaded.1 (sym loaded.0 ∙ e) in
          subst (IsRow (shape o)) loaded.0 (top_free o t valid some).1)
          (observed_before o t by action may caller place observed).0;
      link = link_step o t by action valid may old;
    }

pub heads_hold : (o : Opening) (t : Execution) → Valid o t → HeadsHold o t
heads_hold o [] valid =
    record {
      inside = λ caller place known observed. absurd observed;
      row = λ caller place known observed. absurd observed;
      link = λ caller place n known is free. no_head-link is;
    }
heads_hold o (e ∷ t) valid = heads_step o t e.by e.action valid.1 valid.0 (heads_hold o t valid.1)
