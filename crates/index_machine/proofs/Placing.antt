-- Each record row is in just one place.
--
-- The fact to remember: a row leaves a hand by that hand's own actions alone (holds_on).
use Rattle.std.proofs.Common.{◌≡◌, ◌≢◌, ◌⊎◌, inl, inr, ⊎_elim, ℕ, zero, suc, ◌+◌, ◌<◌, ◌≤◌}
use Rattle.std.proofs.Common.{Bool, true, false, cond, List, [], ◌∷◌, ◌++◌, refl, sym, ap, ◌∙◌}
use Rattle.std.proofs.Common.{subst, arith}
use Rattle.std.specs.Prelude.{◌==◌}
use mathlib.Core.Logic.{dite}
use native.Mathlib.Decide.{ℕ_discrete}
use Rattle.word_layout.specs.Shape.{Shape}
use Rattle.word_layout.specs.Addresses.{row_address}
use Rattle.word_layout.specs.Places.{IsRow, rows_from}
use Rattle.map_model.specs.Map.{key_of}
use Rattle.word_layout.proofs.RowPlaces.{IsRow-row_address, row_number, row_address-injective}
use Rattle.index_machine.specs.declared.events.Action.{Action}
use Rattle.index_machine.specs.declared.events.Action.TheVariants.{PopFree, PushFree, LinkRow}
use Rattle.index_machine.specs.declared.events.Action.TheVariants.{Retire, StoreRedirect, NewGroup}
use Rattle.index_machine.specs.declared.opening.Opening.{Opening}
use Rattle.index_machine.specs.Execution.{Execution, event, Without}
use Rattle.index_machine.specs.Lists.{In, AreDistinct}
use Rattle.index_machine.specs.Words.{shape, limits}
use Rattle.index_machine.specs.Sections.{IsCaller, IsHand}
use Rattle.index_machine.specs.Rows.{Role, Unused, HeldBy, InArray, InBuffer, emptied, role, Holds}
use Rattle.index_machine.specs.Rows.{HoldsNone, below_top, free_stack}
use Rattle.index_machine.specs.Conditions.{Allowed, Valid}
use Rattle.index_machine.specs.Keepers.{IsArrayPlaceOf}
use Rattle.index_machine.specs.RowLaws.{RowsPlaced}
use Rattle.index_machine.proofs.Executions.{choice-same, choice-other}
use Rattle.index_machine.proofs.OpeningRows.{array_not_row, opening_role-array}
use Rattle.index_machine.proofs.OpeningRows.{opening_role-buffer, opening_role-held}
use Rattle.index_machine.proofs.OpeningRows.{opening_role-row, opening_row-place}

-- ---- roles ----

pub unused-held : {hand : ℕ} {X : Type 0} → Unused ≡ HeldBy hand → X
unused-held e = cc

pub held_by-same : {hand other : ℕ} → HeldBy hand ≡ HeldBy other → hand ≡ other
held_by-same e = cc

-- a row in a hand is not one that is nobody's
pub unused_apart : (o : Opening) (t : Execution) (hand held place : ℕ) → Holds o hand held t →
    role o place t ≡ Unused → held ≢ place
unused_apart o t hand held place mine free e =
    unused-held (sym free ∙ ap (λ (p : ℕ). role o p t) (sym e) ∙ mine)

-- nor one in another hand
pub hands_apart : (o : Opening) (t : Execution) (hand held other place : ℕ) → Holds o hand held t →
    Holds o other place t → hand ≢ other → held ≢ place
hands_apart o t hand held other place mine theirs differ e =
    differ (held_by-same (sym mine ∙ ap (λ (p : ℕ). role o p t) e ∙ theirs))

-- ---- the rows of the table as it is opened ----

in_rows : (s : Shape) (i n place : ℕ) → In place (rows_from s i n) →
    (j : ℕ) × (i ≤ j) × (j < i + n) × (place ≡ row_address s j)
in_rows s i zero place h = absurd h
in_rows s i (suc n) place h =
    ⊎_elim
    (λ (e : place ≡ row_address s i). (i, omega arith, omega arith, e))
    (λ (k : In place (rows_from s (i + 1) n)).
    let r = in_rows s (i + 1) n place k in (r.0, omega arith, omega arith, r.3))
    h

row_in : (s : Shape) (i n j : ℕ) → i ≤ j → j < i + n → In (row_address s j) (rows_from s i n)
row_in s i zero j low high = absurd (omega arith)
row_in s i (suc n) j low high =
    dite (ℕ_discrete j i)
    (λ (e : j ≡ i). inl (ap (row_address s) e))
    (λ (differ : j ≢ i). inr (row_in s (i + 1) n j (omega arith) (omega arith)))

pub rows-distinct : (s : Shape) (i n : ℕ) → AreDistinct (rows_from s i n)
rows-distinct s i zero = tt
rows-distinct s i (suc n) = (
  (λ h. let r = in_rows s (i + 1) n (row_address s i) h in
      let same : i ≡ r.0 = row_address-injective s i r.0 r.3 in omega arith),
  rows-distinct s (i + 1) n,
)

-- the free rows and those in hands
record RowsKept (o : Opening) (t : Execution) : Type 0 where
  free : (place : ℕ) → In place (free_stack o t) →
      (role o place t ≡ Unused) × IsRow (shape o) place
  once : AreDistinct (free_stack o t)
  all : (place : ℕ) → IsRow (shape o) place → role o place t ≡ Unused →
      In place (free_stack o t)
  held : (hand place : ℕ) → Holds o hand place t → IsRow (shape o) place × IsHand o hand
  one : (caller place other : ℕ) → IsCaller o caller → Holds o caller place t →
      Holds o caller other t → place ≡ other

placed_first : (o : Opening) → RowsKept o []
placed_first o =
    let s = shape o in
    let n : ℕ = (limits o).records in
    record {
      free = λ place h.
          let r = in_rows s 0 n place h in
          let high : r.0 < n = omega arith in
          let row : IsRow s place = subst (IsRow s) (sym r.3) (IsRow-row_address s r.0 high) in
          (opening_role-row o place row, row);
      once = rows-distinct s 0 n;
      all = λ place row _.
          let r = row_number s place row in
          subst (λ (p : ℕ). In p (rows_from s 0 n)) (sym r.2)
          (row_in s 0 n r.0 (omega arith) (omega arith));
      held = λ hand place e. opening_role-held o place hand e;
      one = λ caller place other is e f. opening_role-held o place caller e;
    }

-- ---- what a pop and a push do to the roles ----

-- the popped row is the hand's own
pub role_popped : (o : Opening) (by popped next : ℕ) (t : Execution) (place : ℕ) →
    popped ≡ place →
    role o place (event by (PopFree popped next) ∷ t) ≡ HeldBy by
role_popped o by popped next t place same =
    choice-same popped place (HeldBy by) (role o place t) same

-- and each other row is whose it was
pub role_not_popped : (o : Opening) (by popped next : ℕ) (t : Execution) (place : ℕ) →
    popped ≢ place →
    role o place (event by (PopFree popped next) ∷ t) ≡ role o place t
role_not_popped o by popped next t place differ =
    choice-other popped place (HeldBy by) (role o place t) differ

-- the pushed row is nobody's
pub role_pushed : (o : Opening) (by pushed head : ℕ) (t : Execution) (place : ℕ) →
    pushed ≡ place →
    role o place (event by (PushFree pushed head) ∷ t) ≡ Unused
role_pushed o by pushed head t place same = choice-same pushed place Unused (role o place t) same

-- and each other row is whose it was
pub role_not_pushed : (o : Opening) (by pushed head : ℕ) (t : Execution) (place : ℕ) →
    pushed ≢ place →
    role o place (event by (PushFree pushed head) ∷ t) ≡ role o place t
role_not_pushed o by pushed head t place differ =
    choice-other pushed place Unused (role o place t) differ

-- who holds a row after a pop has popped it or held it before
held_before_pop : (o : Opening) (by popped next : ℕ) (t : Execution) (hand place : ℕ) →
    Holds o hand place (event by (PopFree popped next) ∷ t) →
    ((popped ≡ place) × (by ≡ hand)) ⊎ Holds o hand place t
held_before_pop o by popped next t hand place mine =
    dite (ℕ_discrete popped place)
    (λ (same : popped ≡ place).
    inl (same, held_by-same (sym (role_popped o by popped next t place same) ∙ mine)))
    (λ (differ : popped ≢ place).
    inr (sym (role_not_popped o by popped next t place differ) ∙ mine))

-- who holds a row after a push held it before
held_before_push : (o : Opening) (by pushed head : ℕ) (t : Execution) (hand place : ℕ) →
    Holds o hand place (event by (PushFree pushed head) ∷ t) → Holds o hand place t
held_before_push o by pushed head t hand place mine =
    dite (ℕ_discrete pushed place)
    (λ (same : pushed ≡ place).
    unused-held (sym (role_pushed o by pushed head t place same) ∙ mine))
    (λ (differ : pushed ≢ place). sym (role_not_pushed o by pushed head t place differ) ∙ mine)

-- ---- each row is in one place ----

-- a caller that held no row holds the popped one alone
popped_one : (o : Opening) (t : Execution) (by popped next : ℕ) → HoldsNone o by t →
    RowsKept o t → (caller place other : ℕ) → IsCaller o caller →
    Holds o caller place (event by (PopFree popped next) ∷ t) →
    Holds o caller other (event by (PopFree popped next) ∷ t) → place ≡ other
popped_one o t by popped next none old caller place other known mine also =
    ⊎_elim
    (λ (first : (popped ≡ place) × (by ≡ caller)).
    ⊎_elim
    (λ (second : (popped ≡ other) × (by ≡ caller)). sym first.0 ∙ second.0)
    (λ (before : Holds o caller other t).
    absurd (none other (before ∙ ap HeldBy (sym first.1))))
    (held_before_pop o by popped next t caller other also))
    (λ (before : Holds o caller place t).
    ⊎_elim
    (λ (second : (popped ≡ other) × (by ≡ caller)).
    absurd (none place (before ∙ ap HeldBy (sym second.1))))
    (λ (too : Holds o caller other t). old.one caller place other known before too)
    (held_before_pop o by popped next t caller other also))
    (held_before_pop o by popped next t caller place mine)

placed_pop : (o : Opening) (t : Execution) (by popped next : ℕ) →
    Allowed o t by (PopFree popped next) → RowsKept o t →
    RowsKept o (event by (PopFree popped next) ∷ t)
placed_pop o t by popped next may old =
    let rest : List ℕ = may.2.rest in
    let is : free_stack o t ≡ popped ∷ rest = may.2.top in
    let once : AreDistinct (popped ∷ rest) = subst AreDistinct is old.once in
    let top = old.free popped (subst (In popped) (sym is) (inl refl)) in
    let now : below_top (free_stack o t) ≡ rest = ap below_top is in
    let known = may.0.caller in
    let reader : IsHand o by = omega arith in
    record {
      free = λ place h.
          let k : In place rest = subst (In place) now h in
          let f = old.free place (subst (In place) (sym is) (inr k)) in
          let differ : popped ≢ place = λ e. once.0 (subst (λ (p : ℕ). In p rest) (sym e) k) in
          (role_not_popped o by popped next t place differ ∙ f.0, f.1);
      once = subst AreDistinct (sym now) once.1;
      all = λ place row free.
          dite (ℕ_discrete popped place)
          (λ (same : popped ≡ place).
          unused-held (sym free ∙ role_popped o by popped next t place same))
          (λ (differ : popped ≢ place).
          let before = sym (role_not_popped o by popped next t place differ) ∙ free in
          subst (In place) (sym now)
          (⊎_elim
          (λ (same : place ≡ popped). absurd (differ (sym same)))
          (λ (k : In place rest). k)
          (subst (In place) is (old.all place row before))));
      held = λ hand place mine.
          ⊎_elim
          (λ (taken : (popped ≡ place) × (by ≡ hand)).
          (subst (IsRow (shape o)) taken.0 top.1, subst (IsHand o) taken.1 reader))
          (old.held hand place)
          (held_before_pop o by popped next t hand place mine);
      one = popped_one o t by popped next may.1 old;
    }

placed_push : (o : Opening) (t : Execution) (by pushed head : ℕ) →
    Allowed o t by (PushFree pushed head) → RowsKept o t →
    RowsKept o (event by (PushFree pushed head) ∷ t)
placed_push o t by pushed head may old =
    let mine : Holds o by pushed t = may.held in
    let before = held_before_push o by pushed head t in
    record {
      free = λ place h.
          dite (ℕ_discrete pushed place)
          (λ (same : pushed ≡ place). (
            role_pushed o by pushed head t place same,
            subst (IsRow (shape o)) same (old.held by pushed mine).0,
          ))
          (λ (differ : pushed ≢ place).
          let f = ⊎_elim
          (λ (same : place ≡ pushed). absurd (differ (sym same))) (old.free place) h
          in
          (role_not_pushed o by pushed head t place differ ∙ f.0, f.1));
      once = ((λ h. unused-held (sym (old.free pushed h).0 ∙ mine)), old.once);
      all = λ place row free.
          dite (ℕ_discrete pushed place)
          (λ (same : pushed ≡ place). inl (sym same))
          (λ (differ : pushed ≢ place).
          inr (old.all place row (sym (role_not_pushed o by pushed head t place differ) ∙ free)));
      held = λ hand place e. old.held hand place (before hand place e);
      one = λ caller place other known e f.
          old.one caller place other known (before caller place e) (before caller other f);
    }

-- where each place stands, an array's too
record Sited (o : Opening) (t : Execution) : Type 0 where
  rows : RowsKept o t
  -- a place in a buffer is a record row, and one in an array is of that array
  buffers : (place group k : ℕ) → role o place t ≡ InBuffer group k → IsRow (shape o) place
  arrays : (place group k : ℕ) → role o place t ≡ InArray group k → IsArrayPlaceOf o group place

-- a role that was set at one place
set_before : (q p : ℕ) (u r v : Role) → cond (q == p) u r ≡ v →
    ((q ≡ p) × (u ≡ v)) ⊎ ((q ≢ p) × (r ≡ v))
set_before q p u r v e =
    dite (ℕ_discrete q p) (λ (z : q ≡ p). inl (z, sym (choice-same q p u r z) ∙ e))
    (λ (n : q ≢ p). inr (n, sym (choice-other q p u r n) ∙ e))

-- one place, which was not free, has another role, and is no caller's
placed_set : (o : Opening) (t : Execution) (by : ℕ) (action : Action) (q : ℕ) (u : Role) →
    RowsKept o t → free_stack o (event by action ∷ t) ≡ free_stack o t →
    ((p : ℕ) → role o p (event by action ∷ t) ≡ cond (q == p) u (role o p t)) →
    (In q (free_stack o t) → ⊥) → (u ≡ Unused → ⊥) →
    ((hand : ℕ) → u ≡ HeldBy hand →
    IsRow (shape o) q × IsHand o hand × (IsCaller o hand → ⊥)) →
    RowsKept o (event by action ∷ t)
placed_set o t by action q u old same roles taken some new =
    let before = λ (p : ℕ) (v : Role) (e : role o p (event by action ∷ t) ≡ v).
    set_before q p u (role o p t) v (sym (roles p) ∙ e) in
    record {
      free = λ place h.
          let k : In place (free_stack o t) = subst (In place) same h in
          let differ : q ≢ place =
          λ e. taken (subst (λ (p : ℕ). In p (free_stack o t)) (sym e) k) in
          let f = old.free place k in
          (roles place ∙ choice-other q place u (role o place t) differ ∙ f.0, f.1);
      once = subst AreDistinct (sym same) old.once;
      all = λ place row free.
          ⊎_elim (λ (z : (q ≡ place) × (u ≡ Unused)). absurd (some z.1))
          (λ (z : (q ≢ place) × (role o place t ≡ Unused)).
          subst (In place) (sym same) (old.all place row z.1)) (before place Unused free);
      held = λ hand place mine.
          ⊎_elim
          (λ (z : (q ≡ place) × (u ≡ HeldBy hand)).
          let n = new hand z.1 in (subst (IsRow (shape o)) z.0 n.0, n.1))
          (λ (z : (q ≢ place) × (role o place t ≡ HeldBy hand)). old.held hand place z.1)
          (before place (HeldBy hand) mine);
      one = λ caller place other known mine also.
          ⊎_elim (λ (z : (q ≡ place) × (u ≡ HeldBy caller)). absurd ((new caller z.1).2 known))
          (λ (z : (q ≢ place) × (role o place t ≡ HeldBy caller)).
          ⊎_elim (λ (w : (q ≡ other) × (u ≡ HeldBy caller)). absurd ((new caller w.1).2 known))
          (λ (w : (q ≢ other) × (role o other t ≡ HeldBy caller)).
          old.one caller place other known z.1 w.1) (before other (HeldBy caller) also))
          (before place (HeldBy caller) mine);
    }

buffer_held : {X : Type 0} {group k hand : ℕ} → InBuffer group k ≡ HeldBy hand → X
buffer_held e = cc

array_held : {X : Type 0} {group k hand : ℕ} → InArray group k ≡ HeldBy hand → X
array_held e = cc

emptied_held : (group : ℕ) (r : Role) (hand : ℕ) → emptied group r ≡ HeldBy hand → r ≡ HeldBy hand
emptied_held group Unused hand e = e
emptied_held group (HeldBy b) hand e = e
emptied_held group (InBuffer g k) hand e = buffer_held e
emptied_held group (InArray g k) hand e = go (g == group) e
  where
    go : (b : Bool) → cond b Unused (InArray g k) ≡ HeldBy hand → InArray g k ≡ HeldBy hand
    go true e = unused-held e
    go false e = array_held e

pub emptied_unused : (group : ℕ) (r : Role) → emptied group r ≡ Unused →
    (r ≡ Unused) ⊎ ((g : ℕ) × (k : ℕ) × (r ≡ InArray g k))
emptied_unused group Unused e = inl refl
emptied_unused group (HeldBy b) e = inl e
emptied_unused group (InBuffer g k) e = inl e
emptied_unused group (InArray g k) e = inr (g, k, refl)

emptied_buffer : (group : ℕ) (r : Role) (g k : ℕ) → emptied group r ≡ InBuffer g k →
    r ≡ InBuffer g k
emptied_buffer group Unused g k e = e
emptied_buffer group (HeldBy b) g k e = e
emptied_buffer group (InBuffer h j) g k e = e
emptied_buffer group (InArray h j) g k e = go (h == group) e
  where
    go : (b : Bool) → cond b Unused (InArray h j) ≡ InBuffer g k → InArray h j ≡ InBuffer g k
    go true e = let bad = e in cc
    go false e = e

emptied_array : (group : ℕ) (r : Role) (g k : ℕ) → emptied group r ≡ InArray g k →
    r ≡ InArray g k
emptied_array group Unused g k e = e
emptied_array group (HeldBy b) g k e = e
emptied_array group (InBuffer h j) g k e = e
emptied_array group (InArray h j) g k e = go (h == group) e
  where
    go : (b : Bool) → cond b Unused (InArray h j) ≡ InArray g k → InArray h j ≡ InArray g k
    go true e = let bad = e in cc
    go false e = e

placed_begin : (o : Opening) (t : Execution) (by group low high first : ℕ) → Sited o t →
    RowsKept o (event by (NewGroup group low high first) ∷ t)
placed_begin o t by group low high first old =
    record {
      free = λ place h.
          let f = old.rows.free place h in (ap (emptied group) f.0, f.1);
      once = old.rows.once;
      all = λ place row free.
          ⊎_elim (λ (z : role o place t ≡ Unused). old.rows.all place row z)
          (λ (z : (g : ℕ) × (k : ℕ) × (role o place t ≡ InArray g k)).
          let array = old.arrays place z.0 z.1 z.2 in
          absurd (array_not_row (shape o) z.0 place array.group_exists array.in_array row))
          (emptied_unused group (role o place t) free);
      held = λ hand place mine.
          old.rows.held hand place (emptied_held group (role o place t) hand mine);
      one = λ caller place other known mine also.
          old.rows.one caller place other known
          (emptied_held group (role o place t) caller mine)
          (emptied_held group (role o other t) caller also);
    }

placed_step : (o : Opening) (t : Execution) (by : ℕ) (action : Action) → Allowed o t by action →
    IsHand o by → Sited o t → RowsKept o (event by action ∷ t)
placed_step o t by (PopFree popped next) may is_hand old = placed_pop o t by popped next may old.rows
placed_step o t by (PushFree pushed head) may is_hand old = placed_push o t by pushed head may old.rows
placed_step o t by (LinkRow group lane q change before next) may is_hand old =
    placed_set o t by (LinkRow group lane q change before next) q (InBuffer group (key_of change))
    old.rows refl (λ p. refl)
    (λ h. unused-held (sym (old.rows.free q h).0 ∙ may.mine)) (λ e. let bad = e in cc)
    (λ hand e. buffer_held e)
placed_step o t by (Retire q next) may is_hand old =
    let w = may.where_it_is in
    placed_set o t by (Retire q next) q (HeldBy by) old.rows refl (λ p. refl)
    (λ h. let bad : Unused ≡ InBuffer w.0 w.1 = sym (old.rows.free q h).0 ∙ w.2 in cc)
    (λ e. let bad = e in cc)
    (λ hand e.
    let same : by ≡ hand = held_by-same e in let keeper = may.keeper.3 in (
      old.buffers q w.0 w.1 w.2,
      subst (IsHand o) same is_hand,
      λ known. omega (arith, known, same, keeper),
    ))
placed_step o t by (StoreRedirect group q k to) may is_hand old =
    placed_set o t by (StoreRedirect group q k to) q (InArray group k) old.rows refl (λ p. refl)
    (λ h. array_not_row (shape o) group q may.in_array.group_exists may.in_array.in_array
    (old.rows.free q h).1)
    (λ e. let bad = e in cc) (λ hand e. array_held e)
placed_step o t by (NewGroup group low high first) may is_hand old =
    placed_begin o t by group low high first old
placed_step o t by action may is_hand old =
    record {
      free = old.rows.free;
      once = old.rows.once;
      all = old.rows.all;
      held = old.rows.held;
      one = old.rows.one;
    }

buffers_step : (o : Opening) (t : Execution) (by : ℕ) (action : Action) → Allowed o t by action →
    Sited o t → (place group k : ℕ) → role o place (event by action ∷ t) ≡ InBuffer group k →
    IsRow (shape o) place
buffers_step o t by (PopFree q next) may old place group k e =
    ⊎_elim (λ (z : (q ≡ place) × (HeldBy by ≡ InBuffer group k)). buffer_held (sym z.1))
    (λ (z : (q ≢ place) × (role o place t ≡ InBuffer group k)). old.buffers place group k z.1)
    (set_before q place (HeldBy by) (role o place t) (InBuffer group k) e)
buffers_step o t by (PushFree q head) may old place group k e =
    ⊎_elim (λ (z : (q ≡ place) × (Unused ≡ InBuffer group k)). let bad = z.1 in cc)
    (λ (z : (q ≢ place) × (role o place t ≡ InBuffer group k)). old.buffers place group k z.1)
    (set_before q place Unused (role o place t) (InBuffer group k) e)
buffers_step o t by (LinkRow g lane q change before next) may old place group k e =
    ⊎_elim
    (λ (z : (q ≡ place) × (InBuffer g (key_of change) ≡ InBuffer group k)).
    subst (IsRow (shape o)) z.0 (old.rows.held by q may.mine).0)
    (λ (z : (q ≢ place) × (role o place t ≡ InBuffer group k)). old.buffers place group k z.1)
    (set_before q place (InBuffer g (key_of change)) (role o place t) (InBuffer group k) e)
buffers_step o t by (Retire q next) may old place group k e =
    ⊎_elim (λ (z : (q ≡ place) × (HeldBy by ≡ InBuffer group k)). buffer_held (sym z.1))
    (λ (z : (q ≢ place) × (role o place t ≡ InBuffer group k)). old.buffers place group k z.1)
    (set_before q place (HeldBy by) (role o place t) (InBuffer group k) e)
buffers_step o t by (StoreRedirect g q j to) may old place group k e =
    ⊎_elim (λ (z : (q ≡ place) × (InArray g j ≡ InBuffer group k)). let bad = z.1 in cc)
    (λ (z : (q ≢ place) × (role o place t ≡ InBuffer group k)). old.buffers place group k z.1)
    (set_before q place (InArray g j) (role o place t) (InBuffer group k) e)
buffers_step o t by (NewGroup g low high first) may old place group k e =
    old.buffers place group k (emptied_buffer g (role o place t) group k e)
buffers_step o t by action may old place group k e = old.buffers place group k e

arrays_step : (o : Opening) (t : Execution) (by : ℕ) (action : Action) → Allowed o t by action →
    Sited o t → (place group k : ℕ) → role o place (event by action ∷ t) ≡ InArray group k →
    IsArrayPlaceOf o group place
arrays_step o t by (PopFree q next) may old place group k e =
    ⊎_elim (λ (z : (q ≡ place) × (HeldBy by ≡ InArray group k)). array_held (sym z.1))
    (λ (z : (q ≢ place) × (role o place t ≡ InArray group k)). old.arrays place group k z.1)
    (set_before q place (HeldBy by) (role o place t) (InArray group k) e)
arrays_step o t by (PushFree q head) may old place group k e =
    ⊎_elim (λ (z : (q ≡ place) × (Unused ≡ InArray group k)). let bad = z.1 in cc)
    (λ (z : (q ≢ place) × (role o place t ≡ InArray group k)). old.arrays place group k z.1)
    (set_before q place Unused (role o place t) (InArray group k) e)
arrays_step o t by (LinkRow g lane q change before next) may old place group k e =
    ⊎_elim
    (λ (z : (q ≡ place) × (InBuffer g (key_of change) ≡ InArray group k)). let bad = z.1 in cc)
    (λ (z : (q ≢ place) × (role o place t ≡ InArray group k)). old.arrays place group k z.1)
    (set_before q place (InBuffer g (key_of change)) (role o place t) (InArray group k) e)
arrays_step o t by (Retire q next) may old place group k e =
    ⊎_elim (λ (z : (q ≡ place) × (HeldBy by ≡ InArray group k)). array_held (sym z.1))
    (λ (z : (q ≢ place) × (role o place t ≡ InArray group k)). old.arrays place group k z.1)
    (set_before q place (HeldBy by) (role o place t) (InArray group k) e)
arrays_step o t by (StoreRedirect g q j to) may old place group k e =
    ⊎_elim
    (λ (z : (q ≡ place) × (InArray g j ≡ InArray group k)).
    let two = z.1 in let same : g ≡ group = cc in
    subst (IsArrayPlaceOf o group) z.0
    (subst (λ (i : ℕ). IsArrayPlaceOf o i q) same may.in_array))
    (λ (z : (q ≢ place) × (role o place t ≡ InArray group k)). old.arrays place group k z.1)
    (set_before q place (InArray g j) (role o place t) (InArray group k) e)
arrays_step o t by (NewGroup g low high first) may old place group k e =
    old.arrays place group k (emptied_array g (role o place t) group k e)
arrays_step o t by action may old place group k e = old.arrays place group k e

sited : (o : Opening) (t : Execution) → Valid o t → Sited o t
sited o [] valid =
    record {
      rows = placed_first o;
      buffers = λ place group k e. opening_role-buffer o place group k e;
      arrays = λ place group k e.
          let w = opening_role-array o place group k e in
          subst (λ (g : ℕ). IsArrayPlaceOf o g place) (sym w.0)
          (opening_row-place o place (k, w.1) w.2);
    }
sited o (e ∷ t) valid =
    let old = sited o t valid.1 in
    record {
      rows = placed_step o t e.by e.action valid.0 valid.2 old;
      buffers = buffers_step o t e.by e.action valid.0 old;
      arrays = arrays_step o t e.by e.action valid.0 old;
    }

pub placed : (o : Opening) (t : Execution) → Valid o t → RowsPlaced o t
placed o t valid =
    let s = sited o t valid in
    record {
      free = s.rows.free;
      once = s.rows.once;
      all = s.rows.all;
      held = s.rows.held;
      one = s.rows.one;
      buffered = λ group k place e. s.buffers place group k e;
      arrayed = λ group k place e. s.arrays place group k e;
    }

-- a place in a buffer is a record row
pub buffer_row : (o : Opening) (t : Execution) → Valid o t → (place group k : ℕ) →
    role o place t ≡ InBuffer group k → IsRow (shape o) place
buffer_row o t valid place group k e = (sited o t valid).buffers place group k e

-- and one in an array is none
pub array_no_row : (o : Opening) (t : Execution) → Valid o t → (place group k : ℕ) →
    role o place t ≡ InArray group k → IsRow (shape o) place → ⊥
array_no_row o t valid place group k e row =
    let array = (sited o t valid).arrays place group k e in
    array_not_row (shape o) group place array.group_exists array.in_array row

-- ---- what others leave ----

holds_step : (o : Opening) (t : Execution) (by : ℕ) (action : Action) → Valid o t →
    Allowed o t by action → (hand place : ℕ) → by ≢ hand → Holds o hand place t →
    Holds o hand place (event by action ∷ t)
holds_step o t by (PopFree popped next) valid may hand place differ mine =
    let top = (placed o t valid).free popped (subst (In popped) (sym may.2.top) (inl refl)) in
    let apart : popped ≢ place = λ e. unused_apart o t hand place popped mine top.0 (sym e) in
    role_not_popped o by popped next t place apart ∙ mine
holds_step o t by (PushFree pushed head) valid may hand place differ mine =
    let apart : pushed ≢ place = hands_apart o t by pushed hand place may.held mine differ in
    role_not_pushed o by pushed head t place apart ∙ mine
holds_step o t by (LinkRow group lane q change before next) valid may hand place differ mine =
    choice-other q place (InBuffer group (key_of change)) (role o place t)
    (hands_apart o t by q hand place may.mine mine differ) ∙ mine
holds_step o t by (Retire q next) valid may hand place differ mine =
    let w = may.where_it_is in
    choice-other q place (HeldBy by) (role o place t)
    (λ e. buffer_held (sym w.2 ∙ ap (λ (p : ℕ). role o p t) e ∙ mine)) ∙ mine
holds_step o t by (StoreRedirect group q k to) valid may hand place differ mine =
    choice-other q place (InArray group k) (role o place t)
    (λ e. unused-held (sym may.unused ∙ ap (λ (p : ℕ). role o p t) e ∙ mine)) ∙ mine
holds_step o t by (NewGroup group low high first) valid may hand place differ mine =
    ap (emptied group) mine
holds_step o t by action valid may hand place differ mine = mine

pub holds_on : (o : Opening) (hand place : ℕ) (newer t : Execution) → Valid o (newer ++ t) →
    Without hand newer → Holds o hand place t → Holds o hand place (newer ++ t)
holds_on o hand place [] t valid without mine = mine
holds_on o hand place (e ∷ newer) t valid without mine =
    holds_step o (newer ++ t) e.by e.action valid.1 valid.0 hand place without.0
    (holds_on o hand place newer t valid.1 without.1 mine)

-- who holds a row after the action of another held it before
held_before : (o : Opening) (by : ℕ) (action : Action) (t : Execution) (hand place : ℕ) →
    by ≢ hand → Holds o hand place (event by action ∷ t) → Holds o hand place t
held_before o by (PopFree popped next) t hand place differ mine =
    ⊎_elim
    (λ (taken : (popped ≡ place) × (by ≡ hand)). absurd (differ taken.1))
    (λ (before : Holds o hand place t). before)
    (held_before_pop o by popped next t hand place mine)
held_before o by (PushFree pushed head) t hand place differ mine =
    held_before_push o by pushed head t hand place mine
held_before o by (LinkRow group lane q change before next) t hand place differ mine =
    ⊎_elim (λ (z : (q ≡ place) × (InBuffer group (key_of change) ≡ HeldBy hand)). buffer_held z.1)
    (λ (z : (q ≢ place) × (role o place t ≡ HeldBy hand)). z.1)
    (set_before q place (InBuffer group (key_of change)) (role o place t) (HeldBy hand) mine)
held_before o by (Retire q next) t hand place differ mine =
    ⊎_elim
    (λ (z : (q ≡ place) × (HeldBy by ≡ HeldBy hand)). absurd (differ (held_by-same z.1)))
    (λ (z : (q ≢ place) × (role o place t ≡ HeldBy hand)). z.1)
    (set_before q place (HeldBy by) (role o place t) (HeldBy hand) mine)
held_before o by (StoreRedirect group q k to) t hand place differ mine =
    ⊎_elim (λ (z : (q ≡ place) × (InArray group k ≡ HeldBy hand)). array_held z.1)
    (λ (z : (q ≢ place) × (role o place t ≡ HeldBy hand)). z.1)
    (set_before q place (InArray group k) (role o place t) (HeldBy hand) mine)
held_before o by (NewGroup group low high first) t hand place differ mine =
    emptied_held group (role o place t) hand mine
held_before o by action t hand place differ mine = mine

pub holds_none_on : (o : Opening) (hand : ℕ) (newer t : Execution) → Valid o (newer ++ t) →
    Without hand newer → HoldsNone o hand t → HoldsNone o hand (newer ++ t)
holds_none_on o hand [] t valid without none place mine = none place mine
holds_none_on o hand (e ∷ newer) t valid without none place mine =
    holds_none_on o hand newer t valid.1 without.1 none place
    (held_before o e.by e.action (newer ++ t) hand place without.0 mine)

-- ---- what a hand's own action does ----

-- the action takes no row and gives none
abbrev pub KeepsRoles : Action → Type 0
KeepsRoles (PopFree place next) = ⊥
KeepsRoles (PushFree place head) = ⊥
KeepsRoles (LinkRow group lane place change before next) = ⊥
KeepsRoles (Retire place next) = ⊥
KeepsRoles (StoreRedirect group place k to) = ⊥
KeepsRoles (NewGroup group low high first) = ⊥
KeepsRoles _ = Unit {0}

pub role_kept : (o : Opening) (by : ℕ) (action : Action) (t : Execution) → KeepsRoles action →
    (place : ℕ) → role o place (event by action ∷ t) ≡ role o place t
role_kept o by (PopFree popped next) t keeps place = absurd keeps
role_kept o by (PushFree pushed head) t keeps place = absurd keeps
role_kept o by (LinkRow group lane q change before next) t keeps place = absurd keeps
role_kept o by (Retire q next) t keeps place = absurd keeps
role_kept o by (StoreRedirect group q k to) t keeps place = absurd keeps
role_kept o by (NewGroup group low high first) t keeps place = absurd keeps
role_kept o by action t keeps place = refl

pub holds_kept : (o : Opening) (by : ℕ) (action : Action) (t : Execution) → KeepsRoles action →
    (hand place : ℕ) → Holds o hand place t → Holds o hand place (event by action ∷ t)
holds_kept o by action t keeps hand place mine = role_kept o by action t keeps place ∙ mine

pub holds_none_kept : (o : Opening) (by : ℕ) (action : Action) (t : Execution) → KeepsRoles action →
    (hand : ℕ) → HoldsNone o hand t → HoldsNone o hand (event by action ∷ t)
holds_none_kept o by action t keeps hand none place mine =
    none place (sym (role_kept o by action t keeps place) ∙ mine)
