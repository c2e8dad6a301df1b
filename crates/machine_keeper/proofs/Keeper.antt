-- How the keeper meets its conditions.
use Rattle.std.proofs.Common.{◌≡◌, ◌≢◌, ℕ, ◌⊎◌, inl, inr, ⊎_elim, Option, Some, None, Bool, true}
use Rattle.std.proofs.Common.{false, [], ◌∷◌, cond, refl, sym, ap, ◌∙◌, subst}
use Rattle.std.proofs.Common.{arith, ◌+◌, ◌*◌, ◌/◌}
use Rattle.std.specs.Prelude.{◌==◌, ◌-◌}
use Rattle.std.proofs.lemmas.Nat.{div-mul-add}
use mathlib.Core.Logic.{dite}
use native.Mathlib.Decide.{ℕ_discrete}
use Rattle.index_machine.proofs.Executions.{choice-other, choice-same}
use Rattle.index_machine.specs.Conditions.{Allowed, Valid}
use Rattle.index_machine.specs.Execution.{Execution, event, own}
use Rattle.index_machine.proofs.OpeningRows.{array_not_row}
use Rattle.index_machine.specs.Keepers.{IsArrayPlaceOf, IsGroupKeeper, IsKeeper, IsKeeperAt, part_of}
use Rattle.index_machine.specs.Words.{limits, shape}
use Rattle.word_layout.proofs.WordNames.{array_inside}
use Rattle.word_layout.specs.Addresses.{array_address, first_group_word}
use Rattle.word_layout.specs.Headers.{header_words}
use Rattle.word_layout.specs.Limits.{group_words_of}
use Rattle.word_layout.specs.Places.{IsRow}
use Rattle.word_layout.specs.Shape.{Shape}
use Rattle.index_machine.specs.Forms.{Redirect, Unlocked, copied_away}
use Rattle.index_machine.specs.Forms.{is_removed, made_direct}
use Rattle.index_machine.specs.Groups.{IsInUse, phase, root}
use Rattle.index_machine.specs.KeyRanges.{group_of, or_else, successor}
use Rattle.index_machine.specs.LivePlaces.{live_place}
use Rattle.index_machine.specs.Openings.{within}
use Rattle.index_machine.specs.Permissions.{IsBufferFor, IsGone, MayInsertInto}
use Rattle.index_machine.specs.Places.{IsInGroup, first_version, form}
use Rattle.index_machine.specs.Reaching.{SeesSlot}
use Rattle.index_machine.specs.Rows.{InArray, InBuffer, role}
use Rattle.index_machine.specs.Sections.{IsCaller}
use Rattle.index_machine.specs.declared.events.Action.{Action}
use Rattle.index_machine.specs.declared.events.Action.TheVariants.{Install, LinkRow}
use Rattle.index_machine.specs.declared.events.Action.TheVariants.{StoreDirect}
use Rattle.index_machine.specs.declared.events.Action.TheVariants.{StoreRedirect}
use Rattle.index_machine.specs.declared.events.InstallWord.{InstallWord}
use Rattle.index_machine.specs.declared.opening.Opening.{Opening}
use Rattle.machine_barriers.proofs.Reaches.{may_as}
use Rattle.machine_barriers.specs.Barriers.{IsShutForOldGroups, ReliesOnOld}
use Rattle.machine_keeper.specs.Marks.{pending_redirect}
use Rattle.index_machine.proofs.Options.{none_some, not_so, some_is}
use Rattle.machine_places.proofs.LivePlaces.{live_place-lives}
use Rattle.machine_places.specs.Agreement.{LivePlacesStand, MapAgrees}
pub use Rattle.machine_readers.proofs.LockSteps.{locked_step}
use Rattle.machine_readers.proofs.Redirects.{redirect_back}
use Rattle.machine_readers.proofs.Roles.{IsLinkOf, row_back}
use Rattle.machine_readers.proofs.Tombstones.{removed-has_no_value}
use Rattle.word_layout.specs.declared.phase.Phase.TheVariants.{Opened}

direct_not : (n : ℕ) (r : Bool) (q v p y : ℕ) → made_direct n r (Redirect q v) ≡ Redirect p y → ⊥
direct_not n r q v p y e = let bad : Unlocked n r v ≡ Redirect p y = e in cc

-- an array place is of one group
pub one_array : (o : Opening) (g h a : ℕ) → IsArrayPlaceOf o g a → IsArrayPlaceOf o h a → g ≡ h
one_array o g h a mine theirs =
    let s : Shape = shape o in
    let width : ℕ = group_words_of s.limits in
    let first : ℕ = first_group_word s in
    let x = array_inside s g a 0 mine.group_exists mine.in_array (omega arith) in
    let y = array_inside s h a 0 theirs.group_exists theirs.in_array (omega arith) in
    let r : ℕ = header_words + (a - array_address s g 0 + 0) in
    let u : ℕ = header_words + (a - array_address s h 0 + 0) in
    let same : g * width + r ≡ h * width + u = omega (arith, x.2, y.2) in
    sym (div-mul-add g width r x.0) ∙ ap (λ (n : ℕ). n / width) same ∙ div-mul-add h width u y.0

either : (w : Bool) (x y : Option ℕ) → x ≡ y → cond w x y ≡ y
either true x y e = e
either false x y e = refl

-- who writes a redirect where a keeper may look is that keeper
writer : (o : Opening) (t : Execution) (b g p k to a keeper : ℕ) →
    Allowed o t b (StoreRedirect g p k to) → p ≡ a → IsKeeperAt o keeper a → b ≡ keeper
writer o t b g p k to a keeper may z at = ⊎_elim
    (λ (w : IsKeeper o keeper × IsRow (shape o) a).
    absurd (array_not_row (shape o) g p may.in_array.group_exists may.in_array.in_array
    (subst (IsRow (shape o)) (sym z) w.1)))
    (λ (w : (group : ℕ) × IsArrayPlaceOf o group a × IsGroupKeeper o keeper group).
    let same = one_array o g w.0 a (subst (IsArrayPlaceOf o g) z may.in_array) w.1 in
    may.keeper ∙ ap (λ (i : ℕ). (limits o).callers + part_of o i) same ∙ sym w.2)
    at

pending_step : (o : Opening) (t : Execution) (b : ℕ) (d : Action) (keeper a : ℕ) →
    Allowed o t b d → IsKeeperAt o keeper a →
    ((q y : ℕ) → form o a t ≡ Redirect q y → pending_redirect keeper a t ≡ Some q) → (q y : ℕ) →
    form o a (event b d ∷ t) ≡ Redirect q y → pending_redirect keeper a (event b d ∷ t) ≡ Some q
pending_step o t b (StoreDirect p from k r raised) keeper a may at old q y e = dite (ℕ_discrete p a)
    (λ (z : p ≡ a). absurd (direct_not (first_version o) r from may.value q y
    (ap (made_direct (first_version o) r) (sym may.forwards ∙ ap (λ (i : ℕ). form o i t) z)
    ∙ (sym (choice-same p a (made_direct (first_version o) r (form o a t))
    (cond (from == a) (copied_away (form o a t)) (form o a t)) z) ∙ e))))
    (λ (n : p ≢ a).
    either (b == keeper) (cond (p == a) None (pending_redirect keeper a t)) (pending_redirect keeper a t)
    (choice-other p a None (pending_redirect keeper a t) n)
    ∙ ⊎_elim (λ (z : (i : ℕ) × (form o a t ≡ Redirect q i)). old q z.0 z.1)
    (λ (z : (g : ℕ) × (j : ℕ) × (StoreDirect p from k r raised ≡ StoreRedirect g a j q)). let bad =
    z.2 in cc) (redirect_back o t b (StoreDirect p from k r raised) a q y e))
pending_step o t b (StoreRedirect g p k to) keeper a may at old q y e = dite (ℕ_discrete p a)
    (λ (z : p ≡ a). let two : Redirect to 0 ≡ Redirect q y =
    sym (choice-same p a (Redirect to 0) (form o a t) z) ∙ e in let same : to ≡ q = cc in
    choice-same b keeper (cond (p == a) (Some to) (pending_redirect keeper a t))
    (pending_redirect keeper a t) (writer o t b g p k to a keeper may z at)
    ∙ choice-same p a (Some to) (pending_redirect keeper a t) z
    ∙ ap Some same)
    (λ (n : p ≢ a).
    either (b == keeper) (cond (p == a) (Some to) (pending_redirect keeper a t))
    (pending_redirect keeper a t) (choice-other p a (Some to) (pending_redirect keeper a t) n)
    ∙ old q y (sym (choice-other p a (Redirect to 0) (form o a t) n) ∙ e))
pending_step o t b d keeper a may at old q y e = ⊎_elim
    (λ (z : (i : ℕ) × (form o a t ≡ Redirect q i)). old q z.0 z.1)
    (λ (z : (g : ℕ) × (j : ℕ) × (d ≡ StoreRedirect g a j q)). let bad = z.2 in cc)
    (redirect_back o t b d a q y e)

-- a redirect where a keeper may look is one that it wrote and did not yet make direct
pub redirects_are_pending : (o : Opening) → ((a q y : ℕ) → form o a [] ≢ Redirect q y) →
    (t : Execution) → Valid o t → (keeper a : ℕ) → IsKeeperAt o keeper a → (q y : ℕ) →
    form o a t ≡ Redirect q y → pending_redirect keeper a t ≡ Some q
redirects_are_pending o start [] valid keeper a at q y e = absurd (start a q y e)
redirects_are_pending o start (e ∷ t) valid keeper a at q y is =
    pending_step o t e.by e.action keeper a valid.0 at
    (redirects_are_pending o start t valid.1 keeper a at) q y is

-- where nobody may insert no row comes to the buffer, and what is removed in the group stays so
pub rows_final : (o : Opening) (t : Execution) (b : ℕ) (d : Action) (g k q : ℕ) → Allowed o t b d →
    ((c : ℕ) → IsCaller o c → MayInsertInto c g t → ⊥) → role o q (event b d ∷ t) ≡ InBuffer g k →
    role o q t ≡ InBuffer g k
rows_final o t b d g k q may none e = ⊎_elim (λ (z : role o q t ≡ InBuffer g k). z)
    (λ (z : IsLinkOf g q k d). let m = may_as o t b d (LinkRow g z.lane q z.change z.before z.next) z.is may in
    absurd (none b m.caller m.permission)) (row_back o t b d q g k e)

-- the live place of a key has its redirect, if each old place of the key is removed or has its
-- redirect, and the old array has no redirect
pub merged : (o : Opening) (t : Execution) → MapAgrees o t → LivePlacesStand o t → (k g h p : ℕ) →
    group_of o k t ≡ g → successor k t ≡ Some h
    → ((q : ℕ) → IsInGroup o t g k q → (is_removed (form o q t) ≡ true) ⊎
    ((a : ℕ) × (y : ℕ) × (role o a t ≡ InArray h k) × (form o a t ≡ Redirect q y)))
    → ((a q y : ℕ) → role o a t ≡ InArray g k → form o a t ≢ Redirect q y) →
    live_place o k t ≡ Some p
    → (role o p t ≡ InBuffer h k) ⊎ ((a : ℕ) × (y : ℕ) × (role o a t ≡ InArray h k) ×
    (form o a t ≡ Redirect p y))
merged o t agree places k g h p own successors each none e = let l =
    live_place-lives o t agree k p e in
    let old : IsInGroup o t g k p → (role o p t ≡ InBuffer h k) ⊎
    ((a : ℕ) × (y : ℕ) × (role o a t ≡ InArray h k) × (form o a t ≡ Redirect p y)) = λ s. ⊎_elim
    (λ (z : is_removed (form o p t) ≡ true). none_some
    (sym (removed-has_no_value (form o p t) z) ∙ l.1))
    (λ (z : (a : ℕ) × (y : ℕ) × (role o a t ≡ InArray h k) × (form o a t ≡ Redirect p y)). inr z)
    (each p s) in ⊎_elim
    (λ (z : role o p t ≡ InArray (group_of o k t) k).
    old (inl (z ∙ ap (λ (i : ℕ). InArray i k) own)))
    (λ (z : ((a : ℕ) × (y : ℕ) × (role o a t ≡ InArray (group_of o k t) k) ×
    (form o a t ≡ Redirect p y)) ⊎ ((h : ℕ) × (role o p t ≡ InBuffer h k) × IsBufferFor o k h t)).
    ⊎_elim
    (λ (w : (a : ℕ) × (y : ℕ) × (role o a t ≡ InArray (group_of o k t) k) ×
    (form o a t ≡ Redirect p y)). absurd (none w.0 p w.1
    (w.2 ∙ ap (λ (i : ℕ). InArray i k) own) w.3))
    (λ (w : (h : ℕ) × (role o p t ≡ InBuffer h k) × IsBufferFor o k h t).
    ⊎_elim (λ (v : group_of o k t ≡ w.0). old
    (inr (w.1 ∙ ap (λ (i : ℕ). InBuffer i k) (sym v ∙ own))))
    (λ (v : (f : ℕ) × (phase (group_of o k t) t ≡ Opened f) × (successor k t ≡ Some w.0)).
    inl (w.1 ∙ ap (λ (i : ℕ). InBuffer i k) (some_is (sym v.2 ∙ successors)))) w.2) z)
    (places k p e)

-- the install takes the old groups out of all key ranges
pub unowned_after : (o : Opening) (t : Execution) (b : ℕ) (spot : InstallWord)
    (lead low high g : ℕ) → Allowed o t b (Install spot lead low high) →
    ((k : ℕ) → group_of o k t ≡ g → within low k high ≡ true) →
    ((k : ℕ) → within low k high ≡ true → successor k t ≢ Some g)
    → (k : ℕ) → group_of o k (event b (Install spot lead low high) ∷ t) ≢ g
unowned_after o t b spot lead low high g may all none k e = go (within low k high) refl
  where
    go : (w : Bool) → within low k high ≡ w → ⊥
    go true z = let m = may.opened k z in none k z
        (m.3 ∙ ap Some (sym (ap (λ (i : Bool).
        cond i (or_else (successor k t) (group_of o k t)) (group_of o k t)) z
        ∙ ap (λ (i : Option ℕ). or_else i (group_of o k t)) m.3) ∙ e))
    go false z = let own : group_of o k t ≡ g =
        sym (ap (λ (i : Bool). cond i (or_else (successor k t) (group_of o k t))
        (group_of o k t)) z) ∙ e in not_so (sym z ∙ all k own)

-- after the second barrier the old groups are gone
pub gone : (o : Opening) (t : Execution) (g f : ℕ) → phase g t ≡ Opened f →
    IsShutForOldGroups f o t → ((c : ℕ) → IsCaller o c → ReliesOnOld o f c t → ⊥) →
    IsGone o g t
gone o t g f at shut none = record {
  unowned = λ k e. shut.unowned k (ap (λ (y : ℕ). phase y t) e ∙ at);
  unnamed = λ part side i r e.
      ⊎_elim
      (λ (z : IsInUse (root o part t) side i).
      shut.unnamed part side i z (ap (λ (y : ℕ). phase y t) e ∙ at))
      (λ (z : (c : ℕ) × IsCaller o c × SeesSlot c part side i t).
      none z.0 z.1 (g, at, inr (part, side, i, z.2, e))) r;
  empty = λ c is s. none c is (g, at, inl s);
}
