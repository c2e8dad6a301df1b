-- The record rows in buffers and the retired ones against the inserting changes.
use Rattle.std.proofs.lemmas.Bool.{lt-leb}
use Rattle.std.proofs.Common.{◌<◌, ◌≡◌, ◌≢◌, ℕ, ◌+◌, ◌≤◌, inl, inr, Option, Some, None, Bool, true}
use Rattle.std.proofs.Common.{false, List, [], ◌∷◌, cond, refl, sym, ap, ◌∙◌, subst, arith}
use Rattle.std.specs.Prelude.{◌==◌, is_none}
use Rattle.std.specs.List.{count_by}
use Rattle.std.proofs.lemmas.List.Sums.{sum_by-cons}
use mathlib.Core.Logic.{dite}
use native.Mathlib.Decide.{ℕ_discrete}
use Rattle.index_machine.proofs.Executions.{choice-other, choice-same}
use Rattle.index_machine.proofs.Placing.{rows-distinct}
use Rattle.index_machine.specs.Conditions.{Allowed, Valid}
use Rattle.index_machine.specs.Execution.{Execution, event}
use Rattle.index_machine.specs.Lists.{AreDistinct, In}
use Rattle.index_machine.specs.LivePlaces.{history}
use Rattle.index_machine.specs.OpeningRows.{opening_row}
use Rattle.index_machine.specs.Openings.{opening_map}
use Rattle.index_machine.specs.RecordConditions.{IsChangeTo, MayLink}
use Rattle.index_machine.specs.Rows.{HeldBy, InArray, InBuffer, Role, Unused, emptied, role}
use Rattle.index_machine.specs.Rows.{role_of_row}
use Rattle.index_machine.specs.Words.{shape, limits}
use Rattle.index_machine.specs.declared.events.Action.{Action}
use Rattle.index_machine.specs.declared.events.Action.TheVariants.{LinkRow, NewGroup, PopFree}
use Rattle.index_machine.specs.declared.events.Action.TheVariants.{PushFree, Retire}
use Rattle.index_machine.specs.declared.events.Action.TheVariants.{StoreRedirect, Unlock}
use Rattle.index_machine.specs.declared.opening.Opening.{Opening}
use Rattle.index_machine.proofs.Options.{not_so}
use Rattle.machine_places.proofs.FromOpening.{agreement}
use Rattle.machine_places.specs.Agreement.{HasLiveValue}
use Rattle.machine_places.specs.RowCounts.{LinkedRowsAreInserts, all_rows, is_linked_or_retired}
use Rattle.machine_places.specs.RowCounts.{linked_or_retired}
use Rattle.map_model.specs.History.{after, inserts, is_inserting}
use Rattle.map_model.specs.Map.{Map, key_of, look}
use Rattle.map_model.specs.declared.entries.Change.{Change}
use Rattle.map_model.specs.declared.entries.Change.TheVariants as change

-- ---- counting ----

one_if-le : (a b : Bool) → (a ≡ true → b ≡ true) → cond a 1 0 ≤ cond b 1 0
one_if-le false false f = omega arith
one_if-le false true f = omega arith
one_if-le true true f = omega arith
one_if-le true false f = not_so (f refl)

one_if-small : (a : Bool) → cond a 1 0 ≤ 1
one_if-small false = omega arith
one_if-small true = omega arith

count_cons : (p : ℕ → Bool) (x : ℕ) (xs : List ℕ) →
    count_by p (x ∷ xs) ≡ cond (p x) 1 0 + count_by p xs
count_cons p x xs = sum_by-cons (λ y. cond (p y) 1 0) x xs

-- no more pass now where each that passes now passed before
count_kept : (p q : ℕ → Bool) (xs : List ℕ) →
    ((x : ℕ) → In x xs → q x ≡ true → p x ≡ true) → count_by q xs ≤ count_by p xs
count_kept p q [] back = omega arith
count_kept p q (x ∷ xs) back =
    let now = count_cons q x xs in
    let was = count_cons p x xs in
    let first = one_if-le (q x) (p x) (back x (inl refl)) in
    let rest = count_kept p q xs (λ y i. back y (inr i)) in
    omega (arith, now, was, first, rest)

-- and one more at most where this holds of all places but one
count_once : (p q : ℕ → Bool) (at : ℕ) (xs : List ℕ) → AreDistinct xs →
    ((x : ℕ) → x ≢ at → q x ≡ true → p x ≡ true) → count_by q xs ≤ count_by p xs + 1
count_once p q at [] distinct back = omega arith
count_once p q at (x ∷ xs) distinct back =
    let now = count_cons q x xs in
    let was = count_cons p x xs in
    dite (ℕ_discrete x at)
    (λ (z : x ≡ at).
    let first = one_if-small (q x) in
    let rest = count_kept p q xs
    (λ y i. back y (λ w. distinct.0 (subst (λ (a : ℕ). In a xs) (w ∙ sym z) i))) in
    omega (arith, now, was, first, rest))
    (λ (n : x ≢ at).
    let first = one_if-le (q x) (p x) (back x n) in
    let rest = count_once p q at xs distinct.1 back in
    omega (arith, now, was, first, rest))

count_none : (xs : List ℕ) → count_by (λ (x : ℕ). false) xs ≡ 0
count_none [] = refl
count_none (x ∷ xs) =
    let one = count_cons (λ (y : ℕ). false) x xs in
    let rest = count_none xs in
    omega (arith, one, rest)

-- ---- inserting changes ----

inserts_grow : (m : Map) (d : Change) (h : List Change) → inserts m h ≤ inserts m (d ∷ h)
inserts_grow m d h = go (is_inserting (after m h) d)
  where
    go : (b : Bool) → inserts m h ≤ cond b (inserts m h + 1) (inserts m h)
    go true = omega arith
    go false = omega arith

-- a change that makes a new record inserts, where the key is not in the map
new_inserts : (c y : ℕ) (d : Change) (m : Map) → IsChangeTo c false false y d →
    look m (key_of d) ≡ None → is_inserting m d ≡ true
new_inserts c y (change.Put b k v) m makes none =
    ap (λ (x : Option ℕ). is_none x) none
new_inserts c y (change.Remove b k) m makes none = not_so makes.1

-- ---- the roles of rows ----

-- a role that was set at one place
set_back : (keeper q p : ℕ) (u r : Role) →
    (q ≡ p → is_linked_or_retired keeper u ≡ true → is_linked_or_retired keeper r ≡ true) →
    is_linked_or_retired keeper (cond (q == p) u r) ≡ true →
    is_linked_or_retired keeper r ≡ true
set_back keeper q p u r here e =
    dite (ℕ_discrete q p)
    (λ (z : q ≡ p). here z (ap (is_linked_or_retired keeper) (sym (choice-same q p u r z)) ∙ e))
    (λ (n : q ≢ p). ap (is_linked_or_retired keeper) (sym (choice-other q p u r n)) ∙ e)

emptied_back : (keeper g : ℕ) (s : Role) → is_linked_or_retired keeper (emptied g s) ≡ true →
    is_linked_or_retired keeper s ≡ true
emptied_back keeper g Unused e = e
emptied_back keeper g (HeldBy c) e = e
emptied_back keeper g (InBuffer h j) e = e
emptied_back keeper g (InArray h j) e = array (h == g) e
  where
    array : (b : Bool) → is_linked_or_retired keeper (cond b Unused (InArray h j)) ≡ true →
        false ≡ true
    array true e = e
    array false e = e

-- the row is in a buffer or retired
abbrev IsLinkedOrRetired : Opening → ℕ → Execution → Type 0
IsLinkedOrRetired o p t = is_linked_or_retired (limits o).callers (role o p t) ≡ true

-- a row in a buffer or retired was so before, unless it is linked now
linked_before : (o : Opening) (t : Execution) (b : ℕ) (d : Action) → Allowed o t b d → (p : ℕ) →
    ((g lane q : ℕ) (c : Change) (prior next : ℕ) → d ≡ LinkRow g lane q c prior next → p ≢ q) →
    IsLinkedOrRetired o p (event b d ∷ t) → IsLinkedOrRetired o p t
linked_before o t b (PopFree q next) may p not_it e =
    let caller = may.0.caller in
    let below : b < (limits o).callers = caller in
    set_back (limits o).callers q p (HeldBy b) (role o p t)
    (λ z s. not_so (sym (lt-leb (limits o).callers b below) ∙ s)) e
linked_before o t b (PushFree q head) may p not_it e =
    set_back (limits o).callers q p Unused (role o p t) (λ z s. not_so s) e
linked_before o t b (LinkRow g lane q c prior next) may p not_it e =
    set_back (limits o).callers q p (InBuffer g (key_of c)) (role o p t)
    (λ z s. absurd (not_it g lane q c prior next refl (sym z))) e
linked_before o t b (Retire q next) may p not_it e =
    let w = may.where_it_is in
    set_back (limits o).callers q p (HeldBy b) (role o p t)
    (λ z s. ap (is_linked_or_retired (limits o).callers)
    (ap (λ (y : ℕ). role o y t) (sym z) ∙ w.2)) e
linked_before o t b (StoreRedirect g q k to) may p not_it e =
    set_back (limits o).callers q p (InArray g k) (role o p t) (λ z s. not_so s) e
linked_before o t b (NewGroup g low high first) may p not_it e =
    emptied_back (limits o).callers g (role o p t) e
linked_before o t b d may p not_it e = e

-- ---- the count ----

-- the count after an action that links no row
kept_step : (o : Opening) (t : Execution) (b : ℕ) (d : Action) → Allowed o t b d →
    ((g lane q : ℕ) (c : Change) (prior next : ℕ) → d ≡ LinkRow g lane q c prior next → ⊥) →
    linked_or_retired o (event b d ∷ t) ≤ linked_or_retired o t
kept_step o t b d may none =
    count_kept (λ p. is_linked_or_retired (limits o).callers (role o p t))
    (λ p. is_linked_or_retired (limits o).callers (role o p (event b d ∷ t))) (all_rows o)
    (λ p i. linked_before o t b d may p (λ g lane q c prior next z. absurd (none g lane q c prior next z)))

-- and after one that does
linked_step : (o : Opening) (t : Execution) (b g lane q : ℕ) (c : Change) (prior next : ℕ) →
    MayLink o t b g lane q c prior next →
    linked_or_retired o (event b (LinkRow g lane q c prior next) ∷ t) ≤ linked_or_retired o t + 1
linked_step o t b g lane q c prior next may =
    count_once (λ p. is_linked_or_retired (limits o).callers (role o p t))
    (λ p. is_linked_or_retired (limits o).callers
    (role o p (event b (LinkRow g lane q c prior next) ∷ t)))
    q (all_rows o) (rows-distinct (shape o) 0 (limits o).records)
    (λ p n. linked_before o t b (LinkRow g lane q c prior next) may p
    (λ h side r e prior' next' z w. n (w ∙ sym (linked_row z))))
  where
    linked_row : {h side r : ℕ} {e : Change} {prior' next' : ℕ} →
        LinkRow g lane q c prior next ≡ LinkRow h side r e prior' next' → q ≡ r
    linked_row e = cc

-- the history has as many inserting changes
abbrev IsCovered : Opening → Execution → Type 0
IsCovered o t = linked_or_retired o t ≤ inserts (opening_map o) (history t)

covered_step : (o : Opening) (t : Execution) (b : ℕ) (d : Action) → Valid o t → Allowed o t b d →
    IsCovered o t → IsCovered o (event b d ∷ t)
covered_step o t b (LinkRow g lane q d prior next) valid may old =
    let m : Map = after (opening_map o) (history t) in
    let none : look m (key_of d) ≡ None =
    subst (HasLiveValue o t (key_of d)) may.not_live_elsewhere (agreement o t valid (key_of d)) in
    let new : is_inserting m d ≡ true = new_inserts b may.value d m may.makes none in
    let n : ℕ = inserts (opening_map o) (history t) in
    let more : inserts (opening_map o) (d ∷ history t) ≡ n + 1 =
    ap (λ (x : Bool). cond x (n + 1) n) new in
    let one = linked_step o t b g lane q d prior next may in
    omega (arith, old, more, one)
covered_step o t b (Unlock p r d raised) valid may old =
    let same = kept_step o t b (Unlock p r d raised) may (λ g lane q c prior next z. let bad = z in cc) in
    let more = inserts_grow (opening_map o) d (history t) in
    omega (arith, old, same, more)
covered_step o t b d valid may old =
    let same = kept_step o t b d may (λ g lane q c prior next z. let bad = z in cc) in
    omega (arith, old, same)

-- from a count that stands at the opening
covered : (o : Opening) → IsCovered o [] → (t : Execution) → Valid o t → IsCovered o t
covered o start [] valid = start
covered o start (e ∷ t) valid =
    covered_step o t e.by e.action valid.1 valid.0 (covered o start t valid.1)

-- at the opening no place is a linked row, nor a retired one
opening-covered : (o : Opening) → IsCovered o []
opening-covered o =
    let none = count_none (all_rows o) in
    let no_more = count_kept (λ p. false)
    (λ p. is_linked_or_retired (limits o).callers (role o p [])) (all_rows o)
    (λ p i e. absurd (unlinked (limits o).callers (opening_row o p) e))
    in
    omega (arith, none, no_more)
  where
    unlinked : (keeper : ℕ) (r : Option (ℕ × ℕ)) →
        is_linked_or_retired keeper (role_of_row o r) ≡ true → ⊥
    unlinked keeper None e = not_so e
    unlinked keeper (Some r) e = not_so e

pub linked_rows : LinkedRowsAreInserts
linked_rows o t valid = covered o (opening-covered o) t valid
