-- What a store leaves: the words of a place that is in no group are changed by the hand that holds
-- it alone.
use Rattle.std.proofs.Common.{◌≡◌, ◌≢◌, ⊎_elim, ℕ, zero, suc, None, cond}
use Rattle.std.proofs.Common.{◌∷◌, refl, sym, ap, ◌∙◌, subst, arith, ne_eqb}
use Rattle.word_layout.specs.declared.places.Part.{Part}
use Rattle.word_layout.specs.Places.{IsRow}
use Rattle.word_layout.specs.Words.{PlaceWord, same_word}
use Rattle.index_machine.specs.declared.events.Action.{Action}
use Rattle.index_machine.specs.declared.events.Action.TheVariants.{StorePrivate, Lock, StoreValue}
use Rattle.index_machine.specs.declared.events.Action.TheVariants.{Unlock, LinkRow, StoreArray}
use Rattle.index_machine.specs.declared.events.Action.TheVariants.{StoreRedirect, Install, Close}
use Rattle.index_machine.specs.declared.events.Action.TheVariants.{Copy, StoreDirect, StoreMoved}
use Rattle.index_machine.specs.declared.events.InstallWord.TheVariants.{NextOf, FirstSlot}
use Rattle.index_machine.specs.declared.opening.Opening.{Opening}
use Rattle.index_machine.specs.Execution.{Execution, event}
use Rattle.index_machine.specs.Words.{shape, word}
use Rattle.index_machine.specs.Lanes.{HasLane}
use Rattle.index_machine.specs.Rows.{InArray, InBuffer, role, role_key, Holds}
use Rattle.index_machine.specs.Places.{IsInGroup}
use Rattle.index_machine.specs.RecordConditions.{HasKey}
use Rattle.index_machine.specs.Keepers.{IsArrayPlaceOf}
use Rattle.index_machine.specs.Conditions.{Allowed}
use Rattle.index_machine.proofs.Options.{none_some}
use Rattle.index_machine.proofs.OpeningRows.{array_not_row}

-- a store at a place leaves the words of another
pub store_apart : (q place value n : ℕ) (at part : Part) → q ≢ place →
    cond (same_word (PlaceWord q at) (PlaceWord place part)) value n ≡ n
store_apart q place value n at part differ = rw (ne_eqb q place differ) refl

-- a place with a key is not one without
keyed_apart : (o : Opening) (t : Execution) (q place : ℕ) → HasKey o q t →
    role_key (role o place t) ≡ None → q ≢ place
keyed_apart o t q place keyed none e =
    none_some (sym none ∙ ap (λ (p : ℕ). role_key (role o p t)) (sym e) ∙ keyed.1)

in_group_keyed : (o : Opening) (t : Execution) (g k q : ℕ) → IsInGroup o t g k q → HasKey o q t
in_group_keyed o t g k q s =
    ⊎_elim (λ (z : role o q t ≡ InArray g k). (k, ap role_key z))
    (λ (z : role o q t ≡ InBuffer g k). (k, ap role_key z)) s

-- a record row is no place of an array
array_apart : (o : Opening) (g q place : ℕ) → IsArrayPlaceOf o g q → IsRow (shape o) place →
    q ≢ place
array_apart o g q place array row e =
    array_not_row (shape o) g q array.group_exists array.in_array
    (subst (IsRow (shape o)) (sym e) row)

-- the words of a record row that is in no group, and not in this hand
pub keyless_words : (o : Opening) (t : Execution) (by : ℕ) (action : Action) →
    Allowed o t by action → (place : ℕ) → IsRow (shape o) place →
    role_key (role o place t) ≡ None → (Holds o by place t → ⊥) → (part : Part) →
    word o (event by action ∷ t) (PlaceWord place part) ≡ word o t (PlaceWord place part)
keyless_words o t by (StorePrivate q at value) may place row none other part =
    store_apart q place value (word o t (PlaceWord place part)) at part
    (λ e. other (subst (λ (p : ℕ). Holds o by p t) e may.held))
keyless_words o t by (Lock q expected) may place row none other part =
    rw (ne_eqb q place
    (keyed_apart o t q place may.keyed none))
    refl
keyless_words o t by (StoreValue q value) may place row none other part =
    rw (ne_eqb q place
    (keyed_apart o t q place may.2 none))
    refl
keyless_words o t by (Unlock q removed change stored) may place row none other part =
    rw (ne_eqb q place
    (keyed_apart o t q place (_, may.1.keyed) none))
    refl
keyless_words o t by (LinkRow group lane q change zero next) may place row none other part = refl
keyless_words o t by (LinkRow group lane q change (suc n) next) may place row none other part =
    rw (ne_eqb (suc n) place
    (⊎_elim (λ (z : suc n ≡ 0). absurd (omega (arith, z)))
    (λ (z : (k : ℕ) × (role o (suc n) t ≡ InBuffer group k) × HasLane o group lane k t).
    keyed_apart o t (suc n) place (z.0, ap role_key z.1) none) may.behind))
    refl
keyless_words o t by (StoreArray group q at value) may place row none other part =
    rw (ne_eqb q place
    (array_apart o group q place may.in_array row))
    refl
keyless_words o t by (StoreRedirect group q k to) may place row none other part =
    rw (ne_eqb q place
    (array_apart o group q place may.in_array row))
    refl
keyless_words o t by (Install (NextOf left) first low high) may place row none other part = refl
keyless_words o t by (Install (FirstSlot root_part side) first low high) may place row none other part = refl
keyless_words o t by (Close q expected) may place row none other part =
    let old = may.old in
    rw (ne_eqb q place
    (keyed_apart o t q place (in_group_keyed o t old.0 old.1 q old.2) none))
    refl
keyless_words o t by (Copy q value) may place row none other part =
    rw (ne_eqb q place
    (keyed_apart o t q place may.keyed none))
    refl
keyless_words o t by (StoreDirect q from k removed stored) may place row none other part =
    rw (ne_eqb q place
    (keyed_apart o t q place (k, ap role_key may.here) none))
    refl
keyless_words o t by (StoreMoved q) may place row none other part =
    rw (ne_eqb q place
    (keyed_apart o t q place may.keyed none))
    refl
keyless_words o t by action may place row none other part = refl
