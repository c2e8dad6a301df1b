-- The free stack is the list that is linked from the head, through the words.
--
-- The fact to remember: a head that is not 0 is the place of a free row (top_free).
use Rattle.std.proofs.Common.{◌≡◌, ◌≢◌, inl, inr, Bool, true, false, cond, ℕ, zero, suc, ◌+◌, List}
use Rattle.std.proofs.Common.{[], ◌∷◌, refl, sym, ap, ◌∙◌, subst, arith, eq-eqb, ne_eqb}
use Rattle.std.specs.Prelude.{◌==◌, ◌&&◌}
use mathlib.Core.Logic.{dite}
use native.Mathlib.Decide.{ℕ_discrete}
use Rattle.word_layout.specs.declared.places.Part.{Part}
use Rattle.word_layout.specs.declared.places.Part.TheVariants.{Key, Value, State, Link}
use Rattle.word_layout.specs.declared.state.State.TheVariants as state
use Rattle.word_layout.specs.State.{word_of_state}
use Rattle.word_layout.specs.Addresses.{row_address}
use Rattle.word_layout.specs.Places.{IsRow, FitsPart, rows_from}
use Rattle.word_layout.specs.Words.{Word, FreeHead, PlaceWord}
use Rattle.word_layout.proofs.RowPlaces.{next_row-inner, next_row-last, next_row-fits}
use Rattle.index_machine.specs.declared.events.Action.{Action}
use Rattle.index_machine.specs.declared.events.Action.TheVariants.{PopFree, StorePrivate, PushFree}
use Rattle.index_machine.specs.declared.events.Action.TheVariants.{Lock, StoreValue, Unlock}
use Rattle.index_machine.specs.declared.events.Action.TheVariants.{LinkRow}
use Rattle.index_machine.specs.declared.events.Action.TheVariants.{StoreArray, StoreRedirect}
use Rattle.index_machine.specs.declared.events.Action.TheVariants.{Install}
use Rattle.index_machine.specs.declared.events.Action.TheVariants.{Close, Copy, StoreDirect}
use Rattle.index_machine.specs.declared.events.Action.TheVariants.{StoreMoved}
use Rattle.index_machine.specs.declared.events.InstallWord.TheVariants.{NextOf, FirstSlot}
use Rattle.index_machine.specs.declared.opening.Opening.{Opening}
use Rattle.index_machine.specs.Execution.{Execution, event}
use Rattle.index_machine.specs.Lists.{In}
use Rattle.index_machine.specs.Words.{shape, limits, word}
use Rattle.index_machine.specs.Rows.{Unused, role, role_key, below_top, free_stack}
use Rattle.index_machine.specs.Conditions.{Allowed, Valid}
use Rattle.index_machine.specs.RowLaws.{Chain, IsLinked}
use Rattle.index_machine.proofs.OpeningRows.{array_not_row}
use Rattle.index_machine.proofs.Placing.{placed, unused-held}
use Rattle.index_machine.proofs.Stores.{store_apart, keyless_words}

-- a private store leaves the words of every other row
pub private_apart : (o : Opening) (t : Execution) (by stored : ℕ) (at : Part) (value place : ℕ)
    (part : Part) → stored ≢ place →
    word o (event by (StorePrivate stored at value) ∷ t) (PlaceWord place part)
    ≡ word o t (PlaceWord place part)
private_apart o t by stored at value place part differ = rw (ne_eqb stored place differ) refl

-- ---- chains ----

-- a chain stays where the links of its rows stay
chain_same : (before after : Word → ℕ) (n : ℕ) (rows : List ℕ) →
    ((place : ℕ) → In place rows →
    after (PlaceWord place Link) ≡ before (PlaceWord place Link)) →
    Chain before n rows → Chain after n rows
chain_same before after n [] same chain = chain
chain_same before after n (place ∷ rest) same chain = (
  chain.0,
  chain_same before after (after (PlaceWord place Link)) rest (λ p h. same p (inr h))
      (subst (λ (z : ℕ). Chain before z rest) (sym (same place (inl refl))) chain.1),
)

chain_from : (o : Opening) (i n : ℕ) → i + suc n ≡ (limits o).records →
    Chain (word o []) (word o [] (PlaceWord (row_address (shape o) i) Link))
    (rows_from (shape o) (i + 1) n)
chain_from o i zero whole = next_row-last (shape o) i (omega arith)
chain_from o i (suc n) whole =
    (next_row-inner (shape o) i (omega arith), chain_from o (i + 1) n (omega arith))

-- at the opening: all rows in their order
chain_first : (o : Opening) (n : ℕ) → n ≡ (limits o).records →
    Chain (word o []) (word o [] FreeHead) (rows_from (shape o) 0 n)
chain_first o zero whole = let some = o.layout.kept.least_records in absurd (omega arith)
chain_first o (suc n) whole = (refl, chain_from o 0 n (omega arith))

linked_pop : (o : Opening) (t : Execution) (by popped next : ℕ) →
    Allowed o t by (PopFree popped next) → IsLinked o t →
    IsLinked o (event by (PopFree popped next) ∷ t)
linked_pop o t by popped next may chain =
    let later : Execution = event by (PopFree popped next) ∷ t in
    let rest : List ℕ = may.2.rest in
    let is : free_stack o t ≡ popped ∷ rest = may.2.top in
    let whole : Chain (word o t) (word o t FreeHead) (popped ∷ rest) =
    subst (Chain (word o t) (word o t FreeHead)) is chain
    in
    let from_next : Chain (word o t) next rest =
    subst (λ (n : ℕ). Chain (word o t) n rest) may.2.link whole.1
    in
    subst (Chain (word o later) next) (ap below_top (sym is))
    (chain_same (word o t) (word o later) next rest (λ p h. refl) from_next)

linked_push : (o : Opening) (t : Execution) (by pushed head : ℕ) →
    Allowed o t by (PushFree pushed head) → IsLinked o t →
    IsLinked o (event by (PushFree pushed head) ∷ t)
linked_push o t by pushed head may chain =
    let later : Execution = event by (PushFree pushed head) ∷ t in
    let link : word o t (PlaceWord pushed Link) ≡ word o t FreeHead =
    may.link ∙ sym may.head_word
    in (
      refl,
      chain_same (word o t) (word o later) (word o t (PlaceWord pushed Link)) (free_stack o t)
          (λ p h. refl)
          (subst (λ (n : ℕ). Chain (word o t) n (free_stack o t)) (sym link) chain),
    )

-- an action that leaves the head and the stack leaves the links of the free rows
links_same : (o : Opening) (t : Execution) (by : ℕ) (action : Action) → Valid o t →
    Allowed o t by action → word o (event by action ∷ t) FreeHead ≡ word o t FreeHead →
    free_stack o (event by action ∷ t) ≡ free_stack o t → IsLinked o t →
    IsLinked o (event by action ∷ t)
links_same o t by action valid may head stack chain =
    let later : Execution = event by action ∷ t in
    subst (λ (n : ℕ). Chain (word o later) n (free_stack o later)) (sym head)
    (subst (Chain (word o later) (word o t FreeHead)) (sym stack)
    (chain_same (word o t) (word o later) (word o t FreeHead) (free_stack o t)
    (λ p h.
    let free = (placed o t valid).free p h in
    keyless_words o t by action may p free.1 (ap role_key free.0)
    (λ mine. unused-held (sym free.0 ∙ mine)) Link)
    chain))

linked_step : (o : Opening) (t : Execution) (by : ℕ) (action : Action) → Valid o t →
    Allowed o t by action → IsLinked o t → IsLinked o (event by action ∷ t)
linked_step o t by (PopFree popped next) valid may chain =
    linked_pop o t by popped next may chain
linked_step o t by (PushFree pushed head) valid may chain =
    linked_push o t by pushed head may chain
linked_step o t by (LinkRow group lane q change zero next) valid may chain =
    links_same o t by (LinkRow group lane q change zero next) valid may refl refl chain
linked_step o t by (LinkRow group lane q change (suc n) next) valid may chain =
    links_same o t by (LinkRow group lane q change (suc n) next) valid may refl refl chain
linked_step o t by (Install (NextOf left) first low high) valid may chain =
    links_same o t by (Install (NextOf left) first low high) valid may refl refl chain
linked_step o t by (Install (FirstSlot part side) first low high) valid may chain =
    links_same o t by (Install (FirstSlot part side) first low high) valid may refl refl chain
linked_step o t by action valid may chain =
    links_same o t by action valid may refl refl chain

pub linked : (o : Opening) (t : Execution) → Valid o t → IsLinked o t
linked o [] valid = chain_first o (limits o).records refl
linked o (e ∷ t) valid = linked_step o t e.by e.action valid.1 valid.0 (linked o t valid.1)

-- ---- the top of the free stack ----

chain_top : (holds : Word → ℕ) (n : ℕ) (rows : List ℕ) → Chain holds n rows → n ≢ 0 →
    (rest : List ℕ) × (rows ≡ n ∷ rest)
chain_top holds n [] chain some = absurd (some chain)
chain_top holds n (place ∷ rest) chain some = (rest, ap (λ (z : ℕ). z ∷ rest) (sym chain.0))

pub top : (o : Opening) (t : Execution) → Valid o t → word o t FreeHead ≢ 0 →
    (rest : List ℕ) × (free_stack o t ≡ word o t FreeHead ∷ rest)
top o t valid some =
    chain_top (word o t) (word o t FreeHead) (free_stack o t) (linked o t valid) some

-- what the head names is a free row
pub top_free : (o : Opening) (t : Execution) → Valid o t → word o t FreeHead ≢ 0 →
    (role o (word o t FreeHead) t ≡ Unused) × IsRow (shape o) (word o t FreeHead)
top_free o t valid some =
    (placed o t valid).free (word o t FreeHead)
    (subst (In (word o t FreeHead)) (sym (top o t valid some).1) (inl refl))

-- ---- links name rows ----

-- a private store in the row itself: a link fits, and another part leaves the link
stored_fits : (o : Opening) (t : Execution) (by : ℕ) (part : Part) (value place : ℕ) →
    FitsPart (shape o) part value →
    FitsPart (shape o) Link (word o t (PlaceWord place Link)) →
    FitsPart (shape o) Link
    (word o (event by (StorePrivate place part value) ∷ t) (PlaceWord place Link))
stored_fits o t by Key value place fits old = rw (eq-eqb place place refl) old
stored_fits o t by Value value place fits old = rw (eq-eqb place place refl) old
stored_fits o t by State value place fits old = rw (eq-eqb place place refl) old
stored_fits o t by Link value place fits old = rw (eq-eqb place place refl) fits

-- a store in another part of a place leaves its link
other_part : (b : Bool) (value n : ℕ) → cond (b && false) value n ≡ n
other_part true value n = refl
other_part false value n = refl

-- a store that fits leaves a link that fits
fits_if : (o : Opening) (b : Bool) (value n : ℕ) → FitsPart (shape o) Link value →
    FitsPart (shape o) Link n → FitsPart (shape o) Link (cond b value n)
fits_if o true value n new old = new
fits_if o false value n new old = old

links_step : (o : Opening) (t : Execution) (by : ℕ) (action : Action) → Valid o t →
    Allowed o t by action → (place : ℕ) → IsRow (shape o) place →
    FitsPart (shape o) Link (word o t (PlaceWord place Link)) →
    FitsPart (shape o) Link (word o (event by action ∷ t) (PlaceWord place Link))
links_step o t by (StorePrivate stored part value) valid may place row old =
    dite (ℕ_discrete stored place)
    (λ (same : stored ≡ place).
    subst
    (λ (p : ℕ). FitsPart (shape o) Link
    (word o (event by (StorePrivate p part value) ∷ t) (PlaceWord place Link)))
    (sym same) (stored_fits o t by part value place may.fits old))
    (λ (differ : stored ≢ place).
    subst (FitsPart (shape o) Link)
    (sym (private_apart o t by stored part value place Link differ)) old)
links_step o t by (Lock q expected) valid may place row old =
    subst (FitsPart (shape o) Link)
    (sym (other_part (q == place) (expected + 4) (word o t (PlaceWord place Link)))) old
links_step o t by (StoreValue q value) valid may place row old =
    subst (FitsPart (shape o) Link)
    (sym (other_part (q == place) value (word o t (PlaceWord place Link)))) old
links_step o t by (Unlock q removed change stored) valid may place row old =
    subst (FitsPart (shape o) Link)
    (sym (other_part (q == place) stored (word o t (PlaceWord place Link)))) old
links_step o t by (LinkRow group lane q change zero next) valid may place row old = old
links_step o t by (LinkRow group lane q change (suc n) next) valid may place row old =
    fits_if o ((suc n == place) && true) q (word o t (PlaceWord place Link))
    (inr ((placed o t valid).held by q may.mine).0) old
links_step o t by (StoreArray group q part value) valid may place row old =
    subst (FitsPart (shape o) Link)
    (sym (store_apart q place value (word o t (PlaceWord place Link)) part Link
    (λ e. array_not_row (shape o) group q may.in_array.group_exists may.in_array.in_array
    (subst (IsRow (shape o)) (sym e) row)))) old
links_step o t by (StoreRedirect group q k to) valid may place row old =
    subst (FitsPart (shape o) Link)
    (sym (other_part (q == place) (word_of_state (state.Redirect to))
    (word o t (PlaceWord place Link)))) old
links_step o t by (Install (NextOf left) first low high) valid may place row old = old
links_step o t by (Install (FirstSlot part side) first low high) valid may place row old = old
links_step o t by (Close q expected) valid may place row old =
    subst (FitsPart (shape o) Link)
    (sym (other_part (q == place) (expected + 4) (word o t (PlaceWord place Link)))) old
links_step o t by (Copy q value) valid may place row old =
    subst (FitsPart (shape o) Link)
    (sym (other_part (q == place) value (word o t (PlaceWord place Link)))) old
links_step o t by (StoreDirect q from k removed stored) valid may place row old =
    subst (FitsPart (shape o) Link)
    (sym (other_part (q == place) stored (word o t (PlaceWord place Link)))) old
links_step o t by (StoreMoved q) valid may place row old =
    subst (FitsPart (shape o) Link)
    (sym (other_part (q == place) (word_of_state state.Moved)
    (word o t (PlaceWord place Link)))) old
links_step o t by action valid may place row old = old

pub links_fit : (o : Opening) (t : Execution) → Valid o t → (place : ℕ) → IsRow (shape o) place →
    FitsPart (shape o) Link (word o t (PlaceWord place Link))
links_fit o [] valid place row = next_row-fits (shape o) place row
links_fit o (e ∷ t) valid place row =
    links_step o t e.by e.action valid.1 valid.0 place row (links_fit o t valid.1 place row)
