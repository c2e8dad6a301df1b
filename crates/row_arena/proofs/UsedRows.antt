-- Where no record row is free, each one is in a hand or came into a buffer by a change.
use Rattle.std.proofs.Common.{⊎_elim, le-leb, ◌≡◌, ◌≢◌, ◌⊎◌, inl, inr, ℕ, ◌+◌, ◌<◌, ◌≤◌, Bool, true, false, cond}
use Rattle.std.proofs.Common.{List, [], ◌∷◌, ◌++◌, refl, sym, ap, ◌∙◌, subst, arith}
use Rattle.std.proofs.lemmas.Bool.{cases_lt}
use Rattle.map_model.specs.History.{History, after, inserts, is_inserting}
use Rattle.map_model.specs.Map.{Map}
use Rattle.map_model.specs.declared.entries.Change.{Change}
use Rattle.word_layout.specs.Places.{IsRow}
use Rattle.word_layout.specs.Words.{FreeHead}
use Rattle.index_machine.specs.declared.events.Action.{Action}
use Rattle.index_machine.specs.declared.events.Action.TheVariants.{LinkRow, Unlock}
use Rattle.index_machine.specs.declared.opening.Opening.{Opening}
use Rattle.index_machine.specs.Conditions.{Valid}
use Rattle.index_machine.specs.Execution.{Execution}
use Rattle.index_machine.specs.Lists.{In}
use Rattle.index_machine.specs.LivePlaces.{history, history_after}
use Rattle.index_machine.specs.Openings.{opening_map}
use Rattle.index_machine.specs.RowLaws.{Chain}
use Rattle.index_machine.specs.Rows.{HeldBy, InArray, InBuffer, Role, Unused, free_stack}
use Rattle.index_machine.specs.Rows.{role}
use Rattle.index_machine.specs.Words.{shape, limits, word}
use Rattle.index_machine.proofs.Linking.{linked}
use Rattle.index_machine.proofs.OpeningRows.{array_not_row}
use Rattle.index_machine.proofs.Placing.{placed, rows-distinct}
use Rattle.machine_places.specs.RowCounts.{all_rows, is_linked_or_retired}
use Rattle.machine_places.proofs.RowCounts.{linked_rows}
use Rattle.index_rule.proofs.HeldRows.{rows-length}
use Rattle.row_arena.specs.Fullness.{UsedUpRowsStaySo, NoFreeRowMeansUsedUp}
use Rattle.row_arena.proofs.RowCounting.{all_counted, below_fewer}

-- ---- whose each row is ----

-- the number of the hand that holds a row with this role, and that of the first keeper where none does
abbrev holder : ℕ → Role → ℕ
holder keeper Unused = keeper
holder keeper (HeldBy hand) = hand
holder keeper (InArray group k) = keeper
holder keeper (InBuffer group k) = keeper

holder_holds : (keeper hand : ℕ) (r : Role) → hand < keeper → holder keeper r ≡ hand →
    r ≡ HeldBy hand
holder_holds keeper hand Unused low e = absurd (omega arith)
holder_holds keeper hand (HeldBy h) low e = ap HeldBy e
holder_holds keeper hand (InArray group k) low e = absurd (omega arith)
holder_holds keeper hand (InBuffer group k) low e = absurd (omega arith)

-- a row in a hand is a keeper's or a caller's
held_counted : (keeper hand : ℕ) →
    (is_linked_or_retired keeper (HeldBy hand) ≡ true) ⊎ (hand < keeper)
held_counted keeper hand =
    ⊎_elim (λ (caller : hand < keeper). inr caller)
    (λ (is : keeper ≤ hand). inl (le-leb keeper hand is)) (cases_lt hand keeper)

module _ (o : Opening) (t : Execution) (valid : Valid o t) where
  -- the role of a row that is not free
  counted_as : (place : ℕ) (r : Role) → role o place t ≡ r → IsRow (shape o) place → r ≢ Unused →
      (is_linked_or_retired (limits o).callers r ≡ true)
      ⊎ (holder (limits o).callers r < (limits o).callers)
  counted_as place Unused e row used = absurd (used refl)
  counted_as place (HeldBy hand) e row used =
      held_counted (limits o).callers hand
  counted_as place (InArray group k) e row used =
      let array = (placed o t valid).arrayed group k place e in
      absurd (array_not_row (shape o) group place array.group_exists array.in_array row)
  counted_as place (InBuffer group k) e row used = inl refl

  -- ---- the free stack ----

  -- the stack is empty where its head is 0, which is the place of no row
  stack_empty : (rows : List ℕ) → free_stack o t ≡ rows → word o t FreeHead ≡ 0 →
      (place : ℕ) → In place rows → ⊥
  stack_empty [] is head place i = i
  stack_empty (first ∷ rest) is head place i =
      let chain = subst (λ (s : List ℕ). Chain (word o t) (word o t FreeHead) s) is (linked o t valid) in
      let at : first ≡ 0 = sym chain.0 ∙ head in
      let row = ((placed o t valid).free first
      (subst (λ (s : List ℕ). In first s) (sym is) (inl refl))).1 in
      let low = row.0 in
      absurd (omega arith)

  none_free : word o t FreeHead ≡ 0 → (place : ℕ) → IsRow (shape o) place →
      role o place t ≢ Unused
  none_free head place row e =
      stack_empty (free_stack o t) refl head place ((placed o t valid).all place row e)

-- ---- the count ----

pub no_free_row : NoFreeRowMeansUsedUp
no_free_row o t caller valid is_caller head none =
    let keeper : ℕ = (limits o).callers in
    let f : ℕ → ℕ = λ place. holder keeper (role o place t) in
    let distinct = rows-distinct (shape o) 0 (limits o).records in
    let all = rows-length (shape o) 0 (limits o).records in
    let counted = all_counted f (λ place. is_linked_or_retired keeper (role o place t)) keeper
    (all_rows o)
    (λ place i.
    let row = ((placed o [] tt).free place i).1 in
    counted_as o t valid place (role o place t) refl row (none_free o t valid head place row)) in
    let fewer = below_fewer f keeper caller (all_rows o) distinct is_caller
    (λ place e. none place (holder_holds keeper caller (role o place t) is_caller e))
    (λ hand low place other e w. (placed o t valid).one hand place other low
    (holder_holds keeper hand (role o place t) low e)
    (holder_holds keeper hand (role o other t) low w)) in
    let inserted = linked_rows o t valid in
    omega arith

-- ---- inserting changes are never undone ----

inserts_grow : (m : Map) (d : Change) (h : History) → inserts m h ≤ inserts m (d ∷ h)
inserts_grow m d h = go (is_inserting (after m h) d)
  where
    go : (b : Bool) → inserts m h ≤ cond b (inserts m h + 1) (inserts m h)
    go true = omega arith
    go false = omega arith

inserts_after : (m : Map) (d : Action) (h : History) → inserts m h ≤ inserts m (history_after d h)
inserts_after m (Unlock place removed change stored) h = inserts_grow m change h
inserts_after m (LinkRow group lane place change before next) h = inserts_grow m change h
inserts_after m d h = omega arith

pub used_up_stay : UsedUpRowsStaySo
used_up_stay o [] t used = used
used_up_stay o (e ∷ newer) t used =
    let before = used_up_stay o newer t used in
    let more = inserts_after (opening_map o) e.action (history (newer ++ t)) in
    omega arith
