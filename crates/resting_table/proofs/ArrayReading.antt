-- Reading the records of an array at rest, by the words.
use Rattle.std.proofs.Common.{◌≡◌, inr, ℕ, ◌+◌, ◌<◌, ◌≤◌, true, Option, ◌++◌, List, length, slice_index, sym}
use Rattle.std.proofs.Common.{ap, ◌∙◌, subst, arith}
use mathlib.Core.Logic.{dite}
use native.Mathlib.Decide.{ℕ_discrete}
use Rattle.map_model.specs.Map.{Map}
use Rattle.word_layout.specs.declared.layout.Layout.{Layout}
use Rattle.word_layout.specs.Addresses.{array_address}
use Rattle.word_layout.specs.Layout.{shape_of}
use Rattle.word_layout.specs.Places.{IsArrayPlace}
use Rattle.index_machine.specs.declared.opening.Opening.{Opening}
use Rattle.index_machine.specs.Execution.{Execution}
use Rattle.index_machine.specs.OpeningRows.{is_in_opening_chain}
use Rattle.index_machine.specs.Rows.{role_key}
use Rattle.index_machine.specs.Words.{shape}
use Rattle.machine_arrays.specs.Arrays.{array_keys}
use Rattle.machine_buffers.specs.Lanes.{IsBefore}
use Rattle.resting_table.specs.Reading.{HasRead, HoldsRecord, pair_if}
use Rattle.resting_table.specs.Resting.{LeaveAtRest, place_count}
use Rattle.resting_table.proofs.GroupRecords.{array_on, behind_end}
use Rattle.resting_table.proofs.RecordCounts.{read_fits}
use Rattle.resting_table.proofs.RestingGroups.{array_role, rising}
use Rattle.resting_table.proofs.RestingRecords.{value_of}
use Rattle.resting_table.proofs.RestingWords.{exists, record_holds}

module _ (l : Layout) (ws : List ℕ) (o : Opening) (t : Execution) (rest : LeaveAtRest l ws o t) (group : ℕ)
    (chained : is_in_opening_chain o group ≡ true) where
  abbrev key : ℕ → ℕ
  key i = slice_index (array_keys o group t) i

  -- no more pairs were read than the table has places
  pub fits : (end : Option ℕ) (index : ℕ) (pairs : Map) → HasRead o t group end index pairs →
      length pairs ≤ place_count (shape_of l)
  fits end index pairs r =
      let few = read_fits o t rest.valid rest.none_rebuilt group index end pairs r in
      subst (λ (z : Layout). length pairs ≤ place_count (shape_of z)) rest.layout few

  module _ (index place : ℕ) (lt : index < length (array_keys o group t))
      (at : place ≡ array_address (shape_of l) group index)
      (array : IsArrayPlace (shape_of l) group place) where
    place_is : place ≡ array_address (shape o) group index
    place_is = at ∙ ap (λ (z : Layout). array_address (shape_of z) group index) (sym rest.layout)

    -- the words of a place are those of the record of its key
    pub holds : HoldsRecord ws place (key index) (value_of o t place)
    holds =
        record_holds l ws o t rest place (key index)
        (ap role_key (array_role o t rest.valid rest.none_rebuilt group chained index place lt place_is))
        (inr (
          group,
          exists l ws o t rest group chained,
          subst (λ (z : Layout). IsArrayPlace (shape_of z) group place) (sym rest.layout) array,
        ))

    -- a record whose key is before the end is read
    pub reads_on : (end : Option ℕ) (pairs : Map) → HasRead o t group end index pairs →
        IsBefore (slice_index ws place) end →
        HasRead o t group end (index + 1) (pairs ++ pair_if (key index) (value_of o t place))
    reads_on end pairs r before =
        array_on o t rest.valid rest.none_rebuilt group chained end index place pairs r lt
        (subst (λ (k : ℕ). IsBefore k end) holds.key before) place_is

    -- where its key is not, nor is that of a later one
    pub none_before : (end : Option ℕ) → (IsBefore (slice_index ws place) end → ⊥) → (i : ℕ) → index ≤ i →
        i < length (array_keys o group t) → IsBefore (key i) end → ⊥
    none_before end not i le below before =
        dite (ℕ_discrete index i)
        (λ (same : index ≡ i).
        not (subst (λ (k : ℕ). IsBefore k end) (ap key (sym same) ∙ sym holds.key) before))
        (λ (other : index ≡ i → ⊥).
        let up = rising o t rest.valid rest.none_rebuilt group chained index i (omega arith) below in
        let first : IsBefore (key index) end → ⊥ =
        λ (z : IsBefore (key index) end). not (subst (λ (k : ℕ). IsBefore k end) (sym holds.key) z)
        in
        let less = behind_end (key i) (key index) end before first in
        omega arith)
