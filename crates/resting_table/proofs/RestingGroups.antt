-- A group of the chain at rest: its lanes are those that it was opened with, and its keys are those of its share.
use Rattle.std.proofs.Common.{◌≡◌, inl, ℕ, ◌<◌, Bool, cond, [], ◌∷◌, length, slice_index, refl, sym, ap, ◌∙◌}
use Rattle.std.proofs.Common.{true, arith}
use Rattle.std.proofs.lemmas.List.Kept.{AllPairs-from_increasing}
use Rattle.rebuild_plan.specs.Plan.{lane_count}
use Rattle.word_layout.specs.declared.headers.HeaderWord.{HeaderWord}
use Rattle.word_layout.specs.declared.headers.HeaderWord.TheVariants as header
use Rattle.word_layout.specs.Addresses.{array_address}
use Rattle.index_machine.specs.declared.events.Action.{Action}
use Rattle.index_machine.specs.declared.events.Action.TheVariants.{NewGroup}
use Rattle.index_machine.specs.declared.opening.Opening.{Opening}
use Rattle.index_machine.specs.Conditions.{Valid}
use Rattle.index_machine.specs.Execution.{Execution}
use Rattle.index_machine.specs.KeyRanges.{group_of}
use Rattle.index_machine.specs.Lanes.{begun_after, begun_word, cut, lanes}
use Rattle.index_machine.specs.OpeningRows.{is_in_opening_chain, opening_group, opening_keys, opening_pivot}
use Rattle.index_machine.specs.Rows.{InArray, InBuffer, role}
use Rattle.index_machine.specs.Words.{shape}
use Rattle.index_machine.proofs.OpeningGroups.{opening_pivot-group}
use Rattle.machine_arrays.specs.Arrays.{array_keys}
use Rattle.machine_arrays.proofs.Keys.{list_rises, list_whole}
use Rattle.machine_buffers.specs.Walks.{IsWalkable}
use Rattle.machine_buffers.proofs.OpenedLanes.{opened_cut-is}
use Rattle.machine_buffers.proofs.Walks.{of_keys}
use Rattle.resting_table.specs.NoRebuild.{HasNoRebuild, IsNoRebuild}
use Rattle.resting_table.proofs.NoRebuildLaws.{groups_as_opened}
use Rattle.resting_table.specs.Reading.{HasRow}
use Rattle.resting_table.proofs.RestingRecords.{array_group, row_group}

-- ---- what headers were begun with ----

none_begun : (g now : ℕ) (d : Action) (w : ℕ) → IsNoRebuild d → begun_after g now d w ≡ w
none_begun g now (NewGroup h low high first) w is = absurd is
none_begun g now d w is = refl

-- what a header was begun with is what it held at the opening
pub as_opened : (o : Opening) (g : ℕ) (which : HeaderWord) (t : Execution) → HasNoRebuild t →
    begun_word o g which t ≡ begun_word o g which []
as_opened o g which [] none_rebuilt = refl
as_opened o g which (e ∷ t) none_rebuilt =
    none_begun g _ e.action (begun_word o g which t) none_rebuilt.0 ∙ as_opened o g which t none_rebuilt.1

module _ (o : Opening) (t : Execution) (valid : Valid o t) (none_rebuilt : HasNoRebuild t) (group : ℕ)
    (chained : is_in_opening_chain o group ≡ true) where
  -- the group answers for its pivot
  pub pivot_is : group_of o (opening_pivot o group) t ≡ group
  pivot_is =
      ((groups_as_opened o t none_rebuilt).0 (opening_pivot o group)).0 ∙ (opening_pivot-group o group chained).1

  -- so its buffer is walkable
  pub walkable : IsWalkable o group t
  walkable = of_keys o t valid group (inl (opening_pivot o group, pivot_is))

  -- ---- lanes ----

  some_lane : lanes o group t ≡ lane_count (length (opening_keys o group))
  some_lane =
      as_opened o group header.Lanes t none_rebuilt
      ∙ ap (λ (w : Bool). cond w (lane_count (length (opening_keys o group))) 0) chained

  pub has_lane : 0 < lanes o group t
  has_lane = let is = some_lane in omega arith

  -- the first one begins at the pivot
  pub first_cut : cut o group 0 t ≡ opening_pivot o group
  first_cut =
      as_opened o group (header.Cut 0) t none_rebuilt ∙ opened_cut-is o group 0 chained (omega arith)

  -- ---- keys ----

  -- a row of the group has a key of the group
  pub row_role : (k : ℕ) → (has : HasRow group k t) → role o has.0 t ≡ InBuffer group k
  row_role k has = walkable.standing k has.0 has.1

  pub row_key : (k : ℕ) → HasRow group k t → opening_group o k ≡ group
  row_key k has = sym (row_group o t valid none_rebuilt has.0 group k (row_role k has))

  -- and so has each place of its array
  pub array_role : (i place : ℕ) → i < length (array_keys o group t) →
      place ≡ array_address (shape o) group i →
      role o place t ≡ InArray group (slice_index (array_keys o group t) i)
  array_role i place lt at =
      ap (λ (p : ℕ). role o p t) at ∙ (list_whole o t valid group).stands i lt

  pub array_key : (i : ℕ) → i < length (array_keys o group t) →
      opening_group o (slice_index (array_keys o group t) i) ≡ group
  array_key i lt =
      let place : ℕ = array_address (shape o) group i in
      sym (array_group o t valid none_rebuilt place group (slice_index (array_keys o group t) i)
      (array_role i place lt refl))

  -- the keys of the array rise
  pub rising : (i j : ℕ) → i < j → j < length (array_keys o group t) →
      slice_index (array_keys o group t) i < slice_index (array_keys o group t) j
  rising i j less lt =
      AllPairs-from_increasing (array_keys o group t) (list_rises o t valid group) i j 0 less lt
