-- The records of a table at rest: each key has in the map what it has at its row, or else at its place in the array.
--
-- The fact to remember: a place in an array has no value once its key has a row.
use Rattle.std.proofs.Common.{◌≡◌, ◌≢◌, ◌⊎◌, inl, inr, ⊎_elim, ℕ, ◌<◌, Option, Some, None}
use Rattle.std.proofs.Common.{true, false, [], ◌∷◌, length, slice_index, refl, sym, ap, ◌∙◌, subst}
use Rattle.index_machine.specs.declared.events.Action.TheVariants.{LinkRow}
use Rattle.index_machine.specs.declared.opening.Opening.{Opening}
use Rattle.index_machine.specs.Conditions.{Valid}
use Rattle.index_machine.specs.Execution.{Execution}
use Rattle.index_machine.specs.Forms.{Blank, Copied, Form, Locked, Moved, Redirect, Unlocked, is_removed, live_value}
use Rattle.index_machine.specs.KeyRanges.{group_of}
use Rattle.index_machine.specs.LivePlaces.{live_place, value_in_map}
use Rattle.index_machine.specs.OpeningRows.{opening_group}
use Rattle.index_machine.specs.Permissions.{IsBufferFor}
use Rattle.index_machine.specs.Places.{form}
use Rattle.index_machine.specs.Rows.{InArray, InBuffer, role, role_key}
use Rattle.index_machine.proofs.OpeningRows.{opening_role-array, opening_role-buffer}
use Rattle.index_machine.proofs.Options.{none_some}
use Rattle.machine_arrays.specs.Arrays.{array_keys}
use Rattle.machine_arrays.proofs.Keys.{list_whole}
use Rattle.machine_barriers.proofs.Reaches.{may_as}
use Rattle.machine_buffers.proofs.LinkingRows.{all_listed}
use Rattle.machine_buffers.proofs.NextRows.{none_unless}
use Rattle.machine_places.specs.Agreement.{HasLiveValue}
use Rattle.machine_places.proofs.FromOpening.{agreement, live_places, one_live_place}
use Rattle.machine_readers.proofs.FormsMet.{not_blank}
use Rattle.machine_readers.proofs.FromOpening.{array_tombstones, value_read}
use Rattle.machine_readers.proofs.Roles.{IsLinkOf, row_back}
use Rattle.resting_table.specs.NoRebuild.{HasNoRebuild}
use Rattle.resting_table.specs.NoRebuildLaws.{IsInPlace}
use Rattle.resting_table.proofs.NoRebuildLaws.{arrays_as_opened, in_place, one_place_each, rows_in_group}
use Rattle.resting_table.specs.Reading.{HasRow}

-- the value at a place, if it has one
abbrev pub value_of : Opening → Execution → ℕ → Option ℕ
value_of o t place = live_value (form o place t)

-- ---- forms ----

-- a record in its own place without a value is a tombstone
tombstone : (f : Form) → IsInPlace f → f ≢ Blank → live_value f ≡ None → is_removed f ≡ true
tombstone Blank is some none = absurd (some refl)
tombstone (Unlocked v true x) is some none = refl
tombstone (Unlocked v false x) is some none = none_some (sym none)
tombstone (Locked c v true x y) is some none = refl
tombstone (Locked c v false x y) is some none = none_some (sym none)
tombstone (Copied v r x) is some none = absurd is
tombstone (Redirect p y) is some none = absurd is
tombstone Moved is some none = absurd is

removed_none : (f : Form) → IsInPlace f → is_removed f ≡ true → live_value f ≡ None
removed_none Blank is removed = refl
removed_none (Unlocked v true x) is removed = refl
removed_none (Unlocked v false x) is removed = absurd cc
removed_none (Locked c v true x y) is removed = refl
removed_none (Locked c v false x y) is removed = absurd cc
removed_none (Copied v r x) is removed = absurd is
removed_none (Redirect p y) is removed = absurd is
removed_none Moved is removed = absurd is

-- ---- a key with a place in an array and a row ----

-- where the key has no live place, its place in an array is a tombstone
not_live_removed : (o : Opening) (t : Execution) (place k g : ℕ) → Valid o t → HasNoRebuild t →
    role o place t ≡ InArray g k → live_place o k t ≡ None → is_removed (form o place t) ≡ true
not_live_removed o t place k g valid none_rebuilt at none =
    tombstone (form o place t) (in_place o t none_rebuilt place)
    (not_blank o t valid place k (ap role_key at))
    (none_unless (live_value (form o place t))
    (λ x e. none_some (sym none ∙ one_live_place o t valid place k x (ap role_key at) e)))

-- a place in an array is a tombstone once its key has a row
removed_behind : (o : Opening) (t : Execution) (place row k g h : ℕ) → Valid o t → HasNoRebuild t →
    role o place t ≡ InArray g k → role o row t ≡ InBuffer h k → is_removed (form o place t) ≡ true
removed_behind o [] place row k g h valid none_rebuilt at there = absurd (opening_role-buffer o row h k there)
removed_behind o (e ∷ t) place row k g h valid none_rebuilt at there =
    let first = (arrays_as_opened o (e ∷ t) valid none_rebuilt g k place).1 at in
    let before = (arrays_as_opened o t valid.1 none_rebuilt.1 g k place).0 first in
    array_tombstones o t e.by e.action place g k valid.0 before
    (⊎_elim
    (λ (z : role o row t ≡ InBuffer h k).
    removed_behind o t place row k g h valid.1 none_rebuilt.1 before z)
    (λ (z : IsLinkOf h row k e.action).
    let may = may_as o t e.by e.action (LinkRow h z.lane row z.change z.before z.next) z.is valid.0 in
    not_live_removed o t place k g valid.1 none_rebuilt.1 before
    (subst (λ (j : ℕ). live_place o j t ≡ None) z.key may.not_live_elsewhere))
    (row_back o t e.by e.action row h k there))

module _ (o : Opening) (t : Execution) (valid : Valid o t) (none_rebuilt : HasNoRebuild t) where
  -- ---- rows and places of a group ----

  -- the key has a place in the group's array
  pub record IsInArray (group k : ℕ) : Type 0 where
    pub index : ℕ
    pub below : index < length (array_keys o group t)
    pub is : slice_index (array_keys o group t) index ≡ k

  pub row_group : (place g k : ℕ) → role o place t ≡ InBuffer g k → g ≡ opening_group o k
  row_group place g k at = rows_in_group o t valid none_rebuilt place g k at

  pub array_group : (place g k : ℕ) → role o place t ≡ InArray g k → g ≡ opening_group o k
  array_group place g k at =
      (opening_role-array o place g k ((arrays_as_opened o t valid none_rebuilt g k place).1 at)).0

  in_array : (place g k : ℕ) → role o place t ≡ InArray g k → IsInArray g k
  in_array place g k at =
      let whole = (list_whole o t valid g).whole k place at in
      record { index = whole.0; below = whole.1; is = whole.3 }

  -- ---- values ----

  -- a place in an array has no value where its key has a row
  pub value_behind : (place row k g h : ℕ) → role o place t ≡ InArray g k → role o row t ≡ InBuffer h k →
      value_of o t place ≡ None
  value_behind place row k g h at there =
      removed_none (form o place t) (in_place o t none_rebuilt place)
      (removed_behind o t place row k g h valid none_rebuilt at there)

  -- a key has in the map what it has at a place, unless its live place is another
  same_value : (place k : ℕ) → role_key (role o place t) ≡ Some k →
      ((other x : ℕ) → live_place o k t ≡ Some other → value_of o t other ≡ Some x → place ≡ other) →
      value_in_map o k t ≡ value_of o t place
  same_value place k has only = go (value_of o t place) refl
    where
      absent : (x : Option ℕ) → live_place o k t ≡ x → HasLiveValue o t k x → value_of o t place ≡ None →
          value_in_map o k t ≡ None
      absent None e live none = live
      absent (Some other) e live none =
          let same = only other live.0 e live.1 in
          none_some (sym none ∙ (ap (value_of o t) same ∙ live.1))

      go : (x : Option ℕ) → value_of o t place ≡ x → value_in_map o k t ≡ value_of o t place
      go None e = absent (live_place o k t) refl (agreement o t valid k) e ∙ sym e
      go (Some x) e = value_read o t valid place k x has e ∙ sym e

  -- a live place is one of the array or of the buffer of its key's group
  pub live_where : (k place : ℕ) → live_place o k t ≡ Some place →
      (role o place t ≡ InArray (opening_group o k) k) ⊎ (role o place t ≡ InBuffer (opening_group o k) k)
  live_where k place live =
      ⊎_elim
      (λ (z : role o place t ≡ InArray (group_of o k t) k).
      inl (z ∙ ap (λ (g : ℕ). InArray g k) (array_group place (group_of o k t) k z)))
      (λ z. ⊎_elim
      (λ (y : (new : ℕ) × (value : ℕ) × (role o new t ≡ InArray (group_of o k t) k)
      × (form o new t ≡ Redirect place value)).
      absurd (subst IsInPlace y.3 (in_place o t none_rebuilt y.0)))
      (λ (y : (g : ℕ) × (role o place t ≡ InBuffer g k) × IsBufferFor o k g t).
      inr (y.1 ∙ ap (λ (g : ℕ). InBuffer g k) (row_group place y.0 k y.1))) z)
      (live_places o t valid k place live)

  -- a key has in the map what it has at its row
  pub row_value : (place k g : ℕ) → role o place t ≡ InBuffer g k →
      value_in_map o k t ≡ value_of o t place
  row_value place k g at =
      same_value place k (ap role_key at)
      (λ other x live has. ⊎_elim
      (λ (z : role o other t ≡ InArray (opening_group o k) k).
      none_some (sym (value_behind other place k (opening_group o k) g z at) ∙ has))
      (λ (z : role o other t ≡ InBuffer (opening_group o k) k).
      (one_place_each o t valid none_rebuilt k place other g (opening_group o k)).1 at z)
      (live_where k other live))

  -- and where it has no row, what it has at its place in the array
  pub array_value : (place k g : ℕ) → role o place t ≡ InArray g k → (HasRow g k t → ⊥) →
      value_in_map o k t ≡ value_of o t place
  array_value place k g at none =
      same_value place k (ap role_key at)
      (λ other x live has. ⊎_elim
      (λ (z : role o other t ≡ InArray (opening_group o k) k).
      (one_place_each o t valid none_rebuilt k place other g (opening_group o k)).0 at z)
      (λ (z : role o other t ≡ InBuffer (opening_group o k) k).
      absurd (none (
        other,
        all_listed o t valid g k other
            (z ∙ ap (λ (h : ℕ). InBuffer h k) (sym (array_group place g k at))),
      )))
      (live_where k other live))

  -- a key of the map has a row in its group, or a place in the array there
  pub there : (k x : ℕ) → value_in_map o k t ≡ Some x →
      HasRow (opening_group o k) k t ⊎ IsInArray (opening_group o k) k
  there k x is = go (live_place o k t) refl (agreement o t valid k)
    where
      go : (p : Option ℕ) → live_place o k t ≡ p → HasLiveValue o t k p →
          HasRow (opening_group o k) k t ⊎ IsInArray (opening_group o k) k
      go None e live = none_some (sym live ∙ is)
      go (Some place) e live =
          ⊎_elim
          (λ (z : role o place t ≡ InArray (opening_group o k) k).
          inr (in_array place (opening_group o k) k z))
          (λ (z : role o place t ≡ InBuffer (opening_group o k) k).
          inl (place, all_listed o t valid (opening_group o k) k place z))
          (live_where k place e)
