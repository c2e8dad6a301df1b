-- A key that a caller did not find in its groups is not in the map, at every stage of a rebuild.
--
-- The fact to remember: an array without a value for the key has none to the end of the read section, and
-- so has the buffer of an opened group.
use Rattle.std.proofs.Common.{◌≡◌, ℕ, inr, ⊎_elim, true, None, [], ◌∷◌, ◌++◌}
use Rattle.std.proofs.Common.{subst}
use Rattle.map_model.specs.Map.{look}
use Rattle.word_layout.specs.declared.phase.Phase.TheVariants.{Opened}
use Rattle.index_machine.specs.declared.opening.Opening.{Opening}
use Rattle.index_machine.specs.declared.events.Action.TheVariants.{LinkRow}
use Rattle.index_machine.specs.Conditions.{Valid}
use Rattle.index_machine.specs.Execution.{Execution}
use Rattle.index_machine.specs.Groups.{phase}
use Rattle.index_machine.specs.LivePlaces.{value_in_map}
use Rattle.index_machine.specs.Permissions.{IsUnopened}
use Rattle.index_machine.specs.Places.{form}
use Rattle.index_machine.specs.Forms.{Redirect, is_removed}
use Rattle.index_machine.specs.Reaching.{saw_opened, stands_in}
use Rattle.index_machine.specs.Rows.{InArray, InBuffer, role}
use Rattle.index_machine.specs.Sections.{IsCaller, StaysInside}
use Rattle.index_machine.proofs.Executions.{valid_before}
use Rattle.machine_barriers.proofs.OpenedGroups.{opened_groups_hold}
use Rattle.machine_barriers.proofs.Reaches.{may_as}
use Rattle.machine_readers.proofs.FromOpening.{buffer_tombstones, gaps, not_found, one_place_each, without_value}
use Rattle.machine_readers.proofs.FormsMet.{rows_stay}
use Rattle.machine_readers.proofs.ReadSections.{opened_step, stands_in_on}
use Rattle.machine_readers.proofs.Roles.{IsLinkOf, row_back}
use Rattle.machine_readers.specs.Buffers.{rows}
use Rattle.machine_readers.specs.Readers.{ArrayHasNone, BufferHasNone}
use Rattle.machine_readers.specs.Redirects.{HasNoValue}
use Rattle.machine_chain.specs.Walks.{AnswersFor, AnswersForNew}
use Rattle.machine_chain.proofs.NewWalks.{new_behind}
use Rattle.machine_chain.proofs.Walking.{answers_while, while_unopened}
use Rattle.machine_arrays.proofs.Sizes.{while_standing}
use Rattle.index_rule.specs.Elsewhere.{HasNoneBehindOpened}
use Rattle.index_rule.proofs.Elsewhere.{lives_nowhere, not_in_map}

-- ---- in one group ----

-- an array without a value for the key has none to the end of the read section of a caller that stands there
pub array_none_on : (o : Opening) (c g k : ℕ) → IsCaller o c → (n t : Execution) → Valid o (n ++ t) →
    StaysInside c n → stands_in c g t ≡ true → AnswersFor o k g t → ArrayHasNone o t g k →
    ArrayHasNone o (n ++ t) g k
array_none_on o c g k is [] t valid stay s a none place array = none place array
array_none_on o c g k is (e ∷ n) t valid stay s a none place array =
    let u = n ++ t in
    let there = stands_in_on c g n t stay.1 s in
    let answers = answers_while o c g k is n t valid.1 stay.1 s a in
    let same = while_standing o c g k is (e ∷ []) u valid (stay.0, tt) there answers in
    let was : role o place u ≡ InArray g k = same.none_new k place array in
    without_value o u e.by e.action place g k valid.1 valid.0 was
    (array_none_on o c g k is n t valid.1 stay.1 s a none place was)

-- a group that is not opened as a caller stands there was not opened before
unopened_before : (o : Opening) (c g : ℕ) → IsCaller o c → (n t : Execution) → Valid o (n ++ t) →
    StaysInside c n → stands_in c g t ≡ true → IsUnopened g (n ++ t) → IsUnopened g t
unopened_before o c g is [] t valid stay s un = un
unopened_before o c g is (e ∷ n) t valid stay s un =
    unopened_before o c g is n t valid.1 stay.1 s (λ f z.
    un f (opened_step o (n ++ t) e.by e.action c g f valid.0 is
    (stands_in_on c g n t stay.1 s) z))

-- where the array and the buffer of the group had no value for the key, and the group was not opened by a later
-- moment of the read section, the key was not in the map
pub absent_unopened : (o : Opening) (c g k : ℕ) → IsCaller o c → (n t : Execution) →
    Valid o (n ++ t) → StaysInside c n → stands_in c g t ≡ true → AnswersFor o k g t →
    IsUnopened g (n ++ t) → ArrayHasNone o t g k → BufferHasNone o t g k → value_in_map o k t ≡ None
absent_unopened o c g k is n t valid stay s a un array rows =
    (not_found o t (valid_before o n t valid) k g (while_unopened o c g k is n t valid stay s a un)
    (unopened_before o c g is n t valid stay s un) array rows).1

-- ---- what one place says of a group ----

-- where one place of the array has the key, it alone says whether the array has a value
pub array_of_one : (o : Opening) (t : Execution) (g k place : ℕ) → Valid o t →
    role o place t ≡ InArray g k → HasNoValue o t place → ArrayHasNone o t g k
array_of_one o t g k place valid here none other there =
    subst (HasNoValue o t) ((one_place_each o t valid).arrays place other g k here there) none

-- a row without a value is a tombstone
pub stone_of_row : (o : Opening) (t : Execution) (g k place : ℕ) → Valid o t →
    role o place t ≡ InBuffer g k → HasNoValue o t place → is_removed (form o place t) ≡ true
stone_of_row o t g k place valid row none =
    ⊎_elim (λ (z : is_removed (form o place t) ≡ true). z)
    (λ (z : (q : ℕ) × (y : ℕ) × (form o place t ≡ Redirect q y) × (is_removed (form o q t) ≡ true)).
    absurd (rows_stay o t valid place g k z.0 z.1 row z.2)) none

-- likewise of the rows of a buffer
pub buffer_of_one : (o : Opening) (t : Execution) (g k place : ℕ) → Valid o t →
    role o place t ≡ InBuffer g k → HasNoValue o t place → BufferHasNone o t g k
buffer_of_one o t g k place valid row none other there =
    subst (λ (z : ℕ). is_removed (form o z t) ≡ true)
    ((one_place_each o t valid).rows place other g k row there)
    (stone_of_row o t g k place valid row none)

-- a buffer without a row of the key has no value for it
pub buffer_without : (o : Opening) (t : Execution) (g k : ℕ) → Valid o t → look (rows g t) k ≡ None →
    BufferHasNone o t g k
buffer_without o t g k valid gap p row = absurd (gaps o t valid g k gap p row)

-- ---- behind an opened group ----

-- nobody may insert into a group that is opened, so its buffer goes on without a value for the key
pub buffer_none_on : (o : Opening) (c g f k : ℕ) → IsCaller o c → (n t : Execution) → Valid o (n ++ t) →
    StaysInside c n → stands_in c g t ≡ true → phase g t ≡ Opened f → BufferHasNone o t g k →
    BufferHasNone o (n ++ t) g k
buffer_none_on o c g f k is [] t valid stay s at none p row = none p row
buffer_none_on o c g f k is (e ∷ n) t valid stay s at none p row =
    let u = n ++ t in
    let opened = opened_on o c g f is n t valid.1 stay.1 s at in
    ⊎_elim
    (λ (was : role o p u ≡ InBuffer g k).
    buffer_tombstones o u e.by e.action p g k valid.0
    (λ other caller permission. (opened_groups_hold o u valid.1).closed other g caller permission f opened)
    was (buffer_none_on o c g f k is n t valid.1 stay.1 s at none p was))
    (λ (new : IsLinkOf g p k e.action).
    let link = may_as o u e.by e.action (LinkRow g new.lane p new.change new.before new.next)
    new.is valid.0 in
    absurd ((opened_groups_hold o u valid.1).closed e.by g link.caller link.permission f opened))
    (row_back o u e.by e.action p g k row)
  where
    opened_on : (o : Opening) (c g f : ℕ) → IsCaller o c → (n t : Execution) → Valid o (n ++ t) →
        StaysInside c n → stands_in c g t ≡ true → phase g t ≡ Opened f → phase g (n ++ t) ≡ Opened f
    opened_on o c g f is [] t valid stay s at = at
    opened_on o c g f is (e ∷ n) t valid stay s at =
        opened_step o (n ++ t) e.by e.action c g f valid.0 is (stands_in_on c g n t stay.1 s)
        (opened_on o c g f is n t valid.1 stay.1 s at)

-- a caller of an opened group that came to the key's new group knows that the key has no value elsewhere than in
-- the new group's buffer
pub none_behind : (o : Opening) (c g f h k : ℕ) → IsCaller o c → (t : Execution) → Valid o t →
    stands_in c g t ≡ true → phase g t ≡ Opened f → saw_opened c f t ≡ true → AnswersForNew o g k h t →
    ArrayHasNone o t g k → BufferHasNone o t g k → HasNoneBehindOpened o c k h t
none_behind o c g f h k is t valid s at saw a array buffer =
    let behind = new_behind o t valid c g f k h is s at a in
    record {
      old = g;
      first = f;
      stands = s;
      opened = at;
      seen = saw;
      made = behind.1;
      behind = behind.0;
      array = array;
      buffer = buffer;
    }

-- where the new group's buffer has none either, the key is not in the map
pub absent_behind : (o : Opening) (c h k : ℕ) → IsCaller o c → (t : Execution) → Valid o t →
    HasNoneBehindOpened o c k h t → BufferHasNone o t h k → value_in_map o k t ≡ None
absent_behind o c h k is t valid behind rows =
    not_in_map o t k valid (lives_nowhere o c k h t is valid (inr behind) rows).1
