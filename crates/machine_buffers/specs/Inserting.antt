-- What a caller that did not find a key may conclude: the key was not in the map as the link was loaded
-- that decided, and may be inserted as long as it has no row.
use Rattle.std.specs.Prelude.{◌≡◌, ◌⊎◌, ℕ, true, Some, None, ◌++◌}
use Rattle.map_model.specs.Map.{look}
use Rattle.word_layout.specs.declared.phase.Phase.TheVariants.{Opened}
use Rattle.index_machine.specs.declared.opening.Opening.{Opening}
use Rattle.index_machine.specs.Execution.{Execution}
use Rattle.index_machine.specs.Sections.{IsCaller, StaysInside}
use Rattle.index_machine.specs.Groups.{phase, rebuild}
use Rattle.index_machine.specs.KeyRanges.{group_of}
use Rattle.index_machine.specs.LivePlaces.{live_place}
use Rattle.index_machine.specs.Permissions.{IsBufferFor, IsUnopened}
use Rattle.index_machine.specs.Reaching.{saw_open, saw_opened, stands_in}
use Rattle.index_machine.specs.Conditions.{Valid}
use Rattle.machine_readers.specs.Buffers.{rows}
use Rattle.machine_readers.specs.Readers.{ArrayHasNone, BufferHasNone, IsAbsent}
use Rattle.machine_readers.specs.Redirects.{IsBehind}

-- the array of the group gets no new places: it answers for a key, or was opened to a rebuild
abbrev pub HasFinalArray : Opening → ℕ → Execution → Type 0
HasFinalArray o group t =
    ((k : ℕ) × (group_of o k t ≡ group)) ⊎ ((first : ℕ) × (phase group t ≡ Opened first))

-- the key belongs in the buffer of the group, and has no value anywhere
abbrev pub IsNewKeyFor : Opening → ℕ → ℕ → Execution → Type 0
IsNewKeyFor o k group t = IsBufferFor o k group t × (live_place o k t ≡ None)

-- ---- the laws, over all executions ----

-- a key that has no value in a final array has none there while a caller stands in the group
abbrev pub ArraysWithoutValueStay : Type 0
ArraysWithoutValueStay =
    (o : Opening) (caller group k : ℕ) → IsCaller o caller → (newer t : Execution) →
    Valid o (newer ++ t) → StaysInside caller newer → stands_in caller group t ≡ true →
    HasFinalArray o group t → ArrayHasNone o t group k → ArrayHasNone o (newer ++ t) group k

-- nor one that it does not have in the buffer of an opened group
abbrev pub OpenedBuffersWithoutValueStay : Type 0
OpenedBuffersWithoutValueStay =
    (o : Opening) (caller group first k : ℕ) → IsCaller o caller → (newer t : Execution) →
    Valid o (newer ++ t) → StaysInside caller newer → stands_in caller group t ≡ true →
    phase group t ≡ Opened first → BufferHasNone o t group k →
    BufferHasNone o (newer ++ t) group k

-- a caller that saw its group open, and found no value in the array, may link at each moment of its
-- read section at which the key has no row
abbrev pub MayLinkWhereSeenOpen : Type 0
MayLinkWhereSeenOpen =
    (o : Opening) (caller group k : ℕ) → IsCaller o caller → (later newer t : Execution) →
    Valid o (later ++ (newer ++ t)) → StaysInside caller newer → StaysInside caller later →
    stands_in caller group t ≡ true → group_of o k t ≡ group →
    ArrayHasNone o (newer ++ t) group k →
    saw_open caller group (later ++ (newer ++ t)) ≡ true →
    look (rows group (later ++ (newer ++ t))) k ≡ None →
    IsNewKeyFor o k group (later ++ (newer ++ t))

-- so may one that saw it opened, and found no value in it, in the buffer of the new group
abbrev pub MayLinkBehindOpened : Type 0
MayLinkBehindOpened =
    (o : Opening) (caller old first new k : ℕ) → IsCaller o caller →
    (newer t : Execution) → Valid o (newer ++ t) → StaysInside caller newer →
    stands_in caller old t ≡ true → phase old t ≡ Opened first →
    saw_opened caller first t ≡ true → rebuild new t ≡ Some first →
    IsBehind o t old first new k → ArrayHasNone o t old k → BufferHasNone o t old k →
    look (rows new (newer ++ t)) k ≡ None → IsNewKeyFor o k new (newer ++ t)

-- where the array of the key's group has no value for it, and the key has no row at a later moment of the
-- read section, the key is not in the map then, unless the group was opened by that moment
abbrev pub GapsAreAbsent : Type 0
GapsAreAbsent =
    (o : Opening) (caller group k : ℕ) → IsCaller o caller → (newer t : Execution) →
    Valid o (newer ++ t) → StaysInside caller newer → stands_in caller group t ≡ true →
    group_of o k t ≡ group → ArrayHasNone o t group k → IsUnopened group (newer ++ t) →
    look (rows group (newer ++ t)) k ≡ None → IsAbsent o k (newer ++ t)

-- so it is where the old group was opened, has no value for the key, and the new one has no row for it
abbrev pub GapsBehindAreAbsent : Type 0
GapsBehindAreAbsent =
    (o : Opening) (caller old first new k : ℕ) → IsCaller o caller →
    (newer t : Execution) → Valid o (newer ++ t) → StaysInside caller newer →
    stands_in caller old t ≡ true → phase old t ≡ Opened first →
    saw_opened caller first t ≡ true → rebuild new t ≡ Some first →
    IsBehind o t old first new k → ArrayHasNone o t old k → BufferHasNone o t old k →
    IsUnopened new (newer ++ t) → look (rows new (newer ++ t)) k ≡ None →
    IsAbsent o k (newer ++ t)
