-- The conditions of the actions on groups and on the roots, and of copying.
--
-- The fact to remember: a keeper changes the groups, the slots and the root of its own part alone.
use Rattle.std.specs.Prelude.{◌≡◌, ◌≢◌, ◌⊎◌, ℕ, ◌+◌, ◌<◌, ◌≤◌, Bool, true, Some}
use Rattle.std.specs.Prelude.{List, [], ◌∷◌, length}
use Rattle.line_window.specs.Line.{error_of}
use Rattle.word_layout.specs.declared.headers.HeaderWord.{HeaderWord}
use Rattle.word_layout.specs.declared.headers.HeaderWord.TheVariants as header
use Rattle.word_layout.specs.declared.places.Part.TheVariants as part
use Rattle.word_layout.specs.declared.phase.Phase.TheVariants.{Open, Frozen, Opened}
use Rattle.word_layout.specs.Addresses.{array_address}
use Rattle.word_layout.specs.Headers.{IsHeaderWord}
use Rattle.word_layout.specs.Root.{word_of_root}
use Rattle.word_layout.specs.Shape.{group_total}
use Rattle.word_layout.specs.Phase.{word_of_phase}
use Rattle.word_layout.specs.Words.{Root, SlotPivot, SlotGroup, Header, PlaceWord}
use Rattle.index_machine.specs.declared.events.InstallWord.{InstallWord}
use Rattle.index_machine.specs.declared.events.InstallWord.TheVariants.{NextOf, FirstSlot}
use Rattle.index_machine.specs.declared.opening.Opening.{Opening}
use Rattle.index_machine.specs.Execution.{Execution}
use Rattle.index_machine.specs.Words.{limits, shape, word}
use Rattle.index_machine.specs.Lanes.{HasNewLanes}
use Rattle.index_machine.specs.Sections.{IsCaller, IsReading}
use Rattle.index_machine.specs.Keepers.{IsPart, part_of, IsKeyIn, first_key, last_key, IsPartKeeper}
use Rattle.index_machine.specs.Keepers.{IsGroupKeeper, IsArrayPlaceOf}
use Rattle.index_machine.specs.Rows.{Unused, InArray, InBuffer, role_key, role}
use Rattle.index_machine.specs.Forms.{Unlocked, Locked, Copied, Redirect, IsUnlocked}
use Rattle.index_machine.specs.Forms.{IsLockedBy, state_word}
use Rattle.index_machine.specs.Places.{first_version, form, IsInGroup}
use Rattle.index_machine.specs.Groups.{phase, rebuild, slot, root, IsInUse}
use Rattle.index_machine.specs.KeyRanges.{group_of, successor}
use Rattle.index_machine.specs.Openings.{within}
use Rattle.index_machine.specs.LivePlaces.{live_place}
use Rattle.index_machine.specs.Reaching.{SeesSlot, reached}
use Rattle.index_machine.specs.Permissions.{MayInsertInto, IsClosedToInserts, IsGone, AreGone}
use Rattle.index_machine.specs.Permissions.{IsReplaced, IsReachable}
use Rattle.index_machine.specs.RecordConditions.{MayWalk, HasKey, KeepsPlace}

-- ---- loads of a group ----

-- the hand may load this header word
pub record MayLoadHeader (o : Opening) (hand group : ℕ) (which : HeaderWord) (found : ℕ)
    (t : Execution) : Type 0 where
  pub allowed : MayWalk o hand group t
  pub found_word : word o t (Header group which) ≡ found

-- the hand may load this next word: it names no group, or one to which the caller may go
pub record MayLoadNext (o : Opening) (hand group found : ℕ) (t : Execution) : Type 0 where
  pub allowed : MayWalk o hand group t
  pub found_word : word o t (Header group header.Next) ≡ found
  pub says : IsCaller o hand → (next : ℕ) → found ≡ next + 1 → IsReachable o hand next t

-- the hand may load this phase word
pub record MayLoadPhase (o : Opening) (hand group found : ℕ) (t : Execution) : Type 0 where
  pub allowed : MayWalk o hand group t
  pub found_word : word o t (Header group header.Phase) ≡ found
  pub says : word_of_phase (phase group t) ≡ found

-- ---- freezing and opening ----

-- the keeper may freeze a group of the chain that is open
pub record MayFreeze (o : Opening) (hand group : ℕ) (t : Execution) : Type 0 where
  pub keeper : IsGroupKeeper o hand group
  pub exists : group < group_total (shape o)
  pub was : phase group t ≡ Open
  pub chained : (k : ℕ) × (group_of o k t ≡ group)

-- the keeper may open a frozen group again
pub record MayThaw (o : Opening) (hand group : ℕ) (t : Execution) : Type 0 where
  pub keeper : IsGroupKeeper o hand group
  pub was : phase group t ≡ Frozen

-- the header word is one that is known only once the array is written
abbrev pub IsLateHeader : HeaderWord → Type 0
IsLateHeader header.Size = Unit {0}
IsLateHeader header.LineError = Unit {0}
IsLateHeader _ = ⊥

-- if the group was opened to a rebuild, all groups that were are gone, so none leads to it
abbrev pub IsSettled : Opening → ℕ → Execution → Type 0
IsSettled o group t = (f : ℕ) → phase group t ≡ Opened f → AreGone o f t

-- the keeper may store this header word of a group that is in no key range: any word of a row that
-- is filled for a new group, and the size and the error of a new group
pub record MayFillHeader (o : Opening) (t : Execution) (hand group : ℕ) (which : HeaderWord)
    : Type 0 where
  pub keeper : IsGroupKeeper o hand group
  pub exists : group < group_total (shape o)
  pub is_word : IsHeaderWord which
  pub unowned : (k : ℕ) → group_of o k t ≢ group
  pub stage :
      (IsGone o group t × IsSettled o group t × ((k : ℕ) → successor k t ≢ Some group))
      ⊎ ((phase group t ≡ Open) × IsLateHeader which)

-- the keeper may begin a group anew
pub record MayBegin (o : Opening) (t : Execution) (hand group low high first : ℕ)
    : Type 0 where
  pub keeper : IsGroupKeeper o hand group
  pub exists : group < group_total (shape o)
  pub ordered : low ≤ high
  -- its keys are of its part
  pub in_part : IsKeyIn o (part_of o group) low × IsKeyIn o (part_of o group) high
  -- the rebuild is of its part
  pub first_in_part : part_of o first ≡ part_of o group
  pub gone : IsGone o group t
  pub settled : IsSettled o group t
  -- the words of a new group: it is open, and its lanes are empty and cut within its keys
  pub phase_word : word o t (Header group header.Phase) ≡ word_of_phase Open
  pub new_lanes : HasNewLanes o group low high t
  pub closed : (b : ℕ) → IsCaller o b → MayInsertInto b group t → ⊥
  pub no_row : (p k : ℕ) → role o p t ≢ InBuffer group k
  pub not_live : (k p j : ℕ) → live_place o k t ≡ Some p → role o p t ≢ InArray group j
  pub no_target : (a p y j : ℕ) → form o a t ≡ Redirect p y → role o p t ≢ InArray group j
  pub unreached : (b p j : ℕ) → IsCaller o b → reached b p t ≡ true →
      role o p t ≢ InArray group j
  -- no rebuild is under way in the part: none would lose a new group, or the words that lead to it
  pub idle : (k f : ℕ) → IsKeyIn o (part_of o group) k → phase (group_of o k t) t ≢ Opened f
  -- what was opened to a rebuild of this name is gone, and no redirect leads there
  pub replaced : AreGone o group t
  pub no_old_target : (a p y g k : ℕ) → form o a t ≡ Redirect p y → phase g t ≡ Opened group →
      IsInGroup o t g k p → ⊥

-- the keeper may store a word of an array place that is nobody's, in a group that is in no key
-- range
pub record MayFillArray (o : Opening) (t : Execution) (hand group place : ℕ) : Type 0 where
  pub keeper : IsGroupKeeper o hand group
  pub in_array : IsArrayPlaceOf o group place
  pub unused : role o place t ≡ Unused
  pub unowned : (k : ℕ) → group_of o k t ≢ group

-- the keeper may write a redirect to a place of the key's old group
pub record MayRedirect (o : Opening) (t : Execution) (hand group a k p : ℕ) : Type 0 where
  pub keeper : IsGroupKeeper o hand group
  pub in_array : IsArrayPlaceOf o group a
  pub unused : role o a t ≡ Unused
  pub unowned : (j : ℕ) → group_of o j t ≢ group
  pub is_open : phase group t ≡ Open
  pub opened : (f : ℕ) × (phase (group_of o k t) t ≡ Opened f)
  pub alone : (b : ℕ) → role o b t ≢ InArray group k
  -- the new place is in the group that is to answer for the key, behind smaller keys alone
  pub belongs : successor k t ≡ Some group
  pub index : ℕ
  pub at : a ≡ array_address (shape o) group index
  pub filled : (i : ℕ) → i < index →
      (j : ℕ) × (role o (array_address (shape o) group i) t ≡ InArray group j) × (j < k)
  -- the place is of the key's old group, and the record stands there
  pub source : IsInGroup o t (group_of o k t) k p
  pub direct : (q y : ℕ) → form o p t ≢ Redirect q y
  pub key_word : word o t (PlaceWord a part.Key) ≡ k
  pub value_word : word o t (PlaceWord a part.Value) ≡ 0

-- where the new group changes from one key to the next, the one leads to the other, which has this
-- key for its pivot
abbrev pub AreChained : Opening → ℕ → Execution → Type 0
AreChained o first t =
    (k g h : ℕ) → rebuild g t ≡ Some first → rebuild h t ≡ Some first → successor k t ≡ Some g →
    successor (k + 1) t ≡ Some h → g ≢ h →
    (word o t (Header g header.Next) ≡ h + 1) × (word o t (Header h header.Pivot) ≡ k + 1)

-- the key has a new group that this rebuild made
abbrev pub HasNewGroup : ℕ → ℕ → Execution → Type 0
HasNewGroup first k t = (h : ℕ) × (successor k t ≡ Some h) × (rebuild h t ≡ Some first)

-- the first new group has its pivot, and from there up to this key each has a new group
abbrev pub IsBehindFirst : Opening → ℕ → ℕ → Execution → Type 0
IsBehindFirst o first k t =
    (word o t (Header first header.Pivot) ≤ k)
    × (successor (word o t (Header first header.Pivot)) t ≡ Some first)
    × ((j : ℕ) → word o t (Header first header.Pivot) ≤ j → j ≤ k → HasNewGroup first j t)

-- the next word of a group of this part with this last key: none at the part's end, or else that of the next key's
-- group
abbrev pub IsNextWord : Opening → Execution → ℕ → ℕ → ℕ → Type 0
IsNextWord o t part high n =
    ((high ≡ last_key o part) × (n ≡ 0))
    ⊎ ((high < last_key o part) × (n ≡ group_of o (high + 1) t + 1))

-- the keeper may open a frozen group to the rebuild with this name
pub record MayOpen (o : Opening) (t : Execution) (hand group f : ℕ) : Type 0 where
  pub keeper : IsGroupKeeper o hand group
  pub frozen : phase group t ≡ Frozen
  pub closed : IsClosedToInserts o group t
  pub named : rebuild f t ≡ Some f
  pub fresh : (h : ℕ) → rebuild h t ≡ Some f → phase h t ≡ Open
  pub unchained : (k h : ℕ) → rebuild h t ≡ Some f → group_of o k t ≢ h
  pub planned : (k : ℕ) → group_of o k t ≡ group → HasNewGroup f k t
  -- the new groups are met from the first on, and the last leads to the group behind them
  pub behind : (k : ℕ) → group_of o k t ≡ group → IsBehindFirst o f k t
  pub chained : AreChained o f t
  pub ends : (k h : ℕ) → successor k t ≡ Some h → rebuild h t ≡ Some f →
      (HasNewGroup f (k + 1) t → ⊥) →
      IsNextWord o t (part_of o group) k (word o t (Header h header.Next))
  -- the other groups opened to it are still in the chain
  pub siblings : (j : ℕ) → phase j t ≡ Opened f → (k : ℕ) × (group_of o k t ≡ j)
  -- of other rebuilds of the part nothing is left
  pub only : (g e : ℕ) → part_of o g ≡ part_of o group → phase g t ≡ Opened e →
      (e ≡ f) ⊎ IsGone o g t
  -- of the rebuild that made this group nothing is left
  pub past : (h e : ℕ) → phase h t ≡ Opened e → rebuild group t ≡ Some e → IsGone o h t

-- ---- installing ----

-- the part whose chain the word belongs to
abbrev pub part_of_spot : Opening → InstallWord → ℕ
part_of_spot o (NextOf left) = part_of o left
part_of_spot o (FirstSlot part side) = part

-- the word that is stored leads to the new groups: the next of the group whose key range ends before
-- theirs begins, or the first slot in use where theirs begins at the least key of the part
abbrev pub IsInstallWord : Opening → Execution → ℕ → InstallWord → Type 0
IsInstallWord o t low (NextOf left) = (k : ℕ) × (low ≡ k + 1) × (group_of o k t ≡ left)
IsInstallWord o t low (FirstSlot part side) =
    (low ≡ first_key o part) × IsInUse (root o part t) side 0

-- the array of the group, from the place with this index on, has these keys and no more
abbrev pub HasKeysFrom : Opening → ℕ → ℕ → List ℕ → Execution → Type 0
HasKeysFrom o group i [] t = (k : ℕ) → role o (array_address (shape o) group i) t ≢ InArray group k
HasKeysFrom o group i (k ∷ keys) t =
    (role o (array_address (shape o) group i) t ≡ InArray group k)
    × HasKeysFrom o group (i + 1) keys t

-- the group's words for its size and for the error of its line are those of the keys of its array
pub record IsSized (o : Opening) (group : ℕ) (t : Execution) : Type 0 where
  pub keys : List ℕ
  pub array : HasKeysFrom o group 0 keys t
  pub size : word o t (Header group header.Size) ≡ length keys
  pub error : word o t (Header group header.LineError) ≡ error_of keys

-- the keeper may take the new groups into the chain
pub record MayInstall (o : Opening) (t : Execution) (hand : ℕ) (spot : InstallWord)
    (lead low high : ℕ) : Type 0 where
  pub keeper : IsPartKeeper o hand (part_of_spot o spot)
  -- the keys are of the part whose chain the word belongs to
  pub in_part : IsKeyIn o (part_of_spot o spot) low × IsKeyIn o (part_of_spot o spot) high
  pub leads : IsInstallWord o t low spot
  -- the group named first has the first of these keys
  pub first : (within low low high ≡ true) × (successor low t ≡ Some lead)
  pub named : rebuild lead t ≡ Some lead
  pub starts : word o t (Header lead header.Pivot) ≡ low
  -- and the last one leads to the group behind them, if there is one
  pub ends : (h : ℕ) → successor high t ≡ Some h →
      IsNextWord o t (part_of_spot o spot) high (word o t (Header h header.Next))
  -- whole groups are replaced
  pub whole : (j k : ℕ) → group_of o j t ≡ group_of o k t → within low j high ≡ within low k high
  pub opened : (k : ℕ) → within low k high ≡ true →
      (f : ℕ) × (h : ℕ) × (phase (group_of o k t) t ≡ Opened f) × (successor k t ≡ Some h)
      × (rebuild h t ≡ Some f) × (phase h t ≡ Open)
  -- all groups that were opened to a rebuild, and all that it made, at once
  pub all_old : (j k f : ℕ) → within low j high ≡ true → phase (group_of o j t) t ≡ Opened f →
      phase (group_of o k t) t ≡ Opened f → within low k high ≡ true
  pub all_new : (j k f g h : ℕ) → within low j high ≡ true → successor j t ≡ Some g →
      rebuild g t ≡ Some f → successor k t ≡ Some h → rebuild h t ≡ Some f →
      within low k high ≡ true
  pub sized : (k h : ℕ) → within low k high ≡ true → successor k t ≡ Some h → IsSized o h t
  -- each live place that stands in what goes has its redirect
  pub merged : (k h p : ℕ) → within low k high ≡ true → successor k t ≡ Some h →
      live_place o k t ≡ Some p →
      (role o p t ≡ InBuffer h k)
      ⊎ ((a : ℕ) × (y : ℕ) × (role o a t ≡ InArray h k) × (form o a t ≡ Redirect p y))

-- the keeper may store the group of a slot in use of its part
pub record MayStoreSlot (o : Opening) (t : Execution) (hand part side i group : ℕ) : Type 0 where
  pub keeper : IsPartKeeper o hand part
  pub in_use : IsInUse (root o part t) side i
  pub chained : (k : ℕ) × IsKeyIn o part k × (group_of o k t ≡ group)
      × (k ≤ word o t (SlotPivot part side i))

-- ---- copying ----

-- the keeper may lock an old place
pub record MayClose (o : Opening) (t : Execution) (hand place expected : ℕ) : Type 0 where
  pub keeper : KeepsPlace o t hand place
  pub unlocked : IsUnlocked (form o place t)
  pub old : (group : ℕ) × (k : ℕ) × IsInGroup o t group k place × IsReplaced o group t
  pub found_word : state_word (form o place t) ≡ expected

-- the keeper may store the value of a new place, whose old place it holds locked
pub record MayCopy (o : Opening) (t : Execution) (hand a : ℕ) : Type 0 where
  pub keeper : KeepsPlace o t hand a
  pub place : ℕ
  pub value : ℕ
  pub keyed : HasKey o a t
  pub forwards : form o a t ≡ Redirect place value
  pub holds : IsLockedBy hand (form o place t)

-- the keeper may store the new place's own state: both places have one value, and nobody walks an
-- old group any more
pub record MayDirect (o : Opening) (t : Execution) (hand a p k : ℕ) (r : Bool) (stored : ℕ)
    : Type 0 where
  pub keeper : KeepsPlace o t hand a
  pub version : ℕ
  pub value : ℕ
  pub forwards : form o a t ≡ Redirect p value
  pub holds : form o p t ≡ Locked hand version r value value
  pub here : role o a t ≡ InArray (group_of o k t) k
  pub there : role_key (role o p t) ≡ Some k
  pub old : (g : ℕ) × IsInGroup o t g k p × IsGone o g t × IsReplaced o g t
  pub stored_word : stored ≡ state_word (Unlocked (first_version o) r value)

-- the keeper may mark an old place whose record was copied
pub record MayMove (o : Opening) (t : Execution) (hand place : ℕ) : Type 0 where
  pub keeper : KeepsPlace o t hand place
  pub keyed : HasKey o place t
  pub version : ℕ
  pub removed : Bool
  pub value : ℕ
  pub copied : form o place t ≡ Copied version removed value

-- ---- the roots ----

-- the caller sees the slot, or the hand is that of the part's keeper
abbrev pub MayReadSlot : Opening → ℕ → ℕ → ℕ → ℕ → Execution → Type 0
MayReadSlot o hand part side i t =
    (IsReading o hand t × SeesSlot hand part side i t) ⊎ IsPartKeeper o hand part

-- the hand may load this root word of a part
pub record MayLoadRoot (o : Opening) (hand part found : ℕ) (t : Execution) : Type 0 where
  pub allowed : IsReading o hand t ⊎ IsPartKeeper o hand part
  pub is_part : IsPart o part
  pub found_word : word o t (Root part) ≡ found
  pub says : root o part t ≡ found

-- the hand may load this pivot of a slot
pub record MayLoadSlotPivot (o : Opening) (hand part side i found : ℕ) (t : Execution)
    : Type 0 where
  pub allowed : MayReadSlot o hand part side i t
  pub found_word : word o t (SlotPivot part side i) ≡ found

-- the hand may load this group of a slot
pub record MayLoadSlotGroup (o : Opening) (hand part side i found : ℕ) (t : Execution)
    : Type 0 where
  pub allowed : MayReadSlot o hand part side i t
  pub found_word : word o t (SlotGroup part side i) ≡ found
  pub says : slot o part side i t ≡ found

-- the side of the part's root is not in use, and no caller stands there
pub record IsUnusedSide (o : Opening) (part side : ℕ) (t : Execution) : Type 0 where
  pub not_present : (i : ℕ) → IsInUse (root o part t) side i → ⊥
  pub empty : (b i : ℕ) → IsCaller o b → SeesSlot b part side i t → ⊥

-- the keeper may store a word of this slot of the unused side of its root
pub record MayStoreUnused (o : Opening) (t : Execution) (hand part side i : ℕ) : Type 0 where
  pub keeper : IsPartKeeper o hand part
  pub is_side : side < 2
  pub is_slot : i < (limits o).slots
  pub unused : IsUnusedSide o part side t

-- the side is ready to be used with so many slots: their pivots rise from the part's least key, and each has a
-- group of the part's chain that begins at its pivot or before
pub record IsReadySide (o : Opening) (part side many : ℕ) (t : Execution) : Type 0 where
  pub some : 1 ≤ many
  pub few : many ≤ (limits o).slots
  pub unused : IsUnusedSide o part side t
  pub least : word o t (SlotPivot part side 0) ≡ first_key o part
  pub begins : slot o part side 0 t ≡ group_of o (first_key o part) t
  pub rising : (i : ℕ) → i + 1 < many →
      word o t (SlotPivot part side i) < word o t (SlotPivot part side (i + 1))
  pub reached_by : (i : ℕ) → i < many →
      (k : ℕ) × IsKeyIn o part k × (group_of o k t ≡ slot o part side i t)
      × (k ≤ word o t (SlotPivot part side i))

-- the keeper may store the root word of its part: it names the other side, and each slot that it names has a group
-- of the part's chain
pub record MayStoreRoot (o : Opening) (t : Execution) (hand part stored : ℕ) : Type 0 where
  pub keeper : IsPartKeeper o hand part
  pub many : ℕ
  pub named : ℕ
  pub is_side : named < 2
  pub stored_word : stored ≡ word_of_root many named
  pub ready : IsReadySide o part named many t
  pub chained : (side i : ℕ) → IsInUse stored side i →
      (k : ℕ) × IsKeyIn o part k × (group_of o k t ≡ slot o part side i t)
