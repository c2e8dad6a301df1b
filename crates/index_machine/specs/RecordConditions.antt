-- The conditions of the actions on records and in buffers.
--
-- Of a loaded word a condition says which it was; of what is shared it says what stands, and not
-- the words by which a hand learns it.
use Rattle.std.specs.Prelude.{◌≡◌, ◌≢◌, ◌⊎◌, ℕ, ◌<◌, Bool, true, false, Some, None}
use Rattle.map_model.specs.declared.entries.Change.{Change}
use Rattle.map_model.specs.declared.entries.Change.TheVariants as change
use Rattle.map_model.specs.Map.{key_of}
use Rattle.word_layout.specs.declared.headers.HeaderWord.TheVariants as header
use Rattle.word_layout.specs.declared.places.Part.TheVariants as part
use Rattle.word_layout.specs.declared.state.State.TheVariants as state
use Rattle.word_layout.specs.State.{word_of_state}
use Rattle.word_layout.specs.Words.{Header, PlaceWord}
use Rattle.index_machine.specs.declared.opening.Opening.{Opening}
use Rattle.index_machine.specs.Execution.{Execution}
use Rattle.index_machine.specs.Words.{word, link_behind}
use Rattle.index_machine.specs.Lanes.{HasLane, lanes}
use Rattle.index_machine.specs.Sections.{IsCaller, IsReading}
use Rattle.index_machine.specs.Keepers.{IsGroupKeeper, IsKeeperAt}
use Rattle.index_machine.specs.Rows.{HeldBy, InArray, InBuffer, role_key, role}
use Rattle.index_machine.specs.Forms.{Unlocked, Locked, Redirect, IsLockedBy, state_word}
use Rattle.index_machine.specs.Forms.{HasValueWord, last_version}
use Rattle.index_machine.specs.Places.{first_version, form, IsInGroup}
use Rattle.index_machine.specs.LivePlaces.{live_place}
use Rattle.index_machine.specs.Reaching.{stands_in, reached}
use Rattle.index_machine.specs.Permissions.{MayInsertInto, IsBufferFor, IsReplaced}

-- ---- where a hand may look ----

-- the place is one of the array of a group where the caller stands
abbrev pub IsInArrayOf : Opening → ℕ → ℕ → Execution → Type 0
IsInArrayOf o hand place t =
    (group : ℕ) × (k : ℕ) × (role o place t ≡ InArray group k)
    × (stands_in hand group t ≡ true)

-- the caller stands at the place: in an array of a group where it stands, or by a link or a
-- redirect
pub record IsAt (o : Opening) (hand place : ℕ) (t : Execution) : Type 0 where
  pub reading : IsReading o hand t
  pub there : IsInArrayOf o hand place t ⊎ (reached hand place t ≡ true)

-- the hand may load a word of the place: a keeper may, where it is of its part or a record row
abbrev pub MayLookAt : Opening → ℕ → ℕ → Execution → Type 0
MayLookAt o hand place t = IsAt o hand place t ⊎ IsKeeperAt o hand place

-- the place is in a group, and the hand is that of the keeper of its part
abbrev pub KeepsPlace : Opening → Execution → ℕ → ℕ → Type 0
KeepsPlace o t hand place =
    (group : ℕ) × (k : ℕ) × IsInGroup o t group k place × IsGroupKeeper o hand group

-- the hand holds no version lock
abbrev pub HoldsNoLock : Opening → ℕ → Execution → Type 0
HoldsNoLock o hand t = (place : ℕ) → IsLockedBy hand (form o place t) → ⊥

-- the place is in a group, for some key
abbrev pub HasKey : Opening → ℕ → Execution → Type 0
HasKey o place t = (k : ℕ) × (role_key (role o place t) ≡ Some k)

-- ---- loads of a record ----

-- the hand may load this state word; a redirect is followed from the array of a group where the
-- caller stands
pub record MayLoadState (o : Opening) (hand place found : ℕ) (t : Execution) : Type 0 where
  pub allowed : MayLookAt o hand place t
  pub found_word : word o t (PlaceWord place part.State) ≡ found
  pub says : state_word (form o place t) ≡ found
  pub follows : IsCaller o hand → (to : ℕ) → found ≡ word_of_state (state.Redirect to) →
      IsReading o hand t × IsInArrayOf o hand place t

-- the hand may load this value word
pub record MayLoadValue (o : Opening) (hand place found : ℕ) (t : Execution) : Type 0 where
  pub allowed : MayLookAt o hand place t
  pub found_word : word o t (PlaceWord place part.Value) ≡ found
  pub says : HasValueWord (form o place t) found

-- the hand may load this key word
pub record MayLoadKey (o : Opening) (hand place found : ℕ) (t : Execution) : Type 0 where
  pub allowed : MayLookAt o hand place t
  pub found_word : word o t (PlaceWord place part.Key) ≡ found
  pub says : role_key (role o place t) ≡ Some found

-- ---- changes of a record ----

-- the caller may take the version lock; at the last version nobody may
pub record MayLock (o : Opening) (hand place expected : ℕ) (t : Execution) : Type 0 where
  pub reading : IsReading o hand t
  pub there : IsAt o hand place t
  pub keyed : HasKey o place t
  pub holds_none : HoldsNoLock o hand t
  pub version : ℕ
  pub removed : Bool
  pub value : ℕ
  pub unlocked : form o place t ≡ Unlocked version removed value
  pub raisable : version < last_version
  pub found_word : state_word (form o place t) ≡ expected

-- the exchange of a state word found another one
pub record MayFailLock (o : Opening) (hand place expected found : ℕ) (t : Execution)
    : Type 0 where
  pub allowed : MayLookAt o hand place t
  pub found_word : word o t (PlaceWord place part.State) ≡ found
  pub says : state_word (form o place t) ≡ found
  pub differs : expected ≢ found

-- the change of a hand that leaves a place removed or with this value, where it was removed or not
-- before
abbrev pub IsChangeTo : ℕ → Bool → Bool → ℕ → Change → Type 0
IsChangeTo hand was removed value (change.Put c k v) = (c ≡ hand) × (removed ≡ false) × (v ≡ value)
IsChangeTo hand was removed value (change.Remove c k) =
    (c ≡ hand) × (removed ≡ true) × (was ≡ false)

-- the holder of the version lock may unlock the place with this change
pub record MayUnlock (o : Opening) (t : Execution) (hand place : ℕ) (removed : Bool)
    (d : Change) : Type 0 where
  pub version : ℕ
  pub was : Bool
  pub before : ℕ
  pub value : ℕ
  pub holds : form o place t ≡ Locked hand version was before value
  pub keyed : role_key (role o place t) ≡ Some (key_of d)
  pub makes : IsChangeTo hand was removed value d
  -- a removed place comes to life again in a buffer alone, and where the key has no live place
  pub revives : was ≡ true →
      (group : ℕ) × (role o place t ≡ InBuffer group (key_of d))
      × MayInsertInto hand group t × IsBufferFor o (key_of d) group t
      × (live_place o (key_of d) t ≡ None)

-- ---- buffers ----

-- a link of the lane: no place, or a row of the group's buffer whose key is in the lane
abbrev pub IsLinkInto : Opening → ℕ → ℕ → ℕ → Execution → Type 0
IsLinkInto o group lane found t =
    (found ≡ 0) ⊎ ((k : ℕ) × (role o found t ≡ InBuffer group k) × HasLane o group lane k t)

-- the caller stands in the group, or the hand is that of the keeper of the group's part
abbrev pub MayWalk : Opening → ℕ → ℕ → Execution → Type 0
MayWalk o hand group t =
    (IsReading o hand t × (stands_in hand group t ≡ true)) ⊎ IsGroupKeeper o hand group

-- the hand may load this head of a lane
pub record MayLoadHead (o : Opening) (hand group lane found : ℕ) (t : Execution) : Type 0 where
  pub allowed : MayWalk o hand group t
  pub is_lane : lane < lanes o group t
  pub found_word : word o t (Header group (header.Head lane)) ≡ found
  pub says : IsCaller o hand → IsLinkInto o group lane found t

-- the place is a row of the group's buffer, and this link leads on in the lane of its key
pub record LeadsOn (o : Opening) (group place found : ℕ) (t : Execution) : Type 0 where
  pub lane : ℕ
  pub key : ℕ
  pub row : role o place t ≡ InBuffer group key
  pub in_lane : HasLane o group lane key t
  pub link : IsLinkInto o group lane found t

-- the hand may load this link of a row of the buffer
pub record MayLoadLink (o : Opening) (hand group place found : ℕ) (t : Execution)
    : Type 0 where
  pub allowed : MayWalk o hand group t
  pub found_word : word o t (PlaceWord place part.Link) ≡ found
  pub says : IsCaller o hand → LeadsOn o group place found t

-- the caller may link its row, filled with a new record, into the lane of its key
pub record MayLink (o : Opening) (t : Execution) (hand group lane place : ℕ) (d : Change)
    (before next : ℕ) : Type 0 where
  pub caller : IsCaller o hand
  pub value : ℕ
  pub mine : role o place t ≡ HeldBy hand
  pub key_word : word o t (PlaceWord place part.Key) ≡ key_of d
  pub value_word : word o t (PlaceWord place part.Value) ≡ value
  pub new_word : word o t (PlaceWord place part.State)
      ≡ state_word (Unlocked (first_version o) false value)
  pub link_word : word o t (PlaceWord place part.Link) ≡ next
  pub in_lane : HasLane o group lane (key_of d) t
  pub behind : IsLinkInto o group lane before t
  pub expected : word o t (link_behind group lane before) ≡ next
  pub makes : IsChangeTo hand false false value d
  pub permission : MayInsertInto hand group t
  pub belongs : IsBufferFor o (key_of d) group t
  pub not_live_elsewhere : live_place o (key_of d) t ≡ None
  pub alone : (other : ℕ) → role o other t ≢ InBuffer group (key_of d)
  -- the lane's keys still rise
  pub behind_smaller : (k : ℕ) → role o before t ≡ InBuffer group k → k < key_of d
  pub ahead : IsLinkInto o group lane next t
  pub ahead_greater : (k : ℕ) → role o next t ≡ InBuffer group k → key_of d < k

-- the exchange of a link found another one
pub record MayFailLink (o : Opening) (hand group lane before expected found : ℕ) (t : Execution)
    : Type 0 where
  pub reading : IsReading o hand t
  pub is_lane : lane < lanes o group t
  pub found_word : word o t (link_behind group lane before) ≡ found
  pub differs : expected ≢ found

-- the keeper may take a row out of an old buffer: nothing leads there any more
pub record MayRetire (o : Opening) (t : Execution) (hand place next : ℕ) : Type 0 where
  pub keeper : KeepsPlace o t hand place
  pub found_word : word o t (PlaceWord place part.Link) ≡ next
  pub not_live : (k : ℕ) → live_place o k t ≢ Some place
  pub no_target : (a y : ℕ) → form o a t ≢ Redirect place y
  pub unreached : (b : ℕ) → IsCaller o b → reached b place t ≡ true → ⊥
  pub where_it_is : (group : ℕ) × (k : ℕ) × (role o place t ≡ InBuffer group k)
      × IsReplaced o group t
