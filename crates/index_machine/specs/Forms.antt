-- What the state and the value of a place say, and how each action changes it.
--
-- A record's value stands where its place is unlocked or locked and not removed. While a caller
-- holds the lock, the value is still the one before.
use Rattle.std.specs.Prelude.{◌≡◌, ℕ, ◌+◌, Bool, true, false, cond, ◌==◌, Option, Some, None}
use Rattle.word_layout.specs.State.{word_of_state}
use Rattle.word_layout.specs.declared.state.State.TheVariants as state
use Rattle.map_model.specs.declared.entries.Change.{Change}
use Rattle.map_model.specs.declared.entries.Change.TheVariants as change
use Rattle.index_machine.specs.declared.events.Action.{Action}
use Rattle.index_machine.specs.declared.events.Action.TheVariants.{Lock, StoreValue, Unlock}
use Rattle.index_machine.specs.declared.events.Action.TheVariants.{LinkRow, StoreRedirect, Close}
use Rattle.index_machine.specs.declared.events.Action.TheVariants.{Copy, StoreDirect, StoreMoved}

-- what a place holds
pub data Form : Type 0 where
  -- no record yet
  Blank : Form
  -- the version, whether the record is removed, and its value
  Unlocked : ℕ → Bool → ℕ → Form
  -- the hand that holds the lock, the version, whether the record was removed, its value before,
  -- and the value word
  Locked : ℕ → ℕ → Bool → ℕ → ℕ → Form
  -- still locked by the keeper, while the record stands in its new place: the version, removed, and
  -- the value word
  Copied : ℕ → Bool → ℕ → Form
  -- a forwarding pointer: the place of the record in its old group, and the value word
  Redirect : ℕ → ℕ → Form
  -- the record was copied away
  Moved : Form

-- a value, unless it is removed
abbrev pub unless : Bool → ℕ → Option ℕ
unless true x = None
unless false x = Some x

-- the value that a place has for its key
abbrev pub live_value : Form → Option ℕ
live_value Blank = None
live_value (Unlocked v r x) = unless r x
live_value (Locked c v r x y) = unless r x
live_value (Copied v r x) = None
live_value (Redirect p y) = None
live_value Moved = None

-- the place has no value and gets none but by a revival
abbrev pub is_removed : Form → Bool
is_removed Blank = false
is_removed (Unlocked v r x) = r
is_removed (Locked c v r x y) = r
is_removed (Copied v r x) = true
is_removed (Redirect p y) = false
is_removed Moved = true

-- the place is unlocked
abbrev pub IsUnlocked : Form → Type 0
IsUnlocked f = (v : ℕ) × (r : Bool) × (x : ℕ) × (f ≡ Unlocked v r x)

-- the hand holds the version lock of the place
abbrev pub IsLockedBy : ℕ → Form → Type 0
IsLockedBy hand f = (v : ℕ) × (r : Bool) × (x : ℕ) × (y : ℕ) × (f ≡ Locked hand v r x y)

-- ---- changes of a form ----

-- the value of a put
abbrev pub put_value : Change → ℕ
put_value (change.Put c k v) = v
put_value (change.Remove c k) = 0

-- locked by a hand
abbrev pub with_lock : ℕ → Form → Form
with_lock hand (Unlocked v r x) = Locked hand v r x x
with_lock hand f = f

-- with another value word
abbrev pub with_value : ℕ → Form → Form
with_value y (Locked c v r x z) = Locked c v r x y
with_value y (Redirect p z) = Redirect p y
with_value y f = f

-- unlocked, with the version raised
abbrev pub without_lock : Bool → Form → Form
without_lock r (Locked c v s x z) = Unlocked (v + 1) r z
without_lock r f = f

-- direct, with the first version
abbrev pub made_direct : ℕ → Bool → Form → Form
made_direct first r (Redirect p y) = Unlocked first r y
made_direct first r f = f

-- the record stands in its new place
abbrev pub copied_away : Form → Form
copied_away (Locked c v r x z) = Copied v r z
copied_away f = f

-- the form of a place after an action of the hand, where it was this before; new records have this
-- first version
abbrev pub form_after : ℕ → ℕ → ℕ → Action → Form → Form
form_after first place hand (LinkRow group lane q d before next) f =
    cond (q == place) (Unlocked first false (put_value d)) f
form_after first place hand (Lock q x) f = cond (q == place) (with_lock hand f) f
form_after first place hand (StoreValue q y) f = cond (q == place) (with_value y f) f
form_after first place hand (Unlock q r d w) f = cond (q == place) (without_lock r f) f
form_after first place hand (StoreRedirect group q k to) f = cond (q == place) (Redirect to 0) f
form_after first place hand (Close q x) f = cond (q == place) (with_lock hand f) f
form_after first place hand (Copy q y) f = cond (q == place) (with_value y f) f
form_after first place hand (StoreDirect q from k r w) f =
    cond (q == place) (made_direct first r f) (cond (from == place) (copied_away f) f)
form_after first place hand (StoreMoved q) f = cond (q == place) Moved f
form_after first place hand _ f = f

-- ---- the words of a form ----

-- the state word of a form
abbrev pub state_word : Form → ℕ
state_word Blank = 0
state_word (Unlocked v r x) = word_of_state (state.Direct v false r)
state_word (Locked c v r x y) = word_of_state (state.Direct v true r)
state_word (Copied v r x) = word_of_state (state.Direct v true r)
state_word (Redirect p y) = word_of_state (state.Redirect p)
state_word Moved = word_of_state state.Moved

-- the value word of a form, where the form says it
abbrev pub HasValueWord : Form → ℕ → Type 0
HasValueWord Blank n = Unit {0}
HasValueWord (Unlocked v r x) n = x ≡ n
HasValueWord (Locked c v r x y) n = y ≡ n
HasValueWord (Copied v r x) n = x ≡ n
HasValueWord (Redirect p y) n = y ≡ n
HasValueWord Moved n = Unit {0}

-- the greatest version
abbrev pub last_version : ℕ
last_version = 1152921504606846975
