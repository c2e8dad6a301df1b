-- The action of a step, by the word that it loaded or stored. A step is made only at words of the
-- one form that is named.
use Rattle.std.specs.Prelude.{ℕ, zero, suc, ◌-◌, ◌%◌, ◌==◌, nat_lt, cond, Bool, Option, Some, None}
use Rattle.word_layout.specs.declared.headers.HeaderWord.TheVariants as header
use Rattle.word_layout.specs.Words.{Word, Root, Epoch, SlotGroup, SlotPivot, Header, PlaceWord}
use Rattle.index_machine.specs.declared.events.Action.{Action}
use Rattle.index_machine.specs.declared.events.Action.TheVariants.{LoadEpoch, LoadFree}
use Rattle.index_machine.specs.declared.events.Action.TheVariants.{LoadFreeLink, StorePrivate}
use Rattle.index_machine.specs.declared.events.Action.TheVariants.{LoadState, LoadValue, Lock}
use Rattle.index_machine.specs.declared.events.Action.TheVariants.{FailLock, StoreValue, Unlock}
use Rattle.index_machine.specs.declared.events.Action.TheVariants.{LoadKey, LoadNext, LoadRoot}
use Rattle.index_machine.specs.declared.events.Action.TheVariants.{LoadSlotGroup, LoadSlotPivot}
use Rattle.index_machine.specs.declared.events.Action.TheVariants.{LoadHead, LoadHeader, LoadLink, LoadPhase}
use Rattle.index_machine.specs.declared.events.Action.TheVariants.{LinkRow, FailLink}
use Rattle.index_machine.specs.declared.opening.Opening.{Opening}
use Rattle.index_machine.specs.Execution.{Execution}
use Rattle.index_machine.specs.Lanes.{cut, lanes}
use Rattle.index_machine.specs.Rows.{Role, Unused, HeldBy, InArray, InBuffer, role}
use Rattle.index_rule.specs.declared.view.View.{View}
use Rattle.index_rule.specs.Buffers.{inserted_by}
use Rattle.index_rule.specs.Records.{change_by}
use Rattle.index_rule.specs.Rule.{number}

-- an epoch word was loaded
abbrev pub epoch_load : Word → ℕ → Action
epoch_load (Epoch caller) n = LoadEpoch caller n
epoch_load _ n = LoadFree n

-- the link of a row was loaded
abbrev pub link_load : Word → ℕ → Action
link_load (PlaceWord place part) n = LoadFreeLink place n
link_load _ n = LoadFree n

-- a word of one's own row was stored
abbrev pub private_store : Word → ℕ → Action
private_store (PlaceWord place part) n = StorePrivate place part n
private_store _ n = LoadFree n

-- a root word was loaded
abbrev pub root_load : Word → ℕ → Action
root_load (Root part) n = LoadRoot part n
root_load _ n = LoadFree n

-- the pivot of a slot was loaded
abbrev pub slot_pivot_load : Word → ℕ → Action
slot_pivot_load (SlotPivot part side i) n = LoadSlotPivot part side i n
slot_pivot_load _ n = LoadFree n

-- the group word of a slot was loaded
abbrev pub slot_group_load : Word → ℕ → Action
slot_group_load (SlotGroup part side slot) n = LoadSlotGroup part side slot n
slot_group_load _ n = LoadFree n

-- ---- steps on a record ----

-- a state word was loaded
abbrev pub state_load : Word → ℕ → Action
state_load (PlaceWord place part) n = LoadState place n
state_load _ n = LoadFree n

-- a value word was loaded
abbrev pub value_load : Word → ℕ → Action
value_load (PlaceWord place part) n = LoadValue place n
value_load _ n = LoadFree n

-- a key word was loaded
abbrev pub key_load : Word → ℕ → Action
key_load (PlaceWord place part) n = LoadKey place n
key_load _ n = LoadFree n

-- the expected state word was exchanged for its locked form
abbrev pub lock_made : Word → ℕ → Action
lock_made (PlaceWord place part) expected = Lock place expected
lock_made _ expected = LoadFree expected

-- another state word was found than the expected one
abbrev pub lock_failed : Word → ℕ → ℕ → Action
lock_failed (PlaceWord place part) expected n = FailLock place expected n
lock_failed _ expected n = LoadFree n

-- a value was stored under the lock
abbrev pub value_store : Word → ℕ → Action
value_store (PlaceWord place part) n = StoreValue place n
value_store _ n = LoadFree n

-- the unlocked state word says that the record is removed
abbrev pub says_removed : ℕ → Bool
says_removed n = n % 16 == 8

-- the unlock of a place by a hand that knows this, with the word that it stored
abbrev pub unlock_known : Option Opening → View → ℕ → ℕ → Action
unlock_known None v place n = LoadFree n
unlock_known (Some o) v place n =
    Unlock place (says_removed n) (change_by o (number v) place (says_removed n) v.known) n

-- an unlocked state word was stored
abbrev pub unlock_store : View → Word → ℕ → Action
unlock_store v (PlaceWord place part) n = unlock_known v.opening v place n
unlock_store v _ n = LoadFree n

-- ---- steps on a buffer ----

-- the head of a lane was loaded
abbrev pub head_load : Word → ℕ → Action
head_load (Header group (header.Head lane)) n = LoadHead group lane n
head_load _ n = LoadFree n

-- a header word was loaded
abbrev pub header_load : Word → ℕ → Action
header_load (Header group which) n = LoadHeader group which n
header_load _ n = LoadFree n

-- a next word was loaded
abbrev pub next_load : Word → ℕ → Action
next_load (Header group which) n = LoadNext group n
next_load _ n = LoadFree n

-- a phase word was loaded
abbrev pub phase_load : Word → ℕ → Action
phase_load (Header group which) n = LoadPhase group n
phase_load _ n = LoadFree n

-- the group of a row
abbrev pub group_of_role : Role → ℕ
group_of_role Unused = 0
group_of_role (HeldBy hand) = 0
group_of_role (InArray group k) = 0
group_of_role (InBuffer group k) = group

-- the group in whose buffer a place is by what is known
abbrev pub buffer_known : Option Opening → ℕ → Execution → ℕ
buffer_known None place t = 0
buffer_known (Some o) place t = group_of_role (role o place t)

-- the group in whose buffer the link at a word is: of the head, or of a row
abbrev pub link_group : View → Word → ℕ
link_group v (Header group which) = group
link_group v (PlaceWord place part) = buffer_known v.opening place v.known
link_group v _ = 0

-- the last lane, of so many behind the first one, whose cut is not above the key; else the first one
abbrev pub lane_among : Opening → ℕ → ℕ → Execution → ℕ → ℕ
lane_among o group k t zero = 0
lane_among o group k t (suc n) =
    cond (nat_lt k (cut o group (suc n) t)) (lane_among o group k t n) (suc n)

-- the lane of a key
abbrev pub lane_of_key : Opening → ℕ → ℕ → Execution → ℕ
lane_of_key o group k t = lane_among o group k t (lanes o group t - 1)

-- the lane of a row, by what its place is
abbrev pub lane_of_role : Opening → Role → Execution → ℕ
lane_of_role o Unused t = 0
lane_of_role o (HeldBy hand) t = 0
lane_of_role o (InArray group k) t = 0
lane_of_role o (InBuffer group k) t = lane_of_key o group k t

-- the lane in which a place is by what is known
abbrev pub lane_known : Option Opening → ℕ → Execution → ℕ
lane_known None place t = 0
lane_known (Some o) place t = lane_of_role o (role o place t) t

-- the lane in which the link at a word is: of the head, or of a row
abbrev pub link_lane : View → Word → ℕ
link_lane v (Header group (header.Head lane)) = lane
link_lane v (PlaceWord place part) = lane_known v.opening place v.known
link_lane v _ = 0

-- the row whose link is at a word, or 0 for the head
abbrev pub link_place : Word → ℕ
link_place (PlaceWord place part) = place
link_place _ = 0

-- the link of a row in a buffer was loaded
abbrev pub row_link_load : View → Word → ℕ → Action
row_link_load v w n = LoadLink (link_group v w) (link_place w) n

-- the link of a row by a hand that knows this
abbrev pub link_known : Option Opening → View → ℕ → ℕ → ℕ → ℕ → ℕ → Action
link_known None v group lane place before expected = LoadFree expected
link_known (Some o) v group lane place before expected =
    LinkRow group lane place (inserted_by o (number v) place v.known) before expected

-- the link at a word was exchanged: it leads to this row
abbrev pub link_made : View → Word → ℕ → ℕ → Action
link_made v w expected place =
    link_known v.opening v (link_group v w) (link_lane v w) place (link_place w) expected

-- another link was found than the expected one
abbrev pub link_failed : View → Word → ℕ → ℕ → Action
link_failed v w expected n = FailLink (link_group v w) (link_lane v w) (link_place w) expected n
