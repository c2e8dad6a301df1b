-- The condition of each action, and the valid executions.
use Rattle.std.specs.Prelude.{◌≡◌, ◌≢◌, ◌⊎◌, ℕ, ◌+◌, ◌%◌, ◌^◌, List, [], ◌∷◌}
use Rattle.word_layout.specs.declared.places.Part.{Part}
use Rattle.word_layout.specs.declared.places.Part.TheVariants.{Link}
use Rattle.word_layout.specs.Places.{FitsPart}
use Rattle.word_layout.specs.Words.{FreeHead, Epoch, PlaceWord}
use Rattle.index_machine.specs.declared.events.Action.{Action}
use Rattle.index_machine.specs.declared.events.Action.TheVariants.{LoadEpoch, Enter, Leave}
use Rattle.index_machine.specs.declared.events.Action.TheVariants.{LoadFree, LoadFreeLink, PopFree}
use Rattle.index_machine.specs.declared.events.Action.TheVariants.{FailPop, StorePrivate}
use Rattle.index_machine.specs.declared.events.Action.TheVariants.{PushFree, FailPush}
use Rattle.index_machine.specs.declared.events.Action.TheVariants.{LoadState, LoadValue, LoadKey}
use Rattle.index_machine.specs.declared.events.Action.TheVariants.{Lock}
use Rattle.index_machine.specs.declared.events.Action.TheVariants.{FailLock, StoreValue, Unlock}
use Rattle.index_machine.specs.declared.events.Action.TheVariants.{LoadHead, LoadLink, LinkRow}
use Rattle.index_machine.specs.declared.events.Action.TheVariants.{FailLink}
use Rattle.index_machine.specs.declared.events.Action.TheVariants.{Retire, LoadHeader, LoadNext}
use Rattle.index_machine.specs.declared.events.Action.TheVariants.{LoadPhase, Freeze, Thaw}
use Rattle.index_machine.specs.declared.events.Action.TheVariants.{StoreHeader}
use Rattle.index_machine.specs.declared.events.Action.TheVariants.{NewGroup, StoreArray}
use Rattle.index_machine.specs.declared.events.Action.TheVariants.{StoreRedirect}
use Rattle.index_machine.specs.declared.events.Action.TheVariants.{StoreOpened, Install, StoreSlot}
use Rattle.index_machine.specs.declared.events.Action.TheVariants.{Close, Copy, StoreDirect}
use Rattle.index_machine.specs.declared.events.Action.TheVariants.{StoreMoved}
use Rattle.index_machine.specs.declared.events.Action.TheVariants.{LoadRoot, LoadSlotPivot}
use Rattle.index_machine.specs.declared.events.Action.TheVariants.{LoadSlotGroup, StoreUnusedPivot}
use Rattle.index_machine.specs.declared.events.Action.TheVariants.{StoreUnusedGroup, StoreRoot}
use Rattle.index_machine.specs.declared.opening.Opening.{Opening}
use Rattle.index_machine.specs.Execution.{Execution}
use Rattle.index_machine.specs.Words.{shape, word}
use Rattle.index_machine.specs.Sections.{IsCaller, IsHand}
use Rattle.index_machine.specs.Keepers.{IsKeeper}
use Rattle.index_machine.specs.Sections.{IsInside, IsOutside, crossings}
pub use Rattle.index_machine.specs.Sections.{IsReading}
use Rattle.index_machine.specs.Rows.{Unused, role, Holds, HoldsNone, free_stack}
use Rattle.index_machine.specs.ObservedHeads.{Observes, IsUnobserved}
use Rattle.index_machine.specs.Forms.{IsLockedBy, without_lock, state_word}
use Rattle.index_machine.specs.Places.{form}
use Rattle.index_machine.specs.RecordConditions.{HoldsNoLock, HasKey, MayLoadState, MayLoadValue}
use Rattle.index_machine.specs.RecordConditions.{MayLoadKey}
use Rattle.index_machine.specs.RecordConditions.{MayLock, MayFailLock, MayUnlock, MayLoadHead}
use Rattle.index_machine.specs.RecordConditions.{MayLoadLink, MayLink, MayFailLink, MayRetire}
use Rattle.index_machine.specs.RebuildConditions.{MayLoadHeader, MayLoadNext, MayLoadPhase}
use Rattle.index_machine.specs.RebuildConditions.{MayFreeze, MayThaw, MayFillHeader, MayBegin}
use Rattle.index_machine.specs.RebuildConditions.{MayFillArray}
use Rattle.index_machine.specs.RebuildConditions.{MayRedirect, MayOpen, MayInstall, MayStoreSlot}
use Rattle.index_machine.specs.RebuildConditions.{MayClose, MayCopy, MayDirect, MayMove}
use Rattle.index_machine.specs.RebuildConditions.{MayLoadRoot}
use Rattle.index_machine.specs.RebuildConditions.{MayLoadSlotPivot, MayLoadSlotGroup}
use Rattle.index_machine.specs.RebuildConditions.{MayStoreUnused}
use Rattle.index_machine.specs.RebuildConditions.{MayStoreRoot}

-- ---- what a hand must have done before ----

-- the hand may enter a read section
pub record MayEnter (o : Opening) (hand : ℕ) (t : Execution) : Type 0 where
  pub caller : IsCaller o hand
  pub outside : IsOutside hand t

-- the hand may leave its read section: it holds no version lock
pub record MayLeave (o : Opening) (hand : ℕ) (t : Execution) : Type 0 where
  pub caller : IsCaller o hand
  pub inside : IsInside hand t
  pub holds_none : HoldsNoLock o hand t

-- the hand may load the head of the free stack
abbrev pub MayLoadFree : Opening → ℕ → Execution → Type 0
MayLoadFree o hand t = IsReading o hand t ⊎ IsKeeper o hand

-- ---- the epoch words ----

-- the epoch word that the hand's next crossing stores
abbrev pub next_epoch : ℕ → Execution → ℕ
next_epoch hand t = (crossings hand t + 1) % 2 ^ 64

-- ---- a row in a hand ----

-- the row is the hand's own, and the value is one that this part of a row may have
pub record MayStorePrivate (o : Opening) (hand place : ℕ) (part : Part) (value : ℕ)
    (t : Execution) : Type 0 where
  pub held : Holds o hand place t
  pub fits : FitsPart (shape o) part value

-- ---- the free stack ----

-- the row is the top of the free stack and nobody's, and its link holds the next one
pub record IsTop (o : Opening) (place next : ℕ) (t : Execution) : Type 0 where
  pub rest : List ℕ
  pub top : free_stack o t ≡ place ∷ rest
  pub unused : role o place t ≡ Unused
  pub link : word o t (PlaceWord place Link) ≡ next

-- the head is another than the one that the hand observed
pub record MayFailPop (o : Opening) (hand expected found : ℕ) (t : Execution) : Type 0 where
  pub reading : IsReading o hand t
  pub observed : Observes hand expected t
  pub head_word : word o t FreeHead ≡ found
  pub differ : expected ≢ found

-- the row in the hand links to the head, and no caller observes it
pub record MayPush (o : Opening) (hand place head : ℕ) (t : Execution) : Type 0 where
  pub keeper : IsKeeper o hand
  pub held : Holds o hand place t
  pub head_word : word o t FreeHead ≡ head
  pub link : word o t (PlaceWord place Link) ≡ head
  pub unobserved : IsUnobserved o place t

-- the head is another than the one that the row in the hand links to
pub record MayFailPush (o : Opening) (hand place expected found : ℕ) (t : Execution) : Type 0 where
  pub keeper : IsKeeper o hand
  pub held : Holds o hand place t
  pub link : word o t (PlaceWord place Link) ≡ expected
  pub head_word : word o t FreeHead ≡ found
  pub differ : expected ≢ found

-- ---- each action ----

-- the hand may make this action after the execution
abbrev pub Allowed : Opening → Execution → ℕ → Action → Type 0
Allowed o t hand (LoadEpoch caller found) = IsCaller o caller × (word o t (Epoch caller) ≡ found)
Allowed o t hand (Enter n) = MayEnter o hand t × (n ≡ next_epoch hand t)
Allowed o t hand (Leave n) = MayLeave o hand t × (n ≡ next_epoch hand t)
Allowed o t hand (LoadFree found) = MayLoadFree o hand t × (word o t FreeHead ≡ found)
Allowed o t hand (LoadFreeLink place found) =
    IsReading o hand t × Observes hand place t × (word o t (PlaceWord place Link) ≡ found)
Allowed o t hand (PopFree place next) =
    IsReading o hand t × HoldsNone o hand t × IsTop o place next t
Allowed o t hand (FailPop expected found) = MayFailPop o hand expected found t
Allowed o t hand (StorePrivate place part value) = MayStorePrivate o hand place part value t
Allowed o t hand (PushFree place head) = MayPush o hand place head t
Allowed o t hand (FailPush place expected found) = MayFailPush o hand place expected found t
Allowed o t hand (LoadState place found) = MayLoadState o hand place found t
Allowed o t hand (LoadValue place found) = MayLoadValue o hand place found t
Allowed o t hand (LoadKey place found) = MayLoadKey o hand place found t
Allowed o t hand (Lock place expected) = MayLock o hand place expected t
Allowed o t hand (FailLock place expected found) = MayFailLock o hand place expected found t
Allowed o t hand (StoreValue place value) =
    IsCaller o hand × IsLockedBy hand (form o place t) × HasKey o place t
Allowed o t hand (Unlock place removed d stored) =
    IsCaller o hand × MayUnlock o t hand place removed d
    × (stored ≡ state_word (without_lock removed (form o place t)))
Allowed o t hand (LoadHead group lane found) = MayLoadHead o hand group lane found t
Allowed o t hand (LoadLink group place found) = MayLoadLink o hand group place found t
Allowed o t hand (LinkRow group lane place d before next) =
    MayLink o t hand group lane place d before next
Allowed o t hand (FailLink group lane before expected found) =
    MayFailLink o hand group lane before expected found t
Allowed o t hand (Retire place next) = MayRetire o t hand place next
Allowed o t hand (LoadHeader group which found) = MayLoadHeader o hand group which found t
Allowed o t hand (LoadNext group found) = MayLoadNext o hand group found t
Allowed o t hand (LoadPhase group found) = MayLoadPhase o hand group found t
Allowed o t hand (Freeze group) = MayFreeze o hand group t
Allowed o t hand (Thaw group) = MayThaw o hand group t
Allowed o t hand (StoreHeader group which value) = MayFillHeader o t hand group which
Allowed o t hand (NewGroup group low high first) = MayBegin o t hand group low high first
Allowed o t hand (StoreArray group place which value) = MayFillArray o t hand group place
Allowed o t hand (StoreRedirect group place k to) = MayRedirect o t hand group place k to
Allowed o t hand (StoreOpened group first) = MayOpen o t hand group first
Allowed o t hand (Install spot lead low high) = MayInstall o t hand spot lead low high
Allowed o t hand (StoreSlot part side i group) = MayStoreSlot o t hand part side i group
Allowed o t hand (Close place expected) = MayClose o t hand place expected
Allowed o t hand (Copy place value) = MayCopy o t hand place
Allowed o t hand (StoreDirect place from k removed stored) =
    MayDirect o t hand place from k removed stored
Allowed o t hand (StoreMoved place) = MayMove o t hand place
Allowed o t hand (LoadRoot part found) = MayLoadRoot o hand part found t
Allowed o t hand (LoadSlotPivot part side i found) = MayLoadSlotPivot o hand part side i found t
Allowed o t hand (LoadSlotGroup part side i found) = MayLoadSlotGroup o hand part side i found t
Allowed o t hand (StoreUnusedPivot part side i pivot) = MayStoreUnused o t hand part side i
Allowed o t hand (StoreUnusedGroup part side i group) = MayStoreUnused o t hand part side i
Allowed o t hand (StoreRoot part stored) = MayStoreRoot o t hand part stored

-- each event met its condition when it was made, and is that of a hand
abbrev pub Valid : Opening → Execution → Type 0
Valid o [] = Unit {0}
Valid o (e ∷ t) = Allowed o t e.by e.action × Valid o t × IsHand o e.by
