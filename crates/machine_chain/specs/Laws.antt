-- The laws of walks, over all executions.
use Rattle.index_machine.specs.Keepers.{IsPart, IsKeyIn}
use Rattle.std.specs.Prelude.{◌≡◌, ℕ, ◌+◌, ◌<◌, ◌≤◌, true, Some, ◌++◌, [], ◌∷◌}
use Rattle.word_layout.specs.declared.headers.HeaderWord.TheVariants as header
use Rattle.word_layout.specs.Words.{Header, SlotGroup, SlotPivot}
use Rattle.index_machine.specs.declared.events.Action.{Action}
use Rattle.index_machine.specs.declared.events.Action.TheVariants.{LoadNext, LoadRoot}
use Rattle.index_machine.specs.declared.events.Action.TheVariants.{LoadSlotGroup}
use Rattle.index_machine.specs.declared.opening.Opening.{Opening}
use Rattle.index_machine.specs.Execution.{Execution, event}
use Rattle.index_machine.specs.Words.{word}
use Rattle.word_layout.specs.Parts.{greatest_key}
use Rattle.index_machine.specs.Sections.{IsCaller, IsNoCrossing, StaysInside}
use Rattle.index_machine.specs.Groups.{phase, rebuild, slot}
use Rattle.index_machine.specs.KeyRanges.{group_of, successor}
use Rattle.word_layout.specs.declared.phase.Phase.TheVariants.{Opened}
use Rattle.index_machine.specs.Reaching.{SeesSlot, stands_in}
use Rattle.index_machine.specs.Permissions.{IsReadableSlot, IsUnopened}
use Rattle.index_machine.specs.RecordConditions.{MayWalk}
use Rattle.index_machine.specs.RebuildConditions.{MayLoadNext, MayLoadPhase, MayLoadSlotGroup}
use Rattle.index_machine.specs.RebuildConditions.{MayReadSlot}
use Rattle.index_machine.specs.Conditions.{Valid}
use Rattle.machine_buffers.specs.Walks.{IsWalkable}
use Rattle.machine_chain.specs.Chain.{IsUnderWay, next_of, pivot_of}
use Rattle.machine_readers.specs.Redirects.{IsBehind}
use Rattle.machine_chain.specs.Walks.{AnswersFor, AnswersForNew, BeginsBefore, BeginsBeforeNew}
use Rattle.machine_chain.specs.Walks.{NewLeadsOn}
use Rattle.machine_chain.specs.Walks.{IsStandingPlace, LeadsOn, StartsAtPivot, SlotsLead}

-- ---- slots ----

-- the slots that can be loaded, of the side in use and of one on which a caller stands, lead to
-- groups of keys of their part at or before their pivots, which rise from the part's least key
abbrev pub SlotsLeadToGroups : Type 0
SlotsLeadToGroups = (o : Opening) (t : Execution) → Valid o t → SlotsLead o t

-- the group of a slot that can be loaded has its pivot at or before the slot's
abbrev pub SlotsAreAtOrBehindTheirGroups : Type 0
SlotsAreAtOrBehindTheirGroups =
    (o : Opening) (t : Execution) → Valid o t → (part side i : ℕ) → IsPart o part →
    IsReadableSlot o part side i t →
    pivot_of o (slot o part side i t) t ≤ word o t (SlotPivot part side i)

-- a hand that may read a slot may load its group, whatever it finds
abbrev pub SlotGroupsAreTrue : Type 0
SlotGroupsAreTrue =
    (o : Opening) (t : Execution) → Valid o t → (hand part side i found : ℕ) →
    MayReadSlot o hand part side i t → word o t (SlotGroup part side i) ≡ found →
    MayLoadSlotGroup o hand part side i found t

-- the action is no load of a root word
abbrev pub IsNoRootLoad : Action → Type 0
IsNoRootLoad (LoadRoot part word) = ⊥
IsNoRootLoad _ = Unit {0}

-- the hand's read section goes on over these newer events, and it loads no root word
abbrev pub KeepsRoot : ℕ → Execution → Type 0
KeepsRoot hand [] = Unit {0}
KeepsRoot hand (e ∷ newer) =
    (e.by ≡ hand → IsNoCrossing e.action × IsNoRootLoad e.action) × KeepsRoot hand newer

-- meanwhile it sees the same slots, which keep their pivots
abbrev pub SlotsSeenStay : Type 0
SlotsSeenStay =
    (o : Opening) (caller part side i : ℕ) → IsCaller o caller → (newer t : Execution) →
    Valid o (newer ++ t) → KeepsRoot caller newer → SeesSlot caller part side i t →
    SeesSlot caller part side i (newer ++ t)
    × (word o (newer ++ t) (SlotPivot part side i) ≡ word o t (SlotPivot part side i))

-- ---- where callers stand ----

-- a caller stands in groups that answer for a key, or did, and in new ones to which an opened phase
-- led it
abbrev pub CallersStandInGroupsOfKeys : Type 0
CallersStandInGroupsOfKeys =
    (o : Opening) (t : Execution) → Valid o t → (caller group : ℕ) → IsCaller o caller →
    stands_in caller group t ≡ true → IsStandingPlace o caller group t

-- ---- loads where a hand may walk ----

-- a hand that may walk a group may load its next word, whatever it finds
abbrev pub NextWordsAreReachable : Type 0
NextWordsAreReachable =
    (o : Opening) (t : Execution) → Valid o t → (hand group found : ℕ) →
    MayWalk o hand group t → next_of o group t ≡ found → MayLoadNext o hand group found t

-- a caller that may walk a group may load its phase word, which is true
abbrev pub PhasesWhereCallersStand : Type 0
PhasesWhereCallersStand =
    (o : Opening) (t : Execution) → Valid o t → (caller group found : ℕ) → IsCaller o caller →
    MayWalk o caller group t → word o t (Header group header.Phase) ≡ found →
    MayLoadPhase o caller group found t

-- where a caller stands the buffer is walkable
abbrev pub BuffersWhereCallersStand : Type 0
BuffersWhereCallersStand =
    (o : Opening) (t : Execution) → Valid o t → (caller group : ℕ) → IsCaller o caller →
    stands_in caller group t ≡ true → IsWalkable o group t

-- ---- groups that answer, or did ----

-- where a caller stands in one, its next word says where its keys end
abbrev pub GroupsLeadOn : Type 0
GroupsLeadOn =
    (o : Opening) (t : Execution) → Valid o t → (caller group k : ℕ) → IsCaller o caller →
    stands_in caller group t ≡ true → k ≤ greatest_key → AnswersFor o k group t →
    LeadsOn o caller group k t

-- and its pivot is the least of its keys
abbrev pub PivotsAreLeastKeys : Type 0
PivotsAreLeastKeys =
    (o : Opening) (t : Execution) → Valid o t → (caller group k : ℕ) → IsCaller o caller →
    stands_in caller group t ≡ true → k ≤ greatest_key → AnswersFor o k group t →
    StartsAtPivot o group k t

-- the next group's pivot is greater
abbrev pub NextPivotsAreGreater : Type 0
NextPivotsAreGreater =
    (o : Opening) (t : Execution) → Valid o t → (caller group next k : ℕ) → IsCaller o caller →
    stands_in caller group t ≡ true → k ≤ greatest_key → AnswersFor o k group t →
    next_of o group t ≡ next + 1 → pivot_of o group t < pivot_of o next t

-- it goes on to answer, or to have answered, while the caller stands there
abbrev pub AnswersStay : Type 0
AnswersStay =
    (o : Opening) (caller group k : ℕ) → IsCaller o caller → (newer t : Execution) →
    Valid o (newer ++ t) → StaysInside caller newer → stands_in caller group t ≡ true →
    AnswersFor o k group t → AnswersFor o k group (newer ++ t)

-- and keeps its pivot
abbrev pub PivotsStay : Type 0
PivotsStay =
    (o : Opening) (caller group : ℕ) → IsCaller o caller → (newer t : Execution) →
    Valid o (newer ++ t) → StaysInside caller newer → stands_in caller group t ≡ true →
    pivot_of o group (newer ++ t) ≡ pivot_of o group t

-- one that is not opened at a later moment of the read section answered at this one
abbrev pub AnswersWhileUnopened : Type 0
AnswersWhileUnopened =
    (o : Opening) (caller group k : ℕ) → IsCaller o caller → (newer t : Execution) →
    Valid o (newer ++ t) → StaysInside caller newer → stands_in caller group t ≡ true →
    AnswersFor o k group t → IsUnopened group (newer ++ t) → group_of o k t ≡ group

-- ---- walks ----

-- a walk begins at the group of a slot of the key's part whose pivot is at most the key
abbrev pub WalksBegin : Type 0
WalksBegin =
    (o : Opening) (caller part side i group k : ℕ) → IsCaller o caller → IsPart o part →
    IsKeyIn o part k → (t : Execution) →
    Valid o (event caller (LoadSlotGroup part side i group) ∷ t) →
    word o t (SlotPivot part side i) ≤ k →
    BeginsBefore o k group (event caller (LoadSlotGroup part side i group) ∷ t)
    × (stands_in caller group (event caller (LoadSlotGroup part side i group) ∷ t) ≡ true)

-- it goes on to the next group where the pivot of this is at most the key, and else has come to a
-- group that answers for the key, or did
abbrev pub WalksGoOn : Type 0
WalksGoOn =
    (o : Opening) (caller group next k : ℕ) → IsCaller o caller → k ≤ greatest_key →
    (newer t : Execution) → Valid o (newer ++ (event caller (LoadNext group (next + 1)) ∷ t)) →
    StaysInside caller newer → BeginsBefore o k group t →
    (pivot_of o next (newer ++ (event caller (LoadNext group (next + 1)) ∷ t)) ≤ k →
    BeginsBefore o k next (newer ++ (event caller (LoadNext group (next + 1)) ∷ t))
    × (stands_in caller next (newer ++ (event caller (LoadNext group (next + 1)) ∷ t)) ≡ true))
    × (k < pivot_of o next (newer ++ (event caller (LoadNext group (next + 1)) ∷ t)) →
    AnswersFor o k group (newer ++ (event caller (LoadNext group (next + 1)) ∷ t)))

-- so it has where there is no next group
abbrev pub WalksEnd : Type 0
WalksEnd =
    (o : Opening) (caller group k : ℕ) → IsCaller o caller → k ≤ greatest_key → (t : Execution) →
    Valid o (event caller (LoadNext group 0) ∷ t) → BeginsBefore o k group t →
    AnswersFor o k group (event caller (LoadNext group 0) ∷ t)

-- ---- walks along the new groups ----

-- while a rebuild is under way, the next word of a new group says where the keys end for which it
-- is awaited
abbrev pub NewGroupsLeadOn : Type 0
NewGroupsLeadOn =
    (o : Opening) (t : Execution) → Valid o t → (first group k : ℕ) → IsUnderWay o first t →
    rebuild group t ≡ Some first → successor k t ≡ Some group → NewLeadsOn o first group k t

-- a caller of a key's group, or of the one before, that is opened to a rebuild begins a walk at the
-- rebuild's first group
abbrev pub NewWalksBegin : Type 0
NewWalksBegin =
    (o : Opening) (t : Execution) → Valid o t → (caller old first k : ℕ) → IsCaller o caller →
    stands_in caller old t ≡ true → phase old t ≡ Opened first → AnswersFor o k old t →
    BeginsBeforeNew o old first k first t

-- it goes on to the next group where the pivot of this is at most the key, and else has come to the
-- new group of the key
abbrev pub NewWalksGoOn : Type 0
NewWalksGoOn =
    (o : Opening) (caller old first group next k : ℕ) → IsCaller o caller → k ≤ greatest_key →
    (newer t : Execution) → Valid o (newer ++ (event caller (LoadNext group (next + 1)) ∷ t)) →
    StaysInside caller newer → stands_in caller old t ≡ true → phase old t ≡ Opened first →
    BeginsBeforeNew o old first k group t →
    (pivot_of o next (newer ++ (event caller (LoadNext group (next + 1)) ∷ t)) ≤ k →
    BeginsBeforeNew o old first k next (newer ++ (event caller (LoadNext group (next + 1)) ∷ t))
    × (stands_in caller next (newer ++ (event caller (LoadNext group (next + 1)) ∷ t)) ≡ true))
    × (k < pivot_of o next (newer ++ (event caller (LoadNext group (next + 1)) ∷ t)) →
    AnswersForNew o old k group (newer ++ (event caller (LoadNext group (next + 1)) ∷ t)))

-- so it has where there is no next group
abbrev pub NewWalksEnd : Type 0
NewWalksEnd =
    (o : Opening) (caller old first group k : ℕ) → IsCaller o caller → k ≤ greatest_key →
    (t : Execution) → Valid o (event caller (LoadNext group 0) ∷ t) →
    stands_in caller old t ≡ true → phase old t ≡ Opened first →
    BeginsBeforeNew o old first k group t →
    AnswersForNew o old k group (event caller (LoadNext group 0) ∷ t)

-- while the caller stands in the old group, through the install, both stay
abbrev pub NewWalksStay : Type 0
NewWalksStay =
    (o : Opening) (caller old first k group : ℕ) → IsCaller o caller → (newer t : Execution) →
    Valid o (newer ++ t) → StaysInside caller newer → stands_in caller old t ≡ true →
    phase old t ≡ Opened first →
    (phase old (newer ++ t) ≡ Opened first)
    × ((BeginsBeforeNew o old first k group t → BeginsBeforeNew o old first k group (newer ++ t))
    × (AnswersForNew o old k group t → AnswersForNew o old k group (newer ++ t)))

-- the caller is then behind the new group, which this rebuild made
abbrev pub NewAnswersAreBehind : Type 0
NewAnswersAreBehind =
    (o : Opening) (t : Execution) → Valid o t → (caller old first k new : ℕ) → IsCaller o caller →
    stands_in caller old t ≡ true → phase old t ≡ Opened first → AnswersForNew o old k new t →
    IsBehind o t old first new k × (rebuild new t ≡ Some first)
