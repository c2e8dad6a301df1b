-- What the keeper may conclude of the chain and of rebuilds under way.
use Rattle.index_machine.specs.Keepers.{IsPart, IsKeyIn, IsPartKeeper, part_of, first_key}
use Rattle.machine_chain.specs.Chain.{end_of}
use Rattle.index_machine.specs.RebuildConditions.{part_of_spot}
use Rattle.std.specs.Prelude.{◌≡◌, ◌≢◌, ℕ, ◌+◌, ◌<◌, ◌≤◌, ◌++◌, [], ◌∷◌}
use Rattle.word_layout.specs.declared.headers.HeaderWord.{HeaderWord}
use Rattle.word_layout.specs.declared.headers.HeaderWord.TheVariants as header
use Rattle.word_layout.specs.declared.phase.Phase.TheVariants.{Opened}
use Rattle.word_layout.specs.Words.{Header}
use Rattle.index_machine.specs.declared.events.Action.{Action}
use Rattle.index_machine.specs.declared.events.Action.TheVariants.{Install, StoreOpened}
use Rattle.index_machine.specs.declared.events.InstallWord.{InstallWord}
use Rattle.index_machine.specs.declared.opening.Opening.{Opening}
use Rattle.index_machine.specs.Execution.{Execution, Without, event}
use Rattle.index_machine.specs.Lanes.{begun_word}
use Rattle.index_machine.specs.Words.{limits, word}
use Rattle.word_layout.specs.Parts.{greatest_key}
use Rattle.index_machine.specs.Groups.{IsInUse, phase, rebuild, root, slot}
use Rattle.index_machine.specs.KeyRanges.{group_of, predecessor, successor}
use Rattle.index_machine.specs.RebuildConditions.{IsNextWord}
use Rattle.index_machine.specs.Conditions.{Valid}
use Rattle.machine_buffers.specs.Groups.{IsOfAKey}
use Rattle.machine_chain.specs.Chain.{next_of, pivot_of}
use Rattle.machine_chain.specs.Walks.{slot_pivot}

-- no group of the part's chain is opened to a rebuild
abbrev pub IsIdle : Opening → ℕ → Execution → Type 0
IsIdle o part t = (k first : ℕ) → IsKeyIn o part k → phase (group_of o k t) t ≢ Opened first

-- the action opens no group
abbrev pub OpensNoGroup : Action → Type 0
OpensNoGroup (StoreOpened group first) = ⊥
OpensNoGroup _ = Unit {0}

-- the part's keeper opened no group by these events
abbrev pub KeeperOpensNone : Opening → ℕ → Execution → Type 0
KeeperOpensNone o part [] = Unit {0}
KeeperOpensNone o part (e ∷ newer) =
    (IsPartKeeper o e.by part → OpensNoGroup e.action) × KeeperOpensNone o part newer

-- what the next word of a group of the chain says of its keys from this one on
pub record EndsWhere (o : Opening) (group k : ℕ) (t : Execution) : Type 0 where
  pub end : next_of o group t ≡ 0 → (m : ℕ) → k ≤ m → m ≤ end_of o k → group_of o m t ≡ group
  pub next : (n : ℕ) → next_of o group t ≡ n + 1 →
      (i : ℕ) × (k ≤ i) × (i < end_of o k) × (pivot_of o n t ≡ i + 1)
      × (group_of o (i + 1) t ≡ n) × ((m : ℕ) → k ≤ m → m ≤ i → group_of o m t ≡ group)

-- the header word is the head of a lane
abbrev pub IsHeadWord : HeaderWord → Type 0
IsHeadWord (header.Head lane) = Unit {0}
IsHeadWord _ = ⊥

-- the part's key ranges, the phases of its groups, its root, the lanes with which its groups were begun, and the words
-- that lead through them are the same at the later execution; so are all words of headers of its groups, but for
-- heads where callers may insert
pub record IsSameStructure (o : Opening) (part : ℕ) (earlier later : Execution) : Type 0 where
  pub groups : (k : ℕ) → IsKeyIn o part k → group_of o k later ≡ group_of o k earlier
  pub news : (k : ℕ) → IsKeyIn o part k → successor k later ≡ successor k earlier
  pub olds : (k : ℕ) → IsKeyIn o part k → predecessor o k later ≡ predecessor o k earlier
  pub phases : (group : ℕ) → part_of o group ≡ part → phase group later ≡ phase group earlier
  pub rebuilds : (group : ℕ) → part_of o group ≡ part → rebuild group later ≡ rebuild group earlier
  pub slots : (side i : ℕ) → slot o part side i later ≡ slot o part side i earlier
  pub root_word : root o part later ≡ root o part earlier
  pub nexts : (group : ℕ) → part_of o group ≡ part → next_of o group later ≡ next_of o group earlier
  pub pivots : (group : ℕ) → part_of o group ≡ part →
      pivot_of o group later ≡ pivot_of o group earlier
  pub slot_pivots : (side i : ℕ) → slot_pivot o part side i later ≡ slot_pivot o part side i earlier
  pub begun_words : (group : ℕ) (which : HeaderWord) → part_of o group ≡ part →
      begun_word o group which later ≡ begun_word o group which earlier
  pub header_words : (group : ℕ) (which : HeaderWord) → part_of o group ≡ part →
      (IsHeadWord which → ⊥) →
      word o later (Header group which) ≡ word o earlier (Header group which)
  pub head_words : (group lane : ℕ) → part_of o group ≡ part → (IsOfAKey o group earlier → ⊥) →
      word o later (Header group (header.Head lane))
      ≡ word o earlier (Header group (header.Head lane))

-- ---- the laws, over all executions ----

-- the part's keeper alone changes any of it, so it knows all of it by its own events
abbrev pub KeepersAloneChangeStructure : Type 0
KeepersAloneChangeStructure =
    (o : Opening) (part : ℕ) (newer t : Execution) → IsPart o part → Valid o (newer ++ t) →
    Without ((limits o).callers + part) newer → IsSameStructure o part t (newer ++ t)

-- the next word of a group of the chain names the group of the key after its range
abbrev pub NextWordsOfTheChain : Type 0
NextWordsOfTheChain =
    (o : Opening) (t : Execution) → Valid o t → (group k : ℕ) → k ≤ greatest_key →
    group_of o k t ≡ group → EndsWhere o group k t

-- along next words the pivots of the chain rise
abbrev pub PivotsOfTheChainRise : Type 0
PivotsOfTheChainRise =
    (o : Opening) (t : Execution) → Valid o t → (group next k : ℕ) → k ≤ greatest_key →
    group_of o k t ≡ group → next_of o group t ≡ next + 1 → pivot_of o group t < pivot_of o next t

-- at the last key of a group its next word is that of a group whose keys end there: so the last new
-- group takes that of the last old one
abbrev pub LastKeysHaveNextWords : Type 0
LastKeysHaveNextWords =
    (o : Opening) (t : Execution) → Valid o t → (group k : ℕ) → k ≤ greatest_key →
    group_of o k t ≡ group → (k < end_of o k → group_of o (k + 1) t ≢ group) →
    IsNextWord o t (part_of o group) k (next_of o group t)

-- from an install on no rebuild is under way in its part, until a group is opened there
abbrev pub InstallsEndRebuilds : Type 0
InstallsEndRebuilds =
    (o : Opening) (by : ℕ) (at : InstallWord) (first low high : ℕ) (newer t : Execution) →
    Valid o (newer ++ (event by (Install at first low high) ∷ t)) →
    KeeperOpensNone o (part_of_spot o at) newer →
    IsIdle o (part_of_spot o at) (newer ++ (event by (Install at first low high) ∷ t))

-- nor at first
abbrev pub NoRebuildIsUnderWayAtFirst : Type 0
NoRebuildIsUnderWayAtFirst =
    (o : Opening) (part : ℕ) (t : Execution) → IsPart o part → Valid o t →
    KeeperOpensNone o part t → IsIdle o part t

-- the chain of a part begins at the group of the first slot in use of its root
abbrev pub TheChainBeginsAtTheFirstSlot : Type 0
TheChainBeginsAtTheFirstSlot =
    (o : Opening) (t : Execution) → Valid o t → (part side : ℕ) → IsPart o part →
    IsInUse (root o part t) side 0 → slot o part side 0 t ≡ group_of o (first_key o part) t
