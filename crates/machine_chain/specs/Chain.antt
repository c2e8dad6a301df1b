-- The chain of the groups through their next words and pivots, at every stage of a rebuild.
--
-- The fact to remember: where the group changes from one key to the next, the one group's next word
-- names the other, whose pivot is this key.
use Rattle.index_machine.specs.Keepers.{first_key, last_key, part_of}
use Rattle.word_layout.specs.Parts.{part_with}
use Rattle.std.specs.Prelude.{◌≡◌, ◌≢◌, ◌⊎◌, ℕ, ◌+◌, ◌<◌, ◌≤◌, cond, Option, Some, None}
use Rattle.word_layout.specs.declared.headers.HeaderWord.TheVariants as header
use Rattle.word_layout.specs.declared.phase.Phase.{Phase}
use Rattle.word_layout.specs.declared.phase.Phase.TheVariants.{Opened}
use Rattle.word_layout.specs.Words.{Header}
use Rattle.word_layout.specs.Shape.{group_total}
use Rattle.index_machine.specs.declared.opening.Opening.{Opening}
use Rattle.index_machine.specs.Execution.{Execution}
use Rattle.index_machine.specs.Words.{shape, word}
use Rattle.word_layout.specs.Parts.{greatest_key}
use Rattle.index_machine.specs.Groups.{phase, rebuild}
use Rattle.index_machine.specs.KeyRanges.{group_of, successor, predecessor}
use Rattle.index_machine.specs.Permissions.{AreGone}
use Rattle.index_machine.specs.RebuildConditions.{AreChained, HasNewGroup, IsBehindFirst}
use Rattle.index_machine.specs.RebuildConditions.{IsNextWord}
use Rattle.index_machine.specs.Represents.{is_opened_to}
use Rattle.index_machine.specs.Conditions.{Valid}

-- ---- words ----

-- the next word of a group
abbrev pub next_of : Opening → ℕ → Execution → ℕ
next_of o group t = word o t (Header group header.Next)

-- its pivot word
abbrev pub pivot_of : Opening → ℕ → Execution → ℕ
pivot_of o group t = word o t (Header group header.Pivot)

-- ---- the part of a key ----

-- the least key of the part that has a key
abbrev pub start_of : Opening → ℕ → ℕ
start_of o k = first_key o (part_with (shape o).bounds k)

-- the greatest key of the part that has a key
abbrev pub end_of : Opening → ℕ → ℕ
end_of o k = last_key o (part_with (shape o).bounds k)

-- ---- groups of the chain ----

-- the groups of each part's chain lead from key range to key range, from the part's least key to its greatest
pub record IsChained (o : Opening) (t : Execution) : Type 0 where
  pub next : (k g h : ℕ) → k < end_of o k → group_of o k t ≡ g → group_of o (k + 1) t ≡ h →
      g ≢ h → (next_of o g t ≡ h + 1) × (pivot_of o h t ≡ k + 1)
  pub first : (k g : ℕ) → k ≡ start_of o k → group_of o k t ≡ g → pivot_of o g t ≡ k
  pub last : (k g : ℕ) → k ≡ end_of o k → group_of o k t ≡ g → next_of o g t ≡ 0

-- keys have groups of the table; what is no key has none
pub record KeysHaveGroups (o : Opening) (t : Execution) : Type 0 where
  pub beyond : (k : ℕ) → greatest_key < k → group_of o k t ≡ group_total (shape o)
  pub within : (k : ℕ) → k ≤ greatest_key → group_of o k t < group_total (shape o)
  pub new : (k g : ℕ) → successor k t ≡ Some g → (k ≤ greatest_key) × (g < group_total (shape o))
  pub none_behind : next_of o (group_total (shape o)) t ≡ 0
  pub old : (k g : ℕ) → predecessor o k t ≡ Some g → k ≤ greatest_key

-- ---- a rebuild under way ----

-- a group of the chain is opened to this rebuild
abbrev pub IsUnderWay : Opening → ℕ → Execution → Type 0
IsUnderWay o first t = (k : ℕ) × (phase (group_of o k t) t ≡ Opened first)

-- what stands while a rebuild is under way, from its first opened group to its install
pub record UnderWayHolds (o : Opening) (first : ℕ) (t : Execution) : Type 0 where
  -- what is opened in the part is of this rebuild and in the chain, or all of its rebuild is gone
  pub alone : (group f : ℕ) → part_of o group ≡ part_of o first → phase group t ≡ Opened f →
      ((f ≡ first) × ((k : ℕ) × (group_of o k t ≡ group))) ⊎ AreGone o f t
  pub planned : (k : ℕ) → phase (group_of o k t) t ≡ Opened first → HasNewGroup first k t
  pub unchained : (k h : ℕ) → rebuild h t ≡ Some first → group_of o k t ≢ h
  pub behind : (k : ℕ) → phase (group_of o k t) t ≡ Opened first → IsBehindFirst o first k t
  pub chained : AreChained o first t
  pub ends : (k h : ℕ) → successor k t ≡ Some h → rebuild h t ≡ Some first →
      (HasNewGroup first (k + 1) t → ⊥) → IsNextWord o t (part_of o first) k (next_of o h t)

-- ---- the groups before an install ----

-- the group before, if it was opened to this rebuild, or else the group of the chain
abbrev pub before_or : ℕ → (ℕ → Phase) → Option ℕ → ℕ → ℕ
before_or first phases None group = group
before_or first phases (Some old) group = cond (is_opened_to first (phases old)) old group

-- the group that had a key before the install of this rebuild
abbrev pub group_before : Opening → ℕ → ℕ → Execution → ℕ
group_before o first k t = before_or first (λ g. phase g t) (predecessor o k t) (group_of o k t)

-- the group had the key before its last install, and was opened to this rebuild
abbrev pub IsOldOf : Opening → ℕ → ℕ → ℕ → Execution → Type 0
IsOldOf o first k group t = (predecessor o k t ≡ Some group) × (phase group t ≡ Opened first)

-- the old groups of a rebuild lead as they did before the install
pub record OldAreChained (o : Opening) (first : ℕ) (t : Execution) : Type 0 where
  pub next : (k g h : ℕ) → k < end_of o k → IsOldOf o first k g t →
      group_before o first (k + 1) t ≡ h → g ≢ h →
      (next_of o g t ≡ h + 1) × (pivot_of o h t ≡ k + 1)
  pub left : (k g : ℕ) → k < end_of o k → IsOldOf o first (k + 1) g t →
      group_before o first k t ≢ g → pivot_of o g t ≡ k + 1
  pub least : (k g : ℕ) → k ≡ start_of o k → IsOldOf o first k g t → pivot_of o g t ≡ k
  pub last : (k g : ℕ) → k ≡ end_of o k → IsOldOf o first k g t → next_of o g t ≡ 0
  -- the rebuild's first group answers for keys of the part at or before each of theirs
  pub lead : (k g : ℕ) → IsOldOf o first k g t →
      (j : ℕ) × (j ≤ k) × (group_of o j t ≡ first) × (start_of o k ≤ j)

-- a group that had a key before answers for none
abbrev pub OldAreUnchained : Opening → Execution → Type 0
OldAreUnchained o t = (k g j : ℕ) → predecessor o k t ≡ Some g → group_of o j t ≢ g

-- ---- the laws, over all executions ----

-- the groups of each part's chain lead from key range to key range
abbrev pub GroupsAreChained : Type 0
GroupsAreChained = (o : Opening) (t : Execution) → Valid o t → IsChained o t

-- the pivot of a group of the chain is the least of its keys, which lie side by side
abbrev pub PivotsOfTheChainAreLeast : Type 0
PivotsOfTheChainAreLeast =
    (o : Opening) (t : Execution) → Valid o t → (group k : ℕ) → k ≤ greatest_key →
    group_of o k t ≡ group →
    (pivot_of o group t ≤ k)
    × ((m : ℕ) → pivot_of o group t ≤ m → m ≤ k → group_of o m t ≡ group)

-- keys have groups of the table, and what is no key has none
abbrev pub EachKeyHasAGroup : Type 0
EachKeyHasAGroup = (o : Opening) (t : Execution) → Valid o t → KeysHaveGroups o t

-- a rebuild under way has all its new groups, chained, and no other is under way in its part
abbrev pub RebuildsUnderWayHold : Type 0
RebuildsUnderWayHold =
    (o : Opening) (t : Execution) → Valid o t → (first : ℕ) → IsUnderWay o first t →
    UnderWayHolds o first t

-- the old groups of a rebuild lead as before, until all of them are gone
abbrev pub OldGroupsAreChained : Type 0
OldGroupsAreChained =
    (o : Opening) (t : Execution) → Valid o t → (first : ℕ) →
    AreGone o first t ⊎ OldAreChained o first t

-- a group that had a key before answers for none
abbrev pub OldGroupsAreUnchained : Type 0
OldGroupsAreUnchained = (o : Opening) (t : Execution) → Valid o t → OldAreUnchained o t
