-- What the words lead a caller to: from the root to a slot, from there to a group, and along next
-- words to the group of its key.
use Rattle.index_machine.specs.Keepers.{IsPart, IsKeyIn, first_key}
use Rattle.machine_chain.specs.Chain.{start_of, end_of}
use Rattle.std.specs.Prelude.{◌≡◌, ◌⊎◌, ℕ, ◌+◌, ◌<◌, ◌≤◌, true, Some}
use Rattle.word_layout.specs.Words.{SlotPivot}
use Rattle.index_machine.specs.declared.opening.Opening.{Opening}
use Rattle.index_machine.specs.Execution.{Execution}
use Rattle.index_machine.specs.Words.{word}
use Rattle.index_machine.specs.Sections.{IsCaller}
use Rattle.index_machine.specs.Groups.{rebuild, slot, root, IsInUse}
use Rattle.index_machine.specs.KeyRanges.{group_of, successor, predecessor}
use Rattle.index_machine.specs.Reaching.{root_seen, saw_opened}
use Rattle.index_machine.specs.Permissions.{IsReachable, IsReadableSlot}
use Rattle.index_machine.specs.RebuildConditions.{HasNewGroup}
use Rattle.machine_chain.specs.Chain.{IsUnderWay, next_of, pivot_of}

-- ---- groups ----

-- the group answers for the key, or did before the key's last install
abbrev pub AnswersFor : Opening → ℕ → ℕ → Execution → Type 0
AnswersFor o k group t = (group_of o k t ≡ group) ⊎ (predecessor o k t ≡ Some group)

-- it answers, or did, for a key of the same part at or before this one
abbrev pub BeginsBefore : Opening → ℕ → ℕ → Execution → Type 0
BeginsBefore o k group t =
    (j : ℕ) × (j ≤ k) × AnswersFor o j group t × (start_of o k ≤ j)

-- a new group, not installed yet, to which an opened phase led the caller
abbrev pub IsAwaitedBy : Opening → ℕ → ℕ → Execution → Type 0
IsAwaitedBy o caller group t =
    (first : ℕ) × (k : ℕ) × (saw_opened caller first t ≡ true) × (rebuild group t ≡ Some first)
    × (successor k t ≡ Some group) × IsUnderWay o first t

-- where a caller comes to stand
abbrev pub IsStandingPlace : Opening → ℕ → ℕ → Execution → Type 0
IsStandingPlace o caller group t =
    ((k : ℕ) × AnswersFor o k group t) ⊎ IsAwaitedBy o caller group t

-- ---- slots ----

-- the pivot of a slot
abbrev pub slot_pivot : Opening → ℕ → ℕ → ℕ → Execution → ℕ
slot_pivot o part side i t = word o t (SlotPivot part side i)

-- the root word of a part, or one that a caller loaded as this root word last
abbrev pub IsRootWord : Opening → ℕ → ℕ → Execution → Type 0
IsRootWord o part w t =
    (root o part t ≡ w) ⊎ ((caller : ℕ) × IsCaller o caller × (root_seen caller part t ≡ Some w))

-- the group answers, or did, for a key of the part at or before this one
abbrev pub BeginsInPart : Opening → ℕ → ℕ → ℕ → Execution → Type 0
BeginsInPart o part pivot group t =
    (j : ℕ) × (j ≤ pivot) × AnswersFor o j group t × IsKeyIn o part j

-- the slots of a part that can be loaded lead to groups of keys of the part, at or before their pivots
pub record SlotsLead (o : Opening) (t : Execution) : Type 0 where
  pub leads : (part side i : ℕ) → IsPart o part → IsReadableSlot o part side i t →
      BeginsInPart o part (slot_pivot o part side i t) (slot o part side i t) t
  pub least : (part w side : ℕ) → IsRootWord o part w t → IsInUse w side 0 →
      slot_pivot o part side 0 t ≡ first_key o part
  pub rising : (part w side i : ℕ) → IsRootWord o part w t → IsInUse w side (i + 1) →
      slot_pivot o part side i t < slot_pivot o part side (i + 1) t

-- ---- pivots ----

-- the group answers, or did, for all keys from its pivot to this one
pub record StartsAtPivot (o : Opening) (group k : ℕ) (t : Execution) : Type 0 where
  pub low : pivot_of o group t ≤ k
  pub all : (m : ℕ) → pivot_of o group t ≤ m → m ≤ k → AnswersFor o m group t

-- ---- next words ----

-- what the next word of a group says, where the group answers for this key, or did
pub record LeadsOn (o : Opening) (caller group k : ℕ) (t : Execution) : Type 0 where
  -- no next group: it answers for all keys from there
  pub end : next_of o group t ≡ 0 → (m : ℕ) → k ≤ m → m ≤ end_of o k → AnswersFor o m group t
  -- a next group: it begins at its pivot, and all keys from there to it are this group's
  pub next : (n : ℕ) → next_of o group t ≡ n + 1 →
      (i : ℕ) × (k ≤ i) × (i < end_of o k) × (pivot_of o n t ≡ i + 1)
      × AnswersFor o (i + 1) n t
      × ((m : ℕ) → k ≤ m → m ≤ i → AnswersFor o m group t)
  pub reach : (n : ℕ) → next_of o group t ≡ n + 1 → IsReachable o caller n t

-- ---- new groups ----

-- what the next word of a new group says of the keys for which it is awaited, from this one on
pub record NewLeadsOn (o : Opening) (first group k : ℕ) (t : Execution) : Type 0 where
  -- no next group: it is awaited for all keys from there
  pub end : next_of o group t ≡ 0 → (m : ℕ) → k ≤ m → m ≤ end_of o k → successor m t ≡ Some group
  -- a next group: the rebuild's new group of the key behind, which is its pivot, or where this key
  -- has none the group that answers for it
  pub next : (n : ℕ) → next_of o group t ≡ n + 1 →
      (i : ℕ) × (k ≤ i) × (i < end_of o k)
      × (((successor (i + 1) t ≡ Some n) × (rebuild n t ≡ Some first) × (pivot_of o n t ≡ i + 1))
      ⊎ ((HasNewGroup first (i + 1) t → ⊥) × (group_of o (i + 1) t ≡ n)))
      × ((m : ℕ) → k ≤ m → m ≤ i → successor m t ≡ Some group)

-- ---- the new groups, for a caller of an old one ----

-- the new group begins at or before the key, for a caller of the key's old group, which was opened
-- to this rebuild: before the install, or after it
abbrev pub BeginsBeforeNew : Opening → ℕ → ℕ → ℕ → ℕ → Execution → Type 0
BeginsBeforeNew o old first k new t =
    ((j : ℕ) × (group_of o k t ≡ old) × (pivot_of o first t ≤ j) × (j ≤ k)
    × (successor j t ≡ Some new) × (rebuild new t ≡ Some first))
    ⊎ ((j : ℕ) × (predecessor o k t ≡ Some old) × (j ≤ k) × (group_of o j t ≡ new)
    × (start_of o k ≤ j))

-- the new group is the key's
abbrev pub AnswersForNew : Opening → ℕ → ℕ → ℕ → Execution → Type 0
AnswersForNew o old k new t =
    ((group_of o k t ≡ old) × (successor k t ≡ Some new))
    ⊎ ((predecessor o k t ≡ Some old) × (group_of o k t ≡ new))
