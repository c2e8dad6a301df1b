use Rattle.std.specs.Prelude.{◌≡◌, ℕ, ◌+◌, ◌-◌, ◌*◌, ◌/◌, ◌<◌, ◌≤◌, min, max}
use Rattle.std.specs.Int.{div_ceil}

-- ---- the new groups ----

-- the most records that a new group is given: three quarters of its places
abbrev pub fill_limit : ℕ → ℕ
fill_limit group_size = 3 * group_size / 4

-- how many groups the records are rebuilt into: as few as the fill limit allows, and at least one
abbrev pub group_count : ℕ → ℕ → ℕ
group_count records group_size = max 1 (div_ceil records (fill_limit group_size))

-- how many records a group is given: an equal part of them all, rounded up
abbrev pub share_of : ℕ → ℕ → ℕ
share_of records groups = div_ceil records groups

-- the number, in key order, of the record at which a group begins
abbrev pub first_record : ℕ → ℕ → ℕ
first_record share group = group * share

-- the number after that of a group's last record; the last groups may get less than a share
abbrev pub records_end : ℕ → ℕ → ℕ → ℕ
records_end records share group = min records ((group + 1) * share)

-- how many records a group gets
abbrev pub record_count : ℕ → ℕ → ℕ → ℕ
record_count records share group = records_end records share group - first_record share group

-- the record with this number goes into this group
pub record IsGivenTo (records share number group : ℕ) : Type 0 where
  pub begins : first_record share group ≤ number
  pub ends : number < records_end records share group

-- each record goes into one group and no other, and no group gets more than a share
pub record DividesRecords (records groups share : ℕ) : Type 0 where
  pub given : (number : ℕ) → number < records →
      (group : ℕ) × (group < groups) × IsGivenTo records share number group
  pub once : (number one other : ℕ) → IsGivenTo records share number one →
      IsGivenTo records share number other → one ≡ other
  pub bounded : (group : ℕ) → record_count records share group ≤ share

-- ---- the lanes of a group ----

-- the most lanes that a group's buffer has
abbrev pub most_lanes : ℕ
most_lanes = 8

-- how many of a group's records a lane has at most: as few as the most lanes allow, and at least one
abbrev pub lane_width : ℕ → ℕ
lane_width records = max 1 (div_ceil records most_lanes)

-- how many lanes a group with so many records has: as few as the width allows, and at least one
abbrev pub lane_count : ℕ → ℕ
lane_count records = max 1 (div_ceil records (lane_width records))

-- ---- when a group is rebuilt ----

-- the group's buffer has as many rows as make a rebuild worth while
abbrev pub IsDue : ℕ → ℕ → Type 0
IsDue rows due = due ≤ rows

-- the most live records with which a group may merge: an eighth of its places
abbrev pub merge_limit : ℕ → ℕ
merge_limit group_size = group_size / 8

-- two neighbours have so few live records that they may become one group
abbrev pub CanMerge : ℕ → ℕ → ℕ → Type 0
CanMerge live next_live group_size =
    (live ≤ merge_limit group_size) × (next_live ≤ merge_limit group_size)

-- ---- the root ----

-- how many groups lie between one slot and the next: the fewest for which the slots suffice
abbrev pub step_of : ℕ → ℕ → ℕ
step_of groups slots = div_ceil groups slots

-- how many slots a root with this step has
abbrev pub slot_count : ℕ → ℕ → ℕ
slot_count groups step = div_ceil groups step

-- the number, in chain order, of the group that a slot names
abbrev pub slot_group : ℕ → ℕ → ℕ
slot_group step slot = slot * step

-- the slot names a group, and each group is less than a step after one that a slot names
pub record ReachesGroups (groups step : ℕ) : Type 0 where
  pub names : (slot : ℕ) → slot < slot_count groups step → slot_group step slot < groups
  pub reaches : (group : ℕ) → group < groups → (slot : ℕ) × (slot < slot_count groups step)
      × (slot_group step slot ≤ group) × (group < slot_group step (slot + 1))
