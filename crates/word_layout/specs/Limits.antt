-- How many words a table has, and the rules that its sizes must keep.
use Rattle.std.specs.Prelude.{◌≡◌, ℕ, ◌+◌, ◌-◌, ◌*◌, ◌<◌, ◌≤◌, Bool, true, false, ◌&&◌, nat_le, List, [], ◌∷◌, slice_index_or}
use Rattle.word_layout.specs.declared.limits.Limits.{Limits}
use Rattle.word_layout.specs.Headers.{header_words}
use Rattle.word_layout.specs.Shape.{Shape, parts_in, group_total, in_one_part}

-- ---- how many words there are ----

-- the words of one group row: its header, and four words for each place of its array
abbrev pub group_words_of : Limits → ℕ
group_words_of l = header_words + 4 * l.group_size

-- the words of the table: the free head, a root word of each part, the epochs, two sides of each part's root, the
-- groups, and the rows
abbrev pub word_count : Shape → ℕ
word_count s =
    1 + parts_in s + s.limits.callers + parts_in s * (4 * s.limits.slots)
    + group_total s * group_words_of s.limits + 4 * s.limits.records

-- ---- the rules ----

-- whether a value lies between these two, both included
abbrev pub is_within : ℕ → ℕ → ℕ → Bool
is_within least value most = nat_le least value && nat_le value most

-- whether each rule is kept, in the order of their numbers, which count from 1
abbrev pub rules_in : Shape → List Bool
rules_in s =
    is_within 1 s.limits.callers 64
    ∷ is_within 2 s.limits.records 16777216
    ∷ is_within 2 s.limits.groups 65536
    ∷ is_within 8 s.limits.group_size 1024
    ∷ is_within 1 s.limits.slots 4096
    ∷ is_within 1 s.limits.due s.limits.group_size
    ∷ is_within 1 s.limits.help 1048576
    ∷ is_within 1 s.limits.chain 4096
    ∷ nat_le s.limits.first_version 1152921504606846975
    ∷ nat_le (word_count s) 268435456
    ∷ []

-- the rule with this number is broken, and those before it are kept
pub record IsFirstBrokenIn (s : Shape) (number : ℕ) : Type 0 where
  pub counted : 1 ≤ number
  pub broken : slice_index_or (rules_in s) (number - 1) true ≡ false
  pub kept_before : (k : ℕ) → k < number - 1 → slice_index_or (rules_in s) k false ≡ true

-- all rules are kept: what each of them says of the numbers
pub record KeepsRulesIn (s : Shape) : Type 0 where
  pub least_callers : 1 ≤ s.limits.callers
  pub most_callers : s.limits.callers ≤ 64
  pub least_records : 2 ≤ s.limits.records
  pub most_records : s.limits.records ≤ 16777216
  pub least_groups : 2 ≤ s.limits.groups
  pub most_groups : s.limits.groups ≤ 65536
  pub least_group_size : 8 ≤ s.limits.group_size
  pub most_group_size : s.limits.group_size ≤ 1024
  pub least_slots : 1 ≤ s.limits.slots
  pub most_slots : s.limits.slots ≤ 4096
  pub least_due : 1 ≤ s.limits.due
  pub most_due : s.limits.due ≤ s.limits.group_size
  pub least_help : 1 ≤ s.limits.help
  pub most_help : s.limits.help ≤ 1048576
  pub least_chain : 1 ≤ s.limits.chain
  pub most_chain : s.limits.chain ≤ 4096
  pub most_first_version : s.limits.first_version ≤ 1152921504606846975
  pub most_words : word_count s ≤ 268435456

-- ---- one part ----

-- the rule with this number is the first that is broken, where there is one part
abbrev pub IsFirstBroken : Limits → ℕ → Type 0
IsFirstBroken l number = IsFirstBrokenIn (in_one_part l) number

-- all rules are kept, where there is one part
abbrev pub KeepsRules : Limits → Type 0
KeepsRules l = KeepsRulesIn (in_one_part l)
