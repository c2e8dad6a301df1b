-- What a scan finds: one answer after another, each a pair or a stretch without pairs.
--
-- The fact to remember: each answer locates the key from which it seeks, so where the answers end shows in the probes.
use Rattle.std.specs.Prelude.{ℕ, zero, suc, ◌+◌, ◌-◌, Bool, cond, ◌==◌, ◌&&◌, nat_lt, min}
use Rattle.std.specs.Prelude.{Option, Some, None, List, [], ◌∷◌, length, flat_map, sum_by, if◌then◌else◌}
use Rattle.map_model.specs.declared.calls.Near.{Near}
use Rattle.map_model.specs.declared.calls.Near.TheVariants.{Row, Gap}
use Rattle.map_model.specs.Map.{Map}
use Rattle.word_layout.specs.Parts.{greatest_key}
use Rattle.word_layout.specs.Shape.{Shape}
use Rattle.layout_model.specs.Calls.{probes_for_key, with_probes}
use Rattle.layout_model.specs.Cells.{key_from}
use Rattle.layout_model.specs.Groups.{Group, cuts_of, group_at, group_for, pivots_of}
use Rattle.layout_model.specs.Layout.{Layout, Part, behind, part_end, part_for}
use Rattle.layout_model.specs.Phase.{Phase, Open, Frozen, Opened}
use Rattle.layout_model.specs.Records.{Found, InArray, InBuffer, InNewBuffer, cells_for, live_record}
use Rattle.layout_model.specs.Stretches.{end_of}

-- ---- where stretches end ----

-- the last key of the group that has a key, by the last key of all the groups
abbrev pub group_end : List Group → ℕ → ℕ → ℕ
group_end groups last k = end_of (pivots_of groups) last k

-- the last key of the lane that has a key
abbrev pub lane_end : List Group → ℕ → ℕ → ℕ
lane_end groups last k = end_of (cuts_of (group_for groups k)) (group_end groups last k) k

-- the last key of the new groups: it is before the pivot of the group behind the old ones, or the part's last
abbrev pub coming_end : Part → ℕ → ℕ
coming_end p last =
    if nat_lt (behind p.span) (length p.chain) then (group_at p.chain (behind p.span)).pivot - 1
    else last

-- the last key of the new group's lane that is walked, or where none is, that of the part
abbrev pub new_lane_end : Phase → Part → ℕ → ℕ → ℕ
new_lane_end Open p last k = last
new_lane_end Frozen p last k = last
new_lane_end Opened p last k = lane_end p.coming (coming_end p last) k

-- how far the answer looks for a key: to the end of each lane that is walked, and of the group
abbrev pub walk_end : Part → ℕ → ℕ → ℕ
walk_end p last k =
    min (lane_end p.chain last k)
    (min (new_lane_end (group_for p.chain k).phase p last k) (group_end p.chain last k))

-- ---- one answer ----

-- the lesser of two keys, where there are any
abbrev pub lesser : Option ℕ → Option ℕ → Option ℕ
lesser None b = b
lesser (Some a) None = Some a
lesser (Some a) (Some b) = Some (min a b)

-- the least key not below this one of the records where its own may stand, removed or not
abbrev pub least_from : Part → ℕ → Option ℕ
least_from p k =
    lesser (key_from (cells_for p k InArray) k)
    (lesser (key_from (cells_for p k InBuffer) k) (key_from (cells_for p k InNewBuffer) k))

-- at the key itself: its value, or that it has none
abbrev pub near_at : ℕ → Option Found → Near
near_at k None = Gap k
near_at k (Some at) = Row k at.cell.value

-- what stands next from a key on, by the least key found and how far was looked
abbrev pub near_by : Part → ℕ → ℕ → Option ℕ → Near
near_by p reach k None = Gap reach
near_by p reach k (Some found) =
    cond (found == k) (near_at k (live_record p k)) (Gap (min (found - 1) reach))

-- what stands next from a key on
abbrev pub near_from : Shape → Layout → ℕ → Near
near_from h s k =
    let p = part_for h s k in near_by p (walk_end p (part_end h k) k) k (least_from p k)

-- ---- a scan ----

-- one answer of a scan: the key from which it seeks, and what stands next
pub record Answer : Type 0 where
  pub from : ℕ
  pub near : Near

-- where an answer ends
abbrev pub answer_end : Near → ℕ
answer_end (Row k v) = k
answer_end (Gap hi) = hi

-- how many of so many pairs are still to be found behind an answer
abbrev pub wanted_behind : ℕ → Near → ℕ
wanted_behind wanted (Row k v) = wanted - 1
wanted_behind wanted (Gap hi) = wanted

-- whether the scan for so many pairs goes on behind an answer
abbrev pub goes_on : ℕ → Near → Bool
goes_on wanted near = nat_lt 0 (wanted_behind wanted near) && nat_lt (answer_end near) greatest_key

-- the answers of a scan from a key on for so many pairs, while there are so many keys
abbrev pub answers_within : ℕ → Shape → Layout → ℕ → ℕ → List Answer
answers_within zero h s from wanted = []
answers_within (suc keys) h s from wanted =
    let near = near_from h s from in
    let rest = answers_within keys h s (answer_end near + 1) (wanted_behind wanted near) in
    record { from = from; near = near } ∷ cond (goes_on wanted near) rest []

-- the answers of a scan from a key on for so many pairs; of a scan for none there are none
abbrev pub answers_of : Shape → Layout → ℕ → ℕ → List Answer
answers_of h s from zero = []
answers_of h s from (suc wanted) =
    answers_within (greatest_key + 1 - from) h s from (suc wanted)

-- the pair of an answer, if it has one
abbrev pub pair_of : Near → Map
pair_of (Row k v) = (k, v) ∷ []
pair_of (Gap hi) = []

-- the pairs of the answers
abbrev pub pairs_of : List Answer → Map
pairs_of answers = flat_map (λ a. pair_of a.near) answers

-- how many keys are compared to locate those from which the answers seek
abbrev pub probes_for_answers : Shape → Layout → List Answer → ℕ
probes_for_answers h s answers = sum_by (λ a. probes_for_key h s a.from) answers

-- the pairs that a scan finds, and the layout that it leaves
pub record Scanned : Type 0 where
  pub pairs : Map
  pub left : Layout

-- what a caller's scan from a key on for so many pairs does
abbrev pub scan : Shape → ℕ → ℕ → ℕ → Layout → Scanned
scan h c from wanted s =
    let answers = answers_of h s from wanted in
    record { pairs = pairs_of answers; left = with_probes c (probes_for_answers h s answers) s }
