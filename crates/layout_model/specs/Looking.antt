-- Which groups a keeper looks at, and which of them it rebuilds.
--
-- The fact to remember: of each group it is first asked whether it is due, and then whether it can merge with the next.
use Rattle.std.specs.Prelude.{ℕ, ◌+◌, ◌%◌, Bool, cond, ◌&&◌, ◌||◌, nat_lt, nat_le, min}
use Rattle.std.specs.Prelude.{Option, option_map, List, map, length, find}
use Rattle.std.specs.List.{range_with_len}
use Rattle.word_layout.specs.declared.limits.Limits.{Limits}
use Rattle.rebuild_plan.specs.Plan.{merge_limit}
use Rattle.layout_model.specs.Groups.{Group, group_at, live_count, row_count}
use Rattle.layout_model.specs.Layout.{Part, Span, span_of}

-- whether the buffer of a group has grown so far that the group is rebuilt
abbrev pub is_due : Limits → Group → Bool
is_due l g = nat_le l.due (row_count g)

-- whether a group has so few records that it may merge
abbrev pub is_sparse : Limits → Group → Bool
is_sparse l g = nat_le (live_count g) (merge_limit l.group_size)

-- whether the group at a position can merge with its right neighbour, which the last group lacks
abbrev pub can_merge : Limits → List Group → ℕ → Bool
can_merge l chain i =
    nat_lt (i + 1) (length chain)
    && (is_sparse l (group_at chain i) && is_sparse l (group_at chain (i + 1)))

-- the most groups that are looked at in one turn
abbrev pub most_looked : ℕ
most_looked = 16

-- how many groups are looked at where none is rebuilt
abbrev pub look_count : Part → ℕ
look_count p = min most_looked (length p.chain)

-- the position so many behind the cursor, round the chain
abbrev pub looked_position : Part → ℕ → ℕ
looked_position p behind = (p.cursor + behind) % length p.chain

-- the positions of the groups that are looked at, in their order
abbrev pub looked_positions : Part → List ℕ
looked_positions p = map (looked_position p) (range_with_len 0 (look_count p))

-- the groups that are rebuilt where this one is the first to be: it alone where it is due, or else a pair
abbrev pub span_at : Limits → Part → ℕ → Span
span_at l p i = span_of i (cond (is_due l (group_at p.chain i)) 1 2)

-- the groups that are rebuilt, if any of those that are looked at are to be
abbrev pub first_hit : Limits → Part → Option Span
first_hit l p =
    option_map (span_at l p)
    (find (λ i. is_due l (group_at p.chain i) || can_merge l p.chain i) (looked_positions p))
