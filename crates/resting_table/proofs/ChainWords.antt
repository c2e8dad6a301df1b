-- The chain of a part at rest, by the words.
use Rattle.std.proofs.Common.{◌≡◌, ◌≢◌, ℕ, ◌+◌, ◌*◌, ◌<◌, ◌≤◌, ◌^◌, true, List, length, slice_index, sym}
use Rattle.std.proofs.Common.{ap, ◌∙◌, subst, arith}
use Rattle.std.proofs.Math.Nat.{mul-le-mul_right}
use mathlib.Core.Logic.{dite}
use native.Mathlib.Decide.{ℕ_discrete}
use Rattle.map_model.specs.Map.{Map}
use Rattle.word_layout.specs.declared.headers.HeaderWord.TheVariants as header
use Rattle.word_layout.specs.declared.layout.Layout.{Layout}
use Rattle.word_layout.specs.Addresses.{header_address}
use Rattle.word_layout.specs.Layout.{shape_of}
use Rattle.word_layout.specs.Shape.{first_group_of, group_total, parts_in}
use Rattle.index_machine.specs.declared.opening.Opening.{Opening}
use Rattle.index_machine.specs.Execution.{Execution}
use Rattle.index_machine.specs.Keepers.{IsPart}
use Rattle.index_machine.specs.OpeningRows.{is_in_opening_chain, opening_count, opening_next}
use Rattle.index_machine.specs.Words.{limits, shape}
use Rattle.index_machine.proofs.OpeningPlan.{row_of}
use Rattle.resting_table.specs.Resting.{LeaveAtRest, map_left, pairs_before}
use Rattle.resting_table.proofs.RestingChain.{last_group, next_as_opened, next_group, part_ends, row_chained}
use Rattle.resting_table.proofs.RestingWords.{exists, header_is, header_within}

module _ (l : Layout) (ws : List ℕ) (o : Opening) (t : Execution) (rest : LeaveAtRest l ws o t) (part number group : ℕ)
    (is_part : part < parts_in (shape_of l)) (among : number < opening_count o part)
    (is_row : group ≡ first_group_of (shape_of l) part + number) where
  part_exists : IsPart o part
  part_exists = subst (λ (z : Layout). part < parts_in (shape_of z)) (sym rest.layout) is_part

  group_is : group ≡ row_of o part number
  group_is = is_row ∙ ap (λ (z : Layout). first_group_of (shape_of z) part + number) (sym rest.layout)

  pub chained : is_in_opening_chain o group ≡ true
  chained = ap (is_in_opening_chain o) group_is ∙ row_chained o part number part_exists among

  module _ (i address : ℕ) (named : i ≡ 5) (at : address ≡ header_address (shape_of l) group i) where
    at_next : address ≡ header_address (shape_of l) group 5
    at_next = at ∙ ap (header_address (shape_of l) group) named

    pub next_within : address < length ws
    next_within = header_within l ws o t rest group chained header.Next address tt at_next

    next_is : slice_index ws address ≡ opening_next o (row_of o part number)
    next_is =
        header_is l ws o t rest group chained header.Next address tt at_next
        ∙ (next_as_opened o group t rest.none_rebuilt ∙ ap (opening_next o) group_is)

    -- the next word names the group behind it
    pub next_on : slice_index ws address ≢ 0 →
        (slice_index ws address ≡ group + 2) × (number + 1 < opening_count o part)
    next_on some =
        let next = next_group o part number part_exists among (λ e. some (next_is ∙ e)) in
        let is = next_is in
        let row = group_is in
        let at_row = next.0 in
        (omega arith, next.1)

    pub next_small : slice_index ws address < 2 ^ 32
    next_small =
        dite (ℕ_discrete (slice_index ws address) 0)
        (λ (none : slice_index ws address ≡ 0). omega arith)
        (λ (some : slice_index ws address ≢ 0).
        let next = (next_on some).0 in
        let inside = exists l ws o t rest group chained in
        omega (arith, next, inside, group_total_small))
      where
        group_total_small : group_total (shape o) < 2 ^ 30
        group_total_small =
            let few = o.layout.cut.few in
            let most = o.layout.kept.most_groups in
            let parts : parts_in (shape o) * (limits o).groups ≤ 16 * (limits o).groups =
            mul-le-mul_right (limits o).groups (let le : parts_in (shape o) ≤ 16 = omega arith in le)
            in
            omega (arith, parts, most)

    -- and where it names none the part was read
    pub last : (pairs : Map) → slice_index ws address ≡ 0 → pairs ≡ pairs_before o (group + 1) (map_left o t) →
        pairs ≡ pairs_before o (first_group_of (shape_of l) (part + 1)) (map_left o t)
    last pairs none told =
        let ends = last_group o part number part_exists among (sym next_is ∙ none) in
        let row = group_is in
        let at_end : group + 1 ≡ first_group_of (shape o) part + opening_count o part = omega arith in
        told
        ∙ (ap (λ (g : ℕ). pairs_before o g (map_left o t)) at_end
        ∙ (part_ends o part (map_left o t) part_exists
        ∙ ap (λ (z : Layout). pairs_before o (first_group_of (shape_of z) (part + 1)) (map_left o t))
        rest.layout))
