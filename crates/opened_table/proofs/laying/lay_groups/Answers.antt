use Rattle.std.proofs.Common.{◌≡◌, ℕ, ◌+◌, ◌*◌, ◌<◌, ◌≤◌, true, List, length, take, drop, sym, ap, subst, ◌∙◌, arith}
use Rattle.map_model.specs.Map.{Map}
use Rattle.index_machine.specs.OpeningRows.{is_in_opening_chain, opening_count, opening_next, opening_pivot}
use Rattle.index_machine.proofs.OpeningPlan.{in_chain, row_opened}
use Rattle.opened_table.specs.Laying.{IsOfFirst, IsOfGroup, Lays, group_row, rows_of_group}
use Rattle.opened_table.proofs.WordKinds.{lays_more, lays_none}
use Rattle.opened_table.proofs.LaidParts.{begins_within, one_number, rows_of_number}
use Rattle.opened_table.proofs.LaidPlan.{next_is_behind, next_none, pivot_in_part}
use Rattle.opened_table.proofs.laying.lay_groups.Goals as goal
use Rattle.opened_table.proofs.laying.lay_groups.Goals.{then-number-groups, else-number-groups}

pub rows_of_number-own-requires : goal.rows_of_number-own-requires
rows_of_number-own-requires c =
    let o = c.args.opening.now in
    let number : ℕ = c.loop-number.number in
    let test = c.loop-number-test.true in
    let groups = c.requires.groups in
    subst (λ (z : ℕ × Map). number * z.0 ≤ length z.1) (λ j. (sym c.requires.each j, sym c.requires.rows j))
    (begins_within o c.args.part number (omega (arith, test, groups)))

pub lay_group-requires-clause-chained : goal.lay_group-requires-clause-chained
lay_group-requires-clause-chained c =
    let o = c.args.opening.now in
    let number : ℕ = c.loop-number.number in
    let test = c.loop-number-test.true in
    let groups = c.requires.groups in
    subst (λ (first : ℕ). is_in_opening_chain o (first + number) ≡ true) (sym c.first_group-first.ensures.group)
    (in_chain o (group_row o c.args.part number)
    (row_opened o c.args.part number c.requires.is_part (omega (arith, test, groups))))

pub lay_group-requires-clause-pivot : goal.lay_group-requires-clause-pivot
lay_group-requires-clause-pivot c =
    let o = c.args.opening.now in
    let number : ℕ = c.loop-number.number in
    let test = c.loop-number-test.true in
    let groups = c.requires.groups in
    c.pivot_of_group-pivot.ensures
    ∙ (pivot_in_part o c.args.part number c.requires.is_part (omega (arith, test, groups))
    ∙ ap (λ (first : ℕ). opening_pivot o (first + number)) (sym c.first_group-first.ensures.group))

pub lay_group-requires-clause-next : goal.lay_group-requires-clause-next
lay_group-requires-clause-next c =
    let o = c.args.opening.now in
    let part : ℕ = c.args.part in
    let number : ℕ = c.loop-number.number in
    let test = c.loop-number-test.true in
    let groups = c.requires.groups in
    let first = c.first_group-first.ensures.group in
    let among : number < opening_count o part = omega (arith, test, groups) in
    let is : c.if-number-groups.next ≡ opening_next o (group_row o part number) =
    elim c.if-number-groups.branch [
      | then-number-groups w ↦
          let more = w.if-number-groups.true in
          let from = w.from.ensures in
          let next = w.next-is in
          let behind = next_is_behind o part number c.requires.is_part (omega (arith, more, groups)) in
          omega (arith, from, next, first, behind)
      | else-number-groups w ↦
          let last = w.if-number-groups.false in
          w.next-is ∙ sym (next_none o part number c.requires.is_part among (omega (arith, last, groups)))
    ]
    in
    is ∙ ap (λ (z : ℕ). opening_next o (z + number)) (sym first)

pub lay_group-requires-clause-rows : goal.lay_group-requires-clause-rows
lay_group-requires-clause-rows c =
    let o = c.args.opening.now in
    let part : ℕ = c.args.part in
    let number : ℕ = c.loop-number.number in
    let test = c.loop-number-test.true in
    let groups = c.requires.groups in
    c.rows_of_number-own.ensures
    ∙ (ap (λ (z : ℕ × Map). take z.0 (drop (number * z.0) z.1)) (λ j. (c.requires.each j, c.requires.rows j))
    ∙ (sym (rows_of_number o part number c.requires.is_part (omega (arith, test, groups)))
    ∙ ap (λ (first : ℕ). rows_of_group o (first + number)) (sym c.first_group-first.ensures.group)))

pub loop-number-init : goal.loop-number-init
loop-number-init c =
    let o = c.args.opening.now in
    let part : ℕ = c.args.part in
    record {
      done = lays_none o (IsOfFirst (λ number. IsOfGroup o (group_row o part number)) 0) c.args.words.now.items
          (λ w of. let lt = of.1 in absurd (omega (arith, lt)));
    }

pub loop-number-preserved : goal.loop-number-preserved
loop-number-preserved c =
    let o = c.args.opening.now in
    let part : ℕ = c.args.part in
    let number : ℕ = c.loop-number.number in
    let words : List ℕ = c.loop-number.words.items in
    let new : List ℕ = c.lay_group.new.words.items in
    let more : Lays o (IsOfGroup o (group_row o part number)) words new =
    subst (λ (first : ℕ). Lays o (IsOfGroup o (first + number)) words new) c.first_group-first.ensures.group
    c.lay_group.ensures
    in
    record {
      done = lays_more o (λ n. IsOfGroup o (group_row o part n)) number c.args.words.now.items words new
          (λ w i lt one two.
          let same = one_number o part w i number one two in absurd (omega (arith, lt, same)))
          c.loop-number.invariant.done more;
    }

pub returns : goal.returns
returns c =
    let o = c.args.opening.now in
    let part : ℕ = c.args.part in
    let over = c.loop-number-test.false in
    let upto : c.loop-number.number ≤ c.args.groups = c.loop-number.auto.number-end in
    let groups = c.requires.groups in
    let all : c.loop-number.number ≡ opening_count o part = omega (arith, over, upto, groups) in
    subst
    (λ (many : ℕ).
    Lays o (IsOfFirst (λ number. IsOfGroup o (group_row o part number)) many) c.args.words.now.items
    c.loop-number.words.items)
    all c.loop-number.invariant.done
