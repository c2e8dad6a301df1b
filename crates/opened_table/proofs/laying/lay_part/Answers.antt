use Rattle.std.proofs.Common.{ℕ, ◌∙◌}
use Rattle.opened_table.specs.Laying.{IsOfGroups, IsOfRoot}
use Rattle.opened_table.proofs.WordKinds.{lays_both}
use Rattle.opened_table.proofs.LaidParts.{root_or_group}
use Rattle.opened_table.proofs.LaidPlan.{share_of_rows}
use Rattle.opened_table.proofs.laying.lay_part.Goals as goal

pub lay_root-requires-clause-each : goal.lay_root-requires-clause-each
lay_root-requires-clause-each c =
    c.share-each.ensures.value
    ∙ share_of_rows c.args.opening.now c.args.part c.from.result c.args.rows.now c.requires.rows
    (c.from.ensures ∙ c.count_of_groups-groups.ensures.count)

pub lay_groups-requires-clause-each : goal.lay_groups-requires-clause-each
lay_groups-requires-clause-each c =
    c.share-each.ensures.value
    ∙ share_of_rows c.args.opening.now c.args.part c.from.result c.args.rows.now c.requires.rows
    (c.from.ensures ∙ c.count_of_groups-groups.ensures.count)

pub returns : goal.returns
returns c =
    let o = c.args.opening.now in
    let part : ℕ = c.args.part in
    lays_both o (IsOfRoot o part) (IsOfGroups o part) c.args.words.now.items c.lay_root.new.words.items
    c.lay_groups.new.words.items (λ w root groups. root_or_group o part part w root groups) c.lay_root.ensures
    c.lay_groups.ensures
