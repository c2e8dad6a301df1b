use Rattle.std.proofs.Common.{◌≡◌, ◌≤◌, ℕ, List, length, sym, subst}
use Rattle.map_model.specs.Map.{Map, IsRising}
use Rattle.index_machine.specs.OpeningRows.{opening_group}
use Rattle.index_machine.specs.Words.{limits, shape}
use Rattle.opened_table.specs.Laying.{FillsArray, LaysHeader, keys_in}
use Rattle.opened_table.proofs.GroupRows.{rising_of_group}
use Rattle.opened_table.proofs.LaidGroups.{few_of_group, group_laid}
use Rattle.opened_table.proofs.laying.lay_group.Goals as goal

pub lay_header-requires-clause-rising : goal.lay_header-requires-clause-rising
lay_header-requires-clause-rising c =
    let o = c.args.opening.now in
    subst IsRising (sym c.requires.rows) (rising_of_group (opening_group o) c.args.group o.rows o.rising)

pub fill_array-requires-clause-few : goal.fill_array-requires-clause-few
fill_array-requires-clause-few c =
    let o = c.args.opening.now in
    subst (λ (z : Map). length z ≤ (limits o).group_size) (sym c.requires.rows) (few_of_group o c.args.group)

pub returns : goal.returns
returns c =
    let o = c.args.opening.now in
    let group : ℕ = c.args.group in
    let old : List ℕ = c.args.words.now.items in
    let headed : List ℕ = c.lay_header.new.words.items in
    let new : List ℕ = c.fill_array.new.words.items in
    group_laid o group c.requires.chained old headed new
    (subst (λ (z : ℕ × ℕ × Map). LaysHeader (shape o) group z.0 z.1 (keys_in z.2) old headed)
    (λ j. (c.requires.pivot j, c.requires.next j, c.requires.rows j)) c.lay_header.ensures)
    (subst (λ (z : Map). FillsArray (shape o) group z (length z) headed new) c.requires.rows c.fill_array.ensures)
