use Rattle.std.proofs.Common.{arith}
use Rattle.sorted_group.proofs.ArraySearches.{answered_locates}
use Rattle.sorted_group.proofs.BufferLoads.{search_after}
use Rattle.index_machine.specs.declared.events.Action.TheVariants.{LoadPhase}
use Rattle.word_layout.specs.declared.phase.Phase.TheVariants.{Open}
use Rattle.word_layout.specs.Phase.{word_of_phase}
use Rattle.point_calls.proofs.PhaseLoads.{answers_seen}
use Rattle.index_tests.proofs.Linking.{found_row, has_come}
use Rattle.index_tests.proofs.buffers.come_to_link.Goals as goal

pub miss_in_array-requires : goal.miss_in_array-requires
miss_in_array-requires g c =
    let b = c.args.board.now in
    let group = c.come_to-group.result in
    let there = c.come_to-group.ensures.there in
    let m = c.come_to-group.new.hand in
    let p = c.see_open.new.hand in
    let word = word_of_phase Open in
    answered_locates b group c.args.key p
    (search_after b group m p (LoadPhase group word) tt (λ z. z) c.see_open.ensures there.search)
    (answers_seen b group word c.args.key m p there.search (omega arith) there.answers c.see_open.ensures)

pub returns : goal.returns
returns g c =
    let b = c.args.board.now in
    let group = c.come_to-group.result in
    let there = c.come_to-group.ensures.there in
    let m = c.come_to-group.new.hand in
    let p = c.see_open.new.hand in
    let k = c.miss_in_array.new.hand in
    let place = c.args._row.now.place in
    let row = found_row b c.args.key place group c.args.hand.now m c.requires.inside.of
    c.come_to-group.ensures.steps c.requires.row in
    has_come b _ group c.args.key m p there c.see_open.ensures k place row c.miss_in_array.ensures.steps
    (c.miss_in_array.ensures.search
    (search_after b group m p (LoadPhase group (word_of_phase Open)) tt (λ z. z) c.see_open.ensures there.search))
    c.miss_in_array.ensures.none (omega arith)
