use Rattle.std.proofs.Common.{◌∙◌, refl, sym, arith}
use Rattle.word_layout.specs.declared.headers.HeaderWord.TheVariants.{Cut, Lanes}
use Rattle.index_machine.specs.declared.events.Action.TheVariants.{LoadHeader}
use Rattle.sorted_group.proofs.BufferLoads.{can_walk, lanes_still, search_on, searches_follow}
use Rattle.index_tests.proofs.lanes.assert_lanes.Goals as goal

pub lanes-many-requires : goal.lanes-many-requires
lanes-many-requires g c =
    searches_follow c.args.board.now c.come_to-group.result c.come_to-group.new.hand
    c.come_to-group.ensures.there.search

pub loop-lane-init : goal.loop-lane-init
loop-lane-init g c =
    record {
      numbered = c.lanes-many.ensures.number ∙ c.come_to-group.ensures.there.numbered;
      search = c.lanes-many.ensures.search c.come_to-group.ensures.there.search;
      many = c.lanes-many.ensures.lanes;
    }

pub load_header-cut-requires-clause-may : goal.load_header-cut-requires-clause-may
load_header-cut-requires-clause-may g c =
    let search = c.loop-lane.invariant.search in
    can_walk c.args.board.now c.come_to-group.result c.loop-lane.hand
    (searches_follow c.args.board.now c.come_to-group.result c.loop-lane.hand search)

pub load_header-cut-requires-clause-which : goal.load_header-cut-requires-clause-which
load_header-cut-requires-clause-which g c = let many = c.loop-lane.invariant.many in omega arith

pub loop-lane-preserved : goal.loop-lane-preserved
loop-lane-preserved g c =
    let b = c.args.board.now in
    let group = c.come_to-group.result in
    let h = c.loop-lane.hand in
    let k = c.load_header-cut.new.hand in
    let was = c.loop-lane.invariant in
    let load = LoadHeader group (Cut c.loop-lane.lane-counter) c.load_header-cut.result in
    let step = c.load_header-cut.ensures.step in
    record {
      numbered = step.number ∙ was.numbered;
      search = search_on b group h k load refl step was.search;
      many = was.many
          ∙ sym (lanes_still b group h k load refl step (searches_follow b group h was.search) Lanes);
    }
