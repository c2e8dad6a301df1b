use Rattle.std.proofs.Common.{ℕ, ◌∙◌, sym, subst}
use Rattle.index_machine.specs.Lanes.{HasLane}
use Rattle.index_rule.specs.Hands.{known, opening_of}
use Rattle.sorted_group.specs.Standing.{CanSearch}
use Rattle.sorted_group.proofs.BufferLoads.{searches_follow}
use Rattle.index_tests.proofs.Groups.{belongs}
use Rattle.index_tests.proofs.buffers.come_to_lane.Goals as goal

pub lane_for-requires-clause-can : goal.lane_for-requires-clause-can
lane_for-requires-clause-can c =
    searches_follow c.args.board.now c.come_to-group.result c.come_to-group.new.hand
    c.come_to-group.ensures.there.search

pub lane_for-requires-clause-key : goal.lane_for-requires-clause-key
lane_for-requires-clause-key c =
    belongs c.args.board.now c.come_to-group.result c.args.key c.come_to-group.new.hand
    c.come_to-group.ensures.there.answers

pub returns : goal.returns
returns c =
    let b = c.args.board.now in
    let k = c.lane_for.new.hand in
    let same = sym c.lane_for.ensures.group in
    record {
      numbered = c.lane_for.ensures.number ∙ c.come_to-group.ensures.there.numbered;
      search = subst (λ (g : ℕ). CanSearch b g k) same
          (c.lane_for.ensures.search c.come_to-group.ensures.there.search);
      has = subst (λ (g : ℕ). HasLane (opening_of b) g c.lane_for.result.number c.args.key (known k)) same
          c.lane_for.ensures.lane;
    }
