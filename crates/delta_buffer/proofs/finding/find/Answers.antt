use Rattle.std.proofs.Common.{◌≢◌, ℕ, inl, ◌∙◌, arith}
use Rattle.index_machine.specs.declared.events.Action.TheVariants.{LoadKey}
use Rattle.sorted_group.proofs.BufferLoads.{follow_on, log_on, search_on, searches_follow}
use Rattle.delta_buffer.proofs.Following.{is_lane_on}
use Rattle.delta_buffer.proofs.Stepping.{found_end, found_gap, found_row, goes_behind, is_at_link}
use Rattle.delta_buffer.proofs.Stepping.{left_falls, links_on, sets_out, sought_in_lane, sought_on}
use Rattle.delta_buffer.proofs.Stepping.{walks_on}
use Rattle.delta_buffer.proofs.finding.find.Goals as goal

pub loop-next-init : goal.loop-next-init
loop-next-init c =
    let lane = c.args.lane in
    sets_out c.args.board.now lane.group lane.number c.args.key c.follow-next.result c.args.hand.now
    c.follow-next.new.hand
    (searches_follow c.args.board.now lane.group c.args.hand.now c.requires.search)
    c.requires.lane.is_lane c.follow-next.ensures

pub load_key-met-requires-clause-may : goal.load_key-met-requires-clause-may
load_key-met-requires-clause-may c =
    let lane = c.args.lane in
    inl (is_at_link c.args.board.now lane.group lane.number c.args.key c.loop-next.before
    c.loop-next.next c.args.hand.now c.loop-next.hand c.requires.search c.loop-next.invariant
    c.loop-next-test.true)

pub returns-then-met-key : goal.returns-then-met-key
returns-then-met-key c =
    let b = c.args.board.now in
    let h = c.args.hand.now in
    let m = c.loop-next.hand in
    let n = c.load_key-met.new.hand in
    let lane = c.args.lane in
    let on = c.loop-next.invariant in
    let load = LoadKey c.loop-next.next c.load_key-met.result in
    let l = c.load_key-met.ensures in
    record {
      number = l.number ∙ on.number;
      search = search_on b lane.group m n load tt l (on.search c.requires.search);
      lane = sought_on b lane.group lane.number c.args.key c.loop-next.before c.loop-next.next
          c.load_key-met.result h m n c.requires.search c.requires.lane on c.loop-next-test.true l;
      steps = walks_on b lane.group lane.number m n load tt l h on.walks;
      finds = found_row b lane.group lane.number c.args.key c.loop-next.before c.loop-next.next
          c.load_key-met.result h m n c.requires.search c.requires.lane on c.loop-next-test.true l
          c.if-met-key.true;
      log = log_on b lane.group m n load tt l h on.can.of on.log;
    }

pub returns-then-met-key-2 : goal.returns-then-met-key-2
returns-then-met-key-2 c =
    let b = c.args.board.now in
    let h = c.args.hand.now in
    let m = c.loop-next.hand in
    let n = c.load_key-met.new.hand in
    let lane = c.args.lane in
    let on = c.loop-next.invariant in
    let load = LoadKey c.loop-next.next c.load_key-met.result in
    let l = c.load_key-met.ensures in
    record {
      number = l.number ∙ on.number;
      search = search_on b lane.group m n load tt l (on.search c.requires.search);
      lane = sought_on b lane.group lane.number c.args.key c.loop-next.before c.loop-next.next
          c.load_key-met.result h m n c.requires.search c.requires.lane on c.loop-next-test.true l;
      steps = walks_on b lane.group lane.number m n load tt l h on.walks;
      finds = found_gap b lane.group lane.number c.args.key c.loop-next.before c.loop-next.next
          c.load_key-met.result h m n c.requires.search c.requires.lane on c.loop-next-test.true l
          c.if-met-key-2.true;
      log = log_on b lane.group m n load tt l h on.can.of on.log;
    }

pub follow-next-requires-in-loop-next : goal.follow-next-requires-in-loop-next
follow-next-requires-in-loop-next c =
    let b = c.args.board.now in
    let m = c.loop-next.hand in
    let n = c.load_key-met.new.hand in
    let lane = c.args.lane in
    let on = c.loop-next.invariant in
    let load = LoadKey c.loop-next.next c.load_key-met.result in
    let l = c.load_key-met.ensures in
    record {
      can = follow_on b lane.group m n load tt l on.can;
      is_lane = is_lane_on b lane.group m n load tt l on.can lane.number on.is_lane;
      link = links_on b lane.group lane.number c.args.key c.loop-next.before c.loop-next.next
          c.load_key-met.result c.args.hand.now m n c.requires.search c.requires.lane on
          c.loop-next-test.true l;
    }

pub loop-next-smaller : goal.loop-next-smaller
loop-next-smaller c =
    let met : ℕ = c.load_key-met.result in
    let key : ℕ = c.args.key in
    let lane = c.args.lane in
    let differ : met ≢ key = c.if-met-key.false in
    left_falls c.args.board.now lane.group lane.number key c.loop-next.before c.loop-next.next met _
    c.args.hand.now c.loop-next.hand c.load_key-met.new.hand _ c.requires.search c.requires.lane
    c.loop-next.invariant c.loop-next-test.true c.load_key-met.ensures (omega arith)
    c.follow-next-in-loop-next.ensures

pub loop-next-preserved : goal.loop-next-preserved
loop-next-preserved c =
    let met : ℕ = c.load_key-met.result in
    let key : ℕ = c.args.key in
    let lane = c.args.lane in
    let differ : met ≢ key = c.if-met-key.false in
    goes_behind c.args.board.now lane.group lane.number key c.loop-next.before c.loop-next.next met
    c.args.hand.now c.loop-next.hand c.load_key-met.new.hand c.requires.search c.requires.lane
    c.loop-next.invariant c.loop-next-test.true c.load_key-met.ensures _ _ (omega arith)
    c.follow-next-in-loop-next.ensures

pub returns : goal.returns
returns c =
    let on = c.loop-next.invariant in
    let lane = c.args.lane in
    record {
      number = on.number;
      search = on.search c.requires.search;
      lane = sought_in_lane c.args.board.now lane.group lane.number c.args.key c.loop-next.before
          c.loop-next.next c.args.hand.now c.loop-next.hand c.requires.lane on;
      steps = on.walks;
      finds = found_end c.args.board.now lane.group lane.number c.args.key c.loop-next.before
          c.loop-next.next c.args.hand.now c.loop-next.hand c.requires.lane on
          c.loop-next-test.false;
      log = on.log;
    }
