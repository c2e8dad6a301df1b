use Rattle.std.proofs.Common.{inl, sym, refl, subst, arith}
use Rattle.index_machine.specs.declared.events.Action.{Action}
use Rattle.index_rule.specs.Hands.{Makes}
use Rattle.delta_buffer.proofs.Following.{fits}
use Rattle.delta_buffer.proofs.Links.{link_load}
use Rattle.delta_buffer.proofs.walking.follow.Goals as goal

pub overflow_cast-result : goal.overflow_cast-result
overflow_cast-result c =
    let lane = c.args.lane in
    let below = fits c.args.board.now lane.group lane.number 0 c.load_head.result c.args.hand.now
    c.load_head.new.hand c.requires.can c.requires.is_lane (inl refl) c.load_head.ensures in
    omega arith

pub overflow_cast-result-else-before-eq0 : goal.overflow_cast-result-else-before-eq0
overflow_cast-result-else-before-eq0 c =
    let b = c.args.board.now in
    let h = c.args.hand.now in
    let k = c.load_link.new.hand in
    let lane = c.args.lane in
    let follows = subst (λ (d : Action). Makes b h d k)
    (sym (link_load lane.group lane.number c.args.before c.load_link.result c.if-before-eq0.false))
    c.load_link.ensures in
    let below = fits b lane.group lane.number c.args.before c.load_link.result h k c.requires.can
    c.requires.is_lane c.requires.link follows in
    omega arith
