use Rattle.std.proofs.Common.{refl, subst}
use Rattle.word_layout.specs.declared.headers.HeaderWord.TheVariants.{Head}
use Rattle.word_layout.specs.Words.{Word, Header, IsWord}
use Rattle.index_machine.specs.Words.{shape}
use Rattle.index_rule.specs.Hands.{opening_of, view}
use Rattle.index_rule.specs.Rule.{Acts}
use Rattle.index_rule.specs.Steps.{head_load}
use Rattle.index_rule.proofs.StepKinds.{at_address, at_word, inside, makes, named_in}
use Rattle.index_rule.proofs.BufferSteps.{lane_by_hand, loads_head}
use Rattle.index_rule.proofs.board.Board.load_head.Goals as goal

pub lane_head-requires-clause-is_lane : goal.lane_head-requires-clause-is_lane
lane_head-requires-clause-is_lane c =
    lane_by_hand c.args.self.now c.args.hand.now c.args.group c.args.lane c.requires.hand
    c.requires.lane

pub load-requires : goal.load-requires
load-requires c =
    let b = c.args.self.now in
    let h = c.args.hand.now in
    let w = Header c.args.group (Head c.args.lane) in
    let at = at_address b w _ _ c.cold_offset-offset.ensures c.lane_head.ensures.named in
    let there : IsWord (shape (opening_of b)) w =
    (c.requires.group, lane_by_hand b h c.args.group c.args.lane c.requires.hand c.requires.lane) in (
      c.requires.hand.table,
      inside b w _ there at,
      loads_head (opening_of b) _ h.seat.id h.seat.me h.number h.mine c.requires.hand.opened
          c.args.group c.args.lane _ c.requires.may c.requires.lane there (at_word b w _ at),
    )

pub returns : goal.returns
returns c =
    let b = c.args.self.now in
    let h = c.args.hand.now in
    let w = Header c.args.group (Head c.args.lane) in
    let there : IsWord (shape (opening_of b)) w =
    (c.requires.group, lane_by_hand b h c.args.group c.args.lane c.requires.hand c.requires.lane) in
    let at = at_address b w _ _ c.cold_offset-offset.ensures c.lane_head.ensures.named in
    let name = named_in b h w _ c.requires.hand there at in
    makes b h _ _ c.requires.hand c.load.ensures.0 refl
    (subst (λ (u : Word). Acts (view h) (head_load u c.load.result) c.load.new.seat.me.0) name
    c.load.ensures.2.acts)
