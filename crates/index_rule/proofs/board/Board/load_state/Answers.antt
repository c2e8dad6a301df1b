use Rattle.std.proofs.Common.{refl, subst}
use Rattle.word_layout.specs.declared.places.Part.TheVariants.{State}
use Rattle.word_layout.specs.Words.{Word, PlaceWord}
use Rattle.index_rule.specs.Hands.{opening_of, view}
use Rattle.index_rule.specs.Rule.{Acts}
use Rattle.index_rule.specs.Steps.{state_load}
use Rattle.index_rule.proofs.StepKinds.{at_address, at_word, cold, inside, makes, named_in}
use Rattle.index_rule.proofs.RecordSteps.{loads_state, place_below, seen_by_hand}
use Rattle.index_rule.proofs.board.Board.load_state.Goals as goal

pub state_word-requires : goal.state_word-requires
state_word-requires c =
    let b = c.args.self.now in
    place_below (opening_of b) c.args.place
    (seen_by_hand b c.args.hand.now c.args.place c.requires.hand c.requires.may)

pub cold_offset-offset-requires : goal.cold_offset-offset-requires
cold_offset-offset-requires c =
    let b = c.args.self.now in
    let p = c.args.place in
    let there = seen_by_hand b c.args.hand.now p c.requires.hand c.requires.may in
    cold b (PlaceWord p State) _ there (λ hot. hot) c.state_word.ensures

pub load-requires : goal.load-requires
load-requires c =
    let b = c.args.self.now in
    let h = c.args.hand.now in
    let p = c.args.place in
    let there = seen_by_hand b h p c.requires.hand c.requires.may in
    let w = PlaceWord p State in
    let at = at_address b w _ _ c.cold_offset-offset.ensures c.state_word.ensures in (
      c.requires.hand.table,
      inside b w _ there at,
      loads_state (opening_of b) _ h.seat.id h.seat.me h.number h.mine c.requires.hand.opened p _
          c.requires.may there (at_word b w _ at),
    )

pub returns : goal.returns
returns c =
    let b = c.args.self.now in
    let h = c.args.hand.now in
    let p = c.args.place in
    let there = seen_by_hand b h p c.requires.hand c.requires.may in
    let w = PlaceWord p State in
    let at = at_address b w _ _ c.cold_offset-offset.ensures c.state_word.ensures in
    let name = named_in b h w _ c.requires.hand there at in
    makes b h _ _ c.requires.hand c.load.ensures.0 refl
    (subst (λ (u : Word). Acts (view h) (state_load u c.load.result) c.load.new.seat.me.0) name
    c.load.ensures.2.acts)
