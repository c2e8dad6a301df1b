use Rattle.std.proofs.Common.{refl, subst, inl, sym}
use Rattle.word_layout.specs.Places.{part_of}
use Rattle.word_layout.specs.Words.{Word, PlaceWord}
use Rattle.word_layout.proofs.WordNames.{part_address-part_of}
use Rattle.index_rule.specs.Hands.{opening_of, view}
use Rattle.index_rule.specs.Rule.{Acts}
use Rattle.index_rule.specs.Steps.{private_store}
use Rattle.index_rule.proofs.StepKinds.{at_address, at_word, cold, inside, makes, named_in}
use Rattle.index_rule.proofs.FreeSteps.{held_row, stores_private}
use Rattle.index_rule.proofs.board.Board.store_private.Goals as goal

pub cold_offset-offset-requires : goal.cold_offset-offset-requires
cold_offset-offset-requires g c =
    let b = c.args.self.now in
    let place = g.R.OwnRow.place_of c.args.row.now in
    let row = held_row b c.args.hand.now place c.requires.hand c.requires.held in
    cold b (PlaceWord place (part_of place c.args.word)) _ (inl row) (λ hot. hot)
    (sym (part_address-part_of place c.args.word c.requires.word))

pub store-requires : goal.store-requires
store-requires g c =
    let b = c.args.self.now in
    let h = c.args.hand.now in
    let place = g.R.OwnRow.place_of c.args.row.now in
    let part = part_of place c.args.word in
    let row = held_row b h place c.requires.hand c.requires.held in
    let w = PlaceWord place part in
    let at = at_address b w _ c.args.word c.cold_offset-offset.ensures
    (sym (part_address-part_of place c.args.word c.requires.word)) in (
      c.requires.hand.table,
      inside b w _ (inl row) at,
      stores_private (opening_of b) _ h.seat.id h.seat.me h.number h.mine c.requires.hand.opened
          place part c.args.value _ c.requires.held c.requires.fits row (at_word b w _ at),
    )

pub returns-clause-step : goal.returns-clause-step
returns-clause-step g c =
    let b = c.args.self.now in
    let h = c.args.hand.now in
    let place = g.R.OwnRow.place_of c.args.row.now in
    let part = part_of place c.args.word in
    let row = held_row b h place c.requires.hand c.requires.held in
    let w = PlaceWord place part in
    let at = at_address b w _ c.args.word c.cold_offset-offset.ensures
    (sym (part_address-part_of place c.args.word c.requires.word)) in
    let name = named_in b h w _ c.requires.hand (inl row) at in
    makes b h _ _ c.requires.hand c.store.ensures.0 refl
    (subst (λ (u : Word). Acts (view h) (private_store u c.args.value) c.store.new.seat.me.0) name
    c.store.ensures.2.acts)
