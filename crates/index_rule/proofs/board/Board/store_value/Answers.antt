use Rattle.std.proofs.Common.{inl, refl, subst}
use Rattle.word_layout.specs.declared.places.Part.TheVariants.{Value}
use Rattle.word_layout.specs.Words.{Word, PlaceWord}
use Rattle.index_rule.specs.Hands.{opening_of, view}
use Rattle.index_rule.specs.Rule.{Acts}
use Rattle.index_rule.specs.Steps.{value_store}
use Rattle.index_rule.proofs.StepKinds.{at_address, at_word, cold, inside, makes, named_in}
use Rattle.index_rule.proofs.RecordSteps.{place_below, seen_by_hand, stores_value}
use Rattle.index_rule.proofs.board.Board.store_value.Goals as goal

pub value_word-requires : goal.value_word-requires
value_word-requires c =
    let b = c.args.self.now in
    place_below (opening_of b) c.args.place
    (seen_by_hand b c.args.hand.now c.args.place c.requires.hand (inl c.requires.holds.there))

pub cold_offset-offset-requires : goal.cold_offset-offset-requires
cold_offset-offset-requires c =
    let b = c.args.self.now in
    let p = c.args.place in
    let there = seen_by_hand b c.args.hand.now p c.requires.hand (inl c.requires.holds.there) in
    cold b (PlaceWord p Value) _ there (λ hot. hot) c.value_word.ensures

pub store-requires : goal.store-requires
store-requires c =
    let b = c.args.self.now in
    let h = c.args.hand.now in
    let p = c.args.place in
    let holds = c.requires.holds in
    let there = seen_by_hand b h p c.requires.hand (inl holds.there) in
    let w = PlaceWord p Value in
    let at = at_address b w _ _ c.cold_offset-offset.ensures c.value_word.ensures in (
      c.requires.hand.table,
      inside b w _ there at,
      stores_value (opening_of b) _ h.seat.id h.seat.me h.number h.mine c.requires.hand.opened p _
          c.args.value holds.there holds.locked there
          (at_word b w _ at),
    )

pub returns : goal.returns
returns c =
    let b = c.args.self.now in
    let h = c.args.hand.now in
    let p = c.args.place in
    let there = seen_by_hand b h p c.requires.hand (inl c.requires.holds.there) in
    let w = PlaceWord p Value in
    let at = at_address b w _ _ c.cold_offset-offset.ensures c.value_word.ensures in
    let name = named_in b h w _ c.requires.hand there at in
    makes b h _ _ c.requires.hand c.store.ensures.0 refl
    (subst (λ (u : Word). Acts (view h) (value_store u c.args.value) c.store.new.seat.me.0) name
    c.store.ensures.2.acts)
