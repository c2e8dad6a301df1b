use Rattle.std.proofs.Common.{refl, subst, arith}
use Rattle.word_layout.specs.declared.places.Part.TheVariants.{Key}
use Rattle.word_layout.specs.Words.{Word, PlaceWord}
use Rattle.index_rule.specs.Hands.{opening_of, view}
use Rattle.index_rule.specs.Rule.{Acts}
use Rattle.index_rule.specs.Steps.{key_load}
use Rattle.index_rule.proofs.StepKinds.{at_address, at_word, cold, inside, makes, named_in}
use Rattle.index_rule.proofs.RecordSteps.{loads_key, seen_by_hand}
use Rattle.index_rule.proofs.board.Board.load_key.Goals as goal

pub cold_offset-offset-requires : goal.cold_offset-offset-requires
cold_offset-offset-requires c =
    let b = c.args.self.now in
    let p = c.args.place in
    let there = seen_by_hand b c.args.hand.now p c.requires.hand c.requires.may in
    cold b (PlaceWord p Key) p there (λ hot. hot) (omega arith)

pub load-requires : goal.load-requires
load-requires c =
    let b = c.args.self.now in
    let h = c.args.hand.now in
    let p = c.args.place in
    let there = seen_by_hand b h p c.requires.hand c.requires.may in
    let w = PlaceWord p Key in
    let at = at_address b w _ p c.cold_offset-offset.ensures (omega arith) in (
      c.requires.hand.table,
      inside b w _ there at,
      loads_key (opening_of b) _ h.seat.id h.seat.me h.number h.mine c.requires.hand.opened p _
          c.requires.may there (at_word b w _ at),
    )

pub returns : goal.returns
returns c =
    let b = c.args.self.now in
    let h = c.args.hand.now in
    let p = c.args.place in
    let there = seen_by_hand b h p c.requires.hand c.requires.may in
    let w = PlaceWord p Key in
    let at = at_address b w _ p c.cold_offset-offset.ensures (omega arith) in
    let name = named_in b h w _ c.requires.hand there at in
    makes b h _ _ c.requires.hand c.load.ensures.0 refl
    (subst (λ (u : Word). Acts (view h) (key_load u c.load.result) c.load.new.seat.me.0) name
    c.load.ensures.2.acts)
