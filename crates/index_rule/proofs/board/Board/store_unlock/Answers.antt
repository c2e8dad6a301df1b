use Rattle.std.proofs.Common.{inl, refl, ap, subst, ◌∙◌, ℕ}
use Rattle.word_layout.specs.declared.places.Part.TheVariants.{State}
use Rattle.word_layout.specs.Words.{Word, PlaceWord}
use Rattle.index_rule.specs.Hands.{opening_of, known, view}
use Rattle.index_rule.specs.Rule.{Acts}
use Rattle.index_rule.specs.Records.{change_by}
use Rattle.index_rule.specs.Steps.{unlock_store}
use Rattle.index_rule.proofs.StepKinds.{at_address, at_word, cold, inside, makes, named_in}
use Rattle.index_rule.proofs.RecordSteps.{place_below, released_is, says_unlocked, seen_by_hand}
use Rattle.index_rule.proofs.RecordSteps.{unlock_is, unlocks}
use Rattle.index_machine.specs.declared.events.Action.{Action}
use Rattle.index_machine.specs.declared.events.Action.TheVariants.{Unlock}
use Rattle.index_machine.specs.Places.{form}
use Rattle.index_rule.proofs.board.Board.store_unlock.Goals as goal

pub state_word-requires : goal.state_word-requires
state_word-requires c =
    let b = c.args.self.now in
    place_below (opening_of b) c.args.place
    (seen_by_hand b c.args.hand.now c.args.place c.requires.hand (inl c.requires.may.holds.there))

pub cold_offset-offset-requires : goal.cold_offset-offset-requires
cold_offset-offset-requires c =
    let b = c.args.self.now in
    let p = c.args.place in
    let there = seen_by_hand b c.args.hand.now p c.requires.hand (inl c.requires.may.holds.there) in
    cold b (PlaceWord p State) _ there (λ hot. hot) c.state_word.ensures

pub store-requires : goal.store-requires
store-requires c =
    let b = c.args.self.now in
    let h = c.args.hand.now in
    let p = c.args.place in
    let may = c.requires.may in
    let there = seen_by_hand b h p c.requires.hand (inl may.holds.there) in
    let is = released_is b h p _ c.args.removed c.requires.hand may c.released_word-word.ensures in
    let w = PlaceWord p State in
    let at = at_address b w _ _ c.cold_offset-offset.ensures c.state_word.ensures in (
      c.requires.hand.table,
      inside b w _ there at,
      unlocks (opening_of b) _ h.seat.id h.seat.me h.number h.mine c.requires.hand.opened p _ _
          c.args.removed may is there (at_word b w _ at),
    )

pub returns : goal.returns
returns c =
    let b = c.args.self.now in
    let o = opening_of b in
    let h = c.args.hand.now in
    let p = c.args.place in
    let may = c.requires.may in
    let removed = c.args.removed in
    let there = seen_by_hand b h p c.requires.hand (inl may.holds.there) in
    let w = PlaceWord p State in
    let at = at_address b w _ _ c.cold_offset-offset.ensures c.state_word.ensures in
    let name = named_in b h w _ c.requires.hand there at in
    let is = released_is b h p _ removed c.requires.hand may c.released_word-word.ensures in
    let says = says_unlocked (form o p (known h)) h.number removed _ may.holds.locked is in
    makes b h _ _ c.requires.hand c.store.ensures.0 refl
    (subst (λ (d : Action). Acts (view h) d c.store.new.seat.me.0)
    (unlock_is o (view h) h.number p _ removed h.mine c.requires.hand.opened says
    ∙ ap (λ (z : ℕ). Unlock p removed (change_by o h.number p removed (known h)) z) is)
    (subst (λ (u : Word). Acts (view h) (unlock_store (view h) u c.released_word-word.result)
    c.store.new.seat.me.0) name c.store.ensures.2.acts))
