use Rattle.std.proofs.Common.{inl, refl, sym, ap, ◌∙◌, ◌%◌, ◌^◌, ℕ}
use Rattle.word_layout.specs.declared.places.Part.TheVariants.{State}
use Rattle.word_layout.specs.Words.{PlaceWord}
use Rattle.index_rule.specs.Hands.{opening_of}
use Rattle.index_rule.proofs.StepKinds.{at_address, at_word, cold, inside, makes, named_in}
use Rattle.index_rule.proofs.RecordSteps.{lock_lost, lock_taken, locks, place_below, seen_by_hand}
use Rattle.index_rule.proofs.board.Board.swap_lock.Goals as goal

pub state_word-requires : goal.state_word-requires
state_word-requires c =
    let b = c.args.self.now in
    place_below (opening_of b) c.args.place
    (seen_by_hand b c.args.hand.now c.args.place c.requires.hand (inl c.requires.there))

pub cold_offset-offset-requires : goal.cold_offset-offset-requires
cold_offset-offset-requires c =
    let b = c.args.self.now in
    let p = c.args.place in
    let there = seen_by_hand b c.args.hand.now p c.requires.hand (inl c.requires.there) in
    cold b (PlaceWord p State) _ there (λ hot. hot) c.state_word.ensures

pub compare_exchange-found-requires : goal.compare_exchange-found-requires
compare_exchange-found-requires c =
    let b = c.args.self.now in
    let h = c.args.hand.now in
    let p = c.args.place in
    let there = seen_by_hand b h p c.requires.hand (inl c.requires.there) in
    let w = PlaceWord p State in
    let at = at_address b w _ _ c.cold_offset-offset.ensures c.state_word.ensures in (
      c.requires.hand.table,
      inside b w _ there at,
      locks (opening_of b) _ h.seat.id h.seat.me h.number h.mine c.requires.hand.opened p _
          c.args.expected _ c.locked_word-locked.ensures c.requires.there c.requires.none
          c.requires.lockable there (at_word b w _ at),
    )

pub invariant_of-hand : goal.invariant_of-hand
invariant_of-hand c =
    let b = c.args.self.now in
    let h = c.args.hand.now in
    let p = c.args.place in
    let there = seen_by_hand b h p c.requires.hand (inl c.requires.there) in
    let w = PlaceWord p State in
    let at = at_address b w _ _ c.cold_offset-offset.ensures c.state_word.ensures in
    let name = named_in b h w _ c.requires.hand there at in
    let does = lock_taken _ _ _ p _ c.args.expected name c.if-found-expected.true
    c.compare_exchange-found.ensures.2 in
    record {
      mine = does.numbers ∙ h.mine;
      counted = h.counted ∙ ap (λ (z : ℕ). z % 2 ^ 64) (sym (does.crossed h.number h.mine));
      following = does.following;
      locks = does.locked h.number h.locked h.mine h.locks;
      bare = does.bare ∙ h.bare;
    }

pub returns-then-found-expected : goal.returns-then-found-expected
returns-then-found-expected c =
    let b = c.args.self.now in
    let h = c.args.hand.now in
    let p = c.args.place in
    let there = seen_by_hand b h p c.requires.hand (inl c.requires.there) in
    let w = PlaceWord p State in
    let at = at_address b w _ _ c.cold_offset-offset.ensures c.state_word.ensures in
    let name = named_in b h w _ c.requires.hand there at in
    let does = lock_taken _ _ _ p _ c.args.expected name c.if-found-expected.true
    c.compare_exchange-found.ensures.2 in
    makes b h _ _ c.requires.hand c.compare_exchange-found.ensures.0 refl does.acts

pub returns-else-found-expected : goal.returns-else-found-expected
returns-else-found-expected c =
    let b = c.args.self.now in
    let h = c.args.hand.now in
    let p = c.args.place in
    let there = seen_by_hand b h p c.requires.hand (inl c.requires.there) in
    let w = PlaceWord p State in
    let at = at_address b w _ _ c.cold_offset-offset.ensures c.state_word.ensures in
    let name = named_in b h w _ c.requires.hand there at in
    let does = lock_lost _ _ _ p _ c.args.expected name c.if-found-expected.false
    c.compare_exchange-found.ensures.2 in (
      makes b h _ _ c.requires.hand c.compare_exchange-found.ensures.0 refl does.acts,
      λ same. c.if-found-expected.false (sym same),
    )
