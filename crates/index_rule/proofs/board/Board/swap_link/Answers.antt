use Rattle.std.proofs.Common.{inl, ⊎_elim, refl, sym, arith, ◌≡◌, ap, ◌∙◌}
use Rattle.word_layout.specs.declared.layout.Layout.{Layout}
use Rattle.word_layout.specs.Layout.{shape_of}
use Rattle.word_layout.specs.Places.{IsRow}
use Rattle.word_layout.specs.Words.{address_of}
use Rattle.index_machine.specs.Words.{shape, link_behind}
use Rattle.index_rule.specs.Hands.{opening_of}
use Rattle.index_rule.proofs.StepKinds.{at_address, at_word, cold, inside, makes, named_in}
use Rattle.index_rule.proofs.BufferSteps.{behind_by_hand, lane_by_hand, link_lost, link_not_hot}
use Rattle.index_rule.proofs.BufferSteps.{link_taken, link_word_of, links_row, rising_by_hand}
use Rattle.index_rule.proofs.RecordSteps.{place_below}
use Rattle.index_rule.proofs.board.Board.swap_link.Goals as goal

pub link_address-requires-clause-place : goal.link_address-requires-clause-place
link_address-requires-clause-place c =
    let b = c.args.self.now in
    let before = c.args.before in
    ⊎_elim (λ (z : before ≡ 0). omega arith)
    (λ (z : IsRow (shape (opening_of b)) before). place_below (opening_of b) before (inl z))
    (behind_by_hand b c.args.hand.now c.args.group c.args.lane c.args.row.place before
    c.args.expected c.requires.hand c.requires.may)

pub link_address-requires-clause-lane : goal.link_address-requires-clause-lane
link_address-requires-clause-lane c =
    lane_by_hand c.args.self.now c.args.hand.now c.args.group c.args.lane c.requires.hand
    c.requires.may.in_lane.is_lane

pub cold_offset-offset-requires : goal.cold_offset-offset-requires
cold_offset-offset-requires c =
    let b = c.args.self.now in
    let h = c.args.hand.now in
    let before = c.args.before in
    let w = link_behind c.args.group c.args.lane before in
    let there = link_word_of (shape (opening_of b)) c.args.group c.args.lane before
    c.requires.group
    (lane_by_hand b h c.args.group c.args.lane c.requires.hand c.requires.may.in_lane.is_lane)
    (behind_by_hand b h c.args.group c.args.lane c.args.row.place before c.args.expected
    c.requires.hand c.requires.may) in
    cold b w _ there (link_not_hot c.args.group c.args.lane before)
    (c.link_address.ensures ∙ ap (λ (l : Layout). address_of (shape_of l) w) b.laid)

pub compare_exchange-found-requires : goal.compare_exchange-found-requires
compare_exchange-found-requires c =
    let b = c.args.self.now in
    let h = c.args.hand.now in
    let before = c.args.before in
    let w = link_behind c.args.group c.args.lane before in
    let there = link_word_of (shape (opening_of b)) c.args.group c.args.lane before
    c.requires.group
    (lane_by_hand b h c.args.group c.args.lane c.requires.hand c.requires.may.in_lane.is_lane)
    (behind_by_hand b h c.args.group c.args.lane c.args.row.place before c.args.expected
    c.requires.hand c.requires.may) in
    let at = at_address b w _ _ c.cold_offset-offset.ensures
    (c.link_address.ensures ∙ ap (λ (l : Layout). address_of (shape_of l) w) b.laid)
    in (
      c.requires.hand.table,
      inside b w _ there at,
      links_row (opening_of b) _ h.seat.id h.seat.me h.number h.mine c.requires.hand.opened
          c.args.group c.args.lane c.args.row.place before c.args.expected _ c.requires.may
          (rising_by_hand b h c.args.group c.requires.hand) there (at_word b w _ at),
    )

pub returns-then-found-expected : goal.returns-then-found-expected
returns-then-found-expected c =
    let b = c.args.self.now in
    let h = c.args.hand.now in
    let before = c.args.before in
    let w = link_behind c.args.group c.args.lane before in
    let there = link_word_of (shape (opening_of b)) c.args.group c.args.lane before
    c.requires.group
    (lane_by_hand b h c.args.group c.args.lane c.requires.hand c.requires.may.in_lane.is_lane)
    (behind_by_hand b h c.args.group c.args.lane c.args.row.place before c.args.expected
    c.requires.hand c.requires.may) in
    let at = at_address b w _ _ c.cold_offset-offset.ensures
    (c.link_address.ensures ∙ ap (λ (l : Layout). address_of (shape_of l) w) b.laid)
    in
    let name = named_in b h w _ c.requires.hand there at in
    let does = link_taken b h _ _ c.args.group c.args.lane c.args.row.place before
    c.args.expected _ c.requires.hand c.requires.may name c.if-found-expected.true c.compare_exchange-found.ensures.2
    in
    makes b h _ _ c.requires.hand c.compare_exchange-found.ensures.0 refl does.acts

pub returns-else-found-expected : goal.returns-else-found-expected
returns-else-found-expected c =
    let b = c.args.self.now in
    let h = c.args.hand.now in
    let before = c.args.before in
    let w = link_behind c.args.group c.args.lane before in
    let there = link_word_of (shape (opening_of b)) c.args.group c.args.lane before
    c.requires.group
    (lane_by_hand b h c.args.group c.args.lane c.requires.hand c.requires.may.in_lane.is_lane)
    (behind_by_hand b h c.args.group c.args.lane c.args.row.place before c.args.expected
    c.requires.hand c.requires.may) in
    let at = at_address b w _ _ c.cold_offset-offset.ensures
    (c.link_address.ensures ∙ ap (λ (l : Layout). address_of (shape_of l) w) b.laid)
    in
    let name = named_in b h w _ c.requires.hand there at in
    let does = link_lost b h _ _ c.args.group c.args.lane c.args.row.place before
    c.args.expected _ c.requires.hand c.requires.may name c.if-found-expected.false
    c.compare_exchange-found.ensures.2 in (
      refl,
      makes b h _ _ c.requires.hand c.compare_exchange-found.ensures.0 refl does.acts,
      λ same. c.if-found-expected.false (sym same),
    )
