use Rattle.std.proofs.Common.{inl, refl}
use Rattle.word_layout.specs.declared.places.Part.TheVariants.{Link}
use Rattle.word_layout.specs.Words.{PlaceWord}
use Rattle.index_rule.specs.Hands.{opening_of}
use Rattle.index_rule.proofs.StepKinds.{at_address, at_word, cold, inside, makes, named_in}
use Rattle.index_rule.proofs.BufferSteps.{loads_row_link, row_by_hand, row_link_told}
use Rattle.index_rule.proofs.RecordSteps.{place_below}
use Rattle.index_rule.proofs.board.Board.load_link.Goals as goal

pub link_word-requires : goal.link_word-requires
link_word-requires c =
    let b = c.args.self.now in
    place_below (opening_of b) c.args.place
    (inl (row_by_hand b c.args.hand.now c.args.group c.args.place c.requires.hand c.requires.row))

pub cold_offset-offset-requires : goal.cold_offset-offset-requires
cold_offset-offset-requires c =
    let b = c.args.self.now in
    let p = c.args.place in
    let there = row_by_hand b c.args.hand.now c.args.group p c.requires.hand c.requires.row in
    cold b (PlaceWord p Link) _ (inl there) (λ hot. hot) c.link_word.ensures

pub load-requires : goal.load-requires
load-requires c =
    let b = c.args.self.now in
    let h = c.args.hand.now in
    let p = c.args.place in
    let there = row_by_hand b h c.args.group p c.requires.hand c.requires.row in
    let w = PlaceWord p Link in
    let at = at_address b w _ _ c.cold_offset-offset.ensures c.link_word.ensures in (
      c.requires.hand.table,
      inside b w _ (inl there) at,
      loads_row_link (opening_of b) _ h.seat.id h.seat.me h.number h.mine c.requires.hand.opened
          c.args.group p _ c.requires.may c.requires.row (inl there)
          (at_word b w _ at),
    )

pub returns : goal.returns
returns c =
    let b = c.args.self.now in
    let h = c.args.hand.now in
    let p = c.args.place in
    let there = row_by_hand b h c.args.group p c.requires.hand c.requires.row in
    let w = PlaceWord p Link in
    let at = at_address b w _ _ c.cold_offset-offset.ensures c.link_word.ensures in
    let name = named_in b h w _ c.requires.hand (inl there) at in
    let does = row_link_told b h _ _ c.args.group p _ c.requires.hand c.requires.row name
    c.load.ensures.2 in
    makes b h _ _ c.requires.hand c.load.ensures.0 refl does.acts
