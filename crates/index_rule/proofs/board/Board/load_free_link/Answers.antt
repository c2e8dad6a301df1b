use Rattle.std.proofs.Common.{refl, subst, arith, inl}
use Rattle.word_layout.specs.declared.places.Part.TheVariants.{Link}
use Rattle.word_layout.specs.Words.{Word, PlaceWord}
use Rattle.index_rule.specs.Hands.{opening_of, view}
use Rattle.index_rule.specs.Rule.{Acts}
use Rattle.index_rule.specs.Steps.{link_load}
use Rattle.index_rule.proofs.StepKinds.{at_address, at_word, cold, inside, makes, named_in}
use Rattle.index_rule.proofs.FreeSteps.{loads_link, observed_row}
use Rattle.index_rule.proofs.board.Board.load_free_link.Goals as goal

pub link_word-requires : goal.link_word-requires
link_word-requires c =
    let b = c.args.self.now in
    let h = c.args.hand.now in
    let row =
    observed_row b h c.args.place c.requires.hand c.requires.reading.caller c.requires.observed
    in
    let high = row.1 in
    let most = (opening_of b).layout.kept.most_words in
    omega arith

pub cold_offset-offset-requires : goal.cold_offset-offset-requires
cold_offset-offset-requires c =
    let b = c.args.self.now in
    let h = c.args.hand.now in
    let row =
    observed_row b h c.args.place c.requires.hand c.requires.reading.caller c.requires.observed
    in
    cold b (PlaceWord c.args.place Link) _ (inl row) (λ hot. hot) c.link_word.ensures

pub load-requires : goal.load-requires
load-requires c =
    let b = c.args.self.now in
    let h = c.args.hand.now in
    let row =
    observed_row b h c.args.place c.requires.hand c.requires.reading.caller c.requires.observed
    in
    let w = PlaceWord c.args.place Link in
    let at = at_address b w _ _ c.cold_offset-offset.ensures c.link_word.ensures in (
      c.requires.hand.table,
      inside b w _ (inl row) at,
      loads_link (opening_of b) _ h.seat.id h.seat.me h.number h.mine c.requires.hand.opened
          c.args.place _ c.requires.reading c.requires.observed row
          (at_word b w _ at),
    )

pub returns : goal.returns
returns c =
    let b = c.args.self.now in
    let h = c.args.hand.now in
    let row =
    observed_row b h c.args.place c.requires.hand c.requires.reading.caller c.requires.observed
    in
    let w = PlaceWord c.args.place Link in
    let at = at_address b w _ _ c.cold_offset-offset.ensures c.link_word.ensures in
    let name = named_in b h w _ c.requires.hand (inl row) at in
    makes b h _ _ c.requires.hand c.load.ensures.0 refl
    (subst (λ (u : Word). Acts (view h) (link_load u c.load.result) c.load.new.seat.me.0) name
    c.load.ensures.2.acts)
