use Rattle.std.proofs.Common.{ℕ, ap, ◌∙◌, refl, subst}
use Rattle.word_layout.specs.declared.headers.HeaderWord.TheVariants.{Phase}
use Rattle.word_layout.specs.Headers.{header_word}
use Rattle.word_layout.specs.Layout.{shape_of}
use Rattle.word_layout.specs.Words.{Word, Header, address_of}
use Rattle.index_rule.specs.Hands.{opening_of, view}
use Rattle.index_rule.specs.Rule.{Acts}
use Rattle.index_rule.specs.Steps.{phase_load}
use Rattle.index_rule.proofs.StepKinds.{at_address, at_word, inside, makes, named_in}
use Rattle.index_rule.proofs.BufferSteps.{loads_phase}
use Rattle.index_rule.proofs.board.Board.load_phase.Goals as goal

pub load-requires : goal.load-requires
load-requires c =
    let b = c.args.self.now in
    let h = c.args.hand.now in
    let w = Header c.args.group Phase in
    let at = at_address b w _ _ c.cold_offset-offset.ensures
    (c.header-address.ensures.named
    ∙ ap (λ (n : ℕ). address_of (shape_of b.layout) (Header c.args.group (header_word n)))
    c.number.ensures)
    in (
      c.requires.hand.table,
      inside b w _ (c.requires.group, tt) at,
      loads_phase (opening_of b) _ h.seat.id h.seat.me h.number h.mine c.requires.hand.opened
          c.args.group _ c.requires.may c.requires.group (at_word b w _ at),
    )

pub returns : goal.returns
returns c =
    let b = c.args.self.now in
    let h = c.args.hand.now in
    let w = Header c.args.group Phase in
    let at = at_address b w _ _ c.cold_offset-offset.ensures
    (c.header-address.ensures.named
    ∙ ap (λ (n : ℕ). address_of (shape_of b.layout) (Header c.args.group (header_word n)))
    c.number.ensures)
    in
    let name = named_in b h w _ c.requires.hand (c.requires.group, tt) at in
    makes b h _ _ c.requires.hand c.load.ensures.0 refl
    (subst (λ (u : Word). Acts (view h) (phase_load u c.load.result) c.load.new.seat.me.0) name
    c.load.ensures.2.acts)
