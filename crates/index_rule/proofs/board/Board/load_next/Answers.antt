use Rattle.std.proofs.Common.{ap, ◌∙◌, refl, subst}
use Rattle.word_layout.specs.Addresses.{header_address}
use Rattle.word_layout.specs.declared.headers.HeaderWord.TheVariants.{Next}
use Rattle.word_layout.specs.Layout.{shape_of}
use Rattle.word_layout.specs.Words.{Word, Header, IsWord}
use Rattle.index_machine.specs.Words.{shape}
use Rattle.index_rule.specs.Hands.{opening_of, view}
use Rattle.index_rule.specs.Rule.{Acts}
use Rattle.index_rule.specs.Steps.{next_load}
use Rattle.index_rule.proofs.StepKinds.{at_address, at_word, inside, makes, named_in}
use Rattle.index_rule.proofs.ChainSteps.{loads_next}
use Rattle.index_rule.proofs.ChainStepping.{next_told}
use Rattle.index_rule.proofs.board.Board.load_next.Goals as goal

pub load-requires : goal.load-requires
load-requires c =
    let b = c.args.self.now in
    let h = c.args.hand.now in
    let w = Header c.args.group Next in
    let at = at_address b w _ _ c.cold_offset-offset.ensures
    (c.header-address.ensures.address
    ∙ ap (header_address (shape_of b.layout) c.args.group) c.number.ensures) in
    let there : IsWord (shape (opening_of b)) w = (c.requires.group, tt) in (
      c.requires.hand.table,
      inside b w _ there at,
      loads_next (opening_of b) _ h.seat.id h.seat.me h.number h.mine c.requires.hand.opened
          c.args.group _ c.requires.may there (at_word b w _ at),
    )

pub returns : goal.returns
returns c =
    let b = c.args.self.now in
    let h = c.args.hand.now in
    let w = Header c.args.group Next in
    let at = at_address b w _ _ c.cold_offset-offset.ensures
    (c.header-address.ensures.address
    ∙ ap (header_address (shape_of b.layout) c.args.group) c.number.ensures) in
    let there : IsWord (shape (opening_of b)) w = (c.requires.group, tt) in
    let name = named_in b h w _ c.requires.hand there at in
    let step = makes b h _ _ c.requires.hand c.load.ensures.0 refl
    (subst (λ (u : Word). Acts (view h) (next_load u c.load.result) c.load.new.seat.me.0) name
    c.load.ensures.2.acts) in
    record {
      step = step;
      tells = next_told b h _ c.args.group c.load.result c.requires.hand step;
    }
