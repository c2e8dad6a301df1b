use Rattle.std.proofs.Common.{ℕ, ◌<◌, ap, ◌∙◌, refl, subst, sym}
use Rattle.word_layout.specs.Addresses.{header_address}
use Rattle.word_layout.specs.Headers.{header_words}
use Rattle.word_layout.specs.Layout.{shape_of}
use Rattle.word_layout.specs.Words.{Word, Header, IsWord}
use Rattle.index_machine.specs.Words.{shape}
use Rattle.index_rule.specs.Hands.{opening_of, view}
use Rattle.index_rule.specs.Rule.{Acts}
use Rattle.index_rule.specs.Steps.{header_load}
use Rattle.index_rule.proofs.StepKinds.{at_address, at_word, inside, makes, named_in}
use Rattle.index_rule.proofs.BufferSteps.{header_below, header_by_hand, header_told, loads_header}
use Rattle.index_rule.proofs.ChainStepping.{header_says}
use Rattle.index_rule.proofs.board.Board.load_header.Goals as goal

pub number-requires : goal.number-requires
number-requires c =
    header_by_hand c.args.self.now c.args.hand.now c.args.group c.args.which c.requires.hand
    c.requires.which

pub header-address-requires-clause-is_header_word :
    goal.header-address-requires-clause-is_header_word
header-address-requires-clause-is_header_word c =
    subst (λ (n : ℕ). n < header_words) (sym c.number.ensures)
    (header_below c.args.which
    (header_by_hand c.args.self.now c.args.hand.now c.args.group c.args.which c.requires.hand
    c.requires.which))

pub load-requires : goal.load-requires
load-requires c =
    let b = c.args.self.now in
    let h = c.args.hand.now in
    let w = Header c.args.group c.args.which in
    let at = at_address b w _ _ c.cold_offset-offset.ensures
    (c.header-address.ensures.address
    ∙ ap (header_address (shape_of b.layout) c.args.group) c.number.ensures) in
    let there : IsWord (shape (opening_of b)) w = (
      c.requires.group,
      header_by_hand b h c.args.group c.args.which c.requires.hand c.requires.which,
    ) in (
      c.requires.hand.table,
      inside b w _ there at,
      loads_header (opening_of b) _ h.seat.id h.seat.me h.number h.mine c.requires.hand.opened
          c.args.group c.args.which _ c.requires.may there (at_word b w _ at),
    )

pub returns : goal.returns
returns c =
    let b = c.args.self.now in
    let h = c.args.hand.now in
    let w = Header c.args.group c.args.which in
    let at = at_address b w _ _ c.cold_offset-offset.ensures
    (c.header-address.ensures.address
    ∙ ap (header_address (shape_of b.layout) c.args.group) c.number.ensures) in
    let there : IsWord (shape (opening_of b)) w = (
      c.requires.group,
      header_by_hand b h c.args.group c.args.which c.requires.hand c.requires.which,
    ) in
    let name = named_in b h w _ c.requires.hand there at in
    let step = makes b h _ _ c.requires.hand c.load.ensures.0 refl
    (subst (λ (u : Word). Acts (view h) (header_load u c.load.result) c.load.new.seat.me.0) name
    c.load.ensures.2.acts) in
    record {
      step = step;
      tells = λ is walkable.
          header_told b h _ c.args.group c.args.which c.load.result c.requires.hand step
          c.requires.may is walkable;
      says = header_says b h _ c.args.group c.load.result c.args.which c.requires.hand step;
    }
