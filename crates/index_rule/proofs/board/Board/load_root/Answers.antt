use Rattle.std.proofs.Common.{refl, subst, ◌<◌}
use Rattle.word_layout.specs.declared.layout.Layout.{Layout}
use Rattle.word_layout.specs.Layout.{shape_of}
use Rattle.word_layout.specs.Shape.{parts_in}
use Rattle.word_layout.specs.Words.{Word, Root}
use Rattle.index_rule.specs.Hands.{opening_of, view}
use Rattle.index_rule.specs.Rule.{Acts}
use Rattle.index_rule.specs.Steps.{root_load}
use Rattle.index_rule.proofs.StepKinds.{inside, at_word, named_in, makes}
use Rattle.index_rule.proofs.RootSteps.{loads_root}
use Rattle.index_rule.proofs.ChainStepping.{root_told}
use Rattle.index_rule.proofs.board.Board.load_root.Goals as goal

pub root_offset-offset-requires : goal.root_offset-offset-requires
root_offset-offset-requires c =
    subst (λ (l : Layout). c.args.part < parts_in (shape_of l)) c.args.self.now.laid c.requires.part

pub load-requires : goal.load-requires
load-requires c =
    let b = c.args.self.now in
    let h = c.args.hand.now in
    let at = c.root_offset-offset.ensures in (
      c.requires.hand.table,
      inside b (Root c.args.part) _ c.requires.part at,
      loads_root (opening_of b) _ h.seat.id h.seat.me h.number h.mine c.requires.hand.opened
          c.args.part _ c.requires.may c.requires.part (at_word b (Root c.args.part) _ at),
    )

pub returns : goal.returns
returns c =
    let b = c.args.self.now in
    let h = c.args.hand.now in
    let w = Root c.args.part in
    let name = named_in b h w _ c.requires.hand c.requires.part c.root_offset-offset.ensures in
    let step = makes b h _ _ c.requires.hand c.load.ensures.0 refl
    (subst (λ (u : Word). Acts (view h) (root_load u c.load.result) c.load.new.seat.me.0) name
    c.load.ensures.2.acts) in
    record {
      step = step;
      tells = root_told b h _ c.args.part c.load.result c.requires.hand step;
    }
