use Rattle.std.proofs.Common.{refl, subst}
use Rattle.word_layout.specs.Words.{Word, Epoch}
use Rattle.index_rule.specs.Hands.{opening_of, view}
use Rattle.index_rule.specs.Rule.{Acts}
use Rattle.index_rule.specs.Steps.{epoch_load}
use Rattle.index_rule.proofs.StepKinds.{inside, at_word, named_in, makes}
use Rattle.index_rule.proofs.EpochSteps.{loads_epoch}
use Rattle.index_rule.proofs.board.Board.load_epoch.Goals as goal

pub load-requires : goal.load-requires
load-requires c =
    let b = c.args.self.now in
    let h = c.args.hand.now in
    let at = c.epoch_offset-offset.ensures in (
      c.requires.hand.table,
      inside b (Epoch c.args.caller) _ c.requires.caller at,
      loads_epoch (opening_of b) _ h.seat.id h.seat.me h.number h.mine c.requires.hand.opened
          c.args.caller _ c.requires.caller (at_word b (Epoch c.args.caller) _ at),
    )

pub returns : goal.returns
returns c =
    let b = c.args.self.now in
    let h = c.args.hand.now in
    let w = Epoch c.args.caller in
    let name = named_in b h w _ c.requires.hand c.requires.caller c.epoch_offset-offset.ensures in
    makes b h _ _ c.requires.hand c.load.ensures.0 refl
    (subst (λ (u : Word). Acts (view h) (epoch_load u c.load.result) c.load.new.seat.me.0) name
    c.load.ensures.2.acts)
