use Rattle.std.proofs.Common.{ℕ, Option, sym, subst}
use Rattle.atomic_table.specs.Table.{Allows}
use Rattle.word_layout.specs.Words.{FreeHead}
use Rattle.index_rule.specs.declared.view.View.{View}
use Rattle.index_rule.specs.Hands.{opening_of}
use Rattle.index_rule.specs.Looks.{TellsLook}
use Rattle.index_rule.specs.Rule.{Kept}
use Rattle.index_rule.proofs.StepKinds.{inside}
use Rattle.index_rule.proofs.Looking.{look_written, writes_look}
use Rattle.index_rule.proofs.board.Board.write_look.Goals as goal

pub load-requires : goal.load-requires
load-requires g c =
    let b = c.args.self.now in
    let h = c.args.hand.now in
    let start = c.args.start.now.value in (
      c.requires.hand.table,
      inside b FreeHead _ tt c.free_head_offset-offset.ensures,
      subst
          (λ (z : View × ℕ × Option ℕ). Allows (Kept (opening_of b)) b.words.shared.table_id.slots h.seat.id h.seat.me
          c.free_head_offset-offset.result (λ n. n) (λ n x. TellsLook z.0 z.1 z.2 h.seat.me x))
          (λ i. (sym c.requires.start i, sym c.requires.key i, sym c.requires.found i))
          (writes_look b start h c.args.key c.args.found _ c.free_head_offset-offset.result
          c.requires.hand c.requires.may),
    )

pub returns-clause-written : goal.returns-clause-written
returns-clause-written g c =
    let b = c.args.self.now in
    let h = c.args.hand.now in
    let start = c.args.start.now.value in
    look_written b start h c.load.new.seat.me c.args.key c.args.found c.requires.hand c.requires.may
    (subst (λ (z : View × ℕ × Option ℕ). TellsLook z.0 z.1 z.2 h.seat.me c.load.new.seat.me)
    (λ i. (c.requires.start i, c.requires.key i, c.requires.found i)) c.load.ensures.2)
