use Rattle.std.proofs.Common.{rules, ◌∙◌, refl}
use Rattle.word_layout.specs.Words.{FreeHead}
use Rattle.index_rule.specs.Hands.{opening_of}
use Rattle.index_rule.proofs.Seats.{joins}
use Rattle.index_rule.proofs.StepKinds.{inside}
use Rattle.index_rule.proofs.Telling.{bare_after, counted_after, following_after, goes_on_own}
use Rattle.index_rule.proofs.Telling.{goes_on_told, knows_longer, locks_after, log_after_heed}
use Rattle.index_rule.proofs.Telling.{numbers_after, opened_after, settles, took_opened}
use Rattle.index_rule.proofs.board.Board.heed.Goals as goal

pub join_seat-requires : goal.join_seat-requires
join_seat-requires c =
    let b = c.args.self.now in
    let s = c.args.hand.now.seat in
    let n = c.args.note in (
      c.requires.hand.table,
      c.requires.note.table,
      n.bare,
      search rules,
      joins (opening_of b) s.id n.seat.id s.me.0 n.seat.me.0 c.requires.hand.opened
          c.requires.note.opened,
    )

pub load-requires : goal.load-requires
load-requires c =
    let b = c.args.self.now in
    let s = c.join_seat.new.seat in
    let e = c.join_seat.ensures in (
      e.0 ∙ c.requires.hand.table,
      inside b FreeHead _ tt c.free_head_offset-offset.ensures,
      settles (opening_of b) _ s.id s.me _
          (took_opened b c.args.hand.now c.args.note s.me c.requires.hand e.2),
    )

pub invariant_of-hand : goal.invariant_of-hand
invariant_of-hand c =
    let b = c.args.self.now in
    let h = c.args.hand.now in
    let n = c.args.note in
    let x = c.join_seat.new.seat.me in
    let y = c.load.new.seat.me in
    let of = c.requires.hand in
    let took = c.join_seat.ensures.2 in
    let told = c.load.ensures.2 in
    record {
      mine = numbers_after b h n x y of took told;
      counted = counted_after b h n x y of took told;
      following = following_after b h n x y of took told;
      locks = locks_after b h n x y of took told;
      bare = bare_after b h n x y of took told;
    }

pub returns : goal.returns
returns c =
    let b = c.args.self.now in
    let h = c.args.hand.now in
    let n = c.args.note in
    let x = c.join_seat.new.seat.me in
    let y = c.load.new.seat.me in
    let of = c.requires.hand in
    let took = c.join_seat.ensures.2 in
    let told = c.load.ensures.2 in
    let opened = opened_after b h n x y of took told in
    record {
      of = record {
        table = c.load.ensures.0 ∙ (c.join_seat.ensures.0 ∙ of.table);
        opened = opened;
      };
      number = refl;
      log = log_after_heed b h n x y of took told;
      knows = knows_longer b h n x y of took told;
      own = goes_on_own b h n x y of took told;
      told = goes_on_told b h n x y of took told;
      follows = told.follows (opening_of b) opened;
    }
