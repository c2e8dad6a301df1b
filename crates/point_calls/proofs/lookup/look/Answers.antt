use Rattle.std.proofs.Common.{◌∙◌, refl}
use Rattle.point_calls.proofs.CallExchanges.{look_makes_none}
use Rattle.point_calls.proofs.Knowing.{call_with_look, looked_up, section_with_look, spare_with_look}
use Rattle.point_calls.proofs.lookup.look.Goals as goal

pub returns : goal.returns
returns c =
    let b = c.args.board.now in
    let start = c.args.start.now.value in
    let h = c.args.hand.now in
    let k = c.write_look.new.hand in
    let e = c.write_look.ensures in
    record {
      call = call_with_look b start h k c.args.key c.args.found e.written e.number e.hand c.requires.call;
      number = e.number ∙ c.requires.may.so_far.number;
      section = section_with_look b start h k c.args.key c.args.found e.written e.number
          c.requires.section;
      exchanges = look_makes_none b start h k c.args.key c.args.found e.written e.number;
      rows = λ spare has. spare_with_look b start h k c.args.key c.args.found e.written e.number spare
          (c.requires.rows spare has);
      done = refl;
      looks = looked_up b start h k c.args.key c.args.found e.written e.number
          c.requires.may.so_far.no_entry;
    }
