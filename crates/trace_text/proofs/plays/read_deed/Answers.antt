use Rattle.trace_text.proofs.DeedLaws.{by_deed, no_call, no_deed, not_one_word}
use Rattle.trace_text.proofs.plays.read_deed.Goals as goal

pub returns-in-Some : goal.returns-in-Some
returns-in-Some c =
    by_deed c.args.rest.now c.in-Some.word.now c.args.caller c.deed_of.result
    (record {
      line = c.without_return.result.now;
      dropped = c.without_return.ensures;
      has = c.in-Some.ensures;
    })
    c.deed_of.ensures

pub returns-in-Quit : goal.returns-in-Quit
returns-in-Quit c =
    no_deed c.args.rest.now c.args.caller c.read_line.result
    (not_one_word c.args.rest.now c.without_return.result.now c.without_return.ensures c.in_default.ensures)
    c.read_line.ensures.reads (no_call c.read_line.result c.in-Quit.is)
