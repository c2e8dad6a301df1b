use Rattle.trace_text.specs.Lines.{Says}
use Rattle.trace_text.specs.Traces.{is_told}
use Rattle.trace_text.proofs.CuttingLaws.{read_nothing, read_more, read_bad, read_all}
use Rattle.trace_text.proofs.TraceLaws.{trace_fits}
use Rattle.trace_text.proofs.traces.read_trace.Goals as goal

pub loop-line-init : goal.loop-line-init
loop-line-init c =
    let text = c.args.text.now in
    rw (c.of-lines.ensures, c.in_ok-trace.ensures) (read_nothing (Says c.args.callers) is_told text)

pub returns-in_default-read_trace_line-clause-reads : goal.returns-in_default-read_trace_line-clause-reads
returns-in_default-read_trace_line-clause-reads c =
    rw c.number-number.ensures
    (read_bad (Says c.args.callers) is_told c.args.text.now c.in-Some.line.now c.loop-line.lines
    c.next_line.new.self c.loop-line.trace c.loop-line.invariant c.in-Some.ensures
    c.in_default-read_trace_line.ensures)

pub loop-line-preserved : goal.loop-line-preserved
loop-line-preserved c =
    rw c.in_ok-push.ensures.ok
    (read_more (Says c.args.callers) is_told c.args.text.now c.in-Some.line.now c.loop-line.lines
    c.next_line.new.self c.loop-line.trace c.in-Some-read_trace_line.said c.loop-line.invariant
    c.in-Some.ensures c.in-Some-read_trace_line.ensures)

pub returns-clause-reads : goal.returns-clause-reads
returns-clause-reads c =
    read_all (Says c.args.callers) is_told c.args.text.now c.loop-line.lines c.loop-line.trace
    c.loop-line.invariant c.in_default.ensures

pub returns-clause-fit : goal.returns-clause-fit
returns-clause-fit c =
    trace_fits c.args.callers c.args.text.now c.loop-line.trace
    (read_all (Says c.args.callers) is_told c.args.text.now c.loop-line.lines c.loop-line.trace
    c.loop-line.invariant c.in_default.ensures)
