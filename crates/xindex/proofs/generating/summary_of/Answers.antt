-- The replies of the run were counted, and its rows.
use Rattle.std.proofs.Common.{◌≡◌, ◌++◌, ◌∙◌, length, arith}
use Rattle.std.specs.List.{filter}
use Rattle.trace_text.specs.Counts.{all_replies}
use Rattle.xindex.specs.Generated.{is_call, summary_text}
use Rattle.xindex.specs.Ran.{IsRun}
use Rattle.xindex.proofs.generating.summary_of.Goals as goal

pub returns : goal.returns
returns g c =
    let trace = c.in_ok-trace.trace in
    let phases = c.in_ok-phases.phases.items in
    let rows = c.in_ok-phases.rows.items in
    let run : IsRun c.args.limits trace phases rows = c.in_ok-phases.ensures in
    let replies = run.explained.replies in
    let calls : c.call_count.result ≡ length (filter is_call trace) = c.call_count.ensures in
    let long : c.len.result ≡ length rows = omega (arith, c.len.ensures, c.in_ok-phases.rows.ok.0) in
    let told = c.in_ok-append_summary.ensures replies (c.deref.ensures.value ∙ run.explained.text_is) in (
      trace,
      c.in_ok-trace.ensures,
      record {
        phases = phases;
        rows = rows;
        run = run;
        text_is = told
            ∙ (λ j. c.new-summary.ensures.items j
            ++ summary_text (calls j) (all_replies replies) (long j));
      },
    )
