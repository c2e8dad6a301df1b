use Rattle.std.proofs.Common.{length, [], ◌++◌, ◌∷◌, ◌≡◌, ◌∙◌, List, ℕ, arith, ap, append-nil, append_assoc, map, replicate, subst, sym}
use Rattle.trace_text.specs.KeptReplies.{Kept}
use Rattle.trace_text.specs.Transcripts.{AddsPhase}
use Rattle.trace_text.specs.declared.lines.Line.{Line}
use Rattle.xindex_core.specs.Passes.{limits_of_index}
use Rattle.caller_phases.specs.Calls.{first_phase, phases_of}
use Rattle.caller_phases.proofs.Cuts.{cut_off, lines_left, phases_left}
use Rattle.caller_phases.proofs.Running.{HaveRun, all_run, none_run, one_more_run, passes_from}
use Rattle.caller_phases.proofs.phases.run_all.Goals as goal

pub loop-left-init : goal.loop-left-init
loop-left-init g c =
    let same = c.cursor.ensures.lines in
    let long = ap length same in
    record {
      done = [];
      whole = ap phases_of same;
      few = omega arith;
      run = subst
          (λ (text : List ℕ). HaveRun c.args.index.now []
          (replicate (limits_of_index c.args.index.now).callers []) 0 c.args.passes.items text)
          (sym c.new-transcript.ensures.items)
          (none_run c.args.index.now c.args.passes.items c.requires.new c.requires.many);
    }

pub run_phase-requires-clause-passes : goal.run_phase-requires-clause-passes
run_phase-requires-clause-passes g c κs within =
    let run = c.loop-left.invariant.run in
    passes_from c.args.index.now run.execution 0 c.loop-left.passes.items run.know

pub loop-left-preserved : goal.loop-left-preserved
loop-left-preserved g c =
    let i = c.args.index.now in
    let was = c.loop-left.invariant in
    let lines = c.in-Some.lines in
    let own = first_phase lines in
    let more = c.behind_phase-left.result in
    let cut = cut_off lines more c.behind_phase-left.ensures in
    let few = was.few in
    let left = ap lines_left c.in-Some.is in
    let here : phases_left c.loop-left.left ≡ own ∷ phases_left more =
    ap phases_left c.in-Some.is ∙ cut.0 in
    let fewer = cut.1 in
    record {
      done = was.done ++ own ∷ [];
      whole = append_assoc was.done (own ∷ []) (phases_left more)
          ∙ (ap (λ (z : List (List Line)). was.done ++ z) (sym here) ∙ was.whole);
      few = omega arith;
      run = one_more_run i was.done (replicate (limits_of_index i).callers []) c.loop-left.number
          c.loop-left.passes.items c.loop-left.transcript.items own _ c.in_ok-came.came.items
          c.append_phase.new.text.items was.run c.in_ok-came.ensures
          (subst (λ (z : List Kept). AddsPhase c.loop-left.number (map (λ own. own.replies) z) c.loop-left.transcript.items c.append_phase.new.text.items)
          c.deref.ensures.value c.in_ok-append_phase.ensures.goes_on);
    }

pub returns : goal.returns
returns g c =
    let i = c.args.index.now in
    let was = c.loop-left.invariant in
    let all : was.done ≡ phases_of c.args.trace.now =
    sym (append-nil was.done)
    ∙ (ap (λ (z : List (List Line)). was.done ++ z) (sym (ap phases_left c.in_default.is)) ∙ was.whole) in
    let many = was.run.many in
    let some = c.requires.some in
    let as_many = c.requires.many in
    all_run i c.args.trace.now c.loop-left.number c.loop-left.passes.items c.loop-left.transcript.items
    (omega arith)
    (subst (λ (z : List (List Line)). HaveRun i z (replicate (limits_of_index i).callers [])
    c.loop-left.number c.loop-left.passes.items c.loop-left.transcript.items) all was.run)
