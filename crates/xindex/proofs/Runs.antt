-- A trace that was run over an index, once the index is closed.
use Rattle.std.proofs.Common.{◌≡◌, ℕ, ◌+◌, ◌≤◌, List, [], ◌∷◌, length, ap, subst, ◌∙◌, arith}
use Rattle.map_model.specs.History.{after}
use Rattle.map_model.specs.Map.{Map}
use Rattle.word_layout.specs.declared.limits.Limits.{Limits}
use Rattle.index_machine.specs.Execution.{Execution}
use Rattle.index_machine.specs.LivePlaces.{history}
use Rattle.index_machine.specs.Openings.{opening_map}
use Rattle.trace_text.specs.declared.lines.Line.{Line}
use Rattle.xindex_core.specs.declared.index.Index.{Index}
use Rattle.xindex_core.specs.declared.pass.Pass.{Pass}
use Rattle.xindex_core.specs.Closing.{AreAllPasses, ArePassesFrom, IsClosedWith}
use Rattle.xindex_core.specs.OneOrder.{AllKnow, logs_of}
use Rattle.xindex_core.specs.Passes.{limits_of_index, opening_with}
use Rattle.xindex_core.proofs.AllPasses.{passes_are_all}
use Rattle.caller_phases.specs.Explained.{IsExplainedBy}
use Rattle.caller_phases.specs.Ran.{AreExplained}
use Rattle.caller_phases.proofs.Closed.{all_is_known}
use Rattle.caller_phases.proofs.Enough.{enough_refuses_nothing}
use Rattle.xindex.specs.Ran.{IsRun}

-- passes that know the same are passes in order
in_order : (i : Index) (t : Execution) (caller : ℕ) (passes : List Pass) → AllKnow i t caller passes →
    ArePassesFrom i caller passes
in_order i t caller [] know = tt
in_order i t caller (p ∷ passes) know = (know.0, in_order i t (caller + 1) passes know.2)

-- so the passes of a run are all that closing asks for
pub all_after_run : (i : Index) (lines : List Line) (passes : List Pass) (text : List ℕ) →
    AreExplained i lines passes text → AreAllPasses i passes
all_after_run i lines passes text explained =
    passes_are_all i passes (in_order i explained.execution 0 passes explained.know) explained.many

-- and what is left is what the history of the run leaves
pub run_closed : (l : Limits) (i : Index) (lines : List Line) (passes : List Pass) (text : List ℕ) (rows : Map) →
    limits_of_index i ≡ l → opening_map (opening_with i) ≡ [] → 1 ≤ l.callers →
    AreExplained i lines passes text → IsClosedWith i passes rows → IsRun l lines text rows
run_closed l i lines passes text rows limits empty some explained closed =
    let many : length passes ≡ l.callers = explained.many ∙ ap (λ (z : Limits). z.callers) limits in
    let known = all_is_known i explained.execution passes rows explained.know (omega (arith, many, some)) explained.many closed in
    let here : IsExplainedBy l [] lines (history explained.execution) (logs_of passes) text =
    subst (λ (z : Limits × Map). IsExplainedBy z.0 z.1 lines (history explained.execution) (logs_of passes) text)
    (λ j. (limits j, empty j)) explained.explained in
    record {
      history = history explained.execution;
      logs = logs_of passes;
      explained = here;
      left = known.1 ∙ ap (λ (m : Map). after m (history explained.execution)) empty;
      complete = λ enough.
          enough_refuses_nothing l [] lines (history explained.execution) (logs_of passes) text enough here;
    }
