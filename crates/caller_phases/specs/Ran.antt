-- An index over which all phases of a trace were run.
use Rattle.std.specs.Prelude.{◌≡◌, ℕ, ◌<◌, List, length}
use Rattle.map_model.specs.History.{after}
use Rattle.map_model.specs.Map.{Map}
use Rattle.index_machine.specs.Execution.{Execution}
use Rattle.index_machine.specs.LivePlaces.{history}
use Rattle.index_machine.specs.Openings.{opening_map}
use Rattle.wire_commands.specs.declared.reply.Reply.{Reply}
use Rattle.trace_text.specs.declared.lines.Line.{Line}
use Rattle.xindex_core.specs.declared.index.Index.{Index}
use Rattle.xindex_core.specs.declared.pass.Pass.{Pass}
use Rattle.xindex_core.specs.Closing.{IsClosedWith}
use Rattle.xindex_core.specs.OneOrder.{AllKnow, logs_of}
use Rattle.xindex_core.specs.Passes.{IsKeeperOf, limits_of_index, opening_with}
use Rattle.caller_phases.specs.declared.phases.Ran.{Ran}
use Rattle.caller_phases.specs.Explained.{IsExplainedBy, IsPhase}

-- what the passes of all callers know, where they know the same, explains the text with the passes' own logs
pub record AreExplained (i : Index) (lines : List Line) (passes : List Pass) (text : List ℕ) : Type 0 where
  pub many : length passes ≡ (limits_of_index i).callers
  pub execution : Execution
  pub know : AllKnow i execution 0 passes
  pub explained : IsExplainedBy (limits_of_index i) (opening_map (opening_with i)) lines
      (history execution) (logs_of passes) text

-- each phase was run over the index by the passes of its callers
pub record HasRun (i : Index) (lines : List Line) (ran : Ran) : Type 0 where
  pub index : ran.opened.index ≡ i
  pub passes : AreExplained i lines ran.opened.passes.items ran.transcript.items
  pub keeper : IsKeeperOf i ran.opened.keeper

-- one phase was run: the passes knew this, and know the same again
pub record HasRunPhase (i : Index) (before : Execution) (lines : List Line) (old : List Pass)
    (replies : List (List Reply)) (new : List Pass) : Type 0 where
  pub behind : Execution
  pub know : AllKnow i behind 0 new
  pub phase : IsPhase (limits_of_index i) (opening_map (opening_with i)) (history before)
      (history behind) lines (logs_of old) replies (logs_of new)

-- ---- the law ----

-- what the passes of all callers know, where they know the same, has every change made: it leaves the pairs with which
-- the index is closed
abbrev pub WhatAllKnowIsAll : Type 0
WhatAllKnowIsAll =
    (i : Index) (t : Execution) (passes : List Pass) (pairs : Map) → AllKnow i t 0 passes →
    0 < length passes → length passes ≡ (limits_of_index i).callers → (closed : IsClosedWith i passes pairs) →
    (history closed.execution ≡ history t) × (pairs ≡ after (opening_map (opening_with i)) (history t))
