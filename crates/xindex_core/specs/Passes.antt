-- What contracts see of an index, of a pass and of a keeper.
use Rattle.std.specs.Prelude.{◌≡◌, ℕ, Option, [], List, ◌+◌, ◌∷◌}
use Rattle.atomic_table.specs.Seated.{TableId}
use Rattle.word_layout.specs.declared.limits.Limits.{Limits}
use Rattle.index_machine.specs.declared.opening.Opening.{Opening}
use Rattle.index_machine.specs.Conditions.{MayEnter}
use Rattle.index_machine.specs.Execution.{Execution, Without}
use Rattle.index_machine.specs.Keepers.{IsPart, IsPartKeeper}
use Rattle.word_layout.specs.Layout.{bounds_of}
use Rattle.index_machine.specs.Words.{limits}
use Rattle.index_rule.specs.declared.rows.PrivateRow.{PrivateRow}
use Rattle.index_rule.specs.declared.note.Note.{Note}
use Rattle.index_rule.specs.Notes as board
use Rattle.index_rule.specs.Hands.{IsHandOf, known, opening_of, view}
use Rattle.map_model.specs.Logs.{Log}
use Rattle.point_calls.specs.PointCalls.{HasSpare}
use Rattle.xindex_core.specs.declared.index.Index.{Index}
use Rattle.xindex_core.specs.declared.pass.Pass.{Pass}
use Rattle.xindex_core.specs.declared.keeper.Keeper.{Keeper}
use Rattle.xindex_core.specs.Callers.{Caller, IsTruthful}

-- ---- an index ----

-- which index it is
abbrev pub name_of : Index → TableId
name_of i = i.board.words.shared.table_id

-- what the index was opened with
abbrev pub opening_with : Index → Opening
opening_with i = opening_of i.board

-- the limits that the index was opened with
abbrev pub limits_of_index : Index → Limits
limits_of_index i = limits (opening_with i)

-- the bounds of the parts that the index was opened with
abbrev pub bounds_of_index : Index → List ℕ
bounds_of_index i = bounds_of (opening_with i).layout

-- ---- a pass ----

-- the caller's number
abbrev pub number_of : Pass → ℕ
number_of p = p.hand.number

-- the beginning of the execution that the pass knows
abbrev pub known_to : Pass → Execution
known_to p = known p.hand

-- the entries of the caller's answered calls
abbrev pub log_of : Pass → Log
log_of p = (view p.hand).log

-- the row that a lost insertion left to the pass
abbrev pub spare_of : Pass → Option PrivateRow
spare_of p = p.spare

-- how many keys the calls of the caller compared in windows
abbrev pub probes_of : Pass → ℕ
probes_of p = p.probes

-- the pass as a caller of the index
abbrev pub caller_with : Index → Pass → Caller
caller_with i p =
    record {
      opening = opening_with i;
      number = number_of p;
      known = known_to p;
      log = log_of p;
    }

-- the pass is one of the index, between two calls, and its log is true
pub record IsPassOf (i : Index) (p : Pass) : Type 0 where
  pub of : IsHandOf i.board p.hand
  pub rests : MayEnter (opening_with i) (number_of p) (known_to p)
  pub spare : HasSpare i.board p.hand p.spare
  pub truthful : IsTruthful (caller_with i p)

-- ---- a note ----

-- the note is one of the index
abbrev pub IsNoteOf : Index → Note → Type 0
IsNoteOf i note = board.IsNoteOf i.board note

-- ---- a keeper ----

-- the part that is the keeper's own
abbrev pub part_kept_by : Keeper → ℕ
part_kept_by keeper = keeper.part

-- the number of the keeper's hand
abbrev pub number_of_keeper : Keeper → ℕ
number_of_keeper keeper = keeper.hand.number

-- the keeper is the one of its part of the index, and its hand has made no step yet
pub record IsKeeperOf (i : Index) (keeper : Keeper) : Type 0 where
  pub of : IsHandOf i.board keeper.hand
  pub is_part : IsPart (opening_with i) (part_kept_by keeper)
  pub number : IsPartKeeper (opening_with i) keeper.hand.number (part_kept_by keeper)
  pub idle : Without keeper.hand.number (known keeper.hand)

-- the beginning of the execution that the keeper knows
abbrev pub known_to_keeper : Keeper → Execution
known_to_keeper keeper = known keeper.hand

-- ---- a new index ----

-- keepers that made no step yet, of the parts from this one on
abbrev pub AreNewKeepers : Index → ℕ → List Keeper → Type 0
AreNewKeepers i part [] = Unit {0}
AreNewKeepers i part (k ∷ ks) =
    IsKeeperOf i k × (part_kept_by k ≡ part) × (known_to_keeper k ≡ []) × AreNewKeepers i (part + 1) ks

-- passes that made no step yet, with rising numbers from this one on
abbrev pub AreNewPasses : Index → ℕ → List Pass → Type 0
AreNewPasses i number [] = Unit {0}
AreNewPasses i number (p ∷ ps) =
    IsPassOf i p × (number_of p ≡ number) × (known_to p ≡ []) × (log_of p ≡ []) × (probes_of p ≡ 0)
    × AreNewPasses i (number + 1) ps
