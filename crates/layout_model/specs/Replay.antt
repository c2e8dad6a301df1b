-- What each line of a replay writes, and the layout that it leaves.
use Rattle.std.specs.Prelude.{ℕ, Bool, true, false, Some, None, List, [], ◌∷◌, ◌++◌, length, map, flat_map, sum_by}
use Rattle.word_layout.specs.Shape.{Shape}
use Rattle.layout_model.specs.Calls.{AgainFrozen, Done, Full, Outcome, Reply, Worn, get, put, remove}
use Rattle.layout_model.specs.Groups.{Group, removed_count, row_count}
use Rattle.layout_model.specs.Layout.{Layout, Part, with_caller}
use Rattle.layout_model.specs.Line as line
use Rattle.layout_model.specs.Line.{Line}
use Rattle.layout_model.specs.Scans.{Scanned, scan}
use Rattle.layout_model.specs.Told as told
use Rattle.layout_model.specs.Told.{Told}
use Rattle.layout_model.specs.Turns.{turn_of}

-- what lines write, and the layout that they leave
pub record Step : Type 0 where
  pub output : List Told
  pub left : Layout

-- a line that writes one line
abbrev pub writes : Told → Layout → Step
writes one left = record { output = one ∷ []; left = left }

-- ---- calls ----

-- the line for the reply to a get
abbrev pub got_line : Reply → Told
got_line (Done None) = told.NoValue
got_line (Done (Some v)) = told.Value v
got_line Full = told.Full
got_line Worn = told.Worn
got_line AgainFrozen = told.AgainFrozen

-- the line for the reply to a put
abbrev pub put_line : Reply → Told
put_line (Done None) = told.New
put_line (Done (Some v)) = told.Old v
put_line Full = told.Full
put_line Worn = told.Worn
put_line AgainFrozen = told.AgainFrozen

-- the line for the reply to a remove
abbrev pub removed_line : Reply → Told
removed_line (Done None) = told.NoValue
removed_line (Done (Some v)) = told.Old v
removed_line Full = told.Full
removed_line Worn = told.Worn
removed_line AgainFrozen = told.AgainFrozen

-- the call's reply is written in its line
abbrev pub replied : (Reply → Told) → Outcome → Step
replied line_for came = writes (line_for came.reply) came.left

-- a line for each pair, and their number
abbrev pub scanned : Scanned → Step
scanned came =
    record {
      output =
          map (λ pair. told.Row pair.0 pair.1) came.pairs ++ (told.End (length came.pairs) ∷ []);
      left = came.left;
    }

-- ---- callers ----

-- the caller is held from now on
abbrev pub hold : ℕ → Layout → Layout
hold c s = record s { held = with_caller c true s.held }

-- the part whose barrier waits for these callers
abbrev pub with_awaited : (ℕ → Bool) → Part → Part
with_awaited callers p = record p { awaited = callers }

-- the caller is not held, so no barrier waits for it
abbrev pub free : ℕ → Layout → Layout
free c s =
    record s {
      held = with_caller c false s.held;
      parts = map (λ p. with_awaited (with_caller c false p.awaited) p) s.parts;
    }

-- no caller is held, so no barrier waits for any
abbrev pub all_freed : Layout → Layout
all_freed s =
    record s {
      held = λ c. false;
      parts = map (with_awaited (λ c. false)) s.parts;
    }

-- ---- the layout ----

-- the line for a group
abbrev pub group_line : Group → Told
group_line g =
    told.GroupLine g.pivot (length g.array) (removed_count g) (row_count g) g.phase

-- the line for each group along the chain of each part, and then that for what is free
abbrev pub layout_lines : Layout → List Told
layout_lines s =
    flat_map (λ p. map group_line p.chain) s.parts
    ++ (told.FreeLine s.free_rows (sum_by (λ p. p.free_groups) s.parts) ∷ [])

-- ---- replays ----

-- what a line does
abbrev pub step : Shape → Layout → Line → Step
step h s (line.Get c k) = replied got_line (get h c k s)
step h s (line.Put c k v) = replied put_line (put h c k v s)
step h s (line.Remove c k) = replied removed_line (remove h c k s)
step h s (line.Scan c from count) = scanned (scan h c from count s)
step h s (line.Hold c) = writes told.Held (hold c s)
step h s (line.Free c) = writes told.Freed (free c s)
step h s (line.Probes c) = writes (told.Probes (s.probes c)) s
step h s (line.MakeTurn i) =
    let came = turn_of h i s in writes (told.TurnMade came.answer) came.left
step h s line.ShowLayout = record { output = layout_lines s; left = s }

-- what all lines write one after another, and the layout that they leave
abbrev pub replay : Shape → Layout → List Line → Step
replay h s [] = record { output = []; left = s }
replay h s (one ∷ more) =
    let first = step h s one in
    let rest = replay h first.left more in
    record { output = first.output ++ rest.output; left = rest.left }
