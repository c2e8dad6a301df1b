-- Scripts: lines of a replay, each with what it writes.
use Rattle.std.specs.Prelude.{◌≡◌, ℕ, zero, suc, ◌+◌, ◌*◌, List, [], ◌∷◌, ◌++◌, map, flat_map}
use Rattle.map_model.specs.Map.{Map}
use Rattle.word_layout.specs.declared.limits.Limits.{Limits}
use Rattle.word_layout.specs.Shape.{Shape, in_one_part}
use Rattle.layout_model.specs.Layout.{Layout}
use Rattle.layout_model.specs.Line as line
use Rattle.layout_model.specs.Line.{Line}
use Rattle.layout_model.specs.Opening.{opening}
use Rattle.layout_model.specs.Replay.{replay}
use Rattle.layout_model.specs.Told as told
use Rattle.layout_model.specs.Told.{Told}
use Rattle.layout_model.specs.Turn as turn
use Rattle.layout_model.specs.Turn.{Turn}

-- lines, each with what it writes
abbrev pub Script : Type 0
Script = List (Line × List Told)

-- ---- what is played ----

-- the lines of a script, and what they write together
abbrev pub lines_of : Script → List Line
lines_of script = map (λ row. row.0) script

abbrev pub output_of : Script → List Told
output_of script = flat_map (λ row. row.1) script

-- in an index of this shape that is opened with these rows each line writes what the script says
abbrev pub PlaysFrom : Shape → Map → Script → Type 0
PlaysFrom h rows script = (replay h (opening h rows) (lines_of script)).output ≡ output_of script

-- the same in an empty index of one part
abbrev pub Plays : Limits → Script → Type 0
Plays l script = PlaysFrom (in_one_part l) [] script

-- the layout that a script leaves of an empty index of one part
abbrev pub layout_after : Limits → Script → Layout
layout_after l script =
    (replay (in_one_part l) (opening (in_one_part l) []) (lines_of script)).left

-- ---- rows of scripts ----

-- a line that writes one line
abbrev pub says : Line → Told → Line × List Told
says one told = (one, told ∷ [])

-- a turn of keeper 0
abbrev pub turns : Turn → Line × List Told
turns answer = says (line.MakeTurn 0) (told.TurnMade answer)

-- the turns of a rebuild up to its new groups
abbrev pub turns_to_opened : (pivot groups : ℕ) → Script
turns_to_opened pivot groups =
    turns (turn.Frozen pivot) ∷ turns (turn.Quiet 1) ∷ turns (turn.Opened groups) ∷ []

-- the turns of a rebuild from its install on
abbrev pub turns_from_install : (records rows old : ℕ) → Script
turns_from_install records rows old =
    turns (turn.Installed records) ∷ turns (turn.Quiet 2) ∷ turns (turn.Copied records)
    ∷ turns (turn.Quiet 3) ∷ turns (turn.Reclaimed rows old) ∷ []

-- the turns of a whole rebuild, during which nobody removes a record
abbrev pub rebuild : (pivot groups records rows old : ℕ) → Script
rebuild pivot groups records rows old =
    turns_to_opened pivot groups ++ turns_from_install records rows old

-- so many puts of new keys, ten apart, each with ten times its key as its value
abbrev pub puts : (key many : ℕ) → Script
puts key zero = []
puts key (suc many) = says (line.Put 0 key (10 * key)) told.New ∷ puts (key + 10) many

-- removes of these keys, each with ten times its key as its value
abbrev pub removes : List ℕ → Script
removes keys = map (λ k. says (line.Remove 0 k) (told.Old (10 * k))) keys

-- the layout is shown
abbrev pub shows : List Told → Line × List Told
shows told = (line.ShowLayout, told)

-- ---- limits ----

-- the limits of a small index with groups of eight places
abbrev pub small : (callers records groups due : ℕ) → Limits
small callers records groups due =
    record {
      callers = callers;
      records = records;
      groups = groups;
      group_size = 8;
      slots = 256;
      due = due;
      help = 64;
      chain = 16;
      first_version = 0;
    }

-- the limits with which one group becomes three: few slots, and a new root after so many installs
abbrev pub few_slots : (groups chain : ℕ) → Limits
few_slots groups chain = record (small 2 100 groups 8) { slots = 4; chain = chain }

-- the limits with which versions begin here
abbrev pub from_version : ℕ → Limits
from_version first = record (small 2 100 4 1) { first_version = first }
