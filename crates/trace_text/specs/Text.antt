-- Texts that are made of lines.
use Rattle.std.specs.Prelude.{ℕ, List, [], ◌∷◌, ◌++◌, codes, decimal}
use Rattle.trace_text.specs.declared.telling.GroupPhase.{GroupPhase}
use Rattle.trace_text.specs.declared.telling.GroupPhase.TheVariants.{Open, Frozen, Opened}
use Rattle.trace_text.specs.declared.telling.Told.{Told}
use Rattle.trace_text.specs.declared.telling.Told.TheVariants.{AgainFrozen, Held, Freed, Probes, Group, Free}

-- a line of a word and a number
abbrev pub number_line : List ℕ → ℕ → List ℕ
number_line word number = word ++ decimal number ++ codes "\n"

-- a line of a word and two numbers
abbrev pub pair_line : List ℕ → ℕ → ℕ → List ℕ
pair_line word first second = word ++ decimal first ++ codes " " ++ decimal second ++ codes "\n"

-- a line behind a caller's number
abbrev pub behind_caller : ℕ → List ℕ → List ℕ
behind_caller caller line = decimal caller ++ codes " " ++ line

-- what is not empty stands under its head
abbrev pub headed : {X : Type 0} → List X → List X → List X
headed head [] = []
headed head (x ∷ xs) = head ++ x ∷ xs

-- what ends the line of a group in this phase
abbrev pub phase_end : GroupPhase → List ℕ
phase_end Open = codes " open\n"
phase_end Frozen = codes " frozen\n"
phase_end Opened = codes " opened\n"

-- the line of what a replay tells
abbrev pub told_line : Told → List ℕ
told_line AgainFrozen = codes "again frozen\n"
told_line Held = codes "held\n"
told_line Freed = codes "freed\n"
told_line (Probes count) = number_line (codes "probes ") count
told_line (Group pivot size removed rows phase) =
    codes "group " ++ decimal pivot ++ codes " " ++ decimal size ++ codes " " ++ decimal removed
    ++ codes " " ++ decimal rows ++ phase_end phase
told_line (Free rows groups) = pair_line (codes "free ") rows groups
