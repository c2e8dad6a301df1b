-- How a seat is cut in two, and how two are joined.
use Rattle.std.specs.Prelude.{ℕ, cond, nat_lt, Some, None, List, [], ◌∷◌, ◌++◌, length}
use Rattle.map_model.specs.Logs.{Log}
use Rattle.index_machine.specs.declared.opening.Opening.{Opening}
use Rattle.index_machine.specs.Execution.{Execution}
use Rattle.index_machine.specs.Rows.{below_top}
use Rattle.index_rule.specs.declared.view.View.{View}
use Rattle.index_rule.specs.declared.view.Heard.{Heard}
use Rattle.index_rule.specs.Rule.{counting}

-- ---- cutting ----

-- the first of the numbers goes to a seat of its own
abbrev pub others_left : View → View
others_left v = record v { numbers = below_top v.numbers }

-- the first of the numbers, if there is one
abbrev pub only_first : List ℕ → List ℕ
only_first [] = []
only_first (hand ∷ hands) = hand ∷ []

-- the seat of the first number
abbrev pub one_hand : View → View
one_hand v = record v { numbers = only_first v.numbers }

-- the hand with this number, before its first step
abbrev pub new_hand : Opening → ℕ → View
new_hand o hand =
    record { numbers = hand ∷ []; opening = Some o; known = []; heard = []; log = [] }

-- the seat that still is so many hands, from a number on
abbrev pub rest_of : Opening → ℕ → ℕ → View
rest_of o hand n =
    record { numbers = counting hand n; opening = Some o; known = []; heard = []; log = [] }

-- a seat of no hand that knows what this one knows
abbrev pub told : View → View
told v =
    record { numbers = []; opening = v.opening; known = v.known; heard = []; log = [] }

-- ---- joining ----

-- the longer of two beginnings of one execution
abbrev pub longer : Execution → Execution → Execution
longer t u = cond (nat_lt (length t) (length u)) u t

-- what a seat knows, for one that it is joined with
abbrev pub heard_of : View → Heard
heard_of v = record { numbers = v.numbers; known = v.known; log = v.log }

-- the log of the first of two seats, or where this is no hand, that of the other
abbrev pub joined_log : List ℕ → Log → Log → Log
joined_log [] log other = other
joined_log (hand ∷ hands) log other = log

-- the seat that takes in another
abbrev pub joined : View → View → View
joined v w =
    record v {
      numbers = v.numbers ++ w.numbers;
      known = longer v.known w.known;
      heard = heard_of w ∷ heard_of v ∷ v.heard;
      log = joined_log v.numbers v.log w.log;
    }

-- the seat, once what it heard has become part of what it knows
abbrev pub settled : View → View
settled v = record v { heard = [] }

-- a seat that was taken in by another
abbrev pub spent : View
spent = record { numbers = []; opening = None; known = []; heard = []; log = [] }
