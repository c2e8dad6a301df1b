-- The trace of a mix, as a function of its mix, load, operations, callers and seed.
use Rattle.std.specs.Prelude.{ℕ, ◌+◌, ◌-◌, ◌*◌, ◌%◌, ◌^◌, ◌==◌, Bool, true, false}
use Rattle.std.specs.Prelude.{List, [], ◌∷◌, ◌++◌, length, get_or, map, codes}
use Rattle.std.specs.List.{filter, flat_map, range_with_len}
use Rattle.wire_commands.specs.declared.request.Request.TheVariants as request
use Rattle.trace_text.specs.declared.lines.Line.{Line}
use Rattle.trace_text.specs.declared.lines.Line.TheVariants as line
use Rattle.trace_text.specs.Text.{number_line, pair_line, headed}
use Rattle.ycsb_mix.specs.declared.mixes.Mix.{Mix}
use Rattle.ycsb_mix.specs.declared.mixes.Step.{Step}
use Rattle.ycsb_mix.specs.declared.mixes.Step.TheVariants as step
use Rattle.ycsb_mix.specs.declared.drawing.Kind.{Kind}
use Rattle.ycsb_mix.specs.declared.drawing.Kind.TheVariants.{Get, Put, GetThenPut, GetLate, Insert, Scan}
use Rattle.ycsb_mix.specs.declared.drawing.Draw.{Draw}
use Rattle.ycsb_mix.specs.Draws.{draws_of, generator_of}

-- the key with this number
abbrev pub key_of : ℕ → ℕ
key_of number = number * 0x9e3779b97f4a7c15 % 2 ^ 64

-- the numbers below this that are the caller's, in order
abbrev pub numbers_of : ℕ → ℕ → ℕ → List ℕ
numbers_of callers caller below =
    filter (λ number. number % callers == caller) (range_with_len 0 below)

-- the draw of an operation
abbrev pub draw_at : List Draw → ℕ → Draw
draw_at draws j = get_or draws j (record { kind = Insert; rank = 0; count = 0 })

-- whether an operation of this kind inserts a key
abbrev pub inserts : Kind → Bool
inserts Insert = true
inserts kind = false

-- the numbers of the keys that these operations insert
abbrev pub inserted_by : ℕ → List Draw → List ℕ → List ℕ
inserted_by load draws numbers =
    map (λ j. load + j) (filter (λ j. inserts (draw_at draws j).kind) numbers)

-- the numbers of the keys of a caller before its operation j: the loaded ones, and then its own inserts
abbrev pub known_keys : ℕ → ℕ → List Draw → ℕ → List ℕ
known_keys load callers draws j =
    range_with_len 0 load ++ inserted_by load draws (numbers_of callers (j % callers) j)

-- the one of these that has so many after it
abbrev pub late_one : List ℕ → ℕ → ℕ
late_one keys rank = get_or keys (length keys - 1 - rank) 0

-- the calls of operation j, whose draw is of this kind, rank and count
abbrev pub calls_by : ℕ → Kind → ℕ → ℕ → ℕ → List ℕ → List Step
calls_by load Get rank count j keys = step.Get (key_of rank) ∷ []
calls_by load Put rank count j keys = step.Put (key_of rank) (load + j + 1) ∷ []
calls_by load GetThenPut rank count j keys =
    step.Get (key_of rank) ∷ step.Put (key_of rank) (load + j + 1) ∷ []
calls_by load GetLate rank count j keys = step.Get (key_of (late_one keys rank)) ∷ []
calls_by load Insert rank count j keys = step.Put (key_of (load + j)) (load + j + 1) ∷ []
calls_by load Scan rank count j keys = step.Scan (key_of rank) count ∷ []

-- the calls of operation j
abbrev pub operation_calls : ℕ → ℕ → List Draw → ℕ → List Step
operation_calls load callers draws j =
    let draw = draw_at draws j in
    calls_by load draw.kind draw.rank draw.count j (known_keys load callers draws j)

-- the call that loads a key
abbrev pub load_calls : ℕ → List Step
load_calls number = step.Put (key_of number) (number + 1) ∷ []

-- the calls with the caller's numbers below this, under the caller's mark
abbrev pub caller_steps : (ℕ → List Step) → ℕ → ℕ → ℕ → List Step
caller_steps calls callers below caller =
    headed (step.Caller caller ∷ []) (flat_map calls (numbers_of callers caller below))

-- a phase of the calls with the numbers below this, caller by caller
abbrev pub phase_steps : (ℕ → List Step) → ℕ → ℕ → List Step
phase_steps calls callers below =
    step.Phase ∷ flat_map (caller_steps calls callers below) (range_with_len 0 callers)

-- the steps of a mix: the load, and then the operations
abbrev pub steps_of : Mix → ℕ → ℕ → ℕ → ℕ → List Step
steps_of mix load ops callers seed =
    let draws = draws_of mix load ops (generator_of seed) in
    phase_steps load_calls callers load ++ phase_steps (operation_calls load callers draws) callers ops

-- the line of a step
abbrev pub line_of : Step → List ℕ
line_of step.Phase = codes "phase\n"
line_of (step.Caller caller) = number_line (codes "caller ") caller
line_of (step.Get key) = number_line (codes "get ") key
line_of (step.Put key value) = pair_line (codes "put ") key value
line_of (step.Scan from count) = pair_line (codes "scan ") from count

-- the text of a mix
abbrev pub text_of : Mix → ℕ → ℕ → ℕ → ℕ → List ℕ
text_of mix load ops callers seed = flat_map line_of (steps_of mix load ops callers seed)

-- what the line of a step says; the line of a scan is bad yet, so that step stands for nothing here
abbrev pub said_by : Step → Line
said_by step.Phase = line.Phase
said_by (step.Caller caller) = line.Caller caller
said_by (step.Get key) = line.Call (request.Get key)
said_by (step.Put key value) = line.Call (request.Put key value)
said_by (step.Scan from count) = line.Skip
