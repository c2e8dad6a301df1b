-- Which words are taken, by clap's own meaning of one command.
use Rattle.std.specs.Prelude.{◌≡◌, ◌∷◌, ◌++◌, List, [], Some, true, fold, map, codes}
use Rattle.std.specs.Borrow.{Bor}
use Rattle.clap.specs.Walk.{Rule, Text}
use Rattle.clap.specs.Words.{App, fault_of, new_app, new_rule, with_rule}

-- the name of the one positional
abbrev pub mode_name : Text
mode_name = codes "mode"

-- the name of the option for the most bytes of the input
abbrev pub bytes_name : Text
bytes_name = codes "bytes"

-- the name of the option for the mix of a trace that is made
abbrev pub mix_name : Text
mix_name = codes "mix"

-- the name of the option for the number of its keys
abbrev pub load_name : Text
load_name = codes "load"

-- the name of the option for the number of its operations
abbrev pub ops_name : Text
ops_name = codes "ops"

-- the name of the option for its seed
abbrev pub seed_name : Text
seed_name = codes "seed"

-- the name of the option for what is written of it
abbrev pub print_name : Text
print_name = codes "print"

-- the option of each limit by its name, with its default
abbrev pub limit_options : List (Text × Text)
limit_options =
    (codes "callers", codes "4")
    ∷ (codes "records", codes "65536")
    ∷ (codes "groups", codes "256")
    ∷ (codes "group-size", codes "256")
    ∷ (codes "slots", codes "256")
    ∷ (codes "due", codes "64")
    ∷ (codes "assist", codes "64")
    ∷ (codes "chain", codes "16")
    ∷ (codes "first-version", codes "0")
    ∷ []

-- the option of each part of a recipe by its name, with its default
abbrev pub recipe_options : List (Text × Text)
recipe_options =
    (mix_name, codes "a")
    ∷ (load_name, codes "1000")
    ∷ (ops_name, codes "1000")
    ∷ (seed_name, codes "1")
    ∷ (print_name, codes "summary")
    ∷ []

-- each option by its name, with its default
abbrev pub options : List (Text × Text)
options = (bytes_name, codes "1099511627776") ∷ limit_options ++ recipe_options

-- the two texts of a row
abbrev pub row_of : Bor Text × Bor Text → Text × Text
row_of row = (row.0.now, row.1.now)

-- the rows of a table, as texts
abbrev pub table_of : List (Bor Text × Bor Text) → List (Text × Text)
table_of = map row_of

-- a positional that has to be there
abbrev pub positional_rule : Text → Rule
positional_rule name = record (new_rule name) { required = true }

-- an option with one value, that has this default
abbrev pub option_rule : Text → Text → Rule
option_rule name default = record (new_rule name) { long = Some name; defaults = default ∷ [] }

-- the command with one more option
abbrev pub with_option : App → Text × Text → App
with_option app option = with_rule app (option_rule option.0 option.1)

-- a command of no arguments, for which no word is the program's name and none asks for help
abbrev pub bare_app : App
bare_app = let app = new_app (codes "xindex") in
    record app { top = record app.top { no_binary_name = true; disable_help_flag = true } }

-- the command with the mode alone
abbrev pub mode_app : App
mode_app = with_rule bare_app (positional_rule mode_name)

-- the one command: the mode, and each option
unfoldable pub the_app : App
the_app = fold with_option mode_app options

-- clap finds no fault with the words
abbrev pub IsTaken : List Text → Type 0
IsTaken words = fault_of the_app words ≡ []
