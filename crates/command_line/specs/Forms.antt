-- The plain forms of a command, in the words themselves.
use Rattle.std.specs.Prelude.{◌≡◌, ◌∷◌, ◌++◌, ℕ, List, [], Some, codes}
use Rattle.std.specs.List.{AllByRecursion}
use Rattle.clap.specs.Walk.{Text}
use Rattle.command_line.specs.Asked.{IsLimit, IsNumberFrom, saturated_limits}
use Rattle.command_line.specs.Command.{IsCommand, mix_word, mode_word, print_word}
use Rattle.command_line.specs.Grammar.{bytes_name, load_name, mix_name, ops_name, options, print_name, seed_name}
use Rattle.command_line.specs.declared.answers.Command.{Command}
use Rattle.command_line.specs.declared.answers.Mode.{Mode}
use Rattle.command_line.specs.declared.answers.Print.{Print}
use Rattle.command_line.specs.declared.answers.Print.TheVariants.{Summary}
use Rattle.command_line.specs.declared.answers.Recipe.{Recipe}
use Rattle.command_line.specs.declared.answers.TheConstants.{MOST_BYTES, MOST_LOAD, MOST_OPS}
use Rattle.wire_commands.specs.Numbers.{value_of}
use Rattle.word_layout.specs.declared.limits.Limits.{Limits}
use Rattle.ycsb_mix.specs.declared.mixes.Mix.{Mix}
use Rattle.ycsb_mix.specs.declared.mixes.Mix.TheVariants.{A}

-- `--name value`, as two words
abbrev pub two_words : Text → Text → List Text
two_words name value = (codes "--" ++ name) ∷ value ∷ []

-- `--name=value`, as one word
abbrev pub one_word : Text → Text → List Text
one_word name value = (codes "--" ++ name ++ codes "=" ++ value) ∷ []

-- the mode alone
abbrev pub alone : Mode → List Text
alone mode = mode_word mode ∷ []

-- the option stands before or after the mode, in two words or in one
pub record StandsAnywhere (mode : Mode) (name value : Text) (command : Command) : Type 0 where
  pub after : IsCommand (alone mode ++ two_words name value) command
  pub before : IsCommand (two_words name value ++ alone mode) command
  pub after_in_one_word : IsCommand (alone mode ++ one_word name value) command
  pub before_in_one_word : IsCommand (one_word name value ++ alone mode) command

-- the limits that a mode alone has
abbrev pub standard_limits : Limits
standard_limits = record {
  callers = 4;
  records = 65536;
  groups = 256;
  group_size = 256;
  slots = 256;
  due = 64;
  help = 64;
  chain = 16;
  first_version = 0;
}

-- the recipe that a mode alone has
abbrev pub standard_recipe : Recipe
standard_recipe = record {
  mix = A;
  load = 1000;
  ops = 1000;
  seed = 1;
  print = Summary;
}

-- what a mode alone asks for
abbrev pub standard : Mode → Command
standard mode = record {
  mode = mode;
  bytes = MOST_BYTES;
  limits = standard_limits;
  recipe = standard_recipe;
}

-- the same with other limits
abbrev pub with_limits : Mode → Limits → Command
with_limits mode limits = record (standard mode) { limits = limits }

-- the same with another recipe
abbrev pub with_recipe : Mode → Recipe → Command
with_recipe mode recipe = record (standard mode) { recipe = recipe }

-- the option of each limit by its name, with the limits that have another number there
abbrev pub changes : List (Text × (Limits → ℕ → Limits))
changes =
    (codes "callers", λ l n. record l { callers = n })
    ∷ (codes "records", λ l n. record l { records = n })
    ∷ (codes "groups", λ l n. record l { groups = n })
    ∷ (codes "group-size", λ l n. record l { group_size = n })
    ∷ (codes "slots", λ l n. record l { slots = n })
    ∷ (codes "due", λ l n. record l { due = n })
    ∷ (codes "assist", λ l n. record l { help = n })
    ∷ (codes "chain", λ l n. record l { chain = n })
    ∷ (codes "first-version", λ l n. record l { first_version = n })
    ∷ []

-- any number of 64 bits may be asked for by the option, and changes that limit alone
abbrev pub MayChange : Mode → Text × (Limits → ℕ → Limits) → Type 0
MayChange mode change = (value : Text) → IsLimit value → StandsAnywhere mode change.0 value
    (with_limits mode (saturated_limits (change.1 standard_limits (value_of value))))

-- each word of a mix or of what is written, and each number in its bounds, may be asked for, and
-- changes that part of the recipe alone
pub record MayChangeRecipe (mode : Mode) : Type 0 where
  pub mix : (mix : Mix) (value : Text) → mix_word mix ≡ Some value
      → StandsAnywhere mode mix_name value (with_recipe mode (record standard_recipe { mix = mix }))
  pub load : (value : Text) → IsNumberFrom 1 MOST_LOAD value → StandsAnywhere mode load_name value
      (with_recipe mode (record standard_recipe { load = value_of value }))
  pub ops : (value : Text) → IsNumberFrom 0 MOST_OPS value → StandsAnywhere mode ops_name value
      (with_recipe mode (record standard_recipe { ops = value_of value }))
  pub seed : (value : Text) → IsNumberFrom 0 18446744073709551615 value
      → StandsAnywhere mode seed_name value
      (with_recipe mode (record standard_recipe { seed = value_of value }))
  pub print : (print : Print) → StandsAnywhere mode print_name (print_word print)
      (with_recipe mode (record standard_recipe { print = print }))

-- what each mode alone asks for, and that each value may be asked for in each place
pub record PlainFormsAreCommands : Type 0 where
  pub alone : (mode : Mode) → IsCommand (alone mode) (standard mode)
  pub bytes : (mode : Mode) (value : Text) → IsNumberFrom 1 MOST_BYTES value
      → StandsAnywhere mode bytes_name value (record (standard mode) { bytes = value_of value })
  pub limits : (mode : Mode) → AllByRecursion (MayChange mode) changes
  pub recipe : (mode : Mode) → MayChangeRecipe mode

-- a mode is given exactly once, and no option twice
pub record EachIsGivenOnce : Type 0 where
  pub no_mode : AllByRecursion (λ option. (value : Text) (command : Command)
      → ¬ IsCommand (one_word option.0 value) command) options
  pub two_modes : (one other : Mode) (command : Command) → ¬ IsCommand (alone one ++ alone other) command
  pub two_options : (mode : Mode) → AllByRecursion (λ option. (one other : Text) (command : Command)
      → ¬ IsCommand (alone mode ++ one_word option.0 one ++ one_word option.0 other) command) options
