-- Which words ask for which command.
use Rattle.std.specs.Prelude.{◌≡◌, ◌≢◌, ◌≤◌, ℕ, List, Option, Some, None, IsSomeAnd, codes, map}
use Rattle.std.specs.Borrow.{Bor}
use Rattle.clap.specs.Words.{Row, first_of, matches_of}
use Rattle.clap.specs.declared.error.kind.ErrorKind.{ErrorKind}
use Rattle.clap.specs.declared.error.kind.ErrorKind.TheVariants.{OutOfMemory}
use Rattle.command_line.specs.declared.answers.Command.{Command}
use Rattle.command_line.specs.declared.answers.CommandError.{CommandError}
use Rattle.command_line.specs.declared.answers.CommandError.TheVariants.{Usage, Memory}
use Rattle.command_line.specs.declared.answers.Mode.{Mode}
use Rattle.command_line.specs.declared.answers.Mode.TheVariants.{Pipe, Run, Gen}
use Rattle.command_line.specs.declared.answers.Print.{Print}
use Rattle.command_line.specs.declared.answers.Print.TheVariants.{Trace, Summary}
use Rattle.command_line.specs.declared.answers.Recipe.{Recipe}
use Rattle.command_line.specs.declared.answers.TheConstants.{MOST_BYTES, MOST_LOAD, MOST_OPS}
use Rattle.command_line.specs.Grammar.{IsTaken, bytes_name, load_name, mix_name, mode_name, ops_name, print_name, seed_name, the_app}
use Rattle.command_line.specs.Asked.{HasLimits, IsNumberAt, limits_found, saturated_limits}
use Rattle.word_layout.specs.declared.limits.Limits.{Limits}
use Rattle.ycsb_mix.specs.declared.mixes.Mix.{Mix}
use Rattle.ycsb_mix.specs.declared.mixes.Mix.TheVariants.{A, B, C, D, E, F}

-- the words as lists of bytes
abbrev pub texts_of : List (Bor (List ℕ)) → List (List ℕ)
texts_of = map (λ word. word.now)

-- the word that asks for a mode
abbrev pub mode_word : Mode → List ℕ
mode_word Pipe = codes "pipe"
mode_word Run = codes "run"
mode_word Gen = codes "gen"

-- the word that asks for a mix: none asks for the one with scans
abbrev pub mix_word : Mix → Option (List ℕ)
mix_word A = Some (codes "a")
mix_word B = Some (codes "b")
mix_word C = Some (codes "c")
mix_word D = Some (codes "d")
mix_word E = None
mix_word F = Some (codes "f")

-- the word that asks for what is written of a trace that is made
abbrev pub print_word : Print → List ℕ
print_word Trace = codes "trace"
print_word Summary = codes "summary"

-- the texts that were found for the parts of a recipe are those of this one
pub record AsksForRecipe (found : List Row) (recipe : Recipe) : Type 0 where
  pub mix : IsSomeAnd (first_of mix_name found) (λ text. mix_word recipe.mix ≡ Some text)
  pub load : IsNumberAt 1 MOST_LOAD found load_name recipe.load
  pub ops : IsNumberAt 0 MOST_OPS found ops_name recipe.ops
  pub seed : IsNumberAt 0 18446744073709551615 found seed_name recipe.seed
  pub print : first_of print_name found ≡ Some (print_word recipe.print)

-- the texts that were found for the arguments, defaults among them, are those of the command
pub record AsksFor (found : List Row) (command : Command) : Type 0 where
  pub mode : first_of mode_name found ≡ Some (mode_word command.mode)
  pub bytes : IsNumberAt 1 MOST_BYTES found bytes_name command.bytes
  pub numbers : HasLimits found
  pub limits : command.limits ≡ saturated_limits (limits_found found)
  pub recipe : AsksForRecipe found command.recipe

-- clap takes the words, and what it finds in them asks for the command
abbrev pub IsCommand : List (List ℕ) → Command → Type 0
IsCommand words command = IsTaken words × AsksFor (matches_of the_app words) command

-- the limits that the words ask for, as plain numbers of any size
unfoldable pub asked_limits : List (List ℕ) → Limits
asked_limits words = limits_found (matches_of the_app words)

-- no words ask for two commands
abbrev pub WordsDetermineTheCommand : Type 0
WordsDetermineTheCommand = (words : List (List ℕ)) (one other : Command)
    → IsCommand words one → IsCommand words other → one ≡ other

-- the numbers of the command lie in their bounds, and its mix has no scans
pub record KeepsBounds (command : Command) : Type 0 where
  pub least_bytes : 1 ≤ command.bytes
  pub most_bytes : command.bytes ≤ MOST_BYTES
  pub least_load : 1 ≤ command.recipe.load
  pub most_load : command.recipe.load ≤ MOST_LOAD
  pub most_ops : command.recipe.ops ≤ MOST_OPS
  pub no_scans : command.recipe.mix ≢ E

-- clap's reason for a refusal, as this crate tells it
abbrev pub cause_of : ErrorKind → CommandError
cause_of OutOfMemory = Memory
cause_of _ = Usage
