-- Each plain form of the words asks for its command.
use Rattle.std.proofs.Common.{◌≡◌, ◌++◌, ℕ, Bool, true, false, List, [], ◌∷◌, Option, Some, None, codes, ap, drop, map, refl, rules, subst, sym, take}
use Rattle.std.specs.Prelude.{IsSomeAnd, if◌then◌else◌, slice_index_or}
use Rattle.std.specs.List.{AllByRecursion}
use Rattle.std.specs.Option.{option_map_or}
use Rattle.std.specs.Str.{bytes_eq}
use Rattle.clap.specs.Walk.{Text}
use Rattle.command_line.specs.Asked.{IsLimit, IsNumberFrom, saturated_limits}
use Rattle.command_line.specs.Command.{IsCommand, mix_word, mode_word, print_word}
use Rattle.command_line.specs.Forms.{MayChange, MayChangeRecipe, PlainFormsAreCommands, StandsAnywhere, alone, changes, standard, standard_limits, standard_recipe, with_limits, with_recipe}
use Rattle.command_line.specs.Grammar.{bytes_name, limit_options, load_name, mix_name, ops_name, options, print_name, recipe_options, seed_name}
use Rattle.command_line.specs.declared.answers.Command.{Command}
use Rattle.command_line.specs.declared.answers.Mode.{Mode}
use Rattle.command_line.specs.declared.answers.Print.{Print}
use Rattle.command_line.specs.declared.answers.Print.TheVariants.{Trace, Summary}
use Rattle.command_line.specs.declared.answers.Recipe.{Recipe}
use Rattle.command_line.specs.declared.answers.TheConstants.{MOST_BYTES, MOST_LOAD, MOST_OPS}
use Rattle.command_line.proofs.FormTexts.{FoundAnywhere, Texts, each_row, found_anywhere, texts_alone, texts_found, texts_given, words_anywhere}
use Rattle.wire_commands.specs.Numbers.{value_of}
use Rattle.word_layout.specs.declared.limits.Limits.{Limits}
use Rattle.ycsb_mix.specs.declared.mixes.Mix.{Mix}
use Rattle.ycsb_mix.specs.declared.mixes.Mix.TheVariants.{A, B, C, D, E, F}

-- ---- from the texts to the command

-- the text is a number in the bounds, and this is its value
abbrev IsNumberOf : ℕ → ℕ → Option Text → ℕ → Type 0
IsNumberOf least most given number =
    IsSomeAnd given (IsNumberFrom least most) × (number ≡ option_map_or value_of given 0)

abbrev text_at : List (Option Text) → ℕ → Option Text
text_at texts i = slice_index_or texts i None

abbrev value_at : List (Option Text) → ℕ → ℕ
value_at texts i = option_map_or value_of (text_at texts i) 0

-- the limits by the places of their texts, behind that of the bytes
abbrev limits_by : List (Option Text) → Limits
limits_by texts = record {
  callers = value_at texts 1;
  records = value_at texts 2;
  groups = value_at texts 3;
  group_size = value_at texts 4;
  slots = value_at texts 5;
  due = value_at texts 6;
  help = value_at texts 7;
  chain = value_at texts 8;
  first_version = value_at texts 9;
}

-- the texts of the bytes and of the limits are those of these
record AsksNumbers (most : ℕ) (l : Limits) (texts : List (Option Text)) : Type 0 where
  bytes : IsNumberOf 1 MOST_BYTES (text_at texts 0) most
  numbers : AllByRecursion (λ text. IsSomeAnd text IsLimit) (drop 1 texts)
  limits : l ≡ saturated_limits (limits_by texts)

-- the texts of the parts of a recipe are those of this one
record AsksRecipe (recipe : Recipe) (texts : List (Option Text)) : Type 0 where
  mix : IsSomeAnd (text_at texts 0) (λ text. mix_word recipe.mix ≡ Some text)
  load : IsNumberOf 1 MOST_LOAD (text_at texts 1) recipe.load
  ops : IsNumberOf 0 MOST_OPS (text_at texts 2) recipe.ops
  seed : IsNumberOf 0 18446744073709551615 (text_at texts 3) recipe.seed
  print : text_at texts 4 ≡ Some (print_word recipe.print)

-- the texts of the bytes and of the limits stand before those of the recipe
abbrev number_texts : Texts → List (Option Text)
number_texts texts = take 10 texts.values

abbrev recipe_texts : Texts → List (Option Text)
recipe_texts texts = drop 10 texts.values

-- the texts are those of the command
record AsksBy (texts : Texts) (command : Command) : Type 0 where
  taken : texts.faults ≡ []
  mode : texts.mode ≡ Some (mode_word command.mode)
  numbers : AsksNumbers command.bytes command.limits (number_texts texts)
  recipe : AsksRecipe command.recipe (recipe_texts texts)

command_found : (words : List Text) (command : Command) → AsksBy (texts_found words) command → IsCommand words command
command_found words command asks = (
  asks.taken,
  record {
    mode = asks.mode;
    bytes = asks.numbers.bytes;
    numbers = asks.numbers.numbers;
    limits = asks.numbers.limits;
    recipe = record {
      mix = asks.recipe.mix;
      load = asks.recipe.load;
      ops = asks.recipe.ops;
      seed = asks.recipe.seed;
      print = asks.recipe.print;
    };
  },
)

command_by : (words : List Text) (texts : Texts) (command : Command) → texts_found words ≡ texts → AsksBy texts command
    → IsCommand words command
command_by words texts command is asks =
    command_found words command (subst (λ (t : Texts). AsksBy t command) (sym is) asks)

anywhere : (mode : Mode) (name value : Text) (command : Command) → FoundAnywhere mode name value
    → AsksBy (texts_given mode name value) command → StandsAnywhere mode name value command
anywhere mode name value command found asks = record {
  after = command_by _ _ command found.after asks;
  before = command_by _ _ command found.before asks;
  after_in_one_word = command_by _ _ command found.after_in_one_word asks;
  before_in_one_word = command_by _ _ command found.before_in_one_word asks;
}

-- ---- the defaults

default_bytes : IsNumberFrom 1 MOST_BYTES (codes "1099511627776")
default_bytes = record { number = search rules; low = search rules; high = search rules }

default_load : IsNumberFrom 1 MOST_LOAD (codes "1000")
default_load = record { number = search rules; low = search rules; high = search rules }

default_ops : IsNumberFrom 0 MOST_OPS (codes "1000")
default_ops = record { number = search rules; low = search rules; high = search rules }

default_seed : IsNumberFrom 0 18446744073709551615 (codes "1")
default_seed = record { number = search rules; low = search rules; high = search rules }

default_limits : AllByRecursion (λ option. IsLimit option.1) limit_options
default_limits = search rules

zero_is_limit : IsLimit (codes "0")
zero_is_limit = record { number = search rules; low = search rules; high = search rules }

chosen : (is_named : Bool) (value default : Text) → IsLimit value → IsLimit default
    → IsLimit (if is_named then value else default)
chosen true value default given standing = given
chosen false value default given standing = standing

numbers_given : (name value : Text) (table : List (Text × Text)) → IsLimit value
    → AllByRecursion (λ option. IsLimit option.1) table
    → AllByRecursion (λ text. IsSomeAnd text IsLimit)
    (map (λ option. Some (if bytes_eq option.0 name then value else option.1)) table)
numbers_given name value [] given standing = tt
numbers_given name value (option ∷ table) given standing =
    (chosen (bytes_eq option.0 name) value option.1 given standing.0, numbers_given name value table given standing.1)

-- the default texts
abbrev default_texts : List (Text × Text) → List (Option Text)
default_texts table = map (λ option. Some option.1) table

standard_limits_asked : AllByRecursion (λ text. IsSomeAnd text IsLimit) (default_texts limit_options)
standard_limits_asked = numbers_given [] (codes "0") limit_options zero_is_limit default_limits

standard_numbers : AsksNumbers MOST_BYTES standard_limits (default_texts (take 10 options))
standard_numbers = record { bytes = (default_bytes, refl); numbers = standard_limits_asked; limits = refl }

standard_parts : AsksRecipe standard_recipe (default_texts recipe_options)
standard_parts = record {
  mix = refl;
  load = (default_load, refl);
  ops = (default_ops, refl);
  seed = (default_seed, refl);
  print = refl;
}

-- ---- the laws of a mode

module _ (mode : Mode) where
  mode_alone : IsCommand (alone mode) (standard mode)
  mode_alone = command_by (alone mode) (texts_given mode [] []) _ (texts_alone mode) (record {
    taken = refl;
    mode = refl;
    numbers = standard_numbers;
    recipe = standard_parts;
  })

  bytes_anywhere : (value : Text) → IsNumberFrom 1 MOST_BYTES value
      → StandsAnywhere mode bytes_name value (record (standard mode) { bytes = value_of value })
  bytes_anywhere value within =
      anywhere mode bytes_name value _ (found_anywhere mode value within.number).0 (record {
        taken = refl;
        mode = refl;
        numbers = record { bytes = (within, refl); numbers = standard_limits_asked; limits = refl };
        recipe = standard_parts;
      })

  -- a value among the texts changes its own limit
  change_by : (value : Text) → AllByRecursion (λ change.
      limits_by (number_texts (texts_given mode change.0 value)) ≡ change.1 standard_limits (value_of value)) changes
  change_by value = each_row (λ change. limits_by (number_texts (texts_given mode change.0 value)))
      (λ change. change.1 standard_limits (value_of value)) changes refl

  -- and leaves the bytes
  bytes_by : (value : Text) → AllByRecursion (λ change.
      text_at (number_texts (texts_given mode change.0 value)) 0 ≡ Some (codes "1099511627776")) changes
  bytes_by value = each_row (λ change. text_at (number_texts (texts_given mode change.0 value)) 0)
      (λ change. Some (codes "1099511627776")) changes refl

  -- and the recipe as they are
  parts_by : (value : Text) → AllByRecursion (λ change.
      recipe_texts (texts_given mode change.0 value) ≡ default_texts recipe_options) changes
  parts_by value = each_row (λ change. recipe_texts (texts_given mode change.0 value))
      (λ change. default_texts recipe_options) changes refl

  changed : (value : Text) (table : List (Text × (Limits → ℕ → Limits))) → IsLimit value
      → AllByRecursion (λ change. FoundAnywhere mode change.0 value) table
      → AllByRecursion (λ change. limits_by (number_texts (texts_given mode change.0 value))
      ≡ change.1 standard_limits (value_of value)) table
      → AllByRecursion (λ change.
      text_at (number_texts (texts_given mode change.0 value)) 0 ≡ Some (codes "1099511627776")) table
      → AllByRecursion (λ change.
      recipe_texts (texts_given mode change.0 value) ≡ default_texts recipe_options) table
      → AllByRecursion (λ change. StandsAnywhere mode change.0 value
      (with_limits mode (saturated_limits (change.1 standard_limits (value_of value))))) table
  changed value [] given found by bytes parts = tt
  changed value (change ∷ table) given found by bytes parts = (
    anywhere mode change.0 value _ found.0 (record {
      taken = refl;
      mode = refl;
      numbers = record {
        bytes = subst (λ text. IsNumberOf 1 MOST_BYTES text MOST_BYTES) (sym bytes.0) (default_bytes, refl);
        numbers = numbers_given change.0 value limit_options given default_limits;
        limits = ap saturated_limits (sym by.0);
      };
      recipe = subst (AsksRecipe standard_recipe) (sym parts.0) standard_parts;
    }),
    changed value table given found.1 by.1 bytes.1 parts.1,
  )

  -- what holds of each row at each value holds at each value of each row
  swapped : (table : List (Text × (Limits → ℕ → Limits)))
      → ((value : Text) → IsLimit value → AllByRecursion (λ change. StandsAnywhere mode change.0 value
      (with_limits mode (saturated_limits (change.1 standard_limits (value_of value))))) table)
      → AllByRecursion (MayChange mode) table
  swapped [] all = tt
  swapped (change ∷ table) all =
      (λ value given. (all value given).0, swapped table (λ value given. (all value given).1))

  -- ---- the options of a recipe

  recipe_anywhere : (name value : Text) (recipe : Recipe) → FoundAnywhere mode name value
      → number_texts (texts_given mode name value) ≡ default_texts (take 10 options)
      → AsksRecipe recipe (recipe_texts (texts_given mode name value))
      → StandsAnywhere mode name value (with_recipe mode recipe)
  recipe_anywhere name value recipe found numbers parts = anywhere mode name value _ found (record {
    taken = refl;
    mode = refl;
    numbers = subst (AsksNumbers MOST_BYTES standard_limits) (sym numbers) standard_numbers;
    recipe = parts;
  })

  same_word : (word value : Text) → Some word ≡ Some value → FoundAnywhere mode mix_name word
      → FoundAnywhere mode mix_name value
  same_word word value is found = subst (λ given. IsSomeAnd given (FoundAnywhere mode mix_name)) is found

  -- the word of a mix may stand anywhere, and so that of what is written
  found_mix : (mix : Mix) (value : Text) → mix_word mix ≡ Some value → FoundAnywhere mode mix_name value
  found_mix A value is = same_word (codes "a") value is (words_anywhere mode).0
  found_mix B value is = same_word (codes "b") value is (words_anywhere mode).1.0
  found_mix C value is = same_word (codes "c") value is (words_anywhere mode).1.1.0
  found_mix D value is = same_word (codes "d") value is (words_anywhere mode).1.1.1.0
  found_mix E value is = absurd cc
  found_mix F value is = same_word (codes "f") value is (words_anywhere mode).1.1.1.1.0

  found_print : (print : Print) → FoundAnywhere mode print_name (print_word print)
  found_print Trace = (words_anywhere mode).1.1.1.1.1.0
  found_print Summary = (words_anywhere mode).1.1.1.1.1.1.0

  -- each option of a recipe may stand anywhere, with any number
  found_parts : (value : Text) (table rest : List (Text × Text))
      → AllByRecursion (λ option. FoundAnywhere mode option.0 value) (table ++ rest)
      → AllByRecursion (λ option. FoundAnywhere mode option.0 value) rest
  found_parts value [] rest all = all
  found_parts value (option ∷ table) rest all = found_parts value table rest all.1

  -- and so each option of a limit
  found_limits : (value : Text) (table rest : List (Text × Text))
      → AllByRecursion (λ option. FoundAnywhere mode option.0 value) (table ++ rest)
      → AllByRecursion (λ option. FoundAnywhere mode option.0 value) table
  found_limits value [] rest all = tt
  found_limits value (option ∷ table) rest all = (all.0, found_limits value table rest all.1)

  parts_found : (value : Text) (least most : ℕ) → IsNumberFrom least most value
      → AllByRecursion (λ option. FoundAnywhere mode option.0 value) recipe_options
  parts_found value least most within =
      found_parts value limit_options recipe_options (found_anywhere mode value within.number).1

  mix_anywhere : (mix : Mix) (value : Text) → mix_word mix ≡ Some value
      → StandsAnywhere mode mix_name value (with_recipe mode (record standard_recipe { mix = mix }))
  mix_anywhere mix value is =
      recipe_anywhere mix_name value _ (found_mix mix value is) refl (record {
        mix = is;
        load = (default_load, refl);
        ops = (default_ops, refl);
        seed = (default_seed, refl);
        print = refl;
      })

  load_anywhere : (value : Text) → IsNumberFrom 1 MOST_LOAD value
      → StandsAnywhere mode load_name value (with_recipe mode (record standard_recipe { load = value_of value }))
  load_anywhere value within =
      recipe_anywhere load_name value _ (parts_found value 1 MOST_LOAD within).1.0 refl (record {
        mix = refl;
        load = (within, refl);
        ops = (default_ops, refl);
        seed = (default_seed, refl);
        print = refl;
      })

  ops_anywhere : (value : Text) → IsNumberFrom 0 MOST_OPS value
      → StandsAnywhere mode ops_name value (with_recipe mode (record standard_recipe { ops = value_of value }))
  ops_anywhere value within =
      recipe_anywhere ops_name value _ (parts_found value 0 MOST_OPS within).1.1.0 refl (record {
        mix = refl;
        load = (default_load, refl);
        ops = (within, refl);
        seed = (default_seed, refl);
        print = refl;
      })

  seed_anywhere : (value : Text) → IsNumberFrom 0 18446744073709551615 value
      → StandsAnywhere mode seed_name value (with_recipe mode (record standard_recipe { seed = value_of value }))
  seed_anywhere value within =
      recipe_anywhere seed_name value _ (parts_found value 0 18446744073709551615 within).1.1.1.0 refl (record {
        mix = refl;
        load = (default_load, refl);
        ops = (default_ops, refl);
        seed = (within, refl);
        print = refl;
      })

  print_anywhere : (print : Print) → StandsAnywhere mode print_name (print_word print)
      (with_recipe mode (record standard_recipe { print = print }))
  print_anywhere print =
      recipe_anywhere print_name (print_word print) _ (found_print print) refl (record {
        mix = refl;
        load = (default_load, refl);
        ops = (default_ops, refl);
        seed = (default_seed, refl);
        print = refl;
      })

  may_change_recipe : MayChangeRecipe mode
  may_change_recipe = record {
    mix = mix_anywhere;
    load = load_anywhere;
    ops = ops_anywhere;
    seed = seed_anywhere;
    print = print_anywhere;
  }

  may_change : AllByRecursion (MayChange mode) changes
  may_change = swapped changes (λ value given. changed value changes given
      (found_limits value limit_options recipe_options (found_anywhere mode value given.number).1)
      (change_by value) (bytes_by value) (parts_by value))

pub plain_forms : PlainFormsAreCommands
plain_forms = record {
  alone = mode_alone;
  bytes = bytes_anywhere;
  limits = may_change;
  recipe = may_change_recipe;
}
