-- What a command says of the words that ask for it.
use Rattle.std.proofs.Common.{◌≡◌, ◌≢◌, ◌∙◌, ◌-◌, ◌≤◌, ℕ, List, [], ◌∷◌, Option, Some, None, ap, codes, get_or, refl, subst, sym}
use Rattle.std.specs.Option.{option_map_or}
use Rattle.std.specs.Prelude.{IsSomeAnd, if◌then◌else◌}
use Rattle.std.specs.Str.{bytes_eq}
use Rattle.clap.specs.Walk.{Text}
use Rattle.clap.specs.Words.{Row, first_of, matches_of}
use Rattle.command_line.specs.Asked.{IsNumberAt, IsNumberFrom, saturated_limits}
use Rattle.command_line.specs.Command.{AsksForRecipe, IsCommand, KeepsBounds, WordsDetermineTheCommand, asked_limits, mix_word, mode_word, print_word}
use Rattle.command_line.specs.Grammar.{bytes_name, load_name, mix_name, ops_name, the_app}
use Rattle.command_line.specs.declared.answers.Command.{Command}
use Rattle.command_line.specs.declared.answers.Mode.{Mode}
use Rattle.command_line.specs.declared.answers.Mode.TheVariants.{Pipe, Run, Gen}
use Rattle.command_line.specs.declared.answers.Print.{Print}
use Rattle.command_line.specs.declared.answers.Print.TheVariants.{Trace, Summary}
use Rattle.command_line.specs.declared.answers.Recipe.{Recipe}
use Rattle.command_line.specs.declared.answers.TheConstants.{MOST_BYTES, MOST_LOAD, MOST_OPS}
use Rattle.command_line.proofs.SaturationLaws.{saturation}
use Rattle.wire_commands.specs.Numbers.{value_of}
use Rattle.word_layout.specs.declared.limits.Limits.{Limits}
use Rattle.word_layout.specs.Limits.{IsFirstBroken, KeepsRules}
use Rattle.ycsb_mix.specs.declared.mixes.Mix.{Mix}
use Rattle.ycsb_mix.specs.declared.mixes.Mix.TheVariants.{A, B, C, D, E, F}

-- the mode, the mix and what is written, by their words
abbrev mode_of : Text → Mode
mode_of word = if bytes_eq word (codes "pipe") then Pipe else if bytes_eq word (codes "run") then Run else Gen

abbrev mix_of : Option Text → Mix
mix_of None = E
mix_of (Some word) = get_or (A ∷ B ∷ C ∷ D ∷ E ∷ F ∷ []) (get_or word 0 0 - 97) E

abbrev print_of : Text → Print
print_of word = if bytes_eq word (codes "trace") then Trace else Summary

mode_back : (mode : Mode) → mode_of (mode_word mode) ≡ mode
mode_back Pipe = refl
mode_back Run = refl
mode_back Gen = refl

mix_back : (mix : Mix) → mix_of (mix_word mix) ≡ mix
mix_back A = refl
mix_back B = refl
mix_back C = refl
mix_back D = refl
mix_back E = refl
mix_back F = refl

print_back : (print : Print) → print_of (print_word print) ≡ print
print_back Trace = refl
print_back Summary = refl

one_mode : (given : Option Text) (one other : Mode) → given ≡ Some (mode_word one) → given ≡ Some (mode_word other)
    → one ≡ other
one_mode given one other first second =
    let same : mode_word one ≡ mode_word other = cc in
    sym (mode_back one) ∙ ap mode_of same ∙ mode_back other

one_print : (given : Option Text) (one other : Print) → given ≡ Some (print_word one)
    → given ≡ Some (print_word other) → one ≡ other
one_print given one other first second =
    let same : print_word one ≡ print_word other = cc in
    sym (print_back one) ∙ ap print_of same ∙ print_back other

one_mix : (given : Option Text) (one other : Mix) → IsSomeAnd given (λ word. mix_word one ≡ Some word)
    → IsSomeAnd given (λ word. mix_word other ≡ Some word) → one ≡ other
one_mix None one other first second = absurd first
one_mix (Some word) one other first second =
    sym (mix_back one) ∙ ap mix_of (first ∙ sym second) ∙ mix_back other

-- a recipe and a command by their parts
abbrev recipe_of : Mix → ℕ → ℕ → ℕ → Print → Recipe
recipe_of mix load ops seed print = record { mix = mix; load = load; ops = ops; seed = seed; print = print }

abbrev command_of : Mode → ℕ → Limits → Recipe → Command
command_of mode bytes limits recipe = record { mode = mode; bytes = bytes; limits = limits; recipe = recipe }

one_recipe : (found : List Row) (one other : Recipe) → AsksForRecipe found one → AsksForRecipe found other
    → one ≡ other
one_recipe found one other first second =
    let mix = one_mix _ one.mix other.mix first.mix second.mix in
    let load : one.load ≡ other.load = first.load.1 ∙ sym second.load.1 in
    let ops : one.ops ≡ other.ops = first.ops.1 ∙ sym second.ops.1 in
    let seed : one.seed ≡ other.seed = first.seed.1 ∙ sym second.seed.1 in
    let print = one_print _ one.print other.print first.print second.print in
    let whole : recipe_of one.mix one.load one.ops one.seed one.print
    ≡ recipe_of other.mix other.load other.ops other.seed other.print = rw (mix, load, ops, seed, print) in
    whole

pub one_command : WordsDetermineTheCommand
one_command words one other first second =
    let mode = one_mode _ one.mode other.mode first.1.mode second.1.mode in
    let bytes : one.bytes ≡ other.bytes = first.1.bytes.1 ∙ sym second.1.bytes.1 in
    let limits : one.limits ≡ other.limits = first.1.limits ∙ sym second.1.limits in
    let recipe = one_recipe _ one.recipe other.recipe first.1.recipe second.1.recipe in
    let whole : command_of one.mode one.bytes one.limits one.recipe
    ≡ command_of other.mode other.bytes other.limits other.recipe = rw (mode, bytes, limits, recipe) in
    whole

-- the number of a text in the bounds lies in them
text_within : (least most : ℕ) (given : Option Text) → IsSomeAnd given (IsNumberFrom least most)
    → (least ≤ option_map_or value_of given 0) × (option_map_or value_of given 0 ≤ most)
text_within least most None is = absurd is
text_within least most (Some text) is = (is.low, is.high)

number_within : (least most : ℕ) (found : List Row) (name : Text) (number : ℕ)
    → IsNumberAt least most found name number → (least ≤ number) × (number ≤ most)
number_within least most found name number is =
    rw is.1 (text_within least most (first_of name found) is.0)

no_scans : (given : Option Text) (mix : Mix) → IsSomeAnd given (λ word. mix_word mix ≡ Some word) → mix ≢ E
no_scans None mix is = absurd is
no_scans (Some word) mix is = λ scans. let clash : mix_word E ≡ Some word = sym (ap mix_word scans) ∙ is in cc

-- the numbers of a command lie in their bounds, and its mix has no scans
pub keeps_bounds : (words : List Text) (command : Command) → IsCommand words command → KeepsBounds command
keeps_bounds words command asks =
    let found = matches_of the_app words in
    let bytes = number_within 1 MOST_BYTES found bytes_name command.bytes asks.1.bytes in
    let load = number_within 1 MOST_LOAD found load_name command.recipe.load asks.1.recipe.load in
    let ops = number_within 0 MOST_OPS found ops_name command.recipe.ops asks.1.recipe.ops in
    record {
      least_bytes = bytes.0;
      most_bytes = bytes.1;
      least_load = load.0;
      most_load = load.1;
      most_ops = ops.1;
      no_scans = no_scans (first_of mix_name found) command.recipe.mix asks.1.recipe.mix;
    }

limits_are : (words : List (List ℕ)) (command : Command) → IsCommand words command
    → command.limits ≡ saturated_limits (asked_limits words)
unfolding asked_limits
limits_are words command asks = asks.1.limits

-- the limits of a command keep the rules where the numbers that are asked for do
pub keeps_asked : (words : List (List ℕ)) (command : Command) → IsCommand words command
    → KeepsRules (asked_limits words) → KeepsRules command.limits
keeps_asked words command asks kept =
    subst KeepsRules (sym (limits_are words command asks)) ((saturation.kept (asked_limits words)).0 kept)

-- and break the same rule first
pub breaks_asked : (words : List (List ℕ)) (command : Command) (number : ℕ) → IsCommand words command
    → IsFirstBroken (asked_limits words) number → IsFirstBroken command.limits number
breaks_asked words command number asks first =
    subst (λ (l : Limits). IsFirstBroken l number) (sym (limits_are words command asks))
    ((saturation.broken (asked_limits words) number).0 first)

pub asked_breaks : (words : List (List ℕ)) (command : Command) (number : ℕ) → IsCommand words command
    → IsFirstBroken command.limits number → IsFirstBroken (asked_limits words) number
asked_breaks words command number asks first =
    (saturation.broken (asked_limits words) number).1
    (subst (λ (l : Limits). IsFirstBroken l number) (limits_are words command asks) first)
