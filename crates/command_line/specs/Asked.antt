-- The numbers that words ask for, and the limits that are made of them.
use Rattle.std.specs.Prelude.{◌≡◌, ◌↔◌, ◌≤◌, ℕ, List, IsSomeAnd, codes, min}
use Rattle.std.specs.List.{AllByRecursion}
use Rattle.std.specs.Option.{option_map_or}
use Rattle.clap.specs.Walk.{Text}
use Rattle.clap.specs.Words.{Row, first_of}
use Rattle.command_line.specs.Grammar.{limit_options}
use Rattle.wire_commands.specs.Numbers.{IsNumber, value_of}
use Rattle.word_layout.specs.declared.limits.Limits.{Limits}
use Rattle.word_layout.specs.Limits.{IsFirstBroken, KeepsRules}

-- the text is a number, and its value lies in the bounds
pub record IsNumberFrom (least most : ℕ) (text : List ℕ) : Type 0 where
  pub number : IsNumber text
  pub low : least ≤ value_of text
  pub high : value_of text ≤ most

-- the text is a number of 64 bits
abbrev pub IsLimit : List ℕ → Type 0
IsLimit = IsNumberFrom 0 18446744073709551615

-- the text that was found for the option is a number in the bounds
abbrev pub HasNumberAt : ℕ → ℕ → List Row → Text → Type 0
HasNumberAt least most found name = IsSomeAnd (first_of name found) (IsNumberFrom least most)

-- the text that was found for the option is a number of 64 bits
abbrev pub HasLimitAt : List Row → Text → Type 0
HasLimitAt = HasNumberAt 0 18446744073709551615

-- the text that was found for each limit is a number of 64 bits
abbrev pub HasLimits : List Row → Type 0
HasLimits found = AllByRecursion (λ option. HasLimitAt found option.0) limit_options

-- the number that was found for the option
abbrev pub number_at : List Row → Text → ℕ
number_at found name = option_map_or value_of (first_of name found) 0

-- the text that was found for the option is a number in the bounds, and this is its value
abbrev pub IsNumberAt : ℕ → ℕ → List Row → Text → ℕ → Type 0
IsNumberAt least most found name number =
    HasNumberAt least most found name × (number ≡ number_at found name)

-- the limits that are asked for, as plain numbers of any size
abbrev pub limits_found : List Row → Limits
limits_found found = record {
  callers = number_at found (codes "callers");
  records = number_at found (codes "records");
  groups = number_at found (codes "groups");
  group_size = number_at found (codes "group-size");
  slots = number_at found (codes "slots");
  due = number_at found (codes "due");
  help = number_at found (codes "assist");
  chain = number_at found (codes "chain");
  first_version = number_at found (codes "first-version");
}

-- the number, or the greatest number of 32 bits where it is greater
abbrev pub saturated : ℕ → ℕ
saturated number = min number 4294967295

-- the limits with each number of 32 bits in place of a greater one
abbrev pub saturated_limits : Limits → Limits
saturated_limits l = record {
  callers = saturated l.callers;
  records = saturated l.records;
  groups = saturated l.groups;
  group_size = saturated l.group_size;
  slots = saturated l.slots;
  due = saturated l.due;
  help = saturated l.help;
  chain = saturated l.chain;
  first_version = l.first_version;
}

-- limits keep the rules, or break one first, just where they do so once their numbers are saturated
pub record SaturationKeepsRules : Type 0 where
  pub kept : (l : Limits) → KeepsRules l ↔ KeepsRules (saturated_limits l)
  pub broken : (l : Limits) (number : ℕ)
      → IsFirstBroken l number ↔ IsFirstBroken (saturated_limits l) number
