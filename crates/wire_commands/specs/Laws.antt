use Rattle.std.specs.Prelude.{◌≡◌, ℕ, List, [], ◌++◌, Option}
use Rattle.std.specs.Option.{option_to_list}
use Rattle.wire_commands.specs.declared.request.Request.{Request}
use Rattle.wire_commands.specs.Words.{HasWords}
use Rattle.wire_commands.specs.Grammar.{Reads}
use Rattle.wire_commands.specs.Stream.{Asks, AsksToEnd}
use Rattle.wire_commands.specs.Feed.{Feeds, HasGiven, TakesEnd}

-- each line has its words, and no others
abbrev pub LinesHaveWords : Type 0
LinesHaveWords =
    (line : List ℕ) → (words : List (List ℕ)) × HasWords line words
    × ((others : List (List ℕ)) → HasWords line others → others ≡ words)

-- each line reads as some request
abbrev pub LinesRead : Type 0
LinesRead = (line : List ℕ) → (request : Request) × Reads line request

-- no line reads as two requests
abbrev pub LinesReadOnce : Type 0
LinesReadOnce =
    (line : List ℕ) (request other : Request)
    → Reads line request → Reads line other → request ≡ other

-- all bytes are the lines of some requests, and a rest
abbrev pub StreamsAsk : Type 0
StreamsAsk =
    (bytes : List ℕ) → (requests : List Request) × (rest : List ℕ) × Asks bytes requests rest

-- bytes are the lines of one list of requests only, and one rest
abbrev pub StreamsAskOnce : Type 0
StreamsAskOnce =
    (bytes : List ℕ) (requests others : List Request) (rest more : List ℕ)
    → Asks bytes requests rest → Asks bytes others more → (requests ≡ others) × (rest ≡ more)

-- a feed gives the requests of its bytes, and with those of the end all that they ask for
pub record FeedsGive (bytes : List ℕ) (requests : List Request) (last : List ℕ) : Type 0 where
  pub asked : HasGiven last bytes requests
  pub at_end : (result : Option Request) (new : List ℕ) → TakesEnd last result new
      → AsksToEnd bytes (requests ++ option_to_list result)

-- whatever bytes come to a new feed, it gives what they ask for
abbrev pub FeedsAsk : Type 0
FeedsAsk =
    (bytes : List ℕ) (requests : List Request) (last : List ℕ)
    → Feeds [] bytes requests last → FeedsGive bytes requests last
