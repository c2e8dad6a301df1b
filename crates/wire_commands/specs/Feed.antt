use Rattle.std.specs.Prelude.{◌≡◌, ◌≢◌, ℕ, List, [], ◌∷◌, ◌++◌, take, Option, None, IsSomeAnd}
use Rattle.std.specs.Option.{option_to_list}
use Rattle.wire_commands.specs.declared.request.Request.{Request}
use Rattle.wire_commands.specs.Grammar.{Reads}
use Rattle.wire_commands.specs.Stream.{Asks, HasNoNewline}

-- how many bytes are kept of a line: the most that it may have, a carriage return, and one too many
abbrev pub room : ℕ
room = 82

-- what is kept of a line
abbrev pub StandsFor : List ℕ → List ℕ → Type 0
StandsFor kept line = kept ≡ take room line

-- each line that the bytes kept stand for reads as the request
abbrev pub ReadsFor : List ℕ → Request → Type 0
ReadsFor kept request = (line : List ℕ) → StandsFor kept line → Reads line request

-- a newline ends the line, of which only this was kept, and any other byte makes it longer
pub record TakesByte (old : List ℕ) (byte : ℕ) (result : Option Request) (new : List ℕ)
    : Type 0 where
  pub reads : byte ≡ 10 → IsSomeAnd result (ReadsFor old)
  pub begins : byte ≡ 10 → new ≡ []
  pub waits : byte ≢ 10 → result ≡ None
  pub grows : byte ≢ 10 → (line : List ℕ) → StandsFor old line → StandsFor new (line ++ byte ∷ [])

-- at the end of the input a rest of one byte or more is a line
pub record TakesEnd (old : List ℕ) (result : Option Request) (new : List ℕ) : Type 0 where
  pub nothing : old ≡ [] → result ≡ None
  pub reads : old ≢ [] → IsSomeAnd result (ReadsFor old)
  pub begins : new ≡ []

-- the bytes end the line, of which only this was kept: they are its end up to their first newline, and this follows
pub record EndsLine (kept bytes : List ℕ) (request : Request) (rest : List ℕ) : Type 0 where
  pub front : List ℕ
  pub cut : bytes ≡ front ++ 10 ∷ rest
  pub whole : HasNoNewline front
  pub reads : (line : List ℕ) → StandsFor kept line → Reads (line ++ front) request

-- the bytes make the line longer
pub record Lengthens (old bytes new : List ℕ) : Type 0 where
  pub whole : HasNoNewline bytes
  pub grows : (line : List ℕ) → StandsFor old line → StandsFor new (line ++ bytes)

-- a feed that keeps this has taken these bytes, and has given these requests
abbrev pub HasGiven : List ℕ → List ℕ → List Request → Type 0
HasGiven kept bytes requests = (rest : List ℕ) × StandsFor kept rest × Asks bytes requests rest

-- a feed that keeps the first and takes these bytes gives these requests, and then keeps the last
abbrev pub Feeds : List ℕ → List ℕ → List Request → List ℕ → Type 0
Feeds kept [] requests last = (requests ≡ []) × (kept ≡ last)
Feeds kept (byte ∷ bytes) requests last =
    (result : Option Request) × (next : List ℕ) × (others : List Request)
    × TakesByte kept byte result next × (requests ≡ option_to_list result ++ others)
    × Feeds next bytes others last
