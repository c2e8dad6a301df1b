use Rattle.std.specs.Prelude.{◌≡◌, ◌≢◌, ℕ, ◌⊎◌, List, [], ◌∷◌, ◌++◌}
use Rattle.std.specs.List.{AllByRecursion}
use Rattle.wire_commands.specs.declared.request.Request.{Request}
use Rattle.wire_commands.specs.Grammar.{Reads}

-- none of the bytes is a newline
abbrev pub HasNoNewline : List ℕ → Type 0
HasNoNewline bytes = AllByRecursion (λ byte. byte ≢ 10) bytes

-- the bytes are whole lines, which read as these requests in order, and then this rest of a line
abbrev pub Asks : List ℕ → List Request → List ℕ → Type 0
Asks bytes [] rest = (bytes ≡ rest) × HasNoNewline rest
Asks bytes (request ∷ requests) rest =
    (line more : List ℕ) × (bytes ≡ line ++ 10 ∷ more) × HasNoNewline line × Reads line request
    × Asks more requests rest

-- the bytes, and no more come, ask for these requests: a rest of one byte or more is a line
abbrev pub AsksToEnd : List ℕ → List Request → Type 0
AsksToEnd bytes requests =
    Asks bytes requests []
    ⊎ ((front : List Request) × (last : Request) × (rest : List ℕ)
    × (requests ≡ front ++ last ∷ []) × Asks bytes front rest × (rest ≢ []) × Reads rest last)
