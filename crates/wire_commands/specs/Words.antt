use Rattle.std.specs.Prelude.{◌≡◌, ◌≢◌, ℕ, ◌⊎◌, List, [], ◌∷◌, ◌++◌, length}
use Rattle.std.specs.List.{AllByRecursion}

-- a space or a tab
abbrev pub IsBlank : ℕ → Type 0
IsBlank byte = (byte ≡ 32) ⊎ (byte ≡ 9)

-- one byte or more, and none of them a blank
abbrev pub IsWord : List ℕ → Type 0
IsWord word = (word ≢ []) × AllByRecursion (λ byte. ¬ (IsBlank byte)) word

-- what can follow a word: nothing, or a blank and anything after it
abbrev pub EndsWord : List ℕ → Type 0
EndsWord [] = Unit {0}
EndsWord (byte ∷ bytes) = IsBlank byte

-- this is the first word of the line, and this is what follows it
pub record BeginsWith (line word rest : List ℕ) : Type 0 where
  pub blanks : List ℕ
  pub line_is : line ≡ blanks ++ (word ++ rest)
  pub all_blank : AllByRecursion IsBlank blanks
  pub is_word : IsWord word
  pub ends : EndsWord rest

-- these are the words of the line, from left to right
abbrev pub HasWords : List ℕ → List (List ℕ) → Type 0
HasWords line [] = AllByRecursion IsBlank line
HasWords line (word ∷ words) = (rest : List ℕ) × BeginsWith line word rest × HasWords rest words

-- the line has another number of words than this
abbrev pub HasOtherCount : List ℕ → ℕ → Type 0
HasOtherCount line count = (words : List (List ℕ)) × HasWords line words × (length words ≢ count)
