-- The words of a group's header and their numbers.
use Rattle.std.specs.Prelude.{ℕ, zero, suc, ◌+◌, ◌-◌, ◌<◌, Bool, false, ◌==◌, nat_lt, if◌then◌else◌}
use Rattle.word_layout.specs.declared.headers.HeaderWord.{HeaderWord}
use Rattle.word_layout.specs.declared.headers.HeaderWord.TheVariants.{Pivot, Size, LineError, Lanes}
use Rattle.word_layout.specs.declared.headers.HeaderWord.TheVariants.{Phase, Next, FirstSpare}
use Rattle.word_layout.specs.declared.headers.HeaderWord.TheVariants.{SecondSpare, Head, Cut}

-- how many words a header has
abbrev pub header_words : ℕ
header_words = 24

-- how many lanes a buffer has at most
abbrev pub most_lanes : ℕ
most_lanes = 8

-- the number of a word among those of its header
abbrev pub number_of : HeaderWord → ℕ
number_of Pivot = 0
number_of Size = 1
number_of LineError = 2
number_of Lanes = 3
number_of Phase = 4
number_of Next = 5
number_of FirstSpare = 6
number_of SecondSpare = 7
number_of (Head lane) = 8 + lane
number_of (Cut lane) = 16 + lane

-- the word so far behind the first head: a head, and behind all heads a cut
abbrev pub lane_word : ℕ → HeaderWord
lane_word n = if nat_lt n most_lanes then Head n else Cut (n - most_lanes)

-- the header word with a number
abbrev pub header_word : ℕ → HeaderWord
header_word zero = Pivot
header_word (suc zero) = Size
header_word (suc (suc zero)) = LineError
header_word (suc (suc (suc zero))) = Lanes
header_word (suc (suc (suc (suc zero)))) = Phase
header_word (suc (suc (suc (suc (suc zero))))) = Next
header_word (suc (suc (suc (suc (suc (suc zero)))))) = FirstSpare
header_word (suc (suc (suc (suc (suc (suc (suc zero))))))) = SecondSpare
header_word (suc (suc (suc (suc (suc (suc (suc (suc n)))))))) = lane_word n

-- whether two are one word of a header
abbrev pub same_header_word : HeaderWord → HeaderWord → Bool
same_header_word (Head i) (Head j) = i == j
same_header_word (Head i) _ = false
same_header_word (Cut i) (Cut j) = i == j
same_header_word (Cut i) _ = false
same_header_word h (Head j) = false
same_header_word h (Cut j) = false
same_header_word h k = number_of h == number_of k

-- the word is one that a header has: a head or a cut is that of a lane
abbrev pub IsHeaderWord : HeaderWord → Type 0
IsHeaderWord (Head lane) = lane < most_lanes
IsHeaderWord (Cut lane) = lane < most_lanes
IsHeaderWord _ = Unit {0}
