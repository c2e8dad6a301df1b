-- The ends in memory as contracts see them.
use Rattle.std.specs.Prelude.{◌≡◌, ◌⊎◌, ℕ, ◌+◌, ◌-◌, ◌^◌, ◌≤◌, ◌<◌, min, List, [], ◌++◌, drop, length, Contains}
use Rattle.line_session.specs.declared.ends.Took.{Took}
use Rattle.line_session.specs.declared.ends.Took.TheVariants as took
use Rattle.line_session.specs.declared.ends.Gave.{Gave}
use Rattle.line_session.specs.declared.ends.Gave.TheVariants as gave

-- the bytes that are left, and the most that are handed out at a time
pub record Supply : Type 0 where
  pub left : List ℕ
  pub step : ℕ

-- as many bytes as there are, but no more than a step and than there is room for
abbrev pub HandsOutSteps : Supply → Took → ℕ → Supply → Type 0
HandsOutSteps old (took.Bytes n) room new =
    (n ≡ min (min old.step (length old.left)) room) × (new ≡ record old { left = drop n old.left })
HandsOutSteps old took.End room new = (old.left ≡ []) × (new ≡ old)
HandsOutSteps old took.Failed room new = ⊥

-- a supply, the numbers of the calls that fail, how many calls were made, and how many of them have failed
pub record Script : Type 0 where
  pub supply : Supply
  pub fails : List ℕ
  pub calls : ℕ
  pub faults : ℕ

-- one more, but for the last number of 64 bits
abbrev pub one_more : ℕ → ℕ
one_more count = min (count + 1) (2 ^ 64 - 1)

-- a listed call fails, and every other call hands out of the supply
abbrev pub ReadsByScript : Script → Took → ℕ → Script → Type 0
ReadsByScript old took.Failed room new =
    Contains old.fails old.calls
    × (new ≡ record old { calls = one_more old.calls; faults = one_more old.faults })
ReadsByScript old took room new =
    (¬ (Contains old.fails old.calls)) × HandsOutSteps old.supply took room new.supply
    × (new ≡ record old { supply = new.supply; calls = one_more old.calls })

-- what was written, how much there is room for, and the calls as of a script
pub record Store : Type 0 where
  pub bytes : List ℕ
  pub room : ℕ
  pub fails : List ℕ
  pub calls : ℕ
  pub faults : ℕ

-- a listed call fails, and so does a piece that has no room; every other piece is taken whole
abbrev pub TakesByScript : Store → List ℕ → Gave → Store → Type 0
TakesByScript old piece gave.Failed new =
    (Contains old.fails old.calls ⊎ (old.room < length old.bytes + length piece))
    × (new ≡ record old { calls = one_more old.calls; faults = one_more old.faults })
TakesByScript old piece (gave.Bytes n) new =
    (¬ (Contains old.fails old.calls)) × (length old.bytes + length piece ≤ old.room)
    × (n ≡ length piece)
    × (new ≡ record old { bytes = old.bytes ++ piece; calls = one_more old.calls })
