-- Quotients rounded up: the least number of equal parts, or the least size of them, that is enough.
use Rattle.std.proofs.Common.{ℕ, ◌+◌, ◌*◌, ◌<◌, ◌≤◌, arith, inl, inr}
use Rattle.std.proofs.Math.Nat.{mul-le-mul_left, mul-le-mul_right}
use Rattle.std.proofs.lemmas.Bool.{cases_lt}
use Rattle.std.proofs.lemmas.Grind.{div_ceil_times}
use Rattle.std.specs.Int.{div_ceil}

-- so many times the divisor are enough
pub div_ceil-enough : (n d : ℕ) → 0 < d → n ≤ div_ceil n d * d
div_ceil-enough n d some = (div_ceil_times n d some).0

-- and any number that is enough is no smaller
pub div_ceil-least : (n d c : ℕ) → 0 < d → n ≤ c * d → div_ceil n d ≤ c
div_ceil-least n d c some enough =
    elim (cases_lt c (div_ceil n d)) [
      | inl above ↦
          let next : c + 1 ≤ div_ceil n d = omega arith in
          let times : (c + 1) * d ≤ div_ceil n d * d = mul-le-mul_right d next in
          let less : div_ceil n d * d < n + d = (div_ceil_times n d some).1 in
          absurd (omega arith)
      | inr least ↦ least
    ]

-- a smaller number falls short
pub below_div_ceil : (n d c : ℕ) → 0 < d → c < div_ceil n d → c * d < n
below_div_ceil n d c some below =
    elim (cases_lt (c * d) n) [
      | inl short ↦ short
      | inr enough ↦
          let least : div_ceil n d ≤ c = div_ceil-least n d c some enough in
          absurd (omega arith)
    ]

-- parts that together hold something are not empty
pub part-pos : (n parts size : ℕ) → 0 < n → n ≤ parts * size → 0 < size
part-pos n parts size some enough =
    elim (cases_lt 0 size) [
      | inl above ↦ above
      | inr none ↦
          let nothing : parts * size ≤ parts * 0 = mul-le-mul_left parts none in
          absurd (omega arith)
    ]

pub div_ceil-pos : (n d : ℕ) → 0 < n → 0 < d → 0 < div_ceil n d
div_ceil-pos n d some_n some_d =
    let enough = div_ceil-enough n d some_d in
    part-pos n d (div_ceil n d) some_n (omega (arith, enough))
