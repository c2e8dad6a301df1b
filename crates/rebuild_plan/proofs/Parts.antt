-- Equal parts of a row of numbers, one after another.
use Rattle.std.proofs.Common.{ℕ, ◌≡◌, ◌+◌, ◌*◌, ◌/◌, ◌%◌, ◌<◌, ◌≤◌, arith, inl, inr}
use Rattle.std.proofs.Math.Nat.{mul-le-mul_right}
use Rattle.std.proofs.lemmas.Bool.{cases_lt}
use Rattle.std.proofs.lemmas.Nat.{div_below, mod_below, div-add-mod'}
use Rattle.rebuild_plan.specs.Plan.{IsGivenTo, DividesRecords}
use Rattle.rebuild_plan.proofs.Rounding.{part-pos}

-- a number lies in the part that its quotient names
pub quotient_part : (number size : ℕ) → 0 < size →
    (number / size * size ≤ number) × (number < (number / size + 1) * size)
quotient_part number size some =
    let whole : number / size * size + number % size ≡ number = div-add-mod' number size in
    let rest : number % size < size = mod_below number size some in
    (omega arith, omega arith)

-- of two parts that a number lies in, neither is before the other
not_before : (size number one other : ℕ) → number < (one + 1) * size → other * size ≤ number → other ≤ one
not_before size number one other below from =
    elim (cases_lt one other) [
      | inl later ↦
          let after : one + 1 ≤ other = omega arith in
          let past : (one + 1) * size ≤ other * size = mul-le-mul_right size after in
          absurd (omega arith)
      | inr not_later ↦ not_later
    ]

-- each record goes into the part that its quotient names
given_to : (records groups share number : ℕ) → records ≤ groups * share → number < records →
    (group : ℕ) × (group < groups) × IsGivenTo records share number group
given_to records groups share number covers within =
    let some : 0 < share = part-pos records groups share (omega arith) covers in
    let part = quotient_part number share some in (
      number / share,
      div_below number share groups some (omega arith),
      record { begins = part.0; ends = omega arith },
    )

-- as many equal parts as are enough divide the records
pub divides : (records groups share : ℕ) → records ≤ groups * share → DividesRecords records groups share
divides records groups share covers = record {
  given = λ number within. given_to records groups share number covers within;
  once = λ number one other a b.
      let later : one ≤ other = not_before share number other one (omega (arith, b.ends)) a.begins in
      let earlier : other ≤ one = not_before share number one other (omega (arith, a.ends)) b.begins in
      omega arith;
  bounded = λ group. omega arith;
}
