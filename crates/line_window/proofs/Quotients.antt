-- A quotient of which both sides lost their low bits is off by at most one.
use Rattle.std.proofs.Common.{ℕ, ◌+◌, ◌*◌, ◌/◌, ◌-◌, ◌^◌, ◌<◌, ◌≤◌, le_of_lt, le_trans, arith, zero, suc}
use Rattle.std.proofs.lemmas.Nat.{le-div}
use Rattle.std.proofs.Math.Nat.{mul-le-mul_left, mul-le-mul_right, div-mul-le_self, lt-div-mul-add, div-le_of_le-mul, div-zero}

-- a greater number has no smaller quotient
pub div-monotone : (x y k : ℕ) → x ≤ y → x / k ≤ y / k
div-monotone x y zero h = rw (div-zero x, div-zero y) (omega arith)
div-monotone x y (suc k) h = le-div (x / suc k) y (suc k) (omega arith) (le_trans (div-mul-le_self x (suc k)) h)

-- not too low: one more than the estimate plus one is past the quotient
below_by_parts : (distance span steps unit a d e : ℕ) → 0 < unit → unit * steps ≤ span → distance < a * unit + unit → d * unit ≤ span → a * steps < e * d + d → distance * steps < (e + 2) * span
below_by_parts distance span steps unit a d e pos near high low estimated =
    let product : distance * steps ≤ (a * unit + unit) * steps = mul-le-mul_right steps (le_of_lt high) in
    let next : (a * steps + 1) * unit ≤ (e * d + d) * unit = mul-le-mul_right unit (omega arith) in
    let lost : (e + 1) * (d * unit) ≤ (e + 1) * span = mul-le-mul_left (e + 1) low in
    omega arith

-- not too high: the estimate less one is within the quotient
above_by_parts : (distance span steps unit a d e : ℕ) → unit * steps ≤ span → a * unit ≤ distance → span < d * unit + unit → e * d ≤ a * steps → e ≤ steps → e * span ≤ distance * steps + span
above_by_parts distance span steps unit a d e near low high estimated few =
    let reached : e * span ≤ e * (d * unit + unit) = mul-le-mul_left e (le_of_lt high) in
    let within : e * d * unit ≤ a * steps * unit = mul-le-mul_right unit estimated in
    let lost : e * unit ≤ steps * unit = mul-le-mul_right unit few in
    let product : a * unit * steps ≤ distance * steps = mul-le-mul_right steps low in
    omega arith

-- the estimate is at most one too low
pub estimate_below : (distance span steps unit : ℕ) → 0 < unit → unit * steps ≤ span → 0 < span / unit → distance * steps < (distance / unit * steps / (span / unit) + 2) * span
estimate_below distance span steps unit pos near whole =
    below_by_parts distance span steps unit (distance / unit) (span / unit) _ pos near (lt-div-mul-add pos) (div-mul-le_self span unit) (lt-div-mul-add whole)

-- the estimate is at most one too high
pub estimate_above : (distance span steps unit : ℕ) → 0 < unit → unit * steps ≤ span → distance ≤ span → distance / unit * steps / (span / unit) * span ≤ distance * steps + span
estimate_above distance span steps unit pos near within =
    above_by_parts distance span steps unit (distance / unit) (span / unit) _ near (div-mul-le_self distance unit) (lt-div-mul-add pos) (div-mul-le_self (distance / unit * steps) (span / unit))
    (div-le_of_le-mul (span / unit) (mul-le-mul_right steps (div-monotone distance span unit within)))

-- a product past 64 bits of few steps has a long span
pub long_span : (distance span steps : ℕ) → distance < span → steps < 2 ^ 20 → 2 ^ 64 - 1 < distance * steps → 2 ^ 40 ≤ span
long_span distance span steps within few long =
    let product : distance * steps ≤ distance * 2 ^ 20 = mul-le-mul_left distance (le_of_lt few) in
    omega arith
