-- What follows from the definitions of the groups' number and share alone.
use Rattle.std.proofs.Common.{ℕ, ◌*◌, ◌<◌, ◌≤◌, arith}
use Rattle.std.proofs.Math.Nat.{mul-le-mul_left, mul-le-mul_right}
use Rattle.std.specs.Int.{div_ceil}
use Rattle.rebuild_plan.specs.Plan.{fill_limit, group_count, share_of, first_record}
use Rattle.rebuild_plan.proofs.Rounding.{div_ceil-enough, div_ceil-least, below_div_ceil}

-- more of the same size are enough too
enough_more : (records groups more size : ℕ) → groups ≤ more → records ≤ groups * size →
    records ≤ more * size
enough_more records groups more size rises enough =
    let larger : groups * size ≤ more * size = mul-le-mul_right size rises in
    omega arith

-- the new groups together have room for the records
pub group_count-enough : (records group_size : ℕ) → 8 ≤ group_size →
    records ≤ group_count records group_size * fill_limit group_size
group_count-enough records group_size big =
    enough_more records (div_ceil records (fill_limit group_size)) (group_count records group_size)
    (fill_limit group_size) (omega arith)
    (div_ceil-enough records (fill_limit group_size) (omega arith))

-- no group gets more than the fill limit
pub share_of-le_fill : (records group_size : ℕ) → 8 ≤ group_size →
    share_of records (group_count records group_size) ≤ fill_limit group_size
share_of-le_fill records group_size big =
    let enough = group_count-enough records group_size big in
    div_ceil-least records (group_count records group_size) (fill_limit group_size) (omega arith)
    (omega (arith, enough))

-- a later one of the planned groups begins at a record
pub first_record-below : (records group_size group : ℕ) → 8 ≤ group_size → 1 ≤ group →
    group < group_count records group_size →
    first_record (share_of records (group_count records group_size)) group < records
first_record-below records group_size group big later among =
    let limit = fill_limit group_size in
    let share = share_of records (group_count records group_size) in
    -- the groups before it are too few at the limit, and so at the share
    let short : group * limit < records =
    below_div_ceil records limit group (omega arith) (omega arith) in
    let fewer : group * share ≤ group * limit =
    mul-le-mul_left group (share_of-le_fill records group_size big) in
    omega arith
