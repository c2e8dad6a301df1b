-- What follows from the definitions of the lanes' number and width alone.
use Rattle.std.proofs.Common.{ℕ, ◌*◌, ◌<◌, ◌≤◌, arith}
use Rattle.std.proofs.Math.Nat.{mul-le-mul_left, mul-le-mul_right}
use Rattle.std.specs.Int.{div_ceil}
use Rattle.rebuild_plan.specs.Plan.{most_lanes, lane_width, lane_count, first_record}
use Rattle.rebuild_plan.specs.Plan.{DividesRecords}
use Rattle.rebuild_plan.proofs.Rounding.{div_ceil-enough, div_ceil-least, below_div_ceil}
use Rattle.rebuild_plan.proofs.Parts.{divides}

-- the lanes hold the records
pub lane_count-enough : (records : ℕ) → records ≤ lane_count records * lane_width records
lane_count-enough records =
    let width = lane_width records in
    let enough : records ≤ div_ceil records width * width =
    div_ceil-enough records width (omega arith) in
    let larger : div_ceil records width * width ≤ lane_count records * width =
    mul-le-mul_right width (omega arith) in
    omega arith

-- and they are at most as many as a buffer may have
pub lane_count-most : (records : ℕ) → lane_count records ≤ most_lanes
lane_count-most records =
    let width = lane_width records in
    let enough : records ≤ div_ceil records most_lanes * most_lanes =
    div_ceil-enough records most_lanes (omega arith) in
    let larger : most_lanes * div_ceil records most_lanes ≤ most_lanes * width =
    mul-le-mul_left most_lanes (omega arith) in
    let least : div_ceil records width ≤ most_lanes =
    div_ceil-least records width most_lanes (omega arith) (omega arith) in
    omega arith

-- a later lane begins at a record
pub lane-first_below : (records lane : ℕ) → 1 ≤ lane → lane < lane_count records →
    first_record (lane_width records) lane < records
lane-first_below records lane later among =
    below_div_ceil records (lane_width records) lane (omega arith) (omega arith)

-- each record lies in one lane
pub lanes_divide : (records : ℕ) → DividesRecords records (lane_count records) (lane_width records)
lanes_divide records =
    divides records (lane_count records) (lane_width records) (lane_count-enough records)
