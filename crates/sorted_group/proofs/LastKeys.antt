-- The last key of a lane, by the cut of the next one.
use Rattle.std.proofs.Common.{◌≡◌, ℕ, ◌+◌, ◌-◌, ◌<◌, ◌≤◌, inr, ⊎_elim, [], ◌∷◌, refl, arith}
use Rattle.word_layout.specs.declared.headers.HeaderWord.TheVariants.{Cut, Lanes}
use Rattle.index_machine.specs.declared.events.Action.TheVariants.{LoadHeader}
use Rattle.index_machine.specs.Lanes.{cut, lanes}
use Rattle.machine_buffers.proofs.BegunLanes.{cuts_rise}
use Rattle.index_rule.specs.declared.board.Board.{Board}
use Rattle.index_rule.specs.declared.hand.Hand.{Hand}
use Rattle.index_rule.specs.Buffers.{TellsBegun}
use Rattle.index_rule.specs.Hands.{Makes, known, opening_of}
use Rattle.index_rule.proofs.Stepping.{valid_known}
use Rattle.sorted_group.specs.declared.answers.Lane.{Lane}
use Rattle.sorted_group.specs.LaneEnds.{EndsLane}
use Rattle.sorted_group.specs.Loads.{LoadsLanes}
use Rattle.sorted_group.specs.Standing.{CanFollow}
use Rattle.sorted_group.proofs.BufferLoads.{lanes_still}

-- the number of lanes was loaded, and then this cut
pub loads_cut : (b : Board) (g many next found : ℕ) (h m k : Hand) →
    Makes b h (LoadHeader g Lanes many) m → Makes b m (LoadHeader g (Cut next) found) k →
    LoadsLanes b g 1 h k
loads_cut b g many next found h m k first second = (
  LoadHeader g (Cut next) found ∷ LoadHeader g Lanes many ∷ [],
  (refl, (many, refl)),
  omega arith,
  (m, (h, refl, first), second),
)

module _ (b : Board) (lane : Lane) (found : ℕ) (m k : Hand) (can : CanFollow b lane.group m)
    (more : lane.number + 1 < lanes (opening_of b) lane.group (known m))
    (l : Makes b m (LoadHeader lane.group (Cut (lane.number + 1)) found) k)
    (tells : TellsBegun (opening_of b) lane.group (Cut (lane.number + 1)) found (known m) (known k)) where
  more_still : lane.number + 1 < lanes (opening_of b) lane.group (known k)
  more_still =
      let same : lanes (opening_of b) lane.group (known k) ≡ lanes (opening_of b) lane.group (known m) =
      lanes_still b lane.group m k (LoadHeader lane.group (Cut (lane.number + 1)) found) refl l can Lanes
      in
      omega (arith, same, more)

  cut_is : cut (opening_of b) lane.group (lane.number + 1) (known k) ≡ found
  cut_is = tells.1

  -- the next cut is not 0
  pub some : 1 ≤ found
  some =
      let rising = (cuts_rise (opening_of b) (known k)
      (valid_known b m k (LoadHeader lane.group (Cut (lane.number + 1)) found) can.of l)
      lane.group).rising lane.number more_still in
      let is = cut_is in omega (arith, rising, is)

  -- and the lane's keys end before it
  pub ends_before : (end : ℕ) → EndsLane (opening_of b) lane end (found - 1) (known k)
  ends_before end =
      let low = some in
      let is = cut_is in
      let left = more_still in
      record {
        at = inr (left, omega (arith, low, is));
        has = λ j le. (
          (λ has. (
            has.from,
            ⊎_elim
                (λ (z : lane.number + 1 ≡ lanes (opening_of b) lane.group (known k)).
                absurd (omega (arith, z, left)))
                (λ (z : j < cut (opening_of b) lane.group (lane.number + 1) (known k)).
                omega (arith, z, is)) has.end,
          )),
          (λ w. record {
            is_lane = omega (arith, left);
            from = w.0;
            end = inr (let high = w.1 in omega (arith, high, low, is));
          }),
        );
      }
