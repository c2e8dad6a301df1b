-- The lanes of a buffer as a hand knows them: they stay whatever others do, and a key's lane is known by
-- its cut.
use Rattle.std.proofs.Common.{inr, ◌≡◌, ◌≢◌, ℕ, zero, suc, ◌+◌, ◌-◌, ◌<◌, ◌≤◌, ⊎_elim, cond, [], ◌∷◌}
use Rattle.std.proofs.Common.{Bool, true, ◌++◌, sym, ap, ◌∙◌, subst, arith, lt-ltb, le-ltb}
use mathlib.Core.Logic.{dite}
use native.Mathlib.Decide.{ℕ_discrete}
use Rattle.word_layout.specs.declared.headers.HeaderWord.{HeaderWord}
use Rattle.index_machine.specs.declared.events.Action.TheVariants.{NewGroup, Retire, StoreHeader}
use Rattle.index_machine.specs.declared.opening.Opening.{Opening}
use Rattle.index_machine.specs.Conditions.{Valid}
use Rattle.index_machine.specs.Execution.{Execution, Without}
use Rattle.index_machine.specs.Lanes.{HasLane, cut, lanes}
use Rattle.index_machine.specs.Reaching.{stands_in}
use Rattle.index_machine.specs.Rows.{InBuffer, role}
use Rattle.index_machine.specs.Sections.{IsReading}
use Rattle.index_machine.specs.Keepers.{IsGroupKeeper}
use Rattle.machine_barriers.proofs.Reaches.{may_as}
use Rattle.machine_buffers.proofs.BegunLanes.{HasSameLanes, lanes_while, until_begun}
use Rattle.machine_buffers.proofs.Walks.{walkable_until, walkable_while}
use Rattle.machine_buffers.specs.Groups.{Begins}
use Rattle.machine_buffers.specs.Walks.{AreRisingLanes, BeginsNever, IsLaneWord, IsLeftWhole}
use Rattle.machine_buffers.specs.Walks.{IsWalkable, TakesApart}
use Rattle.index_rule.specs.Buffers.{CanWalk}
use Rattle.index_rule.specs.Steps.{lane_among, lane_of_key}
use Rattle.index_rule.proofs.Standing.{same_keeper, stays_inside}

-- ---- what others leave ----

-- only the keeper of its part begins a group
pub begins_never : (o : Opening) (c g : ℕ) (n t : Execution) → IsGroupKeeper o c g →
    Valid o (n ++ t) → Without c n → BeginsNever g n
begins_never o c g [] t keeper valid out = tt
begins_never o c g (e ∷ n) t keeper valid out = (
  λ (z : Begins g e.action).
      let may = may_as o (n ++ t) e.by e.action (NewGroup g z.0 z.1 z.2) z.3 valid.0 in
      out.0 (may.keeper ∙ sym keeper),
  begins_never o c g n t keeper valid.1 out.1,
)

-- nor takes anybody else a buffer apart
left_whole : (o : Opening) (c g : ℕ) (n t : Execution) → IsGroupKeeper o c g → Valid o (n ++ t) →
    Without c n → IsLeftWhole o g n t
left_whole o c g [] t keeper valid out = tt
left_whole o c g (e ∷ n) t keeper valid out = (
  λ (apart : TakesApart o g e.action (n ++ t)). ⊎_elim
      (λ (z : (k : ℕ) × (p : ℕ) × (next : ℕ) × (e.action ≡ Retire p next)
      × (role o p (n ++ t) ≡ InBuffer g k)).
      let may = may_as o (n ++ t) e.by e.action (Retire z.1 z.2) z.3 valid.0 in
      out.0 (same_keeper o c e.by g z.0 z.1 (n ++ t) keeper (inr z.4) may.keeper))
      (λ (z : (which : HeaderWord) × (value : ℕ) × (e.action ≡ StoreHeader g which value)
      × IsLaneWord which).
      let may = may_as o (n ++ t) e.by e.action (StoreHeader g z.0 z.1) z.2 valid.0 in
      out.0 (may.keeper ∙ sym keeper)) apart,
  left_whole o c g n t keeper valid.1 out.1,
)

-- the lanes of a buffer in which the hand can walk
pub lanes_on : (o : Opening) (c g : ℕ) (n t : Execution) → Valid o (n ++ t) → Without c n →
    CanWalk o c g t → HasSameLanes o g t (n ++ t)
lanes_on o c g n t valid out can which = ⊎_elim
    (λ (z : IsReading o c t × (stands_in c g t ≡ true) × IsWalkable o g t).
    lanes_while o c g which z.0.caller n t valid (stays_inside c n out) z.1)
    (λ (z : IsGroupKeeper o c g). until_begun o g which n t (begins_never o c g n t z valid out)) can

-- and a walkable buffer stays so
pub walkable_on : (o : Opening) (c g : ℕ) (n t : Execution) → Valid o (n ++ t) → Without c n →
    CanWalk o c g t → IsWalkable o g t → IsWalkable o g (n ++ t)
walkable_on o c g n t valid out can w = ⊎_elim
    (λ (z : IsReading o c t × (stands_in c g t ≡ true) × IsWalkable o g t).
    walkable_while o c g z.0.caller n t valid (stays_inside c n out) z.1 w)
    (λ (z : IsGroupKeeper o c g). walkable_until o g n t valid (left_whole o c g n t z valid out) w) can

-- ---- the lane of a key ----

-- the cuts behind the key's lane are above the key
pub cut_above : (o : Opening) (g lane k : ℕ) (t : Execution) → AreRisingLanes o g t →
    HasLane o g lane k t → (i : ℕ) → lane < i → i < lanes o g t → k < cut o g i t
cut_above o g lane k t rising has zero behind is_lane = absurd (omega (arith, behind))
cut_above o g lane k t rising has (suc i) behind is_lane =
    let next : i + 1 ≡ suc i = omega arith in
    dite (ℕ_discrete lane i)
    (λ (here : lane ≡ i). ⊎_elim
    (λ (last : lane + 1 ≡ lanes o g t). absurd (omega arith))
    (λ (below : k < cut o g (lane + 1) t).
    let at : lane + 1 ≡ suc i = omega arith in
    subst (λ (z : ℕ). k < cut o g z t) at below) has.end)
    (λ (else : lane ≢ i).
    let before = cut_above o g lane k t rising has i (omega arith) (omega arith) in
    let up : cut o g i t < cut o g (suc i) t =
    subst (λ (z : ℕ). cut o g i t < cut o g z t) next (rising.rising i (omega arith)) in
    omega arith)

found_among : (o : Opening) (g lane k : ℕ) (t : Execution) → cut o g lane t ≤ k → (n : ℕ) →
    lane ≤ n → ((i : ℕ) → lane < i → i ≤ n → k < cut o g i t) → lane_among o g k t n ≡ lane
found_among o g lane k t from zero le above = omega arith
found_among o g lane k t from (suc n) le above = dite (ℕ_discrete lane (suc n))
    (λ (here : lane ≡ suc n).
    let low : cut o g (suc n) t ≤ k = subst (λ (z : ℕ). cut o g z t ≤ k) here from in
    ap (λ (b : Bool). cond b (lane_among o g k t n) (suc n)) (le-ltb k (cut o g (suc n) t) low)
    ∙ sym here)
    (λ (else : lane ≢ suc n).
    ap (λ (b : Bool). cond b (lane_among o g k t n) (suc n))
    (lt-ltb k (cut o g (suc n) t) (above (suc n) (omega arith) (omega arith)))
    ∙ found_among o g lane k t from n (omega arith)
    (λ i behind within. above i behind (omega arith)))

-- the lane of a key is the one that has it
pub lane_is : (o : Opening) (g lane k : ℕ) (t : Execution) → AreRisingLanes o g t →
    HasLane o g lane k t → lane_of_key o g k t ≡ lane
lane_is o g lane k t rising has =
    let is_lane = has.is_lane in
    found_among o g lane k t has.from (lanes o g t - 1) (omega arith)
    (λ i behind within. cut_above o g lane k t rising has i behind (omega arith))
