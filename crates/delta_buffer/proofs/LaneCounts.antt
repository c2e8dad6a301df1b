-- What a hand knows as it counts the rows of one lane after another.
--
-- The fact to remember: the rows with keys below a lane's cut are those of the lanes before it.
use Rattle.std.proofs.Common.{◌≡◌, ℕ, ◌+◌, ◌<◌, ◌≤◌, None, List, [], ◌∷◌, ◌++◌, length}
use Rattle.std.proofs.Common.{refl, sym, ap, ◌∙◌, subst, arith}
use Rattle.map_model.specs.Map.{look}
use Rattle.word_layout.specs.declared.headers.HeaderWord.TheVariants.{Cut, Lanes}
use Rattle.index_machine.specs.declared.events.Action.{Action}
use Rattle.index_machine.specs.declared.events.Action.TheVariants.{LoadHeader}
use Rattle.index_machine.specs.declared.opening.Opening.{Opening}
use Rattle.index_machine.specs.Conditions.{Valid}
use Rattle.index_machine.specs.Execution.{Execution}
use Rattle.index_machine.specs.Lanes.{cut, lanes}
use Rattle.index_machine.proofs.Executions.{valid_before}
use Rattle.machine_buffers.specs.Walks.{IsWalkable}
use Rattle.machine_buffers.proofs.BegunLanes.{HasSameLanes, cuts_rise, rows_have_lanes}
use Rattle.machine_buffers.proofs.NextRows.{none_unless}
use Rattle.machine_buffers.proofs.Walks.{rise}
use Rattle.machine_readers.specs.Buffers.{rows}
use Rattle.index_rule.specs.declared.board.Board.{Board}
use Rattle.index_rule.specs.declared.hand.Hand.{Hand}
use Rattle.index_rule.specs.Hands.{Makes, MakesAll, known, opening_of}
use Rattle.index_rule.specs.Moments.{AddsNoEntry}
use Rattle.index_rule.proofs.Stepping.{valid_after, valid_known}
use Rattle.sorted_group.specs.Standing.{CanFollow, CanSearch}
use Rattle.sorted_group.proofs.BufferLoads.{follow_on, lanes_still}
use Rattle.sorted_group.proofs.LaneChoice.{lane_before}
use Rattle.delta_buffer.specs.Counting.{AllAmong, AreLoadsForCount, CountsLane, LoadsForCount}
use Rattle.delta_buffer.specs.Counting.{keys_below}
use Rattle.delta_buffer.proofs.Following.{rows_on}
use Rattle.delta_buffer.proofs.KeyCounts.{below_least, below_to, below_zero, keys_end}
use Rattle.delta_buffer.proofs.Links.{count_is_load}

-- ---- over loads ----

-- over the loads of a count the lanes are the same, and rows stay
record GoesOnCounting (b : Board) (g : ℕ) (h k : Hand) : Type 0 where
  can : CanFollow b g k
  valid : Valid (opening_of b) (known k)
  same : HasSameLanes (opening_of b) g (known h) (known k)
  kept : AllAmong (rows g (known h)) (rows g (known k))

loads_on : (b : Board) (g : ℕ) (h k : Hand) → CanFollow b g h → Valid (opening_of b) (known h) →
    (ds : List Action) → AreLoadsForCount g ds → MakesAll b h ds k → GoesOnCounting b g h k
loads_on b g h k can valid [] are makes =
    subst (λ (z : Hand). GoesOnCounting b g h z) (sym makes)
    (record { can = can; valid = valid; same = λ which. refl; kept = λ i q e. e })
loads_on b g h k can valid (d ∷ ds) are makes =
    let m = makes.0 in
    let before = loads_on b g h m can valid ds are.1 makes.1 in
    let is = count_is_load g d are.0 in
    record {
      can = follow_on b g m k d is makes.2 before.can;
      valid = valid_known b m k d before.can.of makes.2;
      same = λ which. lanes_still b g m k d is makes.2 before.can which ∙ before.same which;
      kept = λ i q e. rows_on b g m k d is makes.2 before.can i q (before.kept i q e);
    }

are_joined : (g : ℕ) (es ds : List Action) → AreLoadsForCount g es → AreLoadsForCount g ds →
    AreLoadsForCount g (es ++ ds)
are_joined g [] ds new old = old
are_joined g (e ∷ es) ds new old = (new.0, are_joined g es ds new.1 old)

makes_joined : (b : Board) (h m k : Hand) (es ds : List Action) → MakesAll b h ds m →
    MakesAll b m es k → MakesAll b h (es ++ ds) k
makes_joined b h m k [] ds old new = subst (λ (z : Hand). MakesAll b h ds z) (sym new) old
makes_joined b h m k (e ∷ es) ds old new =
    (new.0, makes_joined b h m new.0 es ds old new.1, new.2)

-- ---- the lanes that were counted ----

-- the hand has counted the rows of so many lanes: not fewer than it knew as it began, and not more than it
-- knows now
pub record HasCountedLanes (b : Board) (g many count : ℕ) (h m : Hand) : Type 0 where
  pub can : CanFollow b g m
  pub search : CanSearch b g h → CanSearch b g m
  pub number : m.number ≡ h.number
  pub log : AddsNoEntry h m
  pub loads : LoadsForCount b g h m
  pub first : Valid (opening_of b) (known h)
  pub valid : Valid (opening_of b) (known m)
  pub same : HasSameLanes (opening_of b) g (known h) (known m)
  pub kept : AllAmong (rows g (known h)) (rows g (known m))
  pub more : many < lanes (opening_of b) g (known h) →
      (keys_below (cut (opening_of b) g many (known h)) (rows g (known h)) ≤ count)
      × (count ≤ keys_below (cut (opening_of b) g many (known h)) (rows g (known m)))
  pub all : many ≡ lanes (opening_of b) g (known h) →
      (length (rows g (known h)) ≤ count) × (count ≤ length (rows g (known m)))

-- no row has a key below the first cut
none_below : (o : Opening) (g : ℕ) (t : Execution) → Valid o t → IsWalkable o g t → (k : ℕ) →
    k < cut o g 0 t → look (rows g t) k ≡ None
none_below o g t valid w k lt =
    none_unless (look (rows g t) k)
    (λ q e.
    let has = rows_have_lanes o t valid g k q (w.standing k q e) in
    let before = lane_before o g has.0 0 k t (cuts_rise o t valid g) has.1 lt in
    omega arith)

-- and where there is no lane there is no row
none_at_all : (o : Opening) (g : ℕ) (t : Execution) → Valid o t → IsWalkable o g t →
    0 ≡ lanes o g t → (k : ℕ) → look (rows g t) k ≡ None
none_at_all o g t valid w none k =
    none_unless (look (rows g t) k)
    (λ q e.
    let has = rows_have_lanes o t valid g k q (w.standing k q e) in
    let is_lane = has.1.is_lane in
    omega arith)

-- the number of lanes was loaded
pub begins_count : (b : Board) (g many : ℕ) (h m : Hand) → CanFollow b g h → CanFollow b g m →
    (CanSearch b g h → CanSearch b g m) → m.number ≡ h.number → AddsNoEntry h m →
    Makes b h (LoadHeader g Lanes many) m → HasCountedLanes b g 0 0 h m
begins_count b g many h m first can search number log l =
    let o = opening_of b in
    let d = LoadHeader g Lanes many in
    let valid = valid_before o l.acts.0 (known h) (valid_after b h m d first.of l).1 in
    record {
      can = can;
      search = search;
      number = number;
      log = log;
      loads = (d ∷ [], (refl, tt), (h, refl, l));
      first = valid;
      valid = valid_known b h m d first.of l;
      same = lanes_still b g h m d refl l first;
      kept = rows_on b g h m d refl l first;
      more = λ lt.
          let none = below_to 0 (cut o g 0 (known h)) (rows g (known h))
          (λ k from below. none_below o g (known h) valid first.walkable k below) in
          let zero = below_zero (rows g (known h)) in
          (omega arith, omega arith);
      all = λ none.
          let end = keys_end (rows g (known h)) in
          let few = below_least end.0 (rows g (known h)) (rise o (known h) valid g) end.1 in
          let gap = below_to 0 end.0 (rows g (known h))
          (λ k from below. none_at_all o g (known h) valid first.walkable none k) in
          let zero = below_zero (rows g (known h)) in
          (omega arith, omega arith);
    }

-- ---- the next lane ----

module _ (b : Board) (g lane counted : ℕ) (h m : Hand) (has : HasCountedLanes b g lane counted h m)
    (left : lane < lanes (opening_of b) g (known h)) where
  pub one_lane_more : (count : ℕ) (k : Hand) → (CanSearch b g m → CanSearch b g k) →
      k.number ≡ m.number → AddsNoEntry m k → LoadsForCount b g m k →
      CountsLane (opening_of b) g lane counted count (known m) (known k) →
      HasCountedLanes b g (lane + 1) count h k
  one_lane_more count k search number log loads counts =
      let o = opening_of b in
      let on = loads_on b g m k has.can has.valid loads.0 loads.1 loads.2 in
      let many = has.same Lanes in
      let next_cut = has.same (Cut (lane + 1)) in
      let before = (has.more left).0 in
      let at = ap (λ (z : ℕ). keys_below z (rows g (known h))) (has.same (Cut lane)) in
      record {
        can = on.can;
        search = λ first. search (has.search first);
        number = number ∙ has.number;
        log = log ∙ has.log;
        loads = (
          loads.0 ++ has.loads.0,
          are_joined g loads.0 has.loads.0 loads.1 has.loads.1,
          makes_joined b h m k loads.0 has.loads.0 has.loads.2 loads.2,
        );
        first = has.first;
        valid = on.valid;
        same = λ which. on.same which ∙ has.same which;
        kept = λ i q e. on.kept i q (has.kept i q e);
        more = λ lt.
            let most = counts.most (omega arith) in
            let there = ap (λ (z : ℕ). keys_below z (rows g (known k))) next_cut in (
              counts.least (rows g (known h)) (cut o g (lane + 1) (known h)) has.kept (omega arith)
                  (λ _. omega arith),
              omega arith,
            );
        all = λ last.
            let end = keys_end (rows g (known h)) in
            let few = below_least end.0 (rows g (known h)) (rise o (known h) has.first g) end.1 in
            let least = counts.least (rows g (known h)) end.0 has.kept (omega arith)
            (λ lt. absurd (omega arith)) in
            (omega arith, counts.all);
      }
