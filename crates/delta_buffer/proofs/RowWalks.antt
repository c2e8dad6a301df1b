-- What a hand knows as it counts the rows of a lane, a caller's or that of the keeper of the group's part.
--
-- The fact to remember: rows that stood there at the beginning stand there still, and so do those that
-- were met.
use Rattle.std.proofs.Common.{◌≡◌, ◌≢◌, ◌⊎◌, inl, inr, ⊎_elim, ℕ, ◌+◌, ◌<◌, ◌≤◌, Some, None}
use Rattle.std.proofs.Common.{[], ◌∷◌, length, refl, sym, ap, ◌∙◌, arith}
use mathlib.Core.Logic.{dite}
use native.Mathlib.Decide.{ℕ_discrete}
use Rattle.map_model.specs.Map.{Map, look}
use Rattle.word_layout.specs.declared.headers.HeaderWord.TheVariants.{Cut, Lanes}
use Rattle.word_layout.specs.declared.places.Part.TheVariants.{Link}
use Rattle.word_layout.specs.Words.{PlaceWord}
use Rattle.index_machine.specs.declared.opening.Opening.{Opening}
use Rattle.index_machine.specs.Conditions.{Valid}
use Rattle.index_machine.specs.Execution.{Execution}
use Rattle.index_machine.specs.Lanes.{HasLane, cut, lanes}
use Rattle.index_machine.specs.RecordConditions.{IsLinkInto}
use Rattle.index_machine.specs.Rows.{InBuffer, role}
use Rattle.index_machine.specs.Words.{limits, shape, word}
use Rattle.index_machine.proofs.OpeningRows.{opening_role-row}
use Rattle.index_machine.proofs.Placing.{buffer_row, placed}
use Rattle.machine_buffers.specs.Walks.{IsWalkable}
use Rattle.machine_buffers.proofs.BegunLanes.{cuts_rise}
use Rattle.machine_buffers.proofs.NextRows.{none_unless}
use Rattle.machine_buffers.proofs.LinkingRows.{all_listed}
use Rattle.machine_buffers.proofs.Walks.{rise, rises}
use Rattle.machine_places.specs.RowCounts.{all_rows}
use Rattle.index_machine.proofs.Options.{none_some}
use Rattle.machine_readers.specs.Buffers.{rows}
use Rattle.index_rule.specs.declared.board.Board.{Board}
use Rattle.index_rule.specs.declared.hand.Hand.{Hand}
use Rattle.index_rule.specs.Hands.{known, opening_of}
use Rattle.index_rule.proofs.Calls.{begun_on, goes_on}
use Rattle.index_rule.proofs.HeldRows.{rows-length}
use Rattle.sorted_group.specs.Standing.{CanFollow}
use Rattle.delta_buffer.specs.Counting.{AllAmong, CountsLane, LoadsForCount, keys_below}
use Rattle.delta_buffer.specs.Searching.{IsReachedRow}
use Rattle.delta_buffer.specs.Walks.{FollowsLink, load_of_link}
use Rattle.delta_buffer.proofs.KeyCounts.{below_fits, below_kept, below_least, below_most}
use Rattle.delta_buffer.proofs.KeyCounts.{below_next_least, below_next_most, below_rise, below_to}
use Rattle.delta_buffer.proofs.KeyCounts.{keys_end}
use Rattle.delta_buffer.proofs.Links.{buffer_key, in_lane_up_to, link_is_count, link_is_load}
use Rattle.delta_buffer.proofs.Links.{link_of_row, row_some}
use Rattle.delta_buffer.proofs.CallSteps.{begun_since}
use Rattle.delta_buffer.proofs.Following.{in_lane_on, rows_on}
use Rattle.delta_buffer.proofs.Stepping.{IsOn, arrives, empty_from, sets_out}

-- ---- a table's rows ----

-- a buffer has no more rows than the table
rows_fit : (o : Opening) (g n : ℕ) (t : Execution) → Valid o t → IsWalkable o g t →
    keys_below n (rows g t) ≤ (limits o).records
rows_fit o g n t valid w =
    let all = rows-length (shape o) 0 (limits o).records in
    let fits = below_fits n (rows g t) (all_rows o)
    (λ k j q e f. buffer_key (sym (w.standing k q e) ∙ w.standing j q f))
    (λ k q lt e.
    let row = buffer_row o t valid q g k (w.standing k q e) in
    (placed o [] tt).all q row (opening_role-row o q row)) in
    omega arith

-- counted by the length of its list too
pub rows_within : (o : Opening) (g : ℕ) (t : Execution) → Valid o t → IsWalkable o g t →
    length (rows g t) ≤ (limits o).records
rows_within o g t valid w =
    let end = keys_end (rows g t) in
    let fits = rows_fit o g end.0 t valid w in
    let all = below_least end.0 (rows g t) (rise o t valid g) end.1 in
    omega arith

-- ---- the walk ----

-- the link stands behind just the lane's keys below this one: it is the lane's head, or that of the row
-- before
abbrev StandsBehind : Opening → ℕ → ℕ → ℕ → ℕ → Execution → Type 0
StandsBehind o g lane before low t =
    ((before ≡ 0) × (low ≡ cut o g lane t))
    ⊎ ((j : ℕ) × (role o before t ≡ InBuffer g j) × HasLane o g lane j t × (low ≡ j + 1))

-- the hand has counted the rows behind which it loaded a link, and so many before the lane
pub record HasCounted (b : Board) (g lane first next count : ℕ) (h m : Hand) : Type 0 where
  pub before : ℕ
  pub low : ℕ
  pub on : IsOn b g lane low before next h m
  pub loads : LoadsForCount b g h m
  pub behind : StandsBehind (opening_of b) g lane before low (known m)
  pub kept : AllAmong (rows g (known h)) (rows g (known m))
  pub least : (u : Map) → AllAmong u (rows g (known h)) →
      keys_below (cut (opening_of b) g lane (known h)) u ≤ first → keys_below low u ≤ count
  pub most : count ≤ keys_below low (rows g (known m))

-- it begins with the head
pub counts_none : (b : Board) (g lane first next : ℕ) (h k : Hand) → CanFollow b g h →
    lane < lanes (opening_of b) g (known h) →
    first ≤ keys_below (cut (opening_of b) g lane (known h)) (rows g (known h)) →
    FollowsLink b h g lane 0 next k → HasCounted b g lane first next first h k
counts_none b g lane first next h k can is_lane le follows =
    let o = opening_of b in
    let d = load_of_link g lane 0 next in
    let low : ℕ = cut o g lane (known h) in
    let on = sets_out b g lane low next h k can is_lane follows in
    let kept = rows_on b g h k d (link_is_load g lane 0 next) follows can in
    record {
      before = 0;
      low = low;
      on = on;
      loads = (d ∷ [], (link_is_count g lane 0 next, tt), (h, refl, follows));
      behind = inl (refl, sym (on.same (Cut lane)));
      kept = kept;
      least = λ u among below. below;
      most = let grown = below_kept low (rows g (known h)) (rows g (known k)) kept in omega arith;
    }

module _ (b : Board) (g lane first next count : ℕ) (h m : Hand)
    (has : HasCounted b g lane first next count h m) where
  -- what was counted are keys from the lane's cut on
  low_from : cut (opening_of b) g lane (known m) ≤ has.low
  low_from =
      let o = opening_of b in
      ⊎_elim (λ (z : (has.before ≡ 0) × (has.low ≡ cut o g lane (known m))).
      let is = z.1 in omega arith)
      (λ (z : (j : ℕ) × (role o has.before (known m) ≡ InBuffer g j)
      × HasLane o g lane j (known m) × (has.low ≡ j + 1)).
      let from = z.2.from in let is = z.3 in omega arith)
      has.behind

module _ (b : Board) (g lane first next count : ℕ) (h m : Hand)
    (has : HasCounted b g lane first next count h m) (some : next ≢ 0) where
  met : (j : ℕ) × IsReachedRow (opening_of b) m.number g j next (known m)
      × HasLane (opening_of b) g lane j (known m)
  met =
      ⊎_elim (λ (z : next ≡ 0). absurd (some z))
      (λ (z : (j : ℕ) × IsReachedRow (opening_of b) m.number g j next (known m)
      × HasLane (opening_of b) g lane j (known m)). z) has.on.ahead

  there : look (rows g (known m)) met.0 ≡ Some next
  there = all_listed (opening_of b) (known m) has.on.valid g met.0 next met.1.0

  -- the row's key is not one of those that were counted
  ahead : has.low ≤ met.0
  ahead =
      let o = opening_of b in
      ⊎_elim (λ (z : (has.before ≡ 0) × (has.low ≡ cut o g lane (known m))).
      let is = z.1 in let from = met.2.from in omega arith)
      (λ (z : (j : ℕ) × (role o has.before (known m) ≡ InBuffer g j)
      × HasLane o g lane j (known m) × (has.low ≡ j + 1)).
      let row = row_some o (known m) g has.before z.0 has.on.valid z.1 in
      let leads : word o (known m) (PlaceWord has.before Link) ≡ next =
      ap (word o (known m)) (sym (link_of_row g lane has.before row)) ∙ has.on.leads in
      let up = rises o (known m) has.on.valid g has.before next z.0 met.0 has.on.can.walkable
      z.1 leads met.1.0 in
      let is = z.3 in
      omega arith)
      has.behind

  -- and no row has a key between
  none_between : (k : ℕ) → has.low ≤ k → k < met.0 → look (rows g (known m)) k ≡ None
  none_between k high lt =
      let low = low_from b g lane first next count h m has in
      empty_from b g lane has.low has.before next h m has.on k high
      (in_lane_up_to (opening_of b) g lane k met.0 (known m) (omega arith) (omega arith) met.2)
      (inr (met.0, met.1.0, lt))

  none_at_first : (u : Map) → AllAmong u (rows g (known h)) → (k : ℕ) → has.low ≤ k → k < met.0 →
      look u k ≡ None
  none_at_first u among k high lt =
      none_unless (look u k)
      (λ q e. none_some (sym (none_between k high lt) ∙ has.kept k q (among k q e)))

  one_more : count + 1 ≤ keys_below (met.0 + 1) (rows g (known m))
  one_more =
      let more = below_next_least has.low met.0 next (rows g (known m)) ahead there in
      let before = has.most in
      omega arith

  -- there is a record row for each that is counted
  pub room : count + 1 ≤ (limits (opening_of b)).records
  room =
      let fits = rows_fit (opening_of b) g (met.0 + 1) (known m) has.on.valid
      has.on.can.walkable in
      let more = one_more in
      omega arith

  pub leads_into : IsLinkInto (opening_of b) g lane next (known m)
  leads_into = inr (met.0, met.1.0, met.2)

  pub counts_on : (next2 : ℕ) (k : Hand) → FollowsLink b m g lane next next2 k →
      HasCounted b g lane first next2 (count + 1) h k
  counts_on next2 k follows =
      let d = load_of_link g lane next next2 in
      let is = link_is_load g lane next next2 in
      let on = arrives b g lane (met.0 + 1) next next2 h m k has.on.can has.on.search has.on.number
      (begun_since h (known m) has.on.begun) has.on.log
      has.on.walks
      (λ d q. begun_on h (known m) (known k) has.on.begun (goes_on b m k d has.on.can.of q))
      has.on.same has.on.is_lane (inr (met.0, met.1.0, met.2, omega arith)) follows in
      let stay = rows_on b g m k d is follows has.on.can in
      record {
        before = next;
        low = met.0 + 1;
        on = on;
        loads = (
          d ∷ has.loads.0,
          (link_is_count g lane next next2, has.loads.1),
          (m, has.loads.2, follows),
        );
        behind = inr (
          met.0,
          on.can.walkable.standing met.0 next (stay met.0 next there),
          in_lane_on b g m k d is follows has.on.can lane met.0 met.2,
          refl,
        );
        kept = λ i q e. stay i q (has.kept i q e);
        least = λ u among below.
            let more = below_next_most has.low met.0 u (none_at_first u among) in
            let before = has.least u among below in
            omega arith;
        most =
            let more = one_more in
            let grown = below_kept (met.0 + 1) (rows g (known m)) (rows g (known k)) stay in
            omega arith;
      }

-- ---- the end of a lane ----

module _ (b : Board) (g lane first next count : ℕ) (h m : Hand)
    (has : HasCounted b g lane first next count h m) (none : next ≡ 0) where
  -- the keys that are left of the lane
  left_in_lane : (k end : ℕ) → has.low ≤ k → k < end →
      (lane + 1 < lanes (opening_of b) g (known h) →
      end ≤ cut (opening_of b) g (lane + 1) (known h)) →
      HasLane (opening_of b) g lane k (known m)
  left_in_lane k end high lt within =
      let o = opening_of b in
      let low = low_from b g lane first next count h m has in
      let is_lane = has.on.is_lane in
      let many = has.on.same Lanes in
      let next_cut = has.on.same (Cut (lane + 1)) in
      record {
        is_lane = is_lane;
        from = omega arith;
        end = dite (ℕ_discrete (lane + 1) (lanes o g (known m)))
            (λ (z : lane + 1 ≡ lanes o g (known m)). inl z)
            (λ (z : lane + 1 ≢ lanes o g (known m)).
            let most = within (omega arith) in inr (omega arith));
      }

  none_left : (u : Map) (end : ℕ) → AllAmong u (rows g (known h)) →
      (lane + 1 < lanes (opening_of b) g (known h) →
      end ≤ cut (opening_of b) g (lane + 1) (known h)) → (k : ℕ) → has.low ≤ k → k < end →
      look u k ≡ None
  none_left u end among within k high lt =
      none_unless (look u k)
      (λ q e. none_some (sym (empty_from b g lane has.low has.before next h m has.on k high
      (left_in_lane k end high lt within) (inl none)) ∙ has.kept k q (among k q e)))

  -- what was counted is before the next lane
  low_to : lane + 1 < lanes (opening_of b) g (known h) →
      has.low ≤ cut (opening_of b) g (lane + 1) (known h)
  low_to lt =
      let o = opening_of b in
      let many = has.on.same Lanes in
      let next_cut = has.on.same (Cut (lane + 1)) in
      ⊎_elim (λ (z : (has.before ≡ 0) × (has.low ≡ cut o g lane (known m))).
      let is = z.1 in
      let up = (cuts_rise o (known m) has.on.valid g).rising lane (omega arith) in
      omega arith)
      (λ (z : (j : ℕ) × (role o has.before (known m) ≡ InBuffer g j)
      × HasLane o g lane j (known m) × (has.low ≡ j + 1)).
      let is = z.3 in
      ⊎_elim (λ (last : lane + 1 ≡ lanes o g (known m)). absurd (omega arith))
      (λ (below : z.0 < cut o g (lane + 1) (known m)). omega arith) z.2.end)
      has.behind

  pub counted : CountsLane (opening_of b) g lane first count (known h) (known m)
  counted =
      record {
        least = λ u end among below within.
            let before = has.least u among below in
            let none_more = below_to has.low end u (none_left u end among within) in
            omega arith;
        most = λ lt.
            let up = below_rise has.low (cut (opening_of b) g (lane + 1) (known h))
            (rows g (known m)) (low_to lt) in
            let before = has.most in
            omega arith;
        all = let before = has.most in let all = below_most has.low (rows g (known m)) in omega arith;
      }
