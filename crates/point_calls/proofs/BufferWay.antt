-- How a call looks for the key in the buffer of a group.
use Rattle.std.proofs.Common.{◌≡◌, ℕ, Option, Some, None, MatchOption, List, [], ◌∷◌, ◌++◌, inr, true, refl, sym, ap, ◌∙◌, subst}
use Rattle.map_model.specs.Map.{look}
use Rattle.index_machine.specs.declared.events.Action.{Action}
use Rattle.index_machine.specs.Execution.{Continues, Execution, event}
use Rattle.index_machine.specs.Rows.{InBuffer, role, role_key}
use Rattle.index_machine.proofs.Executions.{continues_trans}
use Rattle.machine_buffers.specs.Groups.{IsKeyOf}
use Rattle.machine_readers.proofs.StandingCallers.{of_key_on}
use Rattle.machine_readers.specs.Buffers.{rows}
use Rattle.index_machine.specs.Conditions.{Valid}
use Rattle.index_rule.specs.declared.board.Board.{Board}
use Rattle.index_rule.specs.declared.hand.Hand.{Hand}
use Rattle.index_rule.specs.Hands.{IsHandOf, Makes, MakesAll, known, opening_of}
use Rattle.index_rule.specs.Moments.{AddsNoEntry, IsWithin}
use Rattle.index_rule.proofs.Calls.{HasBegun, begins, begun_on, goes_on}
use Rattle.delta_buffer.specs.Searching.{FindsGap, IsReachedRow}
use Rattle.delta_buffer.specs.Walks.{Walks}
use Rattle.record_cell.specs.Finding.{IsReadyAt}
use Rattle.sorted_group.specs.Loads.{AreLaneLoads, LoadsLanes}
use Rattle.sorted_group.specs.Standing.{CanSearch}
use Rattle.point_calls.specs.Exchanges.{MakesFewExchanges, no_exchange}
use Rattle.point_calls.specs.Places.{GoesOn, IsAtBufferOf, IsAtPlaceOf, PassesBuffer, PassesBy}
use Rattle.point_calls.proofs.CallExchanges.{lanes_make_none, walk_makes_none}
use Rattle.point_calls.proofs.Exchanging.{few_behind}
use Rattle.point_calls.proofs.Knowing.{IsIn, call_is, in_call, in_lanes, in_walk, valid_at, within_begun}
use Rattle.point_calls.proofs.Lacking.{buffer_of_one, buffer_without}
use Rattle.point_calls.proofs.LeftWords.{walked_at}
use Rattle.point_calls.proofs.Staying.{StaysIn, at_end, search_stays, stays_in}
use Rattle.point_calls.specs.Putting.{HasFoundGap, HasFoundTombstone}
use Rattle.point_calls.specs.Updating.{StopsAt}
use Rattle.delta_buffer.specs.Walks.{load_of_link}
use Rattle.index_machine.specs.Reaching.{reached}
use Rattle.index_machine.specs.Words.{link_behind}
use Rattle.machine_readers.proofs.FromOpening.{reached_stay}
use Rattle.machine_readers.proofs.Reached.{reached_on}

-- ---- answers ----

-- what holds of each answer, told in other words
pub told_as : {X : Type 0} (A B : Type 0) (P Q : X → Type 0) (r : Option X) → (A → B) →
    ((x : X) → P x → Q x) → MatchOption r A P → MatchOption r B Q
told_as A B P Q None none some is = none is
told_as A B P Q (Some x) none some is = some x is

-- ---- steps ----

-- behind its first step a call has begun
pub begun_by_all : (b : Board) (h : Hand) (d : Action) (ds : List Action) (k : Hand) → IsHandOf b h →
    MakesAll b h (d ∷ ds) k → HasBegun h (known k)
begun_by_all b h d [] k of all =
    begins b h k d of (subst (λ (z : Hand). Makes b z d k) all.1 all.2)
begun_by_all b h d (e ∷ es) k of all =
    let m : Hand = all.0 in
    begun_on h (known m) (known k) (begun_by_all b h e es m of all.1)
    (goes_on b m k d all.1.2.of all.2)

-- and what the hand knows goes on
pub all_forward : (b : Board) (h : Hand) (ds : List Action) (k : Hand) → IsHandOf b h → MakesAll b h ds k →
    Continues (known h) (known k)
all_forward b h [] k of all = ([], ap known (sym all))
all_forward b h (d ∷ ds) k of all =
    let m : Hand = all.0 in
    continues_trans (known h) (known m) (known k) (all_forward b h ds m of all.1)
    (goes_on b m k d (hand_of h ds m of all.1) all.2)
  where
    hand_of : (h : Hand) (ds : List Action) (m : Hand) → IsHandOf b h → MakesAll b h ds m → IsHandOf b m
    hand_of h [] m of all = subst (IsHandOf b) (sym all) of
    hand_of h (e ∷ es) m of all = all.2.of

begun_by_lanes : (b : Board) (g most : ℕ) (h k : Hand) → IsHandOf b h → LoadsLanes b g most h k →
    HasBegun h (known k)
begun_by_lanes b g most h k of loads = go loads.0 loads.1 loads.3
  where
    go : (actions : List Action) → AreLaneLoads g actions → MakesAll b h actions k → HasBegun h (known k)
    go [] are all = absurd are
    go (d ∷ ds) are all = begun_by_all b h d ds k of all

begun_since : (h : Hand) (t : Execution) → HasBegun h t → Continues (known h) t
begun_since h t begun =
    continues_trans (known h) (begun.1 ++ known h) t (begun.1, refl)
    (continues_trans (begun.1 ++ known h) (event h.number begun.0 ∷ begun.1 ++ known h) t
    (event h.number begun.0 ∷ [], refl) begun.3)

-- whoever can search in a group is ready at a row that it reached there
pub ready_row : (b : Board) (g key place : ℕ) (h : Hand) → CanSearch b g h →
    IsKeyOf (opening_of b) g key (known h) →
    IsReachedRow (opening_of b) h.number g key place (known h) → IsReadyAt b h place
ready_row b g key place h can of_key row =
    record {
      of = can.call.of;
      at_own = record {
        there = record { reading = can.call.reading; there = inr row.1 };
        group = g;
        key = key;
        stands = can.stands;
        in_group = inr row.0;
        of_key = of_key;
      };
      holds_none = can.call.holds_none;
    }

-- the caller is in the group at the end of a part of the call that goes on
pub buffer_still : (b : Board) (start h k : Hand) (g key : ℕ) → IsAtBufferOf b start h g key →
    GoesOn b start h k → IsAtBufferOf b start k g key
buffer_still b start h k g key at on =
    let o = opening_of b in
    let i = in_call b start h at.search.call.of at.call at.rows in
    let j = in_call b start k on.can.of on.call on.rows in
    let to = stays_in start h k i.number j.number i.section j.section on.since in
    let valid : Valid o (to.newer ++ known h) = subst (Valid o) (sym to.on) j.follows.valid in
    record {
      call = on.call;
      rows = on.rows;
      search = search_stays b g h k to j.follows.valid on.can at.search;
      of_key = at_end h k to (λ c t. IsKeyOf o g key t)
          (of_key_on o h.number g key at.search.call.reading.caller to.newer (known h) valid to.stays
          at.search.stands at.of_key);
    }

module _ (b : Board) (start h m n : Hand) (g lane key : ℕ) (at : IsAtBufferOf b start h g key)
    (cuts : LoadsLanes b g 3 h m) (can : CanSearch b g m) (walks : Walks b g lane m n)
    (search : CanSearch b g n) (log : AddsNoEntry h n) where
  began : IsHandOf b start
  began = at.call.so_far.began

  pub in_lane : IsIn b start m
  in_lane = in_lanes b g 3 start h m cuts (in_call b start h at.search.call.of at.call at.rows)

  pub walked : IsIn b start n
  walked = in_walk b g lane start m walks.0 n walks.1 walks.2 in_lane

  begun : HasBegun h (known m)
  begun = begun_by_lanes b g 3 h m at.search.call.of cuts

  -- the key is still one of the group's
  stays : StaysIn h n
  stays =
      stays_in start h n at.call.so_far.number walked.number at.call.section walked.section
      (continues_trans (known h) (known m) (known n) (begun_since h (known m) begun)
      (all_forward b m walks.0 n can.call.of walks.2))

  still_of_key : IsKeyOf (opening_of b) g key (known n)
  still_of_key =
      at_end h n stays (λ c t. IsKeyOf (opening_of b) g key t)
      (of_key_on (opening_of b) h.number g key at.search.call.reading.caller stays.newer (known h)
      (subst (Valid (opening_of b)) (sym stays.on) walked.follows.valid) stays.stays at.search.stands at.of_key)

  pub entered_none : AddsNoEntry start n
  entered_none = log ∙ at.call.so_far.no_entry

  pub none_tried : MakesFewExchanges no_exchange h n
  none_tried =
      few_behind no_exchange h m n (lanes_make_none b g 3 h m at.search.call.of cuts)
      (walk_makes_none b g lane m n can.call.of walks)

  -- it found the row of the key
  module _ (place : ℕ) (row : IsReachedRow (opening_of b) n.number g key place (known n)) where
    pub at_row : IsAtPlaceOf b start n key place
    at_row =
        record {
          call = call_is b start n began walked entered_none;
          rows = walked.rows;
          ready = ready_row b g key place n search still_of_key row;
          of_key = ap role_key row.0;
        }

    -- which had no value
    pub passes_row : (k : Hand) → PassesBy b start n place k → PassesBuffer b start h g key k
    passes_row k passes =
        let walk_on = all_forward b m walks.0 n can.call.of walks.2 in
        let stone = passes.none in
        let moment : Execution = stone.0 in
        let on = passes.on in
        record {
          on = record {
            can = on.can;
            call = on.call;
            rows = on.rows;
            since = continues_trans (known h) (known m) (known k) (begun_since h (known m) begun)
                (continues_trans (known m) (known n) (known k) walk_on on.since);
          };
          moment = moment;
          within = within_begun h n k moment (begun_on h (known m) (known n) begun walk_on)
              stone.1;
          none = buffer_of_one (opening_of b) moment g key place
              (valid_at b moment (known k) stone.1.5 on.call.follows.valid) (stone.2 ∙ row.0) stone.3;
          exchanges = few_behind no_exchange h n k none_tried passes.exchanges;
        }

  -- it found a gap where the key would be
  pub passes_gap : (before next : ℕ) → FindsGap b g lane key before next m n →
      PassesBuffer b start h g key n
  passes_gap before next gap =
      let on = gap.within in
      record {
        on = record {
          can = search.call;
          call = call_is b start n began walked entered_none;
          rows = walked.rows;
          since = continues_trans (known h) (known m) (known n) (begun_since h (known m) begun)
              (continues_trans (known m) gap.moment (known n)
              (continues_trans (known m) (on.1 ++ known m) gap.moment (on.1, refl) on.4) on.5);
        };
        moment = gap.moment;
        within = within_begun h m n gap.moment begun gap.within;
        none = buffer_without (opening_of b) gap.moment g key
            (valid_at b gap.moment (known n) on.5 walked.follows.valid) gap.absent;
        exchanges = none_tried;
      }

  -- then the key had no row
  pub had_none : (before next : ℕ) → FindsGap b g lane key before next m n →
      (moment : Execution) × IsWithin h n moment × (look (rows g moment) key ≡ None)
  had_none before next gap = (gap.moment, within_begun h m n gap.moment begun gap.within, gap.absent)

  -- it left the gap where the key belongs
  pub left_gap : (before next : ℕ) → FindsGap b g lane key before next m n →
      HasFoundGap b start n
      (record { lane = record { group = g; number = lane }; before = before; next = next; key = key })
  left_gap before next gap =
      record {
        at = buffer_still b start h n g key at (passes_gap before next gap).on;
        loaded = walked_at b g lane start m n (load_of_link g lane before next) (link_behind g lane before)
            gap.moment in_lane walks gap.loaded gap.within.5;
        between = gap.belongs;
      }

  -- or a tombstone of the key
  pub left_row : (place : ℕ) → IsReachedRow (opening_of b) n.number g key place (known n) → (group : ℕ) →
      g ≡ group → (k : Hand) (word : ℕ) → StopsAt b start n key place word k →
      HasFoundTombstone b start k (record { group = group; place = place; key = key }) word
  left_row place row group is k word stops =
      let o = opening_of b in
      let passes = passes_row place row k stops.passes in
      let ik = in_call b start k passes.on.can.of passes.on.call passes.on.rows in
      let to = stays_in start n k walked.number ik.number walked.section ik.section stops.passes.on.since in
      let valid : Valid o (to.newer ++ known n) = subst (Valid o) (sym to.on) ik.follows.valid in
      let caller = search.call.reading.caller in
      record {
        found = record {
          at = subst (λ (z : ℕ). IsAtBufferOf b start k z key) is (buffer_still b start h k g key at passes.on);
          row = subst (λ (z : ℕ). IsReachedRow o k.number z key place (known k)) is (
            at_end n k to (λ c t. role o place t ≡ InBuffer g key)
                (reached_stay o n.number place caller to.newer (known n) valid to.stays row.1 ∙ row.0),
            at_end n k to (λ c t. reached c place t ≡ true)
                (reached_on n.number place to.newer (known n) to.stays row.1),
          );
        };
        loaded = stops.row g row.0;
        stone = stops.stone;
      }
