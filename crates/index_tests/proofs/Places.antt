-- How a caller comes to the place that a key has in the array of its group.
use Rattle.std.proofs.Common.{◌≡◌, ℕ, inl, inr, ⊎_elim, Some, ◌++◌, sym, subst}
use Rattle.index_machine.specs.Conditions.{Valid}
use Rattle.index_machine.specs.Execution.{Execution}
use Rattle.index_machine.specs.KeyRanges.{group_of, predecessor}
use Rattle.machine_buffers.specs.Groups.{IsKeyOf}
use Rattle.machine_chain.proofs.Walking.{answers_while}
use Rattle.machine_chain.specs.Walks.{AnswersFor}
use Rattle.index_rule.specs.declared.board.Board.{Board}
use Rattle.index_rule.specs.declared.hand.Hand.{Hand}
use Rattle.index_rule.specs.Hands.{IsHandOf, known, opening_of}
use Rattle.root_table.specs.Finding.{FindsGroup}
use Rattle.sorted_group.specs.Located.{IsPlaceOf, LoadsToLocate}
use Rattle.sorted_group.specs.Standing.{CanSearch}
use Rattle.sorted_group.proofs.ArraySearches.{locate_loads}
use Rattle.sorted_group.proofs.BufferLoads.{GoesOnInside, loads_inside}
use Rattle.record_cell.specs.Finding.{IsReadyAt}
use Rattle.point_calls.proofs.ChainWay.{found_in}
use Rattle.index_tests.specs.Boards.{IsInGroupOf}

-- over the loads by which a key is sought in the array the read section goes on
pub located_inside : (b : Board) (g : ℕ) (h k : Hand) → IsHandOf b h → Valid (opening_of b) (known h) →
    LoadsToLocate b g h k → GoesOnInside b h k
located_inside b g h k of valid steps =
    let loads = locate_loads b g h k steps in
    loads_inside b g h k of valid loads.0 loads.1 loads.2

-- where the read section went on the group still answers for the key, or did
pub answers_on : (b : Board) (g key : ℕ) (h k : Hand) → GoesOnInside b h k → CanSearch b g h →
    AnswersFor (opening_of b) key g (known h) → AnswersFor (opening_of b) key g (known k)
answers_on b g key h k on can answers =
    let o = opening_of b in
    let whole : Valid o (on.newer ++ known h) = subst (Valid o) (sym on.on) on.valid in
    subst (λ (t : Execution). AnswersFor o key g t) on.on
    (answers_while o h.number g key can.call.reading.caller on.newer (known h) whole on.stays can.stands answers)

-- a caller that came to the group of the key and located it is ready at its place
pub ready_at : (b : Board) (number g key place : ℕ) (h m k : Hand) → IsHandOf b h → FindsGroup b key h g m →
    IsInGroupOf b number g key m → LoadsToLocate b g m k → CanSearch b g k → IsPlaceOf b g key place k →
    IsReadyAt b k place
ready_at b number g key place h m k of finds there steps can is =
    let o = opening_of b in
    let valid : Valid o (known m) = (found_in b key h g m of finds).follows.valid in
    let on = located_inside b g m k there.search.call.of valid steps in
    let answers = answers_on b g key m k on there.search there.answers in
    let of_key : IsKeyOf o g key (known k) =
    ⊎_elim (λ (z : group_of o key (known k) ≡ g). inl (inl z))
    (λ (z : predecessor o key (known k) ≡ Some g). inr z) answers in
    record {
      of = can.call.of;
      at_own = record {
        there = record { reading = can.call.reading; there = inl (g, key, is.role, can.stands) };
        group = g;
        key = key;
        stands = can.stands;
        in_group = inl is.role;
        of_key = of_key;
      };
      holds_none = can.call.holds_none;
    }
