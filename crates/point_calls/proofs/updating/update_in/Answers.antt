use Rattle.std.proofs.Common.{◌≡◌, ℕ, None, refl, sym, ◌∙◌, subst}
use Rattle.map_model.specs.Map.{look}
use Rattle.index_machine.specs.Execution.{Execution}
use Rattle.machine_readers.specs.Buffers.{rows}
use Rattle.index_rule.specs.Moments.{IsWithin}
use Rattle.sorted_group.specs.Loads.{LoadsLanes}
use Rattle.sorted_group.specs.Standing.{CanSearch}
use Rattle.point_calls.specs.Exchanges.{one_lock}
use Rattle.point_calls.specs.Places.{IsAtBufferOf, PassesBuffer}
use Rattle.point_calls.proofs.BufferWay.{at_row, had_none, left_gap, left_row, none_tried, passes_gap, passes_row}
use Rattle.point_calls.proofs.CallExchanges.{lock_or_none}
use Rattle.point_calls.proofs.Exchanging.{few_behind}
use Rattle.point_calls.proofs.updating.update_in.Goals as goal

pub update_at-requires : goal.update_at-requires
update_at-requires c =
    let b = c.args.board.now in
    let start = c.args.start.now.value in
    let h = c.args.hand.now in
    let m = c.lane_for-lane.new.hand in
    let n = c.find.new.hand in
    let key : ℕ = c.args.key in
    let e = c.lane_for-lane.ensures in
    let f = c.find.ensures in
    let g : ℕ = c.lane_for-lane.result.group in
    let lane : ℕ = c.lane_for-lane.result.number in
    let at : IsAtBufferOf b start h g key =
    subst (λ (z : ℕ). IsAtBufferOf b start h z key) (sym e.group) c.requires in
    let cuts : LoadsLanes b g 3 h m = subst (λ (z : ℕ). LoadsLanes b z 3 h m) (sym e.group) e.steps in
    let can : CanSearch b g m =
    subst (λ (z : ℕ). CanSearch b z m) (sym e.group) (e.search c.requires.search) in
    at_row b start h m n g lane key at cuts can f.steps f.search (f.log ∙ e.log) c.in-Row.place c.in-Row.ensures.finds

pub returns-in_err-word-in-Row-clause-exchanges : goal.returns-in_err-word-in-Row-clause-exchanges
returns-in_err-word-in-Row-clause-exchanges c =
    let b = c.args.board.now in
    let start = c.args.start.now.value in
    let h = c.args.hand.now in
    let m = c.lane_for-lane.new.hand in
    let n = c.find.new.hand in
    let key : ℕ = c.args.key in
    let e = c.lane_for-lane.ensures in
    let f = c.find.ensures in
    let g : ℕ = c.lane_for-lane.result.group in
    let lane : ℕ = c.lane_for-lane.result.number in
    let at : IsAtBufferOf b start h g key =
    subst (λ (z : ℕ). IsAtBufferOf b start h z key) (sym e.group) c.requires in
    let cuts : LoadsLanes b g 3 h m = subst (λ (z : ℕ). LoadsLanes b z 3 h m) (sym e.group) e.steps in
    let can : CanSearch b g m =
    subst (λ (z : ℕ). CanSearch b z m) (sym e.group) (e.search c.requires.search) in
    few_behind one_lock h n c.update_at.new.hand
    (none_tried b start h m n g lane key at cuts can f.steps f.search (f.log ∙ e.log)) c.update_at.ensures.exchanges

pub returns-in_ok-word-in-Row-clause-exchanges : goal.returns-in_ok-word-in-Row-clause-exchanges
returns-in_ok-word-in-Row-clause-exchanges c =
    let b = c.args.board.now in
    let start = c.args.start.now.value in
    let h = c.args.hand.now in
    let m = c.lane_for-lane.new.hand in
    let n = c.find.new.hand in
    let key : ℕ = c.args.key in
    let e = c.lane_for-lane.ensures in
    let f = c.find.ensures in
    let g : ℕ = c.lane_for-lane.result.group in
    let lane : ℕ = c.lane_for-lane.result.number in
    let at : IsAtBufferOf b start h g key =
    subst (λ (z : ℕ). IsAtBufferOf b start h z key) (sym e.group) c.requires in
    let cuts : LoadsLanes b g 3 h m = subst (λ (z : ℕ). LoadsLanes b z 3 h m) (sym e.group) e.steps in
    let can : CanSearch b g m =
    subst (λ (z : ℕ). CanSearch b z m) (sym e.group) (e.search c.requires.search) in
    few_behind one_lock h n c.update_at.new.hand
    (none_tried b start h m n g lane key at cuts can f.steps f.search (f.log ∙ e.log)) c.update_at.ensures.exchanges

pub returns-in-Gap-clause-exchanges : goal.returns-in-Gap-clause-exchanges
returns-in-Gap-clause-exchanges c =
    let b = c.args.board.now in
    let start = c.args.start.now.value in
    let h = c.args.hand.now in
    let m = c.lane_for-lane.new.hand in
    let n = c.find.new.hand in
    let key : ℕ = c.args.key in
    let e = c.lane_for-lane.ensures in
    let f = c.find.ensures in
    let g : ℕ = c.lane_for-lane.result.group in
    let lane : ℕ = c.lane_for-lane.result.number in
    let at : IsAtBufferOf b start h g key =
    subst (λ (z : ℕ). IsAtBufferOf b start h z key) (sym e.group) c.requires in
    let cuts : LoadsLanes b g 3 h m = subst (λ (z : ℕ). LoadsLanes b z 3 h m) (sym e.group) e.steps in
    let can : CanSearch b g m =
    subst (λ (z : ℕ). CanSearch b z m) (sym e.group) (e.search c.requires.search) in
    lock_or_none h n (none_tried b start h m n g lane key at cuts can f.steps f.search (f.log ∙ e.log))

pub returns-in-Gap-clause-answer : goal.returns-in-Gap-clause-answer
returns-in-Gap-clause-answer c =
    let b = c.args.board.now in
    let start = c.args.start.now.value in
    let h = c.args.hand.now in
    let m = c.lane_for-lane.new.hand in
    let n = c.find.new.hand in
    let key : ℕ = c.args.key in
    let e = c.lane_for-lane.ensures in
    let f = c.find.ensures in
    let g : ℕ = c.lane_for-lane.result.group in
    let lane : ℕ = c.lane_for-lane.result.number in
    let at : IsAtBufferOf b start h g key =
    subst (λ (z : ℕ). IsAtBufferOf b start h z key) (sym e.group) c.requires in
    let cuts : LoadsLanes b g 3 h m = subst (λ (z : ℕ). LoadsLanes b z 3 h m) (sym e.group) e.steps in
    let can : CanSearch b g m =
    subst (λ (z : ℕ). CanSearch b z m) (sym e.group) (e.search c.requires.search) in
    record {
      passes = subst (λ (z : ℕ). PassesBuffer b start h z key n) e.group
          (passes_gap b start h m n g lane key at cuts can f.steps f.search (f.log ∙ e.log) c.in-Gap.before c.in-Gap.next
          c.in-Gap.ensures.finds);
      left = (
        e.group,
        refl,
        left_gap b start h m n g lane key at cuts can f.steps f.search (f.log ∙ e.log) c.in-Gap.before c.in-Gap.next
            c.in-Gap.ensures.finds,
      );
      no_row = subst
          (λ (z : ℕ). (moment : Execution) × IsWithin h n moment × (look (rows z moment) key ≡ None)) e.group
          (had_none b start h m n g lane key at cuts can f.steps f.search (f.log ∙ e.log) c.in-Gap.before c.in-Gap.next
          c.in-Gap.ensures.finds);
    }

pub returns-in_ok-word-in-Row-clause-answer : goal.returns-in_ok-word-in-Row-clause-answer
returns-in_ok-word-in-Row-clause-answer c =
    let b = c.args.board.now in
    let start = c.args.start.now.value in
    let h = c.args.hand.now in
    let m = c.lane_for-lane.new.hand in
    let n = c.find.new.hand in
    let key : ℕ = c.args.key in
    let e = c.lane_for-lane.ensures in
    let f = c.find.ensures in
    let g : ℕ = c.lane_for-lane.result.group in
    let lane : ℕ = c.lane_for-lane.result.number in
    let at : IsAtBufferOf b start h g key =
    subst (λ (z : ℕ). IsAtBufferOf b start h z key) (sym e.group) c.requires in
    let cuts : LoadsLanes b g 3 h m = subst (λ (z : ℕ). LoadsLanes b z 3 h m) (sym e.group) e.steps in
    let can : CanSearch b g m =
    subst (λ (z : ℕ). CanSearch b z m) (sym e.group) (e.search c.requires.search) in
    let k = c.update_at.new.hand in
    let place : ℕ = c.in-Row.place in
    let row = c.in-Row.ensures.finds in
    let stops = c.in_ok-word-in-Row.ensures.answer in
    record {
      passes = subst (λ (z : ℕ). PassesBuffer b start h z key k) e.group
          (passes_row b start h m n g lane key at cuts can f.steps f.search (f.log ∙ e.log) place row k stops.passes);
      left = (
        refl,
        refl,
        left_row b start h m n g lane key at cuts can f.steps f.search (f.log ∙ e.log) place row c.args.group e.group k _
            stops,
      );
      no_row = tt;
    }
