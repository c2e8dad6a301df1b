use Rattle.std.proofs.Common.{ℕ, Option, sym, ◌∙◌, subst}
use Rattle.sorted_group.specs.Loads.{LoadsLanes}
use Rattle.sorted_group.specs.Standing.{CanSearch}
use Rattle.tried_calls.specs.declared.tried.Tried.{Tried}
use Rattle.point_calls.specs.Places.{EndsWith, IsAtBufferOf, PassesBuffer, PassesBy, most_of}
use Rattle.point_calls.proofs.BufferWay.{at_row, none_tried, passes_gap, passes_row, told_as}
use Rattle.point_calls.proofs.ArrayWay.{as_most}
use Rattle.point_calls.proofs.Exchanging.{few_behind}
use Rattle.point_calls.proofs.acting.act_in.Goals as goal

pub act_at-requires : goal.act_at-requires
act_at-requires c =
    let b = c.args.board.now in
    let start = c.args.start.now.value in
    let h = c.args.hand.now in
    let m = c.lane_for-lane.new.hand in
    let n = c.find.new.hand in
    let key : ℕ = c.args.key in
    let e = c.lane_for-lane.ensures in
    let f = c.find.ensures in
    let g : ℕ = c.lane_for-lane.result.group in
    let lane : ℕ = c.lane_for-lane.result.number in
    let at : IsAtBufferOf b start h g key =
    subst (λ (z : ℕ). IsAtBufferOf b start h z key) (sym e.group) c.requires in
    let cuts : LoadsLanes b g 3 h m = subst (λ (z : ℕ). LoadsLanes b z 3 h m) (sym e.group) e.steps in
    let can : CanSearch b g m =
    subst (λ (z : ℕ). CanSearch b z m) (sym e.group) (e.search c.requires.search) in
    at_row b start h m n g lane key at cuts can f.steps f.search (f.log ∙ e.log) c.in-Row.place c.in-Row.ensures.finds

pub returns-in-Row-clause-exchanges : goal.returns-in-Row-clause-exchanges
returns-in-Row-clause-exchanges c =
    let b = c.args.board.now in
    let start = c.args.start.now.value in
    let h = c.args.hand.now in
    let m = c.lane_for-lane.new.hand in
    let n = c.find.new.hand in
    let key : ℕ = c.args.key in
    let e = c.lane_for-lane.ensures in
    let f = c.find.ensures in
    let g : ℕ = c.lane_for-lane.result.group in
    let lane : ℕ = c.lane_for-lane.result.number in
    let at : IsAtBufferOf b start h g key =
    subst (λ (z : ℕ). IsAtBufferOf b start h z key) (sym e.group) c.requires in
    let cuts : LoadsLanes b g 3 h m = subst (λ (z : ℕ). LoadsLanes b z 3 h m) (sym e.group) e.steps in
    let can : CanSearch b g m =
    subst (λ (z : ℕ). CanSearch b z m) (sym e.group) (e.search c.requires.search) in
    few_behind (most_of c.args.aim) h n c.act_at.new.hand
    (none_tried b start h m n g lane key at cuts can f.steps f.search (f.log ∙ e.log))
    c.act_at.ensures.exchanges

pub returns-in-Row-clause-answer : goal.returns-in-Row-clause-answer
returns-in-Row-clause-answer c =
    let b = c.args.board.now in
    let start = c.args.start.now.value in
    let h = c.args.hand.now in
    let m = c.lane_for-lane.new.hand in
    let n = c.find.new.hand in
    let key : ℕ = c.args.key in
    let e = c.lane_for-lane.ensures in
    let f = c.find.ensures in
    let g : ℕ = c.lane_for-lane.result.group in
    let lane : ℕ = c.lane_for-lane.result.number in
    let at : IsAtBufferOf b start h g key =
    subst (λ (z : ℕ). IsAtBufferOf b start h z key) (sym e.group) c.requires in
    let cuts : LoadsLanes b g 3 h m = subst (λ (z : ℕ). LoadsLanes b z 3 h m) (sym e.group) e.steps in
    let can : CanSearch b g m =
    subst (λ (z : ℕ). CanSearch b z m) (sym e.group) (e.search c.requires.search) in
    let k = c.act_at.new.hand in
    told_as (PassesBy b start n c.in-Row.place k) (PassesBuffer b start h c.args.group key k)
    (λ (x : Tried (Option ℕ)). EndsWith c.args.aim b key start x k)
    (λ (x : Tried (Option ℕ)). EndsWith c.args.aim b key start x k) c.act_at.result
    (λ passes.
    subst (λ (z : ℕ). PassesBuffer b start h z key k) e.group
    (passes_row b start h m n g lane key at cuts can f.steps f.search (f.log ∙ e.log) c.in-Row.place
    c.in-Row.ensures.finds k passes))
    (λ x is. is) c.act_at.ensures.answer

pub returns-in-Gap-clause-exchanges : goal.returns-in-Gap-clause-exchanges
returns-in-Gap-clause-exchanges c =
    let b = c.args.board.now in
    let start = c.args.start.now.value in
    let h = c.args.hand.now in
    let m = c.lane_for-lane.new.hand in
    let n = c.find.new.hand in
    let key : ℕ = c.args.key in
    let e = c.lane_for-lane.ensures in
    let f = c.find.ensures in
    let g : ℕ = c.lane_for-lane.result.group in
    let lane : ℕ = c.lane_for-lane.result.number in
    let at : IsAtBufferOf b start h g key =
    subst (λ (z : ℕ). IsAtBufferOf b start h z key) (sym e.group) c.requires in
    let cuts : LoadsLanes b g 3 h m = subst (λ (z : ℕ). LoadsLanes b z 3 h m) (sym e.group) e.steps in
    let can : CanSearch b g m =
    subst (λ (z : ℕ). CanSearch b z m) (sym e.group) (e.search c.requires.search) in
    as_most c.args.aim h n (none_tried b start h m n g lane key at cuts can f.steps f.search (f.log ∙ e.log))

pub returns-in-Gap-clause-answer : goal.returns-in-Gap-clause-answer
returns-in-Gap-clause-answer c =
    let b = c.args.board.now in
    let start = c.args.start.now.value in
    let h = c.args.hand.now in
    let m = c.lane_for-lane.new.hand in
    let n = c.find.new.hand in
    let key : ℕ = c.args.key in
    let e = c.lane_for-lane.ensures in
    let f = c.find.ensures in
    let g : ℕ = c.lane_for-lane.result.group in
    let lane : ℕ = c.lane_for-lane.result.number in
    let at : IsAtBufferOf b start h g key =
    subst (λ (z : ℕ). IsAtBufferOf b start h z key) (sym e.group) c.requires in
    let cuts : LoadsLanes b g 3 h m = subst (λ (z : ℕ). LoadsLanes b z 3 h m) (sym e.group) e.steps in
    let can : CanSearch b g m =
    subst (λ (z : ℕ). CanSearch b z m) (sym e.group) (e.search c.requires.search) in
    subst (λ (z : ℕ). PassesBuffer b start h z key n) e.group
    (passes_gap b start h m n g lane key at cuts can f.steps f.search (f.log ∙ e.log) c.in-Gap.before c.in-Gap.next
    c.in-Gap.ensures.finds)
