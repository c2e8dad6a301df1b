use Rattle.std.proofs.Common.{ℕ, ◌≤◌, sym, ◌∙◌, subst, arith}
use Rattle.word_layout.specs.Parts.{greatest_key}
use Rattle.word_layout.specs.Phase.{word_of_phase}
use Rattle.index_rule.specs.declared.hand.Hand.{Hand}
use Rattle.point_calls.specs.Exchanges.{no_exchange}
use Rattle.point_calls.specs.Places.{Misses, PassesBuffer, most_of}
use Rattle.point_calls.specs.Seeking.{PassesArray}
use Rattle.point_calls.proofs.ArrayWay.{as_most}
use Rattle.point_calls.proofs.Exchanging.{few_behind}
use Rattle.point_calls.proofs.SeekWay.{found_none, in_group, lacks_opened, lacks_still, may_miss}
use Rattle.point_calls.proofs.SeekWay.{misses_here, misses_on, none_so_far}
use Rattle.point_calls.proofs.seeking.seek.Goals as goal
use Rattle.point_calls.proofs.seeking.seek.Goals.{in-Opened+in_default-act_behind, in_default-phase_of}

pub act_in_array-requires : goal.act_in_array-requires
act_in_array-requires c =
    in_group c.args.board.now c.args.start.now.value c.args.hand.now c.args.key c.group_for-group.result
    c.group_for-group.new.hand c.requires.begins c.requires.call c.group_for-group.ensures.steps
    c.group_for-group.ensures.there c.group_for-group.ensures.answers c.group_for-group.ensures.log

pub returns-in-Some-clause-exchanges : goal.returns-in-Some-clause-exchanges
returns-in-Some-clause-exchanges c =
    few_behind (most_of c.args.aim) c.args.hand.now c.group_for-group.new.hand c.act_in_array.new.hand
    (found_none c.args.board.now c.args.key c.args.hand.now c.group_for-group.result c.group_for-group.new.hand
    c.requires.call.of c.group_for-group.ensures.steps)
    c.act_in_array.ensures.exchanges

pub returns-in-Some-act_in-clause-exchanges : goal.returns-in-Some-act_in-clause-exchanges
returns-in-Some-act_in-clause-exchanges c =
    let b = c.args.board.now in
    let start = c.args.start.now.value in
    let h = c.args.hand.now in
    let g = c.group_for-group.new.hand in
    let m = c.act_in_array.new.hand in
    let k = c.act_in.new.hand in
    let group : ℕ = c.group_for-group.result in
    let key : ℕ = c.args.key in
    let array : PassesArray b start g group key m = c.in_default.ensures.answer in
    few_behind (most_of c.args.aim) h m k
    (few_behind no_exchange h g m (found_none b key h group g c.requires.call.of c.group_for-group.ensures.steps)
    array.exchanges)
    c.act_in.ensures.exchanges

pub phase_of-requires-clause-search : goal.phase_of-requires-clause-search
phase_of-requires-clause-search c =
    let b = c.args.board.now in
    let start = c.args.start.now.value in
    let h = c.args.hand.now in
    let g = c.group_for-group.new.hand in
    let m = c.act_in_array.new.hand in
    let k = c.act_in.new.hand in
    let group : ℕ = c.group_for-group.result in
    let key : ℕ = c.args.key in
    let array : PassesArray b start g group key m = c.in_default.ensures.answer in
    let passes : PassesBuffer b start m group key k = c.in_default-act_in.ensures.answer in
    (lacks_still b start m k group key array.lacks passes).there.search

pub phase_of-requires-clause-answers : goal.phase_of-requires-clause-answers
phase_of-requires-clause-answers c =
    let b = c.args.board.now in
    let start = c.args.start.now.value in
    let h = c.args.hand.now in
    let g = c.group_for-group.new.hand in
    let m = c.act_in_array.new.hand in
    let k = c.act_in.new.hand in
    let group : ℕ = c.group_for-group.result in
    let key : ℕ = c.args.key in
    let array : PassesArray b start g group key m = c.in_default.ensures.answer in
    let passes : PassesBuffer b start m group key k = c.in_default-act_in.ensures.answer in
    let most : key ≤ greatest_key = omega arith in
    (key, most, (lacks_still b start m k group key array.lacks passes).there.answers)

pub act_behind-requires : goal.act_behind-requires
act_behind-requires c =
    let b = c.args.board.now in
    let start = c.args.start.now.value in
    let h = c.args.hand.now in
    let g = c.group_for-group.new.hand in
    let m = c.act_in_array.new.hand in
    let k = c.act_in.new.hand in
    let group : ℕ = c.group_for-group.result in
    let key : ℕ = c.args.key in
    let array : PassesArray b start g group key m = c.in_default.ensures.answer in
    let passes : PassesBuffer b start m group key k = c.in_default-act_in.ensures.answer in
    let n = c.phase_of.new.hand in
    let word = word_of_phase c.phase_of.result in
    let loads = c.phase_of.ensures.step in
    let most : key ≤ greatest_key = omega arith in
    lacks_opened b start m k group key array.lacks passes word n loads c.in-Opened.first
    (c.phase_of.ensures.phase ∙ c.in-Opened.is) most

pub returns-in-Some-act_behind-clause-exchanges : goal.returns-in-Some-act_behind-clause-exchanges
returns-in-Some-act_behind-clause-exchanges c =
    let b = c.args.board.now in
    let start = c.args.start.now.value in
    let h = c.args.hand.now in
    let g = c.group_for-group.new.hand in
    let m = c.act_in_array.new.hand in
    let k = c.act_in.new.hand in
    let group : ℕ = c.group_for-group.result in
    let key : ℕ = c.args.key in
    let array : PassesArray b start g group key m = c.in_default.ensures.answer in
    let passes : PassesBuffer b start m group key k = c.in_default-act_in.ensures.answer in
    let n = c.phase_of.new.hand in
    let word = word_of_phase c.phase_of.result in
    let loads = c.phase_of.ensures.step in
    few_behind (most_of c.args.aim) h n c.act_behind.new.hand
    (few_behind no_exchange h m n
    (few_behind no_exchange h g m (found_none b key h group g c.requires.call.of c.group_for-group.ensures.steps)
    array.exchanges)
    (none_so_far b start m k group key array.lacks passes word n loads))
    c.act_behind.ensures.exchanges

-- the key was not in the map
missed : (c : goal.After-look-arg-1) → Misses c.args.board.now c.args.start.now.value c.act_in_array.new.hand
    c.args.key c.match-phase_of.hand
missed c =
    let b = c.args.board.now in
    let start = c.args.start.now.value in
    let h = c.args.hand.now in
    let g = c.group_for-group.new.hand in
    let m = c.act_in_array.new.hand in
    let k = c.act_in.new.hand in
    let group : ℕ = c.group_for-group.result in
    let key : ℕ = c.args.key in
    let array : PassesArray b start g group key m = c.in_default.ensures.answer in
    let passes : PassesBuffer b start m group key k = c.in_default-act_in.ensures.answer in
    let n = c.phase_of.new.hand in
    let word = word_of_phase c.phase_of.result in
    let loads = c.phase_of.ensures.step in
    elim c.match-phase_of.branch [
      | in-Opened+in_default-act_behind w ↦
          subst (λ (z : Hand). Misses b start m key z) (sym w.hand-is)
          (misses_on b start m k group key array.lacks passes word n loads w.act_behind.new.hand
          w.in_default-act_behind.ensures.answer)
      | in_default-phase_of w ↦
          subst (λ (z : Hand). Misses b start m key z) (sym w.hand-is)
          (misses_here b start m k group key array.lacks passes word n loads
          (λ first opened. w.in_default-phase_of.not-Opened first (sym c.phase_of.ensures.phase ∙ opened)))
    ]

pub look-requires-clause-call : goal.look-requires-clause-call
look-requires-clause-call c = (missed c).on.can

pub look-requires-clause-section : goal.look-requires-clause-section
look-requires-clause-section c = (missed c).on.call.section

pub look-requires-clause-rows : goal.look-requires-clause-rows
look-requires-clause-rows c = (missed c).on.rows

pub look-requires-clause-may : goal.look-requires-clause-may
look-requires-clause-may c =
    may_miss c.args.board.now c.args.start.now.value c.act_in_array.new.hand c.args.key c.match-phase_of.hand
    (missed c)

pub returns-clause-exchanges : goal.returns-clause-exchanges
returns-clause-exchanges c =
    let b = c.args.board.now in
    let start = c.args.start.now.value in
    let h = c.args.hand.now in
    let g = c.group_for-group.new.hand in
    let m = c.act_in_array.new.hand in
    let k = c.act_in.new.hand in
    let group : ℕ = c.group_for-group.result in
    let key : ℕ = c.args.key in
    let array : PassesArray b start g group key m = c.in_default.ensures.answer in
    let passes : PassesBuffer b start m group key k = c.in_default-act_in.ensures.answer in
    let n = c.phase_of.new.hand in
    let word = word_of_phase c.phase_of.result in
    let loads = c.phase_of.ensures.step in
    let misses : Misses b start m key c.match-phase_of.hand =
    elim c.match-phase_of.branch [
      | in-Opened+in_default-act_behind w ↦
          subst (λ (z : Hand). Misses b start m key z) (sym w.hand-is)
          (misses_on b start m k group key array.lacks passes word n loads w.act_behind.new.hand
          w.in_default-act_behind.ensures.answer)
      | in_default-phase_of w ↦
          subst (λ (z : Hand). Misses b start m key z) (sym w.hand-is)
          (misses_here b start m k group key array.lacks passes word n loads
          (λ first opened. w.in_default-phase_of.not-Opened first (sym c.phase_of.ensures.phase ∙ opened)))
    ] in
    as_most c.args.aim h c.look.new.hand
    (few_behind no_exchange h m c.look.new.hand
    (few_behind no_exchange h g m (found_none b key h group g c.requires.call.of c.group_for-group.ensures.steps)
    array.exchanges)
    (few_behind no_exchange m c.match-phase_of.hand c.look.new.hand misses.exchanges c.look.ensures.exchanges))
