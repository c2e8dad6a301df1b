use Rattle.std.proofs.Common.{ℕ, Option}
use Rattle.tried_calls.specs.declared.tried.Tried.{Tried}
use Rattle.point_calls.specs.Places.{EndsWith, PassesBy, most_of}
use Rattle.point_calls.specs.Seeking.{PassesArray}
use Rattle.point_calls.proofs.ArrayWay.{as_most, passes_missing, passes_place}
use Rattle.point_calls.proofs.BufferWay.{told_as}
use Rattle.point_calls.proofs.Exchanging.{few_behind}
use Rattle.point_calls.proofs.seeking.act_in_array.Goals as goal

pub act_at-requires : goal.act_at-requires
act_at-requires c = c.in-Some.ensures.answer.at

pub returns-in-Some-clause-exchanges : goal.returns-in-Some-clause-exchanges
returns-in-Some-clause-exchanges c =
    few_behind (most_of c.args.aim) c.args.hand.now c.place_in_array.new.hand c.act_at.new.hand
    c.place_in_array.ensures.searched.exchanges c.act_at.ensures.exchanges

pub returns-in-Some-clause-answer : goal.returns-in-Some-clause-answer
returns-in-Some-clause-answer c =
    let b = c.args.board.now in
    let start = c.args.start.now.value in
    let h = c.args.hand.now in
    let n = c.place_in_array.new.hand in
    let k = c.act_at.new.hand in
    let key : ℕ = c.args.key in
    told_as (PassesBy b start n c.in-Some.place k) (PassesArray b start h c.args.group key k)
    (λ (x : Tried (Option ℕ)). EndsWith c.args.aim b key start x k)
    (λ (x : Tried (Option ℕ)). EndsWith c.args.aim b key start x k) c.act_at.result
    (λ passes.
    passes_place b start h n c.args.group key c.place_in_array.ensures.searched c.in-Some.place
    c.in-Some.ensures.answer k passes)
    (λ x is. is) c.act_at.ensures.answer

pub returns-in-None-clause-exchanges : goal.returns-in-None-clause-exchanges
returns-in-None-clause-exchanges c =
    as_most c.args.aim c.args.hand.now c.place_in_array.new.hand c.place_in_array.ensures.searched.exchanges

pub returns-in-None-clause-answer : goal.returns-in-None-clause-answer
returns-in-None-clause-answer c =
    passes_missing c.args.board.now c.args.start.now.value c.args.hand.now c.place_in_array.new.hand c.args.group
    c.args.key c.place_in_array.ensures.searched c.in-None.ensures.answer
