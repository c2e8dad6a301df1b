use Rattle.std.proofs.Common.{ℕ, Option}
use Rattle.tried_calls.specs.declared.tried.Tried.{Tried}
use Rattle.point_calls.specs.Exchanges.{no_exchange}
use Rattle.point_calls.specs.Places.{EndsWith, Misses, PassesBuffer, most_of}
use Rattle.point_calls.proofs.BehindWay.{at_new, at_old, begins_m, misses_behind, opened_m}
use Rattle.point_calls.proofs.BufferWay.{told_as}
use Rattle.point_calls.proofs.ChainWay.{walk_none}
use Rattle.point_calls.proofs.Exchanging.{few_behind}
use Rattle.point_calls.proofs.acting.act_behind.Goals as goal

pub act_in-requires : goal.act_in-requires
act_in-requires c =
    at_old c.args.board.now c.args.start.now.value c.args.hand.now c.args.group c.args.first c.args.key c.requires

pub walk_new-new-requires-clause-opened : goal.walk_new-new-requires-clause-opened
walk_new-new-requires-clause-opened c =
    let b = c.args.board.now in
    let start = c.args.start.now.value in
    let h = c.args.hand.now in
    let m = c.act_in.new.hand in
    let g : ℕ = c.args.group in
    let first : ℕ = c.args.first in
    let key : ℕ = c.args.key in
    let passes : PassesBuffer b start h g key m = c.in_default.ensures.answer in
    opened_m b start h g first key c.requires m passes

pub walk_new-new-requires-clause-begins : goal.walk_new-new-requires-clause-begins
walk_new-new-requires-clause-begins c =
    let b = c.args.board.now in
    let start = c.args.start.now.value in
    let h = c.args.hand.now in
    let m = c.act_in.new.hand in
    let g : ℕ = c.args.group in
    let first : ℕ = c.args.first in
    let key : ℕ = c.args.key in
    let passes : PassesBuffer b start h g key m = c.in_default.ensures.answer in
    begins_m b start h g first key c.requires m passes

pub act_in-requires-2 : goal.act_in-requires-2
act_in-requires-2 c =
    let b = c.args.board.now in
    let start = c.args.start.now.value in
    let h = c.args.hand.now in
    let m = c.act_in.new.hand in
    let g : ℕ = c.args.group in
    let first : ℕ = c.args.first in
    let key : ℕ = c.args.key in
    let passes : PassesBuffer b start h g key m = c.in_default.ensures.answer in
    let n = c.walk_new-new.new.hand in
    let new : ℕ = c.walk_new-new.result in
    let w = c.walk_new-new.ensures in
    at_new b start h g first key c.requires m passes new n w.there w.opened w.answers w.steps w.log

pub returns-clause-exchanges : goal.returns-clause-exchanges
returns-clause-exchanges c =
    let b = c.args.board.now in
    let start = c.args.start.now.value in
    let h = c.args.hand.now in
    let m = c.act_in.new.hand in
    let g : ℕ = c.args.group in
    let first : ℕ = c.args.first in
    let key : ℕ = c.args.key in
    let passes : PassesBuffer b start h g key m = c.in_default.ensures.answer in
    let n = c.walk_new-new.new.hand in
    let new : ℕ = c.walk_new-new.result in
    let w = c.walk_new-new.ensures in
    few_behind (most_of c.args.aim) h n c.act_in-2.new.hand
    (few_behind no_exchange h m n passes.exchanges
    (walk_none b first key m new n passes.on.can.of w.steps))
    c.act_in-2.ensures.exchanges

pub returns-clause-answer : goal.returns-clause-answer
returns-clause-answer c =
    let b = c.args.board.now in
    let start = c.args.start.now.value in
    let h = c.args.hand.now in
    let m = c.act_in.new.hand in
    let g : ℕ = c.args.group in
    let first : ℕ = c.args.first in
    let key : ℕ = c.args.key in
    let passes : PassesBuffer b start h g key m = c.in_default.ensures.answer in
    let n = c.walk_new-new.new.hand in
    let new : ℕ = c.walk_new-new.result in
    let w = c.walk_new-new.ensures in
    let k = c.act_in-2.new.hand in
    told_as (PassesBuffer b start n new key k) (Misses b start h key k)
    (λ (x : Tried (Option ℕ)). EndsWith c.args.aim b key start x k)
    (λ (x : Tried (Option ℕ)). EndsWith c.args.aim b key start x k) c.act_in-2.result
    (λ then.
    misses_behind b start h g first key c.requires m passes new n w.there w.opened w.answers w.steps w.log k then)
    (λ x is. is) c.act_in-2.ensures.answer
