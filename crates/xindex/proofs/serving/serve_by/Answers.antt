-- A session by a waiter is one that the log of its pass tells.
use Rattle.std.proofs.Common.{subst, sym}
use Rattle.map_model.specs.Logs.{Log}
use Rattle.line_session.specs.Ends.{ends_of}
use Rattle.line_session.specs.Served.{Serves}
use Rattle.xindex_core.specs.declared.pass.Pass.{Pass}
use Rattle.xindex_core.specs.declared.waiter.Waiter.{Waiter}
use Rattle.xindex_core.specs.Alone.{AllByZero, AnswersAlone, IsAlone}
use Rattle.xindex_core.specs.Callers.{seen_by}
use Rattle.xindex_core.specs.Passes.{caller_with, limits_of_index, log_of}
use Rattle.xindex.proofs.Sessions.{alone_serves, alone_still}
use Rattle.xindex.proofs.serving.serve_by.Goals as goal

pub returns-clause-alone : goal.returns-clause-alone
returns-clause-alone g c =
    let i = c.args.index.now in
    let l = limits_of_index i in
    let alone = subst (λ (p : Pass). IsAlone l (caller_with i p)) (sym c.new-waiter.ensures.pass)
    c.requires.alone in
    subst (λ (p : Pass). IsAlone l (caller_with i p)) (sym c.finish.ensures.same)
    (alone_still (λ (w : Waiter g.row.N.Denot g.N.Name). w.index.now) (λ w. w.pass) i l
    c.new-waiter.result c.serve_one-ended.new.answerer _ _ c.args.most c.serve_one-ended.result
    c.serve_one-ended.ensures.session c.new-waiter.ensures.index alone)

pub returns-clause-session : goal.returns-clause-session
returns-clause-session g c = λ own.
    let i = c.args.index.now in
    let l = limits_of_index i in
    let alone = subst (λ (p : Pass). IsAlone l (caller_with i p)) (sym c.new-waiter.ensures.pass)
    c.requires.alone in
    let until = subst (λ (p : Pass). AllByZero (seen_by (caller_with i p))) c.finish.ensures.same own in
    let served = alone_serves (λ (w : Waiter g.row.N.Denot g.N.Name). w.index.now) (λ w. w.pass) i l
    c.new-waiter.result c.serve_one-ended.new.answerer _ _ c.args.most c.serve_one-ended.result
    c.serve_one-ended.ensures.session c.new-waiter.ensures.index alone until in
    subst
    (λ (z : Log × Log). Serves (AnswersAlone l) z.0 z.1
    (ends_of (g.S.Ends.state c.args.source.now) (g.K.Ends.state c.args.sink.now))
    (ends_of (g.S.Ends.state c.serve_one-ended.new.source) (g.K.Ends.state c.serve_one-ended.new.sink)) c.args.most c.serve_one-ended.result)
    (λ j. (log_of (c.new-waiter.ensures.pass j), log_of (sym c.finish.ensures.same j))) served
