use Rattle.std.proofs.Common.{sym, subst}
use Rattle.map_model.specs.declared.calls.Call.{Call}
use Rattle.xindex_core.specs.Tries.{Tries}
use Rattle.xindex_core.proofs.Waits.{next_tries}
use Rattle.xindex_core.proofs.waiter.try_call.Goals as goal

pub returns-in-Next-clause-tries : goal.returns-in-Next-clause-tries
returns-in-Next-clause-tries c =
    subst
    (λ (z : Call). Tries c.args.index.now c.args.pass.now z c.try_get-in-Next.result c.try_get-in-Next.new.self)
    (sym c.in-Next.is)
    (next_tries c.args.index.now c.args.pass.now c.in-Next.from c.try_get-in-Next.result
    c.try_get-in-Next.new.self c.try_get-in-Next.ensures.tries)
