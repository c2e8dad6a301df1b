-- What was tried before adds nothing to what the last try tells.
use Rattle.std.proofs.Common.{◌∙◌, subst, suc}
use Rattle.xindex_core.specs.declared.index.Index.{Index}
use Rattle.xindex_core.specs.Waiting.{AnswersLast, AnswersOnce, TriesInVain}
use Rattle.xindex_core.proofs.Waits.{last_answers}
use Rattle.xindex_core.proofs.waiter.WaiterAnswerer.ask.Goals as goal

pub returns-in-Some-tried : goal.returns-in-Some-tried
returns-in-Some-tried g c =
    let first = c.args.self.now in
    let index = first.index.now in
    let i = c.loop.invariant in
    let last : AnswersLast index first.pass c.args.call c.in-Some-tried.answer c.tried.new.self.pass =
    record {
      times = i.times;
      before = c.loop.self.pass;
      again = i.again;
      last = subst
          (λ (z : Index).
          AnswersOnce z c.loop.self.pass c.args.call c.in-Some-tried.answer c.tried.new.self.pass)
          i.index c.in-Some-tried.ensures.tells;
    }
    in (
      c.tried.ensures.index ∙ i.index,
      last,
      last_answers index first.pass c.args.call c.in-Some-tried.answer c.tried.new.self.pass last,
    )

pub loop-preserved : goal.loop-preserved
loop-preserved g c =
    let index = c.args.self.now.index.now in
    let i = c.loop.invariant in
    record {
      index = c.tried.ensures.index ∙ i.index;
      times = suc i.times;
      again = (
        c.loop.self.pass,
        i.again,
        subst
            (λ (z : Index). TriesInVain z c.loop.self.pass c.args.call c.tried.new.self.pass)
            i.index c.in-None-tried.ensures.tells,
      );
    }
