use Rattle.std.proofs.Common.{◌≡◌, ◌+◌, length, ap, sym, subst, ◌∙◌, arith}
use Rattle.std.proofs.lemmas.List.{length_push}
use Rattle.ycsb_mix.specs.Draws.{next_draw, generator_of}
use Rattle.ycsb_mix.proofs.DrawLaws.{HasDrawn, drawn_more, drawn_all}
use Rattle.ycsb_mix.proofs.drawing.draw_all.Goals as goal

pub loop-operation-preserved : goal.loop-operation-preserved
loop-operation-preserved c =
    let was = c.loop-operation.invariant in
    let items = c.in_ok-push.ensures.items in
    let draw = c.draw_next-draw in
    let many : length c.deref.result.now ≡ c.args.load = ap length c.deref.ensures.value ∙ c.in_ok-sums.ensures.ranks in
    let start = generator_of c.args.seed in
    record {
      drawn = subst (λ l. HasDrawn c.args.mix c.args.load start draw.new.words l) (sym items)
          (drawn_more c.args.mix c.args.load start c.loop-operation.words draw.new.words c.loop-operation.draws.items draw.result
          was.drawn (draw.ensures.draws ∙ ap (λ n. next_draw c.args.mix n c.loop-operation.words) many)
          (omega (arith, many, draw.ensures.within)));
      count = ap length items ∙ length_push c.loop-operation.draws.items draw.result ∙ ap (λ n. n + 1) was.count;
    }

pub returns-clause-draws : goal.returns-clause-draws
returns-clause-draws c =
    let was = c.loop-operation.invariant in
    let all : length c.loop-operation.draws.items ≡ c.args.ops = omega (arith, was.count) in
    drawn_all c.args.mix c.args.load c.args.ops (generator_of c.args.seed) c.loop-operation.words c.loop-operation.draws.items was.drawn all
