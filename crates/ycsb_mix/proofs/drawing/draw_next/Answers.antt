use Rattle.std.proofs.Common.{ℕ, ◌%◌, length, ap, ◌∙◌}
use Rattle.rand_pcg.specs.Lcg.{Lcg}
use Rattle.ycsb_mix.specs.Draws.{kind_of, draw_of, next_draw}
use Rattle.ycsb_mix.proofs.drawing.draw_next.Goals as goal

pub returns-clause-draws : goal.returns-clause-draws
unfolding next_draw
returns-clause-draws c =
    let n = length c.args.sums.now in
    c.draw_more.ensures.draws
    ∙ ap (λ k. draw_of n k c.next_word.new.self) c.kind_of-kind.ensures
    ∙ ap (λ (p : ℕ × Lcg). draw_of n (kind_of c.args.mix (p.0 % 100)) p.1) c.next_word.ensures
