use Rattle.std.proofs.Common.{rules, arith, ◌≡◌, ◌<◌, ◌^◌, ◌+◌, ℕ, [], ◌∷◌, ◌++◌, get_or, take, sym, ap}
use Rattle.std.proofs.Common.{◌∙◌, subst, add-one, take-suc}
use Rattle.std.specs.List.{AllByRecursion}
use Rattle.map_model.specs.Map.{Map}
use Rattle.opened_table.proofs.LaidRows.{all_more}
use Rattle.opened_table.proofs.opening.opening_with.Goals as goal

pub loop-row-preserved : goal.loop-row-preserved
loop-row-preserved c =
    let i = c.loop-row.row-index in
    let rows : Map = c.args.rows.now in
    let row : ℕ × ℕ = get_or rows i (0, 0) in
    let more : take (i + 1) rows ≡ take i rows ++ row ∷ [] =
    rw add-one (take-suc rows i (0, 0) (search rules)) in
    let same : c.within_64_bits.result ≡ row.0 = c.within_64_bits.ensures.same in
    let below : c.within_64_bits.result < 2 ^ 64 = c.within_64_bits.ensures.below in
    let items : c.push_back.new.self ≡ c.loop-row.list ++ row ∷ [] =
    c.in_ok-push_back.ensures.items
    ∙ ap (λ (k : ℕ). c.loop-row.list ++ (k, row.1) ∷ []) same in
    record {
      copied = items ∙ (ap (λ (z : Map). z ++ row ∷ []) c.loop-row.invariant.copied ∙ sym more);
      keys = subst (AllByRecursion (λ (r : ℕ × ℕ). r.0 < 2 ^ 64)) (sym items)
          (all_more (λ (r : ℕ × ℕ). r.0 < 2 ^ 64) c.loop-row.list row c.loop-row.invariant.keys
          (omega (arith, same, below)));
    }
