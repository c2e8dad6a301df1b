use Rattle.std.proofs.Common.{◌∙◌, rules, arith}
use Rattle.std.proofs.lemmas.Grind.{common_steps}
use Rattle.std.proofs.lemmas.Option.{gets}
use Rattle.map_model.proofs.Places.{IsFirstPlace, first-at, first-in_gap, first_from-place}
use Rattle.map_model.proofs.plain_map.first_pair.Goals as goal
use Rattle.map_model.proofs.plain_map.first_pair.Goals.{in-Ok, in-Ok-2}

pub returns : goal.returns
returns c =
    let place : IsFirstPlace c.args.pairs.now c.args.from c.match-place_of.at = elim c.match-place_of.branch [
      | in-Ok w ↦ rw w.at-is (first-at _ _ _ c.requires w.in-Ok.ensures.found)
      | in-Ok-2 w ↦ rw w.at-is (first-in_gap _ _ _ w.in-Ok.ensures.absent)
    ] in
    rw (first_from-place c.args.pairs.now c.args.from c.match-place_of.at place) (c.copied.ensures ∙ first_of (search rules, grind (arith, common_steps), grind (arith, gets)))
