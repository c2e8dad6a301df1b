use Rattle.std.proofs.Common.{rules}
use Rattle.std.proofs.lemmas.List.Sorted.{answers_always}
use Rattle.map_model.proofs.Places.{found-searched, gap-searched}
use Rattle.map_model.proofs.plain_map.place_of.Goals as goal

-- the closure gives a pair's key
pub returns-clause-found : goal.returns-clause-found
returns-clause-found c =
    let said = c.binary_search_by_key.ensures in
    found-searched c.args.pairs.now c.requires c.args.key c.binary_search_by_key.result said.bound (said.position (λ r. r.0) (answers_always _ _ _ (λ f a r g called. search rules)))

pub returns-clause-absent : goal.returns-clause-absent
returns-clause-absent c =
    let said = c.binary_search_by_key.ensures in
    gap-searched c.args.pairs.now c.requires c.args.key c.binary_search_by_key.result said.bound (said.position (λ r. r.0) (answers_always _ _ _ (λ f a r g called. search rules)))
