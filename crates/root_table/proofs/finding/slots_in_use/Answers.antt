use Rattle.std.proofs.Common.{arith}
use Rattle.index_rule.specs.Hands.{opening_of}
use Rattle.root_table.proofs.Rooted.{sees_slots}
use Rattle.root_table.proofs.finding.slots_in_use.Goals as goal

pub overflow_cast-result-2 : goal.overflow_cast-result-2
overflow_cast-result-2 c =
    let is = c.load_root-word.ensures.tells.is in
    let few = c.load_root-word.ensures.tells.few in
    let most = (opening_of c.args.board.now).layout.kept.most_slots in
    omega (arith, is, few, most)

pub returns-clause-sees : goal.returns-clause-sees
returns-clause-sees c =
    sees_slots c.args.board.now c.args.hand.now c.load_root-word.new.hand c.args.part
    c.load_root-word.result c.requires.call c.requires.part c.load_root-word.ensures.step
    c.load_root-word.ensures.tells
