use Rattle.std.proofs.Common.{ap, subst, ◌∙◌, sym, List, ℕ, arith}
use Rattle.std.proofs.lemmas.Grind.{common_steps}
use Rattle.line_window.specs.Line.{error_of}
use Rattle.sorted_group.specs.Searches.{FindsIndex}
use Rattle.sorted_group.proofs.ArraySearches.{all_rise, few_left, has_all}
use Rattle.sorted_group.proofs.locating.index_in.Goals as goal

pub find-requires-clause-rising : goal.find-requires-clause-rising
find-requires-clause-rising c =
    all_rise c.args.board.now c.args.hand.now c.args.group c.args.len c.of-keys.result c.requires.can.of
    c.of-keys.ensures.new c.requires.len

pub find-requires-clause-error : goal.find-requires-clause-error
find-requires-clause-error c =
    c.requires.error
    ∙ ap error_of (sym (has_all c.args.board.now c.args.hand.now c.args.group c.args.len c.of-keys.result
    c.of-keys.ensures.new c.requires.len))

pub returns-clause-index : goal.returns-clause-index
returns-clause-index c =
    subst (λ (z : List ℕ). FindsIndex z c.args.key c.find.result)
    (has_all c.args.board.now c.args.hand.now c.args.group c.args.len c.of-keys.result
    c.of-keys.ensures.new c.requires.len) c.find.ensures.index

pub returns-clause-probes : goal.returns-clause-probes
returns-clause-probes c =
    rw (← has_all c.args.board.now c.args.hand.now c.args.group c.args.len c.of-keys.result
    c.of-keys.ensures.new c.requires.len) c.find.ensures.probes

pub returns-clause-loads : goal.returns-clause-loads
returns-clause-loads c =
    few_left c.args.board.now c.args.hand.now _ c.find.new.self.hand.now c.args.group c.args.len
    c.args.error c.of-keys.result c.of-keys.ensures.new
    (grind (arith, common_steps))
    c.find.ensures.loads
