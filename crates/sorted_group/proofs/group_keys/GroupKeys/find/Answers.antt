use Rattle.std.proofs.Common.{ap}
use Rattle.line_window.specs.Search.{probes_of}
use Rattle.index_rule.specs.declared.view.View.{View}
use Rattle.index_rule.specs.Hands.{known}
use Rattle.sorted_group.specs.Readers.{keys_of}
use Rattle.sorted_group.proofs.ArraySearches.{few_loads}
use Rattle.sorted_group.proofs.group_keys.GroupKeys.find.Goals as goal

pub returns-clause-same_hand : goal.returns-clause-same_hand
returns-clause-same_hand c = c.index_of.ensures.leads.hand

pub returns-clause-loads : goal.returns-clause-loads
returns-clause-loads c =
    let s = c.args.self.now in
    let t = c.index_of.new.keys in
    few_loads s.board.now s.group c.args.error (probes_of (keys_of s) c.args.key) s.hand.now t.hand.now
    (known s.made.value) (known t.made.value) c.index_of.ensures.leads.loads
    (ap (λ (v : View). v.known) c.index_of.ensures.origin) s.since c.index_of.ensures.reads
    c.index_of.ensures.few
