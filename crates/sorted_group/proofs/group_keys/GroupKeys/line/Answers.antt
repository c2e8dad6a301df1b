use Rattle.sorted_group.proofs.group_keys.GroupKeys.line.Goals as goal

pub returns-clause-same_hand : goal.returns-clause-same_hand
returns-clause-same_hand c = c.of.ensures.leads.hand

pub returns-clause-loads : goal.returns-clause-loads
returns-clause-loads c = c.of.ensures.leads.loads
