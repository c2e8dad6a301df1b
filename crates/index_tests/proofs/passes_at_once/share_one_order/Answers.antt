use Rattle.index_tests.proofs.passes_at_once.share_one_order.Goals as goal

pub returns : goal.returns
returns c = c.callers_share_one_order.ensures _ _ _ c.requires
