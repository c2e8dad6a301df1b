use Rattle.xindex_core.proofs.HeldCalls.{held_heeds}
use Rattle.xindex_core.proofs.held.Held.heed.Goals as goal

pub returns : goal.returns
returns c = held_heeds c.args.index.now c.args.self.now c.heed.new.hand _ c.requires.held c.heed.ensures
