-- A keeper that heeded a note is the keeper of its part, without a step of its own.
use Rattle.xindex_core.proofs.Heeding.{keeper_heeds}
use Rattle.xindex_core.proofs.keeper.Keeper.heed.Goals as goal

pub returns : goal.returns
returns c = keeper_heeds c.args.index.now c.args.self.now c.heed.new.hand _ c.requires.keeper c.heed.ensures
