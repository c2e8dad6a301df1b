-- A pass that heeded a note is still between two calls.
use Rattle.xindex_core.proofs.Heeding.{heeds}
use Rattle.xindex_core.proofs.pass.Pass.heed.Goals as goal

pub returns : goal.returns
returns c = heeds c.args.index.now c.args.self.now c.heed.new.hand _ c.requires.pass c.heed.ensures
