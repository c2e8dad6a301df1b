-- A keeper that told a note is as it was.
use Rattle.xindex_core.proofs.Heeding.{keeper_tells}
use Rattle.xindex_core.proofs.keeper.Keeper.tell.Goals as goal

pub returns-clause-keeper : goal.returns-clause-keeper
returns-clause-keeper c =
    let told = c.tell.ensures in
    keeper_tells c.args.index.now c.args.self.now c.tell.new.hand c.requires told.hand told.number told.view
