use Rattle.word_layout.specs.Layout.{shape_of}
use Rattle.word_layout.proofs.WordNames.{stand_apart, stores_by_name}
use Rattle.word_layout.proofs.layout.Layout.words.Goals as goal

pub returns-clause-apart : goal.returns-clause-apart
returns-clause-apart c = stand_apart (shape_of c.args.self.now)

pub returns-clause-by_name : goal.returns-clause-by_name
returns-clause-by_name c = stores_by_name (shape_of c.args.self.now)
