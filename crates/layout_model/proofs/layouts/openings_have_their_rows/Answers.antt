use Rattle.layout_model.proofs.OpenedLayouts.{openings_are_sound}
use Rattle.layout_model.proofs.OpenedPairs.{openings_have_their_pairs}
use Rattle.layout_model.proofs.layouts.openings_have_their_rows.Goals as goal

pub returns-clause-sound : goal.returns-clause-sound
returns-clause-sound c = openings_are_sound

pub returns-clause-pairs : goal.returns-clause-pairs
returns-clause-pairs c = openings_have_their_pairs
