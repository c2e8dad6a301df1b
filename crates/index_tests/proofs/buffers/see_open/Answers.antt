use Rattle.point_calls.proofs.PhaseLoads.{sees_phase}
use Rattle.index_tests.proofs.buffers.see_open.Goals as goal

pub load_phase-word-requires-clause-may : goal.load_phase-word-requires-clause-may
load_phase-word-requires-clause-may g c =
    sees_phase c.args.board.now c.args.group c.args.hand.now c.requires
