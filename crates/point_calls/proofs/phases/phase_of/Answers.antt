use Rattle.std.proofs.Common.{◌≡◌, None, Some, sym, ◌∙◌, subst}
use Rattle.index_machine.specs.declared.events.Action.TheVariants.{LoadPhase}
use Rattle.index_machine.specs.Groups.{phase}
use Rattle.word_layout.specs.declared.phase.Phase.{Phase}
use Rattle.index_rule.specs.Hands.{Makes, known}
use Rattle.index_rule.proofs.BufferStepping.{phase_found}
use Rattle.point_calls.proofs.PhaseLoads.{search_seen, sees_phase, writable}
use Rattle.point_calls.proofs.phases.phase_of.Goals as goal

no_phase : {X : Type 0} {p : Phase} → None ≡ Some p → X
no_phase e = cc

one_phase : {p q : Phase} → Some p ≡ Some q → p ≡ q
one_phase e = cc

pub load_phase-requires-clause-may : goal.load_phase-requires-clause-may
load_phase-requires-clause-may c =
    sees_phase c.args.board.now c.args.group c.args.hand.now c.requires.search

pub unreachable-requires : goal.unreachable-requires
unreachable-requires c =
    let b = c.args.board.now in
    let h = c.args.hand.now in
    let k = c.load_phase.new.hand in
    let a = c.requires.answers in
    no_phase (sym c.in-None.is
    ∙ c.read.ensures.reads_back (phase c.args.group (known k))
    (writable b c.args.group c.load_phase.result a.0 h k c.requires.search a.1 a.2 c.load_phase.ensures)
    (phase_found b h k c.args.group c.load_phase.result c.requires.search.call.of c.load_phase.ensures))

pub returns-clause-search : goal.returns-clause-search
returns-clause-search c =
    let a = c.requires.answers in
    search_seen c.args.board.now c.args.group c.load_phase.result a.0 c.args.hand.now c.load_phase.new.hand
    c.requires.search a.1 a.2 c.load_phase.ensures

pub returns-clause-step : goal.returns-clause-step
returns-clause-step c =
    subst (λ z. Makes c.args.board.now c.args.hand.now (LoadPhase c.args.group z) c.load_phase.new.hand)
    (sym c.in-Some.ensures.reads) c.load_phase.ensures

pub returns-clause-phase : goal.returns-clause-phase
returns-clause-phase c =
    let b = c.args.board.now in
    let h = c.args.hand.now in
    let k = c.load_phase.new.hand in
    let a = c.requires.answers in
    one_phase (sym (c.read.ensures.reads_back (phase c.args.group (known k))
    (writable b c.args.group c.load_phase.result a.0 h k c.requires.search a.1 a.2 c.load_phase.ensures)
    (phase_found b h k c.args.group c.load_phase.result c.requires.search.call.of c.load_phase.ensures))
    ∙ c.in-Some.is)
