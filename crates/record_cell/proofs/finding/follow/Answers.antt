use Rattle.std.proofs.Common.{◌≢◌, ℕ, rules, refl, sym, ap, ◌∙◌, subst, inl, inr}
use Rattle.word_layout.specs.State.{word_of_state}
use Rattle.word_layout.specs.declared.state.State.TheVariants as state
use Rattle.index_machine.specs.declared.events.Action.TheVariants.{LoadState}
use Rattle.index_rule.specs.Hands.{Makes}
use Rattle.index_rule.proofs.RecordReading.{no_entry}
use Rattle.record_cell.proofs.Found.{can_step, loaded_ready}
use Rattle.record_cell.proofs.Followed.{again_record, behind_record, first_ready, target_can}
use Rattle.record_cell.proofs.finding.follow.Goals as goal

pub load_state-requires-clause-may : goal.load_state-requires-clause-may
load_state-requires-clause-may c =
    inl (first_ready c.args.board.now c.args.hand.now c.load_state-word.new.hand c.args.place
    c.args.to _ c.requires.ready c.requires.forwards c.requires.target
    c.load_state-word.ensures).at_own.there

pub returns-in-Some-Moved-clause-ready : goal.returns-in-Some-Moved-clause-ready
returns-in-Some-Moved-clause-ready c =
    loaded_ready c.args.board.now c.load_state-word.new.hand c.load_state.new.hand c.args.place _
    (first_ready c.args.board.now c.args.hand.now c.load_state-word.new.hand c.args.place c.args.to _
    c.requires.ready c.requires.forwards c.requires.target c.load_state-word.ensures)
    c.load_state.ensures

pub returns-in-Some-Moved-clause-can_step : goal.returns-in-Some-Moved-clause-can_step
returns-in-Some-Moved-clause-can_step c =
    can_step c.args.board.now c.load_state.new.hand c.args.place
    (returns-in-Some-Moved-clause-ready c)

pub returns-in-Some-Moved-clause-steps : goal.returns-in-Some-Moved-clause-steps
returns-in-Some-Moved-clause-steps c =
    let b = c.args.board.now in
    let h = c.args.hand.now in
    let m = c.load_state-word.new.hand in
    let moved = sym c.in-Some-Moved.ensures.reads ∙ ap word_of_state c.in-Some-Moved.field-0-is in
    inr (
      refl,
      (
        m,
        (
          h,
          refl,
          subst (λ (word : ℕ). Makes b h (LoadState c.args.to word) m) moved
              c.load_state-word.ensures,
        ),
        c.load_state.ensures,
      ),
    )

pub returns-in-Some-Moved-clause-is_record : goal.returns-in-Some-Moved-clause-is_record
returns-in-Some-Moved-clause-is_record c =
    again_record c.args.board.now c.args.hand.now c.load_state-word.new.hand c.args.place c.args.to _
    c.requires.ready c.requires.forwards c.requires.target c.load_state-word.ensures
    c.load_state.new.hand _
    (sym c.in-Some-Moved.ensures.reads ∙ ap word_of_state c.in-Some-Moved.field-0-is)
    c.load_state.ensures

-- another state than that of what was copied away is that of a record
pub returns-in_default : goal.returns-in_default
returns-in_default c =
    let b = c.args.board.now in
    let h = c.args.hand.now in
    let m = c.load_state-word.new.hand in
    let first = c.load_state-word.ensures in
    let none : c.load_state-word.result ≢ word_of_state state.Moved =
    λ e. let same = c.read.ensures.reads_back state.Moved tt (sym e) in search rules in
    record {
      number = first.number;
      ready = first_ready b h m c.args.place c.args.to _ c.requires.ready c.requires.forwards
          c.requires.target first;
      can_step = target_can b h m c.args.place c.args.to _ c.requires.ready c.requires.forwards
          c.requires.target first;
      steps = inl (refl, first);
      is_record = behind_record b h m c.args.place c.args.to _ c.requires.ready c.requires.forwards
          c.requires.target first none;
      log = no_entry b h m _ c.requires.ready.of first (λ o t log. refl);
    }

pub returns-in_default-2-clause-ready : goal.returns-in_default-2-clause-ready
returns-in_default-2-clause-ready c =
    first_ready c.args.board.now c.args.hand.now c.load_state-word.new.hand c.args.place c.args.to _
    c.requires.ready c.requires.forwards c.requires.target c.load_state-word.ensures

pub returns-in_default-2-clause-can_step : goal.returns-in_default-2-clause-can_step
returns-in_default-2-clause-can_step c =
    target_can c.args.board.now c.args.hand.now c.load_state-word.new.hand c.args.place c.args.to _
    c.requires.ready c.requires.forwards c.requires.target c.load_state-word.ensures

pub returns-in_default-2-clause-is_record : goal.returns-in_default-2-clause-is_record
returns-in_default-2-clause-is_record c =
    let none : c.load_state-word.result ≢ word_of_state state.Moved =
    λ e. let same = c.read.ensures.reads_back state.Moved tt (sym e) in search rules in
    behind_record c.args.board.now c.args.hand.now c.load_state-word.new.hand c.args.place c.args.to _
    c.requires.ready c.requires.forwards c.requires.target c.load_state-word.ensures none
