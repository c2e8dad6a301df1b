use Rattle.std.proofs.Common.{◌≡◌, ℕ, rules, refl, sym, ap, ◌∙◌}
use Rattle.word_layout.specs.State.{IsWritableState, word_of_state}
use Rattle.word_layout.specs.declared.state.State.TheVariants as state
use Rattle.index_rule.proofs.RecordReading.{no_entry}
use Rattle.record_cell.proofs.Found.{can_step, found_as, loaded_ready}
use Rattle.record_cell.proofs.Followed.{can_follow, else_record, forwards_to, found_behind}
use Rattle.record_cell.proofs.finding.find.Goals as goal

pub follow-requires-clause-ready : goal.follow-requires-clause-ready
follow-requires-clause-ready c =
    loaded_ready c.args.board.now c.args.hand.now c.load_state-word.new.hand c.args.place _ c.requires
    c.load_state-word.ensures

pub follow-requires-clause-forwards : goal.follow-requires-clause-forwards
follow-requires-clause-forwards c =
    forwards_to c.args.board.now c.args.hand.now c.load_state-word.new.hand c.args.place _ c.requires
    c.load_state-word.ensures c.in-Some-Redirect.to
    (sym c.in-Some-Redirect.ensures.reads ∙ ap word_of_state c.in-Some-Redirect.field-0-is)

pub follow-requires-clause-target : goal.follow-requires-clause-target
follow-requires-clause-target c =
    can_follow c.args.board.now c.args.hand.now c.load_state-word.new.hand c.args.place _ c.requires
    c.load_state-word.ensures c.in-Some-Redirect.to
    (sym c.in-Some-Redirect.ensures.reads ∙ ap word_of_state c.in-Some-Redirect.field-0-is)

pub returns-in-Some-Redirect-clause-found : goal.returns-in-Some-Redirect-clause-found
returns-in-Some-Redirect-clause-found c =
    found_behind c.args.board.now c.args.hand.now c.load_state-word.new.hand c.args.place _ c.requires
    c.load_state-word.ensures c.in-Some-Redirect.to
    (sym c.in-Some-Redirect.ensures.reads ∙ ap word_of_state c.in-Some-Redirect.field-0-is)
    c.follow.new.hand c.follow.result.place c.follow.result.word c.follow.ensures.steps
    c.follow.ensures.is_record

-- another state is that of a record
pub returns-in_default : goal.returns-in_default
returns-in_default c =
    let b = c.args.board.now in
    let h = c.args.hand.now in
    let m = c.load_state-word.new.hand in
    let first = c.load_state-word.ensures in
    let none : (to : ℕ) → IsWritableState (state.Redirect to) →
    word_of_state (state.Redirect to) ≡ c.load_state-word.result → ⊥ =
    λ to fits e. let same = c.read.ensures.reads_back (state.Redirect to) fits e in search rules in
    record {
      number = first.number;
      ready = loaded_ready b h m c.args.place _ c.requires first;
      can_step = can_step b m c.args.place (loaded_ready b h m c.args.place _ c.requires first);
      found = found_as b h m c.args.place _ c.requires first
          (else_record b h m c.args.place _ c.requires first none);
      log = no_entry b h m _ c.requires.of first (λ o t log. refl);
    }

pub returns-in_default-2-clause-ready : goal.returns-in_default-2-clause-ready
returns-in_default-2-clause-ready c =
    loaded_ready c.args.board.now c.args.hand.now c.load_state-word.new.hand c.args.place _ c.requires
    c.load_state-word.ensures

pub returns-in_default-2-clause-can_step : goal.returns-in_default-2-clause-can_step
returns-in_default-2-clause-can_step c =
    can_step c.args.board.now c.load_state-word.new.hand c.args.place
    (returns-in_default-2-clause-ready c)

-- and so is what is no state
pub returns-in_default-2-clause-found : goal.returns-in_default-2-clause-found
returns-in_default-2-clause-found c =
    let b = c.args.board.now in
    let h = c.args.hand.now in
    let m = c.load_state-word.new.hand in
    let first = c.load_state-word.ensures in
    let none : (to : ℕ) → IsWritableState (state.Redirect to) →
    word_of_state (state.Redirect to) ≡ c.load_state-word.result → ⊥ =
    λ to fits e. let same = c.read.ensures.reads_back (state.Redirect to) fits e in search rules in
    found_as b h m c.args.place _ c.requires first
    (else_record b h m c.args.place _ c.requires first none)
