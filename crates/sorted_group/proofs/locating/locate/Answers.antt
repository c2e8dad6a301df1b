use Rattle.word_layout.specs.declared.headers.HeaderWord.TheVariants.{LineError}
use Rattle.index_machine.specs.declared.events.Action.TheVariants.{LoadHeader}
use Rattle.index_machine.specs.Conditions.{Valid}
use Rattle.index_rule.specs.Hands.{known, opening_of}
use Rattle.index_rule.proofs.Stepping.{valid_known}
use Rattle.sorted_group.specs.Located.{LoadsToLocate}
use Rattle.sorted_group.proofs.ArraySearches.{GoesOnSearching, by_loads, over_all, over_keys}
use Rattle.sorted_group.proofs.Found.{is_nowhere, is_there}
use Rattle.sorted_group.proofs.KeyReads.{index_fits}
use Rattle.sorted_group.proofs.locating.locate.Goals as goal
use Rattle.sorted_group.proofs.locating.locate.Goals.{After-index_in}

-- the loads of keys, and all loads
keys : (c : After-index_in) → GoesOnSearching c.args.board.now c.args.group c.line_error-error.new.hand
    c.index_in.new.hand
keys c =
    over_keys c.args.board.now c.args.group c.size-len.result c.line_error-error.result c.args.hand.now
    c.size-len.new.hand c.line_error-error.new.hand c.index_in.new.hand c.requires
    c.size-len.ensures.step c.line_error-error.ensures.step c.index_in.ensures.loads

on : (c : After-index_in) → GoesOnSearching c.args.board.now c.args.group c.args.hand.now
    c.index_in.new.hand
on c =
    over_all c.args.board.now c.args.group c.size-len.result c.line_error-error.result c.args.hand.now
    c.size-len.new.hand c.line_error-error.new.hand c.index_in.new.hand c.requires
    c.size-len.ensures.step c.line_error-error.ensures.step c.index_in.ensures.loads

loads : (c : After-index_in) → LoadsToLocate c.args.board.now c.args.group c.args.hand.now
    c.index_in.new.hand
loads c =
    by_loads c.args.board.now c.args.group c.size-len.result c.line_error-error.result c.args.hand.now
    c.size-len.new.hand c.line_error-error.new.hand c.index_in.new.hand c.requires
    c.size-len.ensures.step c.line_error-error.ensures.step c.index_in.ensures.loads
    c.size-len.ensures.size c.line_error-error.ensures.error

valid : (c : After-index_in) → Valid (opening_of c.args.board.now) (known c.line_error-error.new.hand)
valid c =
    valid_known c.args.board.now c.size-len.new.hand c.line_error-error.new.hand
    (LoadHeader c.args.group LineError c.line_error-error.result) c.size-len.ensures.can.of
    c.line_error-error.ensures.step

pub array_place-requires-clause-index : goal.array_place-requires-clause-index
array_place-requires-clause-index c =
    index_fits c.args.board.now c.args.group c.in-Ok.index c.line_error-error.new.hand
    c.line_error-error.ensures.can.of c.in-Ok.ensures.index.1.within

pub returns-in-Ok-clause-number : goal.returns-in-Ok-clause-number
returns-in-Ok-clause-number c =
    (on (goal.at.returns-in-Ok-clause-number c).After-index_in).number

pub returns-in-Ok-clause-can : goal.returns-in-Ok-clause-can
returns-in-Ok-clause-can c =
    (on (goal.at.returns-in-Ok-clause-can c).After-index_in).can

pub returns-in-Ok-clause-search : goal.returns-in-Ok-clause-search
returns-in-Ok-clause-search c =
    (on (goal.at.returns-in-Ok-clause-search c).After-index_in).search

pub returns-in-Ok-clause-array : goal.returns-in-Ok-clause-array
returns-in-Ok-clause-array c =
    (on (goal.at.returns-in-Ok-clause-array c).After-index_in).array

pub returns-in-Ok-clause-log : goal.returns-in-Ok-clause-log
returns-in-Ok-clause-log c =
    (on (goal.at.returns-in-Ok-clause-log c).After-index_in).log

pub returns-in-Ok-clause-steps : goal.returns-in-Ok-clause-steps
returns-in-Ok-clause-steps c =
    loads (goal.at.returns-in-Ok-clause-steps c).After-index_in

pub returns-in-Ok-clause-probes : goal.returns-in-Ok-clause-probes
returns-in-Ok-clause-probes c =
    rw (keys (goal.at.returns-in-Ok-clause-probes c).After-index_in).array.keys c.index_in.ensures.probes

pub returns-in-Err-clause-number : goal.returns-in-Err-clause-number
returns-in-Err-clause-number c =
    (on (goal.at.returns-in-Err-clause-number c).After-index_in).number

pub returns-in-Err-clause-can : goal.returns-in-Err-clause-can
returns-in-Err-clause-can c =
    (on (goal.at.returns-in-Err-clause-can c).After-index_in).can

pub returns-in-Err-clause-search : goal.returns-in-Err-clause-search
returns-in-Err-clause-search c =
    (on (goal.at.returns-in-Err-clause-search c).After-index_in).search

pub returns-in-Err-clause-array : goal.returns-in-Err-clause-array
returns-in-Err-clause-array c =
    (on (goal.at.returns-in-Err-clause-array c).After-index_in).array

pub returns-in-Err-clause-log : goal.returns-in-Err-clause-log
returns-in-Err-clause-log c =
    (on (goal.at.returns-in-Err-clause-log c).After-index_in).log

pub returns-in-Err-clause-steps : goal.returns-in-Err-clause-steps
returns-in-Err-clause-steps c =
    loads (goal.at.returns-in-Err-clause-steps c).After-index_in

pub returns-in-Err-clause-probes : goal.returns-in-Err-clause-probes
returns-in-Err-clause-probes c =
    rw (keys (goal.at.returns-in-Err-clause-probes c).After-index_in).array.keys c.index_in.ensures.probes

pub returns-in-Ok-clause-located : goal.returns-in-Ok-clause-located
returns-in-Ok-clause-located c =
    let d = (goal.at.returns-in-Ok-clause-located c).After-index_in in
    is_there c.args.board.now c.args.group c.args.key c.in-Ok.index c.line_error-error.new.hand
    c.index_in.new.hand (valid d) (keys d) c.array_place.result c.array_place.ensures
    c.in-Ok.ensures.index

pub returns-in-Err-clause-located : goal.returns-in-Err-clause-located
returns-in-Err-clause-located c =
    let d = (goal.at.returns-in-Err-clause-located c).After-index_in in
    is_nowhere c.args.board.now c.args.group c.args.key c.in-Err.index c.line_error-error.new.hand
    c.index_in.new.hand (valid d) (keys d) c.in-Err.ensures.index
