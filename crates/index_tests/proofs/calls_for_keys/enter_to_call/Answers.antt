use Rattle.index_tests.proofs.calls_for_keys.enter_to_call.Goals as goal

pub enter-requires-clause-caller : goal.enter-requires-clause-caller
enter-requires-clause-caller c = c.requires.caller

pub enter-requires-clause-rests : goal.enter-requires-clause-rests
enter-requires-clause-rests c = c.requires.rests.rests

pub returns : goal.returns
returns c =
    let inside = c.enter.ensures.inside in
    record {
      call = record {
        of = inside.of;
        reading = record { caller = inside.may_leave.caller; inside = inside.may_leave.inside };
        holds_none = inside.may_leave.holds_none;
      };
      row = c.enter.ensures.none c.requires.rests.none;
    }
