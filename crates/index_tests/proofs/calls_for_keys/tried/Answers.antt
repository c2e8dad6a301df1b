use Rattle.index_tests.proofs.calls_for_keys.tried.Goals as goal

pub get-requires : goal.get-requires
get-requires c = c.requires.call

pub put-requires : goal.put-requires
put-requires c = record { call = c.requires.call; spare = c.requires.row }

pub remove-requires : goal.remove-requires
remove-requires c = c.requires.call

pub returns-in-Get : goal.returns-in-Get
returns-in-Get c =
    record { call = c.get.ensures.call; row = c.get.ensures.rows c.args.spare.now c.requires.row }

pub returns-in-Put : goal.returns-in-Put
returns-in-Put c = record { call = c.put.ensures.call; row = c.put.ensures.spare }

pub returns-in-Remove : goal.returns-in-Remove
returns-in-Remove c =
    record { call = c.remove.ensures.call; row = c.remove.ensures.rows c.args.spare.now c.requires.row }
