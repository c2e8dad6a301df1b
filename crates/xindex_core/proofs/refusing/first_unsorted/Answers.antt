use Rattle.std.proofs.Common.{arith}
use Rattle.xindex_core.proofs.OpenedRows.{rising_from}
use Rattle.xindex_core.proofs.refusing.first_unsorted.Goals as goal

pub returns : goal.returns
returns c =
    let over = c.loop-at-test.false in
    rising_from c.args.rows.now (λ i lt. c.loop-at.invariant i (omega arith))
