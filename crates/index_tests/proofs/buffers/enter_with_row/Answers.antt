use Rattle.std.proofs.Common.{subst, sym}
use Rattle.index_rule.specs.declared.rows.PrivateRow.{PrivateRow}
use Rattle.index_rule.specs.OwnRows.{place_of_private}
use Rattle.index_tests.specs.Buffers.{HasRowFor}
use Rattle.index_tests.proofs.Linking.{has_row_for}
use Rattle.index_tests.proofs.buffers.enter_with_row.Goals as goal

pub returns-clause-row : goal.returns-clause-row
returns-clause-row g c =
    let b = c.args.board.now in
    subst (λ (r : PrivateRow). HasRowFor b c.args.key (place_of_private r) c.fill.new.hand)
    (sym c.fill.ensures.row)
    (has_row_for b c.take_within.new.hand c.fill.new.hand (place_of_private c.in-Some.row)
    c.args.key _ c.fill.ensures.filled)
