use Rattle.std.proofs.Common.{ℕ, sym, subst, arith}
use Rattle.index_machine.specs.Words.{shape}
use Rattle.index_rule.specs.declared.rows.PrivateRow.{PrivateRow}
use Rattle.index_rule.specs.Buffers.{Links, MayInsertRow}
use Rattle.index_rule.specs.Hands.{known, opening_of}
use Rattle.index_rule.specs.OwnRows.{place_of_private}
use Rattle.index_rule.proofs.HeldRows.{held_below}
use Rattle.delta_buffer.proofs.Linking.{answer_search, answer_steps, answer_tells, fits_each}
use Rattle.delta_buffer.proofs.Linking.{may_insert_row, row_ahead_of, stores_link}
use Rattle.delta_buffer.proofs.inserting.insert.Goals as goal

pub link_word-link-requires : goal.link_word-link-requires
link_word-link-requires c =
    let below = held_below c.args.board.now c.args.hand.now _ c.requires.search.call.of
    c.requires.may.filled.held in
    let same = c.place.ensures in
    omega arith

pub store_private-requires-clause-fits : goal.store_private-requires-clause-fits
store_private-requires-clause-fits c =
    fits_each (shape (opening_of c.args.board.now)) _ c.args.next (row_ahead_of c.args.board.now c.args.hand.now c.args.lane.group _
    c.args.next c.requires.search.call.of c.requires.may.between.2)

pub swap_link-requires-clause-may : goal.swap_link-requires-clause-may
swap_link-requires-clause-may c =
    let b = c.args.board.now in
    let h = c.args.hand.now in
    let n = c.store_private.new.hand in
    let place : ℕ = place_of_private c.args.row in
    let next : ℕ = c.args.next in
    let stores = stores_link b h n place _ _ next c.place.ensures c.link_word-link.ensures
    c.store_private.ensures.step in
    subst (λ (r : PrivateRow). MayInsertRow (opening_of b) n.number c.args.lane.group
    c.args.lane.number (place_of_private r) c.args.before next (known n)) (sym c.store_private.ensures.row)
    (may_insert_row b c.args.lane.group c.args.lane.number place c.args.before next h n c.requires.search c.requires.may
    stores)

pub returns-clause-search : goal.returns-clause-search
returns-clause-search c =
    let b = c.args.board.now in
    let h = c.args.hand.now in
    let n = c.store_private.new.hand in
    let k = c.swap_link.new.hand in
    let place : ℕ = place_of_private c.args.row in
    let next : ℕ = c.args.next in
    let stores = stores_link b h n place _ _ next c.place.ensures c.link_word-link.ensures
    c.store_private.ensures.step in
    answer_search b c.args.lane.group c.args.lane.number place c.args.before next h n k c.requires.search c.requires.may
    stores c.swap_link.result
    (subst (λ (r : PrivateRow). Links b n c.args.lane.group c.args.lane.number
    (place_of_private r) c.args.before next
    c.swap_link.result k) c.store_private.ensures.row c.swap_link.ensures)

pub returns-clause-steps : goal.returns-clause-steps
returns-clause-steps c =
    let b = c.args.board.now in
    let h = c.args.hand.now in
    let n = c.store_private.new.hand in
    let k = c.swap_link.new.hand in
    let place : ℕ = place_of_private c.args.row in
    let next : ℕ = c.args.next in
    let stores = stores_link b h n place _ _ next c.place.ensures c.link_word-link.ensures
    c.store_private.ensures.step in
    answer_steps b c.args.lane.group c.args.lane.number place c.args.before next h n k c.requires.search c.requires.may
    stores c.swap_link.result
    (subst (λ (r : PrivateRow). Links b n c.args.lane.group c.args.lane.number
    (place_of_private r) c.args.before next
    c.swap_link.result k) c.store_private.ensures.row c.swap_link.ensures)

pub returns-clause-tells : goal.returns-clause-tells
returns-clause-tells c =
    let b = c.args.board.now in
    let h = c.args.hand.now in
    let n = c.store_private.new.hand in
    let k = c.swap_link.new.hand in
    let place : ℕ = place_of_private c.args.row in
    let next : ℕ = c.args.next in
    let stores = stores_link b h n place _ _ next c.place.ensures c.link_word-link.ensures
    c.store_private.ensures.step in
    answer_tells b c.args.lane.group c.args.lane.number place c.args.before next h n k c.requires.search c.requires.may
    stores c.swap_link.result
    (subst (λ (r : PrivateRow). Links b n c.args.lane.group c.args.lane.number
    (place_of_private r) c.args.before next
    c.swap_link.result k) c.store_private.ensures.row c.swap_link.ensures)
