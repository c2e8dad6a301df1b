use Rattle.std.proofs.Common.{◌∷◌, ◌++◌, [], List, refl, sym, subst, ◌∙◌}
use Rattle.std.specs.Prelude.{option_to_list}
use Rattle.std.specs.Slots.{slots_items}
use Rattle.index_rule.specs.declared.hand.Hand.{Hand}
use Rattle.index_rule.specs.Hands.{opening_of}
use Rattle.index_rule.specs.Ended.{AreOf, LeavesInMemory}
use Rattle.index_rule.proofs.Ending.{all_snoc, are_of, are_of_front, ended, includes_itself}
use Rattle.index_rule.proofs.Ending.{popped_last, popped_of}
use Rattle.index_rule.proofs.board.Board.end.Goals as goal

pub join_all-requires-clause-table : goal.join_all-requires-clause-table
join_all-requires-clause-table c =
    (popped_of c.args.self c.args.hands.items c.pop.new.self.items c.pop.result
    c.unwrap-seat.result c.requires.outside c.pop.ensures.items c.unwrap-seat.ensures).table

pub join_all-requires-clause-opened : goal.join_all-requires-clause-opened
join_all-requires-clause-opened c =
    (popped_of c.args.self c.args.hands.items c.pop.new.self.items c.pop.result
    c.unwrap-seat.result c.requires.outside c.pop.ensures.items c.unwrap-seat.ensures).opened

pub join_all-requires-clause-hands : goal.join_all-requires-clause-hands
join_all-requires-clause-hands c =
    are_of_front c.args.self c.pop.new.self.items (option_to_list c.pop.result)
    (subst (AreOf c.args.self) c.pop.ensures.items (are_of c.args.self _ c.requires.outside))

pub close_with-requires : goal.close_with-requires
close_with-requires c =
    c.join_all.ensures.table
    ∙ (popped_of c.args.self c.args.hands.items c.pop.new.self.items c.pop.result
    c.unwrap-seat.result c.requires.outside c.pop.ensures.items c.unwrap-seat.ensures).table

pub returns-clause-words : goal.returns-clause-words
returns-clause-words c =
    let b = c.args.self in
    let rest = c.pop.new.self.items in
    let h = c.unwrap-seat.result in
    let items = c.pop.ensures.items in
    let is = c.unwrap-seat.ensures in
    let of = popped_of b _ rest c.pop.result h c.requires.outside items is in
    let s = c.join_all.new.seat in
    subst
    (λ (z : List Hand). LeavesInMemory (opening_of b) z (slots_items c.close_with.result.words))
    (sym (popped_last _ rest c.pop.result h items is))
    (ended (opening_of b) s.id s.me.0 (rest ++ h ∷ []) _ _ (c.join_all.ensures.opened ∙ of.opened)
    (all_snoc s.me.0 rest h c.join_all.ensures.joined
    (c.join_all.ensures.kept h (includes_itself h _ refl)))
    c.close_with.ensures.values.2)
