use Rattle.std.proofs.Common.{ℕ, refl, sym, subst, arith, ap, ◌∙◌}
use Rattle.word_layout.specs.declared.places.Part.TheVariants.{Link}
use Rattle.word_layout.specs.Places.{part_address}
use Rattle.index_machine.specs.declared.events.Action.TheVariants.{StorePrivate, PushFree, FailPush}
use Rattle.index_machine.specs.ObservedHeads.{IsUnobserved}
use Rattle.index_rule.specs.declared.rows.RetiredRow.{RetiredRow}
use Rattle.index_rule.specs.Hands.{Makes, known, opening_of}
use Rattle.index_rule.specs.OwnRows.{place_of_retired}
use Rattle.index_rule.proofs.Stepping.{still_holds, still_unobserved}
use Rattle.index_rule.proofs.HeldRows.{held_below, stores_part}
use Rattle.row_arena.proofs.giving.give.Goals as goal

pub link_word-link-requires : goal.link_word-link-requires
link_word-link-requires c =
    let below = held_below c.args.board.now c.args.hand.now _ c.requires.hand c.requires.held in
    let same = c.place.ensures in
    omega arith

pub store_private-requires-clause-held : goal.store_private-requires-clause-held
store_private-requires-clause-held c =
    still_holds c.args.board.now c.args.hand.now c.load_free-head.new.hand _ c.requires.hand
    c.load_free-head.ensures.step tt _ c.requires.held

pub swap_free_push-requires-clause-unobserved : goal.swap_free_push-requires-clause-unobserved
swap_free_push-requires-clause-unobserved c =
    let b = c.args.board.now in
    let h = c.args.hand.now in
    let k = c.load_free-head.new.hand in
    let l = c.store_private.new.hand in
    let first = c.load_free-head.ensures.step in
    let held = still_holds b h k _ c.requires.hand first tt _ c.requires.held in
    subst (λ (r : RetiredRow). IsUnobserved (opening_of b) (place_of_retired r) (known l))
    (sym c.store_private.ensures.row)
    (still_unobserved b k l _ first.of c.store_private.ensures.step _ tt held
    (still_unobserved b h k _ c.requires.hand first _ tt c.requires.held c.requires.unobserved))

pub returns-in-Done-clause-steps : goal.returns-in-Done-clause-steps
returns-in-Done-clause-steps c =
    let b = c.args.board.now in
    let place : ℕ = place_of_retired c.args.row in
    let head : ℕ = c.load_free-head.result in
    let k = c.load_free-head.new.hand in
    let l = c.store_private.new.hand in
    let m = c.swap_free_push.new.hand in
    let first = c.load_free-head.ensures.step in
    let second : Makes b k (StorePrivate place Link head) l =
    stores_part b k l _ place _ Link _ _ refl
    (c.link_word-link.ensures ∙ ap (λ (p : ℕ). part_address p Link) c.place.ensures) refl
    c.store_private.ensures.step
    in
    let third : Makes b l (PushFree place head) m =
    subst (λ (r : RetiredRow). Makes b l (PushFree (place_of_retired r) head) m)
    c.store_private.ensures.row c.in-Done.ensures.step
    in
    (head, (l, (k, (c.args.hand.now, refl, first), second), third))

pub returns-in-Found-clause-steps : goal.returns-in-Found-clause-steps
returns-in-Found-clause-steps c =
    let b = c.args.board.now in
    let place : ℕ = place_of_retired c.args.row in
    let head : ℕ = c.load_free-head.result in
    let k = c.load_free-head.new.hand in
    let l = c.store_private.new.hand in
    let m = c.swap_free_push.new.hand in
    let first = c.load_free-head.ensures.step in
    let second : Makes b k (StorePrivate place Link head) l =
    stores_part b k l _ place _ Link _ _ refl
    (c.link_word-link.ensures ∙ ap (λ (p : ℕ). part_address p Link) c.place.ensures) refl
    c.store_private.ensures.step
    in
    let third : Makes b l (FailPush place head c.in-Found.found) m =
    subst (λ (r : RetiredRow). Makes b l (FailPush (place_of_retired r) head c.in-Found.found) m)
    c.store_private.ensures.row c.in-Found.ensures.step.0
    in
    let held = still_holds b c.args.hand.now k _ c.requires.hand first tt place c.requires.held in (
      c.in-Found.ensures.row ∙ c.store_private.ensures.row,
      c.in-Found.ensures.step.1,
      still_holds b l m _ second.of third tt place
          (still_holds b k l _ first.of second tt place held),
      (l, (k, (c.args.hand.now, refl, first), second), third),
    )
