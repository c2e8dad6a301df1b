use Rattle.std.proofs.Common.{◌≡◌, ◌≡◌, ◌+◌, ℕ, false, refl, arith, ap, ◌∙◌}
use Rattle.word_layout.specs.declared.places.Part.TheVariants.{Key, Value, State}
use Rattle.word_layout.specs.declared.limits.Limits.{Limits}
use Rattle.word_layout.specs.declared.state.State.TheVariants.{Direct}
use Rattle.word_layout.specs.Layout.{limits_of}
use Rattle.word_layout.specs.Places.{part_address}
use Rattle.word_layout.specs.State.{word_of_state}
use Rattle.index_machine.specs.declared.events.Action.TheVariants.{StorePrivate}
use Rattle.index_rule.specs.Hands.{Makes, opening_of}
use Rattle.index_rule.specs.OwnRows.{place_of_private}
use Rattle.index_rule.proofs.Stepping.{still_holds, still_may_leave, still_reading}
use Rattle.row_arena.specs.Taking.{first_state}
use Rattle.index_rule.proofs.HeldRows.{held_below, stored_word, stores_part, other_word}
use Rattle.row_arena.proofs.taking.fill.Goals as goal

pub value_word-requires : goal.value_word-requires
value_word-requires c =
    let below = held_below c.args.board.now c.args.hand.now _ c.requires.hand c.requires.held in
    let same = c.place-place.ensures in
    omega arith

pub state_word-requires : goal.state_word-requires
state_word-requires c =
    let below = held_below c.args.board.now c.args.hand.now _ c.requires.hand c.requires.held in
    let same = c.place-place.ensures in
    omega arith

pub returns-clause-reading : goal.returns-clause-reading
returns-clause-reading c =
    let b = c.args.board.now in
    let first = c.store_private.ensures.step in
    let second = c.store_private-2.ensures.step in
    let k = c.store_private.new.hand in
    let l = c.store_private-2.new.hand in
    still_reading b l c.store_private-3.new.hand _ second.of
    c.store_private-3.ensures.step (λ _. refl)
    (still_reading b k l _ first.of second (λ _. refl)
    (still_reading b c.args.hand.now k _ c.requires.hand first (λ _. refl)
    c.requires.reading))

abbrev first_word : Limits → ℕ
first_word l = word_of_state (Direct l.first_version false false)

pub returns-clause-filled : goal.returns-clause-filled
returns-clause-filled c =
    let b = c.args.board.now in
    let place : ℕ = place_of_private c.args.row.now in
    let value : ℕ = c.args.value in
    let h = c.args.hand.now in
    let k = c.store_private.new.hand in
    let l = c.store_private-2.new.hand in
    let m = c.store_private-3.new.hand in
    let same : c.place-place.result ≡ place + 0 = let e = c.place-place.ensures in omega arith in
    let first : Makes b h (StorePrivate place Key c.args.key) k =
    stores_part b h k _ place _ Key _ _ refl same refl c.store_private.ensures.step
    in
    let second : Makes b k (StorePrivate place Value value) l =
    stores_part b k l _ place _ Value _ _ (ap place_of_private c.store_private.ensures.row)
    (c.value_word.ensures ∙ ap (λ (p : ℕ). part_address p Value) c.place-place.ensures) refl
    c.store_private-2.ensures.step
    in
    let third : Makes b l (StorePrivate place State (first_state (opening_of b))) m =
    stores_part b l m _ place _ State _ _
    (ap place_of_private (c.store_private-2.ensures.row ∙ c.store_private.ensures.row))
    (c.state_word.ensures ∙ ap (λ (p : ℕ). part_address p State) c.place-place.ensures)
    (c.word.ensures ∙ ap first_word (c.limits-version.ensures.limits ∙ ap limits_of c.layout.ensures))
    c.store_private-3.ensures.step
    in
    let held_first = still_holds b h k _ c.requires.hand first tt place c.requires.held in
    let held_second = still_holds b k l _ first.of second tt place held_first in
    record {
      steps = (l, (k, (h, refl, first), second), third);
      held = still_holds b l m _ second.of third tt place held_second;
      key_word = other_word b l m place State _ second.of third held_second Key (omega arith)
          ∙ (other_word b k l place Value _ first.of second held_first Key (omega arith)
          ∙ stored_word b h k place Key _ c.requires.hand first c.requires.held);
      value_word = other_word b l m place State _ second.of third held_second Value (omega arith)
          ∙ stored_word b k l place Value _ first.of second held_first;
      state_word = stored_word b l m place State _ second.of third held_second;
    }

pub returns-clause-may_leave : goal.returns-clause-may_leave
returns-clause-may_leave c may =
    let b = c.args.board.now in
    let first = c.store_private.ensures.step in
    let second = c.store_private-2.ensures.step in
    let k = c.store_private.new.hand in
    let l = c.store_private-2.new.hand in
    still_may_leave b l c.store_private-3.new.hand _ second.of c.store_private-3.ensures.step
    (λ _. refl) (λ z. absurd z)
    (still_may_leave b k l _ first.of second (λ _. refl) (λ z. absurd z)
    (still_may_leave b c.args.hand.now k _ c.requires.hand first (λ _. refl) (λ z. absurd z) may))
