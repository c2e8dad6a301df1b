use Rattle.std.proofs.Common.{◌≡◌, ◌≢◌, ℕ, [], ◌∷◌, refl, sym, ap, ◌∙◌, subst}
use Rattle.word_layout.specs.Words.{FreeHead}
use Rattle.index_machine.specs.declared.events.Action.TheVariants.{LoadFree, LoadFreeLink, PopFree}
use Rattle.index_machine.specs.Execution.{Execution}
use Rattle.index_machine.specs.Words.{word}
use Rattle.index_rule.specs.Hands.{Makes, MakesAll, known, opening_of}
use Rattle.index_rule.proofs.Stepping.{known_is, still_holds_none, still_may_leave, still_reading}
use Rattle.index_rule.proofs.Stepping.{valid_after, valid_known}
use Rattle.row_arena.proofs.UsedRows.{no_free_row}
use Rattle.row_arena.proofs.taking.take.Goals as goal

pub returns-then-head-eq0-clause-steps : goal.returns-then-head-eq0-clause-steps
returns-then-head-eq0-clause-steps c = (
  c.args.hand.now,
  refl,
  subst (λ (n : ℕ). Makes c.args.board.now c.args.hand.now (LoadFree n) c.load_free-head.new.hand)
      c.if-head-eq0.true c.load_free-head.ensures.step,
)

pub returns-then-head-eq0-clause-holds : goal.returns-then-head-eq0-clause-holds
returns-then-head-eq0-clause-holds c =
    still_holds_none c.args.board.now c.args.hand.now c.load_free-head.new.hand _ c.requires.hand
    c.load_free-head.ensures.step tt c.requires.none

pub returns-then-head-eq0-clause-used_up : goal.returns-then-head-eq0-clause-used_up
returns-then-head-eq0-clause-used_up c empty =
    let b = c.args.board.now in
    let o = opening_of b in
    let h = c.args.hand.now in
    let k = c.load_free-head.new.hand in
    let head : ℕ = c.load_free-head.result in
    let of = c.requires.hand in
    let loads : Makes b h (LoadFree head) k = c.load_free-head.ensures.step in
    let word_is : word o (known k) FreeHead ≡ 0 =
    ap (λ (t : Execution). word o t FreeHead) (known_is b h k (LoadFree head) of loads)
    ∙ ((valid_after b h k (LoadFree head) of loads).0.1 ∙ c.if-head-eq0.true)
    in
    no_free_row o (known k) k.number (valid_known b h k (LoadFree head) of loads)
    (still_reading b h k (LoadFree head) of loads (λ _. refl) c.requires.reading).caller word_is
    (still_holds_none b h k (LoadFree head) of loads tt c.requires.none)

pub swap_free_pop-requires-clause-none : goal.swap_free_pop-requires-clause-none
swap_free_pop-requires-clause-none c =
    let b = c.args.board.now in
    let first = c.load_free-head.ensures.step in
    let k = c.load_free-head.new.hand in
    still_holds_none b k c.load_free_link-next.new.hand _ first.of c.load_free_link-next.ensures tt
    (still_holds_none b c.args.hand.now k _ c.requires.hand first tt c.requires.none)

pub returns-in-Done-clause-steps : goal.returns-in-Done-clause-steps
returns-in-Done-clause-steps c =
    subst
    (λ (p : ℕ). (p ≢ 0) × ((next : ℕ) × MakesAll c.args.board.now c.args.hand.now
    (PopFree p next ∷ LoadFreeLink p next ∷ LoadFree p ∷ []) c.swap_free_pop.new.hand))
    (sym c.of.ensures) (
      c.if-head-eq0.false,
      (
        c.load_free_link-next.result,
        (
          c.load_free_link-next.new.hand,
          (
            c.load_free-head.new.hand,
            (c.args.hand.now, refl, c.load_free-head.ensures.step),
            c.load_free_link-next.ensures,
          ),
          c.in-Done.ensures,
        ),
      ),
    )

pub returns-in-Found-clause-steps : goal.returns-in-Found-clause-steps
returns-in-Found-clause-steps c = (
  c.if-head-eq0.false,
  c.in-Found.ensures.1,
  (
    c.load_free_link-next.result,
    (
      c.load_free_link-next.new.hand,
      (
        c.load_free-head.new.hand,
        (c.args.hand.now, refl, c.load_free-head.ensures.step),
        c.load_free_link-next.ensures,
      ),
      c.in-Found.ensures.0,
    ),
  ),
)

pub returns-in-Found-clause-holds : goal.returns-in-Found-clause-holds
returns-in-Found-clause-holds c =
    let b = c.args.board.now in
    let first = c.load_free-head.ensures.step in
    let second = c.load_free_link-next.ensures in
    let k = c.load_free-head.new.hand in
    let l = c.load_free_link-next.new.hand in
    still_holds_none b l c.swap_free_pop.new.hand _ second.of c.in-Found.ensures.0 tt
    (still_holds_none b k l _ first.of second tt
    (still_holds_none b c.args.hand.now k _ c.requires.hand first tt c.requires.none))

pub returns-then-head-eq0-clause-may_leave : goal.returns-then-head-eq0-clause-may_leave
returns-then-head-eq0-clause-may_leave c may =
    still_may_leave c.args.board.now c.args.hand.now c.load_free-head.new.hand _ c.requires.hand
    c.load_free-head.ensures.step (λ _. refl) (λ z. absurd z) may

pub returns-in-Done-clause-may_leave : goal.returns-in-Done-clause-may_leave
returns-in-Done-clause-may_leave c may =
    let b = c.args.board.now in
    let first = c.load_free-head.ensures.step in
    let second = c.load_free_link-next.ensures in
    let k = c.load_free-head.new.hand in
    let l = c.load_free_link-next.new.hand in
    still_may_leave b l c.swap_free_pop.new.hand _ second.of c.in-Done.ensures (λ _. refl)
    (λ z. absurd z)
    (still_may_leave b k l _ first.of second (λ _. refl) (λ z. absurd z)
    (still_may_leave b c.args.hand.now k _ c.requires.hand first (λ _. refl) (λ z. absurd z) may))

pub returns-in-Found-clause-may_leave : goal.returns-in-Found-clause-may_leave
returns-in-Found-clause-may_leave c may =
    let b = c.args.board.now in
    let first = c.load_free-head.ensures.step in
    let second = c.load_free_link-next.ensures in
    let k = c.load_free-head.new.hand in
    let l = c.load_free_link-next.new.hand in
    still_may_leave b l c.swap_free_pop.new.hand _ second.of c.in-Found.ensures.0 (λ _. refl)
    (λ z. absurd z)
    (still_may_leave b k l _ first.of second (λ _. refl) (λ z. absurd z)
    (still_may_leave b c.args.hand.now k _ c.requires.hand first (λ _. refl) (λ z. absurd z) may))
