use Rattle.std.proofs.Common.{◌≡◌, ◌≢◌, ℕ, ◌+◌, ◌-◌, inl, inr, refl, subst, arith}
use Rattle.word_layout.specs.declared.headers.HeaderWord.TheVariants.{Pivot}
use Rattle.index_machine.specs.declared.events.Action.TheVariants.{LoadHeader, LoadNext}
use Rattle.index_rule.specs.declared.board.Board.{Board}
use Rattle.index_rule.specs.declared.hand.Hand.{Hand}
use Rattle.index_rule.specs.Hands.{Makes, opening_of}
use Rattle.root_table.proofs.InTable.{few_groups}
use Rattle.root_table.proofs.Steps.{next_exists, stands_next, stands_on, walks_there}
use Rattle.root_table.proofs.walking.next_from.Goals as goal

-- the word names the group whose number is one less
named : (b : Board) (h m : Hand) (g word : ℕ) → word ≢ 0 → Makes b h (LoadNext g word) m →
    Makes b h (LoadNext g (word - 1 + 1)) m
named b h m g word some loads =
    let is : word ≡ word - 1 + 1 = omega (arith, some) in
    subst (λ (z : ℕ). Makes b h (LoadNext g z) m) is loads

pub returns-then-word-eq0-clause-there : goal.returns-then-word-eq0-clause-there
returns-then-word-eq0-clause-there c =
    stands_on c.args.board.now c.args.hand.now c.load_next-word.new.hand
    (LoadNext c.args.group c.load_next-word.result) tt (λ z. z) c.load_next-word.ensures.step c.args.group
    c.requires.there

pub returns-then-word-eq0-clause-steps : goal.returns-then-word-eq0-clause-steps
returns-then-word-eq0-clause-steps c =
    let b = c.args.board.now in
    let h = c.args.hand.now in
    let m = c.load_next-word.new.hand in
    let is = c.if-word-eq0.true in
    inl (
      h,
      refl,
      subst (λ (z : ℕ). Makes b h (LoadNext c.args.group z) m) is c.load_next-word.ensures.step,
    )

pub overflow_cast-next : goal.overflow_cast-next
overflow_cast-next c =
    let b = c.args.board.now in
    let h = c.args.hand.now in
    let m = c.load_next-word.new.hand in
    let word : ℕ = c.load_next-word.result in
    let below = next_exists b h m c.args.group (word - 1) c.requires.there c.requires.leads
    (named b h m c.args.group word c.if-word-eq0.false c.load_next-word.ensures.step) in
    let few = few_groups (opening_of b) in
    omega (arith, below, few)

pub load_header-pivot-requires-clause-group : goal.load_header-pivot-requires-clause-group
load_header-pivot-requires-clause-group c =
    let b = c.args.board.now in
    let h = c.args.hand.now in
    let m = c.load_next-word.new.hand in
    let word : ℕ = c.load_next-word.result in
    next_exists b h m c.args.group (word - 1) c.requires.there c.requires.leads
    (named b h m c.args.group word c.if-word-eq0.false c.load_next-word.ensures.step)

pub load_header-pivot-requires-clause-may : goal.load_header-pivot-requires-clause-may
load_header-pivot-requires-clause-may c =
    let b = c.args.board.now in
    let h = c.args.hand.now in
    let m = c.load_next-word.new.hand in
    let word : ℕ = c.load_next-word.result in
    let loads = named b h m c.args.group word c.if-word-eq0.false c.load_next-word.ensures.step in
    walks_there b (word - 1) h m (LoadNext c.args.group (word - 1 + 1))
    (stands_next b h m c.args.group (word - 1) c.requires.there c.requires.leads loads)
    c.requires.there.call loads

pub returns-then-key-pivot-clause-there : goal.returns-then-key-pivot-clause-there
returns-then-key-pivot-clause-there c =
    let b = c.args.board.now in
    let h = c.args.hand.now in
    let m = c.load_next-word.new.hand in
    let word : ℕ = c.load_next-word.result in
    stands_on b m c.load_header-pivot.new.hand (LoadHeader (word - 1) Pivot c.load_header-pivot.result) tt
    (λ z. z) c.load_header-pivot.ensures.step c.args.group
    (stands_on b h m (LoadNext c.args.group word) tt (λ z. z) c.load_next-word.ensures.step c.args.group
    c.requires.there)

pub returns-then-key-pivot-clause-steps : goal.returns-then-key-pivot-clause-steps
returns-then-key-pivot-clause-steps c =
    let b = c.args.board.now in
    let h = c.args.hand.now in
    let m = c.load_next-word.new.hand in
    let word : ℕ = c.load_next-word.result in
    inr (
      word - 1,
      c.load_header-pivot.result,
      c.if-key-pivot.true,
      (
        m,
        (h, refl, named b h m c.args.group word c.if-word-eq0.false c.load_next-word.ensures.step),
        c.load_header-pivot.ensures.step,
      ),
    )

pub returns-else-key-pivot-clause-there : goal.returns-else-key-pivot-clause-there
returns-else-key-pivot-clause-there c =
    let b = c.args.board.now in
    let h = c.args.hand.now in
    let m = c.load_next-word.new.hand in
    let word : ℕ = c.load_next-word.result in
    stands_on b m c.load_header-pivot.new.hand (LoadHeader (word - 1) Pivot c.load_header-pivot.result) tt
    (λ z. z) c.load_header-pivot.ensures.step c.args.group
    (stands_on b h m (LoadNext c.args.group word) tt (λ z. z) c.load_next-word.ensures.step c.args.group
    c.requires.there)

pub returns-else-key-pivot-clause-next : goal.returns-else-key-pivot-clause-next
returns-else-key-pivot-clause-next c =
    let b = c.args.board.now in
    let h = c.args.hand.now in
    let m = c.load_next-word.new.hand in
    let word : ℕ = c.load_next-word.result in
    stands_on b m c.load_header-pivot.new.hand (LoadHeader (word - 1) Pivot c.load_header-pivot.result) tt
    (λ z. z) c.load_header-pivot.ensures.step (word - 1)
    (stands_next b h m c.args.group (word - 1) c.requires.there c.requires.leads
    (named b h m c.args.group word c.if-word-eq0.false c.load_next-word.ensures.step))

pub returns-else-key-pivot-clause-steps : goal.returns-else-key-pivot-clause-steps
returns-else-key-pivot-clause-steps c =
    let b = c.args.board.now in
    let h = c.args.hand.now in
    let m = c.load_next-word.new.hand in
    let word : ℕ = c.load_next-word.result in
    let most = c.if-key-pivot.false in (
      c.load_header-pivot.result,
      omega (arith, most),
      (
        m,
        (h, refl, named b h m c.args.group word c.if-word-eq0.false c.load_next-word.ensures.step),
        c.load_header-pivot.ensures.step,
      ),
    )
