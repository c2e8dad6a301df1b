use Rattle.std.proofs.Common.{◌≡◌, ◌≢◌, ℕ, ◌+◌, ◌-◌, inl, inr, refl, subst, sym, arith}
use Rattle.word_layout.specs.declared.headers.HeaderWord.TheVariants.{Pivot}
use Rattle.index_machine.specs.declared.events.Action.TheVariants.{LoadHeader, LoadNext}
use Rattle.index_rule.specs.declared.board.Board.{Board}
use Rattle.index_rule.specs.declared.hand.Hand.{Hand}
use Rattle.index_rule.specs.Hands.{Makes, known, opening_of}
use Rattle.root_table.specs.Ends.{EndsKeys, EndsNewKeys}
use Rattle.root_table.proofs.InTable.{few_groups}
use Rattle.root_table.proofs.KeysEnd.{ends_before_next, ends_new_before_next, ends_new_with_part, ends_with_part}
use Rattle.root_table.proofs.KeysEnd.{keys_lead, pivot_some}
use Rattle.root_table.proofs.Steps.{next_exists, stands_next, stands_on, walks_there}
use Rattle.root_table.proofs.ends.stretch_end.Goals as goal

-- the word names the group whose number is one less
names : (b : Board) (h m : Hand) (g word : ℕ) → word ≢ 0 → Makes b h (LoadNext g word) m →
    Makes b h (LoadNext g (word - 1 + 1)) m
names b h m g word some loads =
    let is : word ≡ word - 1 + 1 = omega (arith, some) in
    subst (λ (z : ℕ). Makes b h (LoadNext g z) m) is loads

-- or none
names_none : (b : Board) (h m : Hand) (g word : ℕ) → word ≡ 0 → Makes b h (LoadNext g word) m →
    Makes b h (LoadNext g 0) m
names_none b h m g word none loads = subst (λ (z : ℕ). Makes b h (LoadNext g z) m) none loads

pub returns-then-word-eq0-clause-there : goal.returns-then-word-eq0-clause-there
returns-then-word-eq0-clause-there c =
    stands_on c.args.board.now c.args.hand.now c.load_next-word.new.hand
    (LoadNext c.args.group c.load_next-word.result) tt (λ z. z) c.load_next-word.ensures.step c.args.group
    c.requires.there

pub returns-then-word-eq0-clause-steps : goal.returns-then-word-eq0-clause-steps
returns-then-word-eq0-clause-steps c =
    inl (
      c.last_key_beside.ensures,
      (
        c.args.hand.now,
        refl,
        names_none c.args.board.now c.args.hand.now c.load_next-word.new.hand c.args.group
            c.load_next-word.result c.if-word-eq0.true c.load_next-word.ensures.step,
      ),
    )

pub returns-then-word-eq0-clause-ends : goal.returns-then-word-eq0-clause-ends
returns-then-word-eq0-clause-ends c = λ key is.
    let b = c.args.board.now in
    let k = c.load_next-word.new.hand in
    subst (λ (end : ℕ). EndsKeys (opening_of b) c.args.group key end (known k)) (sym c.last_key_beside.ensures)
    (ends_with_part b c.args.hand.now k c.args.group key c.requires.there
    (names_none b c.args.hand.now k c.args.group c.load_next-word.result c.if-word-eq0.true
    c.load_next-word.ensures.step) is)

pub returns-then-word-eq0-clause-ends_new : goal.returns-then-word-eq0-clause-ends_new
returns-then-word-eq0-clause-ends_new c = λ old first key is.
    let b = c.args.board.now in
    let h = c.args.hand.now in
    let k = c.load_next-word.new.hand in
    subst (λ (end : ℕ). EndsNewKeys (opening_of b) old c.args.group key end (known h) (known k))
    (sym c.last_key_beside.ensures)
    (ends_new_with_part b h k c.args.group key c.requires.there
    (names_none b h k c.args.group c.load_next-word.result c.if-word-eq0.true c.load_next-word.ensures.step)
    old first is)

pub overflow_cast-word : goal.overflow_cast-word
overflow_cast-word c =
    let b = c.args.board.now in
    let h = c.args.hand.now in
    let m = c.load_next-word.new.hand in
    let word : ℕ = c.load_next-word.result in
    let below = next_exists b h m c.args.group (word - 1) c.requires.there
    (keys_lead b c.args.group h c.requires.there c.requires.keys)
    (names b h m c.args.group word c.if-word-eq0.false c.load_next-word.ensures.step) in
    let few = few_groups (opening_of b) in
    omega (arith, below, few)

pub load_header-requires-clause-group : goal.load_header-requires-clause-group
load_header-requires-clause-group c =
    let b = c.args.board.now in
    let h = c.args.hand.now in
    let word : ℕ = c.load_next-word.result in
    next_exists b h c.load_next-word.new.hand c.args.group (word - 1) c.requires.there
    (keys_lead b c.args.group h c.requires.there c.requires.keys)
    (names b h c.load_next-word.new.hand c.args.group word c.if-word-eq0.false c.load_next-word.ensures.step)

pub load_header-requires-clause-may : goal.load_header-requires-clause-may
load_header-requires-clause-may c =
    let b = c.args.board.now in
    let h = c.args.hand.now in
    let m = c.load_next-word.new.hand in
    let word : ℕ = c.load_next-word.result in
    let loads = names b h m c.args.group word c.if-word-eq0.false c.load_next-word.ensures.step in
    walks_there b (word - 1) h m (LoadNext c.args.group (word - 1 + 1))
    (stands_next b h m c.args.group (word - 1) c.requires.there
    (keys_lead b c.args.group h c.requires.there c.requires.keys) loads)
    c.requires.there.call loads

pub overflow_sub-result : goal.overflow_sub-result
overflow_sub-result c =
    let b = c.args.board.now in
    let h = c.args.hand.now in
    let m = c.load_next-word.new.hand in
    let word : ℕ = c.load_next-word.result in
    pivot_some b h m c.load_header.new.hand c.args.group (word - 1) c.load_header.result c.requires.there
    (names b h m c.args.group word c.if-word-eq0.false c.load_next-word.ensures.step)
    c.load_header.ensures.step c.requires.keys

pub returns-clause-there : goal.returns-clause-there
returns-clause-there c =
    let b = c.args.board.now in
    let h = c.args.hand.now in
    let m = c.load_next-word.new.hand in
    let word : ℕ = c.load_next-word.result in
    stands_on b m c.load_header.new.hand (LoadHeader (word - 1) Pivot c.load_header.result) tt (λ z. z)
    c.load_header.ensures.step c.args.group
    (stands_on b h m (LoadNext c.args.group word) tt (λ z. z) c.load_next-word.ensures.step c.args.group
    c.requires.there)

pub returns-clause-steps : goal.returns-clause-steps
returns-clause-steps c =
    let b = c.args.board.now in
    let h = c.args.hand.now in
    let m = c.load_next-word.new.hand in
    let k = c.load_header.new.hand in
    let word : ℕ = c.load_next-word.result in
    let pivot : ℕ = c.load_header.result in
    let loads = names b h m c.args.group word c.if-word-eq0.false c.load_next-word.ensures.step in
    let some = pivot_some b h m k c.args.group (word - 1) pivot c.requires.there loads
    c.load_header.ensures.step c.requires.keys in
    let is : pivot ≡ pivot - 1 + 1 = omega (arith, some) in
    inr (
      word - 1,
      (
        m,
        (h, refl, loads),
        subst (λ (z : ℕ). Makes b m (LoadHeader (word - 1) Pivot z) k) is c.load_header.ensures.step,
      ),
    )

pub returns-clause-ends : goal.returns-clause-ends
returns-clause-ends c = λ key is.
    let b = c.args.board.now in
    let h = c.args.hand.now in
    let m = c.load_next-word.new.hand in
    let word : ℕ = c.load_next-word.result in
    ends_before_next b h m c.load_header.new.hand c.args.group (word - 1) c.load_header.result key
    c.requires.there (names b h m c.args.group word c.if-word-eq0.false c.load_next-word.ensures.step)
    c.load_header.ensures.step is

pub returns-clause-ends_new : goal.returns-clause-ends_new
returns-clause-ends_new c = λ old first key is.
    let b = c.args.board.now in
    let h = c.args.hand.now in
    let m = c.load_next-word.new.hand in
    let word : ℕ = c.load_next-word.result in
    ends_new_before_next b h m c.load_header.new.hand c.args.group (word - 1) c.load_header.result key
    c.requires.there (names b h m c.args.group word c.if-word-eq0.false c.load_next-word.ensures.step)
    c.load_header.ensures.step old first is
