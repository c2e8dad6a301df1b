use Rattle.std.proofs.Common.{ℕ, Bool, sym, ap, ◌∙◌}
use Rattle.word_layout.specs.State.{word_of_state}
use Rattle.word_layout.specs.declared.state.State.TheVariants.{Direct}
use Rattle.record_cell.proofs.finding.Condition.read.Goals as goal

pub returns-then-says_locked : goal.returns-then-says_locked
returns-then-says_locked c =
    let v : ℕ = c.requires.0 in
    let r : Bool = c.requires.2 in
    let locked = sym (c.says_locked.ensures v c.requires.1 r (sym c.requires.3))
    ∙ c.if-says_locked.true in
    (v, r, c.requires.3 ∙ ap (λ (z : Bool). word_of_state (Direct v z r)) locked)

pub returns-then-says_removed : goal.returns-then-says_removed
returns-then-says_removed c =
    let v : ℕ = c.requires.0 in
    let l : Bool = c.requires.1 in
    let r : Bool = c.requires.2 in
    let unlocked = sym (c.says_locked.ensures v l r (sym c.requires.3)) ∙ c.if-says_locked.false in
    let removed = sym (c.says_removed.ensures v l r (sym c.requires.3)) ∙ c.if-says_removed.true in
    let version = sym (c.version_in-version.ensures v l r (sym c.requires.3)) in
    c.requires.3
    ∙ ap (λ (z : ℕ × Bool × Bool). word_of_state (Direct z.0 z.1 z.2))
    (λ i. (version i, unlocked i, removed i))

pub returns-else-says_removed : goal.returns-else-says_removed
returns-else-says_removed c =
    let v : ℕ = c.requires.0 in
    let l : Bool = c.requires.1 in
    let r : Bool = c.requires.2 in
    let unlocked = sym (c.says_locked.ensures v l r (sym c.requires.3)) ∙ c.if-says_locked.false in
    let kept = sym (c.says_removed.ensures v l r (sym c.requires.3)) ∙ c.if-says_removed.false in
    let version = sym (c.version_in-version.ensures v l r (sym c.requires.3)) in
    c.requires.3
    ∙ ap (λ (z : ℕ × Bool × Bool). word_of_state (Direct z.0 z.1 z.2))
    (λ i. (version i, unlocked i, kept i))
