use Rattle.std.proofs.Common.{◌≡◌, ℕ, ◌+◌, List, ◌++◌, take, drop, Some, sym, ap, ◌∙◌, take-append-drop, arith}
use Rattle.std.proofs.lemmas.Bool.{eqb-false}
use Rattle.std.proofs.lemmas.List.{drop-drop}
use Rattle.line_session.proofs.memory.SureSourceSource.read.Goals as goal

-- what was handed out and what is left are what was left
pub returns-clause-bytes : goal.returns-clause-bytes
returns-clause-bytes c =
    let inside = c.self.inside in
    let n = c.copy_front-count.result in
    let rest : List ℕ = drop inside.next inside.bytes.items in
    let read = c.split_at.ensures.back ∙ ap (λ (l : List ℕ). drop inside.next l) c.deref.ensures.value in
    let copied = c.copy_front-count.ensures.copied ∙ ap (λ (l : List ℕ). take n l) read in
    let whole : take n c.copy_front-count.new.into ++ drop (inside.next + n) inside.bytes.items ≡ rest =
    rw (copied, ← drop-drop n inside.next inside.bytes.items) (take-append-drop n rest) in
    let some = eqb-false _ _ (sym c.if-is_empty.ensures) in
    (omega (arith, c.self.invariant.some, c.copy_front-count.ensures.count), omega (arith, c.copy_front-count.ensures.count), rw (← c.self.view_is) (ap (λ (l : List ℕ). Some l) (sym whole)))
