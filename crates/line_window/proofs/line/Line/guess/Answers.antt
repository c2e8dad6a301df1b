use Rattle.std.proofs.Common.{◌∙◌, sym, inl, inr}
use Rattle.line_window.proofs.Guesses.{guess-first, guess-last, guess-between}
use Rattle.line_window.proofs.line.Line.guess.Goals as goal
use Rattle.line_window.proofs.line.Line.guess.Goals.{then-self-lt2-via-then-self-lt2, then-self-lt2-via-else-self-lt2+then-key-self}

pub returns-then-self-lt2 : goal.returns-then-self-lt2
returns-then-self-lt2 c =
    rw (← c.self.view_is) (
    sym (
    guess-first _ _ _ _ (
    elim c.then-self-lt2.branch [
      | then-self-lt2-via-then-self-lt2 w ↦ inl w.if-self-lt2.true
      | then-self-lt2-via-else-self-lt2+then-key-self w ↦ inr w.if-key-self.true
    ]
    )
    )
    )

pub returns-then-self-key : goal.returns-then-self-key
returns-then-self-key c =
    rw (← c.self.view_is) (sym (guess-last _ _ _ _ c.if-self-lt2.false (c.self.invariant.more c.if-self-lt2.false) c.if-self-key.true))

pub returns : goal.returns
returns c =
    rw (← c.self.view_is) (c.scaled.ensures ∙ sym (guess-between _ _ _ _ c.if-self-lt2.false c.if-key-self.false c.if-self-key.false))
