use Rattle.std.proofs.Common.{inl, inr}
use Rattle.std.proofs.lemmas.Bool.{eqb-true, eq-eqb}
use Rattle.wire_commands.proofs.words.is_blank.Goals as goal

pub returns-then-byte-eq32 : goal.returns-then-byte-eq32
returns-then-byte-eq32 c = (λ _. inl c.if-byte-eq32.true, λ _. eq-eqb _ _ c.if-byte-eq32.true)

pub returns-else-byte-eq32 : goal.returns-else-byte-eq32
returns-else-byte-eq32 c = (
  λ is. inr (eqb-true _ _ is),
  λ blank. elim blank [
    | inl space ↦ absurd (c.if-byte-eq32.false space)
    | inr tab ↦ eq-eqb _ _ tab
  ],
)
