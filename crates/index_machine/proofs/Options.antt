-- Small facts on options and tests, and on names that may be forgotten.
use Rattle.std.proofs.Common.{◌≡◌, ◌≢◌, ℕ, Option, Some, None, true, false, sym, ap, ◌∙◌}
use mathlib.Core.Logic.{dite}
use native.Mathlib.Decide.{ℕ_discrete}
use Rattle.index_machine.proofs.Executions.{choice-other, choice-same}
use Rattle.index_machine.specs.Groups.{unless_named}

-- ---- options and tests ----

pub some_is : {a b : ℕ} → Some a ≡ Some b → a ≡ b
some_is e = cc

pub none_some : {X : Type 0} {a : ℕ} → None ≡ Some a → X
none_some e = cc

pub not_so : {X : Type 0} → false ≡ true → X
not_so e = cc

-- ---- names that may be forgotten ----

-- what is named after a group was begun anew was named before, and is another
pub named_before : (new : ℕ) (x : Option ℕ) (g : ℕ) → unless_named new x ≡ Some g →
    (g ≢ new) × (x ≡ Some g)
named_before new None g e = none_some e
named_before new (Some h) g e =
    dite (ℕ_discrete h new)
    (λ (z : h ≡ new). none_some (sym (choice-same h new None (Some h) z) ∙ e))
    (λ (n : h ≢ new).
    let same : h ≡ g = some_is (sym (choice-other h new None (Some h) n) ∙ e) in
    ((λ z. n (same ∙ z)), ap (λ (y : ℕ). Some y) same))

-- another than the group that is begun anew stays named
pub still_named : (new : ℕ) (x : Option ℕ) (g : ℕ) → g ≢ new → x ≡ Some g →
    unless_named new x ≡ Some g
still_named new x g n e = ap (unless_named new) e ∙ choice-other g new None (Some g) n
