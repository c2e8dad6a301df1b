-- The group that had a key before the install of a rebuild.
use Rattle.std.proofs.Common.{◌≡◌, ◌≢◌, ℕ, ◌⊎◌, inl, inr, ⊎_elim, Option, Some, None, Bool, true}
use Rattle.std.proofs.Common.{false}
use Rattle.std.proofs.Common.{refl, sym, ap, ◌∙◌, cond, eq-eqb, ne_eqb}
use Rattle.index_machine.specs.Execution.{Execution}
use Rattle.index_machine.specs.Groups.{phase}
use Rattle.index_machine.specs.KeyRanges.{group_of, predecessor}
use Rattle.index_machine.specs.Represents.{is_opened_to}
use Rattle.index_machine.specs.declared.opening.Opening.{Opening}
use Rattle.machine_chain.proofs.Cases.{opened_or_not}
use Rattle.machine_chain.specs.Chain.{IsOldOf, before_or, group_before}
use Rattle.index_machine.proofs.Options.{none_some, some_is}
use Rattle.word_layout.specs.declared.phase.Phase.{Phase}
use Rattle.word_layout.specs.declared.phase.Phase.TheVariants.{Frozen, Open, Opened}

opened_to_same : (f : ℕ) (x : Phase) → x ≡ Opened f → is_opened_to f x ≡ true
opened_to_same f x e = ap (is_opened_to f) e ∙ eq-eqb f f refl

opened_to_other : (f : ℕ) (x : Phase) → x ≢ Opened f → is_opened_to f x ≡ false
opened_to_other f Open n = refl
opened_to_other f Frozen n = refl
opened_to_other f (Opened i) n = ne_eqb i f (λ z. n (ap (λ (y : ℕ). Opened y) z))

or_old : (f : ℕ) (ph : ℕ → Phase) (x : Option ℕ) (g n : ℕ) → x ≡ Some g → ph g ≡ Opened f →
    before_or f ph x n ≡ g
or_old f ph x g n e at =
    ap (λ (y : Option ℕ). before_or f ph y n) e
    ∙ ap (λ (w : Bool). cond w g n) (opened_to_same f (ph g) at)

or_new : (f : ℕ) (ph : ℕ → Phase) (x : Option ℕ) (n : ℕ) →
    ((g : ℕ) → x ≡ Some g → ph g ≡ Opened f → ⊥) → before_or f ph x n ≡ n
or_new f ph None n nope = refl
or_new f ph (Some g) n nope =
    ap (λ (w : Bool). cond w g n) (opened_to_other f (ph g) (λ at. nope g refl at))

pub before_is : (o : Opening) (f k g : ℕ) (t : Execution) → IsOldOf o f k g t →
    group_before o f k t ≡ g
before_is o f k g t is =
    or_old f (λ h. phase h t) (predecessor o k t) g (group_of o k t) is.0 is.1

pub before_else : (o : Opening) (f k : ℕ) (t : Execution) → ((g : ℕ) → IsOldOf o f k g t → ⊥) →
    group_before o f k t ≡ group_of o k t
before_else o f k t nope =
    or_new f (λ h. phase h t) (predecessor o k t) (group_of o k t) (λ g e at. nope g (e, at))

-- whether an old group of the rebuild had the key
pub old_or_not : (o : Opening) (f k : ℕ) (t : Execution) →
    ((g : ℕ) × IsOldOf o f k g t) ⊎ ((g : ℕ) → IsOldOf o f k g t → ⊥)
old_or_not o f k t = go (predecessor o k t) refl
  where
    go : (x : Option ℕ) → predecessor o k t ≡ x →
        ((g : ℕ) × IsOldOf o f k g t) ⊎ ((g : ℕ) → IsOldOf o f k g t → ⊥)
    go None e = inr (λ g is. none_some (sym e ∙ is.0))
    go (Some p) e = ⊎_elim (λ (at : phase p t ≡ Opened f). inl (p, (e, at)))
        (λ (n : phase p t ≢ Opened f). inr (λ g is.
        let same : p ≡ g = some_is (sym e ∙ is.0) in
        n (ap (λ (y : ℕ). phase y t) same ∙ is.1)))
        (opened_or_not f (phase p t))
