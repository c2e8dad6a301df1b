-- A phase word is stale where its group is out of use alone.
use Rattle.std.proofs.Common.{◌≡◌, ◌≢◌, ℕ, ◌⊎◌, inl, inr, ⊎_elim, Some, Bool, true, false, [], ◌∷◌}
use Rattle.std.proofs.Common.{◌++◌, cond, refl, sym, ap, ◌∙◌, subst}
use Rattle.std.specs.Prelude.{◌==◌}
use mathlib.Core.Logic.{dite}
use native.Mathlib.Decide.{ℕ_discrete}
use Rattle.index_machine.proofs.Executions.{choice-other, choice-same}
use Rattle.index_machine.specs.Conditions.{Allowed, Valid}
use Rattle.index_machine.specs.Execution.{Execution, event}
use Rattle.index_machine.specs.Groups.{phase}
use Rattle.index_machine.specs.KeyRanges.{successor}
use Rattle.index_machine.specs.Permissions.{IsGone, IsReplaced}
use Rattle.index_machine.specs.Reaching.{stands_in}
use Rattle.index_machine.specs.RebuildConditions.{IsSettled}
use Rattle.index_machine.specs.Represents.{has_stale_phase, is_opened_to}
use Rattle.index_machine.specs.Sections.{IsCaller, StaysInside}
use Rattle.index_machine.specs.declared.events.Action.{Action}
use Rattle.index_machine.specs.declared.events.Action.TheVariants.{Freeze, NewGroup, StoreHeader}
use Rattle.index_machine.specs.declared.events.Action.TheVariants.{StoreOpened, Thaw}
use Rattle.index_machine.specs.declared.opening.Opening.{Opening}
use Rattle.machine_barriers.proofs.Gains.{test_is}
use Rattle.machine_buffers.proofs.OutOfUse.{begins_or_not, out_on, replaced_out}
use Rattle.machine_buffers.proofs.Walkable.{IsEmpty}
use Rattle.machine_buffers.specs.Groups.{Begins, IsOutOfUse}
use Rattle.index_machine.proofs.Options.{not_so}
use Rattle.machine_readers.proofs.ReadSections.{stands_in_on}
use Rattle.word_layout.specs.declared.headers.HeaderWord.{HeaderWord}
use Rattle.word_layout.specs.declared.headers.HeaderWord.TheVariants as header
use Rattle.word_layout.specs.declared.phase.Phase.{Phase}
use Rattle.word_layout.specs.declared.phase.Phase.TheVariants.{Frozen, Open, Opened}

-- the phase word is not stale after the action, or the group is out of use, and was empty before
abbrev pub StaysTrue : Opening → Execution → ℕ → Action → ℕ → Type 0
StaysTrue o t b d g =
    (has_stale_phase g (event b d ∷ t) ≡ false)
    ⊎ (IsOutOfUse o g (event b d ∷ t) × IsEmpty o g t)

false_if : (w x : Bool) → x ≡ false → cond w false x ≡ false
false_if true x e = refl
false_if false x e = e

opened_to : (f : ℕ) (x : Phase) → is_opened_to f x ≡ true → x ≡ Opened f
opened_to f Open e = not_so e
opened_to f Frozen e = not_so e
opened_to f (Opened e) is = ap (λ (y : ℕ). Opened y) (test_is e f is)

refilled : (o : Opening) (t : Execution) (b g value : ℕ) → Valid o t →
    Allowed o t b (StoreHeader g header.Phase value) →
    StaysTrue o t b (StoreHeader g header.Phase value) g
refilled o t b g value valid may = ⊎_elim
    (λ (z : IsGone o g t × IsSettled o g t × ((k : ℕ) → successor k t ≢ Some g)). inr (
      out_on o t b (StoreHeader g header.Phase value) g valid may
          (record { unowned = may.unowned; unawaited = z.2; settled = z.1 })
          (λ s. let bad = s.3 in cc),
      z.0.empty,
    ))
    (λ z. absurd z.1) may.stage

true_new : (o : Opening) (t : Execution) (b h low high f g : ℕ) → Valid o t →
    Allowed o t b (NewGroup h low high f) → has_stale_phase g t ≡ false →
    StaysTrue o t b (NewGroup h low high f) g
true_new o t b h low high f g valid may e = dite (ℕ_discrete h g)
    (λ (z : h ≡ g). inl (choice-same h g false _ z))
    (λ (n : h ≢ g). go n (is_opened_to h (phase g t)) refl)
  where
    T : Execution
    T = event b (NewGroup h low high f) ∷ t

    begun : {x y z : ℕ} → NewGroup h low high f ≡ NewGroup g x y z → h ≡ g
    begun e = cc

    go : h ≢ g → (w : Bool) → is_opened_to h (phase g t) ≡ w →
        StaysTrue o t b (NewGroup h low high f) g
    go n false is = inl (choice-other h g false
        (cond (is_opened_to h (phase g t)) true (has_stale_phase g t)) n
        ∙ (ap (λ (y : Bool). cond y true (has_stale_phase g t)) is ∙ e))
    go n true is =
        let at = opened_to h (phase g t) is in
        let gone : IsReplaced o g t = (h, at, may.replaced) in
        inr (
          out_on o t b (NewGroup h low high f) g valid may (replaced_out o t g valid gone)
              (λ s. n (begun s.3)),
          (may.replaced g at).empty,
        )

true_header : (o : Opening) (t : Execution) (b h : ℕ) (which : HeaderWord) (value g : ℕ) →
    Valid o t → Allowed o t b (StoreHeader h which value) → has_stale_phase g t ≡ false →
    StaysTrue o t b (StoreHeader h which value) g
true_header o t b h header.Phase value g valid may e = dite (ℕ_discrete h g)
    (λ (z : h ≡ g). subst (λ (y : ℕ). StaysTrue o t b (StoreHeader h header.Phase value) y) z
    (refilled o t b h value valid may))
    (λ (n : h ≢ g). inl (choice-other h g true (has_stale_phase g t) n ∙ e))
true_header o t b h which value g valid may e = inl e

pub true_on : (o : Opening) (t : Execution) (b : ℕ) (d : Action) (g : ℕ) → Valid o t →
    Allowed o t b d → has_stale_phase g t ≡ false → StaysTrue o t b d g
true_on o t b (Freeze h) g valid may e = inl (false_if (h == g) (has_stale_phase g t) e)
true_on o t b (Thaw h) g valid may e = inl (false_if (h == g) (has_stale_phase g t) e)
true_on o t b (StoreOpened h f) g valid may e =
    inl (false_if (h == g) (has_stale_phase g t) e)
true_on o t b (StoreHeader h which value) g valid may e =
    true_header o t b h which value g valid may e
true_on o t b (NewGroup h low high f) g valid may e = true_new o t b h low high f g valid may e
true_on o t b d g valid may e = inl e

-- each phase word is true, or its group is out of use
pub true_or_out : (o : Opening) (t : Execution) → Valid o t → (g : ℕ) →
    (has_stale_phase g t ≡ false) ⊎ IsOutOfUse o g t
true_or_out o [] valid g = inl refl
true_or_out o (e ∷ t) valid g = ⊎_elim
    (λ (z : has_stale_phase g t ≡ false). ⊎_elim
    (λ (y : has_stale_phase g (event e.by e.action ∷ t) ≡ false). inl y)
    (λ (y : IsOutOfUse o g (event e.by e.action ∷ t) × IsEmpty o g t). inr y.0)
    (true_on o t e.by e.action g valid.1 valid.0 z))
    (λ (out : IsOutOfUse o g t). ⊎_elim
    (λ (z : Begins g e.action). inl (begun e.action z))
    (λ (never : Begins g e.action → ⊥).
    inr (out_on o t e.by e.action g valid.1 valid.0 out never))
    (begins_or_not g e.action)) (true_or_out o t valid.1 g)
  where
    begun : (d : Action) → Begins g d → has_stale_phase g (event e.by d ∷ t) ≡ false
    begun d z = subst (λ (y : Action). has_stale_phase g (event e.by y ∷ t) ≡ false) (sym z.3)
        (choice-same g g false _ refl)

-- and stays so while a caller stands in the group
pub true_while : (o : Opening) (c g : ℕ) → IsCaller o c → (n t : Execution) → Valid o (n ++ t) →
    StaysInside c n → stands_in c g t ≡ true → has_stale_phase g t ≡ false →
    has_stale_phase g (n ++ t) ≡ false
true_while o c g is [] t valid stay s e = e
true_while o c g is (x ∷ n) t valid stay s e = ⊎_elim
    (λ (z : has_stale_phase g (event x.by x.action ∷ (n ++ t)) ≡ false). z)
    (λ (z : IsOutOfUse o g (event x.by x.action ∷ (n ++ t)) × IsEmpty o g (n ++ t)).
    absurd (z.1 c is (stands_in_on c g n t stay.1 s)))
    (true_on o (n ++ t) x.by x.action g valid.1 valid.0
    (true_while o c g is n t valid.1 stay.1 s e))
