-- A group that answers for a key, or did, goes on to do so until it is gone; and what its next word
-- says.
use Rattle.std.proofs.Common.{◌≡◌, ◌≢◌, ℕ, zero, suc, ◌+◌, ◌-◌, ◌<◌, ◌≤◌, ◌⊎◌, inl, inr, ⊎_elim}
use Rattle.std.proofs.Common.{Some, None}
use Rattle.std.proofs.Common.{true, false, ◌∷◌, refl, sym, ap, ◌∙◌, subst, arith}
use mathlib.Core.Logic.{dite}
use native.Mathlib.Decide.{ℕ_discrete}
use Rattle.machine_chain.proofs.PartKeys.{key_lies, next_key}
use Rattle.machine_chain.specs.Chain.{end_of}
use Rattle.index_machine.proofs.Executions.{choice-other}
use Rattle.index_machine.specs.Conditions.{Allowed, Valid}
use Rattle.index_machine.specs.Execution.{Execution, event}
use Rattle.index_machine.specs.Groups.{phase}
use Rattle.index_machine.specs.KeyRanges.{group_of, predecessor, remembered, unless_opened}
use Rattle.index_machine.specs.Openings.{within}
use Rattle.word_layout.specs.Parts.{greatest_key}
use Rattle.index_machine.specs.Permissions.{AreGone, IsGone, IsReachable}
use Rattle.index_machine.specs.Reaching.{stands_in}
use Rattle.index_machine.specs.Sections.{IsCaller}
use Rattle.index_machine.specs.declared.events.Action.{Action}
use Rattle.index_machine.specs.declared.events.Action.TheVariants.{Install, NewGroup}
use Rattle.index_machine.specs.declared.opening.Opening.{Opening}
use Rattle.machine_barriers.proofs.OpenedGroups.{opened_groups_hold}
use Rattle.machine_buffers.proofs.OutOfUse.{group_out}
use Rattle.machine_chain.proofs.Chained.{groups_chained}
use Rattle.machine_chain.proofs.Keys.{before_in, before_out, old_unchained}
use Rattle.machine_chain.proofs.Before.{before_else, before_is, old_or_not}
use Rattle.machine_chain.proofs.Old.{old_chained}
use Rattle.machine_chain.proofs.Cases.{in_or_out}
use Rattle.machine_chain.specs.Chain.{IsOldOf, OldAreChained, group_before, next_of, pivot_of}
use Rattle.machine_chain.specs.Walks.{AnswersFor, LeadsOn}
use Rattle.machine_readers.proofs.StandingCallers.{groups_before_are_opened}
use Rattle.word_layout.specs.declared.phase.Phase.{Phase}
use Rattle.word_layout.specs.declared.phase.Phase.TheVariants.{Opened}

-- ---- answering stays ----

pub answers_on : (o : Opening) (t : Execution) (b : ℕ) (d : Action) (j g : ℕ) → Valid o t →
    Allowed o t b d → (IsGone o g t → ⊥) → AnswersFor o j g t → AnswersFor o j g (event b d ∷ t)
answers_on o t b (Install spot lead low high) j g valid may there a = ⊎_elim
    (λ (here : within low j high ≡ true). ⊎_elim
    (λ (z : group_of o j t ≡ g).
    inr (before_in o t b spot lead low high j here ∙ ap (λ (y : ℕ). Some y) z))
    (λ (z : predecessor o j t ≡ Some g).
    let m = may.opened j here in
    let p = groups_before_are_opened o t valid j g z in
    absurd (there ((opened_groups_hold o t valid).past (group_of o j t) m.0 g p.0 m.2 p.2 p.1))) a)
    (λ (out : within low j high ≡ false). ⊎_elim
    (λ (z : group_of o j t ≡ g). inl (group_out o t b spot lead low high j out ∙ z))
    (λ (z : predecessor o j t ≡ Some g). inr (before_out o t b spot lead low high j out ∙ z)) a)
    (in_or_out (within low j high))
answers_on o t b (NewGroup n low high i) j g valid may there a = ⊎_elim
    (λ (z : group_of o j t ≡ g). inl z)
    (λ (z : predecessor o j t ≡ Some g).
    let p = groups_before_are_opened o t valid j g z in
    let other : g ≢ n = λ y. there (subst (λ (x : ℕ). IsGone o x t) (sym y) may.gone) in
    let unlike : p.0 ≢ n =
    λ y. there (may.replaced g (p.1 ∙ ap (λ (x : ℕ). Opened x) y)) in
    inr (ap (remembered n (λ x. phase x t)) z
    ∙ (choice-other g n None (unless_opened n (phase g t) g) other
    ∙ (ap (λ (x : Phase). unless_opened n x g) p.1
    ∙ choice-other p.0 n None (Some g) unlike)))) a
answers_on o t b d j g valid may there a = a

-- ---- along the keys ----

-- from a key of the group on, the next key at which the group changes
abbrev pub Scan : Opening → (ℕ → ℕ) → ℕ → ℕ → Execution → Type 0
Scan o M g j t =
    ((next_of o g t ≡ 0) × ((m : ℕ) → j ≤ m → m ≤ end_of o j → M m ≡ g))
    ⊎ ((i : ℕ) × (j ≤ i) × (i < end_of o j) × (next_of o g t ≡ M (i + 1) + 1)
    × (pivot_of o (M (i + 1)) t ≡ i + 1) × ((m : ℕ) → j ≤ m → m ≤ i → M m ≡ g))

module _ (o : Opening) (t : Execution) (M : ℕ → ℕ) (g : ℕ)
    (step : (i : ℕ) → i < end_of o i → M i ≡ g → M (i + 1) ≢ g →
    (next_of o g t ≡ M (i + 1) + 1) × (pivot_of o (M (i + 1)) t ≡ i + 1))
    (last : (k : ℕ) → k ≡ end_of o k → M k ≡ g → next_of o g t ≡ 0) where
  one_key : (j m : ℕ) → M j ≡ g → j ≤ m → m ≤ j → M m ≡ g
  one_key j m is a c = let e : j ≡ m = omega (arith, a, c) in ap M (sym e) ∙ is

  pub scan : (d j : ℕ) → j + d ≡ end_of o j → M j ≡ g → Scan o M g j t
  scan zero j e is =
      let top : j ≡ end_of o j = omega (arith, e) in
      inl (last j top is, λ m a c. one_key j m is a (omega (arith, c, top)))
  scan (suc d) j e is = dite (ℕ_discrete (M (j + 1)) g)
      (λ (z : M (j + 1) ≡ g). ⊎_elim
      (λ (y : (next_of o g t ≡ 0) × ((m : ℕ) → j + 1 ≤ m → m ≤ end_of o (j + 1) → M m ≡ g)).
      inl (y.0, λ m a c. more m (λ lt. y.1 m lt (omega (arith, c, same))) a))
      (λ (y : (i : ℕ) × (j + 1 ≤ i) × (i < end_of o (j + 1)) × (next_of o g t ≡ M (i + 1) + 1)
      × (pivot_of o (M (i + 1)) t ≡ i + 1) × ((m : ℕ) → j + 1 ≤ m → m ≤ i → M m ≡ g)).
      let le = y.1 in let below = y.2 in
      inr (
        y.0,
        omega (arith, le),
        omega (arith, below, same),
        y.3,
        y.4,
        λ m a c. more m (λ lt. y.5 m lt c) a,
      ))
      (scan d (j + 1) (omega (arith, e, same)) z))
      (λ (n : M (j + 1) ≢ g).
      let s = step j lt is n in inr (j, omega arith, lt, s.0, s.1, λ m a c. one_key j m is a c))
    where
      lt : j < end_of o j
      lt = omega (arith, e)

      same : end_of o (j + 1) ≡ end_of o j
      same = (next_key o j lt).1

      more : (m : ℕ) → (j + 1 ≤ m → M m ≡ g) → j ≤ m → M m ≡ g
      more m then a = dite (ℕ_discrete j m)
          (λ (z : j ≡ m). ap M (sym z) ∙ is)
          (λ (n : j ≢ m). then (omega (arith, a, n)))

-- ---- what a next word says ----

-- a scan along groups each of which answers, or did
scan_leads : (o : Opening) (t : Execution) (c g k : ℕ) (M : ℕ → ℕ) →
    ((m h : ℕ) → M m ≡ h → AnswersFor o m h t) →
    ((m : ℕ) → IsReachable o c (M m) t) → Scan o M g k t → LeadsOn o c g k t
scan_leads o t c g k M answers reach s = record {
  end = λ e m a top. ⊎_elim
      (λ (z : (next_of o g t ≡ 0) × ((m : ℕ) → k ≤ m → m ≤ end_of o k → M m ≡ g)).
      answers m g (z.1 m a top))
      (λ (z : (i : ℕ) × (k ≤ i) × (i < end_of o k) × (next_of o g t ≡ M (i + 1) + 1)
      × (pivot_of o (M (i + 1)) t ≡ i + 1) × ((m : ℕ) → k ≤ m → m ≤ i → M m ≡ g)).
      let bad : 0 ≡ M (z.0 + 1) + 1 = sym e ∙ z.3 in absurd (omega (arith, bad))) s;
  next = λ n e. ⊎_elim
      (λ (z : (next_of o g t ≡ 0) × ((m : ℕ) → k ≤ m → m ≤ end_of o k → M m ≡ g)).
      let bad : 0 ≡ n + 1 = sym z.0 ∙ e in absurd (omega (arith, bad)))
      (λ (z : (i : ℕ) × (k ≤ i) × (i < end_of o k) × (next_of o g t ≡ M (i + 1) + 1)
      × (pivot_of o (M (i + 1)) t ≡ i + 1) × ((m : ℕ) → k ≤ m → m ≤ i → M m ≡ g)).
      let both : M (z.0 + 1) + 1 ≡ n + 1 = sym z.3 ∙ e in
      let is : M (z.0 + 1) ≡ n = omega (arith, both) in (
        z.0,
        z.1,
        z.2,
        ap (λ (y : ℕ). pivot_of o y t) (sym is) ∙ z.4,
        answers (z.0 + 1) n is,
        λ m a top. answers m g (z.5 m a top),
      )) s;
  reach = λ n e. ⊎_elim
      (λ (z : (next_of o g t ≡ 0) × ((m : ℕ) → k ≤ m → m ≤ end_of o k → M m ≡ g)).
      let bad : 0 ≡ n + 1 = sym z.0 ∙ e in absurd (omega (arith, bad)))
      (λ (z : (i : ℕ) × (k ≤ i) × (i < end_of o k) × (next_of o g t ≡ M (i + 1) + 1)
      × (pivot_of o (M (i + 1)) t ≡ i + 1) × ((m : ℕ) → k ≤ m → m ≤ i → M m ≡ g)).
      let both : M (z.0 + 1) + 1 ≡ n + 1 = sym z.3 ∙ e in
      let is : M (z.0 + 1) ≡ n = omega (arith, both) in
      subst (λ (y : ℕ). IsReachable o c y t) is (reach (z.0 + 1))) s;
}

-- how far it is to the greatest key of the part
pub to_top : (o : Opening) (k : ℕ) → k ≤ greatest_key → (d : ℕ) × (k + d ≡ end_of o k)
to_top o k le = let lies = key_lies o k le in (end_of o k - k, omega (arith, lies.1))

pub chain_scan : (o : Opening) (t : Execution) (g k : ℕ) → Valid o t → k ≤ greatest_key →
    group_of o k t ≡ g → Scan o (λ m. group_of o m t) g k t
chain_scan o t g k valid le is =
    let chain = groups_chained o t valid in
    let d = to_top o k le in
    scan o t (λ m. group_of o m t) g
    (λ i lt e n. chain.next i g (group_of o (i + 1) t) lt e refl (λ z. n (sym z)))
    (λ j ends e. chain.last j g ends e) d.0 k d.1 is

pub chain_leads : (o : Opening) (t : Execution) (c g k : ℕ) → Valid o t → k ≤ greatest_key →
    group_of o k t ≡ g → LeadsOn o c g k t
chain_leads o t c g k valid le is =
    scan_leads o t c g k (λ m. group_of o m t) (λ m h e. inl e) (λ m. inl (m, refl))
    (chain_scan o t g k valid le is)

pub old_leads : (o : Opening) (t : Execution) (c g k : ℕ) → Valid o t → IsCaller o c →
    stands_in c g t ≡ true → predecessor o k t ≡ Some g → k ≤ greatest_key → LeadsOn o c g k t
old_leads o t c g k valid is s was le =
    let p = groups_before_are_opened o t valid k g was in
    ⊎_elim (λ (all : AreGone o p.0 t). absurd ((all g p.1).empty c is s))
    (λ (old : OldAreChained o p.0 t). go p.0 p.1 old)
    (old_chained o t valid p.0)
  where
    answers : (f m h : ℕ) → group_before o f m t ≡ h → AnswersFor o m h t
    answers f m h e = ⊎_elim
        (λ (z : (x : ℕ) × IsOldOf o f m x t).
        inr (z.1.0 ∙ ap Some (sym (before_is o f m z.0 t z.1) ∙ e)))
        (λ (nope : (x : ℕ) → IsOldOf o f m x t → ⊥). inl (sym (before_else o f m t nope) ∙ e))
        (old_or_not o f m t)

    -- where the group is the one before, it was opened to the rebuild
    is_old : (f m : ℕ) → phase g t ≡ Opened f → group_before o f m t ≡ g → IsOldOf o f m g t
    is_old f m at e = ⊎_elim
        (λ (z : predecessor o m t ≡ Some g). (z, at))
        (λ (z : group_of o m t ≡ g). absurd (old_unchained o t valid k g m was z))
        (⊎_elim (λ (z : group_of o m t ≡ g). inr z) (λ (z : predecessor o m t ≡ Some g). inl z)
        (answers f m g e))

    reach : (f m : ℕ) → phase g t ≡ Opened f → IsReachable o c (group_before o f m t) t
    reach f m at = ⊎_elim
        (λ (z : (x : ℕ) × IsOldOf o f m x t).
        inr (inr (inl (
          g,
          f,
          s,
          at,
          ap (λ (y : ℕ). phase y t) (before_is o f m z.0 t z.1) ∙ z.1.1,
        ))))
        (λ (nope : (x : ℕ) → IsOldOf o f m x t → ⊥). inl (m, sym (before_else o f m t nope)))
        (old_or_not o f m t)

    go : (f : ℕ) → phase g t ≡ Opened f → OldAreChained o f t → LeadsOn o c g k t
    go f at old =
        let d = to_top o k le in
        scan_leads o t c g k (λ m. group_before o f m t) (answers f) (λ m. reach f m at)
        (scan o t (λ m. group_before o f m t) g
        (λ i lt e n. old.next i g (group_before o f (i + 1) t) lt (is_old f i at e) refl
        (λ z. n (sym z)))
        (λ j ends e. old.last j g ends (is_old f j at e)) d.0 k d.1
        (before_is o f k g t (was, at)))

-- a group that answers for a key, or did, leads on where a caller stands
pub answers_lead : (o : Opening) (t : Execution) (c g k : ℕ) → Valid o t → IsCaller o c →
    stands_in c g t ≡ true → k ≤ greatest_key → AnswersFor o k g t → LeadsOn o c g k t
answers_lead o t c g k valid is s le a = ⊎_elim
    (λ (z : group_of o k t ≡ g). chain_leads o t c g k valid le z)
    (λ (z : predecessor o k t ≡ Some g). old_leads o t c g k valid is s z le) a
