-- When a caller has passed its mark.
use Rattle.std.proofs.Common.{◌≡◌, ◌≢◌, ◌⊎◌, ⊎_elim, ℕ, zero, suc, ◌+◌, ◌%◌, ◌^◌, ◌<◌, ◌≤◌, Bool, true, false, List, [], ◌∷◌, ◌++◌, length, set, slice_index, get_or-set_other, get_or-set_same, refl, sym, ap, ◌∙◌, subst, arith, le_refl}
use Rattle.std.specs.Prelude.{◌==◌}
use mathlib.Core.Logic.{dite}
use native.Mathlib.Decide.{ℕ_discrete}
use Rattle.index_machine.specs.declared.events.Action.{Action}
use Rattle.index_machine.specs.declared.events.Action.TheVariants.{LoadEpoch, Enter, Leave}
use Rattle.index_machine.specs.declared.opening.Opening.{Opening}
use Rattle.index_machine.specs.Execution.{Execution, Continues}
use Rattle.index_machine.specs.Sections.{IsInside, HasLeft, IsQuiescent, crossings, crossings_after}
use Rattle.index_machine.specs.Words.{limits}
use Rattle.index_machine.proofs.Executions.{continues_same, continues_trans}
use Rattle.reader_epochs.specs.declared.marks.Marks.{Marks}
use Rattle.reader_epochs.specs.Marking.{AreMarks, HasPassed, IsMark, Passes, beginning, epoch_loads, mark_of, passed_of}

-- ---- crossings only grow ----

crossings_grow : (mine : Bool) (action : Action) (n : ℕ) → n ≤ crossings_after mine action n
crossings_grow true (Enter w) n = omega arith
crossings_grow false (Enter w) n = omega arith
crossings_grow true (Leave w) n = omega arith
crossings_grow false (Leave w) n = omega arith
crossings_grow mine action n = le_refl n

crossings_more : (hand : ℕ) (newer t : Execution) → crossings hand t ≤ crossings hand (newer ++ t)
crossings_more hand [] t = le_refl (crossings hand t)
crossings_more hand (e ∷ newer) t =
    let before = crossings_more hand newer t in
    let now = crossings_grow (e.by == hand) e.action (crossings hand (newer ++ t)) in
    omega arith

grown : (hand : ℕ) (t u : Execution) → Continues t u → crossings hand t ≤ crossings hand u
grown hand t u g =
    subst (λ (z : Execution). crossings hand t ≤ crossings hand z) g.1 (crossings_more hand g.0 t)

-- ---- marks ----

mark_stays : (caller mark : ℕ) (began known later : Execution) → Continues known later →
    IsMark caller mark began known → IsMark caller mark began later
mark_stays caller mark began known later goes_on is =
    record {
      moment = is.moment;
      after = is.after;
      before = continues_trans is.moment known later is.before goes_on;
      word = is.word;
    }

mark_now : (caller mark : ℕ) (began known : Execution) → Continues began known →
    mark ≡ crossings caller known % 2 ^ 64 → IsMark caller mark began known
mark_now caller mark began known after word =
    record { moment = known; after = after; before = continues_same known; word = word }

-- one more caller was marked
pub marked_more : (words : List ℕ) (n mark : ℕ) (began known later : Execution) →
    n < length words → Continues began later → Continues known later →
    mark ≡ crossings n later % 2 ^ 64 →
    ((caller : ℕ) → caller < n → IsMark caller (slice_index words caller) began known) →
    (caller : ℕ) → caller < n + 1 →
    IsMark caller (slice_index (set words n mark) caller) began later
marked_more words n mark began known later room after goes_on word told caller below =
    dite (ℕ_discrete caller n)
    (λ (same : caller ≡ n).
    subst (λ (z : ℕ). IsMark z (slice_index (set words n mark) z) began later) (sym same)
    (subst (λ (z : ℕ). IsMark n z began later) (sym (get_or-set_same words n mark 0 room))
    (mark_now n mark began later after word)))
    (λ (other : caller ≢ n).
    subst (λ (z : ℕ). IsMark caller z began later) (sym (get_or-set_other words n caller mark 0 other))
    (mark_stays caller (slice_index words caller) began known later goes_on
    (told caller (omega arith))))

-- storing a later mark leaves the earlier loads
loads_kept : (words : List ℕ) (n mark many : ℕ) → many ≤ n →
    epoch_loads (set words n mark) many ≡ epoch_loads words many
loads_kept words n mark zero le = refl
loads_kept words n mark (suc many) le =
    let word = get_or-set_other words n many mark 0 (λ (e : many ≡ n). absurd (omega arith)) in
    let rest = loads_kept words n mark many (omega arith) in
    (λ i. LoadEpoch many (word i) ∷ rest i)

pub loads_more : (words : List ℕ) (n mark : ℕ) → n < length words →
    epoch_loads (set words n mark) (n + 1) ≡ LoadEpoch n mark ∷ epoch_loads words n
loads_more words n mark room =
    let more : n + 1 ≡ suc n = omega arith in
    let word = get_or-set_same words n mark 0 room in
    let rest = loads_kept words n mark n (le_refl n) in
    ap (epoch_loads (set words n mark)) more ∙ (λ i. LoadEpoch n (word i) ∷ rest i)

-- ---- passing ----

left_stays : (caller : ℕ) (began known later : Execution) → Continues known later →
    HasLeft caller began known → HasLeft caller began later
left_stays caller began known later goes_on left inside =
    let now = left inside in
    let more = grown caller known later goes_on in
    omega arith

passed_stays : (caller mark : ℕ) (began known later : Execution) → Continues known later →
    HasPassed caller mark began known → HasPassed caller mark began later
unfolding mark_stays
passed_stays caller mark began known later goes_on passed =
    record {
      is_mark = mark_stays caller mark began known later goes_on passed.is_mark;
      left = left_stays caller passed.is_mark.moment known later goes_on passed.left;
    }

-- a caller whose mark and word let it pass has left
passes : (caller mark word : ℕ) (began known : Execution) → IsMark caller mark began known →
    word ≡ crossings caller known % 2 ^ 64 → Passes mark word → HasPassed caller mark began known
passes caller mark word began known is now test =
    record { is_mark = is; left = λ inside. left inside test }
  where
    left : IsInside caller is.moment → Passes mark word →
        crossings caller is.moment < crossings caller known
    left inside test =
        let before : ℕ = crossings caller is.moment in
        let after : ℕ = crossings caller known in
        let more : before ≤ after = grown caller is.moment known is.before in
        let marked : mark ≡ before % 2 ^ 64 = is.word in
        let odd : before % 2 ≡ 1 = inside in
        ⊎_elim (λ (even : mark % 2 ≡ 0). absurd (omega arith))
        (λ (rest : (word % 2 ≡ 0) ⊎ (word ≢ mark)). ⊎_elim
        (λ (even : word % 2 ≡ 0). grind arith)
        (λ (differ : word ≢ mark). grind arith)
        rest)
        test

pub marks_stay : (o : Opening) (marks : Marks) (t u : Execution) → Continues t u →
    AreMarks o marks t → AreMarks o marks u
marks_stay o marks t u goes_on are =
    record {
      told = λ caller below. mark_stays caller (mark_of marks caller) (beginning marks) t u goes_on
          (are.told caller below);
      few = are.few;
      passed = λ caller below. passed_stays caller (mark_of marks caller) (beginning marks) t u goes_on
          (are.passed caller below);
    }

-- the next caller has passed too
pub passed_more : (o : Opening) (marks : Marks) (t : Execution) (word : ℕ) →
    passed_of marks < (limits o).callers → AreMarks o marks t →
    word ≡ crossings (passed_of marks) t % 2 ^ 64 → Passes (mark_of marks (passed_of marks)) word →
    AreMarks o (record marks { passed = marks.passed + 1 }) t
passed_more o marks t word below are now test =
    record {
      told = are.told;
      few = omega arith;
      passed = λ caller lt. dite (ℕ_discrete caller marks.passed)
          (λ (same : caller ≡ marks.passed).
          subst (λ (z : ℕ). HasPassed z (mark_of marks z) (beginning marks) t) (sym same)
          (passes marks.passed (mark_of marks marks.passed) word (beginning marks) t
          (are.told marks.passed below) now test))
          (λ (other : caller ≢ marks.passed). are.passed caller (omega arith));
    }

-- all have passed
pub quiet : (o : Opening) (marks : Marks) (t : Execution) → (limits o).callers ≤ passed_of marks →
    AreMarks o marks t → IsQuiescent o (beginning marks) t
quiet o marks t all are caller below inside =
    let passed = are.passed caller (omega arith) in
    since passed.is_mark passed.left
  where
    since : (is : IsMark caller (mark_of marks caller) (beginning marks) t) →
        HasLeft caller is.moment t → crossings caller (beginning marks) < crossings caller t
    since is left =
        let before : ℕ = crossings caller (beginning marks) in
        let at : ℕ = crossings caller is.moment in
        let now : ℕ = crossings caller t in
        let more : before ≤ at = grown caller (beginning marks) is.moment is.after in
        let most : at ≤ now = grown caller is.moment t is.before in
        dite (ℕ_discrete at before)
        (λ (same : at ≡ before). let gone = left (ap (λ (z : ℕ). z % 2) same ∙ inside) in omega arith)
        (λ (other : at ≢ before). omega arith)
