-- What the passes of all callers know, once they know the same, has every change that was made.
use Rattle.std.proofs.Common.{◌≡◌, ◌≢◌, ℕ, ◌+◌, ◌<◌, ◌≤◌, Bool, true, false, cond, ◌==◌, List, [], ◌∷◌, ◌++◌}
use Rattle.std.proofs.Common.{length, refl, sym, ap, ◌∙◌, subst, arith, eqb-true, eq-eqb}
use Rattle.std.proofs.lemmas.Bool.{eqb-false}
use Rattle.map_model.specs.History.{History, after, caller_of, changes_by}
use Rattle.map_model.specs.Logs.{changes_of}
use Rattle.index_machine.specs.declared.opening.Opening.{Opening}
use Rattle.index_machine.specs.Execution.{Execution}
use Rattle.index_machine.specs.LivePlaces.{history}
use Rattle.index_machine.specs.Openings.{opening_map}
use Rattle.index_machine.specs.Words.{limits}
use Rattle.machine_places.specs.Agreement.{AreByCallers}
use Rattle.index_rule.proofs.Moments.{history_on}
use Rattle.xindex_core.specs.declared.index.Index.{Index}
use Rattle.xindex_core.specs.declared.pass.Pass.{Pass}
use Rattle.xindex_core.specs.Closing.{AreAllLogsIn, EndsForAll}
use Rattle.xindex_core.specs.OneOrder.{AllKnow}
use Rattle.xindex_core.specs.Passes.{known_to, log_of, number_of, opening_with}
use Rattle.caller_phases.specs.Ran.{WhatAllKnowIsAll}

-- ---- changes of one caller ----

by_append : (caller : ℕ) (newer h : History) →
    length (changes_by caller (newer ++ h)) ≡ length (changes_by caller newer) + length (changes_by caller h)
by_append caller [] h = omega arith
by_append caller (d ∷ newer) h = go (caller_of d == caller) (by_append caller newer h)
  where
    go : (b : Bool) →
        length (changes_by caller (newer ++ h))
        ≡ length (changes_by caller newer) + length (changes_by caller h) →
        length (cond b (d ∷ changes_by caller (newer ++ h)) (changes_by caller (newer ++ h)))
        ≡ length (cond b (d ∷ changes_by caller newer) (changes_by caller newer)) + length (changes_by caller h)
    go true rest = omega arith
    go false rest = rest

-- where no caller has more changes in the longer history, there are no more
none_newer : (o : Opening) (newer h : History) → AreByCallers o (newer ++ h) →
    ((caller : ℕ) → caller < (limits o).callers → changes_by caller (newer ++ h) ≡ changes_by caller h) →
    newer ≡ []
none_newer o [] h by same = refl
none_newer o (d ∷ newer) h by same =
    let caller = caller_of d in
    let long = ap (λ (z : History). length z) (same caller by.0) in
    let own = eq-eqb caller caller refl in
    let parts = by_append caller newer h in
    let more : length (d ∷ changes_by caller (newer ++ h)) ≡ length (changes_by caller h) = rw own at long in
    absurd (omega arith)

-- ---- passes ----

own_logged : (i : Index) (t : Execution) (h : History) (first : ℕ) (passes : List Pass) →
    AllKnow i t first passes → AreAllLogsIn i h passes → (caller : ℕ) → first ≤ caller →
    caller < first + length passes → changes_by caller h ≡ changes_by caller (history t)
own_logged i t h first [] know logs caller low high = absurd (omega arith)
own_logged i t h first (p ∷ ps) know logs caller low high =
    go (caller == first) refl
    (λ above. own_logged i t h (first + 1) ps know.2 logs.1 caller above (omega arith))
  where
    go : (b : Bool) → (caller == first) ≡ b →
        (first + 1 ≤ caller → changes_by caller h ≡ changes_by caller (history t)) →
        changes_by caller h ≡ changes_by caller (history t)
    go true same others =
        let is : number_of p ≡ caller = know.0.number ∙ sym (eqb-true caller first same) in
        let then : changes_of (log_of p) ≡ changes_by (number_of p) (history (known_to p)) =
        know.0.of.truthful.logged.complete in
        let now : changes_of (log_of p) ≡ changes_by (number_of p) h = logs.0.complete in
        subst (λ (z : ℕ × Execution). changes_by z.0 h ≡ changes_by z.0 (history z.1))
        (λ j. (is j, know.1 j)) (sym now ∙ then)
    go false other others =
        let apart : caller ≢ first = eqb-false caller first other in others (omega arith)

first_ends : (i : Index) (t u : Execution) (first : ℕ) (passes : List Pass) → 0 < length passes →
    AllKnow i t first passes → EndsForAll passes u → (newer : Execution) × (newer ++ t ≡ u)
first_ends i t u first [] some know ends = absurd (omega arith)
first_ends i t u first (p ∷ ps) some know ends =
    (ends.0.0, subst (λ (z : Execution). ends.0.0 ++ z ≡ u) know.1 ends.0.1)

pub all_is_known : WhatAllKnowIsAll
all_is_known i t passes pairs know some many closed =
    let o = opening_with i in
    let newer = first_ends i t closed.execution 0 passes some know closed.ends in
    let more = history_on newer.0 t in
    let whole : more.0 ++ history t ≡ history closed.execution = more.1 ∙ ap history newer.1 in
    let none : more.0 ≡ [] =
    none_newer o more.0 (history t) (subst (AreByCallers o) (sym whole) closed.by_callers)
    (λ caller low. subst (λ (z : History). changes_by caller z ≡ changes_by caller (history t))
    (sym whole)
    (own_logged i t (history closed.execution) 0 passes know closed.logs caller (omega arith) (omega arith))) in
    let same : history closed.execution ≡ history t =
    sym whole ∙ ap (λ (z : History). z ++ history t) none in (
      same,
      closed.left ∙ ap (after (opening_map o)) same,
    )
