-- The logs of passes that know the same are logs of one history.
use Rattle.std.proofs.Common.{◌≡◌, ℕ, zero, suc, ◌+◌, ◌<◌, Some, List, [], ◌∷◌, length, slice_get}
use Rattle.std.proofs.Common.{refl, ap, ◌∙◌, subst, arith, zero-add}
use Rattle.std.specs.List.{AllByRecursion}
use Rattle.map_model.specs.History.{History, caller_of}
use Rattle.map_model.specs.Logs.{Log, IsLogOf}
use Rattle.linearization.proofs.Agreeing.{weaves-agree}
use Rattle.linearization.proofs.OwnEntries.{others-have-none}
use Rattle.linearization.proofs.WholeLogs.{logs-stand}
use Rattle.machine_places.specs.Agreement.{AreByCallers}
use Rattle.index_machine.specs.declared.opening.Opening.{Opening}
use Rattle.index_machine.specs.Execution.{Execution}
use Rattle.index_machine.specs.LivePlaces.{history}
use Rattle.index_machine.specs.Openings.{opening_map}
use Rattle.index_machine.specs.Words.{limits}
use Rattle.xindex_core.specs.declared.index.Index.{Index}
use Rattle.xindex_core.specs.declared.pass.Pass.{Pass}
use Rattle.xindex_core.specs.OneOrder.{AllKnow, CallersShareOneOrder, logs_of}
use Rattle.xindex_core.specs.Passes.{log_of, number_of, opening_with}

-- ---- logs ----

module _ (i : Index) (t : Execution) where
  logged : (first caller : ℕ) (passes : List Pass) (log : Log) → AllKnow i t first passes →
      slice_get (logs_of passes) caller ≡ Some log →
      IsLogOf (opening_map (opening_with i)) (first + caller) (history t) log
  logged first caller [] log all at = let none = at in cc
  logged first zero (p ∷ ps) log all at =
      let same : log_of p ≡ log = let e = at in cc in
      let number : number_of p ≡ first + 0 = let n = all.0.number in omega arith in
      subst
      (λ (z : ℕ × Execution × Log). IsLogOf (opening_map (opening_with i)) z.0 (history z.1) z.2)
      (λ k. (number k, all.1 k, same k)) all.0.of.truthful.logged
  logged first (suc caller) (p ∷ ps) log all at =
      subst (λ (n : ℕ). IsLogOf (opening_map (opening_with i)) n (history t) log) (omega arith)
      (logged (first + 1) caller ps log all.2 at)

-- the log of a pass stands at its place among the logs
pub log_at : (passes : List Pass) (caller : ℕ) (p : Pass) → slice_get passes caller ≡ Some p →
    slice_get (logs_of passes) caller ≡ Some (log_of p)
log_at [] caller p at = let none = at in cc
log_at (q ∷ ps) zero p at = let e = at in cc
log_at (q ∷ ps) (suc caller) p at = log_at ps caller p at

pub as_many : (passes : List Pass) → length (logs_of passes) ≡ length passes
as_many [] = refl
as_many (p ∷ ps) = ap suc (as_many ps)

-- ---- who changes the index ----

-- each change is of a caller with a log, where there are as many logs as callers
pub below : (o : Opening) (many : ℕ) (h : History) → many ≡ (limits o).callers → AreByCallers o h →
    AllByRecursion (λ c. caller_of c < many) h
below o many [] same by = tt
below o many (c ∷ h) same by = (let one = by.0 in omega arith, below o many h same by.1)

callers_of : (i : Index) (t : Execution) (passes : List Pass) → AllKnow i t 0 passes →
    0 < length passes → AreByCallers (opening_with i) (history t)
callers_of i t [] all some = absurd (omega arith)
callers_of i t (p ∷ ps) all some =
    subst (λ (z : Execution). AreByCallers (opening_with i) (history z)) all.1
    all.0.of.truthful.by_callers

pub one_order : CallersShareOneOrder
one_order i t passes all =
    let m = opening_map (opening_with i) in
    let logs = λ (caller : ℕ) (log : Log) (at : slice_get (logs_of passes) caller ≡ Some log).
    subst (λ (n : ℕ). IsLogOf m n (history t) log) (zero-add caller)
    (logged i t 0 caller passes log all at) in
    record {
      logs = logs;
      runs = weaves-agree m (history t) (logs_of passes) logs;
      own = λ caller p at. logs-stand m (history t) (logs_of passes) logs caller (log_of p)
          (log_at passes caller p at);
      others = λ some many caller le. others-have-none m (history t) (logs_of passes)
          (below (opening_with i) (length (logs_of passes)) (history t) (as_many passes ∙ many)
          (callers_of i t passes all some))
          caller (let same = as_many passes in omega arith);
    }
