-- The plain map run over a weave.
use Rattle.std.proofs.Common.{◌≡◌, ◌≢◌, ℕ, suc, ◌+◌, Some, List, [], ◌∷◌, ◌++◌, length, slice_get}
use Rattle.std.proofs.Common.{refl, sym, ◌∙◌, subst, eq-eqb, ne_eqb, append_assoc}
use mathlib.Core.List.{append-nil}
use mathlib.Core.Logic.{dite}
use native.Mathlib.Decide.{ℕ_discrete}
use Rattle.map_model.specs.declared.entries.Entry.TheVariants.{Made, Look}
use Rattle.map_model.specs.Map.{Map, look, key_of}
use Rattle.map_model.specs.Entry.{StandsBetween}
use Rattle.map_model.specs.History.{History, after, caller_of}
use Rattle.map_model.specs.Logs.{Log, AllStandIn, before_place}
use Rattle.map_model.proofs.Logging.{before_place-append}
use Rattle.linearization.specs.Linearization.{Weave, looks_at, all_looks_at, weave, Runs, WeavesAgree}

-- the entries of each log are true at their places
abbrev pub EachStandsIn : Map → History → List Log → Type 0
EachStandsIn m h [] = Unit {0}
EachStandsIn m h (log ∷ logs) = AllStandIn m h log × EachStandsIn m h logs

each-stands : (m : Map) (h : History) (logs : List Log)
    → ((i : ℕ) (log : Log) → slice_get logs i ≡ Some log → AllStandIn m h log)
    → EachStandsIn m h logs
each-stands m h [] stand = tt
each-stands m h (log ∷ logs) stand =
    (stand 0 log refl, each-stands m h logs (λ i l at. stand (suc i) l at))

-- the looks at the end of an older history leave the map that it leaves
module _ (m : Map) (full newer h : History) (is : newer ++ h ≡ full) where
  here : before_place (length h) full ≡ h
  here = subst (λ (z : History). before_place (length h) z ≡ h) is (before_place-append newer h)

  runs-looks : (caller : ℕ) (log : Log) (w : Weave) → AllStandIn m full log → Runs m w (after m h) →
      Runs m (looks_at (length h) caller log ++ w) (after m h)
  runs-looks caller [] w stand runs = runs
  runs-looks caller (Made place change old ∷ es) w stand runs = runs-looks caller es w stand.1 runs
  runs-looks caller (Look place lo hi found ∷ es) w stand runs =
      let rest = runs-looks caller es w stand.1 runs in
      dite (ℕ_discrete place (length h))
      (λ (at : place ≡ length h).
      let there : before_place place full ≡ h =
      subst (λ (z : ℕ). before_place z full ≡ h) (sym at) here in
      rw (eq-eqb place (length h) at) (
        after m h,
        rest,
        subst (λ (z : History). StandsBetween (after m z) (Look place lo hi found) (after m z))
            there stand.0.1,
      ))
      (λ (other : place ≢ length h). rw (ne_eqb place (length h) other) rest)

  runs-all_looks : (caller : ℕ) (logs : List Log) (w : Weave) → EachStandsIn m full logs →
      Runs m w (after m h) → Runs m (all_looks_at (length h) caller logs ++ w) (after m h)
  runs-all_looks caller [] w stand runs = runs
  runs-all_looks caller (log ∷ logs) w stand runs =
      subst (λ (z : Weave). Runs m z (after m h))
      (sym (append_assoc (all_looks_at (length h) (caller + 1) logs)
      (looks_at (length h) caller log) w))
      (runs-all_looks (caller + 1) logs (looks_at (length h) caller log ++ w) stand.1
      (runs-looks caller log w stand.0 runs))

runs-weave : (m : Map) (full newer h : History) (logs : List Log) → newer ++ h ≡ full →
    EachStandsIn m full logs → Runs m (weave m h logs) (after m h)
runs-weave m full newer [] logs is stand =
    subst (λ (z : Weave). Runs m z m) (append-nil (all_looks_at 0 0 logs))
    (runs-all_looks m full newer [] is 0 logs [] stand refl)
runs-weave m full newer (c ∷ h) logs is stand =
    let older : (newer ++ c ∷ []) ++ h ≡ full = append_assoc newer (c ∷ []) h ∙ is in
    runs-all_looks m full newer (c ∷ h) is 0 logs
    ((caller_of c, Made (length h) c (look (after m h) (key_of c))) ∷ weave m h logs) stand (
      after m h,
      runs-weave m full (newer ++ c ∷ []) h logs older stand,
      (refl, refl),
    )

pub weaves-agree : WeavesAgree
weaves-agree m h logs are =
    runs-weave m h [] h logs refl (each-stands m h logs (λ i log at. let l = are i log at in l.stand))
