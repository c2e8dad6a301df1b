-- What a caller has in a weave depends on the history and its own log alone.
use Rattle.std.proofs.Common.{◌≡◌, ◌≢◌, ℕ, zero, suc, ◌+◌, ◌<◌, ◌≤◌, Some, List, [], ◌∷◌, ◌++◌, length, slice_get}
use Rattle.std.proofs.Common.{cond, ◌==◌, refl, ap, ◌∙◌, arith, eq-eqb, ne_eqb}
use mathlib.Core.List.{append-nil}
use mathlib.Core.Logic.{dite}
use native.Mathlib.Decide.{ℕ_discrete}
use Rattle.map_model.specs.declared.entries.Entry.TheVariants.{Made, Look}
use Rattle.map_model.specs.Map.{Map, look, key_of}
use Rattle.map_model.specs.History.{History, after, caller_of}
use Rattle.map_model.specs.Logs.{Log}
use Rattle.linearization.specs.Linearization.{Weave, looks_at, all_looks_at, weave, entries_of, OthersHaveNoEntry}

-- the looks of a log at a place, without their caller
abbrev pub own_looks : ℕ → Log → Log
own_looks place [] = []
own_looks place (Made at change old ∷ es) = own_looks place es
own_looks place (Look at lo hi found ∷ es) =
    cond (at == place) (Look at lo hi found ∷ own_looks place es) (own_looks place es)

-- the changes of a caller as entries, with the looks of its log between them
abbrev pub part : Map → ℕ → History → Log → Log
part m i [] log = own_looks 0 log
part m i (c ∷ h) log =
    own_looks (length (c ∷ h)) log
    ++ cond (caller_of c == i)
    (Made (length h) c (look (after m h) (key_of c)) ∷ part m i h log) (part m i h log)

entries-append : (i : ℕ) (v w : Weave) → entries_of i (v ++ w) ≡ entries_of i v ++ entries_of i w
entries-append i [] w = refl
entries-append i (x ∷ v) w =
    dite (ℕ_discrete x.0 i)
    (λ (mine : x.0 ≡ i). rw (eq-eqb x.0 i mine)
    (ap (λ (z : Log). x.1 ∷ z) (entries-append i v w)))
    (λ (other : x.0 ≢ i). rw (ne_eqb x.0 i other) (entries-append i v w))

looks-mine : (place i : ℕ) (log : Log) → entries_of i (looks_at place i log) ≡ own_looks place log
looks-mine place i [] = refl
looks-mine place i (Made at change old ∷ es) = looks-mine place i es
looks-mine place i (Look at lo hi found ∷ es) =
    dite (ℕ_discrete at place)
    (λ (here : at ≡ place). rw (eq-eqb at place here, eq-eqb i i refl)
    (ap (λ (z : Log). Look at lo hi found ∷ z) (looks-mine place i es)))
    (λ (there : at ≢ place). rw (ne_eqb at place there) (looks-mine place i es))

looks-other : (place caller i : ℕ) (log : Log) → caller ≢ i →
    entries_of i (looks_at place caller log) ≡ []
looks-other place caller i [] other = refl
looks-other place caller i (Made at change old ∷ es) other = looks-other place caller i es other
looks-other place caller i (Look at lo hi found ∷ es) other =
    dite (ℕ_discrete at place)
    (λ (here : at ≡ place). rw (eq-eqb at place here, ne_eqb caller i other)
    (looks-other place caller i es other))
    (λ (there : at ≢ place). rw (ne_eqb at place there) (looks-other place caller i es other))

all-other : (place caller i : ℕ) (logs : List Log) → i < caller →
    entries_of i (all_looks_at place caller logs) ≡ []
all-other place caller i [] lt = refl
all-other place caller i (log ∷ logs) lt =
    entries-append i (all_looks_at place (caller + 1) logs) (looks_at place caller log)
    ∙ (ap (λ (z : Log). z ++ entries_of i (looks_at place caller log))
    (all-other place (caller + 1) i logs (omega arith))
    ∙ looks-other place caller i log (λ e. omega arith))

all-mine : (place caller i n : ℕ) (logs : List Log) (log : Log) → n ≡ caller + i →
    slice_get logs i ≡ Some log → entries_of n (all_looks_at place caller logs) ≡ own_looks place log
all-mine place caller i n [] log is at = let none = at in cc
all-mine place caller zero n (first ∷ logs) log is at =
    let same : first ≡ log = let e = at in cc in
    let number : caller ≡ n = omega arith in
    entries-append n (all_looks_at place (caller + 1) logs) (looks_at place caller first)
    ∙ (ap (λ (z : Log). z ++ entries_of n (looks_at place caller first))
    (all-other place (caller + 1) n logs (omega arith))
    ∙ (ap (λ (z : ℕ). entries_of n (looks_at place z first)) number
    ∙ (looks-mine place n first ∙ ap (own_looks place) same)))
all-mine place caller (suc i) n (first ∷ logs) log is at =
    entries-append n (all_looks_at place (caller + 1) logs) (looks_at place caller first)
    ∙ (ap (λ (z : Log). entries_of n (all_looks_at place (caller + 1) logs) ++ z)
    (looks-other place caller n first (λ e. omega arith))
    ∙ (append-nil (entries_of n (all_looks_at place (caller + 1) logs))
    ∙ all-mine place (caller + 1) i n logs log (omega arith) at))

pub entries-weave : (m : Map) (i : ℕ) (h : History) (logs : List Log) (log : Log) →
    slice_get logs i ≡ Some log → entries_of i (weave m h logs) ≡ part m i h log
entries-weave m i [] logs log at = all-mine 0 0 i i logs log (omega arith) at
entries-weave m i (c ∷ h) logs log at =
    let made : Weave =
    (caller_of c, Made (length h) c (look (after m h) (key_of c))) ∷ weave m h logs in
    entries-append i (all_looks_at (length (c ∷ h)) 0 logs) made
    ∙ (ap (λ (z : Log). z ++ entries_of i made)
    (all-mine (length (c ∷ h)) 0 i i logs log (omega arith) at)
    ∙ ap (λ (z : Log). own_looks (length (c ∷ h)) log
    ++ cond (caller_of c == i) (Made (length h) c (look (after m h) (key_of c)) ∷ z) z)
    (entries-weave m i h logs log at))

-- ---- numbers without a log ----

all-none : (place caller i : ℕ) (logs : List Log) → caller + length logs ≤ i →
    entries_of i (all_looks_at place caller logs) ≡ []
all-none place caller i [] le = refl
all-none place caller i (log ∷ logs) le =
    entries-append i (all_looks_at place (caller + 1) logs) (looks_at place caller log)
    ∙ (ap (λ (z : Log). z ++ entries_of i (looks_at place caller log))
    (all-none place (caller + 1) i logs (omega arith))
    ∙ looks-other place caller i log (λ e. omega arith))

pub others-have-none : OthersHaveNoEntry
others-have-none m [] logs by i le = all-none 0 0 i logs (omega arith)
others-have-none m (c ∷ h) logs by i le =
    let made : Weave =
    (caller_of c, Made (length h) c (look (after m h) (key_of c))) ∷ weave m h logs in
    let below = by.0 in
    let other : caller_of c ≢ i = λ e. omega arith in
    entries-append i (all_looks_at (length (c ∷ h)) 0 logs) made
    ∙ (ap (λ (z : Log). z ++ entries_of i made)
    (all-none (length (c ∷ h)) 0 i logs (omega arith))
    ∙ rw (ne_eqb (caller_of c) i other) (others-have-none m h logs by.1 i le))
