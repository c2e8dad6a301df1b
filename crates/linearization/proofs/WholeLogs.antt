-- A log that stands in a history, in order and complete, is all that its caller has in the weave.
use Rattle.std.proofs.Common.{◌≡◌, ◌≢◌, ℕ, ◌+◌, ◌<◌, ◌≤◌, Option, Some, List, [], ◌∷◌, ◌++◌, length}
use Rattle.std.proofs.Common.{cond, ◌==◌, refl, sym, ap, ◌∙◌, subst, arith, eq-eqb, ne_eqb, append_assoc, length-append}
use mathlib.Core.Logic.{dite}
use native.Mathlib.Decide.{ℕ_discrete}
use Rattle.map_model.specs.declared.entries.Change.{Change}
use Rattle.map_model.specs.declared.entries.Entry.{Entry}
use Rattle.map_model.specs.declared.entries.Entry.TheVariants.{Made, Look}
use Rattle.map_model.specs.Map.{Map, look, key_of}
use Rattle.map_model.specs.History.{History, after, caller_of, changes_by}
use Rattle.map_model.specs.Logs.{Log, AllStandIn, IsOrdered, least_place, next_place, changes_of, place_of, before_place, change_at}
use Rattle.map_model.proofs.Logging.{before_place-append, end_in_history}
use Rattle.linearization.specs.Linearization.{LogsStandInTheWeave}
use Rattle.linearization.proofs.OwnEntries.{own_looks, part, entries-weave}

-- ---- changes in a history ----

by-mine : (d : Change) (i : ℕ) (h : History) → caller_of d ≡ i → changes_by i (d ∷ h) ≡ d ∷ changes_by i h
by-mine d i h e = rw (eq-eqb (caller_of d) i e) refl

by-other : (d : Change) (i : ℕ) (h : History) → caller_of d ≢ i → changes_by i (d ∷ h) ≡ changes_by i h
by-other d i h n = rw (ne_eqb (caller_of d) i n) refl

-- a history in two, at a change
abbrev Splits : History → ℕ → Change → Type 0
Splits h place c =
    (newer : History) × (older : History) × (newer ++ c ∷ older ≡ h) × (length older ≡ place)

-- the same, where the key of the change had this value before it
abbrev Parts : Map → History → ℕ → Change → Option ℕ → Type 0
Parts m h place c old =
    (newer : History) × (older : History) × (newer ++ c ∷ older ≡ h) × (length older ≡ place)
    × (look (after m older) (key_of c) ≡ old)

-- each change of a log splits the history at its place
abbrev AllParts : Map → History → Log → Type 0
AllParts m h [] = Unit {0}
AllParts m h (Made place c old ∷ es) = Parts m h place c old × AllParts m h es
AllParts m h (Look place lo hi found ∷ es) = AllParts m h es

change-here : (place : ℕ) (d : Change) (h : History) → length h ≡ place →
    change_at place (d ∷ h) ≡ Some d
unfolding change_at
change-here place d h e = rw (eq-eqb (length h) place e) refl

change-there : (place : ℕ) (d : Change) (h : History) → length h ≢ place →
    change_at place (d ∷ h) ≡ change_at place h
unfolding change_at
change-there place d h n = rw (ne_eqb (length h) place n) refl

change-nowhere : (place : ℕ) (c : Change) → change_at place [] ≡ Some c → ⊥
unfolding change_at
change-nowhere place c e = let bad = e in cc

splits : (place : ℕ) (h : History) (c : Change) → change_at place h ≡ Some c → Splits h place c
splits place [] c e = absurd (change-nowhere place c e)
splits place (d ∷ h) c e =
    dite (ℕ_discrete (length h) place)
    (λ (here : length h ≡ place).
    let some : Some d ≡ Some c = sym (change-here place d h here) ∙ e in
    let same : c ≡ d = cc in
    ([], h, ap (λ (z : Change). z ∷ h) same, here))
    (λ (there : length h ≢ place).
    let s = splits place h c (sym (change-there place d h there) ∙ e) in
    (d ∷ s.0, s.1, ap (λ (z : History). d ∷ z) s.2, s.3))

before-split : (place : ℕ) (h : History) (c : Change) (s : Splits h place c) →
    before_place place h ≡ s.1
before-split place h c s =
    let whole : (s.0 ++ c ∷ []) ++ s.1 ≡ h = append_assoc s.0 (c ∷ []) s.1 ∙ s.2 in
    subst (λ (z : ℕ × History). before_place z.0 z.1 ≡ s.1) (λ k. (s.3 k, whole k))
    (before_place-append (s.0 ++ c ∷ []) s.1)

all-parts : (m : Map) (h : History) (log : Log) → AllStandIn m h log → AllParts m h log
all-parts m h [] stand = tt
all-parts m h (Look place lo hi found ∷ es) stand = all-parts m h es stand.1
all-parts m h (Made place c old ∷ es) stand =
    let s : Splits h place c = splits place h c stand.0.0 in
    let value = ap (λ (z : History). look (after m z) (key_of c)) (before-split place h c s) in
    ((s.0, s.1, s.2, s.3, sym value ∙ stand.0.1.0), all-parts m h es stand.1)

-- two ends of one list that are as long are one
same-end : {A : Type 0} (a b c d : List A) → a ++ b ≡ c ++ d → length b ≡ length d → b ≡ d
same-end [] b [] d e n = e
same-end [] b (x ∷ c) d e n =
    let l = ap length e in let k = length-append c d in absurd (omega arith)
same-end (y ∷ a) b [] d e n =
    let l = ap length e in let k = length-append a b in absurd (omega arith)
same-end (y ∷ a) b (x ∷ c) d e n = same-end a b c d (let t : a ++ b ≡ c ++ d = cc in t) n

-- a shorter end of a list is an end of the longer one
ends : {A : Type 0} (a b c d : List A) → a ++ b ≡ c ++ d → length d ≤ length b →
    (m : List A) × (m ++ d ≡ b)
ends [] b c d e le = (c, sym e)
ends (y ∷ a) b [] d e le =
    let l = ap length e in let k = length-append a b in absurd (omega arith)
ends (y ∷ a) b (x ∷ c) d e le = ends a b c d (let t : a ++ b ≡ c ++ d = cc in t) le

more-changes : (i : ℕ) (newer h : History) →
    length (changes_by i h) ≤ length (changes_by i (newer ++ h))
more-changes i [] h = omega arith
more-changes i (c ∷ newer) h =
    let rest = more-changes i newer h in
    dite (ℕ_discrete (caller_of c) i)
    (λ (e : caller_of c ≡ i). rw (by-mine c i (newer ++ h) e) (omega arith))
    (λ (n : caller_of c ≢ i). rw (by-other c i (newer ++ h) n) rest)

-- ---- logs by places ----

-- the newest entry stands before a place
abbrev Early : ℕ → Log → Type 0
Early n [] = Unit {0}
Early n (e ∷ es) = place_of e < n

place-next : (e : Entry) → place_of e ≤ next_place e
place-next (Made place change old) = omega arith
place-next (Look place lo hi found) = omega arith

early-tail : (n k : ℕ) (es : Log) → least_place es ≤ k → k < n → Early n es
early-tail n k [] le lt = tt
early-tail n k (e ∷ es) le lt = let a = place-next e in omega arith

-- a log that stands before a place has no look there
no-looks : (n : ℕ) (l : Log) → IsOrdered l → Early n l → own_looks n l ≡ []
no-looks n [] up early = refl
no-looks n (Made place c old ∷ es) up early =
    no-looks n es up.1 (early-tail n place es up.0 early)
no-looks n (Look place lo hi found ∷ es) up early =
    rw (ne_eqb place n (λ z. let a = early in omega arith))
    (no-looks n es up.1 (early-tail n place es up.0 early))

-- all changes of the log are the caller's
abbrev AreBy : ℕ → Log → Type 0
AreBy i [] = Unit {0}
AreBy i (Made place c old ∷ es) = (caller_of c ≡ i) × AreBy i es
AreBy i (Look place lo hi found ∷ es) = AreBy i es

are-by : (i : ℕ) (l : Log) (h : History) → changes_by i h ≡ changes_of l → AreBy i l
are-by i [] h e = tt
are-by i (Look place lo hi found ∷ es) h e = are-by i es h e
are-by i (Made place d old ∷ es) [] e = cc
are-by i (Made place d old ∷ es) (c ∷ h) e =
    dite (ℕ_discrete (caller_of c) i)
    (λ (is : caller_of c ≡ i).
    let both : c ∷ changes_by i h ≡ d ∷ changes_of es = sym (by-mine c i h is) ∙ e in
    let first : c ≡ d = cc in
    let rest : changes_by i h ≡ changes_of es = cc in
    (ap caller_of (sym first) ∙ is, are-by i es h rest))
    (λ (n : caller_of c ≢ i).
    are-by i (Made place d old ∷ es) h (sym (by-other c i h n) ∙ e))

-- a log has at most the changes of its caller before its least place
counts : (m : Map) (full : History) (i : ℕ) (l : Log) (newer h : History) → newer ++ h ≡ full →
    AllParts m full l → IsOrdered l → AreBy i l → least_place l ≤ length h →
    length (changes_of l) ≤ length (changes_by i h)
counts m full i [] newer h is s up mine le = omega arith
counts m full i (Look place lo hi found ∷ es) newer h is s up mine le =
    let a = up.0 in counts m full i es newer h is s up.1 mine (omega arith)
counts m full i (Made place c old ∷ es) newer h is s up mine le =
    let t = s.0 in
    let older : History = t.1 in
    let at : length older ≡ place = t.3 in
    let fits : length (c ∷ older) ≤ length h = omega arith in
    let within = ends newer h t.0 (c ∷ older) (is ∙ sym t.2) fits in
    let split : (t.0 ++ c ∷ []) ++ older ≡ full = append_assoc t.0 (c ∷ []) older ∙ t.2 in
    let a = up.0 in
    let rest = counts m full i es (t.0 ++ c ∷ []) older split s.1 up.1 mine.1 (omega arith) in
    let one = ap (λ (z : History). length z) (by-mine c i older mine.0) in
    let all = more-changes i within.0 (c ∷ older) in
    let same = ap (λ (z : History). length (changes_by i z)) within.1 in
    omega arith

-- ---- what stands late does not matter to an earlier part ----

part-skip : (m : Map) (i : ℕ) (h : History) (place lo hi : ℕ) (found : Option (ℕ × ℕ)) (es : Log) →
    length h < place → part m i h (Look place lo hi found ∷ es) ≡ part m i h es
part-skip m i [] place lo hi found es lt = rw (ne_eqb place 0 (λ z. omega arith)) refl
part-skip m i (c ∷ h) place lo hi found es lt =
    let e = part-skip m i h place lo hi found es (omega arith) in
    rw (ne_eqb place (length (c ∷ h)) (λ z. omega arith))
    (ap (λ (z : Log). own_looks (length (c ∷ h)) es
    ++ cond (caller_of c == i) (Made (length h) c (look (after m h) (key_of c)) ∷ z) z) e)

part-made : (m : Map) (i : ℕ) (h : History) (place : ℕ) (d : Change) (old : Option ℕ) (es : Log) →
    part m i h (Made place d old ∷ es) ≡ part m i h es
part-made m i [] place d old es = refl
part-made m i (c ∷ h) place d old es =
    ap (λ (z : Log). own_looks (length (c ∷ h)) es
    ++ cond (caller_of c == i) (Made (length h) c (look (after m h) (key_of c)) ∷ z) z)
    (part-made m i h place d old es)

all-at-none : (l : Log) → IsOrdered l → least_place l ≤ 0 → own_looks 0 l ≡ l
all-at-none [] up le = refl
all-at-none (Made place c old ∷ es) up le = absurd (omega arith)
all-at-none (Look place lo hi found ∷ es) up le =
    let a = up.0 in
    rw (eq-eqb place 0 (omega arith))
    (ap (λ (z : Log). Look place lo hi found ∷ z) (all-at-none es up.1 (omega arith)))

-- ---- the whole log ----

module _ (m : Map) (full : History) (i : ℕ) where
  -- the log is the caller's at an older history
  abbrev IsLogAt : History → Log → Type 0
  IsLogAt h l =
      ((newer : History) × (newer ++ h ≡ full)) × AllParts m full l × IsOrdered l
      × (least_place l ≤ length h) × (changes_by i h ≡ changes_of l)

  -- of two histories with one end, a change at the end of the first is that of the second
  last-change : (c d : Change) (h : History) (place : ℕ) (old : Option ℕ) → Parts m full place d old →
      (newer : History) × (newer ++ c ∷ h ≡ full) → place ≡ length h →
      (c ≡ d) × (look (after m h) (key_of c) ≡ old)
  last-change c d h place old t back at =
      let long : length t.1 ≡ place = t.3 in
      let same : d ∷ t.1 ≡ c ∷ h =
      same-end t.0 (d ∷ t.1) back.0 (c ∷ h) (t.2 ∙ sym back.1) (omega arith) in
      let one : d ≡ c = cc in
      let older : t.1 ≡ h = cc in (
        sym one,
        subst (λ (z : Change × History). look (after m z.1) (key_of z.0) ≡ old)
            (λ k. (one k, older k)) t.4,
      )

  -- a log without the caller's newest change ends before it
  low : (c : Change) (h : History) (l : Log) → IsLogAt (c ∷ h) l → Early (length (c ∷ h)) l →
      AreBy i l → caller_of c ≢ i → least_place l ≤ length h
  low c h [] f early mine ne = omega arith
  low c h (Look place lo hi found ∷ es) f early mine ne = let a = early in omega arith
  low c h (Made place d old ∷ es) f early mine ne =
      let a = early in
      dite (ℕ_discrete place (length h))
      (λ (at : place ≡ length h).
      let last = last-change c d h place old f.1.0 f.0 at in
      absurd (ne (ap caller_of last.0 ∙ mine.0)))
      (λ (n : place ≢ length h). omega arith)

  -- a log whose newest entry may be the caller's newest change has it there
  own : (c : Change) (h : History) (l : Log) → ((l : Log) → IsLogAt h l → part m i h l ≡ l) →
      IsLogAt (c ∷ h) l → Early (length (c ∷ h)) l → AreBy i l → caller_of c ≡ i →
      (newer : History) × (newer ++ h ≡ full) →
      Made (length h) c (look (after m h) (key_of c)) ∷ part m i h l ≡ l
  own c h [] earlier f early mine is back =
      let e : c ∷ changes_by i h ≡ [] = sym (by-mine c i h is) ∙ f.4 in cc
  own c h (Look place lo hi found ∷ es) earlier f early mine is back =
      let a = early in
      let before : place ≤ length h = omega arith in
      let e : c ∷ changes_by i h ≡ changes_of es = sym (by-mine c i h is) ∙ f.4 in
      let more = ap (λ (z : History). length z) e in
      let few = counts m full i (Look place lo hi found ∷ es) back.0 h back.1 f.1 f.2 mine before in
      absurd (omega arith)
  own c h (Made place d old ∷ es) earlier f early mine is back =
      let a = early in
      let e : c ∷ changes_by i h ≡ d ∷ changes_of es = sym (by-mine c i h is) ∙ f.4 in
      let more = ap (λ (z : History). length z) e in
      dite (ℕ_discrete place (length h))
      (λ (at : place ≡ length h).
      let last = last-change c d h place old f.1.0 f.0 at in
      let rest : changes_by i h ≡ changes_of es = cc in
      let up = f.2.0 in
      let tail : part m i h (Made place d old ∷ es) ≡ es =
      part-made m i h place d old es
      ∙ earlier es (back, f.1.1, f.2.1, (omega arith), rest) in
      λ k. Made (sym at k) (last.0 k) (last.1 k) ∷ tail k)
      (λ (n : place ≢ length h).
      let before : place + 1 ≤ length h = omega arith in
      let few = counts m full i (Made place d old ∷ es) back.0 h back.1 f.1 f.2 mine before in
      absurd (omega arith))

  -- where the log has no look behind the newest change
  before-last : (c : Change) (h : History) (l : Log) → ((l : Log) → IsLogAt h l → part m i h l ≡ l) →
      IsLogAt (c ∷ h) l → Early (length (c ∷ h)) l → part m i (c ∷ h) l ≡ l
  before-last c h l earlier f early =
      let none = no-looks (length (c ∷ h)) l f.2 early in
      let mine = are-by i l (c ∷ h) f.4 in
      let newer : History = f.0.0 in
      let back : (newer ++ c ∷ []) ++ h ≡ full = append_assoc newer (c ∷ []) h ∙ f.0.1 in
      dite (ℕ_discrete (caller_of c) i)
      (λ (is : caller_of c ≡ i). rw (none, eq-eqb (caller_of c) i is)
      (own c h l earlier f early mine is (newer ++ c ∷ [], back)))
      (λ (ne : caller_of c ≢ i). rw (none, ne_eqb (caller_of c) i ne)
      (earlier l (
        (newer ++ c ∷ [], back),
        f.1,
        f.2,
        low c h l f early mine ne,
        sym (by-other c i h ne) ∙ f.4,
      )))

  looks-first : (c : Change) (h : History) → ((l : Log) → IsLogAt h l → part m i h l ≡ l) →
      (l : Log) → IsLogAt (c ∷ h) l → part m i (c ∷ h) l ≡ l
  looks-first c h earlier [] f = before-last c h [] earlier f tt
  looks-first c h earlier (Made place d old ∷ es) f =
      let a = f.3 in
      let early : place < length (c ∷ h) = omega arith in
      before-last c h (Made place d old ∷ es) earlier f early
  looks-first c h earlier (Look place lo hi found ∷ es) f =
      let a = f.3 in
      let up = f.2.0 in
      dite (ℕ_discrete place (length (c ∷ h)))
      (λ (at : place ≡ length (c ∷ h)). rw (eq-eqb place (length (c ∷ h)) at)
      (ap (λ (z : Log). Look place lo hi found ∷ (own_looks (length (c ∷ h)) es
      ++ cond (caller_of c == i) (Made (length h) c (look (after m h) (key_of c)) ∷ z) z))
      (part-skip m i h place lo hi found es (omega arith))
      ∙ ap (λ (z : Log). Look place lo hi found ∷ z)
      (looks-first c h earlier es (f.0, f.1, f.2.1, (omega arith), f.4))))
      (λ (n : place ≢ length (c ∷ h)).
      let early : place < length (c ∷ h) = omega arith in
      before-last c h (Look place lo hi found ∷ es) earlier f early)

  whole : (h : History) (l : Log) → IsLogAt h l → part m i h l ≡ l
  whole [] l f = all-at-none l f.2 f.3
  whole (c ∷ h) l f = looks-first c h (λ k g. whole h k g) l f

pub logs-stand : LogsStandInTheWeave
logs-stand m h logs are i log at =
    let l = are i log at in
    entries-weave m i h logs log at
    ∙ whole m h i h log (
      ([], refl),
      all-parts m h log l.stand,
      l.ordered,
      end_in_history m i h log l,
      sym l.complete,
    )
