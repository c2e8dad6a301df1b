-- How a log goes on.
use Rattle.std.proofs.Common.{◌≡◌, ℕ, ◌<◌, ◌≤◌, Bool, true, false, cond, ◌==◌}
use Rattle.std.proofs.Common.{Option, Some, [], ◌∷◌, ◌++◌, length, length-append, refl, sym, ap, ◌∙◌, subst}
use Rattle.std.proofs.Common.{arith, eq-eqb, ne_eqb, lt-ltb, le-ltb}
use Rattle.std.proofs.lemmas.Bool.Decides.{nat_tests}
use Rattle.map_model.specs.declared.entries.Change.{Change}
use Rattle.map_model.specs.declared.entries.Entry.{Entry}
use Rattle.map_model.specs.declared.entries.Entry.TheVariants.{Made, Look}
use Rattle.map_model.specs.declared.entries.Change.TheVariants as change
use Rattle.map_model.specs.Map.{Map, IsRising, look, key_of}
use Rattle.map_model.specs.Answer.{pair_at}
use Rattle.map_model.proofs.Pairs.{found-at_one, rising-put, rising-remove}
use Rattle.map_model.specs.Entry.{StandsBetween}
use Rattle.map_model.specs.History.{History, after, caller_of}
use Rattle.map_model.specs.Logs.{before_place, change_at, StandsIn, Log, AllStandIn}
use Rattle.map_model.specs.LogLaws.{LogsEndInTheHistory, OthersKeepLogs, ChangesEndLogs, LooksEndLogs}

-- ---- places ----

-- a place with a change lies in the history
change_at-below : (place : ℕ) (h : History) (c : Change) → change_at place h ≡ Some c →
    place < length h
unfolding change_at
change_at-below place [] c e = let bad = e in cc
change_at-below place (d ∷ h) c e =
    by_test (length h == place) refl (change_at-below place h c) e
  where
    by_test : (b : Bool) → (length h == place) ≡ b →
        (change_at place h ≡ Some c → place < length h) →
        cond b (Some d) (change_at place h) ≡ Some c → place < length (d ∷ h)
    by_test true t older f = grind (arith, nat_tests)
    by_test false t older f = let below = older f in omega arith

-- what stands before a place of the history is the same when it grows
before_place-more : (place : ℕ) (d : Change) (h : History) → place ≤ length h →
    before_place place (d ∷ h) ≡ before_place place h
unfolding before_place
before_place-more place d h le = rw (le-ltb (length h) place le) refl

-- at its end it is the whole history
before_place-end : (h : History) → before_place (length h) h ≡ h
unfolding before_place
before_place-end [] = refl
before_place-end (d ∷ h) = rw (lt-ltb (length h) (length (d ∷ h)) (omega arith)) refl

change_at-more : (place : ℕ) (d : Change) (h : History) → place < length h →
    change_at place (d ∷ h) ≡ change_at place h
unfolding change_at
change_at-more place d h lt =
    rw (ne_eqb (length h) place (λ e. omega arith)) refl

change_at-end : (d : Change) (h : History) → change_at (length h) (d ∷ h) ≡ Some d
unfolding change_at
change_at-end d h = rw (eq-eqb (length h) (length h) refl) refl

-- behind newer changes it is what was there before them
pub before_place-append : (newer h : History) → before_place (length h) (newer ++ h) ≡ h
before_place-append [] h = before_place-end h
before_place-append (d ∷ newer) h =
    let long = length-append newer h in
    before_place-more (length h) d (newer ++ h) (omega arith) ∙ before_place-append newer h

-- a map stays one with rising keys
pub rising-after : (m : Map) (h : History) → IsRising m → IsRising (after m h)
rising-after m [] rising = rising
rising-after m (change.Put c k v ∷ h) rising =
    rising-put (after m h) k v (rising-after m h rising)
rising-after m (change.Remove c k ∷ h) rising =
    rising-remove (after m h) k (rising-after m h rising)

-- ---- entries ----

-- a look at one key is true where its history ends with newer changes
pub look-stands : (m : Map) (newer h : History) (key : ℕ) (found : Option ℕ) → IsRising m →
    look (after m h) key ≡ found →
    StandsIn m (newer ++ h) (Look (length h) key key (pair_at key found))
look-stands m newer h key found rising e =
    let long = length-append newer h in (
      omega arith,
      subst
          (λ (z : History × Option ℕ). StandsBetween (after m z.0)
          (Look (length h) key key (pair_at key z.1)) (after m z.0))
          (λ i. (sym (before_place-append newer h) i, e i))
          (omega arith, found-at_one (after m h) key (rising-after m h rising), refl),
    )

stands_more : (m : Map) (h : History) (d : Change) (e : Entry) → StandsIn m h e →
    StandsIn m (d ∷ h) e
stands_more m h d (Made place change old) s =
    let below = change_at-below place h change s.0 in (
      change_at-more place d h below ∙ s.0,
      (
        ap (λ (z : History). look (after m z) (key_of change))
            (before_place-more place d h (omega arith))
            ∙ s.1.0,
        refl,
      ),
    )
stands_more m h d (Look place lo hi found) s =
    let within = s.0 in (
      omega arith,
      subst (λ (z : History). StandsBetween (after m z) (Look place lo hi found) (after m z))
          (sym (before_place-more place d h s.0)) s.1,
    )

all_more : (m : Map) (h : History) (d : Change) (log : Log) → AllStandIn m h log →
    AllStandIn m (d ∷ h) log
all_more m h d [] s = tt
all_more m h d (e ∷ es) s = (stands_more m h d e s.0, all_more m h d es s.1)

-- ---- logs ----

pub end_in_history : LogsEndInTheHistory
end_in_history m c h [] l = omega arith
end_in_history m c h (Made place change old ∷ es) l =
    let below = change_at-below place h change l.stand.0.0 in omega arith
end_in_history m c h (Look place lo hi found ∷ es) l = l.stand.0.0

pub others_keep : OthersKeepLogs
others_keep m c h log d l other =
    record {
      stand = all_more m h d log l.stand;
      ordered = l.ordered;
      complete = l.complete ∙ sym (rw (ne_eqb (caller_of d) c other) refl);
    }

pub changes_end : ChangesEndLogs
changes_end m c h log d l mine =
    record {
      stand = (
        (
          change_at-end d h,
          (
            ap (λ (z : History). look (after m z) (key_of d))
                (before_place-more (length h) d h (omega arith) ∙ before_place-end h),
            refl,
          ),
        ),
        all_more m h d log l.stand,
      );
      ordered = (end_in_history m c h log l, l.ordered);
      complete = ap (λ (z : History). d ∷ z) l.complete
          ∙ sym (rw (eq-eqb (caller_of d) c mine) refl);
    }

pub looks_end : LooksEndLogs
looks_end m c h log place lo hi found l least stands =
    record {
      stand = (stands, l.stand);
      ordered = (least, l.ordered);
      complete = l.complete;
    }
