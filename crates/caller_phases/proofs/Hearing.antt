-- Each pass heeds notes of all others, one after another: then it knows the longest of what they knew.
use Rattle.std.proofs.Common.{◌≡◌, ◌≢◌, ℕ, zero, suc, ◌+◌, ◌<◌, ◌≤◌, Bool, true, false, cond, ◌==◌, ◌⊎◌, inl, inr, ⊎_elim, List, [], ◌∷◌, ◌++◌}
use Rattle.std.proofs.Common.{length, length-append, get_or, set, refl, sym, ap, ◌∙◌, subst, arith, eqb-true}
use Rattle.std.specs.Prelude.{nat_lt}
use Rattle.std.proofs.lemmas.Bool.{eqb-false}
use Rattle.std.proofs.lemmas.List.{get_or-set_other, get_or-set_same, length-set}
use Rattle.index_machine.specs.Execution.{Continues, Execution}
use Rattle.index_machine.proofs.Executions.{continues_same, continues_trans}
use Rattle.machine_buffers.proofs.NextRows.{less_or_not}
use Rattle.index_rule.specs.Seats.{longer}
use Rattle.xindex_core.specs.declared.index.Index.{Index}
use Rattle.xindex_core.specs.declared.pass.Pass.{Pass}
use Rattle.xindex_core.specs.Notes.{HeedsNews, StaysAs}
use Rattle.xindex_core.specs.Passes.{IsPassOf, known_to, log_of, number_of}
use Rattle.caller_phases.specs.Telling.{AreEachOf, HasHeard, IsLongest, OneHears}

-- ---- executions ----

-- two executions of which each goes on from the other are one
no_more : (newer t u : Execution) → newer ++ t ≡ u → length u ≤ length t → t ≡ u
no_more [] t u on short = on
no_more (e ∷ newer) t u on short =
    let long = ap (λ (z : Execution). length z) on in
    let parts = length-append (e ∷ newer) t in
    absurd (omega arith)

pub same_length : (t u : Execution) → Continues t u → Continues u t → t ≡ u
same_length t u on back =
    let long = ap (λ (z : Execution). length z) back.1 in
    let parts = length-append back.0 u in
    no_more on.0 t u on.1 (omega arith)

-- the longer of two is one of them
one_of_two : (t u : Execution) → (longer t u ≡ t) ⊎ (longer t u ≡ u)
one_of_two t u = go (nat_lt (length t) (length u))
  where
    go : (b : Bool) → (cond b u t ≡ t) ⊎ (cond b u t ≡ u)
    go true = inr refl
    go false = inl refl

-- ---- passes that stay ----

stays_same : (i : Index) (p : Pass) → IsPassOf i p → StaysAs i p p
stays_same i p of = record { of = of; number = refl; known = refl; log = refl; spare = refl; probes = refl }

stays_still : (i : Index) (p q r : Pass) → StaysAs i p q → StaysAs i q r → StaysAs i p r
stays_still i p q r first second =
    record {
      of = second.of;
      number = second.number ∙ first.number;
      known = second.known ∙ first.known;
      log = second.log ∙ first.log;
      spare = second.spare ∙ first.spare;
      probes = second.probes ∙ first.probes;
    }

-- ---- one pass ----

-- the pass has heard from the others before this place, and these stay as they were
pub record HearsUpTo (i : Index) (old : List Pass) (own upto : ℕ) (new : List Pass) : Type 0 where
  pub many : length new ≡ length old
  pub of : (d : Pass) → IsPassOf i (get_or new own d)
  pub number : (d : Pass) → number_of (get_or new own d) ≡ number_of (get_or old own d)
  pub log : (d : Pass) → log_of (get_or new own d) ≡ log_of (get_or old own d)
  pub behind : (k : ℕ) (d e : Pass) → k < upto → k < length old →
      Continues (known_to (get_or old k d)) (known_to (get_or new own e))
  pub self : (d : Pass) → Continues (known_to (get_or old own d)) (known_to (get_or new own d))
  pub whose : ℕ
  pub within : whose < length old
  pub known : (d e : Pass) → known_to (get_or old whose d) ≡ known_to (get_or new own e)
  pub others : (k : ℕ) (d : Pass) → k < length old → k ≢ own →
      StaysAs i (get_or old k d) (get_or new k d)

-- at a place of a list it makes no difference what stands at none
pub no_default : (ps : List Pass) (k : ℕ) (d e : Pass) → k < length ps → get_or ps k d ≡ get_or ps k e
no_default [] k d e low = absurd (omega arith)
no_default (p ∷ ps) zero d e low = refl
no_default (p ∷ ps) (suc k) d e low = no_default ps k d e (omega arith)

pub hears_none : (i : Index) (old : List Pass) (own : ℕ) → own < length old → AreEachOf i old →
    HearsUpTo i old own 0 old
hears_none i old own low of =
    record {
      many = refl;
      of = λ d. of own d low;
      number = λ d. refl;
      log = λ d. refl;
      behind = λ k d e lt here. absurd (omega arith);
      self = λ d. continues_same (known_to (get_or old own d));
      whose = own;
      within = low;
      known = λ d e. ap known_to (no_default old own d e low);
      others = λ k d here other. stays_same i (get_or old k d) (of k d here);
    }

-- its own place is passed over
pub hears_own : (i : Index) (old : List Pass) (own : ℕ) (new : List Pass) → own < length old →
    HearsUpTo i old own own new → HearsUpTo i old own (own + 1) new
hears_own i old own new low h =
    record {
      many = h.many;
      of = h.of;
      number = h.number;
      log = h.log;
      behind = λ k d e lt here. go k d e lt here (k == own) refl;
      self = h.self;
      whose = h.whose;
      within = h.within;
      known = h.known;
      others = h.others;
    }
  where
    go : (k : ℕ) (d e : Pass) → k < own + 1 → k < length old → (b : Bool) → (k == own) ≡ b →
        Continues (known_to (get_or old k d)) (known_to (get_or new own e))
    go k d e lt here true same =
        let is = eqb-true k own same in
        let many = h.many in
        let new_is : get_or new own d ≡ get_or new own e =
        no_default new own d e (omega arith) in
        subst (λ (z : Pass). Continues (known_to (get_or old k d)) (known_to z)) new_is
        (subst (λ (n : ℕ). Continues (known_to (get_or old n d)) (known_to (get_or new own d)))
        (sym is) (h.self d))
    go k d e lt here false apart =
        let other : k ≢ own = eqb-false k own apart in h.behind k d e (omega arith) here

-- one more of the others tells it what it knows
hears_told : (i : Index) (old : List Pass) (own other : ℕ) (new : List Pass) (d e told heard : Pass) →
    own < length old → other < length old → other ≢ own → HearsUpTo i old own other new →
    StaysAs i (get_or new other d) told →
    HeedsNews i (get_or (set new other told) own e) (known_to (get_or new other d)) heard →
    HearsUpTo i old own (other + 1) (set (set new other told) own heard)
hears_told i old own other new d e told heard low below apart h stays heeds =
    record {
      many = many;
      of = λ f. subst (IsPassOf i) (sym (own_is f)) heeds.of;
      number = λ f. ap number_of (own_is f) ∙ (heeds.number ∙ (ap number_of (was_own e f) ∙ h.number f));
      log = λ f. ap log_of (own_is f) ∙ (heeds.log ∙ (ap log_of (was_own e f) ∙ h.log f));
      behind = λ k f g lt here. subst (λ (z : Pass). Continues (known_to (get_or old k f)) (known_to z))
          (sym (own_is g)) (from k f lt here (k == other) refl);
      self = λ f. subst (λ (z : Pass). Continues (known_to (get_or old own f)) (known_to z))
          (sym (own_is f)) (continues_trans (known_to (get_or old own f))
          (known_to (get_or new own f)) (known_to heard) (h.self f) (mine f));
      whose = whom.0;
      within = whom.1;
      known = λ f g. whom.2 f ∙ sym (ap known_to (own_is g));
      others = λ k f here far. subst (StaysAs i (get_or old k f))
          (sym (get_or-set_other (set new other told) own k heard f far))
          (rest k f here far (k == other) refl);
    }
  where
    were : length new ≡ length old
    were = h.many

    many : length (set (set new other told) own heard) ≡ length old
    many = length-set (set new other told) own heard ∙ (length-set new other told ∙ h.many)

    own_is : (f : Pass) → get_or (set (set new other told) own heard) own f ≡ heard
    own_is f =
        let long = length-set new other told in
        let same = h.many in
        get_or-set_same (set new other told) own heard f (omega arith)

    was_own : (f g : Pass) → get_or (set new other told) own f ≡ get_or new own g
    was_own f g =
        let same = h.many in
        get_or-set_other new other own told f (λ is. apart (sym is))
        ∙ no_default new own f g (omega arith)

    mine : (f : Pass) → Continues (known_to (get_or new own f)) (known_to heard)
    mine f = subst (λ (z : Pass). Continues (known_to z) (known_to heard)) (was_own e f)
        (heeds.own.0, heeds.own.1)

    other_is : (f : Pass) → known_to (get_or new other d) ≡ known_to (get_or old other f)
    other_is f =
        let same = h.many in
        ap known_to (no_default new other d f (omega arith)) ∙ (h.others other f below apart).known

    from : (k : ℕ) (f : Pass) → k < other + 1 → k < length old → (b : Bool) → (k == other) ≡ b →
        Continues (known_to (get_or old k f)) (known_to heard)
    from k f lt here true same =
        let is = eqb-true k other same in
        subst (λ (n : ℕ). Continues (known_to (get_or old n f)) (known_to heard)) (sym is)
        (subst (λ (t : Execution). Continues t (known_to heard)) (other_is f) heeds.told)
    from k f lt here false unlike =
        let differs : k ≢ other = eqb-false k other unlike in
        continues_trans (known_to (get_or old k f)) (known_to (get_or new own f)) (known_to heard)
        (h.behind k f f (omega arith) here) (mine f)

    whom : (whose : ℕ) × (whose < length old)
        × ((f : Pass) → known_to (get_or old whose f) ≡ known_to heard)
    whom = ⊎_elim
        (λ (first : longer (known_to (get_or (set new other told) own e)) (known_to (get_or new other d)) ≡ known_to (get_or (set new other told) own e)).
        (h.whose, h.within, λ f. h.known f f ∙ (sym (ap known_to (was_own e f)) ∙ sym (heeds.knows ∙ first))))
        (λ (second : longer (known_to (get_or (set new other told) own e)) (known_to (get_or new other d)) ≡ known_to (get_or new other d)).
        (other, below, λ f. sym (other_is f) ∙ sym (heeds.knows ∙ second)))
        (one_of_two (known_to (get_or (set new other told) own e)) (known_to (get_or new other d)))

    rest : (k : ℕ) (f : Pass) → k < length old → k ≢ own → (b : Bool) → (k == other) ≡ b →
        StaysAs i (get_or old k f) (get_or (set new other told) k f)
    rest k f here far true same =
        let is = eqb-true k other same in
        subst (λ (n : ℕ). StaysAs i (get_or old n f) (get_or (set new other told) n f)) (sym is)
        (subst (StaysAs i (get_or old other f)) (sym (get_or-set_same new other told f (omega (arith, were))))
        (stays_still i (get_or old other f) (get_or new other f) told (h.others other f below apart)
        (subst (λ (z : Pass). StaysAs i z told) (no_default new other d f (omega (arith, were))) stays)))
    rest k f here far false unlike =
        subst (StaysAs i (get_or old k f))
        (sym (get_or-set_other new other k told f (eqb-false k other unlike)))
        (h.others k f here far)

-- the same of passes that are known to stand at these places
pub hears_more : (i : Index) (old : List Pass) (own other : ℕ) (new : List Pass) (teller hearer : Pass)
    (news : Execution) (told heard : Pass) → own < length old → other < length old → other ≢ own →
    HearsUpTo i old own other new → teller ≡ get_or new other teller → StaysAs i teller told →
    news ≡ known_to teller → hearer ≡ get_or (set new other told) own hearer →
    HeedsNews i hearer news heard →
    HearsUpTo i old own (other + 1) (set (set new other told) own heard)
hears_more i old own other new teller hearer news told heard low below apart h at stays tells by heeds =
    hears_told i old own other new teller hearer told heard low below apart h
    (subst (λ (z : Pass). StaysAs i z told) at stays)
    (subst (λ (z : Pass × Execution). HeedsNews i z.0 z.1 heard)
    (λ j. (by j, (tells ∙ ap known_to at) j)) heeds)

hears_by : (i : Index) (old : List Pass) (own : ℕ) (new : List Pass) (d : Pass) → own < length old →
    HearsUpTo i old own (length old) new → OneHears i old own new
hears_by i old own new d low h =
    let same = h.many in
    record {
      many = h.many;
      longest = known_to (get_or new own d);
      is = record {
        behind = λ k e here. h.behind k e d here here;
        whose = h.whose;
        within = h.within;
        known = λ e. h.known e d;
      };
      hears = λ e. record {
        of = h.of e;
        number = h.number e;
        log = h.log e;
        known = ap known_to (no_default new own e d (omega arith));
      };
      others = h.others;
    }

pub hears_all : (i : Index) (old : List Pass) (own : ℕ) (new : List Pass) → own < length old →
    HearsUpTo i old own (length old) new → OneHears i old own new
hears_all i [] own new low h = absurd (omega arith)
hears_all i (p ∷ ps) own new low h = hears_by i (p ∷ ps) own new p low h

-- ---- all passes ----

-- the passes before this place know the longest of what all knew, and the others stay as they were
pub record AllUpTo (i : Index) (old : List Pass) (upto : ℕ) (new : List Pass) : Type 0 where
  pub many : length new ≡ length old
  pub longest : Execution
  pub is : 0 < upto → IsLongest old longest
  pub heard : (k : ℕ) (d : Pass) → k < upto → k < length old →
      HasHeard i (get_or old k d) longest (get_or new k d)
  pub stay : (k : ℕ) (d : Pass) → upto ≤ k → k < length old →
      StaysAs i (get_or old k d) (get_or new k d)

pub none_heard : (i : Index) (old : List Pass) → AreEachOf i old → AllUpTo i old 0 old
none_heard i old of =
    record {
      many = refl;
      longest = [];
      is = λ some. absurd (omega arith);
      heard = λ k d lt here. absurd (omega arith);
      stay = λ k d above here. stays_same i (get_or old k d) (of k d here);
    }

-- the pass that hears next knows just what those before it know
one_longest : (i : Index) (old : List Pass) (upto : ℕ) (new : List Pass) (a : AllUpTo i old upto new)
    (t : Execution) (d : Pass) → 0 < upto → upto < length old → IsLongest new t → t ≡ a.longest
one_longest i old upto new a t d some low is =
    let same = a.many in
    let first : known_to (get_or new 0 d) ≡ a.longest = (a.heard 0 d some (omega arith)).known in
    let back : Continues a.longest t =
    subst (λ (z : Execution). Continues z t) first (is.behind 0 d (omega arith)) in
    same_length t a.longest on back
  where
    whose : known_to (get_or new is.whose d) ≡ t
    whose = is.known d

    on : Continues t a.longest
    on = subst (λ (z : Execution). Continues z a.longest) whose
        (⊎_elim
        (λ (lt : is.whose < upto).
        subst (λ (z : Execution). Continues z a.longest)
        (sym (a.heard is.whose d lt (let same = a.many in let within = is.within in omega arith)).known)
        (continues_same a.longest))
        (λ (above : upto ≤ is.whose).
        subst (λ (z : Execution). Continues z a.longest)
        (sym (a.stay is.whose d above (let same = a.many in let within = is.within in omega arith)).known)
        ((a.is some).behind is.whose d (let same = a.many in let within = is.within in omega arith)))
        (less_or_not is.whose upto))

-- the longest of what passes know that stayed as they were is the longest of what they knew
longest_before : (i : Index) (old new : List Pass) (t : Execution) → length new ≡ length old →
    ((k : ℕ) (d : Pass) → 0 ≤ k → k < length old → StaysAs i (get_or old k d) (get_or new k d)) →
    IsLongest new t → IsLongest old t
longest_before i old new t many stay is =
    record {
      behind = λ k d here. subst (λ (z : Execution). Continues z t) (stay k d (omega arith) here).known
          (is.behind k d (omega arith));
      whose = is.whose;
      within = (let within = is.within in omega arith);
      known = λ d. sym (stay is.whose d (omega arith) (let within = is.within in omega arith)).known
          ∙ is.known d;
    }

-- one more of them has heard
more_by : (i : Index) (old : List Pass) (upto : ℕ) (new next : List Pass) (d : Pass) →
    upto < length old → AllUpTo i old upto new → OneHears i new upto next →
    AllUpTo i old (upto + 1) next
more_by i old upto new next d low a one = ⊎_elim later first (less_or_not 0 upto)
  where
    many : length next ≡ length old
    many = one.many ∙ a.many

    with_longest : (t : Execution) → one.longest ≡ t → IsLongest old t →
        ((k : ℕ) (f : Pass) → k < upto → k < length old →
        HasHeard i (get_or old k f) t (get_or new k f)) → AllUpTo i old (upto + 1) next
    with_longest t same is before =
        record {
          many = many;
          longest = t;
          is = λ some. is;
          heard = λ k f lt here. go k f lt here (k == upto) refl;
          stay = λ k f above here. (let were = a.many in
              stays_still i (get_or old k f) (get_or new k f) (get_or next k f)
              (a.stay k f (omega arith) here) (one.others k f (omega arith) (omega arith)));
        }
      where
        go : (k : ℕ) (f : Pass) → k < upto + 1 → k < length old → (b : Bool) → (k == upto) ≡ b →
            HasHeard i (get_or old k f) t (get_or next k f)
        go k f lt here true is_own =
            let own = eqb-true k upto is_own in
            let was = a.stay upto f (omega arith) low in
            let now = one.hears f in
            subst (λ (n : ℕ). HasHeard i (get_or old n f) t (get_or next n f)) (sym own)
            (record {
              of = now.of;
              number = now.number ∙ was.number;
              log = now.log ∙ was.log;
              known = now.known ∙ same;
            })
        go k f lt here false other =
            let apart : k ≢ upto = eqb-false k upto other in
            let were = a.many in
            let was = before k f (omega arith) here in
            let now = one.others k f (omega arith) apart in
            record {
              of = now.of;
              number = now.number ∙ was.number;
              log = now.log ∙ was.log;
              known = now.known ∙ was.known;
            }

    later : 0 < upto → AllUpTo i old (upto + 1) next
    later some = with_longest a.longest (one_longest i old upto new a one.longest d some low one.is)
        (a.is some) a.heard

    first : upto ≤ 0 → AllUpTo i old (upto + 1) next
    first none = with_longest one.longest refl
        (longest_before i old new one.longest a.many (λ k f above here. a.stay k f (omega arith) here) one.is)
        (λ k f lt here. absurd (omega arith))

pub more_heard : (i : Index) (old : List Pass) (upto : ℕ) (new next : List Pass) → upto < length old →
    AllUpTo i old upto new → OneHears i new upto next → AllUpTo i old (upto + 1) next
more_heard i [] upto new next low a one = absurd (omega arith)
more_heard i (p ∷ ps) upto new next low a one = more_by i (p ∷ ps) upto new next p low a one
