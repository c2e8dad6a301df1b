-- A step of any kind keeps the rule where its condition holds and its event stores what the step
-- stored.
use Rattle.std.proofs.Common.{◌≡◌, ◌≢◌, ℕ, inl, ⊎_elim, Bool, true, false, cond, Option, Some, None}
use Rattle.std.proofs.Common.{List, [], ◌∷◌, ◌++◌, slice_index, slice_set, set, refl, sym, ap, ◌∙◌}
use Rattle.std.proofs.Common.{subst, eq-eqb, length-set}
use mathlib.Core.Option.{some}
use lib.ListN.{get_elem?}
use Rattle.std.proofs.lemmas.Grind.{merely}
use Rattle.std.proofs.lemmas.List.{set-get_or}
use Rattle.atomic_table.specs.Table.{State, Me, keeps, Allows}
use Rattle.atomic_table.proofs.Lists.{at_set}
use Rattle.word_layout.specs.Words.{Word, IsWord, same_word}
use Rattle.word_layout.proofs.SameWords.{same_word-refl, same_word-true}
use Rattle.index_machine.specs.declared.events.Action.{Action}
use Rattle.index_machine.specs.declared.events.Event.{Event}
use Rattle.index_machine.specs.declared.opening.Opening.{Opening}
use Rattle.index_machine.specs.Execution.{Execution, event, Without}
use Rattle.index_machine.specs.Lists.{In}
use Rattle.index_machine.specs.Words.{shape, store_of, stored, word}
use Rattle.index_machine.specs.Sections.{crossings, crossings_after}
use Rattle.index_machine.specs.Conditions.{Allowed, Valid}
use Rattle.index_machine.proofs.Executions.{crossings_on, valid_before}
use Rattle.index_rule.specs.declared.view.View.{View}
use Rattle.index_rule.specs.Offsets.{HoldsWords, offset_of_word}
use Rattle.index_rule.specs.Rule.{Owns, GoesOn, Knows, AreApart}
use Rattle.index_rule.specs.Rule.{Kept, Acts, Does, number, first_of, stepped, HasLog, Follows}
use Rattle.index_rule.specs.Rule.{log_after, logged}
use Rattle.index_rule.proofs.Logging.{log_on, log_more}
use Rattle.index_rule.proofs.Offsets.{kept_at, stored_at}
use Rattle.map_model.specs.Logs.{Log, IsLogOf}
use Rattle.index_machine.specs.Openings.{opening_map}
use Rattle.index_machine.specs.LivePlaces.{history}
use Rattle.index_rule.specs.Rule.{KeepsLockedWord}
use Rattle.index_rule.specs.LockWords.{IsLockedWord, locked_word_after}
use Rattle.index_rule.proofs.LockWords.{locked_word_on, locked_word_own}

-- ---- the seats ----

-- a seat that is no more hands than before keeps the seats apart
pub apart_set : (views : List View) (id : ℕ) (v w : View) → AreApart views →
    get_elem? views id ≡ some v → ((hand : ℕ) → Owns w hand → Owns v hand) →
    AreApart (set views id w)
apart_set views id v w apart at sub i j c x y p q ox oy =
    ⊎_elim
    (λ (a : (i ≡ id) × (w ≡ x)). ⊎_elim
    (λ (b : (j ≡ id) × (w ≡ y)). a.0 ∙ sym b.0)
    (λ (b : (j ≢ id) × (get_elem? views j ≡ some y)).
    a.0 ∙ apart id j c v y at b.1 (sub c (subst (λ (z : View). Owns z c) (sym a.1) ox)) oy)
    (at_set views id j w y q))
    (λ (a : (i ≢ id) × (get_elem? views i ≡ some x)). ⊎_elim
    (λ (b : (j ≡ id) × (w ≡ y)).
    apart i id c x v a.1 at ox (sub c (subst (λ (z : View). Owns z c) (sym b.1) oy))
    ∙ sym b.0)
    (λ (b : (j ≢ id) × (get_elem? views j ≡ some y)). apart i j c x y a.1 b.1 ox oy)
    (at_set views id j w y q))
    (at_set views id i w x p)

pub is_some : (x : Option Opening) (o : Opening) → x ≡ Some o → x ≢ None
is_some x o e f = let z : None ≡ Some o = sym f ∙ e in cc

pub one_opening : (o p : Opening) → Some o ≡ Some p → o ≡ p
one_opening o p e = cc

-- an event of another hand
goes_more : (e : Event) (numbers : List ℕ) (known t : Execution) →
    ((hand : ℕ) → In hand numbers → e.by ≢ hand) → GoesOn numbers known t →
    GoesOn numbers known (e ∷ t)
goes_more e numbers known t others g =
    (e ∷ g.0, ap (λ (z : Execution). e ∷ z) g.1, λ c is. (others c is, g.2 c is))

-- ---- a load that is no event ----

-- what a seat that knows a beginning of the execution follows
pub follows_of : (o : Opening) (t : Execution) (v : View) → Valid o t → Knows o t v →
    Follows o v
follows_of o t v valid k =
    record {
      valid = valid_before o k.goes_on.0 v.known (subst (Valid o) (sym k.goes_on.1) valid);
      logged = k.logged;
    }

-- one seat knows the execution by another view, as the same hands, and no word changes
pub kept_with : (o : Opening) (s : State (Unit {0}) View) (id a : ℕ) (v w : View)
    (r : Kept o s) → get_elem? s.views id ≡ some v → ((hand : ℕ) → Owns w hand → Owns v hand) →
    Knows o r.execution w →
    Kept o record {
      words = slice_set s.words a (slice_index s.words a);
      homes = s.homes;
      views = set s.views id w;
    }
kept_with o s id a v w r at sub knows =
    record {
      execution = r.execution;
      valid = r.valid;
      words = subst (λ (z : List ℕ). HoldsWords o z r.execution) (sym (set-get_or s.words a 0))
          r.words;
      apart = apart_set s.views id v w r.apart at sub;
      known = λ i u p q. ⊎_elim (λ (b : (i ≡ id) × (w ≡ u)). subst (Knows o r.execution) b.1 knows)
          (λ (b : (i ≢ id) × (get_elem? s.views i ≡ some u)). r.known i u b.1 q)
          (at_set s.views id i w u p);
    }

-- ---- the words ----

-- the memory holds the words of the execution with its new event
holds_more : (o : Opening) (memory : List ℕ) (t : Execution) (c : ℕ) (d : Action) (w : Word)
    (x : ℕ) → IsWord (shape o) w → HoldsWords o memory t →
    ((u : Word) → stored (store_of c d) u (word o t u) ≡ cond (same_word w u) x (word o t u)) →
    HoldsWords o (slice_set memory (offset_of_word (shape o) w) x) (event c d ∷ t)
holds_more o memory t c d w x is_word old stores =
    record {
      wide = length-set memory (offset_of_word (shape o) w) x ∙ old.wide;
      each = λ u is. by_test u is (same_word w u) refl;
    }
  where
    by_test : (u : Word) → IsWord (shape o) u → (b : Bool) → same_word w u ≡ b →
        slice_index (slice_set memory (offset_of_word (shape o) w) x) (offset_of_word (shape o) u)
        ≡ stored (store_of c d) u (word o t u)
    by_test u is true e =
        let after : List ℕ = slice_set memory (offset_of_word (shape o) w) x in
        let same : w ≡ u = same_word-true w u e in
        ap (λ (z : Word). slice_index after (offset_of_word (shape o) z)) (sym same)
        ∙ (stored_at (shape o) memory w x old.wide is_word
        ∙ sym (stores u ∙ ap (λ (z : Bool). cond z x (word o t u)) e))
    by_test u is false e =
        let differ : w ≢ u =
        λ same. let z : true ≡ false = sym (same_word-refl w) ∙ (ap (same_word w) same ∙ e) in cc
        in
        kept_at (shape o) memory w u x is_word is differ
        ∙ (old.each u is ∙ sym (stores u ∙ ap (λ (z : Bool). cond z x (word o t u)) e))

-- ---- any step ----

-- what a step at the word w owes, whatever the execution is by then: its condition, and that its event
-- stores this
abbrev pub Owes : Opening → ℕ → View → Word → (ℕ → ℕ) → (ℕ → Action) → Type 0
Owes o c v w f d =
    (t : Execution) → Valid o t → (newer : Execution) → newer ++ v.known ≡ t → Without c newer →
    let n : ℕ = word o t w in
    Allowed o t c (d n)
    × ((u : Word) →
    stored (store_of c (d n)) u (word o t u) ≡ cond (same_word w u) (f n) (word o t u))

-- the views after a step
known_set : (o : Opening) (t : Execution) (d : Action) (views : List View) (id : ℕ) (v w : View)
    (c : ℕ) (log : Log) → Owns v c → AreApart views → get_elem? views id ≡ some v → Knows o t v →
    w ≡ record v { known = event c d ∷ t; heard = []; log = log } → HasLog o w →
    ((i : ℕ) (u : View) → get_elem? views i ≡ some u → u.opening ≢ None → Knows o t u) →
    (i : ℕ) (u : View) → get_elem? (set views id w) i ≡ some u → u.opening ≢ None →
    Knows o (event c d ∷ t) u
known_set o t d views id v w c log mine apart at k is has known i u p q =
    ⊎_elim
    (λ (a : (i ≡ id) × (w ≡ u)). subst (Knows o (event c d ∷ t)) (sym is ∙ a.1) (record {
      opening = k.opening;
      goes_on = ([], refl, λ _ _. tt);
      heard = tt;
      own_heard = tt;
      once = k.once;
      hands = k.hands;
      logged = subst (HasLog o) is has;
      heard_logged = tt;
    }))
    (λ (a : (i ≢ id) × (get_elem? views i ≡ some u)).
    let h = known i u a.1 q in
    let others : (hand : ℕ) → In hand u.numbers → c ≢ hand =
    λ hand own same. a.0 (apart i id hand u v a.1 at own (subst (Owns v) same mine))
    in
    record {
      opening = h.opening;
      goes_on = goes_more (event c d) u.numbers u.known t others h.goes_on;
      heard = h.heard;
      own_heard = h.own_heard;
      once = h.once;
      hands = h.hands;
      logged = h.logged;
      heard_logged = h.heard_logged;
    })
    (at_set views id i w u p)

-- the hand's log, after a step of its own
steps_log : (o : Opening) (v : View) (c : ℕ) (d : Action) (newer t : Execution) →
    v.opening ≡ Some o → v.numbers ≡ c ∷ [] → newer ++ v.known ≡ t →
    event (number v) d ∷ newer ++ v.known ≡ event c d ∷ t → HasLog o v → Allowed o t c d →
    Valid o t → Without c newer → HasLog o (stepped v d newer)
steps_log o v c d newer t live is whole named old may valid out hand one =
    let same : c ≡ hand = ap first_of (sym is ∙ one) in
    let before : IsLogOf (opening_map o) c (history t) v.log =
    subst (λ (z : Execution). IsLogOf (opening_map o) c (history z) v.log) whole
    (log_on o c newer v.known v.log (subst (Valid o) (sym whole) valid) out (old c is))
    in
    let after : IsLogOf (opening_map o) c (history (event c d ∷ t)) (log_after o t d v.log) =
    log_more o t c d v.log may before
    in
    let here : log_after o t d v.log ≡ logged v.opening (newer ++ v.known) d v.log =
    ap (λ (z : Execution). log_after o z d v.log) (sym whole)
    ∙ ap (λ z. logged z (newer ++ v.known) d v.log) (sym live)
    in
    subst (λ (z : Execution × Log). IsLogOf (opening_map o) hand (history z.0) z.1)
    (λ i. (sym named i, here i))
    (subst (λ (z : ℕ). IsLogOf (opening_map o) z (history (event c d ∷ t)) (log_after o t d v.log))
    same after)

-- how often the hand crossed, after a step of its own
crossings_stepped : (v : View) (d : Action) (newer : Execution) (c : ℕ) →
    v.numbers ≡ c ∷ [] → Without c newer →
    crossings c (stepped v d newer).known ≡ crossings_after true d (crossings c v.known)
crossings_stepped v d newer c is out =
    let mine : number v ≡ c = ap first_of is in
    let t : Execution = newer ++ v.known in
    ap (λ (z : Bool). crossings_after z d (crossings c t)) (eq-eqb (number v) c mine)
    ∙ ap (crossings_after true d) (crossings_on c newer v.known out)

-- the word that a caller keeps, after a step of its own
locked_stepped : (v : View) (d : Action) (newer : Execution) (c x : ℕ) → v.numbers ≡ c ∷ [] →
    Without c newer →
    ((o : Opening) → v.opening ≡ Some o → Valid o (stepped v d newer).known) →
    KeepsLockedWord v c x → KeepsLockedWord (stepped v d newer) c (locked_word_after d x)
locked_stepped v d newer c x is out valid old = record {
  kept = λ o of caller.
      let mine : number v ≡ c = ap first_of is in
      let may : Allowed o (newer ++ v.known) c d =
      subst (λ (z : ℕ). Allowed o (newer ++ v.known) z d) mine (valid o of).0
      in
      subst (λ (z : ℕ). IsLockedWord o c (locked_word_after d x) (event z d ∷ newer ++ v.known))
      (sym mine)
      (locked_word_own o c x d (newer ++ v.known) caller may
      (locked_word_on o c x newer v.known out (old.kept o of caller)));
}

pub acts : (o : Opening) (slots id : ℕ) (me : Me (Unit {0}) View) (c : ℕ) (w : Word)
    (f : ℕ → ℕ) (d : ℕ → Action) → IsWord (shape o) w → me.0.numbers ≡ c ∷ [] →
    me.0.opening ≡ Some o → Owes o c me.0 w f d →
    Allows (Kept o) slots id me (offset_of_word (shape o) w) f (λ n x. Does me (d n) x)
acts o slots id me c w f d is_word is live owes s r _ at _ =
    let v : View = me.0 in
    let k = r.known id v at (is_some v.opening o live) in
    let newer : Execution = k.goes_on.0 in
    let t : Execution = r.execution in
    let whole : newer ++ v.known ≡ t = k.goes_on.1 in
    let mine : Owns v c = subst (In c) (sym is) (inl refl) in
    let out : Without c newer = k.goes_on.2 c mine in
    let own = owes t r.valid newer whole out in
    let me_is : number v ≡ c = ap first_of is in
    let a : ℕ = offset_of_word (shape o) w in
    let found : slice_index s.words a ≡ word o t w = r.words.each w is_word in
    let here : Action = d (word o t w) in
    let named : event (number v) here ∷ newer ++ v.known ≡ event c here ∷ t =
    ap (λ (z : ℕ × Execution). event z.0 here ∷ z.1) (λ i. (me_is i, whole i))
    in
    let longer : Valid o (event c here ∷ t) = (own.0, r.valid, k.hands c mine) in
    let Goal : ℕ → Type 0 =
    λ n. Kept o record {
      words = slice_set s.words a (f n);
      homes = s.homes;
      views = set s.views id (stepped v (d n) newer);
    }
    × Acts v (d n) (stepped v (d n) newer)
    in
    let after : View = stepped v here newer in
    let has : HasLog o after = steps_log o v c here newer t live is whole named k.logged own.0 r.valid out in
    let kept : Kept o record {
      words = slice_set s.words a (f (word o t w));
      homes = s.homes;
      views = set s.views id after;
    } =
    record {
      execution = event c here ∷ t;
      valid = longer;
      words = holds_more o s.words t c here w (f (word o t w)) is_word r.words own.1;
      apart = apart_set s.views id v after r.apart at (λ _ h. h);
      known = known_set o t here s.views id v after c after.log mine r.apart at k
          (ap (λ (z : Execution). record v { known = z; heard = []; log = after.log }) named) has
          r.known;
    }
    in
    let tells : Acts v here (stepped v here newer) = (
      newer,
      refl,
      subst (λ (z : ℕ). Without z newer) (sym me_is) out,
      λ p of. subst (λ (z : Opening). Follows z after) (one_opening o p (sym live ∙ of)) (record {
        valid = subst (Valid o) (sym named) longer;
        logged = has;
      }),
    )
    in
    let all : Goal (slice_index s.words a) = subst Goal (sym found) (kept, tells) in
    let n : ℕ = slice_index s.words a in (
      stepped v (d n) newer,
      keeps,
      tt,
      all.0,
      record {
        acts = all.1;
        bare = refl;
        numbers = refl;
        following = λ p of. merely (all.1.3 p of);
        crossed = λ hand one. crossings_stepped v (d n) newer hand one
            (subst (λ (z : ℕ). Without z newer) (sym me_is ∙ ap first_of one) out);
        locked = λ hand word one. locked_stepped v (d n) newer hand word one
            (subst (λ (z : ℕ). Without z newer) (sym me_is ∙ ap first_of one) out)
            (λ p of. (all.1.3 p of).valid);
      },
    )
