-- A walk of a caller of an opened group along the new groups.
use Rattle.std.proofs.Common.{◌≡◌, ℕ, suc, ◌+◌, ◌-◌, ◌<◌, ◌≤◌, ⊎_elim, true, [], ◌∷◌, ◌++◌}
use Rattle.std.proofs.Common.{append_assoc, refl, sym, ap, ◌∙◌, subst, arith}
use Rattle.std.proofs.Math.Logic.{∥∥₁_elim}
use Rattle.std.proofs.Props.{props}
use Rattle.word_layout.specs.declared.headers.HeaderWord.TheVariants.{Pivot}
use Rattle.word_layout.specs.declared.phase.Phase.TheVariants.{Opened}
use Rattle.word_layout.specs.Parts.{greatest_key}
use Rattle.index_machine.specs.declared.events.Action.TheVariants.{LoadHeader, LoadNext}
use Rattle.index_machine.specs.Conditions.{Valid}
use Rattle.index_machine.specs.Execution.{Execution, event}
use Rattle.index_machine.specs.Groups.{phase}
use Rattle.index_machine.specs.Reaching.{stands_in}
use Rattle.index_machine.specs.Sections.{IsCaller, StaysInside}
use Rattle.machine_chain.proofs.NewWalks.{new_ends, new_goes_on, new_stay}
use Rattle.machine_chain.proofs.Walking.{answers_while, pivots_while}
use Rattle.machine_chain.specs.Chain.{pivot_of}
use Rattle.machine_chain.specs.Walks.{AnswersFor, AnswersForNew, BeginsBeforeNew}
use Rattle.machine_readers.proofs.ReadSections.{stands_in_on}
use Rattle.index_rule.specs.declared.board.Board.{Board}
use Rattle.index_rule.specs.declared.hand.Hand.{Hand}
use Rattle.index_rule.specs.Calls.{CanCall}
use Rattle.index_rule.specs.Hands.{Makes, MakesAll, known, opening_of}
use Rattle.index_rule.specs.Moments.{AddsNoEntry}
use Rattle.index_rule.proofs.Standing.{stays_inside}
use Rattle.index_rule.proofs.Stepping.{known_is, others_only, valid_after}
use Rattle.root_table.specs.Standing.{IsInOpened, LeadsIntoTable, StandsIn}
use Rattle.root_table.specs.Walks.{GoesOn, HasGoneTo, LooksAhead, Stops, WalksTo}
use Rattle.root_table.proofs.Ahead.{after, ahead_inside, ahead_valid, at_end, before, first_inside, named, pivot_found}
use Rattle.root_table.proofs.Ahead.{stands_named, valid_named, whole}
use Rattle.root_table.proofs.NewPivots.{new_exists, next_new_exists, rises_new}

-- the caller of the opened group that began so has come to this new group
pub record HasWalkedNew (b : Board) (old first key : ℕ) (h : Hand) (group : ℕ) (m : Hand) : Type 0 where
  pub opened : IsInOpened b old first key m
  pub there : StandsIn b group m
  pub begins : BeginsBeforeNew (opening_of b) old first key group (known m)
  pub number : m.number ≡ h.number
  pub log : AddsNoEntry h m
  pub steps : ℕ
  pub gone : HasGoneTo b first key h steps group m

stays_joined : (c : ℕ) (n t : Execution) → StaysInside c n → StaysInside c t → StaysInside c (n ++ t)
stays_joined c [] t first then = then
stays_joined c (e ∷ n) t first then = (first.0, stays_joined c n t first.1 then)

-- it begins at the rebuild's first group
pub new_walk_begins : (b : Board) (old first key : ℕ) (h : Hand) → key ≤ greatest_key →
    IsInOpened b old first key h → BeginsBeforeNew (opening_of b) old first key first (known h) →
    HasWalkedNew b old first key h first h
new_walk_begins b old first key h most is begins =
    record {
      opened = is;
      there = record {
        call = is.call;
        stands = is.stands_new;
        in_table = ∥∥₁_elim (h.following (opening_of b) is.call.of.opened) (hlevel props)
            (λ follows.
            new_exists (opening_of b) (known h) follows.valid h.number old first key first
            is.call.reading.caller most is.opened is.stands_new begins);
      };
      begins = begins;
      number = refl;
      log = refl;
      steps = 0;
      gone = (refl, refl);
    }

-- what a caller of an opened group knows it knows to the end of its read section
module _ (b : Board) (old first key : ℕ) (h k : Hand) (newer : Execution) (stays : StaysInside h.number newer)
    (valid : Valid (opening_of b) (newer ++ known h)) (on : newer ++ known h ≡ known k)
    (number : k.number ≡ h.number) (can : CanCall b k) (is : IsInOpened b old first key h) where
  kept : (P : ℕ → Execution → Type 0) → P h.number (newer ++ known h) → P k.number (known k)
  kept P p = subst (λ (z : ℕ × Execution). P z.0 z.1) (λ i. (sym number i, on i)) p

  pub opened_on : IsInOpened b old first key k
  opened_on =
      record {
        call = can;
        stands = kept (λ c t. stands_in c old t ≡ true)
            (stands_in_on h.number old newer (known h) stays is.stands);
        answers = kept (λ c t. AnswersFor (opening_of b) key old t)
            (answers_while (opening_of b) h.number old key is.call.reading.caller newer (known h) valid stays
            is.stands is.answers);
        opened = kept (λ c t. phase old t ≡ Opened first)
            (new_stay (opening_of b) h.number old first key first is.call.reading.caller newer (known h) valid
            stays is.stands is.opened).0;
        stands_new = kept (λ c t. stands_in c first t ≡ true)
            (stands_in_on h.number first newer (known h) stays is.stands_new);
      }

module _ (b : Board) (old first key : ℕ) (h : Hand) (group : ℕ) (m : Hand) (most : key ≤ greatest_key)
    (on : HasWalkedNew b old first key h group m) where
  pub leads_new : LeadsIntoTable (opening_of b) m.number group (known m)
  leads_new newer valid stays next names =
      let o = opening_of b in
      let is = on.opened.call.reading.caller in
      let still = new_stay o m.number old first key group is newer (known m) valid stays on.opened.stands
      on.opened.opened in
      next_new_exists o (newer ++ known m) valid m.number old first key group is most still.0
      (stands_in_on m.number group newer (known m) stays on.there.stands) (still.1.0 on.begins) next names

  -- one load, as the step that it is
  one : (k : Hand) → MakesAll b m (LoadNext group 0 ∷ []) k → Makes b m (LoadNext group 0) k
  one k last = subst (λ (z : Hand). Makes b z (LoadNext group 0) k) last.1 last.2

  -- there is no next group
  ends_last : (k : Hand) → Makes b m (LoadNext group 0) k → AnswersForNew (opening_of b) old key group (known k)
  ends_last k loads =
      let o = opening_of b in
      let of = on.opened.call.of in
      let is = on.opened.call.reading.caller in
      let valid = valid_after b m k (LoadNext group 0) of loads in
      let inside = stays_inside m.number loads.acts.0 (others_only b m k (LoadNext group 0) of loads) in
      let still = new_stay o m.number old first key group is loads.acts.0 (known m) valid.1 inside
      on.opened.stands on.opened.opened in
      subst (AnswersForNew o old key group) (sym (known_is b m k (LoadNext group 0) of loads))
      (new_ends o m.number old first group key is most (loads.acts.0 ++ known m) valid
      (stands_in_on m.number old loads.acts.0 (known m) inside on.opened.stands) still.0 (still.1.0 on.begins))

  stays_opened : (k : Hand) → Makes b m (LoadNext group 0) k → CanCall b k → IsInOpened b old first key k
  stays_opened k loads can =
      let of = on.opened.call.of in
      opened_on b old first key m k (event m.number (LoadNext group 0) ∷ loads.acts.0)
      ((λ z. tt), stays_inside m.number loads.acts.0 (others_only b m k (LoadNext group 0) of loads))
      (valid_after b m k (LoadNext group 0) of loads)
      (sym (known_is b m k (LoadNext group 0) of loads)) loads.number can on.opened

  -- what it knows where it looked ahead
  module _ (next pivot : ℕ) (mid k : Hand) (loads : Makes b m (LoadNext group (next + 1)) mid)
      (looks : Makes b mid (LoadHeader next Pivot pivot) k) where
    abbrev earlier : Execution
    earlier = before b m mid k group next pivot on.opened.call.of loads looks

    abbrev loaded : Execution
    loaded = named b m mid k group next pivot on.opened.call.of loads looks

    abbrev since : Execution
    since = after b m mid k group next pivot on.opened.call.of loads looks

    valid_then : Valid (opening_of b) earlier
    valid_then = (valid_named b m mid k group next pivot on.opened.call.of loads looks).1

    others : StaysInside m.number loads.acts.0
    others = first_inside b m mid k group next pivot on.opened.call.of loads looks

    caller : IsCaller (opening_of b) m.number
    caller = on.opened.call.reading.caller

    still : (phase old earlier ≡ Opened first)
        × ((BeginsBeforeNew (opening_of b) old first key group (known m) →
        BeginsBeforeNew (opening_of b) old first key group earlier)
        × (AnswersForNew (opening_of b) old key group (known m) →
        AnswersForNew (opening_of b) old key group earlier))
    still =
        new_stay (opening_of b) m.number old first key group caller loads.acts.0 (known m) valid_then others
        on.opened.stands on.opened.opened

    way : (pivot_of (opening_of b) next (since ++ loaded) ≤ key →
        BeginsBeforeNew (opening_of b) old first key next (since ++ loaded)
        × (stands_in m.number next (since ++ loaded) ≡ true))
        × (key < pivot_of (opening_of b) next (since ++ loaded) →
        AnswersForNew (opening_of b) old key group (since ++ loaded))
    way =
        new_goes_on (opening_of b) m.number old first group next key caller most since earlier
        (ahead_valid b m mid k group next pivot on.opened.call.of loads looks)
        (ahead_inside b m mid k group next pivot on.opened.call.of loads looks)
        (stands_in_on m.number old loads.acts.0 (known m) others on.opened.stands) still.0
        (still.1.0 on.begins)

    -- the next group begins at or before the key
    pub begins_next : pivot ≤ key → BeginsBeforeNew (opening_of b) old first key next (known k)
    begins_next le =
        let found = pivot_found b m mid k group next pivot on.opened.call.of loads looks in
        at_end b m mid k group next pivot on.opened.call.of loads looks
        (λ c t. BeginsBeforeNew (opening_of b) old first key next t) (way.0 (omega (arith, le, found))).0

    -- or behind it, and the group is the key's new one
    pub ends_before : key < pivot → AnswersForNew (opening_of b) old key group (known k)
    ends_before lt =
        let found = pivot_found b m mid k group next pivot on.opened.call.of loads looks in
        at_end b m mid k group next pivot on.opened.call.of loads looks
        (λ c t. AnswersForNew (opening_of b) old key group t) (way.1 (omega (arith, lt, found)))

    -- the pivots rise
    pub rises : pivot ≤ key → (pivot_of (opening_of b) group (known m) < pivot_of (opening_of b) next (known k))
        × (pivot_of (opening_of b) next (known k) ≤ key)
    rises le =
        let o = opening_of b in
        let of = on.opened.call.of in
        let found = pivot_found b m mid k group next pivot of loads looks in
        let last : pivot_of o next (known k) ≡ pivot_of o next (since ++ loaded) =
        ap (pivot_of o next) (whole b m mid k group next pivot of loads looks) in
        let kept : pivot_of o next (since ++ loaded) ≡ pivot_of o next loaded =
        pivots_while o m.number next caller since loaded
        (ahead_valid b m mid k group next pivot of loads looks)
        (ahead_inside b m mid k group next pivot of loads looks)
        (stands_named b m mid k group next pivot of loads looks) in
        let same : pivot_of o group earlier ≡ pivot_of o group (known m) =
        pivots_while o m.number group caller loads.acts.0 (known m) valid_then others on.there.stands in
        let near : pivot_of o next earlier ≤ key = omega (arith, le, found, kept) in
        let up : pivot_of o group earlier < pivot_of o next earlier =
        rises_new o earlier valid_then m.number old first key group caller most still.0
        (stands_in_on m.number group loads.acts.0 (known m) others on.there.stands) (still.1.0 on.begins) next
        (valid_named b m mid k group next pivot of loads looks).0.found_word near in
        (omega (arith, up, same, last, kept), omega (arith, last, found, le))

    -- the caller stays in the old group
    pub opened_there : CanCall b k → IsInOpened b old first key k
    opened_there can =
        let of = on.opened.call.of in
        opened_on b old first key m k (since ++ (event m.number (LoadNext group (next + 1)) ∷ loads.acts.0))
        (stays_joined m.number since (event m.number (LoadNext group (next + 1)) ∷ loads.acts.0)
        (ahead_inside b m mid k group next pivot of loads looks) ((λ z. tt), others))
        (subst (Valid (opening_of b)) (sym (append_assoc since _ (known m)))
        (ahead_valid b m mid k group next pivot of loads looks))
        (append_assoc since _ (known m) ∙ sym (whole b m mid k group next pivot of loads looks))
        (looks.number ∙ loads.number) can on.opened

  -- the next group is at or before the key
  module _ (next : ℕ) (k : Hand) (goes : GoesOn b group key m next k) (there : StandsIn b next k)
      (number : k.number ≡ m.number) (log : AddsNoEntry m k) where
    abbrev mid_of : Hand
    mid_of = goes.2.0

    loads_of : Makes b m (LoadNext group (next + 1)) mid_of
    loads_of = subst (λ (z : Hand). Makes b z (LoadNext group (next + 1)) mid_of) goes.2.1.1 goes.2.1.2

    pub walks_on_new : HasWalkedNew b old first key h next k
    walks_on_new =
        record {
          opened = opened_there next goes.0 mid_of k loads_of goes.2.2 there.call;
          there = there;
          begins = begins_next next goes.0 mid_of k loads_of goes.2.2 goes.1;
          number = number ∙ on.number;
          log = log ∙ on.log;
          steps = suc on.steps;
          gone = (group, m, on.gone, goes);
        }

    -- and nearer to it
    pub nearer_new : key + 1 - pivot_of (opening_of b) next (known k)
        < key + 1 - pivot_of (opening_of b) group (known m)
    nearer_new =
        let up = rises next goes.0 mid_of k loads_of goes.2.2 goes.1 in
        omega (arith, up.0, up.1)

  -- the walk ends
  module _ (k : Hand) (stops : Stops b group key m k) (can : CanCall b k) where
    pub new_answers_there : AnswersForNew (opening_of b) old key group (known k)
    new_answers_there =
        ⊎_elim
        (λ (last : MakesAll b m (LoadNext group 0 ∷ []) k). ends_last k (one k last))
        (λ (behind : (next : ℕ) × (pivot : ℕ) × (key < pivot) × LooksAhead b group next pivot m k).
        let ahead = behind.3 in
        let mid : Hand = ahead.0 in
        ends_before behind.0 behind.1 mid k
        (subst (λ (z : Hand). Makes b z (LoadNext group (behind.0 + 1)) mid) ahead.1.1 ahead.1.2) ahead.2
        behind.2)
        stops

    pub new_opened_there : IsInOpened b old first key k
    new_opened_there =
        ⊎_elim
        (λ (last : MakesAll b m (LoadNext group 0 ∷ []) k). stays_opened k (one k last) can)
        (λ (behind : (next : ℕ) × (pivot : ℕ) × (key < pivot) × LooksAhead b group next pivot m k).
        let ahead = behind.3 in
        let mid : Hand = ahead.0 in
        opened_there behind.0 behind.1 mid k
        (subst (λ (z : Hand). Makes b z (LoadNext group (behind.0 + 1)) mid) ahead.1.1 ahead.1.2) ahead.2 can)
        stops

    pub new_walked_to : WalksTo b first key h group k
    new_walked_to = (on.steps, m, on.gone, stops)
