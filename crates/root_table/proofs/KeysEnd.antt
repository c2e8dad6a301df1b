-- Where the keys of a group end, by the loads of its next word and of the pivot that is behind.
use Rattle.std.proofs.Common.{◌≡◌, ℕ, ◌+◌, ◌-◌, ◌<◌, ◌≤◌, ⊎_elim, true, [], ◌∷◌, ◌++◌, sym, ◌∙◌, subst, arith}
use Rattle.word_layout.specs.declared.headers.HeaderWord.TheVariants.{Pivot}
use Rattle.word_layout.specs.declared.phase.Phase.TheVariants.{Opened}
use Rattle.index_machine.specs.declared.events.Action.TheVariants.{LoadHeader, LoadNext}
use Rattle.index_machine.specs.Conditions.{Valid}
use Rattle.index_machine.specs.Execution.{Execution, event}
use Rattle.index_machine.specs.Groups.{phase}
use Rattle.index_machine.specs.Keepers.{last_key, part_of}
use Rattle.index_machine.specs.Reaching.{stands_in}
use Rattle.index_machine.specs.Sections.{StaysInside}
use Rattle.machine_chain.proofs.NewWalks.{new_stay}
use Rattle.machine_chain.proofs.PartKeys.{key_lies}
use Rattle.machine_chain.proofs.Walking.{answers_while, pivots_while}
use Rattle.machine_chain.specs.Chain.{end_of, pivot_of}
use Rattle.machine_chain.specs.Walks.{AnswersFor, AnswersForNew}
use Rattle.machine_readers.proofs.ReadSections.{stands_in_on}
use Rattle.index_rule.specs.declared.board.Board.{Board}
use Rattle.index_rule.specs.declared.hand.Hand.{Hand}
use Rattle.index_rule.specs.Hands.{Makes, known, opening_of}
use Rattle.index_rule.proofs.Standing.{stays_inside}
use Rattle.index_rule.proofs.Stepping.{known_is, others_only, valid_after}
use Rattle.root_table.specs.Ends.{EndsKeys, EndsNewKeys, HasKeys, IsNewOfKey, IsOfKey}
use Rattle.root_table.specs.Standing.{LeadsIntoTable, StandsIn}
use Rattle.root_table.proofs.Ahead.{after, ahead_inside, ahead_valid, at_end, before, first_inside, named, pivot_found}
use Rattle.root_table.proofs.Ahead.{stands_named, valid_named}
use Rattle.root_table.proofs.InTable.{answers_lead_on}
use Rattle.root_table.proofs.KeysAhead.{begins_there, last_keys, last_new, next_keys, next_new, part_answers, part_new}
use Rattle.root_table.proofs.NewPivots.{next_new_exists}

-- ---- a group that has keys ----

-- its next word names a group of the table
pub keys_lead : (b : Board) (group : ℕ) (h : Hand) → StandsIn b group h → HasKeys b group h →
    LeadsIntoTable (opening_of b) h.number group (known h)
keys_lead b group h there has =
    ⊎_elim
    (λ (z : (key : ℕ) × IsOfKey b group key h).
    answers_lead_on (opening_of b) h.number group z.0 (known h) there.call.reading.caller there.stands z.1.0
    z.1.1)
    (λ (z : (old : ℕ) × (first : ℕ) × (key : ℕ) × IsNewOfKey b old first group key h).
    leads_new z.0 z.1 z.2 z.3) has
  where
    leads_new : (old first key : ℕ) → IsNewOfKey b old first group key h →
        LeadsIntoTable (opening_of b) h.number group (known h)
    leads_new old first key is newer valid stays next names =
        let o = opening_of b in
        let c : ℕ = h.number in
        let caller = there.call.reading.caller in
        let still = new_stay o c old first key group caller newer (known h) valid stays is.1.stands is.1.opened
        in
        let stands = stands_in_on c group newer (known h) stays there.stands in
        next_new_exists o (newer ++ known h) valid c old first key group caller is.0 still.0 stands
        (begins_there o (newer ++ known h) valid c old first group key caller is.0
        (stands_in_on c old newer (known h) stays is.1.stands) still.0 stands (still.1.1 is.2)) next names

-- ---- there is no next group ----

module _ (b : Board) (h k : Hand) (group key : ℕ) (there : StandsIn b group h)
    (loads : Makes b h (LoadNext group 0) k) where
  abbrev then : Execution
  then = loads.acts.0 ++ known h

  valid_then : Valid (opening_of b) (event h.number (LoadNext group 0) ∷ then)
  valid_then = valid_after b h k (LoadNext group 0) there.call.of loads

  inside : StaysInside h.number loads.acts.0
  inside =
      stays_inside h.number loads.acts.0 (others_only b h k (LoadNext group 0) there.call.of loads)

  stands_then : (g : ℕ) → stands_in h.number g (known h) ≡ true → stands_in h.number g then ≡ true
  stands_then g s = stands_in_on h.number g loads.acts.0 (known h) inside s

  since_load : (P : Execution → Type 0) → P (event h.number (LoadNext group 0) ∷ then) → P (known k)
  since_load P p = subst P (sym (known_is b h k (LoadNext group 0) there.call.of loads)) p

  -- the keys of the group end with the part
  pub ends_with_part : IsOfKey b group key h →
      EndsKeys (opening_of b) group key (last_key (opening_of b) (part_of (opening_of b) group)) (known k)
  ends_with_part is =
      let o = opening_of b in
      let c : ℕ = h.number in
      let caller = there.call.reading.caller in
      let answers : AnswersFor o key group then =
      answers_while o c group key caller loads.acts.0 (known h) valid_then.1 inside there.stands is.1 in
      let end = part_answers o then valid_then.1 c group key caller is.0 (stands_then group there.stands) answers
      in
      let lies = key_lies o key is.0 in
      record {
        from = omega (arith, end, lies.1);
        to = omega (arith, end);
        all = λ m low high. since_load (AnswersFor o m group)
            (last_keys o then valid_then.1 c group key caller is.0 (stands_then group there.stands) answers
            valid_then.0.found_word m low (omega (arith, high, end)));
        behind = λ lt. absurd (omega (arith, lt, end));
      }

  -- and so do those of which it is the new group
  pub ends_new_with_part : (old first : ℕ) → IsNewOfKey b old first group key h →
      EndsNewKeys (opening_of b) old group key (last_key (opening_of b) (part_of (opening_of b) group))
      (known h) (known k)
  ends_new_with_part old first is =
      let o = opening_of b in
      let c : ℕ = h.number in
      let caller = there.call.reading.caller in
      let still = new_stay o c old first key group caller loads.acts.0 (known h) valid_then.1 inside is.1.stands
      is.1.opened in
      let old_there = stands_then old is.1.stands in
      let new_there = stands_then group there.stands in
      let end = part_new o then valid_then.1 c old first group key caller is.0 old_there still.0 new_there
      (still.1.1 is.2) in
      let lies = key_lies o key is.0 in
      record {
        from = omega (arith, end, lies.1);
        to = omega (arith, end);
        all = λ m low high has. since_load (AnswersForNew o old m group)
            (last_new o then valid_then.1 c old first group key caller is.0 old_there still.0 new_there
            (still.1.1 is.2) valid_then.0.found_word m low (omega (arith, high, end))
            (answers_while o c old m caller loads.acts.0 (known h) valid_then.1 inside is.1.stands has));
      }

-- ---- there is a next group ----

module _ (b : Board) (h m k : Hand) (group next pivot key : ℕ) (there : StandsIn b group h)
    (loads : Makes b h (LoadNext group (next + 1)) m) (looks : Makes b m (LoadHeader next Pivot pivot) k) where
  abbrev earlier : Execution
  earlier = before b h m k group next pivot there.call.of loads looks

  abbrev loaded : Execution
  loaded = named b h m k group next pivot there.call.of loads looks

  abbrev since : Execution
  since = after b h m k group next pivot there.call.of loads looks

  first : StaysInside h.number loads.acts.0
  first = first_inside b h m k group next pivot there.call.of loads looks

  valid_loaded : Valid (opening_of b) loaded
  valid_loaded = valid_named b h m k group next pivot there.call.of loads looks

  valid_since : Valid (opening_of b) (since ++ loaded)
  valid_since = ahead_valid b h m k group next pivot there.call.of loads looks

  within : StaysInside h.number since
  within = ahead_inside b h m k group next pivot there.call.of loads looks

  stands_earlier : (g : ℕ) → stands_in h.number g (known h) ≡ true → stands_in h.number g earlier ≡ true
  stands_earlier g s = stands_in_on h.number g loads.acts.0 (known h) first s

  stands_loaded : (g : ℕ) → stands_in h.number g (known h) ≡ true → stands_in h.number g loaded ≡ true
  stands_loaded g s =
      stands_in_on h.number g (event h.number (LoadNext group (next + 1)) ∷ []) earlier ((λ z. tt), tt)
      (stands_earlier g s)

  now_known : (P : Execution → Type 0) → P (since ++ loaded) → P (known k)
  now_known P p = at_end b h m k group next pivot there.call.of loads looks (λ c t. P t) p

  -- the pivot that was loaded stood there from the first load on
  pivot_is : pivot_of (opening_of b) next earlier ≡ pivot
  pivot_is =
      sym (pivots_while (opening_of b) h.number next there.call.reading.caller since loaded valid_since within
      (stands_named b h m k group next pivot there.call.of loads looks))
      ∙ pivot_found b h m k group next pivot there.call.of loads looks

  -- ---- keys for which it answers, or did ----

  module _ (is : IsOfKey b group key h) where
    answers_earlier : AnswersFor (opening_of b) key group earlier
    answers_earlier =
        answers_while (opening_of b) h.number group key there.call.reading.caller loads.acts.0 (known h)
        valid_loaded.1 first there.stands is.1

    ahead : (key < pivot_of (opening_of b) next earlier)
        × (pivot_of (opening_of b) next earlier ≤ end_of (opening_of b) key)
        × AnswersFor (opening_of b) (pivot_of (opening_of b) next earlier) next earlier
        × ((j : ℕ) → key ≤ j → j < pivot_of (opening_of b) next earlier →
        AnswersFor (opening_of b) j group earlier)
    ahead =
        next_keys (opening_of b) earlier valid_loaded.1 h.number group key there.call.reading.caller is.0
        (stands_earlier group there.stands) answers_earlier next valid_loaded.0.found_word

    pub behind_key : key < pivot
    behind_key = let low = ahead.0 in let same = pivot_is in omega (arith, low, same)

    pub ends_before_next : EndsKeys (opening_of b) group key (pivot - 1) (known k)
    ends_before_next =
        let o = opening_of b in
        let c : ℕ = h.number in
        let caller = there.call.reading.caller in
        let low = behind_key in
        let high = ahead.1 in
        let same = pivot_is in
        let following : pivot_of o next earlier ≡ (pivot - 1) + 1 = omega (arith, low, same) in
        record {
          from = omega (arith, low);
          to = omega (arith, high, same);
          all = λ j over under. now_known (AnswersFor o j group)
              (answers_while o c group j caller since loaded valid_since within
              (stands_loaded group there.stands) (ahead.3 j over (omega (arith, under, low, same))));
          behind = λ lt. (
            next,
            now_known (AnswersFor o ((pivot - 1) + 1) next)
                (answers_while o c next ((pivot - 1) + 1) caller since loaded valid_since within
                (stands_named b h m k group next pivot there.call.of loads looks)
                (subst (λ (j : ℕ). AnswersFor o j next earlier) following ahead.2)),
          );
        }

  -- ---- keys of which it is the new group ----

  module _ (old begun : ℕ) (is : IsNewOfKey b old begun group key h) where
    still : (phase old earlier ≡ Opened begun)
        × AnswersForNew (opening_of b) old key group earlier
    still =
        let stay = new_stay (opening_of b) h.number old begun key group there.call.reading.caller loads.acts.0
        (known h) valid_loaded.1 first is.1.stands is.1.opened in
        (stay.0, stay.1.1 is.2)

    ahead_new : (key < pivot_of (opening_of b) next earlier)
        × (pivot_of (opening_of b) next earlier ≤ end_of (opening_of b) key)
        × ((j : ℕ) → key ≤ j → j < pivot_of (opening_of b) next earlier →
        AnswersFor (opening_of b) j old earlier → AnswersForNew (opening_of b) old j group earlier)
    ahead_new =
        next_new (opening_of b) earlier valid_loaded.1 h.number old begun group key there.call.reading.caller is.0
        (stands_earlier old is.1.stands) still.0 (stands_earlier group there.stands) still.1 next
        valid_loaded.0.found_word

    pub behind_new_key : key < pivot
    behind_new_key = let low = ahead_new.0 in let same = pivot_is in omega (arith, low, same)

    pub ends_new_before_next : EndsNewKeys (opening_of b) old group key (pivot - 1) (known h) (known k)
    ends_new_before_next =
        let o = opening_of b in
        let c : ℕ = h.number in
        let caller = there.call.reading.caller in
        let low = behind_new_key in
        let high = ahead_new.1 in
        let same = pivot_is in
        record {
          from = omega (arith, low);
          to = omega (arith, high, same);
          all = λ j over under has. now_known (AnswersForNew o old j group)
              ((new_stay o c old begun j group caller since loaded valid_since within
              (stands_loaded old is.1.stands) still.0).1.1
              (ahead_new.2 j over (omega (arith, under, low, same))
              (answers_while o c old j caller loads.acts.0 (known h) valid_loaded.1 first is.1.stands has)));
        }

-- a pivot that is behind is not 0
pub pivot_some : (b : Board) (h m k : Hand) (group next pivot : ℕ) → StandsIn b group h →
    Makes b h (LoadNext group (next + 1)) m → Makes b m (LoadHeader next Pivot pivot) k →
    HasKeys b group h → 1 ≤ pivot
pivot_some b h m k group next pivot there loads looks has =
    ⊎_elim
    (λ (z : (key : ℕ) × IsOfKey b group key h).
    let low = behind_key b h m k group next pivot z.0 there loads looks z.1 in omega (arith, low))
    (λ (z : (old : ℕ) × (first : ℕ) × (key : ℕ) × IsNewOfKey b old first group key h).
    let low = behind_new_key b h m k group next pivot z.2 there loads looks z.0 z.1 z.3 in
    omega (arith, low)) has
