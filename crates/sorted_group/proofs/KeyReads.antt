-- One key of a group's array is loaded.
use Rattle.std.proofs.Common.{◌≡◌, ℕ, ◌+◌, ◌<◌, ◌≤◌, inl, inr, ⊎_elim, true, Some, List, [], ◌∷◌}
use Rattle.std.proofs.Common.{length}
use Rattle.std.proofs.Common.{take, length-take, refl, sym, ap, ◌∙◌, arith}
use Rattle.std.specs.Prelude.{slice_index}
use Rattle.std.proofs.lemmas.Bool.{cases_lt}
use Rattle.std.proofs.lemmas.List.{get_or-take}
use Rattle.std.proofs.Math.Logic.{∥∥₁_elim}
use Rattle.std.proofs.Props.{props}
use Rattle.word_layout.specs.Addresses.{array_address}
use Rattle.index_machine.specs.declared.events.Action.TheVariants.{LoadKey}
use Rattle.index_machine.specs.Execution.{Execution}
use Rattle.index_machine.specs.Keepers.{IsGroupKeeper}
use Rattle.index_machine.specs.Reaching.{stands_in}
use Rattle.index_machine.specs.Rows.{role, role_key}
use Rattle.index_machine.specs.Sections.{IsCaller, IsReading}
use Rattle.index_machine.specs.Words.{limits, shape}
use Rattle.index_machine.proofs.Executions.{ChangesOwnOnly, own_on, own_step}
use Rattle.machine_arrays.specs.Arrays.{HasKeyAt, array_keys}
use Rattle.machine_arrays.proofs.Keys.{list_fits, list_whole}
use Rattle.index_rule.specs.declared.board.Board.{Board}
use Rattle.index_rule.specs.declared.hand.Hand.{Hand}
use Rattle.index_rule.specs.Hands.{IsHandOf, Makes, known, opening_of}
use Rattle.index_rule.specs.Records.{CanSee}
use Rattle.index_rule.proofs.RecordStepping.{moment}
use Rattle.index_rule.proofs.Stepping.{known_is, others_only, valid_after}
use Rattle.sorted_group.specs.Arrays.{IsAnswered, MayReadKeys, first_keys}
use Rattle.sorted_group.specs.KeyLoads.{ReadsOn, key_loads, key_loads_after, key_loads_since}
use Rattle.sorted_group.proofs.ArrayLoads.{array_moment, array_on, may_read_on}

-- an index of the first keys is one of them, and of all
pub in_first : (len i : ℕ) (keys : List ℕ) → len ≤ length keys → i < length (take len keys) →
    (i < len) × (i < length keys)
in_first len i keys le lt =
    let e = length-take len keys in (omega (arith, e, le, lt), omega (arith, e, le, lt))

pub le_length : (len : ℕ) (keys others : List ℕ) → others ≡ keys → len ≤ length keys →
    len ≤ length others
le_length len keys others same le = let e = ap length same in omega arith

-- ---- before the load ----

module _ (b : Board) (g i : ℕ) (h : Hand) (of : IsHandOf b h)
    (lt : i < length (array_keys (opening_of b) g (known h))) where
  -- an index of the list is one of the array
  pub index_fits : i < (limits (opening_of b)).group_size
  index_fits = ∥∥₁_elim (h.following (opening_of b) of.opened) (hlevel props)
      (λ follows. let fits = list_fits (opening_of b) (known h) follows.valid g in omega arith)

  at_index : HasKeyAt (opening_of b) g i (slice_index (array_keys (opening_of b) g (known h)) i) (known h)
  at_index = ∥∥₁_elim (h.following (opening_of b) of.opened) (hlevel props)
      (λ follows. (list_whole (opening_of b) (known h) follows.valid g).stands i lt)

  -- the hand can see its place
  pub sees_index : ∥ MayReadKeys (opening_of b) h.number g (known h) ∥₁ →
      CanSee (opening_of b) h.number (array_address (shape (opening_of b)) g i) (known h)
  sees_index may = ⊎_elim
      (λ (is : IsCaller (opening_of b) h.number). inl (record {
        reading = reading is;
        there = inl (g, slice_index (array_keys (opening_of b) g (known h)) i, at_index, stands is);
      }))
      (λ (above : (limits (opening_of b)).callers ≤ h.number).
      inr (g, slice_index (array_keys (opening_of b) g (known h)) i, inl at_index, keeper above))
      (cases_lt h.number (limits (opening_of b)).callers)
    where
      reading : IsCaller (opening_of b) h.number → IsReading (opening_of b) h.number (known h)
      reading is = ∥∥₁_elim may (hlevel props) (λ m. ⊎_elim
          (λ (z : IsAnswered (opening_of b) h.number g (known h)). z.reading)
          (λ (z : IsGroupKeeper (opening_of b) h.number g). absurd (omega arith)) m)

      stands : IsCaller (opening_of b) h.number → stands_in h.number g (known h) ≡ true
      stands is = ∥∥₁_elim may (hlevel props) (λ m. ⊎_elim
          (λ (z : IsAnswered (opening_of b) h.number g (known h)). z.stands)
          (λ (z : IsGroupKeeper (opening_of b) h.number g). absurd (omega arith)) m)

      keeper : (limits (opening_of b)).callers ≤ h.number → IsGroupKeeper (opening_of b) h.number g
      keeper above = ∥∥₁_elim may (hlevel props) (λ m. ⊎_elim
          (λ (z : IsAnswered (opening_of b) h.number g (known h)).
          let is = z.reading.caller in absurd (omega arith))
          (λ (z : IsGroupKeeper (opening_of b) h.number g). z) m)

-- ---- behind it ----

one_some : {i j : ℕ} → Some i ≡ Some j → i ≡ j
one_some e = cc

own_only : ChangesOwnOnly key_loads_after
own_only (LoadKey place key) count = refl
own_only action count = refl

-- so many more since the reader was made
pub more_since : (h k : Hand) (first : Execution) → k.number ≡ h.number →
    key_loads k.number (known k) ≡ key_loads h.number (known h) + 1 →
    key_loads h.number first ≤ key_loads h.number (known h) →
    (key_loads k.number first ≤ key_loads k.number (known k))
    × (key_loads_since first k ≡ key_loads_since first h + 1)
more_since h k first same more since =
    let e : key_loads k.number first ≡ key_loads h.number first = ap (λ (c : ℕ). key_loads c first) same in
    (omega (arith, e, more, since), omega (arith, e, more, since))

module _ (b : Board) (g i place found : ℕ) (h k : Hand) (of : IsHandOf b h)
    (at : place ≡ array_address (shape (opening_of b)) g i) (m : Makes b h (LoadKey place found) k) where
  -- one key more was loaded
  pub one_more : key_loads k.number (known k) ≡ key_loads h.number (known h) + 1
  one_more =
      ap (λ (c : ℕ). key_loads c (known k)) m.number
      ∙ (ap (key_loads h.number) (known_is b h k (LoadKey place found) of m)
      ∙ (own_step key_loads_after 0 h.number (LoadKey place found)
      (moment b h k (LoadKey place found) of m)
      ∙ ap (λ (c : ℕ). c + 1)
      (own_on key_loads_after 0 own_only h.number m.acts.0 (known h)
      (others_only b h k (LoadKey place found) of m))))

  pub reads_one : i < (limits (opening_of b)).group_size → ReadsOn b g h k
  reads_one lt = record {
    actions = LoadKey place found ∷ [];
    are = ((i, lt, at), tt);
    makes = (h, refl, m);
    counted = one_more;
  }

  module _ (may : ∥ MayReadKeys (opening_of b) h.number g (known h) ∥₁) where
    pub may_on : ∥ MayReadKeys (opening_of b) k.number g (known k) ∥₁
    may_on = ∥∥₁_elim may (hlevel props)
        (λ z. ∣ may_read_on b g h k (LoadKey place found) tt of m z ∣₁)

    -- the list stays
    pub list_on : array_keys (opening_of b) g (known k) ≡ array_keys (opening_of b) g (known h)
    list_on = ∥∥₁_elim may (hlevel props)
        (λ z. (array_on b g h k (LoadKey place found) tt of m z).keys)

    -- and the key is that of the list
    pub key_is : (len : ℕ) → i < len → len ≤ length (array_keys (opening_of b) g (known h)) →
        found ≡ slice_index (first_keys len (opening_of b) g (known h)) i
    key_is len lt le = ∥∥₁_elim may (hlevel props) (λ z.
        let o = opening_of b in
        let t : Execution = moment b h k (LoadKey place found) of m in
        let same : array_keys o g t ≡ array_keys o g (known h) =
        (array_moment b g h k (LoadKey place found) tt of m z).keys in
        let valid = valid_after b h k (LoadKey place found) of m in
        let there : i < length (array_keys o g t) = omega (arith, ap length same, lt, le) in
        let stands = (list_whole o t valid.1 g).stands i there in
        one_some (sym valid.0.says ∙ (ap (λ (p : ℕ). role_key (role o p t)) at ∙ ap role_key stands))
        ∙ (ap (λ (y : List ℕ). slice_index y i) same
        ∙ sym (get_or-take len (array_keys o g (known h)) i 0 lt)))
