-- The last slot whose pivot is at most a key is found by halving.
--
-- The fact to remember: the pivots of the slots that a caller sees rise and stay, so pivots that were loaded at
-- different moments belong together.
use Rattle.std.proofs.Common.{◌≡◌, ℕ, zero, suc, ◌+◌, ◌-◌, ◌*◌, ◌/◌, ◌^◌, ◌<◌, ◌≤◌, inl, inr}
use Rattle.std.proofs.Common.{List, None, Some, [], ◌∷◌, ◌++◌, length, refl, sym, ap, ◌∙◌, subst, arith}
use Rattle.std.proofs.Math.Nat.{add-mul, mul-add, mul-le-mul_left, pow-suc}
use Rattle.std.proofs.Math.Logic.{∥∥₁_elim}
use Rattle.std.proofs.Props.{props}
use Rattle.index_machine.specs.declared.events.Action.{Action}
use Rattle.index_machine.specs.declared.events.Action.TheVariants.{Enter, LoadSlotPivot}
use Rattle.index_machine.specs.Conditions.{Valid}
use Rattle.index_machine.specs.Execution.{Execution, Without}
use Rattle.index_machine.specs.Groups.{IsInUse}
use Rattle.index_machine.specs.Keepers.{IsKeyIn}
use Rattle.index_machine.specs.Reaching.{SeesSlot, root_seen, root_seen_after}
use Rattle.index_machine.proofs.Executions.{ChangesOwnOnly, own_on, own_step}
use Rattle.machine_chain.proofs.SlotLoads.{seen_while}
use Rattle.machine_chain.proofs.Slots.{slots_lead}
use Rattle.machine_chain.specs.Laws.{KeepsRoot}
use Rattle.machine_chain.specs.Walks.{IsRootWord, slot_pivot}
use Rattle.index_rule.specs.declared.board.Board.{Board}
use Rattle.index_rule.specs.declared.hand.Hand.{Hand}
use Rattle.index_rule.specs.Hands.{Makes, MakesAll, known, opening_of}
use Rattle.index_rule.specs.Moments.{AddsNoEntry}
use Rattle.index_rule.specs.Records.{CanReadSlot}
use Rattle.index_rule.proofs.RecordReading.{no_entry}
use Rattle.index_rule.proofs.RecordStepping.{now, since}
use Rattle.index_rule.proofs.Stepping.{known_is, others_only, valid_after, valid_known}
use Rattle.root_table.specs.declared.slots.Slots.{Slots}
use Rattle.root_table.specs.Finding.{ArePivotLoads, LoadsFewPivots}
use Rattle.root_table.specs.Slots.{IsLastSlot, SeesSlots, root_word_of}
use Rattle.root_table.proofs.Steps.{call_on}

-- ---- slots that a caller sees ----

-- other hands load no root for this one
pub keeps_root : (c : ℕ) (n : Execution) → Without c n → KeepsRoot c n
keeps_root c [] out = tt
keeps_root c (e ∷ n) out = ((λ own. absurd (out.0 own)), keeps_root c n out.1)

-- the slot is one of the root word
in_use : (slots : Slots) (i : ℕ) → slots.side < 2 → i < slots.count →
    IsInUse (root_word_of slots) slots.side i
in_use slots i is_side lt = (slots.count, refl, is_side, lt)

module _ (b : Board) (slots : Slots) (h : Hand) (sees : SeesSlots b slots h) where
  pub sees_slot : (i : ℕ) → i < slots.count →
      SeesSlot h.number slots.part slots.side i (known h)
  sees_slot i lt = (root_word_of slots, sees.seen, in_use slots i sees.is_side lt)

  -- so it can be read
  pub reads_slot : (i : ℕ) → i < slots.count →
      CanReadSlot (opening_of b) h.number slots.part slots.side i (known h)
  reads_slot i lt = inl (sees.call.reading, sees_slot i lt)

  root_word : IsRootWord (opening_of b) slots.part (root_word_of slots) (known h)
  root_word = inr (h.number, sees.call.reading.caller, sees.seen)

  -- the first slot begins with the part
  pub first_begins : Valid (opening_of b) (known h) → (key : ℕ) → IsKeyIn (opening_of b) slots.part key →
      slot_pivot (opening_of b) slots.part slots.side 0 (known h) ≤ key
  first_begins valid key is =
      let some = sees.some in
      let least = (slots_lead (opening_of b) (known h) valid).least slots.part (root_word_of slots)
      slots.side root_word (in_use slots 0 sees.is_side (omega (arith, some))) in
      let from = is.from in
      omega (arith, least, from)

  -- and the pivots rise
  pub pivots_rise : Valid (opening_of b) (known h) → (i d : ℕ) → i + d < slots.count →
      slot_pivot (opening_of b) slots.part slots.side i (known h)
      ≤ slot_pivot (opening_of b) slots.part slots.side (i + d) (known h)
  pivots_rise valid i zero lt =
      let same : i ≡ i + 0 = omega arith in
      let pivot = λ (z : ℕ). slot_pivot (opening_of b) slots.part slots.side z (known h) in
      let here : pivot i ≤ pivot i = omega arith in
      subst (λ (z : ℕ). pivot i ≤ pivot z) same here
  pivots_rise valid i (suc d) lt =
      let pivot = λ (z : ℕ). slot_pivot (opening_of b) slots.part slots.side z (known h) in
      let before : pivot i ≤ pivot (i + d) = pivots_rise valid i d (omega arith) in
      let up : pivot (i + d) < pivot ((i + d) + 1) =
      (slots_lead (opening_of b) (known h) valid).rising slots.part (root_word_of slots) slots.side (i + d)
      root_word (in_use slots ((i + d) + 1) sees.is_side (omega arith)) in
      let same : (i + d) + 1 ≡ i + suc d = omega arith in
      let here : pivot i ≤ pivot ((i + d) + 1) = omega (arith, before, up) in
      subst (λ (z : ℕ). pivot i ≤ pivot z) same here

root_seen-own_only : (part : ℕ) → ChangesOwnOnly (root_seen_after part)
root_seen-own_only part (Enter n) word = refl
root_seen-own_only part action word = refl

-- ---- one load ----

module _ (b : Board) (slots : Slots) (slot pivot : ℕ) (h k : Hand) (sees : SeesSlots b slots h)
    (m : Makes b h (LoadSlotPivot slots.part slots.side slot pivot) k) where
  abbrev load : Action
  load = LoadSlotPivot slots.part slots.side slot pivot

  keeps : KeepsRoot h.number (since b h k load sees.call.of m)
  keeps = ((λ z. (tt, tt)), keeps_root h.number m.acts.0 (others_only b h k load sees.call.of m))

  seen_on : (i : ℕ) → i < slots.count →
      SeesSlot h.number slots.part slots.side i (since b h k load sees.call.of m ++ known h)
      × (slot_pivot (opening_of b) slots.part slots.side i (since b h k load sees.call.of m ++ known h)
      ≡ slot_pivot (opening_of b) slots.part slots.side i (known h))
  seen_on i lt =
      seen_while (opening_of b) h.number slots.part slots.side i sees.call.reading.caller
      (since b h k load sees.call.of m) (known h) (valid_after b h k load sees.call.of m) keeps
      (sees_slot b slots h sees i lt)

  -- the pivots stay
  pub pivot_still : (i : ℕ) → i < slots.count →
      slot_pivot (opening_of b) slots.part slots.side i (known k)
      ≡ slot_pivot (opening_of b) slots.part slots.side i (known h)
  pivot_still i lt =
      ap (slot_pivot (opening_of b) slots.part slots.side i) (known_is b h k load sees.call.of m)
      ∙ (seen_on i lt).1

  -- what was loaded is the slot's
  pub pivot_told : slot_pivot (opening_of b) slots.part slots.side slot (known k) ≡ pivot
  pivot_told =
      ap (slot_pivot (opening_of b) slots.part slots.side slot) (known_is b h k load sees.call.of m)
      ∙ (valid_after b h k load sees.call.of m).0.found_word

  -- and the caller still sees them
  pub sees_on : SeesSlots b slots k
  sees_on =
      record {
        call = call_on b h k load tt (λ z. z) m sees.call;
        is_part = sees.is_part;
        is_side = sees.is_side;
        some = sees.some;
        seen = now b h k load sees.call.of m
            (λ c t. root_seen c slots.part t ≡ Some (root_word_of slots))
            (own_step (root_seen_after slots.part) None h.number load (m.acts.0 ++ known h)
            ∙ (own_on (root_seen_after slots.part) None (root_seen-own_only slots.part) h.number m.acts.0
            (known h) (others_only b h k load sees.call.of m)
            ∙ sees.seen));
      }

-- ---- the halving ----

-- after so many loads there are so many of the slots left but one, of which few more loads tell
pub record IsHalved (count loads left : ℕ) : Type 0 where
  pub few : 2 ^ loads ≤ 2 * count
  pub fits : 2 ^ loads * left < count

halves : (count loads left rest : ℕ) → IsHalved count loads left → 1 ≤ left → rest + rest ≤ left →
    IsHalved count (suc loads) rest
halves count loads left rest old more half =
    let p : ℕ = 2 ^ loads in
    let fits : p * left < count = old.fits in
    let one : p * 1 ≤ p * left = mul-le-mul_left p more in
    let both : p * (rest + rest) ≤ p * left = mul-le-mul_left p half in
    let apart : p * (rest + rest) ≡ p * rest + p * rest = mul-add p rest rest in
    let doubled : 2 ^ suc loads ≡ p * 2 = pow-suc 2 loads in
    let again : (p * 2) * rest ≡ p * rest + p * rest = twice p rest in
    record {
      few = omega (arith, doubled, one, fits);
      fits = subst (λ (z : ℕ). z * rest < count) (sym doubled) (omega (arith, again, apart, both, fits));
    }
  where
    twice : (p rest : ℕ) → (p * 2) * rest ≡ p * rest + p * rest
    twice p rest =
        let double : p * 2 ≡ p + p = omega arith in
        ap (λ (z : ℕ). z * rest) double ∙ add-mul p p rest

-- what the hand knows as it has narrowed the slots down to those from `low` to `high`
pub record IsChoosing (b : Board) (slots : Slots) (key low high : ℕ) (h m : Hand) : Type 0 where
  pub sees : SeesSlots b slots m
  pub number : m.number ≡ h.number
  pub log : AddsNoEntry h m
  pub actions : List Action
  pub are : ArePivotLoads slots actions
  pub makes : MakesAll b h actions m
  pub halved : IsHalved slots.count (length actions) (high - low)
  pub ordered : low ≤ high
  pub within : high < slots.count
  pub begins : slot_pivot (opening_of b) slots.part slots.side low (known m) ≤ key
  pub last : (i : ℕ) → high < i → i < slots.count →
      key < slot_pivot (opening_of b) slots.part slots.side i (known m)

-- nothing is loaded yet
pub begins_choice : (b : Board) (slots : Slots) (key : ℕ) (h : Hand) → SeesSlots b slots h →
    IsKeyIn (opening_of b) slots.part key → IsChoosing b slots key 0 (slots.count - 1) h h
begins_choice b slots key h sees is =
    let some = sees.some in
    record {
      sees = sees;
      number = refl;
      log = refl;
      actions = [];
      are = tt;
      makes = refl;
      halved = record { few = omega arith; fits = omega arith };
      ordered = omega arith;
      within = omega arith;
      begins = ∥∥₁_elim (h.following (opening_of b) sees.call.of.opened) (hlevel props)
          (λ follows. first_begins b slots h sees follows.valid key is);
      last = λ i lt below. absurd (omega (arith, lt, below, some));
    }

module _ (b : Board) (slots : Slots) (key low high middle pivot : ℕ) (h m n : Hand)
    (on : IsChoosing b slots key low high h m) (left : low < high)
    (at : middle ≡ high - (high - low) / 2)
    (l : Makes b m (LoadSlotPivot slots.part slots.side middle pivot) n) where
  -- the middle is one of the slots that are left, and not the first one
  pub middle_within : (low < middle) × (middle ≤ high)
  middle_within = (omega arith, omega arith)

  narrowed : (low2 high2 : ℕ) → IsHalved slots.count (suc (length on.actions)) (high2 - low2) →
      low2 ≤ high2 → high2 < slots.count →
      slot_pivot (opening_of b) slots.part slots.side low2 (known n) ≤ key →
      ((i : ℕ) → high2 < i → i < slots.count →
      key < slot_pivot (opening_of b) slots.part slots.side i (known n)) →
      IsChoosing b slots key low2 high2 h n
  narrowed low2 high2 halved ordered within begins last =
      let action = LoadSlotPivot slots.part slots.side middle pivot in
      record {
        sees = sees_on b slots middle pivot m n on.sees l;
        number = l.number ∙ on.number;
        log = no_entry b m n action on.sees.call.of l (λ o t log. refl) ∙ on.log;
        actions = action ∷ on.actions;
        are = ((middle, pivot, refl), on.are);
        makes = (m, on.makes, l);
        halved = halved;
        ordered = ordered;
        within = within;
        begins = begins;
        last = last;
      }

  still : (i : ℕ) → i < slots.count → slot_pivot (opening_of b) slots.part slots.side i (known n)
      ≡ slot_pivot (opening_of b) slots.part slots.side i (known m)
  still i lt = pivot_still b slots middle pivot m n on.sees l i lt

  told : slot_pivot (opening_of b) slots.part slots.side middle (known n) ≡ pivot
  told = pivot_told b slots middle pivot m n on.sees l

  -- the slot is the middle one or one behind it
  pub goes_up : pivot ≤ key → IsChoosing b slots key middle high h n
  goes_up le =
      let here = middle_within in
      let told = told in
      let last = on.last in
      narrowed middle high
      (halves slots.count (length on.actions) (high - low) (high - middle) on.halved (omega arith)
      (omega arith))
      here.1 on.within (omega (arith, told, le)) (λ i above below.
      let same = still i below in
      let before = last i above below in
      omega (arith, same, before))

  -- or one before it
  pub goes_down : key < pivot → IsChoosing b slots key low (middle - 1) h n
  goes_down lt =
      let here = middle_within in
      let in_use = on.within in
      narrowed low (middle - 1)
      (halves slots.count (length on.actions) (high - low) (middle - 1 - low) on.halved (omega arith)
      (omega arith))
      (omega (arith, here)) (omega (arith, here, in_use))
      (let same = still low (omega (arith, left, in_use)) in
      let begins = on.begins in
      omega (arith, same, begins)) (λ i above below.
      let found = told in
      let same : middle + (i - middle) ≡ i = omega (arith, here, above) in
      let up = pivots_rise b slots n (sees_on b slots middle pivot m n on.sees l)
      (valid_known b m n (LoadSlotPivot slots.part slots.side middle pivot) on.sees.call.of l) middle
      (i - middle) (omega (arith, same, below)) in
      let pivots : slot_pivot (opening_of b) slots.part slots.side middle (known n)
      ≤ slot_pivot (opening_of b) slots.part slots.side i (known n) =
      subst (λ (z : ℕ). slot_pivot (opening_of b) slots.part slots.side middle (known n)
      ≤ slot_pivot (opening_of b) slots.part slots.side z (known n)) same up in
      omega (arith, found, lt, pivots))

-- ---- the slot that is left ----

module _ (b : Board) (slots : Slots) (key low high : ℕ) (h m : Hand)
    (on : IsChoosing b slots key low high h m) (none : high ≤ low) where
  pub is_last : IsLastSlot (opening_of b) slots key low (known m)
  is_last =
      let ordered = on.ordered in
      let within = on.within in
      record {
        is_slot = omega (arith, ordered, within);
        begins = on.begins;
        last = λ i above below. on.last i (omega (arith, none, above)) below;
      }

  pub loaded : LoadsFewPivots b slots h m
  loaded = (on.actions, on.are, on.halved.few, on.makes)
