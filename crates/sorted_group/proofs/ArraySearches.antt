-- A hand that loads the size, the error of the line and keys of an array goes on as before, and meets one array.
use Rattle.std.proofs.Common.{inl}
use Rattle.std.proofs.Common.{◌≡◌, ℕ, ◌+◌, ◌*◌, ◌^◌, ◌≤◌, List, [], ◌∷◌, ◌++◌, length, take, refl}
use Rattle.std.proofs.Common.{sym, ap, ◌∙◌, subst, arith}
use Rattle.std.proofs.Math.Logic.{∥∥₁_elim}
use Rattle.std.proofs.Math.Pow.{pow_mono}
use Rattle.std.proofs.Math.Seq.{take-length}
use Rattle.std.proofs.Props.{props}
use Rattle.std.proofs.lemmas.Nat.{pow-add}
use Rattle.std.specs.List.Sorted.{IsStrictlyIncreasing}
use Rattle.line_window.specs.Line.{error_of}
use Rattle.word_layout.specs.declared.headers.HeaderWord.TheVariants.{LineError, Size}
use Rattle.index_machine.specs.declared.events.Action.{Action}
use Rattle.index_machine.specs.declared.events.Action.TheVariants.{LoadHeader, LoadKey}
use Rattle.index_machine.specs.declared.opening.Opening.{Opening}
use Rattle.index_machine.specs.Execution.{Execution}
use Rattle.machine_arrays.specs.Sizes.{HasSameArray}
use Rattle.machine_chain.specs.Walks.{AnswersFor}
use Rattle.machine_arrays.proofs.Changes.{same_now, same_trans}
use Rattle.machine_arrays.proofs.Keys.{list_rises}
use Rattle.index_rule.specs.declared.board.Board.{Board}
use Rattle.index_rule.specs.declared.hand.Hand.{Hand}
use Rattle.index_rule.specs.Hands.{IsHandOf, Makes, MakesAll, known, opening_of}
use Rattle.index_rule.specs.Moments.{AddsNoEntry}
use Rattle.sorted_group.specs.declared.group_keys.GroupKeys.{GroupKeys}
use Rattle.sorted_group.specs.Arrays.{CanLocate, CanReadKeys, first_keys}
use Rattle.sorted_group.specs.KeyLoads.{AreKeyLoads, IsKeyLoad, ReadsOn, key_loads, key_loads_since}
use Rattle.sorted_group.specs.KeyLoads.{makes_joined}
use Rattle.sorted_group.specs.Located.{FewKeyLoads, LoadsToLocate, keys_for}
use Rattle.sorted_group.specs.Readers.{IsNewReader, keys_of}
use Rattle.sorted_group.specs.Standing.{CanSearch}
use Rattle.sorted_group.proofs.ArrayLoads.{array_on, locate_on, locates_read}
use Rattle.sorted_group.proofs.BufferLoads.{AreBufferLoads, IsBufferLoad, log_on, search_on}

-- ---- the reader ----

-- a reader of as many keys as there are has all of them
pub has_all : (b : Board) (h : Hand) (g len : ℕ) (keys : GroupKeys) → IsNewReader b h g len keys →
    len ≡ length (keys_for b g h) → keys_of keys ≡ keys_for b g h
has_all b h g len keys new whole =
    let all : first_keys len (opening_of b) g (known h) ≡ keys_for b g h =
    ap (λ (n : ℕ). take n (keys_for b g h)) whole ∙ take-length (keys_for b g h) in
    rw (new.board_is, new.group_is, new.len_is, new.hand_is) all

-- they rise
pub all_rise : (b : Board) (h : Hand) (g len : ℕ) (keys : GroupKeys) → IsHandOf b h →
    IsNewReader b h g len keys → len ≡ length (keys_for b g h) → IsStrictlyIncreasing (keys_of keys)
all_rise b h g len keys of new whole =
    let rise : IsStrictlyIncreasing (keys_for b g h) =
    λ i lt. ∥∥₁_elim (h.following (opening_of b) of.opened) (hlevel props)
    (λ follows. list_rises (opening_of b) (known h) follows.valid g i lt) in
    subst (λ (z : List ℕ). IsStrictlyIncreasing z) (sym (has_all b h g len keys new whole)) rise

number_of_all : (b : Board) (h k : Hand) (ds : List Action) → MakesAll b h ds k → k.number ≡ h.number
number_of_all b h k [] makes = ap (λ (z : Hand). z.number) makes
number_of_all b h k (d ∷ ds) makes =
    makes.2.number ∙ number_of_all b h makes.0 ds makes.1

-- so many reads are few loads
pub few_loads : (b : Board) (g error n : ℕ) (h k : Hand) (first last : Execution) → ReadsOn b g h k →
    last ≡ first → key_loads h.number first ≤ key_loads h.number (known h) →
    key_loads_since last k ≤ key_loads_since first h + n + 3 → 2 ^ n ≤ 4 * error + 4 →
    FewKeyLoads b g error h k
few_loads b g error n h k first last reads same since most few =
    let number : k.number ≡ h.number = number_of_all b h k reads.actions reads.makes in
    let base : key_loads k.number last ≡ key_loads h.number first =
    ap (λ (c : ℕ). key_loads c last) number ∙ ap (key_loads h.number) same in
    let counted = reads.counted in
    let short : length reads.actions ≤ n + 3 = omega (arith, base, counted, since, most) in
    let up : 2 ^ length reads.actions ≤ 2 ^ (n + 3) = pow_mono short in
    let eight : 2 ^ (n + 3) ≡ 2 ^ n * 8 = pow-add 2 n 3 in
    record {
      keys = reads.actions;
      are = reads.are;
      few = omega (arith, up, eight, few);
      makes = reads.makes;
    }

-- they are loads of the hand with which the reader was made, up to that which it leaves
pub few_left : (b : Board) (h k last : Hand) (g len error : ℕ) (keys : GroupKeys) →
    IsNewReader b h g len keys → k ≡ last →
    FewKeyLoads keys.board.now keys.group error keys.hand.now last → FewKeyLoads b g error h k
few_left b h k last g len error keys new same few =
    subst (λ (z : Hand). FewKeyLoads b g error h z) (sym same)
    (subst (λ (z : Hand). FewKeyLoads b g error z last) new.hand_is
    (subst (λ (z : ℕ). FewKeyLoads b z error keys.hand.now last) new.group_is
    (subst (λ (z : Board). FewKeyLoads z keys.group error keys.hand.now last) new.board_is few)))

-- ---- the hand ----

-- the hand goes on as before, and meets the same array
pub record GoesOnSearching (b : Board) (g : ℕ) (h k : Hand) : Type 0 where
  pub number : k.number ≡ h.number
  pub can : CanLocate b g k
  pub search : CanSearch b g h → CanSearch b g k
  pub array : HasSameArray (opening_of b) g (known h) (known k)
  pub log : AddsNoEntry h k

goes_nowhere : (b : Board) (g : ℕ) (h : Hand) → CanLocate b g h → GoesOnSearching b g h h
goes_nowhere b g h can = record {
  number = refl;
  can = can;
  search = λ c. c;
  array = same_now (opening_of b) g (known h);
  log = refl;
}

goes_then : (b : Board) (g : ℕ) (h m k : Hand) → GoesOnSearching b g h m → GoesOnSearching b g m k →
    GoesOnSearching b g h k
goes_then b g h m k first second = record {
  number = second.number ∙ first.number;
  can = second.can;
  search = λ c. second.search (first.search c);
  array = same_trans (opening_of b) g (known h) (known m) (known k) first.array second.array;
  log = second.log ∙ first.log;
}

goes_by : (b : Board) (g : ℕ) (h k : Hand) (d : Action) → IsBufferLoad g d → Makes b h d k →
    CanLocate b g h → GoesOnSearching b g h k
goes_by b g h k d is m can = record {
  number = m.number;
  can = locate_on b g h k d is m can;
  search = search_on b g h k d is m;
  array = array_on b g h k d is can.of m (locates_read (opening_of b) h.number g (known h) can.may);
  log = log_on b g h k d is m h can.of refl;
}

-- over loads of the group's words
pub goes_by_loads : (b : Board) (g : ℕ) (h k : Hand) → CanLocate b g h → (ds : List Action) →
    AreBufferLoads g ds → MakesAll b h ds k → GoesOnSearching b g h k
goes_by_loads b g h k can [] are makes =
    subst (λ (z : Hand). GoesOnSearching b g h z) (sym makes) (goes_nowhere b g h can)
goes_by_loads b g h k can (d ∷ ds) are makes =
    let before = goes_by_loads b g h makes.0 can ds are.1 makes.1 in
    goes_then b g h makes.0 k before (goes_by b g makes.0 k d are.0 makes.2 before.can)

key_load_is : (o : Opening) (g : ℕ) (d : Action) → IsKeyLoad o g d → IsBufferLoad g d
key_load_is o g (LoadKey place key) is = tt
key_load_is o g d is = absurd is

-- loads of keys, and behind them older ones
keys_and_loads : (o : Opening) (g : ℕ) (ds es : List Action) → AreKeyLoads o g ds → AreBufferLoads g es →
    AreBufferLoads g (ds ++ es)
keys_and_loads o g [] es are old = old
keys_and_loads o g (d ∷ ds) es are old =
    (key_load_is o g d are.0, keys_and_loads o g ds es are.1 old)

-- those by which a key was located
pub locate_loads : (b : Board) (g : ℕ) (h k : Hand) → LoadsToLocate b g h k →
    (ds : List Action) × AreBufferLoads g ds × MakesAll b h ds k
locate_loads b g h k loads = (
  loads.keys
      ++ (LoadHeader g LineError (error_of (keys_for b g k))
      ∷ LoadHeader g Size (length (keys_for b g k)) ∷ []),
  keys_and_loads (opening_of b) g loads.keys
      (LoadHeader g LineError (error_of (keys_for b g k))
      ∷ LoadHeader g Size (length (keys_for b g k)) ∷ []) loads.are (refl, (refl, tt)),
  loads.makes,
)

-- a caller that can search a buffer can search the array too, where the group answers for a key, or did
pub answered_locates : (b : Board) (g key : ℕ) (h : Hand) → CanSearch b g h →
    AnswersFor (opening_of b) key g (known h) → CanLocate b g h
answered_locates b g key h can answers = record {
  of = can.call.of;
  in_table = can.in_table;
  may = inl (record { reading = can.call.reading; stands = can.stands; key = key; answers = answers });
}

-- who may search may read
pub can_read : (b : Board) (g : ℕ) (h : Hand) → CanLocate b g h → CanReadKeys b g h
can_read b g h can = record {
  of = can.of;
  in_table = can.in_table;
  may = locates_read (opening_of b) h.number g (known h) can.may;
}

-- ---- the whole search ----

module _ (b : Board) (g len error : ℕ) (h m n k : Hand) (can : CanLocate b g h)
    (first : Makes b h (LoadHeader g Size len) m) (second : Makes b m (LoadHeader g LineError error) n)
    (loads : FewKeyLoads b g error n k) where
  to_error : GoesOnSearching b g m n
  to_error = goes_by b g m n (LoadHeader g LineError error) refl second
      (locate_on b g h m (LoadHeader g Size len) refl first can)

  -- over its loads of keys
  pub over_keys : GoesOnSearching b g n k
  over_keys = goes_by_loads b g n k to_error.can (loads.keys ++ [])
      (keys_and_loads (opening_of b) g loads.keys [] loads.are tt)
      (makes_joined b n n k loads.keys [] refl loads.makes)

  -- over all of it
  pub over_all : GoesOnSearching b g h k
  over_all = goes_then b g h n k
      (goes_then b g h m n (goes_by b g h m (LoadHeader g Size len) refl first can) to_error) over_keys

  -- by these loads
  pub by_loads : len ≡ length (keys_for b g m) → error ≡ error_of (keys_for b g n) →
      LoadsToLocate b g h k
  by_loads len_is error_is =
      let error_then : error_of (keys_for b g k) ≡ error =
      ap error_of over_keys.array.keys ∙ sym error_is in
      let len_then : length (keys_for b g k) ≡ len =
      ap length (over_keys.array.keys ∙ to_error.array.keys) ∙ sym len_is in
      let all : MakesAll b h
      (loads.keys ++ (LoadHeader g LineError error ∷ LoadHeader g Size len ∷ [])) k =
      makes_joined b h n k loads.keys
      (LoadHeader g LineError error ∷ LoadHeader g Size len ∷ [])
      (m, (h, refl, first), second) loads.makes in
      let few = loads.few in
      record {
        keys = loads.keys;
        are = loads.are;
        few = omega (arith, few, error_then);
        makes = subst (λ (z : ℕ). MakesAll b h (loads.keys
            ++ (LoadHeader g LineError z ∷ LoadHeader g Size (length (keys_for b g k)) ∷ [])) k)
            (sym error_then)
            (subst (λ (z : ℕ). MakesAll b h (loads.keys
            ++ (LoadHeader g LineError error ∷ LoadHeader g Size z ∷ [])) k) (sym len_then) all);
      }
