-- How a call comes from the group of its key to the end, where the key has no value.
use Rattle.std.proofs.Common.{◌≡◌, ℕ, ◌+◌, ◌≤◌, ⊎_elim, inl, inr, Bool, false, true, cond, Some, None, [], ◌∷◌}
use Rattle.std.proofs.Common.{List, ◌++◌, refl, sym, ap, ◌∙◌, subst, arith}
use Rattle.word_layout.specs.declared.phase.Phase.TheVariants.{Opened}
use Rattle.word_layout.specs.Parts.{greatest_key}
use Rattle.index_machine.specs.declared.events.Action.{Action}
use Rattle.index_machine.specs.declared.events.Action.TheVariants.{LoadPhase, LoadRoot, LoadSlotGroup, LoadSlotPivot}
use Rattle.index_machine.specs.Conditions.{Valid}
use Rattle.index_machine.specs.Execution.{Execution}
use Rattle.index_machine.specs.Groups.{phase}
use Rattle.index_machine.specs.KeyRanges.{group_of, predecessor}
use Rattle.index_machine.specs.Permissions.{IsUnopened}
use Rattle.index_machine.specs.Reaching.{stands_in}
use Rattle.index_machine.proofs.Executions.{continues_trans}
use Rattle.machine_chain.proofs.Walking.{answers_while, buffers_walkable, while_unopened}
use Rattle.machine_chain.specs.Walks.{AnswersFor}
use Rattle.machine_readers.proofs.ReadSections.{stands_in_on}
use Rattle.machine_readers.specs.Readers.{ArrayHasNone}
use Rattle.index_rule.specs.declared.board.Board.{Board}
use Rattle.index_rule.specs.declared.hand.Hand.{Hand}
use Rattle.index_rule.specs.Calls.{CanCall}
use Rattle.index_rule.specs.Hands.{IsHandOf, Makes, MakesAll, known, opening_of}
use Rattle.index_rule.specs.Looks.{MayWriteLook}
use Rattle.index_rule.specs.Moments.{AddsNoEntry, IsWithin}
use Rattle.index_rule.proofs.Calls.{goes_on}
use Rattle.root_table.specs.declared.slots.Slots.{Slots}
use Rattle.root_table.specs.Finding.{ArePivotLoads, FindsGroup}
use Rattle.root_table.specs.Slots.{root_word_of}
use Rattle.root_table.specs.Standing.{StandsIn}
use Rattle.tried_calls.specs.declared.tried.Tried.TheVariants as tried
use Rattle.point_calls.specs.declared.acting.Aim.{Aim}
use Rattle.point_calls.specs.declared.acting.Aim.TheVariants as aim
use Rattle.point_calls.specs.Exchanges.{MakesFewExchanges, exchanges_head, exchanges_link, exchanges_lock}
use Rattle.point_calls.specs.Exchanges.{no_exchange}
use Rattle.point_calls.specs.Places.{GoesOn, IsAtBufferOf, IsInGroupFor, LacksInArray, LacksInOpened, Misses}
use Rattle.point_calls.specs.Places.{PassesBuffer, TellsOf}
use Rattle.point_calls.specs.PointCalls.{LooksUp}
use Rattle.point_calls.proofs.ArrayWay.{array_still, goes, group_still}
use Rattle.point_calls.proofs.ChainWay.{found_in, walk_none}
use Rattle.point_calls.proofs.Exchanging.{count_in, few_behind, none_by, none_made}
use Rattle.point_calls.proofs.Knowing.{call_is, call_on, call_step, in_call, spare_on, valid_at}
use Rattle.point_calls.proofs.Knowing.{within_on, within_whole}
use Rattle.point_calls.proofs.Lacking.{absent_unopened, array_none_on}
use Rattle.point_calls.proofs.PhaseLoads.{begins_first, in_opened, saw_first}
use Rattle.point_calls.proofs.Staying.{IsMidway, midway}

-- ---- from the root to the group ----

pivot_counts : (kind : Action → Bool) →
    ((part side slot pivot : ℕ) → kind (LoadSlotPivot part side slot pivot) ≡ false) → (slots : Slots) →
    (actions : List Action) → ArePivotLoads slots actions → count_in kind actions ≡ 0
pivot_counts kind none slots [] are = refl
pivot_counts kind none slots (d ∷ actions) are =
    let one = are.0 in
    ap (λ (z : Bool). cond z 1 0 + count_in kind actions)
    (ap kind one.2 ∙ none slots.part slots.side one.0 one.1)
    ∙ rest_is (pivot_counts kind none slots actions are.1)
  where
    rest_is : {n : ℕ} → n ≡ 0 → 0 + n ≡ 0
    rest_is is = omega arith

-- no exchange is tried on the way to the group
pub found_none : (b : Board) (key : ℕ) (h : Hand) (group : ℕ) (k : Hand) → IsHandOf b h →
    FindsGroup b key h group k → MakesFewExchanges no_exchange h k
found_none b key h group k of finds =
    let slots = finds.slots in
    let pivots = finds.pivots in
    few_behind no_exchange h finds.rooted k
    (none_by b h (LoadRoot slots.part (root_word_of slots)) finds.rooted of finds.root refl refl refl)
    (few_behind no_exchange finds.rooted finds.chosen k
    (none_made b finds.rooted pivots.0 finds.chosen finds.root.of pivots.3
    (pivot_counts exchanges_lock (λ p i s v. refl) slots pivots.0 pivots.1)
    (pivot_counts exchanges_head (λ p i s v. refl) slots pivots.0 pivots.1)
    (pivot_counts exchanges_link (λ p i s v. refl) slots pivots.0 pivots.1))
    (few_behind no_exchange finds.chosen finds.entered k
    (none_by b finds.chosen (LoadSlotGroup slots.part slots.side finds.slot finds.from) finds.entered
    chosen_of finds.entry refl refl refl)
    (walk_none b finds.from key finds.entered group k finds.entry.of finds.walk)))
  where
    of_all : (m : Hand) (actions : List Action) (n : Hand) → IsHandOf b m → MakesAll b m actions n → IsHandOf b n
    of_all m [] n of all = subst (IsHandOf b) (sym all) of
    of_all m (d ∷ actions) n of all = all.2.of

    chosen_of : IsHandOf b finds.chosen
    chosen_of = of_all finds.rooted finds.pivots.0 finds.chosen finds.root.of finds.pivots.3

-- there the call has begun
pub in_group : (b : Board) (start h : Hand) (key group : ℕ) (n : Hand) → start ≡ h → CanCall b h →
    FindsGroup b key h group n → StandsIn b group n → AnswersFor (opening_of b) key group (known n) →
    AddsNoEntry h n → IsInGroupFor b start n group key
in_group b start h key group n begins can finds there answers log =
    let i = found_in b key h group n can.of finds in
    subst (λ (z : Hand). IsInGroupFor b z n group key) (sym begins)
    (record {
      call = call_is b h n can.of i log;
      rows = i.rows;
      search = record {
        call = there.call;
        stands = there.stands;
        walkable = buffers_walkable (opening_of b) (known n) i.follows.valid n.number group
            there.call.reading.caller there.stands;
        in_table = there.in_table;
      };
      answers = answers;
    })

-- it can look in the buffer
pub at_buffer : (b : Board) (start h : Hand) (group key : ℕ) → IsInGroupFor b start h group key →
    IsAtBufferOf b start h group key
at_buffer b start h group key there =
    record {
      call = there.call;
      rows = there.rows;
      search = there.search;
      of_key = ⊎_elim (λ (z : group_of (opening_of b) key (known h) ≡ group). inl (inl z))
          (λ (z : predecessor (opening_of b) key (known h) ≡ Some group). inr z) there.answers;
    }

-- ---- behind the buffer ----

-- at a moment of a part of the call the caller stood in the group, which answered for the key, or did before
pub record StoodThere (b : Board) (m n : Hand) (group key : ℕ) (moment : Execution) : Type 0 where
  pub mid : IsMidway m moment n
  pub valid : Valid (opening_of b) moment
  pub stands : stands_in m.number group moment ≡ true
  pub answers : AnswersFor (opening_of b) key group moment
  pub array : ArrayHasNone (opening_of b) moment group key

module _ (b : Board) (start m k : Hand) (group key : ℕ) (lacks : LacksInArray b start m group key)
    (passes : PassesBuffer b start m group key k) where
  -- the array still has none
  pub lacks_still : LacksInArray b start k group key
  lacks_still =
      record {
        there = group_still b start m k group key lacks.there passes.on;
        array = array_still b start m k group key lacks.there passes.on lacks.array;
      }

  -- the phase is loaded
  module _ (word : ℕ) (n : Hand) (loads : Makes b k (LoadPhase group word) n) where
    abbrev load : Action
    load = LoadPhase group word

    pub on_phase : GoesOn b start k n
    on_phase =
        record {
          can = call_on b k n load tt (λ z. z) loads passes.on.can;
          call = call_step b start k n load tt (λ o t log. refl) passes.on.can.of loads passes.on.call;
          rows = λ spare has.
              spare_on b k n load passes.on.can.of loads tt spare (passes.on.rows spare has);
          since = goes_on b k n load passes.on.can.of loads;
        }

    pub none_by_phase : MakesFewExchanges no_exchange k n
    none_by_phase = none_by b k load n passes.on.can.of loads refl refl refl

    pub lacks_seen : LacksInArray b start n group key
    lacks_seen =
        record {
          there = group_still b start k n group key lacks_still.there on_phase;
          array = array_still b start k n group key lacks_still.there on_phase lacks_still.array;
        }

    -- where it is opened the caller may go on to the new groups
    pub lacks_opened : (first : ℕ) → phase group (known n) ≡ Opened first → key ≤ greatest_key →
        LacksInOpened b start n group first key
    lacks_opened first at most =
        let there = lacks_still.there in
        record {
          lacks = lacks_seen;
          opened = in_opened b group word key k n there.search most there.answers loads first at;
          begins = begins_first b group word key k n there.search most there.answers loads first at;
          saw = saw_first b group word key k n there.search most there.answers loads first at;
        }

    pub none_so_far : MakesFewExchanges no_exchange m n
    none_so_far = few_behind no_exchange m k n passes.exchanges none_by_phase

    pub on_whole : GoesOn b start m n
    on_whole =
        record {
          can = on_phase.can;
          call = on_phase.call;
          rows = on_phase.rows;
          since = continues_trans (known m) (known k) (known n) passes.on.since on_phase.since;
        }

    pub stood_there : (moment : Execution) → IsWithin m n moment → StoodThere b m n group key moment
    stood_there moment within =
        let o = opening_of b in
        let there = lacks.there in
        let c : ℕ = m.number in
        let caller = there.search.call.reading.caller in
        let mid = midway m n moment (goes b start m n group key there on_whole) within in
        let valid : Valid o moment = valid_at b moment (known n) (mid.second, mid.from) on_whole.call.follows.valid in
        let here : Valid o (mid.first ++ known m) = subst (Valid o) (sym mid.to) valid in
        record {
          mid = mid;
          valid = valid;
          stands = subst (λ (t : Execution). stands_in c group t ≡ true) mid.to
              (stands_in_on c group mid.first (known m) mid.before there.search.stands);
          answers = subst (λ (t : Execution). AnswersFor o key group t) mid.to
              (answers_while o c group key caller mid.first (known m) here mid.before there.search.stands
              there.answers);
          array = subst (λ (t : Execution). ArrayHasNone o t group key) mid.to
              (array_none_on o c group key caller mid.first (known m) here mid.before there.search.stands
              there.answers lacks.array);
        }

    -- where the group is not opened then
    module _ (unopened : IsUnopened group (known n)) where
      -- it answered for the key
      pub answered : (moment : Execution) → IsWithin m n moment → group_of (opening_of b) key moment ≡ group
      answered moment within =
          let o = opening_of b in
          let was = stood_there moment within in
          let mid = was.mid in
          while_unopened o m.number group key lacks.there.search.call.reading.caller mid.second moment
          (subst (Valid o) (sym mid.from) on_whole.call.follows.valid) mid.behind was.stands was.answers
          (subst (IsUnopened group) (sym mid.from) unopened)

      -- and the key was not in the map
      pub misses_here : Misses b start m key n
      misses_here =
          let o = opening_of b in
          let moment : Execution = passes.moment in
          let within = within_on m k n moment passes.within on_phase.since in
          let was = stood_there moment within in
          let mid = was.mid in
          record {
            on = on_whole;
            moment = moment;
            within = within_whole b start m n moment
                (in_call b start m lacks.there.search.call.of lacks.there.call lacks.there.rows) within;
            absent = absent_unopened o m.number group key lacks.there.search.call.reading.caller mid.second moment
                (subst (Valid o) (sym mid.from) on_whole.call.follows.valid) mid.behind was.stands was.answers
                (subst (IsUnopened group) (sym mid.from) unopened) was.array passes.none;
            exchanges = none_so_far;
          }

    -- where it missed the key further on, it missed it from here on
    pub misses_on : (last : Hand) → Misses b start n key last → Misses b start m key last
    misses_on last misses =
        record {
          on = record {
            can = misses.on.can;
            call = misses.on.call;
            rows = misses.on.rows;
            since = continues_trans (known m) (known n) (known last) on_whole.since misses.on.since;
          };
          moment = misses.moment;
          within = misses.within;
          absent = misses.absent;
          exchanges = few_behind no_exchange m n last none_so_far misses.exchanges;
        }

-- ---- the look ----

-- a call that missed its key may end with a look
pub may_miss : (b : Board) (start h : Hand) (key : ℕ) (k : Hand) → Misses b start h key k →
    MayWriteLook b start k key None
may_miss b start h key k misses =
    record {
      so_far = misses.on.call.so_far;
      caller = misses.on.can.reading.caller;
      moment = misses.moment;
      within = misses.within;
      value = misses.absent;
    }

-- and so it does, whatever it is to do with a value
pub looks_none : (aim : Aim) (b : Board) (key : ℕ) (start k : Hand) → LooksUp b key start None k →
    TellsOf aim b key start (tried.Done None) k
looks_none aim.Read b key start k looks = looks
looks_none aim.Remove b key start k looks = looks
