-- How a call looks for the key behind an opened group.
use Rattle.std.proofs.Common.{◌≡◌, ℕ, inl, inr, ⊎_elim, true, Some, ◌++◌, sym, ap, ◌∙◌, subst}
use Rattle.word_layout.specs.declared.phase.Phase.TheVariants.{Opened}
use Rattle.index_machine.specs.Conditions.{Valid}
use Rattle.index_machine.specs.Execution.{Continues, Execution}
use Rattle.index_machine.specs.Groups.{phase}
use Rattle.index_machine.specs.KeyRanges.{group_of, predecessor, successor}
use Rattle.index_machine.specs.Reaching.{saw_opened, stands_in}
use Rattle.index_machine.specs.Sections.{IsCaller}
use Rattle.index_machine.proofs.Executions.{continues_trans}
use Rattle.machine_buffers.specs.Groups.{IsKeyOf}
use Rattle.machine_chain.proofs.NewWalks.{new_stay}
use Rattle.machine_chain.proofs.Walking.{buffers_walkable}
use Rattle.machine_chain.specs.Walks.{AnswersForNew, BeginsBeforeNew}
use Rattle.machine_readers.proofs.ReadSections.{saw_opened_on, stands_in_on}
use Rattle.machine_readers.specs.Readers.{ArrayHasNone, BufferHasNone}
use Rattle.index_rule.specs.declared.board.Board.{Board}
use Rattle.index_rule.specs.declared.hand.Hand.{Hand}
use Rattle.index_rule.specs.Elsewhere.{HasNoneBehindOpened}
use Rattle.index_rule.specs.Hands.{known, opening_of}
use Rattle.index_rule.specs.Moments.{AddsNoEntry}
use Rattle.index_rule.proofs.Elsewhere.{KnowsNoneElsewhere, elsewhere_on, lives_nowhere, not_in_map}
use Rattle.root_table.specs.Standing.{IsInOpened, StandsIn}
use Rattle.root_table.specs.Walks.{WalksTo}
use Rattle.root_table.proofs.NewWalked.{opened_on}
use Rattle.point_calls.specs.Exchanges.{no_exchange}
use Rattle.point_calls.specs.Places.{IsAtBufferOf, LacksInOpened, Misses, PassesBuffer}
use Rattle.point_calls.proofs.ChainWay.{walk_forward, walk_in, walk_none}
use Rattle.point_calls.proofs.Exchanging.{few_behind}
use Rattle.point_calls.proofs.Knowing.{IsIn, call_is, in_call, valid_at, within_whole}
use Rattle.point_calls.proofs.Lacking.{array_none_on, buffer_none_on, none_behind}
use Rattle.point_calls.proofs.Staying.{StaysIn, at_end, midway, stays_in}

-- the hand goes on from one moment of its call to another
pub stays_on : (b : Board) (start h k : Hand) → IsIn b start h → IsIn b start k →
    Continues (known h) (known k) → StaysIn h k
stays_on b start h k first last on =
    stays_in start h k first.number last.number first.section last.section on

-- what it knows then is valid
valid_on : (b : Board) (start h k : Hand) (s : StaysIn h k) → IsIn b start k →
    Valid (opening_of b) (s.newer ++ known h)
valid_on b start h k s last = subst (Valid (opening_of b)) (sym s.on) last.follows.valid

-- a key of a new group is one of its own
new_key_of : (b : Board) (old first key new : ℕ) (h : Hand) → IsInOpened b old first key h →
    AnswersForNew (opening_of b) old key new (known h) → IsKeyOf (opening_of b) new key (known h)
new_key_of b old first key new h is answers =
    ⊎_elim
    (λ (z : (group_of (opening_of b) key (known h) ≡ old) × (successor key (known h) ≡ Some new)).
    inl (inr (first, ap (λ (g : ℕ). phase g (known h)) z.0 ∙ is.opened, z.1)))
    (λ (z : (predecessor (opening_of b) key (known h) ≡ Some old) × (group_of (opening_of b) key (known h) ≡ new)).
    inl (inl z.1)) answers

module _ (b : Board) (start h : Hand) (g first key : ℕ) (lacks : LacksInOpened b start h g first key) where
  in_h : IsIn b start h
  in_h =
      in_call b start h lacks.lacks.there.search.call.of lacks.lacks.there.call lacks.lacks.there.rows

  caller : IsCaller (opening_of b) h.number
  caller = lacks.opened.call.reading.caller

  -- it comes to the old group's buffer
  pub at_old : IsAtBufferOf b start h g key
  at_old =
      let there = lacks.lacks.there in
      record {
        call = there.call;
        rows = there.rows;
        search = there.search;
        of_key = ⊎_elim (λ (z : group_of (opening_of b) key (known h) ≡ g). inl (inl z))
            (λ (z : predecessor (opening_of b) key (known h) ≡ Some g). inr z) there.answers;
      }

  -- which has none
  module _ (m : Hand) (passes : PassesBuffer b start h g key m) where
    in_m : IsIn b start m
    in_m = in_call b start m passes.on.can.of passes.on.call passes.on.rows

    to_m : StaysIn h m
    to_m = stays_on b start h m in_h in_m passes.on.since

    valid_m : Valid (opening_of b) (to_m.newer ++ known h)
    valid_m = valid_on b start h m to_m in_m

    pub opened_m : IsInOpened b g first key m
    opened_m =
        opened_on b g first key h m to_m.newer to_m.stays valid_m to_m.on to_m.number passes.on.can lacks.opened

    pub begins_m : BeginsBeforeNew (opening_of b) g first key first (known m)
    begins_m =
        at_end h m to_m (λ c t. BeginsBeforeNew (opening_of b) g first key first t)
        ((new_stay (opening_of b) h.number g first key first caller to_m.newer (known h) valid_m to_m.stays
        lacks.opened.stands lacks.opened.opened).1.0 lacks.begins)

    array_m : ArrayHasNone (opening_of b) (known m) g key
    array_m =
        at_end h m to_m (λ c t. ArrayHasNone (opening_of b) t g key)
        (array_none_on (opening_of b) h.number g key caller to_m.newer (known h) valid_m to_m.stays
        lacks.opened.stands lacks.opened.answers lacks.lacks.array)

    saw_m : saw_opened m.number first (known m) ≡ true
    saw_m =
        at_end h m to_m (λ c t. saw_opened c first t ≡ true)
        (saw_opened_on h.number first to_m.newer (known h) to_m.stays lacks.saw)

    -- nobody inserts there, so it still has none
    buffer_m : BufferHasNone (opening_of b) (known m) g key
    buffer_m =
        let o = opening_of b in
        let mid = midway h m passes.moment to_m passes.within in
        let whole : Valid o (mid.second ++ passes.moment) = subst (Valid o) (sym mid.from) in_m.follows.valid in
        let here : Valid o (mid.first ++ known h) =
        subst (Valid o) (sym mid.to)
        (valid_at b passes.moment (known m) (mid.second, mid.from) in_m.follows.valid) in
        let stands : stands_in h.number g passes.moment ≡ true =
        subst (λ (t : Execution). stands_in h.number g t ≡ true) mid.to
        (stands_in_on h.number g mid.first (known h) mid.before lacks.opened.stands) in
        let opened : phase g passes.moment ≡ Opened first =
        subst (λ (t : Execution). phase g t ≡ Opened first) mid.to
        (new_stay o h.number g first key first caller mid.first (known h) here mid.before lacks.opened.stands
        lacks.opened.opened).0 in
        subst (λ (t : Execution). BufferHasNone o t g key) mid.from
        (buffer_none_on o h.number g first key caller mid.second passes.moment whole mid.behind stands opened
        passes.none)

    -- it walks to the new group
    module _ (new : ℕ) (n : Hand) (there : StandsIn b new n) (is : IsInOpened b g first key n)
        (answers : AnswersForNew (opening_of b) g key new (known n)) (walks : WalksTo b first key m new n)
        (log : AddsNoEntry m n) where
      in_n : IsIn b start n
      in_n = walk_in b start first key m new n in_m walks

      to_n : StaysIn m n
      to_n = stays_on b start m n in_m in_n (walk_forward b first key m new n passes.on.can.of walks)

      valid_n : Valid (opening_of b) (to_n.newer ++ known m)
      valid_n = valid_on b start m n to_n in_n

      pub at_new : IsAtBufferOf b start n new key
      at_new =
          record {
            call = call_is b start n lacks.lacks.there.call.so_far.began in_n
                (log ∙ passes.on.call.so_far.no_entry);
            rows = in_n.rows;
            search = record {
              call = there.call;
              stands = there.stands;
              walkable = buffers_walkable (opening_of b) (known n) in_n.follows.valid n.number new
                  there.call.reading.caller there.stands;
              in_table = there.in_table;
            };
            of_key = new_key_of b g first key new n is answers;
          }

      pub behind_n : HasNoneBehindOpened (opening_of b) n.number key new (known n)
      behind_n =
          let o = opening_of b in
          let c : IsCaller o m.number = opened_m.call.reading.caller in
          none_behind o n.number g first new key there.call.reading.caller (known n) in_n.follows.valid is.stands
          is.opened
          (at_end m n to_n (λ c t. saw_opened c first t ≡ true)
          (saw_opened_on m.number first to_n.newer (known m) to_n.stays saw_m))
          answers
          (at_end m n to_n (λ c t. ArrayHasNone o t g key)
          (array_none_on o m.number g key c to_n.newer (known m) valid_n to_n.stays opened_m.stands
          opened_m.answers array_m))
          (at_end m n to_n (λ c t. BufferHasNone o t g key)
          (buffer_none_on o m.number g first key c to_n.newer (known m) valid_n to_n.stays opened_m.stands
          opened_m.opened buffer_m))

      -- whose buffer has none either
      pub misses_behind : (k : Hand) → PassesBuffer b start n new key k → Misses b start h key k
      misses_behind k then =
          let o = opening_of b in
          let in_k = in_call b start k then.on.can.of then.on.call then.on.rows in
          let to_k = stays_on b start n k in_n in_k then.on.since in
          let mid = midway n k then.moment to_k then.within in
          let valid = valid_at b then.moment (known k) (mid.second, mid.from) in_k.follows.valid in
          let elsewhere : KnowsNoneElsewhere o n.number key new then.moment =
          subst (KnowsNoneElsewhere o n.number key new) mid.to
          (elsewhere_on o n.number key new there.call.reading.caller mid.first (known n)
          (subst (Valid o) (sym mid.to) valid) mid.before (inr behind_n)) in
          record {
            on = record {
              can = then.on.can;
              call = then.on.call;
              rows = then.on.rows;
              since = continues_trans (known h) (known m) (known k) passes.on.since
                  (continues_trans (known m) (known n) (known k)
                  (walk_forward b first key m new n passes.on.can.of walks) then.on.since);
            };
            moment = then.moment;
            within = within_whole b start n k then.moment in_n then.within;
            absent = not_in_map o then.moment key valid
                (lives_nowhere o n.number key new then.moment there.call.reading.caller valid elsewhere
                then.none).1;
            exchanges = few_behind no_exchange h m k passes.exchanges
                (few_behind no_exchange m n k (walk_none b first key m new n passes.on.can.of walks)
                then.exchanges);
          }
