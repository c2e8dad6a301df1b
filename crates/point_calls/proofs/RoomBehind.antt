-- How a put comes to where its key can come in, behind an opened group.
use Rattle.std.proofs.Common.{◌≡◌, ℕ, inr, None, Result, Ok, Err, MatchResult, sym, subst}
use Rattle.map_model.specs.Map.{look}
use Rattle.index_machine.specs.Conditions.{Valid}
use Rattle.index_machine.specs.Execution.{Continues, Execution}
use Rattle.index_machine.specs.Permissions.{IsBufferFor}
use Rattle.index_machine.specs.Sections.{IsCaller}
use Rattle.index_machine.proofs.Executions.{continues_trans}
use Rattle.machine_chain.specs.Walks.{AnswersForNew}
use Rattle.machine_readers.specs.Buffers.{rows}
use Rattle.index_rule.specs.declared.board.Board.{Board}
use Rattle.index_rule.specs.declared.hand.Hand.{Hand}
use Rattle.index_rule.specs.Elsewhere.{HasNoneBehindOpened}
use Rattle.index_rule.specs.Hands.{known, opening_of}
use Rattle.index_rule.specs.Moments.{AddsNoEntry, IsWithin}
use Rattle.index_rule.proofs.Elsewhere.{KnowsNoneElsewhere, elsewhere_on, lives_nowhere}
use Rattle.root_table.specs.Standing.{IsInOpened, StandsIn}
use Rattle.root_table.specs.Walks.{WalksTo}
use Rattle.point_calls.specs.declared.found.Missed.{Missed}
use Rattle.point_calls.specs.Exchanges.{MakesFewExchanges, no_exchange}
use Rattle.point_calls.specs.Places.{IsAtBufferOf, LacksInOpened, Misses, PassesBuffer}
use Rattle.point_calls.specs.Putting.{MayComeInto, MeetsRoom}
use Rattle.point_calls.specs.Updating.{LeavesInBuffer, LeavesRoom}
use Rattle.point_calls.proofs.BehindWay.{at_new, behind_n, misses_behind, stays_on}
use Rattle.point_calls.proofs.Exchanging.{few_behind}
use Rattle.point_calls.proofs.Knowing.{IsIn, in_call, valid_at, within_whole}
use Rattle.point_calls.proofs.Lacking.{buffer_without}
use Rattle.point_calls.proofs.NoneElsewhere.{none_still, room_on}
use Rattle.point_calls.proofs.RoomWay.{key_left, may_put}
use Rattle.point_calls.proofs.Staying.{StaysIn, midway}

-- what holds of each result, told in other words
pub results_as : {X Y : Type 0} (P Q : X → Type 0) (R : Y → Type 0) (r : Result X Y) → ((x : X) → P x → Q x) →
    MatchResult r P R → MatchResult r Q R
results_as P Q R (Ok x) told is = told x is
results_as P Q R (Err y) told is = is

-- where a call found room it may have begun its way earlier
pub room_since : (b : Board) (start h m : Hand) (key : ℕ) (missed : Missed) (k : Hand) →
    Continues (known h) (known m) → MakesFewExchanges no_exchange h m → LeavesRoom b start m key missed k →
    LeavesRoom b start h key missed k
room_since b start h m key missed k since none room =
    record {
      on = record {
        can = room.on.can;
        call = room.on.call;
        rows = room.on.rows;
        since = continues_trans (known h) (known m) (known k) since room.on.since;
      };
      exchanges = few_behind no_exchange h m k none room.exchanges;
      may = room.may;
      of_key = room.of_key;
    }

module _ (b : Board) (start h : Hand) (g first key : ℕ) (lacks : LacksInOpened b start h g first key) (m : Hand)
    (passes : PassesBuffer b start h g key m) (new : ℕ) (n : Hand) (there : StandsIn b new n)
    (is : IsInOpened b g first key n) (answers : AnswersForNew (opening_of b) g key new (known n))
    (walks : WalksTo b first key m new n) (log : AddsNoEntry m n) (room : MeetsRoom start h) (missed : Missed)
    (k : Hand) (leaves : LeavesInBuffer b start n new key missed k) where
  at : IsAtBufferOf b start n new key
  at = at_new b start h g first key lacks m passes new n there is answers walks log

  behind : HasNoneBehindOpened (opening_of b) n.number key new (known n)
  behind = behind_n b start h g first key lacks m passes new n there is answers walks log

  misses : Misses b start h key k
  misses = misses_behind b start h g first key lacks m passes new n there is answers walks log k leaves.passes

  in_n : IsIn b start n
  in_n = in_call b start n at.search.call.of at.call at.rows

  in_k : IsIn b start k
  in_k = in_call b start k leaves.passes.on.can.of leaves.passes.on.call leaves.passes.on.rows

  to_k : StaysIn n k
  to_k = stays_on b start n k in_n in_k leaves.passes.on.since

  caller : IsCaller (opening_of b) n.number
  caller = there.call.reading.caller

  -- the new group's buffer is the one for the key
  belongs : (moment : Execution) → IsWithin n k moment → look (rows new moment) key ≡ None →
      IsBufferFor (opening_of b) key new moment
  belongs moment within none =
      let o = opening_of b in
      let mid = midway n k moment to_k within in
      let valid = valid_at b moment (known k) (mid.second, mid.from) in_k.follows.valid in
      let elsewhere : KnowsNoneElsewhere o n.number key new moment =
      subst (KnowsNoneElsewhere o n.number key new) mid.to
      (elsewhere_on o n.number key new caller mid.first (known n) (subst (Valid o) (sym mid.to) valid) mid.before
      (inr behind)) in
      (lives_nowhere o n.number key new moment caller valid elsewhere
      (buffer_without o moment new key valid none)).0

  may_come : MayComeInto b start k new key
  may_come =
      record {
        room = room_on start h k misses.on.since room;
        elsewhere = none_still b new key n k to_k caller in_k.follows.valid (inr behind);
        missing = (misses.moment, misses.within, misses.absent);
      }

  pub leaves_behind : LeavesRoom b start h key missed k
  leaves_behind =
      record {
        on = misses.on;
        exchanges = misses.exchanges;
        may = may_put b start n k k new key missed leaves.left may_come leaves.no_row
            (λ moment within. within_whole b start n k moment in_n within) belongs;
        of_key = key_left b start k new key missed leaves.left;
      }
