-- How a call looks for the key in the array of its group.
use Rattle.std.proofs.Common.{◌≡◌, ℕ, true, sym, ◌∙◌, subst}
use Rattle.index_machine.specs.Conditions.{Valid}
use Rattle.index_machine.specs.Execution.{Execution}
use Rattle.index_machine.specs.Reaching.{stands_in}
use Rattle.machine_readers.proofs.ReadSections.{stands_in_on}
use Rattle.index_machine.proofs.Executions.{continues_trans}
use Rattle.machine_chain.proofs.Walking.{answers_while}
use Rattle.machine_chain.specs.Walks.{AnswersFor}
use Rattle.machine_readers.specs.Readers.{ArrayHasNone}
use Rattle.index_rule.specs.declared.board.Board.{Board}
use Rattle.index_rule.specs.declared.hand.Hand.{Hand}
use Rattle.index_rule.specs.Hands.{known, opening_of}
use Rattle.point_calls.specs.declared.acting.Aim.{Aim}
use Rattle.point_calls.specs.declared.acting.Aim.TheVariants as aim
use Rattle.point_calls.specs.Arrays.{HasSearched, IsAtArrayPlace}
use Rattle.point_calls.specs.Exchanges.{MakesFewExchanges, no_exchange}
use Rattle.point_calls.specs.Places.{GoesOn, IsInGroupFor, PassesBy, most_of}
use Rattle.point_calls.specs.Seeking.{PassesArray}
use Rattle.point_calls.proofs.CallExchanges.{lock_or_none}
use Rattle.point_calls.proofs.Exchanging.{few_behind}
use Rattle.point_calls.proofs.Knowing.{in_call, valid_at}
use Rattle.point_calls.proofs.Lacking.{array_none_on, array_of_one}
use Rattle.point_calls.proofs.Staying.{StaysIn, at_end, midway, search_stays, stays_in}

-- a call that tried no exchange tried no more than it may
pub as_most : (aim : Aim) (h k : Hand) → MakesFewExchanges no_exchange h k →
    MakesFewExchanges (most_of aim) h k
as_most aim.Read h k none = none
as_most aim.Remove h k none = lock_or_none h k none

module _ (b : Board) (start h k : Hand) (g key : ℕ) (there : IsInGroupFor b start h g key)
    (on : GoesOn b start h k) where
  pub goes : StaysIn h k
  goes =
      let i = in_call b start h there.search.call.of there.call there.rows in
      let j = in_call b start k on.can.of on.call on.rows in
      stays_in start h k i.number j.number i.section j.section on.since

  -- the caller is still in its group
  pub group_still : IsInGroupFor b start k g key
  group_still =
      let o = opening_of b in
      let j = in_call b start k on.can.of on.call on.rows in
      record {
        call = on.call;
        rows = on.rows;
        search = search_stays b g h k goes j.follows.valid on.can there.search;
        answers = at_end h k goes (λ c t. AnswersFor o key g t)
            (answers_while o h.number g key there.search.call.reading.caller goes.newer (known h)
            (subst (Valid o) (sym goes.on) j.follows.valid) goes.stays there.search.stands there.answers);
      }

  -- and the array has no more than it had
  pub array_still : ArrayHasNone (opening_of b) (known h) g key → ArrayHasNone (opening_of b) (known k) g key
  array_still none =
      let o = opening_of b in
      let j = in_call b start k on.can.of on.call on.rows in
      at_end h k goes (λ c t. ArrayHasNone o t g key)
      (array_none_on o h.number g key there.search.call.reading.caller goes.newer (known h)
      (subst (Valid o) (sym goes.on) j.follows.valid) goes.stays there.search.stands there.answers none)

module _ (b : Board) (start h n : Hand) (g key : ℕ) (searched : HasSearched b start h g key n) where
  -- no place has the key
  pub passes_missing : ArrayHasNone (opening_of b) (known n) g key → PassesArray b start h g key n
  passes_missing none =
      record {
        lacks = record { there = searched.there; array = none };
        since = searched.since;
        exchanges = searched.exchanges;
      }

  -- the place that has it has no value
  pub passes_place : (place : ℕ) → IsAtArrayPlace b start n g key place → (k : Hand) →
      PassesBy b start n place k → PassesArray b start h g key k
  passes_place place at k passes =
      let o = opening_of b in
      let on = passes.on in
      let stone = passes.none in
      let moment : Execution = stone.0 in
      let there = searched.there in
      let mid = midway n k moment (goes b start n k g key there on) stone.1 in
      let valid = valid_at b moment (known k) (mid.second, mid.from) on.call.follows.valid in
      let none : ArrayHasNone o moment g key = array_of_one o moment g key place valid (stone.2 ∙ at.array) stone.3 in
      let stands = subst (λ (t : Execution). stands_in n.number g t ≡ true) mid.to
      (stands_in_on n.number g mid.first (known n) mid.before there.search.stands) in
      let answers : AnswersFor o key g moment =
      subst (λ (t : Execution). AnswersFor o key g t) mid.to
      (answers_while o n.number g key there.search.call.reading.caller mid.first (known n)
      (subst (Valid o) (sym mid.to) valid) mid.before there.search.stands there.answers) in
      record {
        lacks = record {
          there = group_still b start n k g key there on;
          array = subst (λ (t : Execution). ArrayHasNone o t g key) mid.from
              (array_none_on o n.number g key there.search.call.reading.caller mid.second moment
              (subst (Valid o) (sym mid.from) on.call.follows.valid) mid.behind stands answers none);
        };
        since = continues_trans (known h) (known n) (known k) searched.since on.since;
        exchanges = few_behind no_exchange h n k searched.exchanges passes.exchanges;
      }
