-- What the calls of one read section tell from outside of it.
use Rattle.std.proofs.Common.{◌≡◌, ℕ, Option, Some, None, MatchOption, ap, ◌∙◌, subst, arith}
use Rattle.map_model.specs.declared.calls.Answer.{Answer}
use Rattle.map_model.specs.declared.calls.Answer.TheVariants as answer
use Rattle.map_model.specs.declared.calls.Call.{Call}
use Rattle.map_model.specs.declared.calls.Call.TheVariants as call
use Rattle.map_model.specs.Answer.{entry_of}
use Rattle.map_model.specs.Logs.{place_of}
use Rattle.index_machine.specs.declared.events.Action.TheVariants.{Enter, Leave}
use Rattle.index_machine.specs.Execution.{Continues}
use Rattle.index_rule.specs.declared.board.Board.{Board}
use Rattle.index_rule.specs.declared.hand.Hand.{Hand}
use Rattle.index_rule.specs.declared.rows.PrivateRow.{PrivateRow}
use Rattle.index_rule.specs.Hands.{IsHandOf, Makes, known, opening_of}
use Rattle.tried_calls.specs.declared.tried.Tried.{Tried}
use Rattle.point_calls.specs.PointCalls.{HasSpare}
use Rattle.point_calls.proofs.Knowing.{spare_on}
use Rattle.row_arena.specs.Fullness.{RowsAreUsedUp}
use Rattle.row_arena.proofs.UsedRows.{used_up_stay}
use Rattle.xindex_core.specs.Answering.{AddsEntry, AddsNone, HasNoRoom, IsExhausted, Tells}
use Rattle.xindex_core.specs.Tries.{EndsAs, answer_of}
use Rattle.xindex_core.proofs.Sections.{caller_by, changes_grow, log_is, log_with, moment_is, on_leave}

module _ (b : Board) (h inside done k : Hand) (n m : ℕ) (of : IsHandOf b h)
    (enters : Makes b h (Enter n) inside) (at : IsHandOf b done)
    (number : done.number ≡ inside.number) (leaves : Makes b done (Leave m) k) where
  left : Continues (known done) (known k)
  left = on_leave b h inside done k n m of enters at number leaves

  -- an entry that was added inside is that of the call
  entry : (made : Call) (came : Answer) → AddsEntry (caller_by b inside) made came (caller_by b done) →
      AddsEntry (caller_by b h) made came (caller_by b k)
  entry made came adds =
      record {
        moment = adds.moment;
        within = moment_is b h inside done k n m of enters at number leaves adds.moment adds.within;
        entry = adds.entry;
        is = ap (λ (z : ℕ). entry_of z (place_of adds.entry) made came) leaves.number ∙ adds.is;
        place = adds.place;
        added = log_with b h inside done k n m of enters at number leaves adds.entry adds.added;
      }

  no_room : (key : ℕ) → HasNoRoom (caller_by b inside) key (caller_by b done) →
      HasNoRoom (caller_by b h) key (caller_by b k)
  no_room key none =
      record {
        no_entry = log_is b h inside done k n m of enters at number leaves none.no_entry;
        moment = none.moment;
        within = moment_is b h inside done k n m of enters at number leaves none.moment none.within;
        absent = none.absent;
        used_up = subst (RowsAreUsedUp (opening_of b)) left.1
            (used_up_stay (opening_of b) left.0 (known done) none.used_up);
      }

  exhausted : (key : ℕ) → IsExhausted (caller_by b inside) key (caller_by b done) →
      IsExhausted (caller_by b h) key (caller_by b k)
  exhausted key last =
      let grown = changes_grow key (known done) (known k) left in
      let enough = last.enough in
      record {
        no_entry = log_is b h inside done k n m of enters at number leaves last.no_entry;
        enough = omega arith;
      }

  tells : (made : Call) (came : Answer) → Tells (caller_by b inside) made came (caller_by b done) →
      Tells (caller_by b h) made came (caller_by b k)
  tells (call.Put key value) answer.Full t = no_room key t
  tells (call.Get key) answer.Full t = absurd t
  tells (call.Remove key) answer.Full t = absurd t
  tells (call.Next from) answer.Full t = absurd t
  tells (call.Put key value) answer.Worn t = exhausted key t
  tells (call.Remove key) answer.Worn t = exhausted key t
  tells (call.Get key) answer.Worn t = absurd t
  tells (call.Next from) answer.Worn t = absurd t
  tells (call.Get key) (answer.Value found) t = entry (call.Get key) (answer.Value found) t
  tells (call.Get key) (answer.Old old) t = entry (call.Get key) (answer.Old old) t
  tells (call.Get key) (answer.Near near) t = entry (call.Get key) (answer.Near near) t
  tells (call.Put key value) (answer.Value found) t = entry (call.Put key value) (answer.Value found) t
  tells (call.Put key value) (answer.Old old) t = entry (call.Put key value) (answer.Old old) t
  tells (call.Put key value) (answer.Near near) t = entry (call.Put key value) (answer.Near near) t
  tells (call.Remove key) (answer.Value found) t = entry (call.Remove key) (answer.Value found) t
  tells (call.Remove key) (answer.Old old) t = entry (call.Remove key) (answer.Old old) t
  tells (call.Remove key) (answer.Near near) t = entry (call.Remove key) (answer.Near near) t
  tells (call.Next from) (answer.Value found) t = entry (call.Next from) (answer.Value found) t
  tells (call.Next from) (answer.Old old) t = entry (call.Next from) (answer.Old old) t
  tells (call.Next from) (answer.Near near) t = entry (call.Next from) (answer.Near near) t

  -- what a call ended as inside it ended as
  pub ends_outside : (made : Call) (came : Tried (Option ℕ)) →
      EndsAs (caller_by b inside) made came (caller_by b done) →
      EndsAs (caller_by b h) made came (caller_by b k)
  ends_outside made came ends = by_answer (answer_of made came) ends
    where
      by_answer : (x : Option Answer) →
          MatchOption x (AddsNone (caller_by b inside) (caller_by b done))
          (λ (a : Answer). Tells (caller_by b inside) made a (caller_by b done)) →
          MatchOption x (AddsNone (caller_by b h) (caller_by b k))
          (λ (a : Answer). Tells (caller_by b h) made a (caller_by b k))
      by_answer None none = log_is b h inside done k n m of enters at number leaves none
      by_answer (Some a) t = tells made a t

-- ---- the spare row ----

-- the row that the hand has when it entered
pub spare_inside : (b : Board) (h inside : Hand) (n : ℕ) → IsHandOf b h →
    Makes b h (Enter n) inside → (spare : Option PrivateRow) → HasSpare b h spare →
    HasSpare b inside spare
spare_inside b h inside n of enters spare has = spare_on b h inside (Enter n) of enters tt spare has

-- is the one that it has when it left
pub spare_behind : (b : Board) (done k : Hand) (m : ℕ) → IsHandOf b done →
    Makes b done (Leave m) k → (spare : Option PrivateRow) → HasSpare b done spare →
    HasSpare b k spare
spare_behind b done k m at leaves spare has = spare_on b done k (Leave m) at leaves tt spare has
