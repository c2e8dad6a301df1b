-- A call that enters, works and leaves, seen from outside of its read section.
use Rattle.std.proofs.Common.{◌≡◌, ℕ, ◌+◌, ◌≤◌, [], ◌∷◌, ◌++◌}
use Rattle.std.proofs.Common.{refl, ap, ◌∙◌, subst, arith, cond, ◌==◌}
use Rattle.map_model.specs.declared.entries.Entry.{Entry}
use Rattle.map_model.specs.History.{History, changes_at}
use Rattle.map_model.specs.Logs.{Log}
use Rattle.map_model.specs.Map.{key_of}
use Rattle.index_machine.specs.declared.events.Action.TheVariants.{Enter, Leave}
use Rattle.index_machine.specs.Execution.{Continues, Execution}
use Rattle.index_machine.specs.LivePlaces.{history}
use Rattle.index_machine.proofs.Executions.{continues_trans}
use Rattle.machine_places.proofs.FromOpening.{legal}
use Rattle.index_rule.specs.declared.board.Board.{Board}
use Rattle.index_rule.specs.declared.hand.Hand.{Hand}
use Rattle.index_rule.specs.Hands.{IsHandOf, Makes, known, opening_of, view}
use Rattle.index_rule.specs.Moments.{AddsNoEntry, IsWithin}
use Rattle.index_rule.specs.Rule.{Follows}
use Rattle.index_rule.proofs.Calls.{begins, goes_on}
use Rattle.index_rule.proofs.Moments.{history_on}
use Rattle.index_rule.proofs.RecordReading.{no_entry}
use Rattle.index_rule.proofs.Stepping.{continues}
use Rattle.point_calls.proofs.Knowing.{within_begun, within_on}
use Rattle.xindex_core.specs.Callers.{Caller, IsLater, IsTruthful}

-- ---- histories ----

-- a hand of the board as a caller
abbrev pub caller_by : Board → Hand → Caller
caller_by b h =
    record {
      opening = opening_of b;
      number = h.number;
      known = known h;
      log = (view h).log;
    }

-- what follows its table is truthful
pub truthful : (b : Board) (k : Hand) → Follows (opening_of b) (view k) → IsTruthful (caller_by b k)
truthful b k follows =
    let lawful = legal (opening_of b) (known k) follows.valid in
    record {
      logged = follows.logged k.number k.mine;
      legal = lawful.0;
      by_callers = lawful.1;
    }

-- and the same caller later on
pub later : (b : Board) (h k : Hand) → k.number ≡ h.number → Continues (known h) (known k) →
    Follows (opening_of b) (view k) → IsLater (caller_by b h) (caller_by b k)
later b h k number on follows =
    record { opening = refl; number = number; goes_on = on; truthful = truthful b k follows }

changes_more : (key : ℕ) (newer h : History) → changes_at key h ≤ changes_at key (newer ++ h)
changes_more key [] h = omega arith
changes_more key (c ∷ newer) h =
    let rest = changes_more key newer h in by_test (key_of c == key) rest
  where
    by_test : (b : _) → changes_at key h ≤ changes_at key (newer ++ h) →
        changes_at key h
        ≤ cond b (changes_at key (newer ++ h) + 1) (changes_at key (newer ++ h))
    by_test b rest = grind arith

-- a key has no fewer changes later on
pub changes_grow : (key : ℕ) (moment t : Execution) → Continues moment t →
    changes_at key (history moment) ≤ changes_at key (history t)
changes_grow key moment t on =
    let more = history_on on.0 moment in
    let grown = changes_more key more.0 (history moment) in
    subst (λ (h : History). changes_at key (history moment) ≤ changes_at key h)
    (more.1 ∙ ap history on.1) grown

-- ---- a read section ----

module _ (b : Board) (h inside done k : Hand) (n m : ℕ) (of : IsHandOf b h)
    (enters : Makes b h (Enter n) inside) (at : IsHandOf b done)
    (number : done.number ≡ inside.number) (leaves : Makes b done (Leave m) k) where
  number_is : k.number ≡ h.number
  number_is = leaves.number ∙ (number ∙ enters.number)

  pub on_leave : Continues (known done) (known k)
  on_leave = continues b done k (Leave m) at leaves

  -- a call that added no entry inside added none
  pub log_is : AddsNoEntry inside done → AddsNoEntry h k
  log_is none =
      no_entry b done k (Leave m) at leaves (λ o t l. refl)
      ∙ (none ∙ no_entry b h inside (Enter n) of enters (λ o t l. refl))

  -- and one that added an entry added just this one
  pub log_with : (e : Entry) → (view done).log ≡ e ∷ (view inside).log →
      (view k).log ≡ e ∷ (view h).log
  log_with e added =
      no_entry b done k (Leave m) at leaves (λ o t l. refl)
      ∙ (added
      ∙ ap (λ (l : Log). e ∷ l) (no_entry b h inside (Enter n) of enters (λ o t l. refl)))

  -- a moment inside is one of the call
  pub moment_is : (moment : Execution) → IsWithin inside done moment → IsWithin h k moment
  moment_is moment w =
      within_on h done k moment
      (within_begun h inside done moment (begins b h inside (Enter n) of enters) w) on_leave

  -- the caller later on
  pub later_is : Continues (known inside) (known done) → IsLater (caller_by b h) (caller_by b k)
  later_is on =
      later b h k number_is
      (continues_trans (known h) (known inside) (known k)
      (goes_on b h inside (Enter n) of enters)
      (continues_trans (known inside) (known done) (known k) on on_leave))
      (leaves.acts.3 (opening_of b) at.opened)
