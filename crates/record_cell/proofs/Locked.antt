-- The version lock of a record with a value is taken, or the change is refused.
use Rattle.std.proofs.Common.{◌≡◌, ◌≢◌, ℕ, false, refl, sym, ◌∙◌, subst, Result, Ok, Err}
use Rattle.std.specs.Prelude.{MatchResult}
use Rattle.word_layout.specs.State.{IsUnlockedWord}
use Rattle.index_machine.specs.declared.events.Action.TheVariants.{Lock, FailLock, LoadState}
use Rattle.index_machine.specs.Conditions.{Valid}
use Rattle.index_rule.specs.declared.board.Board.{Board}
use Rattle.index_rule.specs.declared.hand.Hand.{Hand}
use Rattle.index_rule.specs.Hands.{Makes, known, opening_of}
use Rattle.index_rule.specs.Moments.{AddsNoEntry}
use Rattle.index_rule.proofs.RecordReading.{no_entry}
use Rattle.index_rule.proofs.RecordStepping.{locked_after_lock, no_other_after_lock, still_at}
use Rattle.record_cell.specs.declared.answers.Wrote.{Wrote}
use Rattle.record_cell.specs.declared.answers.Wrote.TheVariants as wrote
use Rattle.record_cell.specs.Conditions.{IsLockedState, IsTombstoneState}
use Rattle.record_cell.specs.Finding.{CanStepAt, IsFoundAt, IsReadyAt}
use Rattle.record_cell.specs.Locking.{HasLocked, IsRefused, LosesRace}
use Rattle.record_cell.specs.Writes.{worn_word}
use Rattle.index_rule.proofs.Stepping.{valid_known}
use Rattle.record_cell.proofs.Found.{ready_on, same_key_on, still_at_own}
use Rattle.record_cell.proofs.FoundLoads.{loaded_last}
use Rattle.record_cell.proofs.Told.{finds_last, finds_lock, finds_none}

-- an answer of either kind means what its own means
pub either_answer : {A B : Type 0} (P R : A → Type 0) (Q S : B → Type 0) (r : Result A B) →
    ((a : A) → P a → R a) → ((e : B) → Q e → S e) → MatchResult r P Q → MatchResult r R S
either_answer P R Q S (Ok a) good bad is = good a is
either_answer P R Q S (Err e) good bad is = bad e is

-- what was found before the lock
module _ (b : Board) (h m : Hand) (place at word : ℕ) (ready : IsReadyAt b h place)
    (number : m.number ≡ h.number) (still : IsReadyAt b m place) (can : CanStepAt b m at)
    (found : IsFoundAt b h place at word m) (log : AddsNoEntry h m) where
  -- ---- refused before the lock ----

  pub locked_refused : IsLockedState word → IsRefused b h place (wrote.Locked at word) m
  locked_refused locked = (
    still,
    λ change. (
      (found.steps, locked),
      (log, finds_lock b h m place at word ready number can found locked),
    ),
  )

  pub gone_refused : IsTombstoneState word → IsRefused b h place (wrote.Gone word) m
  gone_refused stone = (
    still,
    λ change. (
      (at, found.steps, stone),
      (log, finds_none b h m place at word ready found stone),
    ),
  )

  valid : Valid (opening_of b) (known m)
  valid =
      let last = loaded_last b h m place at word ready found.steps in
      valid_known b last.before m (LoadState at word) last.ready.of last.load

  pub worn_refused : word ≡ worn_word false → IsRefused b h place (wrote.Worn at word) m
  worn_refused worn = (
    still,
    λ change. (
      (found.steps, worn),
      (log, finds_last b h m place at word false ready valid found worn, found.same_key),
    ),
  )

  -- ---- the exchange ----

  module _ (k : Hand) (version : ℕ) (unlocked : IsUnlockedWord version false word) where
    has_locked : Makes b m (Lock at word) k → HasLocked b h place at k
    has_locked step =
        let locked = locked_after_lock b m k at word version false can.of step unlocked in
        record {
          word = word;
          found = m;
          found_of = still.of;
          finds = found.steps;
          version = version;
          unlocked = unlocked;
          locks = step;
          own = still_at_own b m k (Lock at word) place tt step still.of still.at_own;
          there = still_at b m k (Lock at word) can.of step tt at can.there;
          value = locked.0;
          locked = locked.2;
          no_other = no_other_after_lock b m k at word can.of step;
          same_key = same_key_on b h m k (Lock at word) place at tt step can found.same_key;
          no_entry = no_entry b m k (Lock at word) can.of step (λ o t l. refl) ∙ log;
        }

    pub locks : (taken : ℕ) → (taken ≡ at) × Makes b m (Lock at word) k → HasLocked b h place taken k
    locks taken is = subst (λ (z : ℕ). HasLocked b h place z k) (sym is.0) (has_locked is.1)

    raced_refused : (found_word : ℕ) → Makes b m (FailLock at word found_word) k →
        word ≢ found_word → IsRefused b h place (wrote.Raced at word found_word) k
    raced_refused found_word step ne = (
      ready_on b m k (FailLock at word found_word) place tt step (λ z. z) still,
      λ change. (
        (m, found.steps, (version, unlocked), step, ne),
        (
          no_entry b m k (FailLock at word found_word) can.of step (λ o t l. refl) ∙ log,
          same_key_on b h m k (FailLock at word found_word) place at tt step can found.same_key,
        ),
      ),
    )

    pub loses : (refusal : Wrote) → LosesRace b m at word refusal k → IsRefused b h place refusal k
    loses (wrote.Raced taken expected other) race =
        subst (λ (z : ℕ × ℕ). IsRefused b h place (wrote.Raced z.0 z.1 other) k)
        (λ i. (sym race.0 i, sym race.1 i))
        (raced_refused other
        (subst (λ (z : ℕ × ℕ). Makes b m (FailLock z.0 z.1 other) k) (λ i. (race.0 i, race.1 i))
        race.2)
        (subst (λ (z : ℕ). z ≢ other) race.1 race.3))
    loses refusal race = absurd race
