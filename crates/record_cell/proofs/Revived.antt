-- The tombstone of a row is found, locked, and comes to life; or it is not revived.
use Rattle.std.proofs.Common.{◌≡◌, ◌≢◌, inr, ℕ, true, false, Some, None, [], ◌∷◌, ◌++◌}
use Rattle.std.proofs.Common.{refl, sym, ap, ◌∙◌, subst}
use Rattle.word_layout.specs.State.{IsUnlockedWord}
use Rattle.map_model.specs.declared.entries.Change.{Change}
use Rattle.index_machine.specs.declared.events.Action.{Action}
use Rattle.index_machine.specs.declared.events.Action.TheVariants.{LoadState, Lock, FailLock}
use Rattle.index_machine.specs.declared.events.Action.TheVariants.{StoreValue, Unlock}
use Rattle.index_machine.specs.Conditions.{Valid}
use Rattle.index_machine.specs.Execution.{Execution, Without}
use Rattle.index_machine.specs.Forms.{is_removed}
use Rattle.index_machine.specs.Forms.{live_value}
use Rattle.index_machine.specs.LivePlaces.{value_in_map}
use Rattle.index_machine.specs.Places.{form}
use Rattle.index_machine.specs.RecordConditions.{IsAt}
use Rattle.index_machine.specs.Rows.{InBuffer, Role, role, role_key}
use Rattle.index_machine.specs.Sections.{IsNoCrossing}
use Rattle.index_machine.proofs.Executions.{valid_before}
use Rattle.machine_readers.proofs.FormsMet.{not_blank}
use Rattle.machine_readers.proofs.FromOpening.{value_read}
use Rattle.index_rule.specs.declared.board.Board.{Board}
use Rattle.index_rule.specs.declared.hand.Hand.{Hand}
use Rattle.index_rule.specs.Hands.{IsHandOf, Makes, MakesAll, known, opening_of}
use Rattle.index_rule.specs.Moments.{AddsChange, AddsNoEntry}
use Rattle.index_rule.specs.Records.{IsRevivable, MayRelease, change_by, key_at, or_zero}
use Rattle.index_rule.proofs.Calls.{begins, begun_on, goes_on, within_end}
use Rattle.index_rule.proofs.Elsewhere.{KnowsNoneElsewhere, elsewhere_now, elsewhere_on, not_in_map}
use Rattle.index_rule.proofs.LockWords.{locked_on}
use Rattle.index_rule.proofs.RecordReading.{no_entry}
use Rattle.index_rule.proofs.RecordStepping.{goes_on_inside, locked_after_lock, no_other_after_lock}
use Rattle.index_rule.proofs.RecordStepping.{now, same_role, since, still_at, valid_moment}
use Rattle.index_rule.proofs.Standing.{at_role, stays_inside}
use Rattle.index_rule.proofs.StateForms.{unlocked_by_word}
use Rattle.index_rule.proofs.Stepping.{others_only, valid_after, valid_known}
use Rattle.record_cell.specs.declared.answers.Wrote.{Wrote}
use Rattle.record_cell.specs.declared.answers.Wrote.TheVariants as wrote
use Rattle.record_cell.specs.Conditions.{IsLiveState, IsLockedState, IsRecordWord}
use Rattle.record_cell.specs.Finding.{CanStepAt, IsFoundAt, IsReadyAt}
use Rattle.record_cell.specs.Locking.{LosesRace}
use Rattle.record_cell.specs.Reads.{FindsLive}
use Rattle.record_cell.specs.Reviving.{BringsToLife, MayRevive, RevivalTells}
use Rattle.record_cell.specs.Writes.{put_at, worn_word}
use Rattle.record_cell.proofs.Changed.{Holds, adds_entry, may_release, put_is, released, same_key_at}
use Rattle.record_cell.proofs.Changed.{stored_holds}
use Rattle.record_cell.proofs.Found.{can_step, direct_word, found_as, ready_on, same_key_on}
use Rattle.record_cell.proofs.Found.{state_says}
use Rattle.record_cell.proofs.Found.{still_at_own}
use Rattle.record_cell.proofs.Revivable.{revivable, row_is_direct}
use Rattle.record_cell.proofs.Told.{finds_last, finds_lock}

-- ---- what the caller goes on knowing ----

-- the caller is at a row, and no other place of its key has a value
pub record IsAtLoneRow (b : Board) (place : ℕ) (k : Hand) : Type 0 where
  pub of : IsHandOf b k
  pub there : IsAt (opening_of b) k.number place (known k)
  pub group : ℕ
  pub key : ℕ
  pub row : role (opening_of b) place (known k) ≡ InBuffer group key
  pub elsewhere : KnowsNoneElsewhere (opening_of b) k.number key group (known k)

-- so it is as the call begins
lone_first : (b : Board) (h : Hand) (place : ℕ) → Valid (opening_of b) (known h) →
    IsReadyAt b h place → MayRevive (opening_of b) h.number place (known h) → IsAtLoneRow b place h
lone_first b h place valid ready may =
    record {
      of = ready.of;
      there = ready.at_own.there;
      group = may.group;
      key = may.key;
      row = may.row;
      elsewhere = elsewhere_now (opening_of b) h.number may.key may.group (known h)
          ready.at_own.there.reading.caller valid may.elsewhere;
    }

-- and after each step by which it does not leave
lone_on : (b : Board) (h k : Hand) (action : Action) (place : ℕ) → IsNoCrossing action →
    Makes b h action k → IsAtLoneRow b place h → IsAtLoneRow b place k
lone_on b h k action place none m lone =
    record {
      of = m.of;
      there = still_at b h k action lone.of m none place lone.there;
      group = lone.group;
      key = lone.key;
      row = same_role b h k action lone.of m none place lone.there ∙ lone.row;
      elsewhere = now b h k action lone.of m
          (λ z t. KnowsNoneElsewhere (opening_of b) z lone.key lone.group t)
          (elsewhere_on (opening_of b) h.number lone.key lone.group lone.there.reading.caller
          (since b h k action lone.of m) (known h) (valid_after b h k action lone.of m)
          (goes_on_inside b h k action lone.of m none) lone.elsewhere);
    }

-- the caller holds the lock of the tombstone at such a row, where it stored the value
pub record IsAboutToLive (b : Board) (h : Hand) (place value : ℕ) (s : Hand) : Type 0 where
  pub word : ℕ
  pub version : ℕ
  pub unlocked : IsUnlockedWord version true word
  pub old : ℕ
  pub steps : MakesAll b h
      (StoreValue place value ∷ Lock place word ∷ LoadState place word ∷ []) s
  pub lone : IsAtLoneRow b place s
  pub held : Holds b h place place version true old value s

-- ---- the state word ----

-- what the caller knows once it has loaded the state word of the row
module _ (b : Board) (h m : Hand) (place word : ℕ) (ready : IsReadyAt b h place)
    (may : MayRevive (opening_of b) h.number place (known h))
    (load : Makes b h (LoadState place word) m) where
  pub still : IsReadyAt b m place
  still = ready_on b h m (LoadState place word) place tt load (λ z. z) ready

  pub can : CanStepAt b m place
  can = can_step b m place still

  valid : Valid (opening_of b) (known m)
  valid = valid_known b h m (LoadState place word) ready.of load

  lone : IsAtLoneRow b place m
  lone =
      lone_on b h m (LoadState place word) place tt load
      (lone_first b h place
      (valid_before (opening_of b) load.acts.0 (known h)
      (valid_after b h m (LoadState place word) ready.of load).1) ready may)

  pub is_record : IsRecordWord word
  is_record =
      direct_word (form (opening_of b) place (known m)) word
      (row_is_direct (opening_of b) m.number lone.key lone.group place (known m) valid lone.elsewhere
      lone.row) (state_says b h m place word ready.of load)

  found : IsFoundAt b h place place word m
  found = found_as b h m place word ready load is_record

  log : AddsNoEntry h m
  log = no_entry b h m (LoadState place word) ready.of load (λ o t l. refl)

  -- ---- refused before the lock ----

  pub locked_tells : (value : ℕ) → IsLockedState word →
      RevivalTells b h place value (wrote.Locked place word) m
  locked_tells value locked =
      (log, finds_lock b h m place place word ready load.number can found locked)

  pub live_tells : (value : ℕ) → IsLiveState word →
      RevivalTells b h place value (wrote.Live word) m
  live_tells value live = (log, finds_live)
    where
      finds_live : FindsLive b h place m
      finds_live =
          let o = opening_of b in
          let key : ℕ = found.same_key.0 in
          let f = unlocked_by_word (form o place (known m)) live.0 false
          (not_blank o (known m) valid place key found.same_key.2) (found.says ∙ live.1) in
          let lives = ap live_value f.1 in (
            known m,
            within_end h m (begins b h m (LoadState place word) ready.of load),
            same_role b h m (LoadState place word) ready.of load tt place ready.at_own.there,
            f.0,
            lives,
            subst (λ (z : ℕ). value_in_map o z (known m) ≡ Some f.0)
                (sym (ap or_zero found.same_key.1))
                (value_read o (known m) valid place key f.0 found.same_key.2 lives),
          )

  pub worn_tells : (value : ℕ) → word ≡ worn_word true →
      RevivalTells b h place value (wrote.Worn place word) m
  worn_tells value worn =
      (log, finds_last b h m place place word true ready valid found worn, found.same_key)

  -- ---- the exchange ----

  module _ (k : Hand) (value version : ℕ) (unlocked : IsUnlockedWord version true word) where
    -- the revival was refused
    abbrev pub IsNotRevived : Wrote → Type 0
    IsNotRevived refusal =
        IsReadyAt b k place × BringsToLife b h place value refusal k
        × RevivalTells b h place value refusal k

    raced : (other : ℕ) → Makes b m (FailLock place word other) k → word ≢ other →
        IsNotRevived (wrote.Raced place word other)
    raced other step ne = (
      ready_on b m k (FailLock place word other) place tt step (λ z. z) still,
      (refl, (version, unlocked), (m, (h, refl, load), step), ne),
      (
        no_entry b m k (FailLock place word other) can.of step (λ o t l. refl) ∙ log,
        same_key_on b h m k (FailLock place word other) place place tt step can found.same_key,
      ),
    )

    pub loses : (refusal : Wrote) → LosesRace b m place word refusal k → IsNotRevived refusal
    loses (wrote.Raced taken expected other) race =
        subst (λ (z : ℕ × ℕ). IsNotRevived (wrote.Raced z.0 z.1 other))
        (λ i. (sym race.0 i, sym race.1 i))
        (raced other
        (subst (λ (z : ℕ × ℕ). Makes b m (FailLock z.0 z.1 other) k) (λ i. (race.0 i, race.1 i))
        race.2)
        (subst (λ (z : ℕ). z ≢ other) race.1 race.3))
    loses refusal race = absurd race

    -- the tombstone is locked, whatever value stands there
    pub holds : Makes b m (Lock place word) k →
        (old : ℕ) × Holds b h place place version true old old k
    holds step =
        let locked = locked_after_lock b m k place word version true can.of step unlocked in (
          locked.0,
          record {
            of = step.of;
            number = step.number ∙ load.number;
            own = still_at_own b m k (Lock place word) place tt step still.of still.at_own;
            there = still_at b m k (Lock place word) can.of step tt place can.there;
            locked = locked.2;
            no_other = no_other_after_lock b m k place word can.of step;
            same_key = same_key_on b h m k (Lock place word) place place tt step can found.same_key;
            no_entry = no_entry b m k (Lock place word) can.of step (λ o t l. refl) ∙ log;
            begun = begun_on h (known m) (known k)
                (begins b h m (LoadState place word) ready.of load)
                (goes_on b m k (Lock place word) can.of step);
          },
        )

    -- and so is its value once it is stored
    pub stored : Makes b m (Lock place word) k → (s : Hand) → Makes b k (StoreValue place value) s →
        IsAboutToLive b h place value s
    stored lock s store =
        let locked = holds lock in
        record {
          word = word;
          version = version;
          unlocked = unlocked;
          old = locked.0;
          steps = (k, (m, (h, refl, load), lock), store);
          lone = lone_on b k s (StoreValue place value) place tt store
              (lone_on b m k (Lock place word) place tt lock lone);
          held = stored_holds b h k s place place version true locked.0 locked.0 locked.1 value
              store;
        }

-- ---- the release ----

module _ (b : Board) (h s : Hand) (place value : ℕ) (w : IsAboutToLive b h place value s) where
  -- whatever others do until then, the row may come to life
  may_revive : (newer : Execution) → Valid (opening_of b) (newer ++ known s) →
      Without s.number newer → IsRevivable (opening_of b) s.number place (newer ++ known s)
  may_revive newer valid out =
      let o = opening_of b in
      let is = w.lone.there.reading.caller in
      let stay = stays_inside s.number newer out in
      revivable o s.number w.lone.key w.lone.group place (newer ++ known s) is valid
      (elsewhere_on o s.number w.lone.key w.lone.group is newer (known s) valid stay
      w.lone.elsewhere)
      (at_role o s.number place newer (known s) valid stay w.lone.there ∙ w.lone.row)
      (ap is_removed
      (locked_on o s.number place newer (known s) valid out w.lone.there w.version w.old value true
      w.held.locked))

  pub releases : MayRelease (opening_of b) s.number place false (known s)
  releases =
      may_release b h s s place place w.version true w.old value w.held false
      (inr (record { kept = refl; revivable = may_revive }))

  module _ (u : Hand) (stored : ℕ)
      (m : Makes b s (Unlock place false
      (change_by (opening_of b) s.number place false (known s)) stored) u) where
    puts : Makes b s (Unlock place false (put_at b h place value) stored) u
    puts =
        subst (λ (d : Change). Makes b s (Unlock place false d stored) u)
        (put_is b h s s place place w.version true w.old value w.held) m

    pub ready_again : IsReadyAt b u place
    ready_again =
        released b h s u place place w.version true w.old value w.held false
        (put_at b h place value) stored puts

    pub brings_to_life : BringsToLife b h place value (wrote.Done None) u
    brings_to_life = (w.word, stored, (w.version, w.unlocked), (s, w.steps, puts))

    -- and its key was not in the map just before
    pub adds_put : AddsChange b h (put_at b h place value) None u
    adds_put =
        let o = opening_of b in
        let action = Unlock place false (put_at b h place value) stored in
        let moment : Execution = puts.acts.0 ++ known s in
        let valid = valid_moment b s u action w.lone.of puts in
        let out = others_only b s u action w.lone.of puts in
        let key : key_at o place moment ≡ key_at o place (known h) =
        ap (λ (r : Role). or_zero (role_key r))
        (at_role o s.number place puts.acts.0 (known s) valid
        (stays_inside s.number puts.acts.0 out) w.lone.there)
        ∙ same_key_at b h s s place place w.version true w.old value w.held in
        adds_entry b h s u place place w.version true w.old value w.held false
        (put_at b h place value) stored puts None
        (subst (λ (z : ℕ). value_in_map o z moment ≡ None) key
        (not_in_map o moment (key_at o place moment) valid (may_revive puts.acts.0 valid out).4))
