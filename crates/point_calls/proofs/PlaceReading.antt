-- What a read of a place tells of its key, within a call.
use Rattle.std.proofs.Common.{◌≡◌, ◌≢◌, ℕ, Some, ⊎_elim, refl, sym, ap, ◌∙◌, subst, ◌∷◌, ◌++◌, []}
use Rattle.word_layout.specs.State.{word_of_state}
use Rattle.word_layout.specs.declared.state.State.TheVariants as state
use Rattle.word_layout.specs.declared.places.Part.TheVariants.{State}
use Rattle.word_layout.specs.Words.{PlaceWord}
use Rattle.index_machine.specs.declared.events.Action.TheVariants.{LoadState, LoadValue}
use Rattle.index_machine.specs.LivePlaces.{value_in_map}
use Rattle.index_machine.specs.Places.{form}
use Rattle.index_machine.proofs.Options.{some_is}
use Rattle.index_rule.specs.declared.board.Board.{Board}
use Rattle.index_rule.specs.declared.hand.Hand.{Hand}
use Rattle.index_rule.specs.Hands.{IsHandOf, Makes, MakesAll, known, opening_of}
use Rattle.index_rule.specs.Looks.{MayWriteLook}
use Rattle.index_rule.specs.Moments.{AddsNoEntry}
use Rattle.index_rule.specs.Records.{key_at, or_zero}
use Rattle.delta_buffer.proofs.CallSteps.{just_made}
use Rattle.index_machine.proofs.Executions.{continues_same, continues_trans}
use Rattle.index_rule.specs.Calls.{CanCall}
use Rattle.index_rule.proofs.Calls.{is_within}
use Rattle.record_cell.specs.Conditions.{IsLockedState}
use Rattle.index_machine.specs.Sections.{IsCaller}
use Rattle.record_cell.specs.Finding.{Finds, FollowsPointer, HasSameKey, IsReadyAt}
use Rattle.record_cell.specs.Reads.{FindsLock, FindsNone, FindsValue, IsHeldByAnother}
use Rattle.point_calls.specs.PointCalls.{IsOfKey, MakesAt, MeetsChange, MeetsLock}
use Rattle.point_calls.specs.Exchanges.{MakesFewExchanges, no_exchange}
use Rattle.point_calls.specs.Places.{HasEnded, IsAtPlaceOf, PassesBy}
use Rattle.point_calls.proofs.Knowing.{IsIn, call_is, in_call, in_step, within_whole}
use Rattle.point_calls.proofs.LeftWords.{left_on, made_at, made_behind}

-- the hand comes to load this state word of the place last, within its call
pub record LoadsLast (b : Board) (start : Hand) (at word : ℕ) (k : Hand) : Type 0 where
  pub before : Hand
  pub there : IsIn b start before
  pub loads : Makes b before (LoadState at word) k

-- the steps of finding a record are loads of state words, the last one where it is found
pub found_last : (b : Board) (start h : Hand) (place at word : ℕ) (k : Hand) → IsIn b start h →
    Finds b h place at word k → LoadsLast b start at word k
found_last b start h place at word k i finds =
    ⊎_elim
    (λ (here : (at ≡ place) × Makes b h (LoadState place word) k).
    at_once h i (subst (λ (z : ℕ). Makes b h (LoadState z word) k) (sym here.0) here.1))
    (λ (there : (to : ℕ) × (m : Hand) × Makes b h (LoadState place (word_of_state (state.Redirect to))) m
    × FollowsPointer b m place to at word k).
    follows there.1 there.0
    (in_step b start h there.1 (LoadState place (word_of_state (state.Redirect there.0))) tt tt there.2 i)
    there.3)
    finds
  where
    at_once : (m : Hand) → IsIn b start m → Makes b m (LoadState at word) k → LoadsLast b start at word k
    at_once m im loads = record { before = m; there = im; loads = loads }

    follows : (m : Hand) (to : ℕ) → IsIn b start m → FollowsPointer b m place to at word k →
        LoadsLast b start at word k
    follows m to im pointer =
        ⊎_elim
        (λ (one : (at ≡ to) × Makes b m (LoadState to word) k).
        at_once m im (subst (λ (z : ℕ). Makes b m (LoadState z word) k) (sym one.0) one.1))
        (λ (two : (at ≡ place)
        × MakesAll b m (LoadState place word ∷ LoadState to (word_of_state state.Moved) ∷ []) k).
        let n : Hand = two.1.0 in
        let moved = LoadState to (word_of_state state.Moved) in
        let earlier : Makes b m moved n = subst (λ (z : Hand). Makes b z moved n) two.1.1.1 two.1.1.2 in
        at_once n (in_step b start m n moved tt tt earlier im)
        (subst (λ (z : ℕ). Makes b n (LoadState z word) k) (sym two.0) two.1.2))
        pointer

module _ (b : Board) (start h : Hand) (key place : ℕ) (i : IsIn b start h)
    (of : IsOfKey b key place h) where
  pub key_is : key_at (opening_of b) place (known h) ≡ key
  key_is = ap or_zero of

  -- where the record was found is a place of the key
  pub of_found : (k : Hand) (at : ℕ) → HasSameKey b h place at k → IsOfKey b key at k
  of_found k at same =
      let is : same.0 ≡ key = some_is (sym same.1 ∙ of) in
      same.2 ∙ ap (λ (z : ℕ). Some z) is

  -- the state word that was found was loaded
  module _ (k : Hand) (at word : ℕ) (finds : Finds b h place at word k) where
    last : LoadsLast b start at word k
    last = found_last b start h place at word k i finds

    pub in_found : IsIn b start k
    in_found = in_step b start last.before k (LoadState at word) tt tt last.loads last.there

    pub found_at : MakesAt start (PlaceWord at State) (LoadState at word) k
    found_at =
        made_at b start last.before k (LoadState at word) (PlaceWord at State) last.there.since
        last.there.number last.there.of last.loads

    -- a lock was met
    pub meets_lock : IsLockedState word → FindsLock b h place at k → MeetsLock b key start at word k
    meets_lock locked lock =
        record {
          moment = known k;
          loaded = just_made b start last.before k (LoadState at word) last.there.since
              last.there.number last.there.of last.loads;
          within = is_within start k (known k) in_found.begun (continues_same (known k));
          locked = locked;
          of_key = of_found k at lock.1;
          by_another = subst (λ (z : ℕ). IsHeldByAnother z (form (opening_of b) at (known k)))
              i.number lock.0;
        }

    -- the value and the state word were loaded behind it
    module _ (m n : Hand) (value second : ℕ) (loads : Makes b k (LoadValue at value) m)
        (again : Makes b m (LoadState at second) n) where
      pub in_again : IsIn b start n
      in_again =
          in_step b start m n (LoadState at second) tt tt again
          (in_step b start k m (LoadValue at value) tt tt loads in_found)

      pub meets_change : word ≢ second → HasSameKey b h place at n →
          MeetsChange b key start at word second n
      meets_change differ same =
          record {
            loads = made_behind b start m n (LoadState at word) (LoadState at second)
                (PlaceWord at State) (loads.number ∙ in_found.number) loads.of
                (left_on b start k m (LoadState at word) (LoadValue at value) (PlaceWord at State)
                in_found.number in_found.of tt loads found_at)
                again;
            of_key = of_found n at same;
            differ = differ;
          }

  -- a value was found
  pub may_look : (k : Hand) (value : ℕ) → IsHandOf b start → AddsNoEntry start k → IsIn b start k →
      IsCaller (opening_of b) h.number → FindsValue b h place value k →
      MayWriteLook b start k key (Some value)
  may_look k value began none ik caller found =
      record {
        so_far = (call_is b start k began ik none).so_far;
        caller = subst (λ (z : ℕ). IsCaller (opening_of b) z) (i.number ∙ sym ik.number) caller;
        moment = found.0;
        within = within_whole b start h k found.0 i found.1;
        value = subst (λ (z : ℕ). value_in_map (opening_of b) z found.0 ≡ Some value) key_is found.3;
      }

-- ---- as the call goes on ----

-- whoever is ready at a place can call
pub ready_can : (b : Board) (k : Hand) (place : ℕ) → IsReadyAt b k place → CanCall b k
ready_can b k place ready =
    record { of = ready.of; reading = ready.at_own.there.reading; holds_none = ready.holds_none }

-- the call that came to the place is one that it made so far
pub in_place : (b : Board) (start h : Hand) (key place : ℕ) → IsAtPlaceOf b start h key place →
    IsIn b start h
in_place b start h key place at = in_call b start h at.ready.of at.call at.rows

-- the place had no value, and the call goes on
pub passes_by : (b : Board) (start h : Hand) (key place : ℕ) (k : Hand) →
    IsAtPlaceOf b start h key place → IsReadyAt b k place → IsIn b start k → AddsNoEntry h k →
    FindsNone b h place k → MakesFewExchanges no_exchange h k → PassesBy b start h place k
passes_by b start h key place k at ready ik none stone few =
    let w = stone.1 in
    record {
      on = record {
        can = ready_can b k place ready;
        call = call_is b start k at.call.so_far.began ik (none ∙ at.call.so_far.no_entry);
        rows = ik.rows;
        since = continues_trans (known h) stone.0 (known k)
            (continues_trans (known h) (w.1 ++ known h) stone.0 (w.1, refl) w.4) w.5;
      };
      none = stone;
      exchanges = few;
    }

-- the call ended there
pub has_ended : (b : Board) (start k : Hand) (place : ℕ) → IsReadyAt b k place → IsIn b start k →
    HasEnded b start k
has_ended b start k place ready ik =
    record {
      can = ready_can b k place ready;
      number = ik.number;
      section = ik.section;
      rows = ik.rows;
    }
