-- What a change of a record tells of the key of its place, within a call.
use Rattle.std.proofs.Common.{◌≡◌, ◌≢◌, ℕ, ◌+◌, ◌≤◌, ◌<◌, ◌^◌, Option, Some, None, Bool}
use Rattle.std.proofs.Common.{refl, subst}
use Rattle.map_model.specs.declared.entries.Change.{Change}
use Rattle.map_model.specs.declared.entries.Change.TheVariants.{Put, Remove}
use Rattle.map_model.specs.History.{changes_at}
use Rattle.word_layout.specs.declared.places.Part.TheVariants.{State}
use Rattle.word_layout.specs.Places.{part_address}
use Rattle.word_layout.specs.Words.{PlaceWord}
use Rattle.index_machine.specs.declared.events.Action.TheVariants.{FailLock, LoadState}
use Rattle.index_machine.specs.Forms.{last_version}
use Rattle.index_machine.specs.LivePlaces.{history}
use Rattle.index_machine.specs.Places.{first_version}
use Rattle.index_rule.specs.declared.board.Board.{Board}
use Rattle.index_rule.specs.declared.hand.Hand.{Hand}
use Rattle.tried_calls.specs.declared.tried.Tried.TheVariants as tried
use Rattle.index_rule.specs.Hands.{Makes, known, opening_of}
use Rattle.index_rule.specs.Moments.{AddsChange, AddsNoEntry}
use Rattle.index_rule.specs.Records.{key_at}
use Rattle.index_rule.proofs.RecordSteps.{place_below}
use Rattle.index_rule.proofs.Standing.{keyed_place}
use Rattle.record_cell.specs.declared.answers.Wrote.TheVariants as wrote
use Rattle.record_cell.specs.Finding.{Finds, HasSameKey}
use Rattle.record_cell.specs.Writes.{FindsLastVersion, Writes, changing, put_at, remove_at, worn_word}
use Rattle.point_calls.specs.Changing.{LosesLock, MeetsLast}
use Rattle.point_calls.specs.PointCalls.{IsOfKey}
use Rattle.point_calls.specs.Removing.{RemoveTells}
use Rattle.point_calls.proofs.Knowing.{AreKept, IsIn, adds_whole, in_all, in_step, made_in}
use Rattle.point_calls.proofs.Knowing.{within_whole}
use Rattle.point_calls.proofs.LeftWords.{made_behind}
use Rattle.point_calls.proofs.PlaceReading.{found_at, found_last, in_found, key_is, of_found}

-- a place of a key has an address
pub of_key_below : (b : Board) (start k : Hand) (key at : ℕ) → IsIn b start k → IsOfKey b key at k →
    at < 2 ^ 28
of_key_below b start k key at i of_key =
    place_below (opening_of b) at (keyed_place (opening_of b) (known k) i.follows.valid at (key, of_key))

module _ (b : Board) (start h : Hand) (key place : ℕ) (i : IsIn b start h)
    (of : IsOfKey b key place h) where
  key_same : key_at (opening_of b) place (known h) ≡ key
  key_same = key_is b start h key place i of

  pub put_is : (value : ℕ) → put_at b h place value ≡ Put start.number key value
  put_is value = λ j. Put (i.number j) (key_same j) value

  pub remove_is : remove_at b h place ≡ Remove start.number key
  remove_is = λ j. Remove (i.number j) (key_same j)

  -- ---- what was refused ----

  module _ (k m : Hand) (at expected found : ℕ) (finds : Finds b h place at expected m)
      (fails : Makes b m (FailLock at expected found) k) where
    in_m : IsIn b start m
    in_m = in_found b start h key place i of m at expected finds

    pub in_failed : IsIn b start k
    in_failed = in_step b start m k (FailLock at expected found) tt tt fails in_m

    pub loses_lock : expected ≢ found → HasSameKey b h place at k →
        LosesLock b key start (part_address at State) expected found k
    loses_lock differ same =
        record {
          place = at;
          is_address = refl;
          steps = made_behind b start m k (LoadState at expected) (FailLock at expected found)
              (PlaceWord at State) in_m.number in_m.of
              (found_at b start h key place i of m at expected finds)
              fails;
          of_key = of_found b start h key place i of k at same;
          differ = differ;
        }

  pub meets_last : (k : Hand) (at word : ℕ) (removed : Bool) → Finds b h place at word k →
      word ≡ worn_word removed → FindsLastVersion b h place k → HasSameKey b h place at k →
      MeetsLast b key start at word k
  meets_last k at word removed finds last most same =
      record {
        loaded = made_in b start (found_last b start h place at word k i finds).before k (LoadState at word)
            (found_last b start h place at word k i finds).there
            (found_last b start h place at word k i finds).loads;
        removed = removed;
        last = last;
        of_key = of_found b start h key place i of k at same;
        moment = most.0;
        within = within_whole b start h k most.0 i most.1;
        enough = subst
            (λ (z : ℕ). last_version ≤ first_version (opening_of b) + changes_at z (history most.0))
            key_same most.2;
      }

  -- ---- what was changed ----

  kept : (at word old stored : ℕ) (change : Change) → AreKept (changing at word old change stored)
  kept at word old stored (Put c j v) = (tt, tt, (tt, tt, (tt, tt, (tt, tt, tt))))
  kept at word old stored (Remove c j) = (tt, tt, (tt, tt, (tt, tt, tt)))

  pub in_done : (k : Hand) (change : Change) (old : Option ℕ) →
      Writes b h place change (wrote.Done old) k → IsIn b start k
  in_done k change None w = absurd w
  in_done k change (Some old) w =
      in_all b start w.3 (changing w.0 w.1 old change w.2) k (kept w.0 w.1 old w.2 change) w.6
      (in_found b start h key place i of w.3 w.0 w.1 w.4)

  pub removed_tells : (k : Hand) (old : Option ℕ) → AddsNoEntry start h →
      Writes b h place (remove_at b h place) (wrote.Done old) k →
      AddsChange b h (remove_at b h place) old k → RemoveTells b key start (tried.Done old) k
  removed_tells k None none w adds = absurd w
  removed_tells k (Some old) none w adds =
      adds_whole b start h k (remove_at b h place) (Remove start.number key) (Some old) i none remove_is
      adds
