-- What a refused change of a record tells of the key of its place, within a call.
use Rattle.std.proofs.Common.{◌≡◌, ◌≢◌, ℕ, inl, Bool, true, false, Option, Some, IsSomeAnd, ap, arith}
use Rattle.std.proofs.Common.{refl, sym, ◌∙◌, subst}
use Rattle.map_model.specs.declared.entries.Change.{Change}
use Rattle.index_machine.specs.declared.events.Action.TheVariants.{FailLock, LoadState}
use Rattle.index_rule.specs.declared.board.Board.{Board}
use Rattle.index_rule.specs.declared.hand.Hand.{Hand}
use Rattle.tried_calls.specs.declared.tried.Tried.{Tried}
use Rattle.tried_calls.specs.declared.tried.Tried.TheVariants as tried
use Rattle.index_rule.specs.Hands.{Makes}
use Rattle.index_rule.specs.Moments.{AddsNoEntry}
use Rattle.record_cell.specs.declared.answers.Wrote.{Wrote}
use Rattle.record_cell.specs.declared.answers.Wrote.TheVariants as wrote
use Rattle.record_cell.specs.Conditions.{IsLockedState}
use Rattle.record_cell.specs.Finding.{Finds, HasSameKey}
use Rattle.record_cell.specs.Reads.{FindsLock}
use Rattle.record_cell.specs.Reviving.{BringsToLife, RevivalTells}
use Rattle.record_cell.specs.Writes.{FindsLastVersion, WriteTells, Writes, worn_word}
use Rattle.point_calls.specs.Changing.{IsRefusal, refusal_of}
use Rattle.point_calls.specs.Putting.{MeetsWornTombstone, PutTells}
use Rattle.point_calls.specs.Removing.{RemoveTells}
use Rattle.point_calls.proofs.Knowing.{IsIn}
use Rattle.point_calls.proofs.PlaceChanging.{in_failed, loses_lock, meets_last, of_key_below}
use Rattle.point_calls.specs.PointCalls.{IsOfKey}
use Rattle.point_calls.proofs.PlaceReading.{in_found, meets_lock, of_found}

-- the change of the record was refused: its lock was met or lost, or its version is the last one
abbrev pub RefusesChange : Board → Hand → ℕ → Wrote → Hand → Type 0
RefusesChange b h place (wrote.Locked at word) k =
    AddsNoEntry h k × Finds b h place at word k × IsLockedState word × FindsLock b h place at k
RefusesChange b h place (wrote.Raced at expected found) k =
    (m : Hand) × AddsNoEntry h k × Finds b h place at expected m
    × Makes b m (FailLock at expected found) k × (expected ≢ found) × HasSameKey b h place at k
RefusesChange b h place (wrote.Worn at word) k =
    (removed : Bool) × AddsNoEntry h k × Finds b h place at word k × (word ≡ worn_word removed)
    × FindsLastVersion b h place k × HasSameKey b h place at k
RefusesChange b h place answer k = ⊥

-- an update or a removal
pub write_refused : (b : Board) (h : Hand) (place : ℕ) (change : Change) (w : Wrote) (k : Hand) →
    Writes b h place change w k → WriteTells b h place change w k →
    ((old : Option ℕ) → w ≢ wrote.Done old) → ((word : ℕ) → w ≢ wrote.Gone word) →
    RefusesChange b h place w k
write_refused b h place change (wrote.Done old) k s t done gone = absurd (done old refl)
write_refused b h place change (wrote.Gone word) k s t done gone = absurd (gone word refl)
write_refused b h place change (wrote.Live word) k s t done gone = absurd s
write_refused b h place change (wrote.Locked at word) k s t done gone = (t.0, s.0, s.1, t.1)
write_refused b h place change (wrote.Raced at x y) k s t done gone =
    (s.0, t.0, s.1, s.3, s.4, t.1)
write_refused b h place change (wrote.Worn at word) k s t done gone =
    (false, t.0, s.0, s.1, t.1, t.2)

-- a record that is worn out has a value
abbrev pub IsWornLive : Wrote → Type 0
IsWornLive (wrote.Worn at word) = word ≡ worn_word false
IsWornLive w = Unit {0}

-- so it is for an update or a removal
pub worn_live : (b : Board) (h : Hand) (place : ℕ) (change : Change) (w : Wrote) (k : Hand) →
    Writes b h place change w k → IsWornLive w
worn_live b h place change (wrote.Worn at word) k s = s.1
worn_live b h place change w k s = tt

-- what a put tells of a tombstone that is worn out
abbrev pub WornTells : Board → ℕ → Hand → Wrote → Hand → Type 0
WornTells b key start (wrote.Worn at word) k = word ≡ worn_word true → MeetsWornTombstone b key start at k
WornTells b key start w k = Unit {0}

-- a record with a value is none
pub live_is_none : (b : Board) (key : ℕ) (start : Hand) (w : Wrote) (k : Hand) → IsWornLive w →
    WornTells b key start w k
live_is_none b key start (wrote.Worn at word) k live = λ gone. absurd (omega (arith, live, gone))
live_is_none b key start w k live = tt

-- a revival
pub revival_refused : (b : Board) (h : Hand) (place value : ℕ) (w : Wrote) (k : Hand) →
    BringsToLife b h place value w k → RevivalTells b h place value w k →
    ((old : Option ℕ) → w ≢ wrote.Done old) → ((word : ℕ) → w ≢ wrote.Live word) →
    RefusesChange b h place w k
revival_refused b h place value (wrote.Done old) k s t done live = absurd (done old refl)
revival_refused b h place value (wrote.Gone word) k s t done live = absurd s
revival_refused b h place value (wrote.Live word) k s t done live = absurd (live word refl)
revival_refused b h place value (wrote.Locked at word) k s t done live =
    (t.0, inl (s.0, s.1), s.2, t.1)
revival_refused b h place value (wrote.Raced at x y) k s t done live =
    let m = s.2.0 in (
      m,
      t.0,
      inl (s.0, subst (λ (z : Hand). Makes b z (LoadState place x) m) s.2.1.1 s.2.1.2),
      subst (λ (z : ℕ). Makes b m (FailLock z x y) k) (sym s.0) s.2.2,
      s.3,
      t.1,
    )
revival_refused b h place value (wrote.Worn at word) k s t done live =
    (true, t.0, inl (s.0, s.1), s.2, t.1, t.2)

module _ (b : Board) (start h : Hand) (key place : ℕ) (i : IsIn b start h)
    (of : IsOfKey b key place h) (k : Hand) where
  pub in_refused : (w : Wrote) → RefusesChange b h place w k → IsIn b start k
  in_refused (wrote.Locked at word) r = in_found b start h key place i of k at word r.1
  in_refused (wrote.Raced at x y) r =
      in_failed b start h key place i of k r.0 at x y r.2 r.3
  in_refused (wrote.Worn at word) r = in_found b start h key place i of k at word r.2
  in_refused w r = absurd r

  pub is_refusal : (w : Wrote) → RefusesChange b h place w k → IsRefusal w
  is_refusal (wrote.Locked at word) r = tt
  is_refusal (wrote.Raced at x y) r =
      of_key_below b start k key at (in_refused (wrote.Raced at x y) r)
      (of_found b start h key place i of k at r.5)
  is_refusal (wrote.Worn at word) r = tt
  is_refusal w r = absurd r

  remove_refusal_tells : (w : Wrote) → AddsNoEntry start h → RefusesChange b h place w k → IsWornLive w →
      IsSomeAnd (refusal_of w) (λ z. RemoveTells b key start z k)
  remove_refusal_tells (wrote.Locked at word) none r live =
      (r.0 ∙ none, meets_lock b start h key place i of k at word r.1 r.2 r.3)
  remove_refusal_tells (wrote.Raced at x y) none r live =
      (r.1 ∙ none, loses_lock b start h key place i of k r.0 at x y r.2 r.3 r.4 r.5)
  remove_refusal_tells (wrote.Worn at word) none r live =
      (r.1 ∙ none, meets_last b start h key place i of k at word r.0 r.2 r.3 r.4 r.5, live)
  remove_refusal_tells w none r live = absurd r

  -- a remove says so
  pub remove_tells : (w : Wrote) (answer : Tried (Option ℕ)) → AddsNoEntry start h →
      RefusesChange b h place w k → IsWornLive w → refusal_of w ≡ Some answer →
      RemoveTells b key start answer k
  remove_tells w answer none r live e =
      subst (λ x. IsSomeAnd x (λ z. RemoveTells b key start z k)) e (remove_refusal_tells w none r live)

  put_refusal_tells : (value : ℕ) (w : Wrote) → AddsNoEntry start h → RefusesChange b h place w k →
      WornTells b key start w k → IsSomeAnd (refusal_of w) (λ z. PutTells b key value start z k)
  put_refusal_tells value (wrote.Locked at word) none r worn =
      (r.0 ∙ none, meets_lock b start h key place i of k at word r.1 r.2 r.3)
  put_refusal_tells value (wrote.Raced at x y) none r worn =
      (r.1 ∙ none, inl (loses_lock b start h key place i of k r.0 at x y r.2 r.3 r.4 r.5))
  put_refusal_tells value (wrote.Worn at word) none r worn =
      (r.1 ∙ none, meets_last b start h key place i of k at word r.0 r.2 r.3 r.4 r.5, worn)
  put_refusal_tells value w none r worn = absurd r

  -- and a put likewise
  pub put_tells : (value : ℕ) (w : Wrote) (answer : Tried (Option ℕ)) → AddsNoEntry start h →
      RefusesChange b h place w k → WornTells b key start w k → refusal_of w ≡ Some answer →
      PutTells b key value start answer k
  put_tells value w answer none r worn e =
      subst (λ x. IsSomeAnd x (λ z. PutTells b key value start z k)) e (put_refusal_tells value w none r worn)

-- no refused change is answered as full
pub refuses_not_full : (w : Wrote) (answer : Tried (Option ℕ)) → refusal_of w ≡ Some answer →
    answer ≢ tried.Full
refuses_not_full (wrote.Locked at word) answer e full = let bad = e ∙ ap (λ z. Some z) full in cc
refuses_not_full (wrote.Raced at x y) answer e full = let bad = e ∙ ap (λ z. Some z) full in cc
refuses_not_full (wrote.Worn at word) answer e full = let bad = e ∙ ap (λ z. Some z) full in cc
refuses_not_full (wrote.Done old) answer e full = let bad = e in cc
refuses_not_full (wrote.Gone word) answer e full = let bad = e in cc
refuses_not_full (wrote.Live word) answer e full = let bad = e in cc
