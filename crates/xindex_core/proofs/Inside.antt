-- What the calls of one read section tell of their caller.
use Rattle.std.proofs.Common.{◌≡◌, ℕ, Option, Some, None, [], ◌∷◌, ◌++◌, length}
use Rattle.std.proofs.Common.{refl, sym, ap, ◌∙◌, arith, ◌⊎◌, inl, inr}
use Rattle.map_model.specs.declared.calls.Answer.{Answer}
use Rattle.map_model.specs.declared.calls.Answer.TheVariants as answer
use Rattle.map_model.specs.declared.calls.Call.{Call}
use Rattle.map_model.specs.declared.calls.Call.TheVariants as call
use Rattle.map_model.specs.declared.entries.Change.TheVariants as change
use Rattle.map_model.specs.declared.entries.Entry.TheVariants.{Look, Made}
use Rattle.map_model.specs.Answer.{entry_of, pair_at}
use Rattle.word_layout.specs.Words.{Word}
use Rattle.index_machine.specs.declared.events.Action.{Action}
use Rattle.index_machine.specs.Execution.{Continues, Execution, event}
use Rattle.index_machine.specs.LivePlaces.{history}
use Rattle.index_machine.proofs.Executions.{continues_trans}
use Rattle.index_rule.specs.declared.board.Board.{Board}
use Rattle.index_rule.specs.declared.hand.Hand.{Hand}
use Rattle.tried_calls.specs.declared.tried.Tried.{Tried}
use Rattle.tried_calls.specs.declared.tried.Tried.TheVariants as tried
use Rattle.tried_calls.specs.declared.tried.Why.TheVariants as why
use Rattle.index_rule.specs.Hands.{known, view}
use Rattle.index_rule.specs.Moments.{AddsNoEntry, IsWithin}
use Rattle.point_calls.specs.Changing.{LosesLock, MeetsLast}
use Rattle.point_calls.specs.Getting.{GetTells}
use Rattle.delta_buffer.specs.Walks.{MakesIn}
use Rattle.point_calls.specs.PointCalls.{LooksUp, MakesThen}
use Rattle.point_calls.specs.Putting.{LosesHead, LosesLink, MeetsNoRow, PutTells}
use Rattle.point_calls.specs.Removing.{RemoveTells}
use Rattle.xindex_core.specs.Answering.{AddsEntry, HasNoRoom, IsExhausted}
use Rattle.xindex_core.specs.Tries.{EndsAs}
use Rattle.xindex_core.proofs.Sections.{caller_by, changes_grow}

-- ---- what a call inside went on from ----

-- a moment of a call lies behind what the hand knew before it, and before what it knows then
pub within_since : (h k : Hand) (moment : Execution) → IsWithin h k moment →
    Continues (known h) (known k)
within_since h k moment w =
    continues_trans (known h) moment (known k)
    (continues_trans (known h) (w.1 ++ known h) moment (w.1, refl) w.4) w.5

pub made_since : (h k : Hand) (d : Action) → MakesIn h d k → Continues (known h) (known k)
made_since h k d m =
    continues_trans (known h) m.0 (known k) m.1
    (continues_trans m.0 (event h.number d ∷ m.0) (known k) (event h.number d ∷ [], refl) m.2)

then_since : (h : Hand) (w : Word) (k : Hand) (first other : Action) →
    MakesThen h w first other k → Continues (known h) (known k)
then_since h w k first other m =
    let there : Execution = event h.number first ∷ m.0 in
    continues_trans (known h) m.0 (known k) m.2
    (continues_trans m.0 there (known k) (event h.number first ∷ [], refl)
    (continues_trans there (event h.number other ∷ m.1 ++ there) (known k)
    (event h.number other ∷ m.1, refl) m.3))

pub get_since : (b : Board) (key : ℕ) (h : Hand) (came : Tried (Option ℕ)) (k : Hand) →
    GetTells b key h came k → Continues (known h) (known k)
get_since b key h (tried.Done found) k t = within_since h k t.0 t.1
get_since b key h (tried.Again (why.Locked p w)) k t = within_since h k _ t.1.within
get_since b key h (tried.Again (why.Changed p x y)) k t = then_since h _ k _ _ t.1.loads
get_since b key h (tried.Again (why.Frozen g w)) k t = absurd t.1
get_since b key h (tried.Again (why.Raced p x y)) k t = absurd t.1
get_since b key h tried.Full k t = absurd t
get_since b key h (tried.Worn p w) k t = absurd t

pub remove_since : (b : Board) (key : ℕ) (h : Hand) (came : Tried (Option ℕ)) (k : Hand) →
    RemoveTells b key h came k → Continues (known h) (known k)
remove_since b key h (tried.Done None) k t = within_since h k t.0 t.1
remove_since b key h (tried.Done (Some old)) k t = within_since h k t.0 t.1
remove_since b key h (tried.Again (why.Locked p w)) k t = within_since h k _ t.1.within
remove_since b key h (tried.Again (why.Changed p x y)) k t = absurd t.1
remove_since b key h (tried.Again (why.Frozen g w)) k t = absurd t.1
remove_since b key h (tried.Again (why.Raced p x y)) k t = then_since h _ k _ _ t.1.steps
remove_since b key h tried.Full k t = absurd t
remove_since b key h (tried.Worn p w) k t = made_since h k _ t.1.loaded

raced_since : (b : Board) (key : ℕ) (h : Hand) (a x y : ℕ) (k : Hand) →
    LosesLock b key h a x y k ⊎ (LosesLink b h a x y k ⊎ LosesHead h a x y k) →
    Continues (known h) (known k)
raced_since b key h a x y k (inl lock) = then_since h _ k _ _ lock.steps
raced_since b key h a x y k (inr (inl link)) = then_since h _ k _ _ link.steps
raced_since b key h a x y k (inr (inr head)) = then_since h _ k _ _ head.steps

pub put_since : (b : Board) (key value : ℕ) (h : Hand) (came : Tried (Option ℕ)) (k : Hand) →
    PutTells b key value h came k → Continues (known h) (known k)
put_since b key value h (tried.Done old) k t = within_since h k t.0 t.1
put_since b key value h (tried.Again (why.Locked p w)) k t = within_since h k _ t.1.within
put_since b key value h (tried.Again (why.Changed p x y)) k t = then_since h _ k _ _ t.1.loads
put_since b key value h (tried.Again (why.Frozen g w)) k t = made_since h k _ t.1.loaded
put_since b key value h (tried.Again (why.Raced p x y)) k t = raced_since b key h p x y k t.1
put_since b key value h tried.Full k t = made_since h k _ t.1.0
put_since b key value h (tried.Worn p w) k t = made_since h k _ t.1.loaded

-- ---- what it told ----

module _ (b : Board) (h k : Hand) (number : k.number ≡ h.number) where
  -- a look is the entry of the call
  looked : (call : Call) (answer : Answer) (key : ℕ) (found : Option ℕ) → LooksUp b key h found k →
      ((place : ℕ) → entry_of k.number place call answer ≡ Some (Look place key key (pair_at key found))) →
      AddsEntry (caller_by b h) call answer (caller_by b k)
  looked call answer key found t is =
      record {
        moment = t.0;
        within = t.1;
        entry = Look (length (history t.0)) key key (pair_at key found);
        is = is (length (history t.0));
        place = refl;
        added = t.3;
      }

  exhausted : (key place word : ℕ) → AddsNoEntry h k → MeetsLast b key h place word k →
      IsExhausted (caller_by b h) key (caller_by b k)
  exhausted key place word none meets =
      let grown = changes_grow key meets.moment (known k) meets.within.5 in
      let enough = meets.enough in
      record { no_entry = none; enough = omega arith }

  pub get_tells : (key : ℕ) (came : Tried (Option ℕ)) → GetTells b key h came k →
      EndsAs (caller_by b h) (call.Get key) came (caller_by b k)
  get_tells key (tried.Done found) t = looked (call.Get key) (answer.Value found) key found t (λ place. refl)
  get_tells key (tried.Again cause) t = t.0
  get_tells key tried.Full t = absurd t
  get_tells key (tried.Worn place word) t = absurd t

  pub remove_tells : (key : ℕ) (came : Tried (Option ℕ)) → RemoveTells b key h came k →
      EndsAs (caller_by b h) (call.Remove key) came (caller_by b k)
  remove_tells key (tried.Done None) t = looked (call.Remove key) (answer.Old None) key None t (λ place. refl)
  remove_tells key (tried.Done (Some old)) t =
      record {
        moment = t.0;
        within = t.1;
        entry = Made (length (history t.0)) (change.Remove k.number key) (Some old);
        is = refl;
        place = refl;
        added = t.3
            ∙ ap (λ (z : ℕ). Made (length (history t.0)) (change.Remove z key) (Some old) ∷ (view h).log)
            (sym number);
      }
  remove_tells key (tried.Again cause) t = t.0
  remove_tells key tried.Full t = absurd t
  remove_tells key (tried.Worn place word) t = exhausted key place word t.0 t.1

  no_room : (key : ℕ) → AddsNoEntry h k → MeetsNoRow b key h k → HasNoRoom (caller_by b h) key (caller_by b k)
  no_room key none meets =
      let missing = meets.1 in
      record {
        no_entry = none;
        moment = missing.0;
        within = missing.1;
        absent = missing.2;
        used_up = meets.2;
      }

  pub put_tells : (key value : ℕ) (came : Tried (Option ℕ)) → PutTells b key value h came k →
      EndsAs (caller_by b h) (call.Put key value) came (caller_by b k)
  put_tells key value (tried.Done old) t =
      record {
        moment = t.0;
        within = t.1;
        entry = Made (length (history t.0)) (change.Put k.number key value) old;
        is = refl;
        place = refl;
        added = t.3
            ∙ ap (λ (z : ℕ). Made (length (history t.0)) (change.Put z key value) old ∷ (view h).log)
            (sym number);
      }
  put_tells key value (tried.Again cause) t = t.0
  put_tells key value tried.Full t = no_room key t.0 t.1
  put_tells key value (tried.Worn place word) t = exhausted key place word t.0 t.1
