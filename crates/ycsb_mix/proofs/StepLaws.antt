-- The steps of one caller, number by number.
use Rattle.std.proofs.Common.{◌≡◌, ◌≢◌, ℕ, ◌+◌, ◌-◌, ◌%◌, ◌<◌, ◌≤◌, Bool, true, false, cond, List, [], ◌∷◌, ◌++◌, length, map, refl, sym, ap, ◌∙◌, append_assoc, arith}
use Rattle.std.specs.List.{filter, flat_map, range_with_len}
use Rattle.std.proofs.lemmas.List.{append-nil, map-append, length-append, get_or_append_left, flat_map_more}
use Rattle.std.proofs.lemmas.List.Elements.{filter-append}
use Rattle.std.proofs.lemmas.List.FromFn.{length-range_with_len, get_or-range_with_len}
use Rattle.trace_text.specs.Text.{headed}
use Rattle.trace_text.proofs.TextLaws.{headed-some, append-some, range_more}
use Rattle.ycsb_mix.specs.declared.mixes.Step.{Step}
use Rattle.ycsb_mix.specs.declared.mixes.Step.TheVariants as step
use Rattle.ycsb_mix.specs.declared.drawing.Kind.{Kind}
use Rattle.ycsb_mix.specs.declared.drawing.Kind.TheVariants.{Get, Put, GetThenPut, GetLate, Insert, Scan}
use Rattle.ycsb_mix.specs.declared.drawing.Draw.{Draw}
use Rattle.ycsb_mix.specs.Mix.{numbers_of, draw_at, inserts, inserted_by, known_keys, late_one, calls_by, operation_calls, load_calls, caller_steps, phase_steps, steps_of}
use Rattle.ycsb_mix.proofs.Strides.{HasDone, stride_start, stride_next}
use Rattle.ycsb_mix.proofs.DrawLaws.{length-draws_of}
use Rattle.ycsb_mix.specs.declared.mixes.Mix.{Mix}
use Rattle.ycsb_mix.specs.Draws.{draws_of, generator_of}

-- each operation makes a call
pub calls_by-some : (load : ℕ) (kind : Kind) (rank count j : ℕ) (keys : List ℕ)
    → calls_by load kind rank count j keys ≢ []
calls_by-some load Get rank count j keys = λ e. absurd (cc e)
calls_by-some load Put rank count j keys = λ e. absurd (cc e)
calls_by-some load GetThenPut rank count j keys = λ e. absurd (cc e)
calls_by-some load GetLate rank count j keys = λ e. absurd (cc e)
calls_by-some load Insert rank count j keys = λ e. absurd (cc e)
calls_by-some load Scan rank count j keys = λ e. absurd (cc e)

-- what a caller has done: its mark, and the calls with its numbers below the next one
pub record HasWritten (calls : ℕ → List Step) (callers caller next : ℕ) (done : List ℕ)
    (old new : List Step) : Type 0 where
  pub stride : HasDone callers caller next done
  pub steps_are : new ≡ old ++ step.Caller caller ∷ [] ++ flat_map calls done
  pub some : next ≢ caller → flat_map calls done ≢ []

-- a caller has written its mark alone
pub written_mark : (calls : ℕ → List Step) (callers caller : ℕ) (old new : List Step)
    → caller < callers → new ≡ old ++ step.Caller caller ∷ []
    → HasWritten calls callers caller caller [] old new
written_mark calls callers caller old new below mark = record {
  stride = stride_start callers caller below;
  steps_are = mark ∙ sym (append-nil (old ++ step.Caller caller ∷ []));
  some = λ e. absurd (e refl);
}

-- what follows other calls is something, if it is
more-some : (calls : ℕ → List Step) (done : List ℕ) (next : ℕ) → calls next ≢ []
    → flat_map calls (done ++ next ∷ []) ≢ []
more-some calls done next some = λ e.
    append-some (flat_map calls done) (calls next) some (flat_map_more calls [] done next ∙ e)

-- the calls of the caller's next number were written
pub written_more : (calls : ℕ → List Step) (callers caller next : ℕ) (done : List ℕ)
    (old mid new : List Step)
    → HasWritten calls callers caller next done old mid → 0 < callers → new ≡ mid ++ calls next
    → calls next ≢ []
    → HasWritten calls callers caller (next + callers) (done ++ next ∷ []) old new
written_more calls callers caller next done old mid new written some added called = record {
  stride = stride_next callers caller next done some written.stride;
  steps_are =
      added ∙ ap (λ l. l ++ calls next) written.steps_are
      ∙ flat_map_more calls (old ++ step.Caller caller ∷ []) done next;
  some = λ e. more-some calls done next called;
}

-- all of a caller's calls were written
pub written_all : (calls : ℕ → List Step) (callers caller next below : ℕ) (done : List ℕ)
    (old new : List Step)
    → HasWritten calls callers caller next done old new → caller < below → below ≤ next
    → next < below + callers → new ≡ old ++ caller_steps calls callers below caller
written_all calls callers caller next below done old new written inside past near =
    let all = written.stride.all below past near in
    let some = written.some (λ e. absurd (omega (arith, e))) in
    written.steps_are
    ∙ append_assoc old (step.Caller caller ∷ []) (flat_map calls done)
    ∙ ap (λ l. old ++ l)
    (sym (headed-some (step.Caller caller ∷ []) (flat_map calls done) some)
    ∙ ap (λ l. headed (step.Caller caller ∷ []) (flat_map calls l)) (sym all))

-- a caller without numbers writes nothing
pub written_none : (calls : ℕ → List Step) (callers caller below : ℕ) (old : List Step)
    → HasDone callers caller caller [] → below ≤ caller → caller < callers
    → old ≡ old ++ caller_steps calls callers below caller
written_none calls callers caller below old stride past inside =
    let none = stride.all below past (omega arith) in
    sym (append-nil old)
    ∙ ap (λ done. old ++ headed (step.Caller caller ∷ []) (flat_map calls done)) (sym none)

-- one more number inserts or not
inserted_by_more : (load : ℕ) (draws : List Draw) (done : List ℕ) (j : ℕ)
    → inserted_by load draws (done ++ j ∷ [])
    ≡ inserted_by load draws done
    ++ map (λ i. load + i) (cond (inserts (draw_at draws j).kind) (j ∷ []) [])
inserted_by_more load draws done j =
    let p : ℕ → Bool = λ i. inserts (draw_at draws i).kind in
    ap (map (λ i. load + i)) (filter-append p done (j ∷ []))
    ∙ map-append (λ i. load + i) (filter p done) (cond (p j) (j ∷ []) [])

-- how many keys a caller knows
length_known : (load : ℕ) (own : List ℕ) → length (range_with_len 0 load ++ own) ≡ load + length own
length_known load own =
    length-append (range_with_len 0 load) own
    ∙ ap (λ n. n + length own) (length-range_with_len 0 load)

-- a late key is one of the loaded ones, where the caller inserted no more than so many
pub late_one-loaded : (load rank : ℕ) (own : List ℕ) → length own ≤ rank → rank < load
    → late_one (range_with_len 0 load ++ own) rank ≡ load - 1 - (rank - length own)
late_one-loaded load rank own past within =
    let long = length_known load own in
    let keys = range_with_len 0 load ++ own in
    let place = length keys - 1 - rank in
    let inside : place < load = omega (arith, long) in
    get_or_append_left (range_with_len 0 load) own 0 place
    (omega (arith, length-range_with_len 0 load, inside))
    ∙ get_or-range_with_len 0 load place 0 inside ∙ omega (arith, long)

-- one more caller's steps were written
pub callers_more : (steps : ℕ → List Step) (caller : ℕ) (old mid new : List Step)
    → mid ≡ old ++ step.Phase ∷ [] ++ flat_map steps (range_with_len 0 caller)
    → new ≡ mid ++ steps caller
    → new ≡ old ++ step.Phase ∷ [] ++ flat_map steps (range_with_len 0 (caller + 1))
callers_more steps caller old mid new before added =
    added ∙ ap (λ l. l ++ steps caller) before
    ∙ flat_map_more steps (old ++ step.Phase ∷ []) (range_with_len 0 caller) caller
    ∙ ap (λ l. old ++ step.Phase ∷ [] ++ flat_map steps l) (sym (range_more caller))

-- what is called of an operation is what its draw and the caller's keys say
pub operation_written : (load callers caller j : ℕ) (draws : List Draw) (done own : List ℕ)
    (draw : Draw) → HasDone callers caller j done → 0 < callers
    → own ≡ inserted_by load draws done → draw ≡ draw_at draws j
    → calls_by load draw.kind draw.rank draw.count j (range_with_len 0 load ++ own)
    ≡ operation_calls load callers draws j
operation_written load callers caller j draws done own draw stride some own_is draw_is =
    let numbers : numbers_of callers (j % callers) j ≡ done =
    ap (λ c. numbers_of callers c j) stride.mine ∙ stride.all j (omega arith) (omega arith) in
    let keys : range_with_len 0 load ++ own ≡ known_keys load callers draws j =
    ap (λ l. range_with_len 0 load ++ l)
    (own_is ∙ ap (inserted_by load draws) (sym numbers)) in
    ap (calls_by load draw.kind draw.rank draw.count j) keys
    ∙ ap (λ (d : Draw). calls_by load d.kind d.rank d.count j (known_keys load callers draws j))
    draw_is

-- a number of an insert, or none
inserted_one : (load j : ℕ) (b : Bool)
    → map (λ i. load + i) (cond b (j ∷ []) []) ≡ cond b ((load + j) ∷ []) []
inserted_one load j true = refl
inserted_one load j false = refl

-- the keys that a caller inserted, after one more operation
pub own_more : (load j : ℕ) (draws : List Draw) (done own new : List ℕ) (draw : Draw)
    → own ≡ inserted_by load draws done → draw ≡ draw_at draws j
    → new ≡ own ++ cond (inserts draw.kind) ((load + j) ∷ []) []
    → new ≡ inserted_by load draws (done ++ j ∷ [])
own_more load j draws done own new draw own_is draw_is added =
    added ∙ ap (λ l. l ++ cond (inserts draw.kind) ((load + j) ∷ []) []) own_is
    ∙ ap (λ (d : Draw). inserted_by load draws done ++ cond (inserts d.kind) ((load + j) ∷ []) [])
    draw_is
    ∙ ap (λ l. inserted_by load draws done ++ l)
    (sym (inserted_one load j (inserts (draw_at draws j).kind)))
    ∙ sym (inserted_by_more load draws done j)

-- both phases were written
pub both_phases : (mix : Mix) (load ops callers seed : ℕ) (draws : List Draw)
    (start loaded new : List Step)
    → start ≡ [] → draws ≡ draws_of mix load ops (generator_of seed)
    → loaded ≡ start ++ phase_steps load_calls callers load
    → new ≡ loaded ++ phase_steps (operation_calls load callers draws) callers (length draws)
    → new ≡ steps_of mix load ops callers seed
both_phases mix load ops callers seed draws start loaded new none drawn first second =
    let calls = phase_steps (operation_calls load callers draws) callers in
    let count : length draws ≡ ops = ap length drawn ∙ length-draws_of mix load ops _ in
    second ∙ ap (λ n. loaded ++ calls n) count
    ∙ ap (λ l. l ++ calls ops) (first ∙ ap (λ l. l ++ phase_steps load_calls callers load) none)
    ∙ ap
    (λ (d : List Draw).
    phase_steps load_calls callers load
    ++ phase_steps (operation_calls load callers d) callers ops)
    drawn
