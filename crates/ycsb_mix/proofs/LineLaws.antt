-- The text of a mix without scans is a trace.
use Rattle.std.proofs.Common.{◌≡◌, ◌≢◌, ℕ, zero, suc, ◌+◌, ◌*◌, ◌%◌, ◌^◌, ◌<◌, ◌≤◌, Bool, true, false, nat_lt, ◌==◌, if◌then◌else◌, List, [], ◌∷◌, ◌++◌, map, refl, sym, ap, inl, ◌∙◌, append_assoc, arith}
use Rattle.std.specs.List.{AllByRecursion, AllZip, filter, flat_map, range_with_len}
use Rattle.std.proofs.Math.Nat.{mod-lt}
use Rattle.std.proofs.lemmas.List.Elements.{recursion_from_All}
use Rattle.std.proofs.lemmas.List.FromFn.{length-range_with_len, get_or-range_with_len}
use Rattle.rand_pcg.specs.Lcg.{Lcg}
use Rattle.rand_pcg.specs.Pcg.{pcg32}
use Rattle.trace_text.specs.declared.lines.Line.{Line}
use Rattle.trace_text.specs.Text.{headed}
use Rattle.trace_text.specs.TextLines.{HasLines}
use Rattle.trace_text.specs.Traces.{is_told, IsTrace}
use Rattle.trace_text.specs.Lines.{Says}
use Rattle.trace_text.specs.Laws.{WritesLine}
use Rattle.trace_text.proofs.WrittenLaws.{both_have, written_is_read}
use Rattle.ycsb_mix.specs.declared.mixes.Mix.{Mix}
use Rattle.ycsb_mix.specs.declared.mixes.Mix.TheVariants.{A, B, C, D, E, F}
use Rattle.ycsb_mix.specs.declared.mixes.Step.{Step}
use Rattle.ycsb_mix.specs.declared.mixes.Step.TheVariants as step
use Rattle.ycsb_mix.specs.declared.drawing.Kind.{Kind}
use Rattle.ycsb_mix.specs.declared.drawing.Kind.TheVariants.{Get, Put, GetThenPut, GetLate, Insert, Scan}
use Rattle.ycsb_mix.specs.declared.drawing.Draw.{Draw}
use Rattle.ycsb_mix.specs.Draws.{kind_of, draw_of, next_draw, draws_of, generator_of}
use Rattle.ycsb_mix.specs.Mix.{key_of, numbers_of, draw_at, calls_by, operation_calls, load_calls, caller_steps, phase_steps, steps_of, line_of, text_of, said_by}

-- a step whose line can be read, with numbers of 64 bits
abbrev IsReadable : ℕ → Step → Type 0
IsReadable callers step.Phase = Unit {0}
IsReadable callers (step.Caller caller) = caller < callers
IsReadable callers (step.Get key) = key < 2 ^ 64
IsReadable callers (step.Put key value) = (key < 2 ^ 64) × (value < 2 ^ 64)
IsReadable callers (step.Scan from count) = ⊥

-- its line says what the step is
reads_back : (callers : ℕ) (s : Step) → callers ≤ 64 → IsReadable callers s
    → WritesLine callers (line_of s) (said_by s)
reads_back callers step.Phase few readable = (written_is_read callers).phase
reads_back callers (step.Caller caller) few readable =
    (written_is_read callers).caller caller readable (omega (arith, few, readable))
reads_back callers (step.Get key) few readable = (written_is_read callers).get key readable
reads_back callers (step.Put key value) few readable =
    (written_is_read callers).put key value readable.0 readable.1
reads_back callers (step.Scan from count) few readable = absurd readable

-- the lines of a text, which say this
record SaysAll (callers : ℕ) (text : List ℕ) (said : List Line) : Type 0 where
  pub lines : List (List ℕ)
  pub cut : HasLines text lines
  pub each : AllZip (Says callers) lines said

-- the lines of readable steps say what the steps are
says_all : (callers : ℕ) (steps : List Step) → callers ≤ 64
    → AllByRecursion (IsReadable callers) steps
    → SaysAll callers (flat_map line_of steps) (map said_by steps)
says_all callers [] few readable = record { lines = []; cut = refl; each = tt }
says_all callers (s ∷ steps) few readable =
    let here = reads_back callers s few readable.0 in
    let whole = here.0 in
    let after = says_all callers steps few readable.1 in
    let rest = flat_map line_of steps in
    let split : line_of s ++ rest ≡ whole ++ 10 ∷ rest =
    ap (λ l. l ++ rest) here.2 ∙ append_assoc whole (10 ∷ []) rest in
    record {
      lines = whole ∷ after.lines;
      cut = (rest, record { whole = here.1; cut = inl split }, after.cut);
      each = (here.3, after.each);
    }

-- all that comes of elements with one property has another
flat_map_has : {X Y : Type 0} (Q : X → Type 0) (P : Y → Type 0) (f : X → List Y) (xs : List X)
    → ((x : X) → Q x → AllByRecursion P (f x)) → AllByRecursion Q xs
    → AllByRecursion P (flat_map f xs)
flat_map_has Q P f [] each all = tt
flat_map_has Q P f (x ∷ xs) each all =
    both_have P (f x) (flat_map f xs) (each x all.0) (flat_map_has Q P f xs each all.1)

-- one element that is taken or not
kept_has : {X : Type 0} (Q : X → Type 0) (b : Bool) (x : X) (xs : List X) → Q x
    → AllByRecursion Q xs → AllByRecursion Q (if b then x ∷ xs else xs)
kept_has Q true x xs here all = (here, all)
kept_has Q false x xs here all = all

-- elements that are taken keep a property
filter_has : {X : Type 0} (Q : X → Type 0) (p : X → Bool) (xs : List X) → AllByRecursion Q xs
    → AllByRecursion Q (filter p xs)
filter_has Q p [] all = tt
filter_has Q p (x ∷ xs) all = kept_has Q (p x) x (filter p xs) all.0 (filter_has Q p xs all.1)

-- numbers that are counted from 0 are below their number
range_below : (n : ℕ) → AllByRecursion (λ k. k < n) (range_with_len 0 n)
range_below n =
    recursion_from_All (λ k. k < n) (range_with_len 0 n) (λ k d below.
    let inside : k < n = omega (arith, length-range_with_len 0 n, below) in
    let is = get_or-range_with_len 0 n k d inside in omega (arith, is, inside))

-- calls under their caller's mark are readable
under_mark : (callers caller : ℕ) (calls : List Step) → caller < callers
    → AllByRecursion (IsReadable callers) calls
    → AllByRecursion (IsReadable callers) (headed (step.Caller caller ∷ []) calls)
under_mark callers caller [] inside readable = tt
under_mark callers caller (s ∷ calls) inside readable = (inside, readable)

-- a caller's steps are readable, if its calls are
caller_readable : (calls : ℕ → List Step) (callers below caller : ℕ)
    → ((number : ℕ) → number < below → AllByRecursion (IsReadable callers) (calls number))
    → caller < callers → AllByRecursion (IsReadable callers) (caller_steps calls callers below caller)
caller_readable calls callers below caller each inside =
    let numbers = filter_has (λ number. number < below) (λ number. number % callers == caller)
    (range_with_len 0 below) (range_below below) in
    under_mark callers caller (flat_map calls (numbers_of callers caller below)) inside
    (flat_map_has (λ number. number < below) (IsReadable callers) calls
    (numbers_of callers caller below) each numbers)

-- a phase is readable, if its calls are
phase_readable : (calls : ℕ → List Step) (callers below : ℕ)
    → ((number : ℕ) → number < below → AllByRecursion (IsReadable callers) (calls number))
    → AllByRecursion (IsReadable callers) (phase_steps calls callers below)
phase_readable calls callers below each = (
  tt,
  flat_map_has (λ caller. caller < callers) (IsReadable callers)
      (caller_steps calls callers below) (range_with_len 0 callers)
      (λ caller inside. caller_readable calls callers below caller each inside)
      (range_below callers),
)

-- a key is a number of 64 bits
key_fits : (number : ℕ) → key_of number < 2 ^ 64
key_fits number = mod-lt (number * 0x9e3779b97f4a7c15) (omega arith)

-- the calls of an operation that is no scan are readable
calls_readable : (callers load : ℕ) (kind : Kind) (rank count j : ℕ) (keys : List ℕ)
    → kind ≢ Scan → load ≤ 2 ^ 20 → j < 2 ^ 20
    → AllByRecursion (IsReadable callers) (calls_by load kind rank count j keys)
calls_readable callers load Get rank count j keys no_scan few within = (key_fits rank, tt)
calls_readable callers load Put rank count j keys no_scan few within =
    ((key_fits rank, omega (arith, few, within)), tt)
calls_readable callers load GetThenPut rank count j keys no_scan few within =
    (key_fits rank, ((key_fits rank, omega (arith, few, within)), tt))
calls_readable callers load GetLate rank count j keys no_scan few within = (key_fits _, tt)
calls_readable callers load Insert rank count j keys no_scan few within =
    ((key_fits (load + j), omega (arith, few, within)), tt)
calls_readable callers load Scan rank count j keys no_scan few within = absurd (no_scan refl)

-- a draw that is no scan
abbrev IsNoScan : Draw → Type 0
IsNoScan draw = draw.kind ≢ Scan

-- a draw of draws without scans is no scan
no_scan_at : (draws : List Draw) (j : ℕ) → AllByRecursion IsNoScan draws
    → IsNoScan (draw_at draws j)
no_scan_at [] j none = λ e. absurd (cc e)
no_scan_at (draw ∷ draws) zero none = none.0
no_scan_at (draw ∷ draws) (suc j) none = no_scan_at draws j none.1

-- a choice of two kinds that are no scans
either_no_scan : (b : Bool) (one other : Kind) → one ≢ Scan → other ≢ Scan
    → (if b then one else other) ≢ Scan
either_no_scan true one other first second = first
either_no_scan false one other first second = second

-- no operation of another mix than E is a scan
kind_no_scan : (mix : Mix) (x : ℕ) → mix ≢ E → kind_of mix x ≢ Scan
kind_no_scan A x other = either_no_scan (nat_lt x 50) Get Put (λ e. absurd (cc e)) (λ e. absurd (cc e))
kind_no_scan B x other = either_no_scan (nat_lt x 95) Get Put (λ e. absurd (cc e)) (λ e. absurd (cc e))
kind_no_scan C x other = λ e. absurd (cc e)
kind_no_scan D x other =
    either_no_scan (nat_lt x 95) GetLate Insert (λ e. absurd (cc e)) (λ e. absurd (cc e))
kind_no_scan E x other = absurd (other refl)
kind_no_scan F x other =
    either_no_scan (nat_lt x 50) Get GetThenPut (λ e. absurd (cc e)) (λ e. absurd (cc e))

-- a draw is of the kind that was asked for
kind_kept : (load : ℕ) (kind : Kind) (g : Lcg) → (draw_of load kind g).0.kind ≡ kind
unfolding draw_of
kind_kept load Get g = refl
kind_kept load Put g = refl
kind_kept load GetThenPut g = refl
kind_kept load GetLate g = refl
kind_kept load Insert g = refl
kind_kept load Scan g = refl

-- the next draw of another mix than E is no scan
next_no_scan : (mix : Mix) (load : ℕ) (g : Lcg) → mix ≢ E → IsNoScan (next_draw mix load g).0
unfolding next_draw
next_no_scan mix load g other = λ e.
    kind_no_scan mix ((pcg32 g).0 % 100) other
    (sym (kind_kept load (kind_of mix ((pcg32 g).0 % 100)) (pcg32 g).1) ∙ e)

-- no draw of another mix than E is a scan
draws_no_scan : (mix : Mix) (load n : ℕ) (g : Lcg) → mix ≢ E
    → AllByRecursion IsNoScan (draws_of mix load n g)
unfolding draws_of
draws_no_scan mix load zero g other = tt
draws_no_scan mix load (suc n) g other =
    (next_no_scan mix load g other, draws_no_scan mix load n (next_draw mix load g).1 other)

-- the text of a mix without scans is the trace of its steps
pub mix_is_trace : (mix : Mix) (load ops callers seed : ℕ) → mix ≢ E → load ≤ 2 ^ 20
    → ops ≤ 2 ^ 20 → callers ≤ 64
    → IsTrace callers (text_of mix load ops callers seed)
    (filter is_told (map said_by (steps_of mix load ops callers seed)))
mix_is_trace mix load ops callers seed other load_few ops_few few =
    let draws = draws_of mix load ops (generator_of seed) in
    let none = draws_no_scan mix load ops (generator_of seed) other in
    let loaded = phase_readable load_calls callers load
    (λ number inside. ((key_fits number, omega (arith, inside, load_few)), tt)) in
    let operated = phase_readable (operation_calls load callers draws) callers ops
    (λ j inside. calls_readable callers load (draw_at draws j).kind (draw_at draws j).rank
    (draw_at draws j).count j _ (no_scan_at draws j none) load_few
    (omega (arith, inside, ops_few))) in
    let all = says_all callers (steps_of mix load ops callers seed) few
    (both_have (IsReadable callers) (phase_steps load_calls callers load)
    (phase_steps (operation_calls load callers draws) callers ops) loaded operated) in
    record {
      lines = all.lines;
      cut = all.cut;
      said = map said_by (steps_of mix load ops callers seed);
      each = all.each;
      told_are = refl;
    }
