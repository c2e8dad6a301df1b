-- The draws one after another.
use Rattle.std.proofs.Common.{◌≡◌, ◌≢◌, ℕ, zero, suc, ◌%◌, ◌+◌, ◌<◌, List, [], ◌∷◌, ◌++◌, length, refl, sym, ap, ◌∙◌, append_assoc, arith}
use Rattle.std.specs.List.{AllByRecursion}
use Rattle.std.proofs.lemmas.List.{append-nil, length_push}
use Rattle.wire_commands.proofs.Spans.{push_has}
use Rattle.rand_pcg.specs.Lcg.{Lcg}
use Rattle.ycsb_mix.specs.declared.mixes.Mix.{Mix}
use Rattle.ycsb_mix.specs.declared.drawing.Draw.{Draw}
use Rattle.ycsb_mix.specs.declared.drawing.Kind.{Kind}
use Rattle.ycsb_mix.specs.declared.drawing.Kind.TheVariants.{Get, Put, GetThenPut, GetLate, Insert, Scan}
use Rattle.rand_pcg.specs.Pcg.{pcg32}
use Rattle.ycsb_mix.specs.Draws.{rank_draw, draw_of, next_draw, draws_of}

-- what was drawn, before what will be drawn
pub record HasDrawn (mix : Mix) (load : ℕ) (start words : Lcg) (drawn : List Draw) : Type 0 where
  pub all : (left : ℕ)
      → drawn ++ draws_of mix load left words ≡ draws_of mix load (length drawn + left) start
  pub within : AllByRecursion (λ d. d.rank < load) drawn

-- the draws begin with the next one
draws_of-next : (mix : Mix) (load left : ℕ) (words next : Lcg) (draw : Draw)
    → (draw, next) ≡ next_draw mix load words
    → draw ∷ draws_of mix load left next ≡ draws_of mix load (suc left) words
unfolding draws_of
draws_of-next mix load left words next draw e =
    ap (λ (p : Draw × Lcg). p.0 ∷ draws_of mix load left p.1) e

-- one more was drawn
pub drawn_more : (mix : Mix) (load : ℕ) (start words next : Lcg) (drawn : List Draw) (draw : Draw)
    → HasDrawn mix load start words drawn → (draw, next) ≡ next_draw mix load words
    → draw.rank < load → HasDrawn mix load start next (drawn ++ draw ∷ [])
drawn_more mix load start words next drawn draw has e within = record {
  all = λ left.
      let on : length drawn + suc left ≡ length (drawn ++ draw ∷ []) + left =
      omega (arith, length_push drawn draw) in
      append_assoc drawn (draw ∷ []) (draws_of mix load left next)
      ∙ ap (λ l. drawn ++ l) (draws_of-next mix load left words next draw e)
      ∙ has.all (suc left) ∙ ap (λ n. draws_of mix load n start) on;
  within = push_has (λ d. d.rank < load) drawn draw has.within within;
}

-- all were drawn
pub drawn_all : (mix : Mix) (load ops : ℕ) (start words : Lcg) (drawn : List Draw)
    → HasDrawn mix load start words drawn → length drawn ≡ ops
    → drawn ≡ draws_of mix load ops start
unfolding draws_of
drawn_all mix load ops start words drawn has count =
    let on : length drawn + 0 ≡ ops = omega (arith, count) in
    sym (append-nil drawn) ∙ has.all 0 ∙ ap (λ n. draws_of mix load n start) on

-- there are as many draws as were asked for
pub length-draws_of : (mix : Mix) (load n : ℕ) (g : Lcg) → length (draws_of mix load n g) ≡ n
unfolding draws_of
length-draws_of mix load zero g = refl
length-draws_of mix load (suc n) g = ap suc (length-draws_of mix load n (next_draw mix load g).1)

-- a draw of this kind with the rank that was drawn
abbrev with_rank : Kind → ℕ × Lcg → Draw × Lcg
with_rank kind drawn = (record { kind = kind; rank = drawn.0; count = 0 }, drawn.1)

-- it has the rank that was drawn
rank_kept : (kind : Kind) (rank : ℕ) (next : Lcg) (p : ℕ × Lcg)
    → ◌≡◌ {A = ℕ × Lcg} (rank, next) p → with_rank kind (rank, next) ≡ with_rank kind p
rank_kept kind rank next p e = ap (with_rank kind) e

-- what is neither an insert nor a scan draws a rank alone
pub draw_of-rank : (load : ℕ) (kind : Kind) (g : Lcg) (rank : ℕ) (next : Lcg)
    → kind ≢ Insert → kind ≢ Scan → (rank, next) ≡ rank_draw load g
    → with_rank kind (rank, next) ≡ draw_of load kind g
unfolding draw_of
draw_of-rank load Get g rank next insert scan e = rank_kept Get rank next (rank_draw load g) e
draw_of-rank load Put g rank next insert scan e = rank_kept Put rank next (rank_draw load g) e
draw_of-rank load GetThenPut g rank next insert scan e =
    rank_kept GetThenPut rank next (rank_draw load g) e
draw_of-rank load GetLate g rank next insert scan e =
    rank_kept GetLate rank next (rank_draw load g) e
draw_of-rank load Insert g rank next insert scan e = absurd (insert refl)
draw_of-rank load Scan g rank next insert scan e = absurd (scan refl)

-- a scan from this rank with the count that was drawn
abbrev with_count : ℕ → ℕ × Lcg → Draw × Lcg
with_count rank drawn =
    (record { kind = Scan; rank = rank; count = 1 + drawn.0 % 100 }, drawn.1)

-- a scan draws a rank and a count
pub draw_of-scan : (load : ℕ) (g : Lcg) (rank : ℕ) (mid : Lcg) (word : ℕ) (next : Lcg)
    → (rank, mid) ≡ rank_draw load g → (word, next) ≡ pcg32 mid
    → with_count rank (word, next) ≡ draw_of load Scan g
unfolding draw_of
draw_of-scan load g rank mid word next ranked worded =
    ap (with_count rank) worded
    ∙ ap (λ (p : ℕ × Lcg). with_count p.0 (pcg32 p.1)) ranked

-- an insert draws nothing
pub draw_of-insert : (load : ℕ) (g : Lcg)
    → with_rank Insert (0, g) ≡ draw_of load Insert g
unfolding draw_of
draw_of-insert load g = refl
