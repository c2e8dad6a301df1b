-- What is drawn for each operation, from one generator of 32-bit words.
use Rattle.std.specs.Prelude.{ℕ, zero, suc, ◌+◌, ◌%◌, List, [], ◌∷◌, nat_lt, if◌then◌else◌}
use Rattle.rand_pcg.specs.Lcg.{Lcg, started, increment_of}
use Rattle.rand_pcg.specs.Pcg.{multiplier_64, pcg32}
use Rattle.ycsb_mix.specs.declared.mixes.Mix.{Mix}
use Rattle.ycsb_mix.specs.declared.mixes.Mix.TheVariants.{A, B, C, D, E, F}
use Rattle.ycsb_mix.specs.declared.drawing.Kind.{Kind}
use Rattle.ycsb_mix.specs.declared.drawing.Kind.TheVariants.{Get, Put, GetThenPut, GetLate, Insert, Scan}
use Rattle.ycsb_mix.specs.declared.drawing.Draw.{Draw}
use Rattle.ycsb_mix.specs.Choice.{chosen_rank}

-- the kind of an operation, by its mix and its first word modulo 100
abbrev pub kind_of : Mix → ℕ → Kind
kind_of A x = if nat_lt x 50 then Get else Put
kind_of B x = if nat_lt x 95 then Get else Put
kind_of C x = Get
kind_of D x = if nat_lt x 95 then GetLate else Insert
kind_of E x = if nat_lt x 95 then Scan else Insert
kind_of F x = if nat_lt x 50 then Get else GetThenPut

-- a rank that is chosen among so many by the next two words, and the generator after them
abbrev pub rank_draw : ℕ → Lcg → ℕ × Lcg
rank_draw load g =
    let high = pcg32 g in
    let low = pcg32 high.1 in (chosen_rank load high.0 low.0, low.1)

-- what an operation of this kind draws more: an insert nothing, a scan a rank and a count, others a rank
unfoldable pub draw_of : ℕ → Kind → Lcg → Draw × Lcg
draw_of load Insert g = (record { kind = Insert; rank = 0; count = 0 }, g)
draw_of load Scan g =
    let chosen = rank_draw load g in
    let last = pcg32 chosen.1 in
    (record { kind = Scan; rank = chosen.0; count = 1 + last.0 % 100 }, last.1)
draw_of load kind g =
    let chosen = rank_draw load g in
    (record { kind = kind; rank = chosen.0; count = 0 }, chosen.1)

-- the draw of the next operation, and the generator after it
unfoldable pub next_draw : Mix → ℕ → Lcg → Draw × Lcg
next_draw mix load g =
    let first = pcg32 g in draw_of load (kind_of mix (first.0 % 100)) first.1

-- the draws of so many operations
unfoldable pub draws_of : Mix → ℕ → ℕ → Lcg → List Draw
draws_of mix load zero g = []
draws_of mix load (suc n) g =
    (next_draw mix load g).0 ∷ draws_of mix load n (next_draw mix load g).1

-- the generator of a seed
abbrev pub generator_of : ℕ → Lcg
generator_of seed = started 64 multiplier_64 seed (increment_of 64 1)
