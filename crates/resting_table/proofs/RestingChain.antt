-- The chain of a part at rest: each next word names the part's next group, and the last one names none.
use Rattle.std.proofs.Common.{◌≡◌, ◌≢◌, ⊎_elim, ℕ, zero, suc, ◌+◌, ◌*◌, ◌<◌, ◌≤◌, Bool, true, false}
use Rattle.std.proofs.Common.{cond, ◌==◌, [], ◌∷◌, refl, sym, ap, ◌∙◌, arith}
use Rattle.std.specs.Prelude.{◌&&◌, nat_lt}
use Rattle.std.proofs.Math.Nat.{mul-le-mul_right}
use Rattle.std.proofs.lemmas.Bool.{cases_lt, le-ltb, lt-ltb}
use mathlib.Core.Logic.{dite}
use native.Mathlib.Decide.{ℕ_discrete}
use Rattle.map_model.specs.Map.{Map}
use Rattle.word_layout.specs.declared.headers.HeaderWord.TheVariants as header
use Rattle.word_layout.specs.Parts.{greatest_key, part_with}
use Rattle.word_layout.specs.Shape.{first_group_of, parts_in}
use Rattle.word_layout.specs.Words.{Header}
use Rattle.index_machine.specs.declared.events.Action.{Action}
use Rattle.index_machine.specs.declared.events.Action.TheVariants.{Freeze, Install, LinkRow, NewGroup}
use Rattle.index_machine.specs.declared.events.Action.TheVariants.{StoreHeader, StoreOpened, Thaw}
use Rattle.index_machine.specs.declared.opening.Opening.{Opening}
use Rattle.index_machine.specs.Execution.{Execution}
use Rattle.index_machine.specs.Keepers.{IsPart}
use Rattle.index_machine.specs.OpeningRows.{has_behind, is_in_opening_chain, opening_count}
use Rattle.index_machine.specs.OpeningRows.{opening_group, opening_next}
use Rattle.index_machine.specs.Words.{limits, shape, store_of, stored, word}
use Rattle.index_machine.proofs.OpeningPlan.{count_few, in_chain, key_number, number_among, number_of}
use Rattle.index_machine.proofs.OpeningPlan.{opening_group-beyond, opening_group-is, row-number, row-part, row_of}
use Rattle.index_machine.proofs.OpeningPlan.{row_opened}
use Rattle.resting_table.specs.NoRebuild.{HasNoRebuild, IsNoRebuild}
use Rattle.resting_table.specs.Resting.{pairs_before}
use Rattle.resting_table.proofs.PairsBelow.{same_tests}

-- ---- next words ----

never_second : (b : Bool) → (b && false) ≡ false
never_second true = refl
never_second false = refl

next_step : (by : ℕ) (d : Action) (g n : ℕ) → IsNoRebuild d → stored (store_of by d) (Header g header.Next) n ≡ n
next_step by (LinkRow h lane place change zero next) g n is =
    ap (λ (b : Bool). cond b place n) (never_second (h == g))
next_step by (LinkRow h lane place change (suc before) next) g n is = refl
next_step by (Freeze h) g n is = absurd is
next_step by (Thaw h) g n is = absurd is
next_step by (StoreHeader h which value) g n is = absurd is
next_step by (NewGroup h low high first) g n is = absurd is
next_step by (StoreOpened h first) g n is = absurd is
next_step by (Install at first low high) g n is = absurd is
next_step by d g n is = refl

-- they are those of the opening
pub next_as_opened : (o : Opening) (g : ℕ) (t : Execution) → HasNoRebuild t →
    word o t (Header g header.Next) ≡ opening_next o g
next_as_opened o g [] none_rebuilt = refl
next_as_opened o g (e ∷ t) none_rebuilt =
    next_step e.by e.action g (word o t (Header g header.Next)) none_rebuilt.0 ∙ next_as_opened o g t none_rebuilt.1

module _ (o : Opening) (part number : ℕ) (is_part : IsPart o part) (among : number < opening_count o part) where
  abbrev group : ℕ
  group = row_of o part number

  few : number < (limits o).groups
  few = count_few o part number is_part among

  pub row_chained : is_in_opening_chain o group ≡ true
  row_chained = in_chain o group (row_opened o part number is_part among)

  behind_is : has_behind o group 1 ≡ nat_lt (number + 1) (opening_count o part)
  behind_is =
      λ j. nat_lt (row-number o part number few j + 1) (opening_count o (row-part o part number few j))

  next_is : (b : Bool) → nat_lt (number + 1) (opening_count o part) ≡ b →
      opening_next o group ≡ cond b (group + 1 + 1) 0
  next_is b is =
      (λ j. cond (row_chained j && behind_is j) (group + 1 + 1) 0)
      ∙ ap (λ (z : Bool). cond z (group + 1 + 1) 0) is

  -- where there is no next group, it is the last one of its part
  pub last_group : opening_next o group ≡ 0 → number + 1 ≡ opening_count o part
  last_group none = ⊎_elim
      (λ (more : number + 1 < opening_count o part).
      let next = next_is true (lt-ltb (number + 1) (opening_count o part) more) in
      absurd (omega arith))
      (λ (over : opening_count o part ≤ number + 1). omega arith)
      (cases_lt (number + 1) (opening_count o part))

  -- and else the next word names the group behind it
  pub next_group : opening_next o group ≢ 0 →
      (opening_next o group ≡ group + 2) × (number + 1 < opening_count o part)
  next_group some = ⊎_elim
      (λ (more : number + 1 < opening_count o part).
      let next = next_is true (lt-ltb (number + 1) (opening_count o part) more) in (omega arith, more))
      (λ (over : opening_count o part ≤ number + 1).
      absurd (some (next_is false (le-ltb (number + 1) (opening_count o part) over))))
      (cases_lt (number + 1) (opening_count o part))

-- ---- the end of a part ----

-- a key of a group row of the first parts is of a group of their chains
part_reached : (o : Opening) (part k : ℕ) → IsPart o part → k ≤ greatest_key →
    opening_group o k < first_group_of (shape o) (part + 1) →
    opening_group o k < first_group_of (shape o) part + opening_count o part
part_reached o part k is_part small below =
    let p : ℕ = part_with (shape o).bounds k in
    let n : ℕ = number_of o p k in
    let is = opening_group-is o k small in
    let few = key_number o k in
    let among = number_among o p k in
    ⊎_elim
    (λ (before : p < part).
    let room : (p + 1) * (limits o).groups ≤ part * (limits o).groups =
    mul-le-mul_right (limits o).groups (let le : p + 1 ≤ part = omega arith in le)
    in
    let one : (p + 1) * (limits o).groups ≡ p * (limits o).groups + (limits o).groups = omega arith in
    omega (arith, is, few, room, one))
    (λ (from : part ≤ p).
    dite (ℕ_discrete p part)
    (λ (same : p ≡ part).
    let count : opening_count o p ≡ opening_count o part = ap (opening_count o) same in
    let first : p * (limits o).groups ≡ part * (limits o).groups = ap (λ (q : ℕ). q * (limits o).groups) same in
    omega (arith, is, among, count, first))
    (λ (other : p ≢ part).
    let room : (part + 1) * (limits o).groups ≤ p * (limits o).groups =
    mul-le-mul_right (limits o).groups (let le : part + 1 ≤ p = omega arith in le)
    in
    absurd (omega (arith, is, below, room))))
    (cases_lt p part)

count_within : (o : Opening) (part : ℕ) → IsPart o part →
    first_group_of (shape o) part + opening_count o part ≤ first_group_of (shape o) (part + 1)
count_within o part is_part =
    let fits = o.fits part is_part in
    let one : (part + 1) * (limits o).groups ≡ part * (limits o).groups + (limits o).groups = omega arith in
    omega (arith, fits, one)

-- so the pairs of the groups before the next part are those of the groups up to the last one of the chain
pub part_ends : (o : Opening) (part : ℕ) (m : Map) → IsPart o part →
    pairs_before o (first_group_of (shape o) part + opening_count o part) m
    ≡ pairs_before o (first_group_of (shape o) (part + 1)) m
part_ends o part m is_part =
    let end : ℕ = first_group_of (shape o) part + opening_count o part in
    let next : ℕ = first_group_of (shape o) (part + 1) in
    let within = count_within o part is_part in
    same_tests (λ (k : ℕ). nat_lt (opening_group o k) end) (λ (k : ℕ). nat_lt (opening_group o k) next) m
    (λ k x e. ⊎_elim
    (λ (before : opening_group o k < end).
    lt-ltb (opening_group o k) end before ∙ sym (lt-ltb (opening_group o k) next (omega (arith, before, within))))
    (λ (behind : end ≤ opening_group o k).
    le-ltb (opening_group o k) end behind ∙ sym (le-ltb (opening_group o k) next (past k behind)))
    (cases_lt (opening_group o k) end))
  where
    past : (k : ℕ) → first_group_of (shape o) part + opening_count o part ≤ opening_group o k →
        first_group_of (shape o) (part + 1) ≤ opening_group o k
    past k behind = ⊎_elim
        (λ (before : opening_group o k < first_group_of (shape o) (part + 1)).
        ⊎_elim
        (λ (beyond : greatest_key < k).
        let total = opening_group-beyond o k beyond in
        let room : (part + 1) * (limits o).groups ≤ parts_in (shape o) * (limits o).groups =
        mul-le-mul_right (limits o).groups (let le : part + 1 ≤ parts_in (shape o) = omega (arith, is_part) in le)
        in
        absurd (omega (arith, before, total, room)))
        (λ (small : k ≤ greatest_key).
        let reached = part_reached o part k is_part small before in
        absurd (omega (arith, reached, behind)))
        (cases_lt greatest_key k))
        (λ (le : first_group_of (shape o) (part + 1) ≤ opening_group o k). le)
        (cases_lt (opening_group o k) (first_group_of (shape o) (part + 1)))
