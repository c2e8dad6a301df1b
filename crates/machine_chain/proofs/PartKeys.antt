-- The least and the greatest key of the part that has a key.
use Rattle.std.proofs.Common.{◌≡◌, ◌≢◌, ℕ, ◌+◌, ◌<◌, ◌≤◌, ap, arith}
use Rattle.word_layout.specs.Parts.{greatest_key, part_with}
use Rattle.word_layout.proofs.PartGroups.{part_with-within, part_with-key, part_with-has, last_key-greatest}
use Rattle.index_machine.specs.declared.opening.Opening.{Opening}
use Rattle.index_machine.specs.Words.{shape}
use Rattle.index_machine.specs.Keepers.{IsPart, IsKeyIn, first_key, last_key}
use Rattle.machine_chain.specs.Chain.{start_of, end_of}

-- a key lies in its part
pub key_lies : (o : Opening) (k : ℕ) → k ≤ greatest_key → (start_of o k ≤ k) × (k ≤ end_of o k)
key_lies o k small =
    let has = part_with-has (shape o).bounds k o.layout.cut small in (has.from, has.to)

-- a part ends at a key
pub end_is_key : (o : Opening) (k : ℕ) → end_of o k ≤ greatest_key
end_is_key o k = last_key-greatest (shape o).bounds (part_with (shape o).bounds k) o.layout.cut

-- keys between the two are of the same part
pub same_part : (o : Opening) (k m : ℕ) → start_of o k ≤ m → m ≤ end_of o k →
    part_with (shape o).bounds m ≡ part_with (shape o).bounds k
same_part o k m low high =
    part_with-key (shape o).bounds (part_with (shape o).bounds k) m o.layout.cut
    (part_with-within (shape o).bounds k) (record { from = low; to = high })

pub same_start : (o : Opening) (k m : ℕ) → start_of o k ≤ m → m ≤ end_of o k →
    start_of o m ≡ start_of o k
same_start o k m low high = ap (first_key o) (same_part o k m low high)

pub same_end : (o : Opening) (k m : ℕ) → start_of o k ≤ m → m ≤ end_of o k → end_of o m ≡ end_of o k
same_end o k m low high = ap (last_key o) (same_part o k m low high)

-- a key that is not the last of its part has the next one in the part
pub next_key : (o : Opening) (k : ℕ) → k < end_of o k →
    (start_of o (k + 1) ≡ start_of o k) × (end_of o (k + 1) ≡ end_of o k) × (start_of o k ≤ k)
next_key o k lt =
    let lies = key_lies o k (omega (arith, lt, end_is_key o k)) in (
      same_start o k (k + 1) (omega (arith, lies.0)) (omega (arith, lt)),
      same_end o k (k + 1) (omega (arith, lies.0)) (omega (arith, lt)),
      lies.0,
    )

pub next_part : (o : Opening) (k : ℕ) → k < end_of o k →
    part_with (shape o).bounds (k + 1) ≡ part_with (shape o).bounds k
next_part o k lt = same_part o k (k + 1) (let least = (next_key o k lt).2 in omega arith) (omega (arith, lt))

-- a key that is not the first of its part has the one before it in the part
pub inner_key : (o : Opening) (k : ℕ) → k + 1 ≤ greatest_key → k + 1 ≢ start_of o (k + 1) →
    (k < end_of o k) × (start_of o k ≡ start_of o (k + 1))
inner_key o k small differ =
    let lies = key_lies o (k + 1) small in
    let low : start_of o (k + 1) ≤ k = omega (arith, lies.0, differ) in
    let high : k ≤ end_of o (k + 1) = omega (arith, lies.1) in
    let same = same_end o (k + 1) k low high in
    (omega (arith, same, lies.1), same_start o (k + 1) k low high)

-- the part of which a key is one
pub part_of_key : (o : Opening) (part k : ℕ) → IsPart o part → IsKeyIn o part k →
    (start_of o k ≡ first_key o part) × (end_of o k ≡ last_key o part)
part_of_key o part k is_part is =
    let same = part_with-key (shape o).bounds part k o.layout.cut is_part is in
    (ap (first_key o) same, ap (last_key o) same)
