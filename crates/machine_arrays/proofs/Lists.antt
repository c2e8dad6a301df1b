-- A list of the keys of an array, place by place.
use Rattle.std.proofs.Common.{◌≡◌, ℕ, zero, suc, ◌+◌, ◌<◌, List, [], ◌∷◌, length, refl, sym, ap}
use Rattle.std.proofs.Common.{◌∙◌, arith}
use Rattle.std.specs.Prelude.{slice_index}
use Rattle.index_machine.specs.Execution.{Execution}
use Rattle.index_machine.specs.RebuildConditions.{HasKeysFrom}
use Rattle.index_machine.specs.Rows.{InArray, role}
use Rattle.index_machine.specs.Words.{shape}
use Rattle.index_machine.specs.declared.opening.Opening.{Opening}
use Rattle.machine_arrays.specs.Arrays.{HasKeyAt}
use Rattle.word_layout.specs.Addresses.{array_address}

pub one_key : {g h i j : ℕ} → InArray g i ≡ InArray h j → i ≡ j
one_key e = cc

-- a key at an index is one at the same index
pub at_same : (o : Opening) (g i j k : ℕ) (t : Execution) → i ≡ j → HasKeyAt o g i k t →
    HasKeyAt o g j k t
at_same o g i j k t e at = ap (λ (y : ℕ). role o (array_address (shape o) g y) t) (sym e) ∙ at

-- ---- from the list to the places ----

list_at : (o : Opening) (g i : ℕ) (keys : List ℕ) (t : Execution) → HasKeysFrom o g i keys t →
    (n : ℕ) → n < length keys → HasKeyAt o g (i + n) (slice_index keys n) t
list_at o g i [] t has n lt = absurd (omega (arith, lt))
list_at o g i (k ∷ ks) t has zero lt = at_same o g i (i + zero) k t (omega arith) has.0
list_at o g i (k ∷ ks) t has (suc n) lt =
    at_same o g (i + 1 + n) (i + suc n) (slice_index ks n) t (omega arith)
    (list_at o g (i + 1) ks t has.1 n (omega (arith, lt)))

list_end : (o : Opening) (g i : ℕ) (keys : List ℕ) (t : Execution) → HasKeysFrom o g i keys t →
    (k : ℕ) → HasKeyAt o g (i + length keys) k t → ⊥
list_end o g i [] t has k at = has k (at_same o g (i + 0) i k t (omega arith) at)
list_end o g i (j ∷ ks) t has k at =
    list_end o g (i + 1) ks t has.1 k
    (at_same o g (i + length (j ∷ ks)) (i + 1 + length ks) k t (omega arith) at)

-- the key of the list at each of its indices
pub at_index : (o : Opening) (g : ℕ) (keys : List ℕ) (t : Execution) → HasKeysFrom o g 0 keys t →
    (n : ℕ) → n < length keys → HasKeyAt o g n (slice_index keys n) t
at_index o g keys t has n lt =
    at_same o g (0 + n) n (slice_index keys n) t (omega arith) (list_at o g 0 keys t has n lt)

-- and none at its end
pub at_end : (o : Opening) (g : ℕ) (keys : List ℕ) (t : Execution) → HasKeysFrom o g 0 keys t →
    (k : ℕ) → HasKeyAt o g (length keys) k t → ⊥
at_end o g keys t has k at =
    list_end o g 0 keys t has k (at_same o g (length keys) (0 + length keys) k t (omega arith) at)

-- ---- from the places to the list ----

from_places : (o : Opening) (g i : ℕ) (keys : List ℕ) (t : Execution) →
    ((n : ℕ) → n < length keys → HasKeyAt o g (i + n) (slice_index keys n) t) →
    ((k : ℕ) → HasKeyAt o g (i + length keys) k t → ⊥) → HasKeysFrom o g i keys t
from_places o g i [] t each none =
    λ k at. none k (at_same o g i (i + 0) k t (omega arith) at)
from_places o g i (k ∷ ks) t each none = (
  at_same o g (i + 0) i k t (omega arith) (each 0 (omega arith)),
  from_places o g (i + 1) ks t
      (λ n lt. at_same o g (i + suc n) (i + 1 + n) (slice_index ks n) t (omega arith)
      (each (suc n) (omega (arith, lt))))
      (λ j at. none j
      (at_same o g (i + 1 + length ks) (i + length (k ∷ ks)) j t (omega arith) at)),
)

pub has_keys : (o : Opening) (g : ℕ) (keys : List ℕ) (t : Execution) →
    ((n : ℕ) → n < length keys → HasKeyAt o g n (slice_index keys n) t) →
    ((k : ℕ) → HasKeyAt o g (length keys) k t → ⊥) → HasKeysFrom o g 0 keys t
has_keys o g keys t each none = from_places o g 0 keys t
    (λ n lt. at_same o g n (0 + n) (slice_index keys n) t (omega arith) (each n lt))
    (λ k at. none k (at_same o g (0 + length keys) (length keys) k t (omega arith) at))

-- ---- one list ----

pub one_list : (o : Opening) (g i : ℕ) (keys others : List ℕ) (t : Execution) →
    HasKeysFrom o g i keys t → HasKeysFrom o g i others t → keys ≡ others
one_list o g i [] [] t has too = refl
one_list o g i [] (j ∷ js) t has too = absurd (has j too.0)
one_list o g i (k ∷ ks) [] t has too = absurd (too k has.0)
one_list o g i (k ∷ ks) (j ∷ js) t has too =
    ap (λ (y : ℕ). y ∷ ks) (one_key (sym has.0 ∙ too.0))
    ∙ ap (λ (y : List ℕ). j ∷ y) (one_list o g (i + 1) ks js t has.1 too.1)
