-- The new keepers of an index are those of all its parts.
use Rattle.std.proofs.Common.{◌≡◌, ℕ, ◌+◌, ◌<◌, ◌≤◌, List, [], ◌∷◌, length, inl, inr, ⊎_elim, arith}
use Rattle.std.proofs.lemmas.Bool.{cases_lt}
use Rattle.word_layout.specs.Parts.{part_count}
use Rattle.index_machine.specs.Lists.{In}
use Rattle.xindex_core.specs.declared.index.Index.{Index}
use Rattle.xindex_core.specs.declared.keeper.Keeper.{Keeper}
use Rattle.xindex_core.specs.Closing.{AreAllKeepers, AreKeepersOf, parts_kept}
use Rattle.xindex_core.specs.Passes.{AreNewKeepers, bounds_of_index}

of_index : (i : Index) (first : ℕ) (ks : List Keeper) → AreNewKeepers i first ks → AreKeepersOf i ks
of_index i first [] new = tt
of_index i first (k ∷ ks) new = (new.0, of_index i (first + 1) ks new.3)

-- each part from the first one on has one of them
each_has_one : (i : Index) (first part : ℕ) (ks : List Keeper) → AreNewKeepers i first ks →
    first ≤ part → part < first + length ks → In part (parts_kept ks)
each_has_one i first part [] new from below = absurd (omega arith)
each_has_one i first part (k ∷ ks) new from below =
    ⊎_elim
    (λ (later : first < part).
    inr (each_has_one i (first + 1) part ks new.3 (omega arith) (omega arith)))
    (λ (least : part ≤ first). let kept = new.1 in inl (omega arith)) (cases_lt first part)

pub new_keepers_are_all : (i : Index) (ks : List Keeper) → AreNewKeepers i 0 ks →
    length ks ≡ part_count (bounds_of_index i) → AreAllKeepers i ks
new_keepers_are_all i ks new each =
    record {
      of = of_index i 0 ks new;
      each = λ part is_part. each_has_one i 0 part ks new (omega arith) (omega arith);
    }
