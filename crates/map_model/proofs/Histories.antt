-- Looking up after a change.
use Rattle.std.proofs.Common.{◌≡◌, ◌≢◌, ℕ, Some, None, [], ◌∷◌, refl, arith}
use Rattle.std.proofs.lemmas.Bool.Decides.{nat_tests}
use Rattle.map_model.specs.declared.entries.Change.{Change}
use Rattle.map_model.specs.declared.entries.Change.TheVariants as change
use Rattle.map_model.specs.Map.{Map, look, put, remove, map_after, key_of}
use Rattle.map_model.specs.History.{left_by}

pub look-put-here : (m : Map) (k v : ℕ) → look (put m k v) k ≡ Some v
unfolding look put
look-put-here [] k v = grind (arith, nat_tests)
look-put-here (r ∷ rs) k v = grind (arith, nat_tests, look-put-here rs k v)

pub look-put-else : (m : Map) (k v j : ℕ) → j ≢ k → look (put m k v) j ≡ look m j
unfolding look put
look-put-else [] k v j n = grind (arith, nat_tests)
look-put-else (r ∷ rs) k v j n = grind (arith, nat_tests, look-put-else rs k v j n)

look-remove-here : (m : Map) (k : ℕ) → look (remove m k) k ≡ None
unfolding look remove
look-remove-here [] k = refl
look-remove-here (r ∷ rs) k = grind (arith, nat_tests, look-remove-here rs k)

look-remove-else : (m : Map) (k j : ℕ) → j ≢ k → look (remove m k) j ≡ look m j
unfolding look remove
look-remove-else [] k j n = refl
look-remove-else (r ∷ rs) k j n = grind (arith, nat_tests, look-remove-else rs k j n)

-- the last change of a key decides what it has
pub look-here : (m : Map) (c : Change) → look (map_after c m) (key_of c) ≡ left_by c
look-here m (change.Put c k v) = look-put-here m k v
look-here m (change.Remove c k) = look-remove-here m k

-- a change leaves every other key as it was
pub look-else : (m : Map) (c : Change) (j : ℕ) → j ≢ key_of c →
    look (map_after c m) j ≡ look m j
look-else m (change.Put c k v) j n = look-put-else m k v j n
look-else m (change.Remove c k) j n = look-remove-else m k j n
