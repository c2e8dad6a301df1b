-- Each answered call on a rising map makes one entry.
use Rattle.std.proofs.Common.{◌≡◌, ℕ, Option, Some, None, IsSomeAnd, refl, sym, subst, ◌∙◌, arith}
use Rattle.map_model.specs.declared.calls.Call.TheVariants.{Get, Remove, Next}
use Rattle.map_model.specs.declared.calls.Answer.TheVariants.{Value, Old, Near}
use Rattle.map_model.specs.declared.calls.Near as calls
use Rattle.map_model.specs.declared.calls.Near.TheVariants.{Row, Gap}
use Rattle.map_model.specs.Map.{Map, IsRising, look, remove}
use Rattle.map_model.specs.Entry.{StandsBetween}
use Rattle.map_model.specs.Answer.{entry_of}
use Rattle.map_model.specs.PlainMap.{IsNext}
use Rattle.map_model.proofs.Pairs.{found-at_one, remove-absent, found-first, found-none}

pub get-makes : (m : Map) (k : ℕ) (found : Option ℕ) → IsRising m → found ≡ look m k → (caller place : ℕ) → IsSomeAnd (entry_of caller place (Get k) (Value found)) (λ e. StandsBetween m e m)
get-makes m k found rising is caller place = rw is (omega arith, found-at_one m k rising, refl)

pub remove-makes : (m n : Map) (k : ℕ) (old : Option ℕ) → IsRising n → old ≡ look m k → n ≡ remove m k → (caller place : ℕ) → IsSomeAnd (entry_of caller place (Remove k) (Old old)) (λ e. StandsBetween m e n)
remove-makes m n k (Some v) rising is after caller place = (sym is, after)
remove-makes m n k None rising is after caller place =
    let same = after ∙ remove-absent m k (sym is) in
    let here = subst IsRising same rising in
    (omega arith, rw (← is) at (found-at_one m k here), same)

pub next-makes : (m : Map) (from : ℕ) (near : calls.Near) → IsRising m → IsNext m from near → (caller place : ℕ) → IsSomeAnd (entry_of caller place (Next from) (Near near)) (λ e. StandsBetween m e m)
next-makes m from (Row k v) rising is caller place =
    let found = found-first m from (k, v) rising is in
    (found.0, found.1, refl)
next-makes m from (Gap hi) rising is caller place =
    (is.2, found-none m from hi is.0, refl)
