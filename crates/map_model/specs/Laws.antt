-- What follows of the plain map's answers, as statements.
use Rattle.std.specs.Prelude.{◌≡◌}
use Rattle.map_model.specs.declared.calls.Call.{Call}
use Rattle.map_model.specs.declared.calls.Call.TheVariants.{Next}
use Rattle.map_model.specs.declared.calls.Answer.{Answer}
use Rattle.map_model.specs.PlainMap.{BoundedMap, IsValid, Answers}

-- the call is of one key
abbrev pub IsOfOneKey : Call → Type 0
IsOfOneKey (Next from) = ⊥
IsOfOneKey call = Unit {0}

-- a call of one key has one answer, and leaves one map
abbrev pub CallsHaveOneAnswer : Type 0
CallsHaveOneAnswer =
    (old new more : BoundedMap) (call : Call) (answer other : Answer)
    → IsValid old → IsOfOneKey call → Answers old call answer new → Answers old call other more
    → (answer ≡ other) × (new ≡ more)
