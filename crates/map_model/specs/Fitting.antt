-- A law of whoever answers calls, for a plain map. It is proved here since the trait's implementation cites it.
use Rattle.map_model.specs.declared.calls.Call.{Call}
use Rattle.map_model.specs.declared.calls.Call.TheVariants.{Get, Put, Remove, Next}
use Rattle.map_model.specs.declared.calls.Answer.{Answer}
use Rattle.map_model.specs.declared.calls.Answer.TheVariants.{Value, Old, Near, Full, Worn}
use Rattle.map_model.specs.declared.calls.Near.TheVariants.{Row, Gap}
use Rattle.map_model.specs.Answer.{Fits}
use Rattle.map_model.specs.PlainMap.{BoundedMap, Answers}

-- each answer of a plain map is of the kind that its call has
pub answers-fit : (old : BoundedMap) (call : Call) (answer : Answer) (new : BoundedMap)
    → Answers old call answer new → Fits call answer
answers-fit old (Get k) (Value found) new does = tt
answers-fit old (Get k) (Old value) new does = does.entry 0 0
answers-fit old (Get k) (Near near) new does = does.entry 0 0
answers-fit old (Get k) Full new does = does.0
answers-fit old (Get k) Worn new does = does
answers-fit old (Put k v) (Value found) new does = does.entry 0 0
answers-fit old (Put k v) (Old value) new does = tt
answers-fit old (Put k v) (Near near) new does = does.entry 0 0
answers-fit old (Put k v) Full new does = tt
answers-fit old (Put k v) Worn new does = tt
answers-fit old (Remove k) (Value found) new does = does.entry 0 0
answers-fit old (Remove k) (Old value) new does = tt
answers-fit old (Remove k) (Near near) new does = does.entry 0 0
answers-fit old (Remove k) Full new does = does.0
answers-fit old (Remove k) Worn new does = tt
answers-fit old (Next from) (Value found) new does = does.entry 0 0
answers-fit old (Next from) (Old value) new does = does.entry 0 0
answers-fit old (Next from) (Near (Row k v)) new does = let entry = does.entry 0 0 in entry.0
answers-fit old (Next from) (Near (Gap hi)) new does = let entry = does.entry 0 0 in entry.0
answers-fit old (Next from) Full new does = does.0
answers-fit old (Next from) Worn new does = does
