-- What a plain map answers is settled by the map before the call.
use Rattle.std.proofs.Common.{◌≡◌, ℕ, ◌+◌, ◌≤◌, ◌⊎◌, [], ◌∷◌, length, Option, Some, None, refl, sym, ap, subst, ◌∙◌, inl, inr, arith}
use Rattle.std.proofs.lemmas.Bool.Decides.{nat_tests}
use Rattle.map_model.specs.declared.calls.Call.{Call}
use Rattle.map_model.specs.declared.calls.Call.TheVariants.{Get, Put, Remove, Next}
use Rattle.map_model.specs.declared.calls.Answer.{Answer}
use Rattle.map_model.specs.declared.calls.Answer.TheVariants.{Value, Old, Near, Full, Worn}
use Rattle.map_model.specs.Map.{Map, look, put, remove}
use Rattle.map_model.specs.Entry.{IsFound}
use Rattle.map_model.specs.Answer.{pair_at}
use Rattle.map_model.specs.PlainMap.{BoundedMap, IsValid, HasNoRoomFor, Answers}
use Rattle.map_model.specs.Laws.{CallsHaveOneAnswer}
use Rattle.map_model.proofs.Pairs.{found-at_one, remove-absent}

abbrev first_value : Map → Option ℕ
first_value [] = None
first_value (r ∷ rs) = Some r.1

same_found : (m : Map) (k : ℕ) (found other : Option ℕ)
    → IsFound m k k (pair_at k found) → IsFound m k k (pair_at k other) → found ≡ other
same_found m k None None a b = refl
same_found m k None (Some v) a b = cc
same_found m k (Some v) None a b = cc
same_found m k (Some v) (Some w) a b = ap first_value (sym a.0 ∙ b.0)

length-put-new : (m : Map) (k v : ℕ) → look m k ≡ None → length (put m k v) ≡ 1 + length m
unfolding look put
length-put-new [] k v none = refl
length-put-new (r ∷ rs) k v none = grind (arith, nat_tests, length-put-new rs k v)

abbrev with_pairs : BoundedMap → Map → BoundedMap
with_pairs m pairs = record { pairs = pairs; room = m.room }

same_map : (m n : BoundedMap) (pairs : Map) → n.pairs ≡ pairs → n.room ≡ m.room → n ≡ with_pairs m pairs
same_map m n pairs is same_room = λ i. record { pairs = is i; room = same_room i }

gets : (old new : BoundedMap) (k : ℕ) (answer : Answer) → IsValid old → Answers old (Get k) answer new
    → (answer ≡ Value (look old.pairs k)) × (new ≡ with_pairs old old.pairs)
gets old new k (Value found) valid does =
    let entry = does.entry 0 0 in
    let is = same_found old.pairs k found _ entry.1 (found-at_one old.pairs k valid.rising) in
    (ap Value is, same_map old new old.pairs entry.2 does.same_room)
gets old new k (Old value) valid does = absurd (does.entry 0 0)
gets old new k (Near near) valid does = absurd (does.entry 0 0)
gets old new k Full valid does = absurd does.0
gets old new k Worn valid does = absurd does

removes : (old new : BoundedMap) (k : ℕ) (answer : Answer) → IsValid old → Answers old (Remove k) answer new
    → (answer ≡ Old (look old.pairs k)) × (new ≡ with_pairs old (remove old.pairs k))
removes old new k (Old (Some v)) valid does =
    let entry = does.entry 0 0 in
    (ap Old (sym entry.0), same_map old new (remove old.pairs k) entry.1 does.same_room)
removes old new k (Old None) valid does =
    let entry = does.entry 0 0 in
    let is = same_found old.pairs k None _ entry.1 (found-at_one old.pairs k valid.rising) in
    let gone = remove-absent old.pairs k (sym is) in
    (ap Old is, same_map old new (remove old.pairs k) (entry.2 ∙ sym gone) does.same_room)
removes old new k (Value found) valid does = absurd (does.entry 0 0)
removes old new k (Near near) valid does = absurd (does.entry 0 0)
removes old new k Full valid does = absurd does.0
removes old new k Worn valid does = absurd does

-- a put was made, or the map had no room for it
record Puts (old new : BoundedMap) (k v : ℕ) (answer : Answer) : Type 0 where
  pub answer_is : answer ≡ Old (look old.pairs k)
  pub new_is : new ≡ with_pairs old (put old.pairs k v)
  pub within : length (put old.pairs k v) ≤ old.room

puts : (old new : BoundedMap) (k v : ℕ) (answer : Answer) → Answers old (Put k v) answer new
    → Puts old new k v answer ⊎ ((answer ≡ Full) × HasNoRoomFor old (Put k v) × (new ≡ old))
puts old new k v (Old value) does =
    let entry = does.entry 0 0 in
    inl (record {
      answer_is = ap Old (sym entry.0);
      new_is = same_map old new (put old.pairs k v) entry.1 does.same_room;
      within = rw (sym entry.1) (rw (sym does.same_room) does.valid.within);
    })
puts old new k v Full does = inr (refl, does.0, does.1)
puts old new k v (Value found) does = absurd (does.entry 0 0)
puts old new k v (Near near) does = absurd (does.entry 0 0)
puts old new k v Worn does = absurd does

-- a put that was made had room
apart : (old new : BoundedMap) (k v : ℕ) (answer : Answer) → Puts old new k v answer → HasNoRoomFor old (Put k v) → ⊥
apart old new k v answer made full =
    omega (arith, made.within, length-put-new old.pairs k v full.0, full.1)

pub one_answer : CallsHaveOneAnswer
one_answer old new more (Get k) answer other valid of_one_key a b =
    let x = gets old new k answer valid a in
    let y = gets old more k other valid b in
    (x.0 ∙ sym y.0, x.1 ∙ sym y.1)
one_answer old new more (Remove k) answer other valid of_one_key a b =
    let x = removes old new k answer valid a in
    let y = removes old more k other valid b in
    (x.0 ∙ sym y.0, x.1 ∙ sym y.1)
one_answer old new more (Next from) answer other valid of_one_key a b = absurd of_one_key
one_answer old new more (Put k v) answer other valid of_one_key a b =
    elim (puts old new k v answer a) [
      | inl x ↦ elim (puts old more k v other b) [
        | inl y ↦ (x.answer_is ∙ sym y.answer_is, x.new_is ∙ sym y.new_is)
        | inr full ↦ absurd (apart old new k v answer x full.1)
      ]
      | inr full ↦ elim (puts old more k v other b) [
        | inl y ↦ absurd (apart old more k v other y full.1)
        | inr too ↦ (full.0 ∙ sym too.0, full.2 ∙ sym too.2)
      ]
    ]

-- an answered call leaves a valid map
pub valid_after : (old new : BoundedMap) (call : Call) (answer : Answer)
    → IsValid old → Answers old call answer new → IsValid new
valid_after old new call (Value found) valid does = does.valid
valid_after old new call (Old value) valid does = does.valid
valid_after old new call (Near near) valid does = does.valid
valid_after old new call Full valid does = subst IsValid (sym does.1) valid
valid_after old new call Worn valid does = absurd does
