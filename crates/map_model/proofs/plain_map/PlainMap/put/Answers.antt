use Rattle.std.proofs.Common.{◌≡◌, length, Some, refl, sym, ap, subst, ◌∙◌, arith}
use Rattle.std.proofs.Math.ListN.{length-set}
use Rattle.std.proofs.lemmas.List.{get_or_read}
use Rattle.map_model.specs.Map.{IsAt, IsGapFor}
use Rattle.map_model.proofs.Pairs.{rising-put}
use Rattle.map_model.proofs.Places.{look-at, look-in_gap, put-at, put-in_gap}
use Rattle.map_model.proofs.plain_map.PlainMap.put.Goals as goal

-- the key is there, and its pair is written over
pub invariant_of-self : goal.invariant_of-self
invariant_of-self c =
    let at = subst (λ m. IsAt m c.args.key c.in-Ok.at) c.deref.ensures.value c.in-Ok.ensures.found in
    let valid = c.self.invariant.valid in
    record {
      valid = record { rising = rw (← put-at _ _ c.args.value _ valid.rising at) (rising-put _ _ _ valid.rising); within = simp length-set valid.within };
      reserved = c.self.invariant.reserved;
    }

pub returns-in-Ok-clause-valid : goal.returns-in-Ok-clause-valid
returns-in-Ok-clause-valid c = (invariant_of-self c).valid

pub returns-in-Ok-clause-old : goal.returns-in-Ok-clause-old
returns-in-Ok-clause-old c =
    let at = subst (λ m. IsAt m c.args.key c.in-Ok.at) c.deref.ensures.value c.in-Ok.ensures.found in
    let read = get_or_read _ _ _ at.in_range c.index.ensures (0, 0) in
    rw (← c.self.view_is) (ap (λ r. Some r.1) read ∙ sym (look-at _ _ _ c.self.invariant.valid.rising at))

pub returns-in-Ok-clause-pairs : goal.returns-in-Ok-clause-pairs
returns-in-Ok-clause-pairs c =
    let at = subst (λ m. IsAt m c.args.key c.in-Ok.at) c.deref.ensures.value c.in-Ok.ensures.found in
    rw (← c.self.view_is) (sym (put-at _ _ _ _ c.self.invariant.valid.rising at))

pub returns-in-Ok-clause-refused : goal.returns-in-Ok-clause-refused
returns-in-Ok-clause-refused c =
    let at = subst (λ m. IsAt m c.args.key c.in-Ok.at) c.deref.ensures.value c.in-Ok.ensures.found in
    let there = look-at _ _ _ c.self.invariant.valid.rising at in
    rw (← c.self.view_is) ((λ is. cc), (λ absent. let none = absent.0 in cc))

-- it is not there, and there is no room for it
pub returns-in-Err-clause-refused : goal.returns-in-Err-clause-refused
returns-in-Err-clause-refused c =
    let gap = subst (λ m. IsGapFor m c.args.key c.in-Err.field-0) c.deref.ensures.value c.in-Err.ensures.absent in
    let none = look-in_gap _ _ _ gap in
    let full : length c.self.inside.pairs.items ≡ c.self.inside.room = omega arith in
    rw (← c.self.view_is) ((λ is. (none, full)), (λ absent. refl))

-- it is not there, and stands in its gap from now on
pub invariant_of-self-in-Err-2 : goal.invariant_of-self-in-Err-2
invariant_of-self-in-Err-2 c =
    let gap = subst (λ m. IsGapFor m c.args.key c.in-Err-2.at) c.deref.ensures.value c.in-Err-2.ensures.absent in
    let valid = c.self.invariant.valid in
    let items = rw c.unwrap.ensures at c.insert.ensures.items in
    let len = rw c.unwrap.ensures at c.insert.ensures.len in
    record {
      valid = record { rising = rw (items, ← put-in_gap _ _ c.args.value _ gap) (rising-put _ _ _ valid.rising); within = omega (arith, valid.within) };
      reserved = omega (arith, c.self.invariant.reserved, c.insert.ensures.capacity);
    }

pub returns-in-Err-2-clause-valid : goal.returns-in-Err-2-clause-valid
returns-in-Err-2-clause-valid c = (invariant_of-self-in-Err-2 c).valid

pub returns-in-Err-2-clause-old : goal.returns-in-Err-2-clause-old
returns-in-Err-2-clause-old c =
    let gap = subst (λ m. IsGapFor m c.args.key c.in-Err-2.at) c.deref.ensures.value c.in-Err-2.ensures.absent in
    rw (← c.self.view_is) (sym (look-in_gap _ _ _ gap))

pub returns-in-Err-2-clause-pairs : goal.returns-in-Err-2-clause-pairs
returns-in-Err-2-clause-pairs c =
    let gap = subst (λ m. IsGapFor m c.args.key c.in-Err-2.at) c.deref.ensures.value c.in-Err-2.ensures.absent in
    let items = rw c.unwrap.ensures at c.insert.ensures.items in
    rw (items, ← c.self.view_is) (sym (put-in_gap _ _ _ _ gap))
