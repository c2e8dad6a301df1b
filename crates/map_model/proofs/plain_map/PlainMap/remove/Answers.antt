use Rattle.std.proofs.Common.{Some, sym, ap, subst, ◌∙◌, arith}
use Rattle.std.proofs.lemmas.List.{get_or_read}
use Rattle.map_model.specs.Map.{IsAt, IsGapFor}
use Rattle.map_model.proofs.Pairs.{rising-remove, remove-absent}
use Rattle.map_model.proofs.Places.{look-at, look-in_gap, remove-at}
use Rattle.map_model.proofs.plain_map.PlainMap.remove.Goals as goal

-- the key is there, and its pair is taken out
pub invariant_of-self : goal.invariant_of-self
invariant_of-self c =
    let at = subst (λ m. IsAt m c.args.key c.in-Ok.at) c.deref.ensures.value c.in-Ok.ensures.found in
    let valid = c.self.invariant.valid in
    let out = remove-at _ _ _ valid.rising at in
    record {
      valid = record { rising = rw (c.remove.ensures.items, ← out) (rising-remove _ _ valid.rising); within = omega (arith, valid.within) };
      reserved = omega (arith, c.self.invariant.reserved, c.remove.ensures.capacity);
    }

pub returns-in-Ok-clause-old : goal.returns-in-Ok-clause-old
returns-in-Ok-clause-old c =
    let at = subst (λ m. IsAt m c.args.key c.in-Ok.at) c.deref.ensures.value c.in-Ok.ensures.found in
    let read = get_or_read _ _ _ at.in_range c.remove.ensures.value (0, 0) in
    rw (← c.self.view_is) (ap (λ r. Some r.1) read ∙ sym (look-at _ _ _ c.self.invariant.valid.rising at))

pub returns-in-Ok-clause-pairs : goal.returns-in-Ok-clause-pairs
returns-in-Ok-clause-pairs c =
    let at = subst (λ m. IsAt m c.args.key c.in-Ok.at) c.deref.ensures.value c.in-Ok.ensures.found in
    rw (← c.self.view_is) (c.remove.ensures.items ∙ sym (remove-at _ _ _ c.self.invariant.valid.rising at))

pub returns-in-Ok-clause-valid : goal.returns-in-Ok-clause-valid
returns-in-Ok-clause-valid c = (invariant_of-self c).valid

-- it is not there
pub returns-in-Err-clause-old : goal.returns-in-Err-clause-old
returns-in-Err-clause-old c =
    let gap = subst (λ m. IsGapFor m c.args.key c.in-Err.field-0) c.deref.ensures.value c.in-Err.ensures.absent in
    rw (← c.self.view_is) (sym (look-in_gap _ _ _ gap))

pub returns-in-Err-clause-pairs : goal.returns-in-Err-clause-pairs
returns-in-Err-clause-pairs c =
    let gap = subst (λ m. IsGapFor m c.args.key c.in-Err.field-0) c.deref.ensures.value c.in-Err.ensures.absent in
    rw (← c.self.view_is) (sym (remove-absent _ _ (look-in_gap _ _ _ gap)))
