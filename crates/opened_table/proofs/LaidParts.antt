-- The words that are laid out for the parts: which rows a part's groups have, and that no word is of two parts.
use Rattle.std.proofs.Common.{◌≡◌, ◌≢◌, ◌⊎◌, inl, inr, ⊎_elim, ℕ, ◌+◌, ◌*◌, ◌<◌, ◌≤◌, List, length, drop, take}
use Rattle.std.proofs.Common.{refl, sym, ap, ◌∙◌, subst, arith}
use Rattle.std.proofs.lemmas.Bool.{cases_lt}
use Rattle.rebuild_plan.specs.Plan.{first_record}
use Rattle.rebuild_plan.proofs.SharesLaws.{first_record-below}
use Rattle.word_layout.specs.Parts.{part_with}
use Rattle.word_layout.specs.Words.{Word, FreeHead, Root, Epoch, SlotPivot, SlotGroup, Header, PlaceWord}
use Rattle.word_layout.specs.declared.places.Part.TheVariants.{Key, Value, State, Link}
use Rattle.index_machine.specs.declared.opening.Opening.{Opening}
use Rattle.index_machine.specs.Keepers.{IsPart, part_of}
use Rattle.index_machine.specs.OpeningRoots.{opening_slots}
use Rattle.index_machine.specs.OpeningRows.{opening_count, opening_group, number_in_part}
use Rattle.index_machine.specs.Words.{shape, limits}
use Rattle.index_machine.proofs.OpeningPlan.{big_group, count_few, keys, row-number, row-part, rows_in_part}
use Rattle.index_machine.proofs.OpeningPlan.{share, size, stretch}
use Rattle.opened_table.specs.Laying.{group_row, keys_in, rows_of_group, rows_of_part, share_in}
use Rattle.opened_table.specs.Laying.{IsOfFirst, IsOfGroup, IsOfGroups, IsOfPart, IsOfRoot, IsOfSlot}
use Rattle.opened_table.proofs.GroupRows.{keys_of_group, rows_taken}
use Rattle.opened_table.proofs.LaidGroups.{one_group}
use Rattle.opened_table.proofs.LaidKeys.{length_of_keys}

-- ---- rows ----

-- a part has as many keys as rows
pub many_of_part : (o : Opening) (part : ℕ) → length (keys o part) ≡ length (rows_of_part o part)
many_of_part o part =
    ap (λ (z : List ℕ). length z) (keys_of_group (part_with (shape o).bounds) part o.rows)
    ∙ length_of_keys (rows_of_part o part)

-- the rows of a part's group are its share of the part's
pub rows_of_number : (o : Opening) (part number : ℕ) → IsPart o part → number < opening_count o part →
    rows_of_group o (group_row o part number)
    ≡ take (share_in o part) (drop (number * share_in o part) (rows_of_part o part))
rows_of_number o part number is_part among =
    rows_taken (opening_group o) (part_with (shape o).bounds) (group_row o part number) part o.rows
    (rows_in_part o part number is_part among) (first_record (share o part) number) (share o part)
    (stretch o part number among)

-- they begin within the part's
pub begins_within : (o : Opening) (part number : ℕ) → number < opening_count o part →
    number * share_in o part ≤ length (rows_of_part o part)
begins_within o part number among = ⊎_elim
    (λ (first : number < 1).
    let none : number ≡ 0 = omega (arith, first) in
    subst (λ (n : ℕ). n * share_in o part ≤ length (rows_of_part o part)) (sym none) (omega arith))
    (λ (later : 1 ≤ number).
    let below = first_record-below (length (keys o part)) (size o part) number (big_group o) later among in
    let many = many_of_part o part in
    omega (arith, below, many))
    (cases_lt number 1)

-- ---- whose a word is ----

-- a word is laid out for one group of a part alone
pub one_number : (o : Opening) (part : ℕ) (w : Word) (i j : ℕ) → IsOfGroup o (group_row o part i) w →
    IsOfGroup o (group_row o part j) w → i ≡ j
one_number o part w i j one two =
    let same = one_group o (group_row o part i) (group_row o part j) w one two in omega (arith, same)

-- the words of roots are of no group
pub root_or_group : (o : Opening) (part other : ℕ) (w : Word) → IsOfRoot o part w → IsOfGroups o other w → ⊥
root_or_group o part other w root groups = ⊎_elim
    (λ (e : w ≡ Root part).
    let no : IsOfGroup o (group_row o other groups.0) (Root part) =
    subst (IsOfGroup o (group_row o other groups.0)) e groups.2
    in
    absurd no)
    (λ (slot : IsOfFirst (IsOfSlot part) (opening_slots o part) w). no_slot w slot.0 slot.2 groups.0 groups.2) root
  where
    no_slot : (v : Word) (i : ℕ) → IsOfSlot part i v → (n : ℕ) → IsOfGroup o (group_row o other n) v → ⊥
    no_slot (SlotPivot p side j) i of n is = is
    no_slot (SlotGroup p side j) i of n is = is
    no_slot FreeHead i of n is = of
    no_slot (Root p) i of n is = of
    no_slot (Epoch c) i of n is = of
    no_slot (Header g which) i of n is = of
    no_slot (PlaceWord p at) i of n is = of

-- a word is laid out for the root of one part alone
one_root : (o : Opening) (part other : ℕ) (w : Word) → IsOfRoot o part w → IsOfRoot o other w → part ≡ other
one_root o part other w one two = ⊎_elim
    (λ (e : w ≡ Root part). ⊎_elim
    (λ (f : w ≡ Root other). let same : Root part ≡ Root other = sym e ∙ f in cc)
    (λ (f : IsOfFirst (IsOfSlot other) (opening_slots o other) w).
    let no : IsOfSlot other f.0 (Root part) = subst (IsOfSlot other f.0) e f.2 in absurd no)
    two)
    (λ (e : IsOfFirst (IsOfSlot part) (opening_slots o part) w). ⊎_elim
    (λ (f : w ≡ Root other).
    let no : IsOfSlot part e.0 (Root other) = subst (IsOfSlot part e.0) f e.2 in absurd no)
    (λ (f : IsOfFirst (IsOfSlot other) (opening_slots o other) w). slots w e.0 f.0 e.2 f.2) two)
    one
  where
    slots : (v : Word) (i j : ℕ) → IsOfSlot part i v → IsOfSlot other j v → part ≡ other
    slots (SlotPivot p side k) i j is at = sym is.0 ∙ at.0
    slots (SlotGroup p side k) i j is at = sym is.0 ∙ at.0
    slots FreeHead i j is at = absurd is
    slots (Root p) i j is at = absurd is
    slots (Epoch c) i j is at = absurd is
    slots (Header g which) i j is at = absurd is
    slots (PlaceWord p at_part) i j is at = absurd is

-- a word is laid out for one part alone
pub one_part : (o : Opening) (part other : ℕ) (w : Word) → IsPart o part → IsPart o other → IsOfPart o part w →
    IsOfPart o other w → part ≡ other
one_part o part other w is_part is_other one two = ⊎_elim
    (λ (root : IsOfRoot o part w). ⊎_elim
    (λ (same : IsOfRoot o other w). one_root o part other w root same)
    (λ (groups : IsOfGroups o other w). absurd (root_or_group o part other w root groups)) two)
    (λ (groups : IsOfGroups o part w). ⊎_elim
    (λ (root : IsOfRoot o other w). absurd (root_or_group o other part w root groups))
    (λ (theirs : IsOfGroups o other w).
    sym (row-part o part groups.0 (count_few o part groups.0 is_part groups.1))
    ∙ (ap (part_of o)
    (one_group o (group_row o part groups.0) (group_row o other theirs.0) w groups.2 theirs.2)
    ∙ row-part o other theirs.0 (count_few o other theirs.0 is_other theirs.1)))
    two)
    one
