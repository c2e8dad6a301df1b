-- What a put and a remove change: one part at most, and the caller's probes.
use Rattle.std.proofs.Common.{◌≡◌, ◌≢◌, ℕ, ◌+◌, ◌-◌, min, List, Some, length, set, refl, sym, ◌∙◌, subst, arith, inl, inr}
use Rattle.std.proofs.lemmas.Bool.{cases_lt, eq-eqb, ne_eqb}
use Rattle.std.proofs.lemmas.List.{get_or-set_other, get_or-set_same, length-set, set_past}
use Rattle.word_layout.specs.Shape.{Shape}
use Rattle.layout_model.specs.CallLaws.{AddsProbes, ChangesOnePart, KeepsTurn, PutsChangeOnePart, PutsTakeRows, RemovesChangeOnePart, RemovesKeepRows, TakesRowFor}
use Rattle.layout_model.specs.Calls.{Outcome, located, most_probes, probes_for_key, with_probes}
use Rattle.layout_model.specs.Cells.{Cell}
use Rattle.layout_model.specs.Layout.{Layout, Part, no_part, part_at, part_for, part_number, with_caller}
use Rattle.layout_model.specs.Records.{HasNoRow, HasRemovedRow, InArray, InBuffer, InNewBuffer, Spot, cells_for, with_cells}
use Rattle.layout_model.proofs.Cases.{HasValue, PutDoes, RemoveDoes, put-does, remove-does}
use Rattle.layout_model.proofs.Cases as does
use Rattle.layout_model.proofs.Finding.{cell_at-key}

-- ---- probes ----

with_caller-own : {A : Type 0} (c : ℕ) (x : A) (f : ℕ → A) → with_caller c x f c ≡ x
with_caller-own c x f = rw (eq-eqb c c refl) refl

with_caller-other : {A : Type 0} (c : ℕ) (x : A) (f : ℕ → A) (other : ℕ) → other ≢ c →
    with_caller c x f other ≡ f other
with_caller-other c x f other apart = rw (ne_eqb c other (λ e. apart (sym e))) refl

pub probes-added : (c more : ℕ) (s t : Layout) → t.probes ≡ (with_probes c more s).probes →
    AddsProbes c more s t
probes-added c more s t is =
    record {
      own = rw is (with_caller-own c (min (s.probes c + more) most_probes) s.probes);
      others =
          λ other apart.
          rw is (with_caller-other c (min (s.probes c + more) most_probes) s.probes other apart);
    }

-- ---- one part ----

-- a part in which records were written has its keeper where it was
pub with_cells-turn : (k : ℕ) (spot : Spot) (cells : List Cell) (p : Part) →
    KeepsTurn p (with_cells k spot cells p)
with_cells-turn k InArray cells p =
    record { stage = refl; span = refl; gone = refl; cursor = refl; installs = refl; slots = refl; awaited = refl; free_groups = refl }
with_cells-turn k InBuffer cells p =
    record { stage = refl; span = refl; gone = refl; cursor = refl; installs = refl; slots = refl; awaited = refl; free_groups = refl }
with_cells-turn k InNewBuffer cells p =
    record { stage = refl; span = refl; gone = refl; cursor = refl; installs = refl; slots = refl; awaited = refl; free_groups = refl }

turn-same : (p : Part) → KeepsTurn p p
turn-same p =
    record { stage = refl; span = refl; gone = refl; cursor = refl; installs = refl; slots = refl; awaited = refl; free_groups = refl }

-- a layout with another part at a place, whose keeper is where it was
changes : (i c more : ℕ) (s t : Layout) (q : Part) → t.parts ≡ set s.parts i q →
    KeepsTurn (part_at s i) q → t.held ≡ s.held → AddsProbes c more s t →
    ChangesOnePart i c more s t
changes i c more s t q is turn held probes =
    record {
      many = rw is (length-set s.parts i q);
      others = λ other apart. rw is (get_or-set_other s.parts i other q no_part apart);
      turn =
          elim (cases_lt i (length s.parts)) [
            | inl within ↦ rw (is, get_or-set_same s.parts i q no_part within) turn
            | inr past ↦ rw (is, set_past s.parts i q past) (turn-same (part_at s i))
          ];
      held = held;
      probes = probes;
    }

-- a layout without any change in its parts
stays : (i c more : ℕ) (s t : Layout) → t.parts ≡ s.parts → t.held ≡ s.held →
    AddsProbes c more s t → ChangesOnePart i c more s t
stays i c more s t is held probes =
    record {
      many = rw is refl;
      others = λ other apart. rw is refl;
      turn = rw is (turn-same (part_at s i));
      held = held;
      probes = probes;
    }

-- the same for the part of a key
changes_at : (h : Shape) (c more key k : ℕ) (s t : Layout) (spot : Spot) (cells : List Cell) →
    key ≡ k →
    t.parts ≡ set s.parts (part_number h key) (with_cells key spot cells (part_for h s key)) →
    t.held ≡ s.held → AddsProbes c more s t → ChangesOnePart (part_number h k) c more s t
changes_at h c more key k s t spot cells same is held probes =
    let P : ℕ → Type 0 = λ k. ChangesOnePart (part_number h k) c more s t in
    subst P same
    (changes (part_number h key) c more s t (with_cells key spot cells (part_for h s key)) is
    (with_cells-turn key spot cells (part_for h s key)) held probes)

-- ---- put and remove ----

put-changes : (h : Shape) (c k v : ℕ) (s : Layout) (o : Outcome) →
    PutDoes h k v (located h c k s) o →
    ChangesOnePart (part_number h k) c (probes_for_key h s k) s o.left
put-changes h c k v s o (does.Overwrites at has less) =
    changes_at h c _ at.cell.key k s _ at.spot _ has.there.key refl refl
    (probes-added c (probes_for_key h s k) s _ refl)
put-changes h c k v s o (does.MeetsWornValue at has last) =
    stays (part_number h k) c _ s _ refl refl (probes-added c (probes_for_key h s k) s _ refl)
put-changes h c k v s o (does.MeetsFrozen is) =
    stays (part_number h k) c _ s _ refl refl (probes-added c (probes_for_key h s k) s _ refl)
put-changes h c k v s o (does.Revives spot row has less) =
    changes_at h c _ row.key k s _ spot _
    (cell_at-key (cells_for (part_for h s k) k spot) k row has.there) refl refl
    (probes-added c (probes_for_key h s k) s _ refl)
put-changes h c k v s o (does.MeetsWornRow spot row has last) =
    stays (part_number h k) c _ s _ refl refl (probes-added c (probes_for_key h s k) s _ refl)
put-changes h c k v s o (does.Links spot left none free) =
    changes_at h c _ k k s _ spot _ refl refl refl (probes-added c (probes_for_key h s k) s _ refl)
put-changes h c k v s o (does.MeetsNoRow spot none free) =
    stays (part_number h k) c _ s _ refl refl (probes-added c (probes_for_key h s k) s _ refl)

pub puts_change_one_part : PutsChangeOnePart
puts_change_one_part h c k v s = put-changes h c k v s _ (put-does h c k v s)

remove-changes : (h : Shape) (c k : ℕ) (s : Layout) (o : Outcome) →
    RemoveDoes h k (located h c k s) o →
    ChangesOnePart (part_number h k) c (probes_for_key h s k) s o.left
remove-changes h c k s o (does.MeetsNone absent) =
    stays (part_number h k) c _ s _ refl refl (probes-added c (probes_for_key h s k) s _ refl)
remove-changes h c k s o (does.Removes at has less) =
    changes_at h c _ at.cell.key k s _ at.spot _ has.there.key refl refl
    (probes-added c (probes_for_key h s k) s _ refl)
remove-changes h c k s o (does.MeetsWorn at has last) =
    stays (part_number h k) c _ s _ refl refl (probes-added c (probes_for_key h s k) s _ refl)

pub removes_change_one_part : RemovesChangeOnePart
removes_change_one_part h c k s = remove-changes h c k s _ (remove-does h c k s)

-- ---- free rows ----

-- a key has one spot at which it is put
pub one_spot : (p : Part) (k : ℕ) (spot other : Spot) (row : Cell) → HasRemovedRow p k spot row →
    HasNoRow p k other → ⊥
one_spot p k spot other row has none =
    let same : Some spot ≡ Some other = sym has.named ∙ none.named in
    let named : spot ≡ other = cc in
    let found = rw named at has.there in
    cc (found, none.none)

-- a put with the rows as they were, where the key needs none
keeps_rows : (h : Shape) (k : ℕ) (s t : Layout) → t.free_rows ≡ s.free_rows →
    ((spot : Spot) → HasNoRow (part_for h s k) k spot → ⊥) → TakesRowFor h k s t
keeps_rows h k s t same needs_none =
    record { taken = λ spot none. absurd (needs_none spot none); kept = λ _. same }

-- a put of a key that needs a row
takes_row : (h : Shape) (k : ℕ) (s t : Layout) (spot : Spot) → HasNoRow (part_for h s k) k spot →
    t.free_rows ≡ s.free_rows - 1 → TakesRowFor h k s t
takes_row h k s t spot none less =
    record { taken = λ _ _. less; kept = λ needs_none. absurd (needs_none spot none) }

put-takes : (h : Shape) (c k v : ℕ) (s : Layout) (o : Outcome) →
    PutDoes h k v (located h c k s) o → TakesRowFor h k s o.left
put-takes h c k v s o (does.Overwrites at has less) =
    keeps_rows h k s _ refl (λ spot none. cc (has.live, none.absent))
put-takes h c k v s o (does.MeetsWornValue at has last) =
    keeps_rows h k s _ refl (λ spot none. cc (has.live, none.absent))
put-takes h c k v s o (does.MeetsFrozen is) =
    keeps_rows h k s _ refl (λ spot none. cc (rw is.frozen at none.named))
put-takes h c k v s o (does.Revives spot row has less) =
    keeps_rows h k s _ refl (λ other none. one_spot (part_for h s k) k spot other row has none)
put-takes h c k v s o (does.MeetsWornRow spot row has last) =
    keeps_rows h k s _ refl (λ other none. one_spot (part_for h s k) k spot other row has none)
put-takes h c k v s o (does.Links spot left none free) =
    takes_row h k s _ spot none (omega arith)
put-takes h c k v s o (does.MeetsNoRow spot none free) =
    takes_row h k s _ spot none (omega arith)

pub puts_take_rows : PutsTakeRows
puts_take_rows h c k v s = put-takes h c k v s _ (put-does h c k v s)

remove-keeps_rows : (h : Shape) (c k : ℕ) (s : Layout) (o : Outcome) →
    RemoveDoes h k (located h c k s) o → o.left.free_rows ≡ s.free_rows
remove-keeps_rows h c k s o (does.MeetsNone absent) = refl
remove-keeps_rows h c k s o (does.Removes at has less) = refl
remove-keeps_rows h c k s o (does.MeetsWorn at has last) = refl

pub removes_keep_rows : RemovesKeepRows
removes_keep_rows h c k s = remove-keeps_rows h c k s _ (remove-does h c k s)
