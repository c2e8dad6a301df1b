-- What each call changes, whatever it answers.
use Rattle.std.specs.Prelude.{◌≡◌, ◌≢◌, ℕ, ◌+◌, ◌-◌, min, length}
use Rattle.word_layout.specs.Shape.{Shape}
use Rattle.layout_model.specs.Calls.{get, most_probes, probes_for_key, put, remove}
use Rattle.layout_model.specs.Layout.{Layout, Part, part_at, part_for, part_number}
use Rattle.layout_model.specs.Records.{HasNoRow, Spot}
use Rattle.layout_model.specs.Scans.{answers_of, probes_for_answers, scan}

-- ---- what is changed ----

-- the caller has compared so many keys more, as far as they are counted, and no other caller has
pub record AddsProbes (c more : ℕ) (old new : Layout) : Type 0 where
  pub own : new.probes c ≡ min (old.probes c + more) most_probes
  pub others : (other : ℕ) → other ≢ c → new.probes other ≡ old.probes other

-- nothing is changed but how many keys the caller has compared
pub record ChangesOnlyProbes (c more : ℕ) (old new : Layout) : Type 0 where
  pub parts : new.parts ≡ old.parts
  pub free_rows : new.free_rows ≡ old.free_rows
  pub held : new.held ≡ old.held
  pub probes : AddsProbes c more old new

-- the keeper of the part is where it was
pub record KeepsTurn (old new : Part) : Type 0 where
  pub stage : new.stage ≡ old.stage
  pub span : new.span ≡ old.span
  pub gone : new.gone ≡ old.gone
  pub cursor : new.cursor ≡ old.cursor
  pub installs : new.installs ≡ old.installs
  pub slots : new.slots ≡ old.slots
  pub awaited : new.awaited ≡ old.awaited
  pub free_groups : new.free_groups ≡ old.free_groups

-- no part is changed but one, whose keeper is where it was; held callers stay, and the caller has located one key
pub record ChangesOnePart (i c more : ℕ) (old new : Layout) : Type 0 where
  pub many : length new.parts ≡ length old.parts
  pub others : (other : ℕ) → other ≢ i → part_at new other ≡ part_at old other
  pub turn : KeepsTurn (part_at old i) (part_at new i)
  pub held : new.held ≡ old.held
  pub probes : AddsProbes c more old new

-- a get changes nothing but probes: the caller has located its key
abbrev pub GetsChangeOnlyProbes : Type 0
GetsChangeOnlyProbes = (h : Shape) (c k : ℕ) (s : Layout) →
    ChangesOnlyProbes c (probes_for_key h s k) s (get h c k s).left

-- nor does a scan, in which the caller has located the key of each answer
abbrev pub ScansChangeOnlyProbes : Type 0
ScansChangeOnlyProbes = (h : Shape) (c from wanted : ℕ) (s : Layout) →
    ChangesOnlyProbes c (probes_for_answers h s (answers_of h s from wanted)) s
    (scan h c from wanted s).left

-- a put and a remove change no part but that of their key
abbrev pub PutsChangeOnePart : Type 0
PutsChangeOnePart = (h : Shape) (c k v : ℕ) (s : Layout) →
    ChangesOnePart (part_number h k) c (probes_for_key h s k) s (put h c k v s).left

abbrev pub RemovesChangeOnePart : Type 0
RemovesChangeOnePart = (h : Shape) (c k : ℕ) (s : Layout) →
    ChangesOnePart (part_number h k) c (probes_for_key h s k) s (remove h c k s).left

-- ---- free rows ----

-- a put takes a free row, if there is one, exactly where its key has no value and no row at the spot where it is put
pub record TakesRowFor (h : Shape) (k : ℕ) (old new : Layout) : Type 0 where
  pub taken : (spot : Spot) → HasNoRow (part_for h old k) k spot →
      new.free_rows ≡ old.free_rows - 1
  pub kept : ((spot : Spot) → HasNoRow (part_for h old k) k spot → ⊥) →
      new.free_rows ≡ old.free_rows

abbrev pub PutsTakeRows : Type 0
PutsTakeRows = (h : Shape) (c k v : ℕ) (s : Layout) → TakesRowFor h k s (put h c k v s).left

-- a remove takes no row and gives none back
abbrev pub RemovesKeepRows : Type 0
RemovesKeepRows = (h : Shape) (c k : ℕ) (s : Layout) →
    (remove h c k s).left.free_rows ≡ s.free_rows
