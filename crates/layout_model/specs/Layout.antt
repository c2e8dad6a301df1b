-- The layout of an index between two calls of one thread: the groups of each part, and how far its keeper is.
--
-- The fact to remember: chain, stage, slots and barrier are a part's own; free rows, held callers and probes are shared.
use Rattle.std.specs.Prelude.{ℕ, ◌+◌, Bool, false, cond, ◌==◌, List, [], ◌++◌, take, drop}
use Rattle.std.specs.Prelude.{slice_index_or, slice_set}
use Rattle.word_layout.specs.Parts.{part_with, last_key_of}
use Rattle.word_layout.specs.Shape.{Shape}
use Rattle.layout_model.specs.Groups.{Group}
use Rattle.layout_model.specs.Stage.{Stage, Look}

-- ---- one part ----

-- neighbours in a chain: the position of the first, and how many there are
pub record Span : Type 0 where
  pub first : ℕ
  pub many : ℕ

-- a slot of a root: its pivot, and the pivot of the group that it names
pub record Slot : Type 0 where
  pub pivot : ℕ
  pub group : ℕ

-- the groups of one keeper, and what it is about
pub record Part : Type 0 where
  -- the groups, by rising pivots
  pub chain : List Group
  pub stage : Stage
  -- where the rebuild is in the chain: its old groups up to the install, and from the install on its new ones
  pub span : Span
  -- the new groups that are not in the chain yet
  pub coming : List Group
  -- the old groups that were taken out of the chain: how many rows each has
  pub gone : List ℕ
  -- the position in the chain at which the keeper looks next
  pub cursor : ℕ
  -- how many installs were made since the last root was built
  pub installs : ℕ
  pub slots : List Slot
  -- the callers that the barrier waits for
  pub awaited : ℕ → Bool
  pub free_groups : ℕ

-- ---- all parts ----

-- the layout: the parts by rising keys, and what all callers share
pub record Layout : Type 0 where
  pub parts : List Part
  pub free_rows : ℕ
  -- the callers that are held inside
  pub held : ℕ → Bool
  -- how many keys each caller has compared so far by halving windows
  pub probes : ℕ → ℕ

-- so many neighbours from a position on
abbrev pub span_of : ℕ → ℕ → Span
span_of first many = record { first = first; many = many }

-- what stands for a part where there is none
abbrev pub no_part : Part
no_part =
    record {
      chain = [];
      stage = Look;
      span = span_of 0 0;
      coming = [];
      gone = [];
      cursor = 0;
      installs = 0;
      slots = [];
      awaited = λ c. false;
      free_groups = 0;
    }

-- the part with a number
abbrev pub part_at : Layout → ℕ → Part
part_at s i = slice_index_or s.parts i no_part

-- the layout with another part in the place of the one with a number
abbrev pub with_part : ℕ → Part → Layout → Layout
with_part i p s = record s { parts = slice_set s.parts i p }

-- the number of the part that has a key, and that part
abbrev pub part_number : Shape → ℕ → ℕ
part_number h k = part_with h.bounds k

abbrev pub part_for : Shape → Layout → ℕ → Part
part_for h s k = part_at s (part_number h k)

-- the last key of the part that has a key
abbrev pub part_end : Shape → ℕ → ℕ
part_end h k = last_key_of h.bounds (part_number h k)

-- ---- spans ----

-- what stands in a span of the list
abbrev pub in_span : {A : Type 0} → Span → List A → List A
in_span span xs = take span.many (drop span.first xs)

-- the position behind a span
abbrev pub behind : Span → ℕ
behind span = span.first + span.many

-- the list with these in the place of a span of it
abbrev pub spliced : {A : Type 0} → Span → List A → List A → List A
spliced span new xs = take span.first xs ++ new ++ drop (behind span) xs

-- ---- callers ----

-- what is so for each caller, with another answer for one
abbrev pub with_caller : {A : Type 0} → ℕ → A → (ℕ → A) → ℕ → A
with_caller c x f i = cond (c == i) x (f i)
