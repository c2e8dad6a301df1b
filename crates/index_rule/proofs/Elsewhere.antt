-- A key that has no value elsewhere, as a caller found it, has none elsewhere to the end of the caller's
-- read section.
--
-- The fact to remember: nobody has an insert permission into an opened group.
use Rattle.std.proofs.Common.{◌≡◌, ◌≢◌, ◌⊎◌, inl, inr, ⊎_elim, ℕ, true, Some, None, Option, []}
use Rattle.std.proofs.Common.{◌∷◌, ◌++◌, sym, ◌∙◌, subst}
use Rattle.word_layout.specs.declared.phase.Phase.TheVariants.{Opened}
use Rattle.index_machine.specs.declared.events.Action.{Action}
use Rattle.index_machine.specs.declared.events.Action.TheVariants.{LinkRow, StoreRedirect}
use Rattle.index_machine.specs.declared.opening.Opening.{Opening}
use Rattle.index_machine.specs.Conditions.{Allowed, Valid}
use Rattle.index_machine.specs.Execution.{Execution, event}
use Rattle.index_machine.specs.Groups.{phase}
use Rattle.index_machine.specs.KeyRanges.{group_of}
use Rattle.index_machine.specs.LivePlaces.{live_place, value_in_map}
use Rattle.index_machine.specs.Permissions.{IsBufferFor, IsClosedToInserts, IsUnopened}
use Rattle.index_machine.specs.Reaching.{saw_open, stands_in}
use Rattle.index_machine.specs.Rows.{InArray, InBuffer, role}
use Rattle.index_machine.specs.Sections.{IsCaller, StaysInside}
use Rattle.machine_barriers.proofs.OpenedGroups.{open_not, opened_groups_hold}
use Rattle.machine_barriers.proofs.Reaches.{may_as}
use Rattle.machine_places.proofs.FromOpening.{agreement}
use Rattle.machine_places.specs.Agreement.{HasLiveValue}
use Rattle.index_machine.proofs.Options.{none_some}
use Rattle.machine_readers.proofs.FromOpening.{buffer_tombstones, insert_behind, insert_open}
use Rattle.machine_readers.proofs.FromOpening.{stay_behind, without_value}
use Rattle.machine_readers.proofs.ReadSections.{group_on, group_step, opened_step, saw_open_on}
use Rattle.machine_readers.proofs.ReadSections.{saw_opened_on, stands_in_on}
use Rattle.machine_readers.proofs.Roles.{IsLinkOf, array_back, row_back}
use Rattle.machine_readers.specs.Readers.{ArrayHasNone, BufferHasNone}
use Rattle.index_rule.specs.Elsewhere.{HasNoneBehindOpened, HasNoneElsewhere, HasNoneWhereSeenOpen}

-- ---- places without a value ----

-- an array without a value for the key has none after an action that writes it no place of the key
array_step : (o : Opening) (t : Execution) (b : ℕ) (d : Action) (g k : ℕ) → Valid o t →
    Allowed o t b d → ((a to : ℕ) → d ≡ StoreRedirect g a k to → ⊥) → ArrayHasNone o t g k →
    ArrayHasNone o (event b d ∷ t) g k
array_step o t b d g k valid may never none a array =
    ⊎_elim
    (λ (was : role o a t ≡ InArray g k). without_value o t b d a g k valid may was (none a was))
    (λ (new : (to : ℕ) × (d ≡ StoreRedirect g a k to)). absurd (never a new.0 new.1))
    (array_back o t b d a g k array)

-- nor has a buffer into which nobody may insert
buffer_step : (o : Opening) (t : Execution) (b : ℕ) (d : Action) (g k : ℕ) → Allowed o t b d →
    IsClosedToInserts o g t → BufferHasNone o t g k → BufferHasNone o (event b d ∷ t) g k
buffer_step o t b d g k may closed none p row =
    ⊎_elim
    (λ (was : role o p t ≡ InBuffer g k).
    buffer_tombstones o t b d p g k may closed was (none p was))
    (λ (new : IsLinkOf g p k d).
    let link = may_as o t b d (LinkRow g new.lane p new.change new.before new.next)
    new.is may in
    absurd (closed b link.caller link.permission))
    (row_back o t b d p g k row)

-- ---- in a group that was seen open ----

-- what a caller knows there now
pub record IsOpenTo (o : Opening) (c k g : ℕ) (t : Execution) : Type 0 where
  pub stands : stands_in c g t ≡ true
  pub of_key : group_of o k t ≡ g
  pub seen : saw_open c g t ≡ true
  pub array : ArrayHasNone o t g k

-- a group that the caller saw open was not opened to a rebuild since
unopened : (o : Opening) (c g : ℕ) (t : Execution) → IsCaller o c → Valid o t →
    saw_open c g t ≡ true → IsUnopened g t
unopened o c g t is valid seen f = (opened_groups_hold o t valid).closed c g is (inl seen) f

-- so it still is the key's
open_now : (o : Opening) (c k g : ℕ) (t : Execution) → IsCaller o c → Valid o t →
    HasNoneWhereSeenOpen o c k g t → IsOpenTo o c k g t
open_now o c k g t is valid w =
    let s = w.stood in
    let same = sym s.since in
    let there : Valid o (s.newer ++ s.earlier) = subst (Valid o) same valid in
    let seen : saw_open c g (s.newer ++ s.earlier) ≡ true =
    subst (λ (z : Execution). saw_open c g z ≡ true) same w.seen in
    record {
      stands = subst (λ (z : Execution). stands_in c g z ≡ true) s.since
          (stands_in_on c g s.newer s.earlier s.stays s.stands);
      of_key = subst (λ (z : Execution). group_of o k z ≡ g) s.since
          (group_on o c g is k s.newer s.earlier there s.stays s.stands
          (unopened o c g (s.newer ++ s.earlier) is there seen) s.of_key);
      seen = w.seen;
      array = w.array;
    }

open_on : (o : Opening) (c k g : ℕ) → IsCaller o c → (n t : Execution) → Valid o (n ++ t) →
    StaysInside c n → IsOpenTo o c k g t → IsOpenTo o c k g (n ++ t)
open_on o c k g is [] t valid stay w = w
open_on o c k g is (e ∷ n) t valid stay w =
    let u = n ++ t in
    let old = open_on o c k g is n t valid.1 stay.1 w in
    record {
      stands = stands_in_on c g (e ∷ []) u (stay.0, tt) old.stands;
      of_key = group_step o u e.by e.action k g valid.0
          (unopened o c g u is valid.1 old.seen) old.of_key;
      seen = saw_open_on c g (e ∷ []) u (stay.0, tt) old.seen;
      array = array_step o u e.by e.action g k valid.1 valid.0
          (λ a to same.
          (may_as o u e.by e.action (StoreRedirect g a k to) same valid.0).unowned k old.of_key)
          old.array;
    }

-- ---- behind an opened group ----

-- the new group is not the old one
behind_apart : (o : Opening) (c k g : ℕ) (t : Execution) → IsCaller o c → Valid o t →
    (w : HasNoneBehindOpened o c k g t) → w.old ≢ g
behind_apart o c k g t is valid w same =
    (opened_groups_hold o t valid).closed c g is (inr (w.first, w.made, w.seen)) w.first
    (subst (λ (z : ℕ). phase z t ≡ Opened w.first) same w.opened)

-- nobody may insert into the old one
behind_closed : (o : Opening) (c k g : ℕ) (t : Execution) → Valid o t →
    (w : HasNoneBehindOpened o c k g t) → IsClosedToInserts o w.old t
behind_closed o c k g t valid w other is permission =
    (opened_groups_hold o t valid).closed other w.old is permission w.first w.opened

behind_on : (o : Opening) (c k g : ℕ) → IsCaller o c → (n t : Execution) → Valid o (n ++ t) →
    StaysInside c n → HasNoneBehindOpened o c k g t → HasNoneBehindOpened o c k g (n ++ t)
behind_on o c k g is [] t valid stay w = w
behind_on o c k g is (e ∷ n) t valid stay w =
    let u = n ++ t in
    let old = behind_on o c k g is n t valid.1 stay.1 w in
    let one : StaysInside c (e ∷ []) = (stay.0, tt) in
    let still = stay_behind o c old.old old.first g k is
    (behind_apart o c k g u is valid.1 old) (e ∷ []) u valid one old.stands old.seen old.made
    old.behind in
    record {
      old = old.old;
      first = old.first;
      stands = stands_in_on c old.old (e ∷ []) u one old.stands;
      opened = opened_step o u e.by e.action c old.old old.first valid.0 is old.stands old.opened;
      seen = saw_opened_on c old.first (e ∷ []) u one old.seen;
      made = still.1;
      behind = still.0;
      array = array_step o u e.by e.action old.old k valid.1 valid.0
          (λ a to same. open_not
          (sym (may_as o u e.by e.action (StoreRedirect old.old a k to) same valid.0).is_open
          ∙ old.opened)) old.array;
      buffer = buffer_step o u e.by e.action old.old k valid.0
          (behind_closed o c k g u valid.1 old) old.buffer;
    }

-- ---- either way ----

-- no other place of the key has a value, by what the caller knows now
abbrev pub KnowsNoneElsewhere : Opening → ℕ → ℕ → ℕ → Execution → Type 0
KnowsNoneElsewhere o c k g t = IsOpenTo o c k g t ⊎ HasNoneBehindOpened o c k g t

pub elsewhere_now : (o : Opening) (c k g : ℕ) (t : Execution) → IsCaller o c → Valid o t →
    HasNoneElsewhere o c k g t → KnowsNoneElsewhere o c k g t
elsewhere_now o c k g t is valid either =
    ⊎_elim (λ (w : HasNoneWhereSeenOpen o c k g t). inl (open_now o c k g t is valid w))
    (λ (w : HasNoneBehindOpened o c k g t). inr w) either

pub elsewhere_on : (o : Opening) (c k g : ℕ) → IsCaller o c → (n t : Execution) →
    Valid o (n ++ t) → StaysInside c n → KnowsNoneElsewhere o c k g t →
    KnowsNoneElsewhere o c k g (n ++ t)
elsewhere_on o c k g is n t valid stay either =
    ⊎_elim (λ (w : IsOpenTo o c k g t). inl (open_on o c k g is n t valid stay w))
    (λ (w : HasNoneBehindOpened o c k g t). inr (behind_on o c k g is n t valid stay w)) either

-- where the group has no row with a value for the key either, the key has no live place
pub lives_nowhere : (o : Opening) (c k g : ℕ) (t : Execution) → IsCaller o c → Valid o t →
    KnowsNoneElsewhere o c k g t → BufferHasNone o t g k →
    IsBufferFor o k g t × (live_place o k t ≡ None)
lives_nowhere o c k g t is valid either rows =
    ⊎_elim
    (λ (w : IsOpenTo o c k g t).
    insert_open o c g k is [] t valid tt w.stands w.seen w.of_key w.array rows)
    (λ (w : HasNoneBehindOpened o c k g t).
    insert_behind o c w.old w.first g k is t valid w.seen w.made w.behind w.array w.buffer rows)
    either

-- a key without a live place is not in the map
pub not_in_map : (o : Opening) (t : Execution) (k : ℕ) → Valid o t → live_place o k t ≡ None →
    value_in_map o k t ≡ None
not_in_map o t k valid none = by_place (live_place o k t) none (agreement o t valid k)
  where
    by_place : (p : Option ℕ) → p ≡ None → HasLiveValue o t k p → value_in_map o k t ≡ None
    by_place None e has = has
    by_place (Some q) e has = none_some (sym e)
