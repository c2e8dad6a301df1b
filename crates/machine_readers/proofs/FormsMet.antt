-- The laws on what a caller can meet, from what stands at the opening.
use Rattle.std.proofs.Common.{◌≡◌, ◌≢◌, ℕ, ◌⊎◌, inl, inr, [], ◌++◌, refl, ap}
use Rattle.index_machine.proofs.OpeningRows.{opening_form-redirect}
use Rattle.index_machine.specs.Forms.{Blank, Copied, Form, Locked, Moved, Redirect, Unlocked}
use Rattle.index_machine.specs.Execution.{Execution}
use Rattle.index_machine.specs.Conditions.{Valid}
use Rattle.index_machine.specs.Places.{IsInGroup, form}
use Rattle.index_machine.specs.declared.opening.Opening.{Opening}
use Rattle.machine_readers.proofs.FormKinds.{Away, Direct, Empty, Forward, Kind, kind}
use Rattle.machine_readers.proofs.CopiedPlaces.{places_are_filled, rows_forward_nowhere}
use Rattle.machine_readers.proofs.ReachedForms.{keyed_in_group, reached_filled, reached_nowhere}
use Rattle.machine_readers.proofs.ReadSections.{stands_in_on}
use Rattle.machine_readers.proofs.StandingCallers.{none_away, not_away, of_key_on}
use Rattle.machine_readers.proofs.Targets.{direct_if, forward_is, targets_are_direct}
use Rattle.machine_readers.specs.Redirects.{RedirectsLeadToOld}
use Rattle.machine_readers.specs.Targets.{CallersMeetRecords, GroupsHoldRecords, HoldsRecords}
use Rattle.machine_readers.specs.Targets.{IsDirect, IsRedirect, ReachedPlacesDoNotForward}
use Rattle.machine_readers.specs.Targets.{PlacesOfKeysAreNotBlank, RedirectTargetsAreDirect}
use Rattle.machine_readers.specs.Targets.{RowsDoNotForward}

opening-redirects : (o : Opening) → RedirectsLeadToOld o []
opening-redirects o a g k q y s e = opening_form-redirect o a q y e

direct_is : (f : Form) → kind f ≡ Direct → IsDirect f
direct_is Blank e = let bad = e in cc
direct_is (Unlocked v r x) e = inl (v, r, x, refl)
direct_is (Locked c v r x y) e = inr (c, (v, r, x, y, refl))
direct_is (Copied v r x) e = let bad = e in cc
direct_is (Redirect p y) e = let bad = e in cc
direct_is Moved e = let bad = e in cc

pub targets_direct : RedirectTargetsAreDirect
targets_direct o t valid a g k p y s e =
    direct_is (form o p t) (targets_are_direct o (opening-redirects o) t valid a g k p y s e)

pub reached_forms : ReachedPlacesDoNotForward
reached_forms o t valid c p is r = (
  λ to value e. reached_nowhere o (opening-redirects o) t valid c p is r (ap kind e),
  λ e. reached_filled o (opening-redirects o) t valid c p is r (ap kind e),
)

-- what a group has for a key, where nothing was copied away
holds : (o : Opening) (t : Execution) (g k : ℕ) → Valid o t →
    ((p : ℕ) → IsInGroup o t g k p → kind (form o p t) ≢ Away) → HoldsRecords o g k t
holds o t g k valid none = record {
  rows = λ p s. direct_is (form o p t) (direct_if (kind (form o p t))
      (places_are_filled o t valid g k p (inr s)) (none p (inr s))
      (rows_forward_nowhere o t valid g k p s));
  array = λ p s. go (form o p t) (kind (form o p t)) refl
      (places_are_filled o t valid g k p (inl s)) (none p (inl s));
}
  where
    go : (f : Form) (x : Kind) → kind f ≡ x → kind f ≢ Empty → kind f ≢ Away →
        IsDirect f ⊎ IsRedirect f
    go f Empty e filled here = absurd (filled e)
    go f Direct e filled here = inl (direct_is f e)
    go f Away e filled here = absurd (here e)
    go f Forward e filled here = inr (forward_is f e)

pub groups_hold : GroupsHoldRecords
groups_hold o t valid g k of =
    holds o t g k valid (λ p s. not_away o t g k p valid of s)

pub callers_meet : CallersMeetRecords
callers_meet o c g k is n t valid stay s of = holds o (n ++ t) g k valid (λ p there.
    none_away o (n ++ t) c g k p valid is (stands_in_on c g n t stay s)
    (of_key_on o c g k is n t valid stay s of) there)

pub not_blank : PlacesOfKeysAreNotBlank
not_blank o t valid p k s e =
    let g = keyed_in_group o t p k s in
    places_are_filled o t valid g.0 k p g.1 (ap kind e)

pub rows_stay : RowsDoNotForward
rows_stay o t valid p g k to value s e = rows_forward_nowhere o t valid g k p s (ap kind e)
