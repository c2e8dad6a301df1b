-- The form of a place of the small table, and whose it is, for the choice whether it is the one row,
-- the other or the first place of the array: the caller holds no version lock as it leaves, and the
-- copy leaves no redirect.
use Rattle.std.proofs.Common.{◌≡◌, ℕ, Bool, true, false, cond}
use Rattle.index_machine.specs.Forms.{Blank, Form, IsLockedBy, Locked, Moved, Redirect, Unlocked}
use Rattle.index_machine.specs.Forms.{with_lock, with_value, without_lock, made_direct}
use Rattle.index_machine.specs.Forms.{copied_away}
use Rattle.index_machine.specs.Rows.{HeldBy, InArray, InBuffer, Role, Unused, emptied}

-- ---- forms ----

-- the form of a place after the puts, the change and the rebuild, where it may be the first row, the
-- other one or the first place of the array
abbrev pub first_form : Bool → Form
first_form w = cond w (Unlocked 0 false 7) Blank

abbrev pub locked_form : Bool → Form
locked_form w = cond w (with_lock 0 (first_form w)) (first_form w)

abbrev pub stored_form : Bool → Form
stored_form w = cond w (with_value 8 (locked_form w)) (locked_form w)

abbrev pub changed_form : Bool → Form
changed_form w = cond w (without_lock false (stored_form w)) (stored_form w)

abbrev pub linked_form : Bool → Bool → Form
linked_form w u = cond u (Unlocked 0 false 4) (changed_form w)

abbrev pub redirected_form : Bool → Bool → Bool → Form
redirected_form w u v = cond v (Redirect 119 0) (linked_form w u)

abbrev pub closed_form : Bool → Bool → Bool → Form
closed_form w u v = cond w (with_lock 1 (redirected_form w u v)) (redirected_form w u v)

abbrev pub copied_form : Bool → Bool → Bool → Form
copied_form w u v = cond v (with_value 8 (closed_form w u v)) (closed_form w u v)

abbrev pub direct_form : Bool → Bool → Bool → Form
direct_form w u v = cond v (made_direct 0 false (copied_form w u v))
    (cond w (copied_away (copied_form w u v)) (copied_form w u v))

abbrev pub moved_form : Bool → Bool → Bool → Form
moved_form w u v = cond w Moved (direct_form w u v)

pub unlocked_free : (v x : ℕ) → IsLockedBy 0 (Unlocked v false x) → ⊥
unlocked_free v x z = let bad : Unlocked v false x ≡ Locked 0 z.0 z.1 z.2 z.3 = z.4 in cc

pub blank_free : IsLockedBy 0 Blank → ⊥
blank_free z = let bad : Blank ≡ Locked 0 z.0 z.1 z.2 z.3 = z.4 in cc

pub no_lock_first : (w : Bool) → IsLockedBy 0 (first_form w) → ⊥
no_lock_first true z = unlocked_free 0 7 z
no_lock_first false z = blank_free z

pub no_lock_changed : (w : Bool) → IsLockedBy 0 (changed_form w) → ⊥
no_lock_changed true z = unlocked_free 1 8 z
no_lock_changed false z = blank_free z

pub no_lock_linked : (w u : Bool) → IsLockedBy 0 (linked_form w u) → ⊥
no_lock_linked w true z = unlocked_free 0 4 z
no_lock_linked w false z = no_lock_changed w z

pub no_lock_rebuilt : (w u v : Bool) → IsLockedBy 0 (moved_form w u v) → ⊥
no_lock_rebuilt true u v z = let bad : Moved ≡ Locked 0 z.0 z.1 z.2 z.3 = z.4 in cc
no_lock_rebuilt false u true z = unlocked_free 0 8 z
no_lock_rebuilt false true false z = unlocked_free 0 4 z
no_lock_rebuilt false false false z = blank_free z

-- after the copy no place has a redirect
pub no_redirect_rebuilt : (w u v : Bool) (to value : ℕ) → moved_form w u v ≡ Redirect to value → ⊥
no_redirect_rebuilt true u v to value e = let bad : Moved ≡ Redirect to value = e in cc
no_redirect_rebuilt false u true to value e =
    let bad : Unlocked 0 false 8 ≡ Redirect to value = e in cc
no_redirect_rebuilt false true false to value e =
    let bad : Unlocked 0 false 4 ≡ Redirect to value = e in cc
no_redirect_rebuilt false false false to value e =
    let bad : Blank ≡ Redirect to value = e in cc

-- ---- whose the place is ----

-- whose it is after the first put, once group 1 is begun, after the second put, after the merge, once
-- the first row was given back, and once it is used again
abbrev pub put_role : Bool → Role
put_role w = cond w (InBuffer 0 5) (cond w (HeldBy 0) Unused)

abbrev pub begun_role : Bool → Role
begun_role w = emptied 1 (put_role w)

abbrev pub linked_role : Bool → Bool → Role
linked_role w u = cond u (InBuffer 1 9) (cond u (HeldBy 0) (begun_role w))

abbrev pub merged_role : Bool → Bool → Bool → Role
merged_role w u v = cond v (InArray 1 5) (linked_role w u)

abbrev pub given_role : Bool → Bool → Bool → Role
given_role w u v = cond w Unused (cond w (HeldBy 1) (merged_role w u v))

abbrev pub again_role : Bool → Bool → Bool → Role
again_role w u v = cond w (HeldBy 0) (given_role w u v)
