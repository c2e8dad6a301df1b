-- What redirects lead to, through all stages of a rebuild.
use Rattle.std.specs.Prelude.{◌≡◌, ◌≢◌, ◌⊎◌, ℕ, true, Some}
use Rattle.word_layout.specs.declared.phase.Phase.TheVariants.{Opened}
use Rattle.index_machine.specs.declared.opening.Opening.{Opening}
use Rattle.index_machine.specs.Execution.{Execution}
use Rattle.index_machine.specs.Rows.{InArray, role}
use Rattle.index_machine.specs.Forms.{Redirect, is_removed}
use Rattle.index_machine.specs.Places.{form, IsInGroup}
use Rattle.index_machine.specs.Groups.{phase}
use Rattle.index_machine.specs.KeyRanges.{group_of, successor, predecessor}
use Rattle.index_machine.specs.Permissions.{IsReplaced}

-- the place is of a group that was opened to a rebuild
abbrev pub IsOldPlace : Opening → Execution → ℕ → ℕ → Type 0
IsOldPlace o t k q = (h : ℕ) × (f : ℕ) × (phase h t ≡ Opened f) × IsInGroup o t h k q

-- each redirect of an array leads to an old place of its key
abbrev pub RedirectsLeadToOld : Opening → Execution → Type 0
RedirectsLeadToOld o t =
    (a g k q y : ℕ) → role o a t ≡ InArray g k → form o a t ≡ Redirect q y →
    IsOldPlace o t k q

-- an array place has no value: it is removed, or what it forwards to is
abbrev pub HasNoValue : Opening → Execution → ℕ → Type 0
HasNoValue o t a =
    (is_removed (form o a t) ≡ true)
    ⊎ ((q : ℕ) × (y : ℕ) × (form o a t ≡ Redirect q y) × (is_removed (form o q t) ≡ true))

-- the place forwards to a place of the key in this group
abbrev pub RedirectsInto : Opening → Execution → ℕ → ℕ → ℕ → Type 0
RedirectsInto o t g k a =
    (q : ℕ) × (y : ℕ) × (form o a t ≡ Redirect q y) × IsInGroup o t g k q

-- before the install each place of a new array forwards into the key's group
abbrev pub NewRedirects : Opening → Execution → Type 0
NewRedirects o t =
    (a k h : ℕ) → role o a t ≡ InArray h k → successor k t ≡ Some h →
    group_of o k t ≢ h → RedirectsInto o t (group_of o k t) k a

-- after the install each of them forwards into the group that had the key before, until this is
-- replaced
abbrev pub InstalledRedirects : Opening → Execution → Type 0
InstalledRedirects o t =
    (a k g : ℕ) → predecessor o k t ≡ Some g → role o a t ≡ InArray (group_of o k t) k →
    RedirectsInto o t g k a ⊎ IsReplaced o g t

-- a caller of the old group g, for a key whose new group is h: not installed yet, or installed with
-- redirects into g alone
abbrev pub IsBehind : Opening → Execution → ℕ → ℕ → ℕ → ℕ → Type 0
IsBehind o t g f h k =
    ((group_of o k t ≡ g) × (phase g t ≡ Opened f) × (successor k t ≡ Some h))
    ⊎ ((group_of o k t ≡ h)
    × ((a : ℕ) → role o a t ≡ InArray h k → RedirectsInto o t g k a))
