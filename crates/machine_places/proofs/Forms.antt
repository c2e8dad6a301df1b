-- Small facts on roles and forms.
use Rattle.std.proofs.Common.{◌≡◌, ℕ, Some, Bool, true, false, cond, refl}
use Rattle.index_machine.proofs.Options.{none_some}
use Rattle.std.specs.Prelude.{◌==◌}
use Rattle.index_machine.specs.Forms.{Blank, Copied, Form, Locked, Moved, Redirect, Unlocked}
use Rattle.index_machine.specs.Forms.{live_value, with_lock, with_value}
use Rattle.index_machine.specs.Rows.{HeldBy, InArray, InBuffer, Role, Unused, emptied, role_key}

-- ---- forms that change and have the value that they had ----

pub live_value_if : (b : Bool) (f g : Form) → live_value f ≡ live_value g →
    live_value (cond b f g) ≡ live_value g
live_value_if true f g e = e
live_value_if false f g e = refl

pub live_value-with_lock : (c : ℕ) (f : Form) → live_value (with_lock c f) ≡ live_value f
live_value-with_lock c Blank = refl
live_value-with_lock c (Unlocked v r x) = refl
live_value-with_lock c (Locked b v r x y) = refl
live_value-with_lock c (Copied v r x) = refl
live_value-with_lock c (Redirect p y) = refl
live_value-with_lock c Moved = refl

pub live_value-with_value : (y : ℕ) (f : Form) → live_value (with_value y f) ≡ live_value f
live_value-with_value y Blank = refl
live_value-with_value y (Unlocked v r x) = refl
live_value-with_value y (Locked b v r x z) = refl
live_value-with_value y (Copied v r x) = refl
live_value-with_value y (Redirect p z) = refl
live_value-with_value y Moved = refl

-- ---- roles ----

-- a key in a role after a group's roles were emptied was there before
pub emptied_back : (g : ℕ) (s : Role) (k : ℕ) → role_key (emptied g s) ≡ Some k →
    emptied g s ≡ s
emptied_back g Unused k e = refl
emptied_back g (HeldBy c) k e = refl
emptied_back g (InBuffer h j) k e = refl
emptied_back g (InArray h j) k e = array (h == g) e
  where
    array : (b : Bool) → role_key (cond b Unused (InArray h j)) ≡ Some k →
        cond b Unused (InArray h j) ≡ InArray h j
    array true e = none_some e
    array false e = refl
