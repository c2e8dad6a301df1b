-- What a state word says of the form of its place.
use Rattle.std.proofs.Common.{◌≡◌, ◌≢◌, ℕ, ◌⊎◌, inl, inr, Bool, true, false, refl, ap, arith}
use Rattle.word_layout.specs.declared.state.State.{State}
use Rattle.word_layout.specs.declared.state.State.TheVariants as state
use Rattle.word_layout.specs.State.{word_of_state}
use Rattle.index_machine.specs.Forms.{Form, Blank, Unlocked, Locked, Copied, Redirect, Moved}
use Rattle.index_machine.specs.Forms.{state_word}

-- the form is one that has this state
abbrev pub IsFormOf : State → Form → Type 0
IsFormOf (state.Direct v false r) f = (x : ℕ) × (f ≡ Unlocked v r x)
IsFormOf (state.Direct v true r) f =
    ((c : ℕ) × (x : ℕ) × (y : ℕ) × (f ≡ Locked c v r x y)) ⊎ ((x : ℕ) × (f ≡ Copied v r x))
IsFormOf (state.Redirect to) f = (y : ℕ) × (f ≡ Redirect to y)
IsFormOf state.Moved f = f ≡ Moved

-- the words of two states tell their versions and their marks apart
same_fields : (locked : Bool) (w v : ℕ) (s r : Bool) →
    word_of_state (state.Direct w locked s) ≡ word_of_state (state.Direct v locked r) →
    (w ≡ v) × (s ≡ r)
same_fields true w v true true e =
    let same : w ≡ v = omega arith in (same, refl)
same_fields true w v true false e = absurd (omega arith)
same_fields true w v false true e = absurd (omega arith)
same_fields true w v false false e =
    let same : w ≡ v = omega arith in (same, refl)
same_fields false w v true true e =
    let same : w ≡ v = omega arith in (same, refl)
same_fields false w v true false e = absurd (omega arith)
same_fields false w v false true e = absurd (omega arith)
same_fields false w v false false e =
    let same : w ≡ v = omega arith in (same, refl)

pub unlocked_by_word : (f : Form) (v : ℕ) (r : Bool) → f ≢ Blank →
    state_word f ≡ word_of_state (state.Direct v false r) → (x : ℕ) × (f ≡ Unlocked v r x)
unlocked_by_word Blank v r filled e = absurd (filled refl)
unlocked_by_word (Unlocked w s x) v r filled e =
    let same = same_fields false w v s r e in (x, (λ i. Unlocked (same.0 i) (same.1 i) x))
unlocked_by_word (Locked c w true x y) v true filled e = absurd (omega arith)
unlocked_by_word (Locked c w true x y) v false filled e = absurd (omega arith)
unlocked_by_word (Locked c w false x y) v true filled e = absurd (omega arith)
unlocked_by_word (Locked c w false x y) v false filled e = absurd (omega arith)
unlocked_by_word (Copied w true x) v true filled e = absurd (omega arith)
unlocked_by_word (Copied w true x) v false filled e = absurd (omega arith)
unlocked_by_word (Copied w false x) v true filled e = absurd (omega arith)
unlocked_by_word (Copied w false x) v false filled e = absurd (omega arith)
unlocked_by_word (Redirect p y) v true filled e = absurd (omega arith)
unlocked_by_word (Redirect p y) v false filled e = absurd (omega arith)
unlocked_by_word Moved v true filled e = absurd (omega arith)
unlocked_by_word Moved v false filled e = absurd (omega arith)

pub locked_by_word : (f : Form) (v : ℕ) (r : Bool) →
    state_word f ≡ word_of_state (state.Direct v true r) → IsFormOf (state.Direct v true r) f
locked_by_word (Locked c w s x y) v r e =
    let same = same_fields true w v s r e in inl (c, x, y, (λ i. Locked c (same.0 i) (same.1 i) x y))
locked_by_word (Copied w s x) v r e =
    let same = same_fields true w v s r e in inr (x, (λ i. Copied (same.0 i) (same.1 i) x))
locked_by_word Blank v true e = absurd (omega arith)
locked_by_word Blank v false e = absurd (omega arith)
locked_by_word (Unlocked w true x) v true e = absurd (omega arith)
locked_by_word (Unlocked w true x) v false e = absurd (omega arith)
locked_by_word (Unlocked w false x) v true e = absurd (omega arith)
locked_by_word (Unlocked w false x) v false e = absurd (omega arith)
locked_by_word (Redirect p y) v true e = absurd (omega arith)
locked_by_word (Redirect p y) v false e = absurd (omega arith)
locked_by_word Moved v true e = absurd (omega arith)
locked_by_word Moved v false e = absurd (omega arith)

-- a form whose state word is that of a redirect forwards to its place
pub forwards_by_word : (f : Form) (to : ℕ) → state_word f ≡ word_of_state (state.Redirect to) →
    (y : ℕ) × (f ≡ Redirect to y)
forwards_by_word (Redirect p y) to e =
    let same : p ≡ to = omega arith in (y, ap (λ (z : ℕ). Redirect z y) same)
forwards_by_word Blank to e = absurd (omega arith)
forwards_by_word (Unlocked v true x) to e = absurd (omega arith)
forwards_by_word (Unlocked v false x) to e = absurd (omega arith)
forwards_by_word (Locked c v true x y) to e = absurd (omega arith)
forwards_by_word (Locked c v false x y) to e = absurd (omega arith)
forwards_by_word (Copied v true x) to e = absurd (omega arith)
forwards_by_word (Copied v false x) to e = absurd (omega arith)
forwards_by_word Moved to e = absurd (omega arith)

moved_by_word : (f : Form) → state_word f ≡ word_of_state state.Moved → f ≡ Moved
moved_by_word Moved e = refl
moved_by_word Blank e = absurd (omega arith)
moved_by_word (Unlocked v true x) e = absurd (omega arith)
moved_by_word (Unlocked v false x) e = absurd (omega arith)
moved_by_word (Locked c v true x y) e = absurd (omega arith)
moved_by_word (Locked c v false x y) e = absurd (omega arith)
moved_by_word (Copied v true x) e = absurd (omega arith)
moved_by_word (Copied v false x) e = absurd (omega arith)
moved_by_word (Redirect p y) e = absurd (omega arith)

-- a form that is not blank has the state of its state word
pub form_by_word : (s : State) (f : Form) → f ≢ Blank → state_word f ≡ word_of_state s →
    IsFormOf s f
form_by_word (state.Direct v false r) f filled e = unlocked_by_word f v r filled e
form_by_word (state.Direct v true r) f filled e = locked_by_word f v r e
form_by_word (state.Redirect to) f filled e = forwards_by_word f to e
form_by_word state.Moved f filled e = moved_by_word f e
