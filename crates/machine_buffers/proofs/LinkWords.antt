-- Which action stores the link of a row, and which a word of a buffer's lanes.
use Rattle.std.proofs.Common.{◌≡◌, ◌≢◌, ℕ, zero, suc, ◌⊎◌, inl, inr, ⊎_elim, Some, None}
use Rattle.std.proofs.Common.{Bool, true, false, ◌∷◌, cond, refl, sym, ap, ◌∙◌, subst, eq-eqb}
use Rattle.std.specs.Prelude.{◌==◌, ◌&&◌}
use mathlib.Core.Logic.{dite}
use native.Mathlib.Decide.{ℕ_discrete}
use Rattle.index_machine.proofs.Stores.{store_apart}
use Rattle.index_machine.specs.Conditions.{Allowed}
use Rattle.index_machine.specs.Execution.{Execution, event}
use Rattle.index_machine.specs.Rows.{role, role_key}
use Rattle.index_machine.specs.Words.{word}
use Rattle.index_machine.specs.declared.events.Action.{Action}
use Rattle.index_machine.specs.declared.events.Action.TheVariants.{Close, Copy, Freeze, Install}
use Rattle.index_machine.specs.declared.events.Action.TheVariants.{LinkRow, Lock, NewGroup}
use Rattle.index_machine.specs.declared.events.Action.TheVariants.{StoreArray, StoreDirect}
use Rattle.index_machine.specs.declared.events.Action.TheVariants.{StoreHeader, StoreMoved}
use Rattle.index_machine.specs.declared.events.Action.TheVariants.{StoreOpened, StorePrivate}
use Rattle.index_machine.specs.declared.events.Action.TheVariants.{StoreRedirect, StoreValue, Thaw}
use Rattle.index_machine.specs.declared.events.Action.TheVariants.{Unlock}
use Rattle.index_machine.specs.declared.events.InstallWord.TheVariants.{FirstSlot, NextOf}
use Rattle.index_machine.specs.declared.opening.Opening.{Opening}
use Rattle.index_machine.proofs.Options.{none_some}
use Rattle.map_model.specs.declared.entries.Change.{Change}
use Rattle.machine_buffers.specs.Walks.{IsLaneWord, RefillsLanes}
use Rattle.word_layout.proofs.SameWords.{same_word-refl, same_word-true}
use Rattle.word_layout.specs.Words.{Header, PlaceWord, same_word}
use Rattle.word_layout.specs.declared.headers.HeaderWord.{HeaderWord}
use Rattle.word_layout.specs.declared.headers.HeaderWord.TheVariants as header
use Rattle.word_layout.specs.declared.places.Part.TheVariants.{Link}

-- a store of another part leaves the word
other_part : (b : Bool) (value n : ℕ) → cond (b && false) value n ≡ n
other_part true value n = refl
other_part false value n = refl

-- ---- links of rows ----

-- the action links a row behind this one
pub record LinksBehind (q : ℕ) (d : Action) : Type 0 where
  pub group : ℕ
  pub lane : ℕ
  pub place : ℕ
  pub change : Change
  pub next : ℕ
  pub is : d ≡ LinkRow group lane place change q next

keyless : (o : Opening) (t : Execution) (q place k : ℕ) → role_key (role o q t) ≡ None →
    role_key (role o place t) ≡ Some k → q ≢ place
keyless o t q place k none keyed e =
    none_some (sym none ∙ (ap (λ (y : ℕ). role_key (role o y t)) e ∙ keyed))

-- the link of a place with a key stays, unless a row is linked behind it
pub link_stays : (o : Opening) (t : Execution) (b : ℕ) (d : Action) (q k : ℕ) → Allowed o t b d →
    role_key (role o q t) ≡ Some k →
    (word o (event b d ∷ t) (PlaceWord q Link) ≡ word o t (PlaceWord q Link)) ⊎ LinksBehind q d
link_stays o t b (StorePrivate p at value) q k may keyed =
    inl (store_apart p q value (word o t (PlaceWord q Link)) at Link
    (keyless o t p q k (ap role_key may.held) keyed))
link_stays o t b (Lock p expected) q k may keyed = inl (other_part (p == q) _ _)
link_stays o t b (StoreValue p value) q k may keyed = inl (other_part (p == q) _ _)
link_stays o t b (Unlock p removed c stored) q k may keyed = inl (other_part (p == q) _ _)
link_stays o t b (LinkRow h lane p c zero next) q k may keyed = inl refl
link_stays o t b (LinkRow h lane p c (suc n) next) q k may keyed = dite (ℕ_discrete (suc n) q)
    (λ (z : suc n ≡ q). inr (record {
      group = h;
      lane = lane;
      place = p;
      change = c;
      next = next;
      is = ap (λ (y : ℕ). LinkRow h lane p c y next) z;
    }))
    (λ (n' : suc n ≢ q). inl
    (store_apart (suc n) q p (word o t (PlaceWord q Link)) Link Link n'))
link_stays o t b (StoreArray g p at value) q k may keyed =
    inl (store_apart p q value (word o t (PlaceWord q Link)) at Link
    (keyless o t p q k (ap role_key may.unused) keyed))
link_stays o t b (StoreRedirect g p j to) q k may keyed = inl (other_part (p == q) _ _)
link_stays o t b (Install (NextOf left) first low high) q k may keyed = inl refl
link_stays o t b (Install (FirstSlot part side) first low high) q k may keyed = inl refl
link_stays o t b (Close p expected) q k may keyed = inl (other_part (p == q) _ _)
link_stays o t b (Copy p value) q k may keyed = inl (other_part (p == q) _ _)
link_stays o t b (StoreDirect p from j removed stored) q k may keyed =
    inl (other_part (p == q) _ _)
link_stays o t b (StoreMoved p) q k may keyed = inl (other_part (p == q) _ _)
link_stays o t b d q k may keyed = inl refl

-- ---- the words of lanes ----

-- the action links the first row of a lane of the buffer, and this header word is the lane's head
pub record LinksFirst (g : ℕ) (which : HeaderWord) (d : Action) : Type 0 where
  pub lane : ℕ
  pub place : ℕ
  pub change : Change
  pub next : ℕ
  pub is : d ≡ LinkRow g lane place change 0 next
  pub head : which ≡ header.Head lane

-- the action stores this header word: as the head of a lane, or in a header that is refilled
abbrev pub StoresWord : ℕ → HeaderWord → Action → Type 0
StoresWord g which d = LinksFirst g which d ⊎ ((value : ℕ) × (d ≡ StoreHeader g which value))

not_stored : (w : Bool) (value n : ℕ) → (w ≡ true → ⊥) → cond w value n ≡ n
not_stored true value n never = absurd (never refl)
not_stored false value n never = refl

header_is : {h g : ℕ} {at which : HeaderWord} → Header h at ≡ Header g which → (h ≡ g) × (at ≡ which)
header_is e = (cc, cc)

-- a store to another header word leaves the word
pub other_header : (h g value n : ℕ) (at which : HeaderWord) → (h ≡ g → at ≡ which → ⊥) →
    cond (same_word (Header h at) (Header g which)) value n ≡ n
other_header h g value n at which never =
    not_stored (same_word (Header h at) (Header g which)) value n (λ e.
    let is = header_is (same_word-true (Header h at) (Header g which) e) in never is.0 is.1)

-- a word of a lane stays, unless the action stores it
pub lane_word_stays : (o : Opening) (t : Execution) (b : ℕ) (d : Action) (g : ℕ) (which : HeaderWord) →
    IsLaneWord which → (StoresWord g which d → ⊥) →
    word o (event b d ∷ t) (Header g which) ≡ word o t (Header g which)
lane_word_stays o t b (LinkRow h lane p c zero next) g which is never =
    other_header h g p _ (header.Head lane) which (λ z e. never (inl (record {
      lane = lane;
      place = p;
      change = c;
      next = next;
      is = ap (λ (y : ℕ). LinkRow y lane p c 0 next) z;
      head = sym e;
    })))
lane_word_stays o t b (LinkRow h lane p c (suc n) next) g which is never = refl
lane_word_stays o t b (Freeze h) g which is never =
    other_header h g _ _ header.Phase which (λ z e. subst IsLaneWord (sym e) is)
lane_word_stays o t b (Thaw h) g which is never =
    other_header h g _ _ header.Phase which (λ z e. subst IsLaneWord (sym e) is)
lane_word_stays o t b (StoreOpened h f) g which is never =
    other_header h g _ _ header.Phase which (λ z e. subst IsLaneWord (sym e) is)
lane_word_stays o t b (NewGroup h low high f) g which is never =
    other_header h g _ _ header.Pivot which (λ z e. subst IsLaneWord (sym e) is)
lane_word_stays o t b (Install (NextOf left) first low high) g which is never =
    other_header left g _ _ header.Next which (λ z e. subst IsLaneWord (sym e) is)
lane_word_stays o t b (Install (FirstSlot part side) first low high) g which is never = refl
lane_word_stays o t b (StoreHeader h at value) g which is never =
    other_header h g value _ at which (λ z e. never (inr (
      value,
      ap (λ (y : ℕ). StoreHeader y at value) z
          ∙ ap (λ (y : HeaderWord). StoreHeader g y value) e,
    )))
lane_word_stays o t b d g which is never = refl

lane_word_or_not : (which : HeaderWord) → IsLaneWord which ⊎ (IsLaneWord which → ⊥)
lane_word_or_not header.Lanes = inl tt
lane_word_or_not (header.Head lane) = inl tt
lane_word_or_not (header.Cut lane) = inl tt
lane_word_or_not which = inr (λ z. z)

stored_is : {h g value v : ℕ} {at which : HeaderWord} →
    StoreHeader h at value ≡ StoreHeader g which v → (h ≡ g) × (at ≡ which)
stored_is e = (cc, cc)

-- whether an action refills a word of the buffer's lanes
pub refills_or_not : (g : ℕ) (d : Action) → RefillsLanes g d ⊎ (RefillsLanes g d → ⊥)
refills_or_not g (StoreHeader h at value) = dite (ℕ_discrete h g)
    (λ (z : h ≡ g). ⊎_elim
    (λ (is : IsLaneWord at). inl (at, value, ap (λ (y : ℕ). StoreHeader y at value) z, is))
    (λ (not : IsLaneWord at → ⊥).
    inr (λ s. not (subst IsLaneWord (sym (stored_is s.2).1) s.3)))
    (lane_word_or_not at))
    (λ (n : h ≢ g). inr (λ s. n (stored_is s.2).0))
refills_or_not g d = inr (λ s. let bad = s.2 in cc)

-- ---- the words that a link stores ----

-- behind a row the new one
pub behind_row : (o : Opening) (t : Execution) (b h lane p : ℕ) (c : Change) (q next : ℕ) → q ≢ 0 →
    word o (event b (LinkRow h lane p c q next) ∷ t) (PlaceWord q Link) ≡ p
behind_row o t b h lane p c zero next some = absurd (some refl)
behind_row o t b h lane p c (suc n) next some = rw (eq-eqb (suc n) (suc n) refl) refl

-- behind other rows what was there
pub behind_other : (o : Opening) (t : Execution) (b h lane p : ℕ) (c : Change) (q next place : ℕ) →
    q ≢ place → word o (event b (LinkRow h lane p c q next) ∷ t) (PlaceWord place Link)
    ≡ word o t (PlaceWord place Link)
behind_other o t b h lane p c zero next place other = refl
behind_other o t b h lane p c (suc n) next place other =
    store_apart (suc n) place p (word o t (PlaceWord place Link)) Link Link other

-- in the lane's head the new row, where it comes first
pub head_first : (o : Opening) (t : Execution) (b h lane p : ℕ) (c : Change) (next : ℕ) →
    word o (event b (LinkRow h lane p c 0 next) ∷ t) (Header h (header.Head lane)) ≡ p
head_first o t b h lane p c next = rw (same_word-refl (Header h (header.Head lane))) refl

-- and what was there, where it comes later
pub head_later : (o : Opening) (t : Execution) (b h lane p : ℕ) (c : Change) (q next : ℕ) → q ≢ 0 →
    word o (event b (LinkRow h lane p c q next) ∷ t) (Header h (header.Head lane))
    ≡ word o t (Header h (header.Head lane))
head_later o t b h lane p c zero next some = absurd (some refl)
head_later o t b h lane p c (suc n) next some = refl
