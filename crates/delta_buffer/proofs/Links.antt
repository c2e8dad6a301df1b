-- What links say that were loaded, and how keys rise along them.
use Rattle.std.proofs.Common.{◌≡◌, ◌≢◌, ℕ, zero, suc, ◌+◌, ◌-◌, ◌<◌, ◌≤◌, ◌^◌, inl, inr, ⊎_elim}
use Rattle.std.proofs.Common.{List, [], true, ◌∷◌, refl, ap, arith, eq-eqb}
use Rattle.word_layout.specs.declared.places.Part.TheVariants as part
use Rattle.word_layout.specs.Words.{PlaceWord}
use Rattle.word_layout.proofs.RowPlaces.{row-nonzero}
use Rattle.word_layout.specs.declared.headers.HeaderWord.TheVariants.{Lanes}
use Rattle.index_machine.specs.declared.events.Action.{Action}
use Rattle.index_machine.specs.declared.events.Action.TheVariants.{LoadHead, LoadHeader, LoadKey}
use Rattle.index_machine.specs.declared.events.Action.TheVariants.{LoadLink}
use Rattle.index_machine.specs.declared.opening.Opening.{Opening}
use Rattle.index_machine.specs.Conditions.{Allowed, Valid}
use Rattle.index_machine.specs.Execution.{Execution, event}
use Rattle.index_machine.specs.Lanes.{HasLane, cut, lanes}
use Rattle.index_machine.specs.Reaching.{names_place, reached}
use Rattle.index_machine.specs.RecordConditions.{IsLinkInto}
use Rattle.index_machine.specs.Rows.{InBuffer, Role, role, role_key}
use Rattle.index_machine.specs.Words.{shape, link_behind, word}
use Rattle.index_machine.proofs.Placing.{buffer_row}
use Rattle.index_rule.specs.Records.{key_at, or_zero}
use Rattle.index_rule.proofs.RecordSteps.{place_below}
use Rattle.machine_buffers.specs.Walks.{IsLinkBefore}
use Rattle.sorted_group.proofs.BufferLoads.{AreBufferLoads, IsBufferLoad}
use Rattle.delta_buffer.specs.Counting.{AreLoadsForCount, IsLoadForCount}
use Rattle.delta_buffer.specs.Walks.{AreWalkOf, IsWalkOf, load_of_link}

-- a row of a buffer is not place 0
pub row_some : (o : Opening) (t : Execution) (g p k : ℕ) → Valid o t →
    role o p t ≡ InBuffer g k → p ≢ 0
row_some o t g p k valid e = row-nonzero (shape o) p (buffer_row o t valid p g k e)

-- a link into a lane is a small number
pub link_below : (o : Opening) (t : Execution) (g lane p : ℕ) → Valid o t →
    IsLinkInto o g lane p t → p < 2 ^ 28
link_below o t g lane p valid into =
    ⊎_elim (λ (z : p ≡ 0). omega arith)
    (λ (z : (k : ℕ) × (role o p t ≡ InBuffer g k) × HasLane o g lane k t).
    place_below o p (inl (buffer_row o t valid p g z.0 z.1))) into

-- the word of the link behind a row
pub link_of_row : (g lane p : ℕ) → p ≢ 0 → link_behind g lane p ≡ PlaceWord p part.Link
link_of_row g lane zero some = absurd (some refl)
link_of_row g lane (suc n) some = refl

-- its load is one of a walk
pub link_is_walk : (g lane p q : ℕ) → IsWalkOf g lane (load_of_link g lane p q)
link_is_walk g lane zero q = (refl, refl)
link_is_walk g lane (suc n) q = refl

-- and so one of the buffer, which a count may make
pub link_is_load : (g lane p q : ℕ) → IsBufferLoad g (load_of_link g lane p q)
link_is_load g lane zero q = refl
link_is_load g lane (suc n) q = refl

pub link_is_count : (g lane p q : ℕ) → IsLoadForCount g (load_of_link g lane p q)
link_is_count g lane zero q = refl
link_is_count g lane (suc n) q = refl

-- each load of a walk is one of the buffer
pub walk_is_load : (g lane : ℕ) (d : Action) → IsWalkOf g lane d → IsBufferLoad g d
walk_is_load g lane (LoadHead h l n) is = is.0
walk_is_load g lane (LoadLink h p n) is = is
walk_is_load g lane (LoadKey p n) is = tt
walk_is_load g lane d is = absurd is

pub walk_loads : (g lane : ℕ) (ds : List Action) → AreWalkOf g lane ds → AreBufferLoads g ds
walk_loads g lane [] are = tt
walk_loads g lane (d ∷ ds) are = (walk_is_load g lane d are.0, walk_loads g lane ds are.1)

-- and so is each of a count
pub count_is_load : (g : ℕ) (d : Action) → IsLoadForCount g d → IsBufferLoad g d
count_is_load g (LoadHeader h Lanes n) is = is
count_is_load g (LoadHead h l n) is = is
count_is_load g (LoadLink h p n) is = is
count_is_load g d is = absurd is

pub count_loads : (g : ℕ) (ds : List Action) → AreLoadsForCount g ds → AreBufferLoads g ds
count_loads g [] are = tt
count_loads g (d ∷ ds) are = (count_is_load g d are.0, count_loads g ds are.1)

-- of a row it is that of the row's link
pub link_load : (g lane p q : ℕ) → p ≢ 0 → load_of_link g lane p q ≡ LoadLink g p q
link_load g lane zero q some = absurd (some refl)
link_load g lane (suc n) q some = refl

-- it finds the word there
pub link_says : (o : Opening) (hand g lane p q : ℕ) (t : Execution) →
    Allowed o t hand (load_of_link g lane p q) →
    word o (event hand (load_of_link g lane p q) ∷ t) (link_behind g lane p) ≡ q
link_says o hand g lane zero q t may = may.found_word
link_says o hand g lane (suc n) q t may = may.found_word

-- the link names the place to which it leads
names_own : (p : ℕ) → p ≢ 0 → names_place p p ≡ true
names_own zero some = absurd (some refl)
names_own (suc n) some = eq-eqb (suc n) (suc n) refl

-- so the hand has reached that
pub link_reaches : (hand g lane p q : ℕ) (t : Execution) → q ≢ 0 →
    reached hand q (event hand (load_of_link g lane p q) ∷ t) ≡ true
link_reaches hand g lane zero q t some = rw (eq-eqb hand hand refl, names_own q some) refl
link_reaches hand g lane (suc n) q t some = rw (eq-eqb hand hand refl, names_own q some) refl

pub buffer_key : {g i j : ℕ} → InBuffer g i ≡ InBuffer g j → i ≡ j
buffer_key e = cc

-- ---- keys of a lane ----

-- what stands before a key is a link of the lane
pub before_into : (o : Opening) (g lane key p : ℕ) (t : Execution) →
    IsLinkBefore o g lane key p t → IsLinkInto o g lane p t
before_into o g lane key p t before =
    ⊎_elim (λ (z : p ≡ 0). inl z)
    (λ (z : (j : ℕ) × (role o p t ≡ InBuffer g j) × HasLane o g lane j t × (j < key)).
    inr (z.0, z.1, z.2)) before

-- a link before a key stands before each greater one
pub before_more : (o : Opening) (g lane key j p : ℕ) (t : Execution) → key ≤ j →
    IsLinkBefore o g lane key p t → IsLinkBefore o g lane j p t
before_more o g lane key j p t le behind =
    ⊎_elim (λ (z : p ≡ 0). inl z)
    (λ (z : (i : ℕ) × (role o p t ≡ InBuffer g i) × HasLane o g lane i t × (i < key)).
    let lt = z.3 in inr (z.0, z.1, z.2, omega arith)) behind

-- a key that is not below the lane's cut and not above one of its keys is in the lane
pub in_lane_up_to : (o : Opening) (g lane k j : ℕ) (t : Execution) → cut o g lane t ≤ k → k ≤ j →
    HasLane o g lane j t → HasLane o g lane k t
in_lane_up_to o g lane k j t from le has =
    record {
      is_lane = has.is_lane;
      from = from;
      end = ⊎_elim (λ (z : lane + 1 ≡ lanes o g t). inl z)
          (λ (z : j < cut o g (lane + 1) t). inr (omega arith)) has.end;
    }

-- ---- a walk ends ----

-- how far the keys still can rise up to this one
pub rise_left : Opening → ℕ → ℕ → Execution → ℕ
rise_left o key zero t = 0
rise_left o key (suc n) t = key + 1 - key_at o (suc n) t

pub left_none : (o : Opening) (key p : ℕ) (t : Execution) → p ≡ 0 → rise_left o key p t ≡ 0
unfolding rise_left
left_none o key zero t e = refl
left_none o key (suc p) t e = absurd (omega (arith, e))

pub left_some : (o : Opening) (key p j g : ℕ) (t : Execution) → p ≢ 0 →
    role o p t ≡ InBuffer g j → rise_left o key p t ≡ key + 1 - j
unfolding rise_left
left_some o key zero j g t some e = absurd (some refl)
left_some o key (suc p) j g t some e = ap (λ (z : Role). key + 1 - or_zero (role_key z)) e
