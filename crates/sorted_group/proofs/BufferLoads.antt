-- Loads of a buffer change nothing: a hand can go on after them as before, be it a caller's or that of the
-- keeper of the group's part.
use Rattle.std.proofs.Common.{◌≡◌, ℕ, inl, inr, ⊎_elim, Option, None, true, false, List, [], ◌∷◌}
use Rattle.std.proofs.Common.{◌++◌}
use Rattle.std.proofs.Common.{append_assoc, refl, sym, ap, ◌∙◌, subst}
use Rattle.word_layout.specs.declared.headers.HeaderWord.{HeaderWord}
use Rattle.word_layout.specs.declared.places.Part.{Part}
use Rattle.word_layout.specs.declared.places.Part.TheVariants.{Link, State, Value}
use Rattle.word_layout.specs.Words.{PlaceWord}
use Rattle.index_machine.specs.declared.events.Action.{Action}
use Rattle.index_machine.specs.declared.events.Action.TheVariants.{LoadHead, LoadHeader, LoadKey}
use Rattle.index_machine.specs.declared.events.Action.TheVariants.{LoadLink, Retire, StoreHeader}
use Rattle.index_machine.specs.declared.opening.Opening.{Opening}
use Rattle.index_machine.specs.Conditions.{Valid}
use Rattle.index_machine.specs.Execution.{Execution, Without, event}
use Rattle.index_machine.specs.Forms.{Unlocked, state_word}
use Rattle.index_machine.specs.Places.{first_version}
use Rattle.index_machine.specs.Reaching.{stands_in}
use Rattle.index_machine.specs.Rows.{Holds, InBuffer, role}
use Rattle.index_machine.specs.Sections.{IsNoCrossing, IsReading, StaysInside}
use Rattle.index_machine.specs.Keepers.{IsGroupKeeper}
use Rattle.index_machine.specs.Words.{Store, store_of, stored, word}
use Rattle.index_machine.proofs.Holders.{TakesLock}
use Rattle.index_machine.proofs.Placing.{KeepsRoles}
use Rattle.machine_buffers.specs.Groups.{Begins}
use Rattle.machine_buffers.specs.Walks.{IsLaneWord, IsWalkable, TakesApart}
use Rattle.machine_buffers.proofs.BegunLanes.{HasSameLanes}
use Rattle.machine_buffers.proofs.Walks.{walkable_until, walkable_while}
use Rattle.index_rule.specs.declared.board.Board.{Board}
use Rattle.index_rule.specs.declared.hand.Hand.{Hand}
use Rattle.index_rule.specs.Buffers.{CanWalk, IsFilled}
use Rattle.index_rule.specs.Hands.{IsHandOf, Makes, MakesAll, known, opening_of}
use Rattle.index_rule.specs.Moments.{AddsNoEntry}
use Rattle.index_rule.proofs.BufferStepping.{still_lanes}
use Rattle.index_rule.proofs.Lanes.{walkable_on}
use Rattle.index_rule.proofs.RecordReading.{KeepsLog, no_entry}
use Rattle.index_rule.proofs.RecordStepping.{goes_on_inside, now, since, still_inside, still_stands}
use Rattle.index_rule.proofs.Standing.{stays_inside}
use Rattle.index_rule.proofs.Stepping.{held_word_is, known_is, others_only, still_holds}
use Rattle.index_rule.proofs.Stepping.{still_holds_no_lock, valid_after, valid_known}
use Rattle.sorted_group.specs.Standing.{CanFollow, CanSearch}

-- ---- the loads ----

-- the action loads a word of the group's buffer: of its lanes, or a link or a key of a row
abbrev pub IsBufferLoad : ℕ → Action → Type 0
IsBufferLoad group (LoadHeader g which found) = g ≡ group
IsBufferLoad group (LoadHead g lane next) = g ≡ group
IsBufferLoad group (LoadLink g place next) = g ≡ group
IsBufferLoad group (LoadKey place key) = Unit {0}
IsBufferLoad group _ = ⊥

-- so does each of them
abbrev pub AreBufferLoads : ℕ → List Action → Type 0
AreBufferLoads group [] = Unit {0}
AreBufferLoads group (action ∷ actions) = IsBufferLoad group action × AreBufferLoads group actions

pub no_crossing : (g : ℕ) (d : Action) → IsBufferLoad g d → IsNoCrossing d
no_crossing g (LoadHeader h w n) is = tt
no_crossing g (LoadHead h l n) is = tt
no_crossing g (LoadLink h p n) is = tt
no_crossing g (LoadKey p n) is = tt
no_crossing g d is = absurd is

pub takes_no_lock : (g : ℕ) (d : Action) → IsBufferLoad g d → TakesLock d → ⊥
takes_no_lock g (LoadHeader h w n) is takes = takes
takes_no_lock g (LoadHead h l n) is takes = takes
takes_no_lock g (LoadLink h p n) is takes = takes
takes_no_lock g (LoadKey p n) is takes = takes
takes_no_lock g d is takes = absurd is

keeps_log : (g : ℕ) (d : Action) → IsBufferLoad g d → KeepsLog d
keeps_log g (LoadHeader h w n) is o t log = refl
keeps_log g (LoadHead h l n) is o t log = refl
keeps_log g (LoadLink h p n) is o t log = refl
keeps_log g (LoadKey p n) is o t log = refl
keeps_log g d is o t log = absurd is

keeps_roles : (g : ℕ) (d : Action) → IsBufferLoad g d → KeepsRoles d
keeps_roles g (LoadHeader h w n) is = tt
keeps_roles g (LoadHead h l n) is = tt
keeps_roles g (LoadLink h p n) is = tt
keeps_roles g (LoadKey p n) is = tt
keeps_roles g d is = absurd is

stores_none : (g c : ℕ) (d : Action) → IsBufferLoad g d → store_of c d ≡ None
stores_none g c (LoadHeader h w n) is = refl
stores_none g c (LoadHead h l n) is = refl
stores_none g c (LoadLink h p n) is = refl
stores_none g c (LoadKey p n) is = refl
stores_none g c d is = absurd is

pub load_takes_none : (o : Opening) (g : ℕ) (d : Action) (t : Execution) → IsBufferLoad g d →
    TakesApart o g d t → ⊥
load_takes_none o g d t is takes =
    ⊎_elim
    (λ (z : (k : ℕ) × (place : ℕ) × (next : ℕ) × (d ≡ Retire place next)
    × (role o place t ≡ InBuffer g k)).
    subst (IsBufferLoad g) z.3 is)
    (λ (z : (which : HeaderWord) × (value : ℕ) × (d ≡ StoreHeader g which value)
    × IsLaneWord which).
    subst (IsBufferLoad g) z.2 is) takes

pub load_begins_none : (g : ℕ) (d : Action) → IsBufferLoad g d → Begins g d → ⊥
load_begins_none g d is begins = subst (IsBufferLoad g) begins.3 is

-- ---- a hand that can go on ----

-- a caller that can search can follow links
pub searches_follow : (b : Board) (g : ℕ) (h : Hand) → CanSearch b g h → CanFollow b g h
searches_follow b g h can =
    record {
      of = can.call.of;
      may_walk = inl (can.call.reading, can.stands);
      walkable = can.walkable;
      in_table = can.in_table;
    }

-- and a hand that can follow links can walk
pub can_walk : (b : Board) (g : ℕ) (h : Hand) → CanFollow b g h →
    CanWalk (opening_of b) h.number g (known h)
can_walk b g h can =
    ⊎_elim
    (λ (z : IsReading (opening_of b) h.number (known h) × (stands_in h.number g (known h) ≡ true)).
    inl (z.0, z.1, can.walkable))
    (λ (z : IsGroupKeeper (opening_of b) h.number g). inr z) can.may_walk

-- the caller can go on after a step by which it does not leave and takes no lock
pub search_after : (b : Board) (g : ℕ) (h k : Hand) (d : Action) → IsNoCrossing d →
    (TakesLock d → ⊥) → Makes b h d k → CanSearch b g h → CanSearch b g k
search_after b g h k d none free m can =
    record {
      call = record {
        of = m.of;
        reading = still_inside b h k d can.call.of m none can.call.reading;
        holds_none = still_holds_no_lock b h k d can.call.of m free can.call.holds_none;
      };
      stands = still_stands b h k d can.call.of m none g can.stands;
      walkable = now b h k d can.call.of m (λ z t. IsWalkable (opening_of b) g t)
          (walkable_while (opening_of b) h.number g can.call.reading.caller
          (since b h k d can.call.of m) (known h) (valid_after b h k d can.call.of m)
          (goes_on_inside b h k d can.call.of m none) can.stands can.walkable);
      in_table = can.in_table;
    }

module _ (b : Board) (g : ℕ) (h k : Hand) (d : Action) (is : IsBufferLoad g d)
    (m : Makes b h d k) where
  pub search_on : CanSearch b g h → CanSearch b g k
  search_on can = search_after b g h k d (no_crossing g d is) (takes_no_lock g d is) m can

  pub log_on : (first : Hand) → IsHandOf b h → AddsNoEntry first h → AddsNoEntry first k
  log_on first of none = no_entry b h k d of m (keeps_log g d is) ∙ none

  module _ (can : CanFollow b g h) where
    pub still_walkable : IsWalkable (opening_of b) g (known k)
    still_walkable =
        let o = opening_of b in
        let c : ℕ = h.number in
        let n : Execution = m.acts.0 in
        let valid = valid_after b h k d can.of m in
        now b h k d can.of m (λ z t. IsWalkable o g t)
        (walkable_until o g (event c d ∷ []) (n ++ known h) valid
        ((λ takes. load_takes_none o g d (n ++ known h) is takes), tt)
        (walkable_on o c g n (known h) valid.1 (others_only b h k d can.of m) (can_walk b g h can)
        can.walkable))

    -- the hand can go on
    pub follow_on : CanFollow b g k
    follow_on =
        let o = opening_of b in
        let none = no_crossing g d is in
        record {
          of = m.of;
          may_walk = ⊎_elim
              (λ (z : IsReading o h.number (known h) × (stands_in h.number g (known h) ≡ true)).
              inl (still_inside b h k d can.of m none z.0, still_stands b h k d can.of m none g z.1))
              (λ (z : IsGroupKeeper o h.number g). inr (m.number ∙ z)) can.may_walk;
          walkable = still_walkable;
          in_table = can.in_table;
        }

    -- with the lanes that the buffer had
    pub lanes_still : HasSameLanes (opening_of b) g (known h) (known k)
    lanes_still =
        still_lanes b h k d can.of m g (load_begins_none g d is) (can_walk b g h can)

-- ---- what a caller carries on ----

stays_joined : (c : ℕ) (n t : Execution) → StaysInside c n → StaysInside c t →
    StaysInside c (n ++ t)
stays_joined c [] t first second = second
stays_joined c (e ∷ n) t first second = (first.0, stays_joined c n t first.1 second)

-- the hand stays one of the board, and stays inside
pub record GoesOnInside (b : Board) (h k : Hand) : Type 0 where
  pub of : IsHandOf b k
  pub number : k.number ≡ h.number
  pub newer : Execution
  pub on : newer ++ known h ≡ known k
  pub stays : StaysInside h.number newer
  pub valid : Valid (opening_of b) (known k)

-- the hand still has the row, with the words that it had
pub record HasRowAsBefore (b : Board) (p : ℕ) (h k : Hand) : Type 0 where
  pub held : Holds (opening_of b) k.number p (known k)
  pub words : (part : Part) → word (opening_of b) (known k) (PlaceWord p part)
      ≡ word (opening_of b) (known h) (PlaceWord p part)

inside_step : (b : Board) (g : ℕ) (h m k : Hand) (d : Action) → IsBufferLoad g d →
    Makes b m d k → GoesOnInside b h m → GoesOnInside b h k
inside_step b g h m k d is q on =
    record {
      of = q.of;
      number = q.number ∙ on.number;
      newer = event m.number d ∷ q.acts.0 ++ on.newer;
      on = ap (λ (t : Execution). event m.number d ∷ t) (append_assoc q.acts.0 on.newer (known h))
          ∙ (ap (λ (t : Execution). event m.number d ∷ q.acts.0 ++ t) on.on
          ∙ sym (known_is b m k d on.of q));
      stays = (
        (λ _. no_crossing g d is),
        stays_joined h.number q.acts.0 on.newer
            (stays_inside h.number q.acts.0
            (subst (λ (c : ℕ). Without c q.acts.0) on.number (others_only b m k d on.of q)))
            on.stays,
      );
      valid = valid_known b m k d on.of q;
    }

of_all : (b : Board) (h k : Hand) → IsHandOf b h → (ds : List Action) → MakesAll b h ds k →
    IsHandOf b k
of_all b h k of [] makes = subst (IsHandOf b) (sym makes) of
of_all b h k of (d ∷ ds) makes = makes.2.of

-- over loads of a buffer the read section goes on
pub loads_inside : (b : Board) (g : ℕ) (h k : Hand) → IsHandOf b h →
    Valid (opening_of b) (known h) → (ds : List Action) → AreBufferLoads g ds →
    MakesAll b h ds k → GoesOnInside b h k
loads_inside b g h k of valid [] are makes =
    subst (λ (z : Hand). GoesOnInside b h z) (sym makes)
    (record { of = of; number = refl; newer = []; on = refl; stays = tt; valid = valid })
loads_inside b g h k of valid (d ∷ ds) are makes =
    inside_step b g h makes.0 k d are.0 makes.2
    (loads_inside b g h makes.0 of valid ds are.1 makes.1)

pub row_on : (b : Board) (p : ℕ) (h m k : Hand) (d : Action) → KeepsRoles d →
    ((c : ℕ) → store_of c d ≡ None) → IsHandOf b m → Makes b m d k → HasRowAsBefore b p h m →
    HasRowAsBefore b p h k
row_on b p h m k d keeps none of q has =
    record {
      held = still_holds b m k d of q keeps p has.held;
      words = λ part. held_word_is b m k d of q p part has.held
          ∙ (ap (λ (s : Option Store). stored s (PlaceWord p part)
          (word (opening_of b) (known m) (PlaceWord p part))) (none m.number)
          ∙ has.words part);
    }

-- and a row of one's own stays as it is
pub loads_keep_row : (b : Board) (g p : ℕ) (h k : Hand) → IsHandOf b h →
    Holds (opening_of b) h.number p (known h) → (ds : List Action) → AreBufferLoads g ds →
    MakesAll b h ds k → HasRowAsBefore b p h k
loads_keep_row b g p h k of held [] are makes =
    subst (λ (z : Hand). HasRowAsBefore b p h z) (sym makes)
    (record { held = held; words = λ part. refl })
loads_keep_row b g p h k of held (d ∷ ds) are makes =
    row_on b p h makes.0 k d (keeps_roles g d are.0) (λ c. stores_none g c d are.0)
    (of_all b h makes.0 of ds makes.1) makes.2
    (loads_keep_row b g p h makes.0 of held ds are.1 makes.1)

-- so it stays filled
pub still_filled : (b : Board) (p next : ℕ) (h k : Hand) → HasRowAsBefore b p h k →
    IsFilled (opening_of b) h.number p next (known h) →
    IsFilled (opening_of b) k.number p next (known k)
still_filled b p next h k has filled =
    record {
      held = has.held;
      new_word = has.words State ∙ (filled.new_word
          ∙ ap (λ (x : ℕ). state_word (Unlocked (first_version (opening_of b)) false x))
          (sym (has.words Value)));
      link_word = has.words Link ∙ filled.link_word;
    }
