-- What a hand knows within a call, after each of its steps.
use Rattle.std.proofs.Common.{◌≡◌, ℕ, Option, Some, None, [], ◌∷◌, ◌++◌, refl, sym, ap, ◌∙◌, subst}
use Rattle.std.proofs.Common.{List, true}
use Rattle.map_model.specs.declared.entries.Change.{Change}
use Rattle.map_model.specs.declared.entries.Entry.TheVariants.{Look, Made}
use Rattle.map_model.specs.Answer.{pair_at}
use Rattle.map_model.specs.Logs.{Log}
use Rattle.std.specs.Prelude.{length}
use Rattle.index_machine.specs.declared.events.Action.{Action}
use Rattle.index_machine.specs.declared.events.Action.TheVariants.{Enter, Leave, LoadHead, LoadKey}
use Rattle.index_machine.specs.declared.events.Action.TheVariants.{LoadHeader, LoadLink}
use Rattle.word_layout.specs.declared.headers.HeaderWord.TheVariants.{Cut}
use Rattle.sorted_group.specs.Loads.{AreLaneLoads, IsCutLoad, LoadsLanes}
use Rattle.index_machine.specs.Conditions.{Valid}
use Rattle.index_machine.specs.Execution.{Continues, Execution, event}
use Rattle.index_machine.specs.LivePlaces.{history}
use Rattle.index_machine.specs.RecordConditions.{HoldsNoLock}
use Rattle.index_machine.specs.Rows.{Holds, HoldsNone}
use Rattle.index_machine.specs.Sections.{IsNoCrossing, IsReading, crossings, crossings_after}
use Rattle.index_machine.proofs.Executions.{continues_trans, valid_before}
use Rattle.index_machine.proofs.Holders.{TakesLock}
use Rattle.index_machine.proofs.Placing.{KeepsRoles}
use Rattle.index_rule.specs.declared.board.Board.{Board}
use Rattle.index_rule.specs.declared.hand.Hand.{Hand}
use Rattle.index_rule.specs.declared.rows.PrivateRow.{PrivateRow}
use Rattle.index_rule.specs.declared.view.View.{View}
use Rattle.index_rule.specs.Hands.{IsHandOf, Makes, MakesAll, known, opening_of, view}
use Rattle.index_rule.specs.Looks.{AddsLook}
use Rattle.index_rule.specs.Moments.{AddsChange, AddsNoEntry, IsBetween, IsWithin}
use Rattle.index_rule.specs.OwnRows.{place_of_private}
use Rattle.index_rule.specs.Rule.{Follows}
use Rattle.index_rule.proofs.Calls.{HasBegun, begins, begun_on, goes_on, within_end}
use Rattle.index_rule.proofs.RecordReading.{KeepsLog, no_entry}
use Rattle.index_rule.proofs.RecordStepping.{still_inside}
use Rattle.index_rule.proofs.Stepping.{crossings_is, still_holds}
use Rattle.index_rule.proofs.Stepping.{still_holds_no_lock}
use Rattle.index_rule.proofs.Stepping.{still_holds_none}
use Rattle.delta_buffer.specs.Walks.{AreWalkOf, IsWalkOf, MakesIn}
use Rattle.delta_buffer.proofs.CallSteps.{made_in_call}
use Rattle.index_rule.specs.Calls.{CanCall}
use Rattle.point_calls.specs.PointCalls.{HasSpare, IsCallSoFar, IsOneSection, KeepsRows, LooksUp}

-- ---- one step ----

-- a step that takes no row and gives none leaves the spare one
pub spare_on : (b : Board) (h k : Hand) (d : Action) → IsHandOf b h → Makes b h d k →
    KeepsRoles d → (spare : Option PrivateRow) → HasSpare b h spare → HasSpare b k spare
spare_on b h k d of m keeps (Some row) held = still_holds b h k d of m keeps (place_of_private row) held
spare_on b h k d of m keeps None none = still_holds_none b h k d of m keeps none

-- the hand can go on with its call
pub call_on : (b : Board) (h k : Hand) (d : Action) → IsNoCrossing d → (TakesLock d → ⊥) →
    Makes b h d k → CanCall b h → CanCall b k
call_on b h k d none free m can =
    record {
      of = m.of;
      reading = still_inside b h k d can.of m none can.reading;
      holds_none = still_holds_no_lock b h k d can.of m free can.holds_none;
    }

-- a step that is no entry and no exit leaves the count of crossings
same_count : (d : Action) (count : ℕ) → IsNoCrossing d → crossings_after true d count ≡ count
same_count (Enter n) count none = absurd none
same_count (Leave n) count none = absurd none
same_count d count none = refl

-- so the call stays within its read section
pub section_on : (b : Board) (start h k : Hand) (d : Action) → IsNoCrossing d → IsHandOf b h →
    Makes b h d k → IsOneSection start h → IsOneSection start k
section_on b start h k d none of m same =
    crossings_is b h k d of m ∙ (same_count d (crossings h.number (known h)) none ∙ same)

-- ---- several steps ----

-- what a hand knows within a call that it began so
pub record IsIn (b : Board) (start h : Hand) : Type 0 where
  pub of : IsHandOf b h
  pub number : h.number ≡ start.number
  pub begun : HasBegun start (known h)
  pub follows : Follows (opening_of b) (view h)
  pub since : Continues (known start) (known h)
  pub rows : KeepsRows b start h
  pub section : IsOneSection start h

-- behind its first step
pub in_first : (b : Board) (h k : Hand) (d : Action) → IsNoCrossing d → KeepsRoles d →
    IsHandOf b h → Makes b h d k → IsIn b h k
in_first b h k d none keeps of m =
    record {
      of = m.of;
      number = m.number;
      begun = begins b h k d of m;
      follows = m.acts.3 (opening_of b) of.opened;
      since = goes_on b h k d of m;
      rows = λ spare has. spare_on b h k d of m keeps spare has;
      section = section_on b h h k d none of m refl;
    }

-- and behind each further one
pub in_step : (b : Board) (start h k : Hand) (d : Action) → IsNoCrossing d → KeepsRoles d →
    Makes b h d k → IsIn b start h → IsIn b start k
in_step b start h k d none keeps m i =
    record {
      of = m.of;
      number = m.number ∙ i.number;
      begun = begun_on start (known h) (known k) i.begun (goes_on b h k d i.of m);
      follows = m.acts.3 (opening_of b) i.of.opened;
      since = continues_trans (known start) (known h) (known k) i.since (goes_on b h k d i.of m);
      rows = λ spare has. spare_on b h k d i.of m keeps spare (i.rows spare has);
      section = section_on b start h k d none i.of m i.section;
    }

walk_keeps : (g l : ℕ) (d : Action) → IsWalkOf g l d → KeepsRoles d
walk_keeps g l (LoadHead h j n) is = tt
walk_keeps g l (LoadLink h p n) is = tt
walk_keeps g l (LoadKey p n) is = tt
walk_keeps g l d is = absurd is

walk_inside : (g l : ℕ) (d : Action) → IsWalkOf g l d → IsNoCrossing d
walk_inside g l (LoadHead h j n) is = tt
walk_inside g l (LoadLink h p n) is = tt
walk_inside g l (LoadKey p n) is = tt
walk_inside g l d is = absurd is

-- behind a walk
pub in_walk : (b : Board) (g l : ℕ) (start h : Hand) (actions : List Action) (k : Hand) →
    AreWalkOf g l actions → MakesAll b h actions k → IsIn b start h → IsIn b start k
in_walk b g l start h [] k are all i = subst (IsIn b start) (sym all) i
in_walk b g l start h (d ∷ actions) k are all i =
    in_step b start all.0 k d (walk_inside g l d are.0) (walk_keeps g l d are.0) all.2
    (in_walk b g l start h actions all.0 are.1 all.1 i)

-- none of the actions enters or leaves, takes a row or gives one
abbrev pub AreKept : List Action → Type 0
AreKept [] = Unit {0}
AreKept (d ∷ actions) = IsNoCrossing d × KeepsRoles d × AreKept actions

-- behind several steps
pub in_all : (b : Board) (start h : Hand) (actions : List Action) (k : Hand) → AreKept actions →
    MakesAll b h actions k → IsIn b start h → IsIn b start k
in_all b start h [] k kept all i = subst (IsIn b start) (sym all) i
in_all b start h (d ∷ actions) k kept all i =
    in_step b start all.0 k d kept.0 kept.1 all.2 (in_all b start h actions all.0 kept.2 all.1 i)

-- the choice of a lane is made by loads that keep all of it
kept_cut : (g : ℕ) (d : Action) → IsCutLoad g d → IsNoCrossing d × KeepsRoles d
kept_cut g (LoadHeader h (Cut lane) n) is = (tt, tt)
kept_cut g d is = absurd is

kept_lanes : (g : ℕ) (actions : List Action) → AreLaneLoads g actions → AreKept actions
kept_lanes g [] are = absurd are
kept_lanes g (d ∷ []) are =
    subst (λ (z : Action). AreKept (z ∷ [])) (sym are.1) (tt, tt, tt)
kept_lanes g (d ∷ (next ∷ actions)) are =
    let one = kept_cut g d are.0 in (one.0, one.1, kept_lanes g (next ∷ actions) are.1)

pub in_lanes : (b : Board) (g most : ℕ) (start h k : Hand) → LoadsLanes b g most h k →
    IsIn b start h → IsIn b start k
in_lanes b g most start h k loads i =
    in_all b start h loads.0 k (kept_lanes g loads.0 loads.1) loads.3 i

-- ---- the call so far ----

-- it is in its call, where it added no entry
pub call_is : (b : Board) (start h : Hand) → IsHandOf b start → IsIn b start h →
    AddsNoEntry start h → IsCallSoFar b start h
call_is b start h of i none =
    record {
      so_far = record {
        began = of;
        number = i.number;
        within = within_end start h i.begun;
        no_entry = none;
      };
      section = i.section;
      follows = i.follows;
    }

-- the call goes on from where it began
pub call_since : (b : Board) (start h : Hand) → IsCallSoFar b start h →
    Continues (known start) (known h)
call_since b start h call =
    let w = call.so_far.within in
    continues_trans (known start) (w.1 ++ known start) (known h) (w.1, refl) w.4

-- where it took no row and gave none it is in its call
pub in_call : (b : Board) (start h : Hand) → IsHandOf b h → IsCallSoFar b start h →
    KeepsRows b start h → IsIn b start h
in_call b start h of call rows =
    let w = call.so_far.within in
    record {
      of = of;
      number = call.so_far.number;
      begun = (w.0, w.1, w.2, w.3);
      follows = call.follows;
      since = call_since b start h call;
      rows = rows;
      section = call.section;
    }

-- behind a further step that adds no entry
pub call_step : (b : Board) (start h k : Hand) (d : Action) → IsNoCrossing d → KeepsLog d →
    IsHandOf b h → Makes b h d k → IsCallSoFar b start h → IsCallSoFar b start k
call_step b start h k d none keeps of m call =
    let w = call.so_far.within in
    record {
      so_far = record {
        began = call.so_far.began;
        number = m.number ∙ call.so_far.number;
        within = within_end start k
            (begun_on start (known h) (known k) (w.0, w.1, w.2, w.3) (goes_on b h k d of m));
        no_entry = no_entry b h k d of m keeps ∙ call.so_far.no_entry;
      };
      section = section_on b start h k d none of m call.section;
      follows = m.acts.3 (opening_of b) of.opened;
    }

-- a step that was made after the call began is one of the call
pub made_in : (b : Board) (start h k : Hand) (d : Action) → IsIn b start h → Makes b h d k →
    MakesIn start d k
made_in b start h k d i m = made_in_call b start h k d i.since i.number i.of m

-- ---- moments ----

-- a moment of the call stays one as the call goes on
pub within_on : (start h k : Hand) (moment : Execution) → IsWithin start h moment →
    Continues (known h) (known k) → IsWithin start k moment
within_on start h k moment w on = (
  w.0,
  w.1,
  w.2,
  continues_trans (event start.number w.0 ∷ w.1 ++ known start) (known h) (known k) w.3 on,
  w.4,
  continues_trans moment (known h) (known k) w.5 on,
)

-- a moment of a later part of the call is one of the call, where the hand had begun it
pub within_begun : (start h k : Hand) (moment : Execution) → HasBegun start (known h) →
    IsWithin h k moment → IsWithin start k moment
within_begun start h k moment had w =
    let here : Continues (known h) moment =
    continues_trans (known h) (w.1 ++ known h) moment (w.1, refl) w.4 in
    let begun : HasBegun start moment = begun_on start (known h) moment had here in (
      begun.0,
      begun.1,
      begun.2,
      continues_trans (event start.number begun.0 ∷ begun.1 ++ known start) moment (known k)
          begun.3 w.5,
      continues_trans (begun.1 ++ known start)
          (event start.number begun.0 ∷ begun.1 ++ known start) moment
          (event start.number begun.0 ∷ [], refl) begun.3,
      w.5,
    )

pub within_whole : (b : Board) (start h k : Hand) (moment : Execution) → IsIn b start h →
    IsWithin h k moment → IsWithin start k moment
within_whole b start h k moment i w = within_begun start h k moment i.begun w

-- a change that a later part of the call added is one that the call added
pub adds_whole : (b : Board) (start h k : Hand) (change same : Change) (old : Option ℕ) →
    IsIn b start h → AddsNoEntry start h → change ≡ same → AddsChange b h change old k →
    AddsChange b start same old k
adds_whole b start h k change same old i none is adds =
    let moment : Execution = adds.0 in
    subst (λ (z : Change). AddsChange b start z old k) is (
      moment,
      within_whole b start h k moment i adds.1,
      adds.2,
      adds.3 ∙ ap (λ (l : Log). Made (length (history moment)) change old ∷ l) none,
    )

-- what is valid at the end is so at a moment
pub valid_at : (b : Board) (moment t : Execution) → Continues moment t → Valid (opening_of b) t →
    Valid (opening_of b) moment
valid_at b moment t on valid =
    valid_before (opening_of b) on.0 moment (subst (Valid (opening_of b)) (sym on.1) valid)

-- ---- the look that ends a call ----

module _ (b : Board) (start h k : Hand) (key : ℕ) (found : Option ℕ)
    (written : AddsLook b start h key found k) (number : k.number ≡ h.number) where
  known_same : known k ≡ known h
  known_same = ap (λ (v : View). v.known) written.3

  stays : (P : ℕ → Execution → Type 0) → P h.number (known h) → P k.number (known k)
  stays P p =
      subst (λ (z : ℕ × Execution). P z.0 z.1) (λ i. (sym number i, sym known_same i)) p

  pub call_with_look : IsHandOf b k → CanCall b h → CanCall b k
  call_with_look of can =
      record {
        of = of;
        reading = stays (IsReading (opening_of b)) can.reading;
        holds_none = stays (HoldsNoLock (opening_of b)) can.holds_none;
      }

  pub section_with_look : IsOneSection start h → IsOneSection start k
  section_with_look same =
      stays (λ z t. crossings z t ≡ crossings start.number (known start)) same

  pub spare_with_look : (spare : Option PrivateRow) → HasSpare b h spare → HasSpare b k spare
  spare_with_look (Some row) held =
      stays (λ z t. Holds (opening_of b) z (place_of_private row) t) held
  spare_with_look None none = stays (HoldsNone (opening_of b)) none

  pub looked_up : AddsNoEntry start h → LooksUp b key start found k
  looked_up none = (
    written.0,
    subst (λ (t : Execution). IsBetween start.number (known start) t written.0) (sym known_same)
        written.1,
    written.2,
    ap (λ (v : View). v.log) written.3
        ∙ ap (λ (l : Log). Look (length (history written.0)) key key (pair_at key found) ∷ l) none,
  )
