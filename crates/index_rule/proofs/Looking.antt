-- A step that writes a look keeps the rule, and makes no event.
use Rattle.std.proofs.Common.{◌≡◌, ℕ, ◌≤◌, Option, Some, length}
use Rattle.std.proofs.Common.{arith, refl, sym, ap, ◌∙◌, subst}
use Rattle.std.proofs.lemmas.Grind.{merely}
use Rattle.std.proofs.Math.Logic.{∥∥₁_elim}
use Rattle.std.proofs.Props.{props}
use Rattle.atomic_table.specs.Table.{Me, keeps, Allows}
use Rattle.map_model.specs.Map.{IsRising}
use Rattle.map_model.specs.History.{History}
use Rattle.map_model.specs.declared.entries.Entry.TheVariants.{Look}
use Rattle.map_model.specs.Answer.{pair_at}
use Rattle.map_model.specs.Logs.{IsLogOf, StandsIn, least_place}
use Rattle.map_model.proofs.Logging.{end_in_history, looks_end, look-stands}
use Rattle.index_machine.specs.declared.opening.Opening.{Opening}
use Rattle.index_machine.specs.Execution.{Execution, Continues}
use Rattle.index_machine.specs.Openings.{opening_map}
use Rattle.index_machine.specs.LivePlaces.{history, value_in_map}
use Rattle.index_rule.specs.declared.board.Board.{Board}
use Rattle.index_rule.specs.declared.hand.Hand.{Hand}
use Rattle.index_rule.specs.declared.view.View.{View}
use Rattle.index_rule.specs.Rule.{Follows, HasLog, Kept, Knows, number}
use Rattle.index_rule.specs.Rule.{first_of}
use Rattle.index_rule.specs.Hands.{IsHandOf, known, opening_of, view}
use Rattle.index_rule.specs.Moments.{IsBetween, IsWithin}
use Rattle.index_rule.specs.Looks.{MayWriteLook, TellsLook, with_look}
use Rattle.index_rule.proofs.Moments.{history_on, moments_within}
use Rattle.index_rule.proofs.Steps.{follows_of, is_some, kept_with, one_opening}

-- ---- logs ----

-- the map at the opening has rising keys
opening-rising : (o : Opening) → IsRising (opening_map o)
opening-rising o = o.rising

-- a look that is written goes to the end of the log
look_more : (o : Opening) (c : ℕ) (v : View) (moment : Execution) (key : ℕ) (found : Option ℕ) →
    Continues moment v.known → value_in_map o key moment ≡ found →
    least_place v.log ≤ length (history moment) →
    IsLogOf (opening_map o) c (history v.known) v.log →
    IsLogOf (opening_map o) c (history v.known) (with_look v moment key found).log
look_more o c v moment key found goes value least old =
    let more = history_on goes.0 moment in
    looks_end (opening_map o) c (history v.known) v.log (length (history moment)) key key _ old least
    (subst
    (λ (z : History). StandsIn (opening_map o) z
    (Look (length (history moment)) key key (pair_at key found)))
    (more.1 ∙ ap history goes.1)
    (look-stands (opening_map o) more.0 (history moment) key found (opening-rising o) value))

-- ---- the step ----

-- the seat may write a look
notes : (o : Opening) (slots id : ℕ) (me : Me (Unit {0}) View) (a : ℕ) (start : View) (key : ℕ)
    (found : Option ℕ) (moment : Execution) → me.0.opening ≡ Some o →
    IsBetween (number me.0) start.known me.0.known moment → value_in_map o key moment ≡ found →
    least_place me.0.log ≤ length (history moment) →
    Allows (Kept o) slots id me a (λ n. n) (λ n x. TellsLook start key found me x)
notes o slots id me a start key found moment live within value least s r _ at _ =
    let v : View = me.0 in
    let k = r.known id v at (is_some v.opening o live) in
    let w : View = with_look v moment key found in
    let has : HasLog o w =
    λ c one. look_more o c v moment key found within.5 value least (k.logged c one)
    in
    let knows : Knows o r.execution w =
    record {
      opening = k.opening;
      goes_on = k.goes_on;
      heard = k.heard;
      own_heard = k.own_heard;
      once = k.once;
      hands = k.hands;
      logged = has;
      heard_logged = k.heard_logged;
    }
    in (
      w,
      keeps,
      tt,
      kept_with o s id a v w r at (λ _ h. h) knows,
      record {
        moment = moment;
        within = within;
        value = λ p of. subst (λ (z : Opening). value_in_map z key moment ≡ found)
            (one_opening o p (sym live ∙ of)) value;
        is = refl;
        bare = refl;
        following = λ p of. merely (subst (λ (z : Opening). Follows z w)
            (one_opening o p (sym live ∙ of)) (follows_of o r.execution w r.valid knows));
      },
    )

-- ---- the call ----

-- the least place of the next entry lies before any moment of the call
least_now : (b : Board) (start h : Hand) (key : ℕ) (found : Option ℕ) (may : MayWriteLook b start h key found) →
    least_place (view h).log ≤ length (history may.moment)
least_now b start h key found may =
    ∥∥₁_elim (start.following (opening_of b) may.so_far.began.opened) (hlevel props)
    (λ (follows : Follows (opening_of b) (view start)).
    let own = follows.logged start.number start.mine in
    let least = end_in_history (opening_map (opening_of b)) start.number (history (known start))
    (view start).log own in
    let grows = (moments_within start.number (known start) (known h) may.moment may.within).0 in
    let same : least_place (view h).log ≡ least_place (view start).log =
    ap least_place may.so_far.no_entry in
    omega arith)

pub writes_look : (b : Board) (start h : Hand) (key : ℕ) (found : Option ℕ) (slots a : ℕ) →
    IsHandOf b h → MayWriteLook b start h key found →
    Allows (Kept (opening_of b)) slots h.seat.id h.seat.me a (λ n. n)
    (λ n x. TellsLook (view start) key found h.seat.me x)
writes_look b start h key found slots a of may =
    notes (opening_of b) slots h.seat.id h.seat.me a (view start) key found may.moment of.opened
    (subst (λ (z : ℕ). IsBetween z (known start) (known h) may.moment)
    (sym may.so_far.number ∙ sym (ap first_of h.mine)) may.within) may.value (least_now b start h key found may)

-- what the load told is what the call says
pub look_written : (b : Board) (start h : Hand) (x : Me (Unit {0}) View) (key : ℕ) (found : Option ℕ) →
    IsHandOf b h → MayWriteLook b start h key found → TellsLook (view start) key found h.seat.me x →
    (moment : Execution) × IsWithin start h moment
    × (value_in_map (opening_of b) key moment ≡ found)
    × (x.0 ≡ with_look (view h) moment key found)
look_written b start h x key found of may told = (
  told.moment,
  subst (λ (z : ℕ). IsBetween z (known start) (known h) told.moment)
      (ap first_of h.mine ∙ may.so_far.number) told.within,
  told.value (opening_of b) of.opened,
  told.is,
)
