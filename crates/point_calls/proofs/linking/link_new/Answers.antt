use Rattle.std.proofs.Common.{◌≡◌, ℕ, ◌<◌, ◌^◌, None, inl, inr, ⊎_elim, Option, refl, rules, sym, ap}
use Rattle.std.proofs.Common.{◌∙◌, subst, arith}
use Rattle.map_model.specs.declared.entries.Change.TheVariants.{Put}
use Rattle.index_machine.specs.declared.events.Action.TheVariants.{FailLink, LinkRow}
use Rattle.index_machine.specs.Rows.{Holds, InBuffer, role, role_key}
use Rattle.index_machine.specs.Lanes.{HasLane}
use Rattle.index_machine.specs.Words.{link_behind}
use Rattle.machine_buffers.proofs.BegunLanes.{cuts_rise}
use Rattle.index_rule.specs.declared.rows.PrivateRow.{PrivateRow}
use Rattle.tried_calls.specs.declared.tried.Tried.{Tried}
use Rattle.tried_calls.specs.declared.tried.Tried.TheVariants as tried
use Rattle.tried_calls.specs.declared.tried.Why.TheVariants as why
use Rattle.index_rule.specs.declared.board.Board.{Board}
use Rattle.index_rule.specs.declared.hand.Hand.{Hand}
use Rattle.index_rule.specs.Hands.{known, opening_of}
use Rattle.index_rule.specs.OwnRows.{place_of_private}
use Rattle.delta_buffer.specs.Walks.{load_of_link}
use Rattle.index_rule.proofs.RecordSteps.{place_below}
use Rattle.index_rule.proofs.Standing.{keyed_place}
use Rattle.delta_buffer.specs.Inserting.{CanInsert, change_of}
use Rattle.point_calls.specs.PointCalls.{HasSpare}
use Rattle.point_calls.specs.Putting.{GetsNoRow, LeavesNone, PutTells}
use Rattle.point_calls.proofs.LeftWords.{made_behind}
use Rattle.point_calls.proofs.NewRows.{adds_there, can_insert, holds_none_linked, may_before}
use Rattle.point_calls.proofs.NewRows.{may_filled, section_behind}
use Rattle.point_calls.proofs.ChainWay.{same_none}
use Rattle.point_calls.proofs.CallExchanges.{fill_makes_none, head_makes_two, insert_makes_one}
use Rattle.point_calls.proofs.CallExchanges.{row_makes_two}
use Rattle.point_calls.proofs.linking.link_new.Goals as goal

-- a call that got no row has none
leaves_none : (b : Board) (key : ℕ) (start : Hand) (spare : Option PrivateRow) (answer : Tried (Option ℕ)) (k : Hand)
    (new : Option PrivateRow) → GetsNoRow b key start spare answer k → new ≡ None → LeavesNone spare answer new
leaves_none b key start spare tried.Full k new gets gone = λ was. gone
leaves_none b key start spare (tried.Again (why.Raced address expected found)) k new gets gone = tt
leaves_none b key start spare answer k new gets gone = absurd gets

pub returns-in-Err-clause-exchanges : goal.returns-in-Err-clause-exchanges
returns-in-Err-clause-exchanges c =
    let h = c.args.hand.now in
    head_makes_two h h c.own_row.new.hand (same_none h h refl) c.own_row.ensures.exchanges

pub returns-in-Err-clause-none : goal.returns-in-Err-clause-none
returns-in-Err-clause-none c =
    leaves_none c.args.board.now c.args.gap.key c.args.start.now.value c.args.spare.now c.in-Err.refusal
    c.own_row.new.hand c.own_row.new.spare c.in-Err.ensures.answer c.own_row.ensures.gone

pub insert-requires-clause-search : goal.insert-requires-clause-search
insert-requires-clause-search c =
    (may_filled c.args.board.now c.args.start.now.value c.own_row.new.hand c.fill.new.hand c.args.gap
    (place_of_private c.in-Ok.row) c.args.value c.in-Ok.ensures.answer c.fill.ensures.filled
    c.own_row.ensures.may).search

pub insert-requires-clause-may : goal.insert-requires-clause-may
insert-requires-clause-may c =
    let b = c.args.board.now in
    let h = c.args.start.now.value in
    let k = c.fill.new.hand in
    let gap = c.args.gap in
    let place : ℕ = place_of_private c.in-Ok.row in
    let filled = c.fill.ensures.filled in
    let may = may_filled b h c.own_row.new.hand k gap place c.args.value c.in-Ok.ensures.answer filled
    c.own_row.ensures.may in
    subst
    (λ (z : PrivateRow).
    CanInsert (opening_of b) k.number gap.lane.group gap.lane.number (place_of_private z) gap.before gap.next (known k))
    (sym c.fill.ensures.row)
    (can_insert b h k gap place may filled.held filled.key_word filled.state_word)

pub link_address-link-requires-clause-lane : goal.link_address-link-requires-clause-lane
link_address-link-requires-clause-lane c =
    let b = c.args.board.now in
    let k = c.fill.new.hand in
    let gap = c.args.gap in
    let may = may_filled b c.args.start.now.value c.own_row.new.hand k gap
    (place_of_private c.in-Ok.row) c.args.value c.in-Ok.ensures.answer c.fill.ensures.filled
    c.own_row.ensures.may in
    let is = may.between.0.is_lane in
    let few = (cuts_rise (opening_of b) (known k) may.call.follows.valid gap.lane.group).few in
    omega arith

pub link_address-link-requires-clause-place : goal.link_address-link-requires-clause-place
link_address-link-requires-clause-place c =
    let b = c.args.board.now in
    let k = c.fill.new.hand in
    let gap = c.args.gap in
    let may = may_filled b c.args.start.now.value c.own_row.new.hand k gap
    (place_of_private c.in-Ok.row) c.args.value c.in-Ok.ensures.answer c.fill.ensures.filled
    c.own_row.ensures.may in
    ⊎_elim (λ (z : gap.before ≡ 0). below_some gap.before z)
    (λ (z : (j : ℕ) × (role (opening_of b) gap.before (known k) ≡ InBuffer gap.lane.group j)
    × HasLane (opening_of b) gap.lane.group gap.lane.number j (known k) × (j < gap.key)).
    place_below (opening_of b) gap.before
    (keyed_place (opening_of b) (known k) may.call.follows.valid gap.before (z.0, ap role_key z.1)))
    may.between.1
  where
    below_some : (n : ℕ) → n ≡ 0 → n < 2 ^ 28
    below_some n is = omega arith

pub returns-in-Done : goal.returns-in-Done
returns-in-Done c =
    let b = c.args.board.now in
    let h = c.args.start.now.value in
    let first = c.args.hand.now in
    let r = c.own_row.new.hand in
    let k = c.fill.new.hand in
    let e = c.insert.new.hand in
    let gap = c.args.gap in
    let place : ℕ = place_of_private c.in-Ok.row in
    let row : ℕ = place_of_private c.fill.new.row in
    let filled = c.fill.ensures.filled in
    let may = may_filled b h r k gap place c.args.value c.in-Ok.ensures.answer filled
    c.own_row.ensures.may in
    let is : row ≡ place = ap place_of_private c.fill.ensures.row in
    let held : Holds (opening_of b) k.number row (known k) =
    subst (λ (z : ℕ). Holds (opening_of b) k.number z (known k)) (sym is) filled.held in
    let steps = c.in-Done.ensures.steps in
    let links = LinkRow gap.lane.group gap.lane.number row (change_of b k row) gap.before gap.next in
    let at = may_before b h k gap row links e may held steps in
    record {
      call = c.insert.ensures.search.call;
      number = search rules;
      section = section_behind b h k gap row links e may held steps tt;
      exchanges = row_makes_two first first r k e
          (same_none first first refl)
          c.own_row.ensures.exchanges
          (fill_makes_none b r place gap.key c.args.value k c.own_row.ensures.may.search.call.of filled)
          (insert_makes_one b k gap.lane.group gap.lane.number row gap.before gap.next c.insert.result e c.fill.ensures.hand
          c.insert.ensures.steps);
      spare = subst (λ (z : Option PrivateRow). HasSpare b e z) (sym c.own_row.ensures.gone)
          (holds_none_linked b steps.0 e gap.lane.group gap.lane.number row gap.before gap.next (change_of b k row)
          at.search.call.of at.search.call.reading.caller steps.2);
      tells = adds_there b h k e gap (change_of b k row) (Put h.number gap.key c.args.value) None may
          (ap (change_of b k) is
          ∙ (λ j. Put (may.call.so_far.number j) (filled.key_word j) (filled.value_word j)))
          c.in-Done.ensures.tells.0;
      full = search rules;
      kept = search rules;
      none = search rules;
    }

pub returns-in-Raced : goal.returns-in-Raced
returns-in-Raced c =
    let b = c.args.board.now in
    let h = c.args.start.now.value in
    let first = c.args.hand.now in
    let r = c.own_row.new.hand in
    let k = c.fill.new.hand in
    let e = c.insert.new.hand in
    let gap = c.args.gap in
    let place : ℕ = place_of_private c.in-Ok.row in
    let row : ℕ = place_of_private c.fill.new.row in
    let filled = c.fill.ensures.filled in
    let may = may_filled b h r k gap place c.args.value c.in-Ok.ensures.answer filled
    c.own_row.ensures.may in
    let held : Holds (opening_of b) k.number row (known k) =
    subst (λ (z : PrivateRow). Holds (opening_of b) k.number (place_of_private z) (known k))
    (sym c.fill.ensures.row) filled.held in
    let s = c.in-Raced.ensures.steps in
    let fails = FailLink gap.lane.group gap.lane.number gap.before gap.next c.in-Raced.found in
    let at = may_before b h k gap row fails e may held s.2 in
    record {
      call = c.insert.ensures.search.call;
      number = search rules;
      section = section_behind b h k gap row fails e may held s.2 tt;
      exchanges = row_makes_two first first r k e
          (same_none first first refl)
          c.own_row.ensures.exchanges
          (fill_makes_none b r place gap.key c.args.value k c.own_row.ensures.may.search.call.of filled)
          (insert_makes_one b k gap.lane.group gap.lane.number row gap.before gap.next c.insert.result e c.fill.ensures.hand
          c.insert.ensures.steps);
      spare = search rules;
      tells = subst (λ (z : Tried (Option ℕ)). PutTells b gap.key c.args.value h z e)
          (sym c.raced.ensures) (
            c.in-Raced.ensures.tells.0 ∙ may.call.so_far.no_entry,
            inr (inl (record {
              group = gap.lane.group;
              lane = gap.lane.number;
              before = gap.before;
              is_address = c.link_address-link.ensures;
              steps = made_behind b h s.2.0 e (load_of_link gap.lane.group gap.lane.number gap.before gap.next) fails
                  (link_behind gap.lane.group gap.lane.number gap.before) at.call.so_far.number at.search.call.of at.loaded
                  s.2.2;
              differ = s.1;
              held = (row, c.in-Raced.ensures.tells.1.filled.held);
            })),
          );
      full = search rules;
      kept = search rules;
      none = subst (λ (z : Tried (Option ℕ)). LeavesNone c.args.spare.now z c.keep.new.spare) (sym c.raced.ensures) tt;
    }
