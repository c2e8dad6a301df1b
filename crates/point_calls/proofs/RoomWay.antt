-- How a put comes to where its key can come in.
use Rattle.std.proofs.Common.{◌≡◌, ℕ, ◌==◌, ◌&&◌, eq-eqb, inl, Bool, true, false, cond, None, [], ◌++◌}
use Rattle.std.proofs.Common.{refl, sym, ap, ◌∙◌, subst}
use Rattle.map_model.specs.Map.{look}
use Rattle.word_layout.specs.declared.phase.Phase.{Phase}
use Rattle.word_layout.specs.declared.phase.Phase.TheVariants.{Frozen, Open, Opened}
use Rattle.word_layout.specs.declared.places.Part.TheVariants.{State}
use Rattle.word_layout.specs.Phase.{word_of_phase}
use Rattle.word_layout.specs.Words.{PlaceWord}
use Rattle.index_machine.specs.declared.events.Action.TheVariants.{LoadPhase, LoadState}
use Rattle.index_machine.specs.Execution.{Execution}
use Rattle.index_machine.specs.Groups.{phase}
use Rattle.index_machine.specs.Permissions.{IsBufferFor, IsUnopened}
use Rattle.index_machine.specs.Reaching.{reached, saw_open, saw_open_after}
use Rattle.index_machine.specs.Rows.{InBuffer, role}
use Rattle.index_machine.specs.Words.{link_behind}
use Rattle.index_machine.specs.Conditions.{Valid}
use Rattle.index_machine.proofs.Executions.{own_step}
use Rattle.machine_chain.proofs.Walking.{while_unopened}
use Rattle.machine_readers.proofs.FromOpening.{reached_stay}
use Rattle.machine_readers.proofs.Reached.{reached_on}
use Rattle.machine_readers.specs.Buffers.{rows}
use Rattle.index_rule.specs.declared.board.Board.{Board}
use Rattle.index_rule.specs.declared.hand.Hand.{Hand}
use Rattle.index_rule.specs.Hands.{Makes, known, opening_of}
use Rattle.index_rule.specs.Moments.{IsWithin}
use Rattle.index_rule.proofs.BufferStepping.{phase_found}
use Rattle.index_rule.proofs.RecordStepping.{now}
use Rattle.delta_buffer.specs.Walks.{MakesIn, load_of_link}
use Rattle.tried_calls.specs.declared.tried.Tried.TheVariants as tried
use Rattle.point_calls.specs.declared.found.FoundRow.{FoundRow}
use Rattle.point_calls.specs.declared.found.Gap.{Gap}
use Rattle.point_calls.specs.declared.found.Missed.{Missed}
use Rattle.point_calls.specs.declared.found.Missed.TheVariants as missed
use Rattle.point_calls.specs.Changing.{frozen_again}
use Rattle.point_calls.specs.Places.{GoesOn, LacksInArray}
use Rattle.point_calls.specs.Putting.{HadNoRow, HasFoundGap, HasFoundTombstone, HasLeft, HasNoRow}
use Rattle.point_calls.specs.Putting.{LetsKeysIn, MayComeInto, MayPutInto, MeetsRoom, key_of_missed}
use Rattle.point_calls.specs.Updating.{EndsPut, LeavesInBuffer, LeavesRoom}
use Rattle.point_calls.proofs.BufferWay.{buffer_still}
use Rattle.point_calls.proofs.Knowing.{in_call, made_in, within_on, within_whole}
use Rattle.point_calls.proofs.LeftWords.{left_on}
use Rattle.point_calls.proofs.NewRows.{between_on}
use Rattle.point_calls.proofs.SeekWay.{answered, lacks_seen, misses_here, on_phase}
use Rattle.point_calls.proofs.Staying.{at_end, stays_in}

-- ---- over the load of a phase ----

module _ (b : Board) (start k n : Hand) (group word : ℕ) (on : GoesOn b start k n)
    (loads : Makes b k (LoadPhase group word) n) where
  -- the gap is still there
  gap_on : (gap : Gap) → HasFoundGap b start k gap → HasFoundGap b start n gap
  gap_on gap found =
      let at = found.at in
      record {
        at = buffer_still b start k n gap.lane.group gap.key at on;
        loaded = left_on b start k n (load_of_link gap.lane.group gap.lane.number gap.before gap.next)
            (LoadPhase group word) (link_behind gap.lane.group gap.lane.number gap.before)
            at.call.so_far.number at.search.call.of tt loads found.loaded;
        between = between_on b k n gap (LoadPhase group word) tt (λ z. let bad = z.3 in cc) loads at.search
            found.between;
      }

  -- and so is the tombstone
  stone_on : (row : FoundRow) (first : ℕ) → HasFoundTombstone b start k row first →
      HasFoundTombstone b start n row first
  stone_on row first stone =
      let o = opening_of b in
      let at = stone.found.at in
      let reached_row = stone.found.row in
      let caller = at.search.call.reading.caller in
      let i = in_call b start k at.search.call.of at.call at.rows in
      let j = in_call b start n on.can.of on.call on.rows in
      let to = stays_in start k n i.number j.number i.section j.section on.since in
      let valid : Valid o (to.newer ++ known k) = subst (Valid o) (sym to.on) j.follows.valid in
      record {
        found = record {
          at = buffer_still b start k n row.group row.key at on;
          row = (
            at_end k n to (λ c t. role o row.place t ≡ InBuffer row.group row.key)
                (reached_stay o k.number row.place caller to.newer (known k) valid to.stays reached_row.1
                ∙ reached_row.0),
            at_end k n to (λ c t. reached c row.place t ≡ true)
                (reached_on k.number row.place to.newer (known k) to.stays reached_row.1),
          );
        };
        loaded = left_on b start k n (LoadState row.place first) (LoadPhase group word) (PlaceWord row.place State)
            at.call.so_far.number at.search.call.of tt loads stone.loaded;
        stone = stone.stone;
      }

  pub left_seen : (g key : ℕ) (missed : Missed) → HasLeft b start k g key missed → HasLeft b start n g key missed
  left_seen g key (missed.Tombstone row first) left = (left.0, left.1, stone_on row first left.2)
  left_seen g key (missed.Between gap) left = (left.0, left.1, gap_on gap left.2)

-- ---- where the key may come in ----

-- it may come in where it was left, if the buffer is the one for the key whenever it had no row there
pub may_put : (b : Board) (start m k n : Hand) (g key : ℕ) (missed : Missed) → HasLeft b start n g key missed →
    MayComeInto b start n g key → HadNoRow g key missed m k →
    ((moment : Execution) → IsWithin m k moment → IsWithin start n moment) →
    ((moment : Execution) → IsWithin m k moment → look (rows g moment) key ≡ None →
    IsBufferFor (opening_of b) key g moment) → MayPutInto b start n missed
may_put b start m k n g key (missed.Tombstone row first) left may had whole belongs = (
  left.2,
  subst (λ (z : ℕ × ℕ). MayComeInto b start n z.0 z.1) (λ i. (sym left.0 i, sym left.1 i)) may,
)
may_put b start m k n g key (missed.Between gap) left may had whole belongs = (
  left.2,
  subst (λ (z : ℕ × ℕ). MayComeInto b start n z.0 z.1) (λ i. (sym left.0 i, sym left.1 i)) may,
  subst (λ (z : ℕ). HasNoRow b z start n) (sym left.1)
      (record {
        group = g;
        moment = had.0;
        within = whole had.0 had.1;
        belongs = belongs had.0 had.1 had.2;
        none = had.2;
      }),
)

pub key_left : (b : Board) (start n : Hand) (g key : ℕ) (missed : Missed) → HasLeft b start n g key missed →
    key_of_missed missed ≡ key
key_left b start n g key (missed.Tombstone row first) left = left.1
key_left b start n g key (missed.Between gap) left = left.1

-- ---- an open group ----

both : (x y : Bool) → x ≡ true → y ≡ true → (x && y) ≡ true
both true y e f = f
both false y e f = absurd (let bad = e in cc)

open_not_opened : {X : Type 0} {f : ℕ} → Open ≡ Opened f → X
open_not_opened e = cc

frozen_not_opened : {X : Type 0} {f : ℕ} → Frozen ≡ Opened f → X
frozen_not_opened e = cc

again_not_full : {X : Type 0} {group word : ℕ} → frozen_again group word ≡ tried.Full → X
again_not_full e = cc

module _ (b : Board) (start m k : Hand) (group key : ℕ) (lacks : LacksInArray b start m group key)
    (missed : Missed) (leaves : LeavesInBuffer b start m group key missed k) (word : ℕ) (n : Hand)
    (loads : Makes b k (LoadPhase group word) n) where
  on_n : GoesOn b start k n
  on_n = on_phase b start m k group key lacks leaves.passes word n loads

  -- this was the phase that it loaded
  phase_loaded : (p : Phase) → phase group (known n) ≡ p → MakesIn start (LoadPhase group (word_of_phase p)) n
  phase_loaded p is =
      let on = leaves.passes.on in
      let i = in_call b start k on.can.of on.call on.rows in
      let named : word ≡ word_of_phase p = sym (phase_found b k n group word on.can.of loads) ∙ ap word_of_phase is in
      made_in b start k n (LoadPhase group (word_of_phase p)) i
      (subst (λ (z : ℕ). Makes b k (LoadPhase group z) n) named loads)

  -- so the call met room
  pub meets_room : (p : Phase) → phase group (known n) ≡ p → LetsKeysIn p → MeetsRoom start n
  meets_room p is lets =
      record { group = group; phase = p; loaded = phase_loaded p is; lets = lets }

  -- or it ends at a frozen group
  pub ends_frozen : phase group (known n) ≡ Frozen → (value : ℕ) →
      EndsPut b key value start (frozen_again group (word_of_phase Frozen)) n
  ends_frozen is value =
      let misses = misses_here b start m k group key lacks leaves.passes word n loads
      (λ first opened. frozen_not_opened (sym is ∙ opened)) in
      let on = misses.on in
      record {
        ended = record {
          can = on.can;
          number = on.call.so_far.number;
          section = on.call.section;
          rows = on.rows;
        };
        tells = (
          on.call.so_far.no_entry,
          record {
            loaded = phase_loaded Frozen is;
            frozen = refl;
            missing = (misses.moment, misses.within, misses.absent);
          },
        );
        not_full = again_not_full;
      }

  module _ (is : phase group (known n) ≡ Open) where
    unopened : IsUnopened group (known n)
    unopened f opened = open_not_opened (sym is ∙ opened)

    named_open : word ≡ word_of_phase Open
    named_open = sym (phase_found b k n group word leaves.passes.on.can.of loads) ∙ ap word_of_phase is

    seen_open : saw_open n.number group (known n) ≡ true
    seen_open =
        now b k n (LoadPhase group word) leaves.passes.on.can.of loads (λ c t. saw_open c group t ≡ true)
        (own_step (saw_open_after group) false k.number (LoadPhase group word) (loads.acts.0 ++ known k)
        ∙ ap (λ (z : Bool). cond z true (saw_open k.number group (loads.acts.0 ++ known k)))
        (both (group == group) (word == word_of_phase Open) (eq-eqb group group refl)
        (eq-eqb word (word_of_phase Open) named_open)))

    open_may : MayComeInto b start n group key
    open_may =
        let o = opening_of b in
        let seen = lacks_seen b start m k group key lacks leaves.passes word n loads in
        let there = seen.there in
        let misses = misses_here b start m k group key lacks leaves.passes word n loads unopened in
        record {
          room = meets_room Open is tt;
          elsewhere = inl (record {
            stood = record {
              earlier = known n;
              newer = [];
              since = refl;
              stays = tt;
              stands = there.search.stands;
              of_key = while_unopened o n.number group key there.search.call.reading.caller [] (known n)
                  there.call.follows.valid tt there.search.stands there.answers unopened;
            };
            seen = seen_open;
            array = seen.array;
          });
          missing = (misses.moment, misses.within, misses.absent);
        }

    -- a key that is missing there may come in
    pub leaves_open : LeavesRoom b start m key missed n
    leaves_open =
        let misses = misses_here b start m k group key lacks leaves.passes word n loads unopened in
        let left = left_seen b start k n group word on_n loads group key missed leaves.left in
        let im = in_call b start m lacks.there.search.call.of lacks.there.call lacks.there.rows in
        record {
          on = misses.on;
          exchanges = misses.exchanges;
          may = may_put b start m k n group key missed left open_may leaves.no_row
              (λ moment within. within_whole b start m n moment im (within_on m k n moment within on_n.since))
              (λ moment within none. inl (answered b start m k group key lacks leaves.passes word n loads unopened
              moment (within_on m k n moment within on_n.since)));
          of_key = key_left b start n group key missed left;
        }
