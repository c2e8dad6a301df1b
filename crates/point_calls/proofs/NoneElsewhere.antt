-- What a call found out of a key without a value holds as the call goes on.
use Rattle.std.proofs.Common.{ℕ, inl, inr, ⊎_elim, [], ◌++◌, ◌∷◌, refl, sym, subst}
use Rattle.index_machine.specs.declared.opening.Opening.{Opening}
use Rattle.index_machine.specs.declared.events.Action.TheVariants.{LoadPhase}
use Rattle.index_machine.specs.Conditions.{Valid}
use Rattle.index_machine.specs.Execution.{Continues, Execution, event}
use Rattle.index_machine.specs.Permissions.{MayInsertInto}
use Rattle.index_machine.specs.Sections.{IsCaller}
use Rattle.index_machine.proofs.Executions.{continues_trans, valid_before}
use Rattle.word_layout.specs.Phase.{word_of_phase}
use Rattle.index_rule.specs.declared.board.Board.{Board}
use Rattle.index_rule.specs.declared.hand.Hand.{Hand}
use Rattle.index_rule.specs.Elsewhere.{HasNoneBehindOpened, HasNoneElsewhere, HasNoneWhereSeenOpen}
use Rattle.index_rule.specs.Hands.{known, opening_of}
use Rattle.index_rule.proofs.Elsewhere.{IsOpenTo, KnowsNoneElsewhere, elsewhere_now, elsewhere_on}
use Rattle.point_calls.specs.Putting.{HasNoRow, IsMissing, MayComeInto, MeetsRoom}
use Rattle.point_calls.proofs.Knowing.{within_on}
use Rattle.point_calls.proofs.Staying.{StaysIn, at_end}

-- what a caller knows now of the key's other places it may say so
pub known_none : (o : Opening) (c k g : ℕ) (t : Execution) → KnowsNoneElsewhere o c k g t →
    HasNoneElsewhere o c k g t
known_none o c k g t either =
    ⊎_elim
    (λ (w : IsOpenTo o c k g t).
    inl (record {
      stood = record {
        earlier = t;
        newer = [];
        since = refl;
        stays = tt;
        stands = w.stands;
        of_key = w.of_key;
      };
      seen = w.seen;
      array = w.array;
    }))
    (λ (w : HasNoneBehindOpened o c k g t). inr w) either

-- it may insert there
pub permission : (o : Opening) (c k g : ℕ) (t : Execution) → HasNoneElsewhere o c k g t →
    MayInsertInto c g t
permission o c k g t either =
    ⊎_elim (λ (w : HasNoneWhereSeenOpen o c k g t). inl w.seen)
    (λ (w : HasNoneBehindOpened o c k g t). inr (w.first, w.made, w.seen)) either

-- ---- as the call goes on ----

pub missing_on : (b : Board) (key : ℕ) (start h k : Hand) → Continues (known h) (known k) →
    IsMissing b key start h → IsMissing b key start k
missing_on b key start h k on missing = (missing.0, within_on start h k missing.0 missing.1 on, missing.2)

pub room_on : (start h k : Hand) → Continues (known h) (known k) → MeetsRoom start h → MeetsRoom start k
room_on start h k on room =
    let made = room.loaded in
    record {
      group = room.group;
      phase = room.phase;
      loaded = (
        made.0,
        made.1,
        continues_trans (event start.number (LoadPhase room.group (word_of_phase room.phase)) ∷ made.0) (known h)
            (known k) made.2 on,
      );
      lets = room.lets;
    }

pub no_row_on : (b : Board) (key : ℕ) (start h k : Hand) → Continues (known h) (known k) →
    HasNoRow b key start h → HasNoRow b key start k
no_row_on b key start h k on had =
    record {
      group = had.group;
      moment = had.moment;
      within = within_on start h k had.moment had.within on;
      belongs = had.belongs;
      none = had.none;
    }

-- no place of the key elsewhere has a value, to the end of the read section
pub none_still : (b : Board) (g key : ℕ) (h k : Hand) → StaysIn h k → IsCaller (opening_of b) h.number →
    Valid (opening_of b) (known k) → HasNoneElsewhere (opening_of b) h.number key g (known h) →
    HasNoneElsewhere (opening_of b) k.number key g (known k)
none_still b g key h k s is valid none =
    let o = opening_of b in
    let whole : Valid o (s.newer ++ known h) = subst (Valid o) (sym s.on) valid in
    at_end h k s (λ c t. HasNoneElsewhere o c key g t)
    (known_none o h.number key g (s.newer ++ known h)
    (elsewhere_on o h.number key g is s.newer (known h) whole s.stays
    (elsewhere_now o h.number key g (known h) is (valid_before o s.newer (known h) whole) none)))

-- so the key may still come in
pub may_come_on : (b : Board) (start h k : Hand) (g key : ℕ) → StaysIn h k →
    IsCaller (opening_of b) h.number → Valid (opening_of b) (known k) → Continues (known h) (known k) →
    MayComeInto b start h g key → MayComeInto b start k g key
may_come_on b start h k g key s is valid on may =
    record {
      room = room_on start h k on may.room;
      elsewhere = none_still b g key h k s is valid may.elsewhere;
      missing = missing_on b key start h k on may.missing;
    }
