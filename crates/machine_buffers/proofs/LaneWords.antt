-- The words of a buffer's lanes stay where no row is linked into it, and its rows are those that were there.
use Rattle.std.proofs.Common.{◌≡◌, ℕ, ◌<◌, ◌⊎◌, inl, inr, ⊎_elim, ◌∷◌, refl, sym, ap, ◌∙◌, subst}
use mathlib.Core.Logic.{dite}
use native.Mathlib.Decide.{ℕ_discrete}
use Rattle.index_machine.proofs.Executions.{choice-other}
use Rattle.index_machine.specs.Conditions.{Allowed}
use Rattle.index_machine.specs.Execution.{Execution, event}
use Rattle.index_machine.specs.Lanes.{lanes}
use Rattle.index_machine.specs.Words.{word}
use Rattle.index_machine.specs.declared.events.Action.{Action}
use Rattle.index_machine.specs.declared.events.Action.TheVariants.{LinkRow, NewGroup, StoreHeader}
use Rattle.index_machine.specs.declared.opening.Opening.{Opening}
use Rattle.machine_barriers.proofs.Reaches.{may_as}
use Rattle.machine_buffers.proofs.BegunLanes.{HasSameLanes, begun_on, lane_same}
use Rattle.machine_buffers.proofs.LinkWords.{LinksFirst, lane_word_stays}
use Rattle.machine_buffers.specs.Groups.{Begins, IsOutOfUse}
use Rattle.machine_buffers.specs.Lanes.{Lane, buffer_lane, first_row}
use Rattle.machine_buffers.specs.Reclaiming.{HasLaneWords}
use Rattle.machine_buffers.specs.Walks.{IsLaneWord, RefillsLanes}
use Rattle.machine_readers.specs.Buffers.{rows}
use Rattle.map_model.specs.Map.{key_of, put}
use Rattle.map_model.specs.declared.entries.Change.{Change}
use Rattle.word_layout.specs.Words.{Header}
use Rattle.word_layout.specs.declared.headers.HeaderWord.{HeaderWord}
use Rattle.word_layout.specs.declared.headers.HeaderWord.TheVariants as header

-- ---- links into a buffer ----

-- the action links a row into the group's buffer
pub record LinksRowInto (g : ℕ) (d : Action) : Type 0 where
  pub lane : ℕ
  pub place : ℕ
  pub change : Change
  pub before : ℕ
  pub next : ℕ
  pub is : d ≡ LinkRow g lane place change before next

linked_is : {h g l p q n i a u v : ℕ} {c e : Change} →
    LinkRow h l p c q n ≡ LinkRow g i a e u v → h ≡ g
linked_is e = cc

pub links_or_not : (g : ℕ) (d : Action) → LinksRowInto g d ⊎ (LinksRowInto g d → ⊥)
links_or_not g (LinkRow h lane p c before next) = dite (ℕ_discrete h g)
    (λ (z : h ≡ g). inl (record {
      lane = lane;
      place = p;
      change = c;
      before = before;
      next = next;
      is = ap (λ (y : ℕ). LinkRow y lane p c before next) z;
    }))
    (λ (n : h ≡ g → ⊥). inr (λ s. n (linked_is s.is)))
links_or_not g d = inr (λ s. let bad = s.is in cc)

-- none is linked into a buffer whose group is out of use
pub in_use : (o : Opening) (t : Execution) (b : ℕ) (d : Action) (g : ℕ) → Allowed o t b d →
    IsOutOfUse o g t → LinksRowInto g d → ⊥
in_use o t b d g may out x =
    let m = may_as o t b d (LinkRow g x.lane x.place x.change x.before x.next) x.is may in
    ⊎_elim (λ z. out.unowned (key_of x.change) z) (λ z. out.unawaited (key_of x.change) z.2) m.belongs

-- where none is linked and the group is not begun, its rows are those that were there
pub rows_same : (t : Execution) (b : ℕ) (d : Action) (g : ℕ) → (Begins g d → ⊥) →
    (LinksRowInto g d → ⊥) → rows g (event b d ∷ t) ≡ rows g t
rows_same t b (LinkRow h lane p c before next) g never none =
    choice-other h g (put (rows g t) (key_of c) p) (rows g t) (λ z. none (record {
      lane = lane;
      place = p;
      change = c;
      before = before;
      next = next;
      is = ap (λ (y : ℕ). LinkRow y lane p c before next) z;
    }))
rows_same t b (NewGroup h low high f) g never none =
    choice-other h g _ (rows g t)
    (λ z. never (low, high, f, ap (λ (y : ℕ). NewGroup y low high f) z))
rows_same t b d g never none = refl

-- ---- the words ----

pub words_kept : (o : Opening) (t : Execution) (b : ℕ) (d : Action) (g : ℕ) →
    rows g (event b d ∷ t) ≡ rows g t → (Begins g d → ⊥) →
    ((which : HeaderWord) → LinksFirst g which d → ⊥) → (RefillsLanes g d → ⊥) →
    HasLaneWords o g t → HasLaneWords o g (event b d ∷ t)
words_kept o t b d g same never apart none w = record {
  lanes_word = word_on header.Lanes tt ∙ (w.lanes_word ∙ sym (begun header.Lanes));
  cut_words = λ l lt. word_on (header.Cut l) tt
      ∙ (w.cut_words l (back l lt) ∙ sym (begun (header.Cut l)));
  heads = λ l lt. word_on (header.Head l) tt ∙ (w.heads l (back l lt) ∙ sym (first_same l));
}
  where
    T : Execution
    T = event b d ∷ t

    begun : HasSameLanes o g t T
    begun = begun_on o t b d g never

    back : (l : ℕ) → l < lanes o g T → l < lanes o g t
    back l lt = subst (λ (y : ℕ). l < y) (begun header.Lanes) lt

    word_on : (which : HeaderWord) → IsLaneWord which →
        word o T (Header g which) ≡ word o t (Header g which)
    word_on which is = lane_word_stays o t b d g which is (λ z. ⊎_elim
        (λ (x : LinksFirst g which d). apart which x)
        (λ (x : (value : ℕ) × (d ≡ StoreHeader g which value)). none (which, x.0, x.1, is)) z)

    first_same : (l : ℕ) →
        first_row (buffer_lane o g l T) (rows g T) ≡ first_row (buffer_lane o g l t) (rows g t)
    first_same l =
        ap (λ (y : Lane). first_row y (rows g T)) (lane_same o g t T begun l)
        ∙ ap (first_row (buffer_lane o g l t)) same
