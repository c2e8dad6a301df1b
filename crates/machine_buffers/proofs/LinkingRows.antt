-- A row that is linked takes its place among the rows: what its link leads to stands behind it, and
-- what led there leads to it.
use Rattle.std.proofs.Common.{◌≡◌, ◌≢◌, ℕ, zero, suc, ◌<◌, ◌⊎◌, inl, inr, ⊎_elim, Some, None}
use Rattle.std.proofs.Common.{◌∷◌, refl, sym, ap, ◌∙◌, subst, arith}
use mathlib.Core.Logic.{dite}
use native.Mathlib.Decide.{ℕ_discrete}
use Rattle.index_machine.proofs.Executions.{choice-other, choice-same}
use Rattle.index_machine.proofs.OpeningRows.{opening_role-buffer}
use Rattle.index_machine.proofs.Placing.{placed}
use Rattle.index_machine.specs.Conditions.{Allowed, Valid}
use Rattle.index_machine.specs.Execution.{Execution, event}
use Rattle.index_machine.specs.Lanes.{HasLane, lanes}
use Rattle.index_machine.specs.Rows.{HeldBy, InBuffer, role}
use Rattle.index_machine.specs.Words.{shape, link_behind, word}
use Rattle.index_machine.specs.declared.events.Action.TheVariants.{LinkRow, StoreHeader}
use Rattle.index_machine.specs.declared.opening.Opening.{Opening}
use Rattle.machine_buffers.proofs.BegunLanes.{lane_of, lanes_apart, range_of}
use Rattle.machine_buffers.proofs.LinkWords.{LinksFirst, behind_other, behind_row, head_first}
use Rattle.machine_buffers.proofs.LinkWords.{head_later, lane_word_stays}
use Rattle.machine_buffers.proofs.LinkedLanes.{linked_kept, linked_on, row_is}
use Rattle.machine_buffers.proofs.NextRows.{none_unless}
use Rattle.machine_buffers.specs.Groups.{IsOutOfUse}
use Rattle.machine_buffers.specs.Lanes.{IsLinkedLane, KeepsLane, LinksInto, buffer_lane, lane_link}
use Rattle.machine_buffers.specs.Lanes.{next_row_behind}
use Rattle.machine_buffers.specs.Walks.{IsLaneWord, IsWalkable, LinksLeadOn}
use Rattle.index_machine.proofs.Options.{some_is}
use Rattle.machine_readers.proofs.Buffers.{listed}
use Rattle.machine_readers.specs.Buffers.{RowsAreListed, rows}
use Rattle.map_model.proofs.Histories.{look-put-else, look-put-here}
use Rattle.map_model.specs.Map.{IsRising, Map, key_of, look, put}
use Rattle.map_model.specs.declared.entries.Change.{Change}
use Rattle.word_layout.proofs.RowPlaces.{row-nonzero}
use Rattle.word_layout.specs.Words.{Header, PlaceWord}
use Rattle.word_layout.specs.declared.headers.HeaderWord.{HeaderWord}
use Rattle.word_layout.specs.declared.headers.HeaderWord.TheVariants as header
use Rattle.word_layout.specs.declared.places.Part.TheVariants.{Link}

-- what stands of all buffers
pub record BuffersHold (o : Opening) (t : Execution) : Type 0 where
  -- the place of a row is not 0
  pub places : (g k q : ℕ) → look (rows g t) k ≡ Some q → q ≢ 0
  pub rising : (g : ℕ) → IsRising (rows g t)
  pub walkable : (g : ℕ) → IsWalkable o g t ⊎ IsOutOfUse o g t
  pub links : LinksLeadOn o t

pub all_listed : (o : Opening) (t : Execution) → Valid o t → RowsAreListed o t
all_listed o t valid = listed o (λ g k q e. opening_role-buffer o q g k e) t valid

held_no_row : {X : Type 0} {b g k : ℕ} → HeldBy b ≡ InBuffer g k → X
held_no_row e = cc

-- a row has a place
pub row_place : (o : Opening) (t : Execution) (g k q : ℕ) → Valid o t → role o q t ≡ InBuffer g k →
    q ≢ 0
row_place o t g k q valid e = row-nonzero (shape o) q ((placed o t valid).buffered g k q e)

module _ (o : Opening) (t : Execution) (b h lane p : ℕ) (c : Change) (before next : ℕ)
    (valid : Valid o t) (may : Allowed o t b (LinkRow h lane p c before next))
    (old : BuffersHold o t) where
  abbrev pub k : ℕ
  k = key_of c

  abbrev pub T : Execution
  T = event b (LinkRow h lane p c before next) ∷ t

  pub held_place : p ≢ 0
  held_place = row-nonzero (shape o) p ((placed o t valid).held b p may.mine).0

  -- the buffer is in use, so it is walkable
  walk : IsWalkable o h t
  walk = ⊎_elim (λ (w : IsWalkable o h t). w)
      (λ (out : IsOutOfUse o h t). absurd (⊎_elim (λ z. out.unowned k z)
      (λ z. out.unawaited k z.2) may.belongs))
      (old.walkable h)

  linked : (l : ℕ) → l < lanes o h t → IsLinkedLane o (buffer_lane o h l t) t
  linked l lt = record {
    head = walk.heads l lt;
    links = λ j q e is. old.links h l j q e (lane_of o h l j t lt is);
    standing = λ j q e is. walk.standing j q e;
  }

  -- the key had no row
  no_row_yet : look (rows h t) k ≡ None
  no_row_yet = none_unless (look (rows h t) k) (λ q e. may.alone q (walk.standing k q e))

  apart : before ≢ p
  apart e = ⊎_elim (λ (z : before ≡ 0). held_place (sym e ∙ z))
      (λ (z : (j : ℕ) × (role o before t ≡ InBuffer h j) × HasLane o h lane j t).
      held_no_row (sym may.mine ∙ (ap (λ (y : ℕ). role o y t) (sym e) ∙ z.1)))
      may.behind

  link_same : (q : ℕ) → lane_link (buffer_lane o h lane t) q ≡ link_behind h lane q
  link_same zero = refl
  link_same (suc n) = refl

  -- where the link behind the place led
  expected : word o t (lane_link (buffer_lane o h lane t) before) ≡ next
  expected = ap (word o t) (link_same before) ∙ may.expected

  stored_here : (q : ℕ) → q ≡ before → word o T (lane_link (buffer_lane o h lane t) q) ≡ p
  stored_here zero e =
      subst (λ (y : ℕ). word o (event b (LinkRow h lane p c y next) ∷ t) (Header h (header.Head lane)) ≡ p)
      e (head_first o t b h lane p c next)
  stored_here (suc n) e =
      subst (λ (y : ℕ). word o (event b (LinkRow h lane p c y next) ∷ t) (PlaceWord (suc n) Link) ≡ p)
      e (behind_row o t b h lane p c (suc n) next (λ z. omega (arith, z)))

  -- the rows afterwards
  rows_now : rows h T ≡ put (rows h t) k p
  rows_now = choice-same h h (put (rows h t) k p) (rows h t) refl

  row_now : role o p T ≡ InBuffer h k
  row_now = choice-same p p (InBuffer h k) (role o p t) refl

  -- another place is what it was
  role_else : (q : ℕ) → p ≢ q → role o q T ≡ role o q t
  role_else q n = choice-other p q (InBuffer h k) (role o q t) n

  row_stays : (j q : ℕ) → role o q t ≡ InBuffer h j → role o q T ≡ InBuffer h j
  row_stays j q e =
      role_else q (λ s. held_no_row (sym may.mine ∙ (ap (λ (y : ℕ). role o y t) s ∙ e))) ∙ e

  -- ---- the lane of the key ----

  links : LinksInto o (buffer_lane o h lane t) k p before t T
  links = record {
    in_range = range_of o h lane k t may.in_lane;
    behind = ⊎_elim (λ (z : before ≡ 0). inl z)
        (λ (z : (j : ℕ) × (role o before t ≡ InBuffer h j) × HasLane o h lane j t).
        inr (z.0, z.1, range_of o h lane z.0 t z.2, may.behind_smaller z.0 z.1))
        may.behind;
    leads = may.link_word ∙ sym expected;
    ahead = λ j e. may.ahead_greater j (ap (λ (y : ℕ). role o y t) (sym expected) ∙ e);
    linked = stored_here before refl;
    kept = behind_other o t b h lane p c before next p apart;
    head = λ n. head_later o t b h lane p c before next n;
    rows = rows_now;
    row = row_now;
    others = λ j q e is n. behind_other o t b h lane p c before next q (λ s. n (sym s));
    stay = λ j q e is. row_stays j q e;
    came = λ j q e is n. sym (role_else q n) ∙ e;
  }

  lane_on : IsLinkedLane o (buffer_lane o h lane t) T
  lane_on = linked_on o (buffer_lane o h lane t) k p before t T (old.rising h) (all_listed o t valid)
      (λ j q e. row_place o t h j q valid e) (linked lane may.in_lane.is_lane) links

  -- ---- the other lanes ----

  -- a key in another lane is another
  other_key : (l j : ℕ) → lane ≢ l → HasLane o h l j t → k ≢ j
  other_key l j n has s = n (lanes_apart o t valid h lane l k may.in_lane
      (subst (λ (y : ℕ). HasLane o h l y t) (sym s) has))

  -- so the new row was not linked behind a row of another lane
  other_behind : (l j q : ℕ) → lane ≢ l → HasLane o h l j t → role o q t ≡ InBuffer h j → before ≢ q
  other_behind l j q n has e s = ⊎_elim
      (λ (z : before ≡ 0). row_place o t h j q valid e (sym s ∙ z))
      (λ (z : (i : ℕ) × (role o before t ≡ InBuffer h i) × HasLane o h lane i t).
      let same = (row_is (sym z.1 ∙ (ap (λ (y : ℕ). role o y t) s ∙ e))).1 in
      n (lanes_apart o t valid h lane l j (subst (λ (y : ℕ). HasLane o h lane y t) same z.2) has))
      may.behind

  lane_named : {g l q u v : ℕ} {d : Change} →
      LinkRow h lane p c before next ≡ LinkRow g l q d u v → lane ≡ l
  lane_named e = cc

  -- the words of lanes stay, but for the head of the key's
  word_else : (which : HeaderWord) → IsLaneWord which → (which ≡ header.Head lane → ⊥) →
      word o T (Header h which) ≡ word o t (Header h which)
  word_else which is other =
      lane_word_stays o t b (LinkRow h lane p c before next) h which is (λ z. ⊎_elim
      (λ (x : LinksFirst h which (LinkRow h lane p c before next)).
      other (x.head ∙ ap header.Head (sym (lane_named x.is))))
      (λ (x : (value : ℕ) × (LinkRow h lane p c before next ≡ StoreHeader h which value)).
      let bad = x.1 in cc) z)

  keeps : (l : ℕ) → lane ≢ l → l < lanes o h t → KeepsLane o (buffer_lane o h l t) t T
  keeps l n lt = record {
    head = word_else (header.Head l) tt (λ e. n cc);
    links = λ j q e is.
        behind_other o t b h lane p c before next q (other_behind l j q n (lane_of o h l j t lt is) e);
    stay = λ j q e is. row_stays j q e;
    came = λ j q e is. sym (role_else q (λ s. other_key l j n (lane_of o h l j t lt is)
        (row_is (sym row_now ∙ (ap (λ (y : ℕ). role o y T) s ∙ e))).1)) ∙ e;
    rows = inr (
      k,
      p,
      (λ is. other_key l k n (lane_of o h l k t lt is) refl),
      no_row_yet,
      rows_now,
    );
  }

  -- ---- the buffer ----

  lanes_now : (l : ℕ) → l < lanes o h t → IsLinkedLane o (buffer_lane o h l t) T
  lanes_now l lt = dite (ℕ_discrete lane l)
      (λ (z : lane ≡ l). subst (λ (y : ℕ). IsLinkedLane o (buffer_lane o h y t) T) z lane_on)
      (λ (n : lane ≢ l).
      linked_kept o (buffer_lane o h l t) t T (old.rising h) (linked l lt) (keeps l n lt))

  standing_now : (j q : ℕ) → look (rows h T) j ≡ Some q → role o q T ≡ InBuffer h j
  standing_now j q e =
      let found : look (put (rows h t) k p) j ≡ Some q = ap (λ (m : Map). look m j) (sym rows_now) ∙ e in
      dite (ℕ_discrete j k)
      (λ (z : j ≡ k).
      let same : p ≡ q = some_is (sym (look-put-here (rows h t) k p)
      ∙ (ap (look (put (rows h t) k p)) (sym z) ∙ found)) in
      ap (λ (y : ℕ). role o y T) (sym same) ∙ (row_now ∙ ap (λ (y : ℕ). InBuffer h y) (sym z)))
      (λ (n : j ≢ k).
      row_stays j q (walk.standing j q (sym (look-put-else (rows h t) k p j n) ∙ found)))

  pub walkable_here : IsWalkable o h T
  walkable_here = record {
    lanes_word = word_else header.Lanes tt (λ e. cc) ∙ walk.lanes_word;
    cut_words = λ l lt. word_else (header.Cut l) tt (λ e. cc) ∙ walk.cut_words l lt;
    heads = λ l lt. (lanes_now l lt).head;
    standing = standing_now;
  }

  pub links_here : (l j q : ℕ) → role o q T ≡ InBuffer h j → HasLane o h l j T →
      word o T (PlaceWord q Link) ≡ next_row_behind (buffer_lane o h l T) j (rows h T)
  links_here l j q e has = (lanes_now l has.is_lane).links j q e (range_of o h l j T has)

  -- the rows of any buffer have places
  pub places_here : (g j q : ℕ) → look (rows g T) j ≡ Some q → q ≢ 0
  places_here g j q e = dite (ℕ_discrete h g)
      (λ (z : h ≡ g).
      let e' : look (put (rows g t) k p) j ≡ Some q =
      ap (λ (y : Map). look y j)
      (sym (choice-same h g (put (rows g t) k p) (rows g t) z)) ∙ e in
      dite (ℕ_discrete j k)
      (λ (s : j ≡ k) (none : q ≡ 0). held_place (some_is (sym (look-put-here (rows g t) k p)
      ∙ (ap (look (put (rows g t) k p)) (sym s) ∙ e')) ∙ none))
      (λ (n : j ≢ k). old.places g j q (sym (look-put-else (rows g t) k p j n) ∙ e')))
      (λ (n : h ≢ g). old.places g j q
      (ap (λ (y : Map). look y j)
      (sym (choice-other h g (put (rows g t) k p) (rows g t) n)) ∙ e))
