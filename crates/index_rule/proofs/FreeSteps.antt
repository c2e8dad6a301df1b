-- The steps on the free stack and on one's own rows meet their conditions.
use Rattle.std.proofs.Common.{◌≡◌, ◌≢◌, inl, inr, ⊎_elim, ℕ, ◌%◌, cond, Some, [], ◌∷◌, ◌++◌, refl}
use Rattle.std.proofs.Common.{sym, ap, ◌∙◌, subst}
use Rattle.std.specs.Prelude.{◌==◌}
use Rattle.std.proofs.Math.Logic.{∥∥₁_elim}
use Rattle.std.proofs.Props.{props}
use prog.Atomic.{either}
use Rattle.atomic_table.specs.Table.{Me, Allows}
use Rattle.word_layout.specs.declared.places.Part.{Part}
use Rattle.word_layout.specs.declared.places.Part.TheVariants.{Link}
use Rattle.word_layout.specs.Places.{FitsPart, IsRow}
use Rattle.word_layout.specs.Words.{FreeHead, PlaceWord}
use Rattle.word_layout.proofs.RowPlaces.{row-nonzero}
use Rattle.index_machine.specs.declared.events.Action.TheVariants.{LoadFree, LoadFreeLink, PopFree}
use Rattle.index_machine.specs.declared.events.Action.TheVariants.{FailPop, StorePrivate, PushFree}
use Rattle.index_machine.specs.declared.events.Action.TheVariants.{FailPush}
use Rattle.index_machine.specs.declared.opening.Opening.{Opening}
use Rattle.index_machine.specs.Execution.{Execution, Without, event}
use Rattle.index_machine.specs.Words.{shape, word}
use Rattle.index_machine.specs.Sections.{IsCaller, crossings}
use Rattle.index_machine.specs.Keepers.{IsKeeper}
use Rattle.index_machine.specs.Rows.{Holds, HoldsNone, role}
use Rattle.index_machine.specs.ObservedHeads.{HeadAndLink, IsObservedRow, IsUnobserved, Observes}
use Rattle.index_machine.specs.ObservedHeads.{observed_head}
use Rattle.index_machine.specs.Conditions.{IsReading, MayLoadFree, Valid}
use Rattle.index_machine.proofs.Executions.{crossings_on, observed_head_on}
use Rattle.index_machine.proofs.Placing.{placed, holds_on, holds_none_on, unused-held}
use Rattle.index_machine.proofs.Linking.{top, top_free}
use Rattle.index_machine.proofs.Observing.{heads_hold}
use Rattle.index_machine.proofs.Holding.{held_words_on}
use Rattle.index_machine.proofs.GracePeriods.{unobserved_on, others_push_none}
use Rattle.index_rule.specs.declared.board.Board.{Board}
use Rattle.index_rule.specs.declared.hand.Hand.{Hand}
use Rattle.index_rule.specs.declared.view.View.{View}
use Rattle.index_rule.specs.Hands.{IsHandOf, known, opening_of, view}
use Rattle.index_rule.specs.Offsets.{offset_of_word}
use Rattle.index_rule.specs.Rule.{Acts, Follows, Kept, Does, number, word_in}
use Rattle.index_rule.specs.Steps.{link_load, private_store}
use Rattle.index_rule.proofs.StepKinds.{loads, stores, exchanges, by_name}

-- ---- what a hand may rely on ----

-- a row that the hand holds is a row
pub held_row : (b : Board) (h : Hand) (place : ℕ) → IsHandOf b h →
    Holds (opening_of b) h.number place (known h) → IsRow (shape (opening_of b)) place
held_row b h place of held =
    ∥∥₁_elim (h.following (opening_of b) of.opened) (hlevel props)
    (λ (follows : Follows (opening_of b) (view h)).
    ((placed (opening_of b) (known h) follows.valid).held h.number place held).0)

-- and so is one that it observes
pub observed_row : (b : Board) (h : Hand) (place : ℕ) → IsHandOf b h →
    IsCaller (opening_of b) h.number → Observes h.number place (known h) →
    IsRow (shape (opening_of b)) place
observed_row b h place of caller observed =
    ∥∥₁_elim (h.following (opening_of b) of.opened) (hlevel props)
    (λ (follows : Follows (opening_of b) (view h)).
    (heads_hold (opening_of b) (known h) follows.valid).row h.number place caller observed)

module _ (o : Opening) (slots id : ℕ) (me : Me (Unit {0}) View) (c : ℕ)
    (is : me.0.numbers ≡ c ∷ []) (live : me.0.opening ≡ Some o) where
  -- ---- what the events of others leave ----

  still_reading : (t newer : Execution) → newer ++ me.0.known ≡ t → Without c newer →
      IsReading o c me.0.known → IsReading o c t
  still_reading t newer e out reading =
      record {
        caller = reading.caller;
        inside = ap (λ (z : ℕ). z % 2)
            (ap (crossings c) (sym e) ∙ crossings_on c newer me.0.known out)
            ∙ reading.inside;
      }

  still_seen : (t newer : Execution) → newer ++ me.0.known ≡ t → Without c newer →
      observed_head c t ≡ observed_head c me.0.known
  still_seen t newer e out =
      ap (observed_head c) (sym e) ∙ observed_head_on c newer me.0.known out

  -- ---- the head and its link ----

  pub loads_free : (a : ℕ) → MayLoadFree o c me.0.known → a ≡ offset_of_word (shape o) FreeHead →
      Allows (Kept o) slots id me a (λ n. n) (λ n x. Does me (LoadFree n) x)
  loads_free a may at =
      subst (λ (z : ℕ). Allows (Kept o) slots id me z (λ n. n) (λ n x. Does me (LoadFree n) x))
      (sym at)
      (loads o slots id me c is live FreeHead (λ n. LoadFree n) tt (λ _. refl)
      (λ t _ newer e out. (
        ⊎_elim (λ (reading : IsReading o c me.0.known). inl (still_reading t newer e out reading))
            (λ (keeper : IsKeeper o c). inr keeper) may,
        refl,
      )))

  pub loads_link : (place a : ℕ) → IsReading o c me.0.known → Observes c place me.0.known →
      IsRow (shape o) place → a ≡ offset_of_word (shape o) (PlaceWord place Link) →
      Allows (Kept o) slots id me a (λ n. n) (λ n x. Does me (link_load (word_in me.0 a) n) x)
  loads_link place a reading seen row at =
      by_name o slots id me c is live (PlaceWord place Link) a (λ n. n) link_load (inl row) at
      (loads o slots id me c is live (PlaceWord place Link) (λ n. LoadFreeLink place n) (inl row)
      (λ _. refl)
      (λ t _ newer e out. (
        still_reading t newer e out reading,
        subst (IsObservedRow place) (sym (still_seen t newer e out)) seen,
        refl,
      )))

  pub pops : (a p n : ℕ) → IsReading o c me.0.known → observed_head c me.0.known ≡ HeadAndLink p n →
      HoldsNone o c me.0.known → a ≡ offset_of_word (shape o) FreeHead →
      Allows (Kept o) slots id me a (λ m. either (m == p) n m)
      (λ m x. Does me (cond (m == p) (PopFree p n) (FailPop p m)) x)
  pops a p n reading seen none at =
      subst
      (λ (z : ℕ). Allows (Kept o) slots id me z (λ m. either (m == p) n m)
      (λ m x. Does me (cond (m == p) (PopFree p n) (FailPop p m)) x))
      (sym at)
      (exchanges o slots id me c is live FreeHead p n (PopFree p n) (λ m. FailPop p m) tt
      refl (λ _. refl)
      (λ t valid newer e out.
      let still = still_reading t newer e out reading in
      let now : observed_head c t ≡ HeadAndLink p n = still_seen t newer e out ∙ seen in
      let observes : Observes c p t = subst (IsObservedRow p) (sym now) refl in
      let heads = heads_hold o t valid in (
        (λ hit.
            let row = heads.row c p reading.caller observes in
            let full : word o t FreeHead ≢ 0 =
            λ z. row-nonzero (shape o) p row (sym hit ∙ z)
            in
            let first = top o t valid full in
            let free = top_free o t valid full in (
              still,
              subst (HoldsNone o c) e
                  (holds_none_on o c newer me.0.known (subst (Valid o) (sym e) valid) out none),
              record {
                rest = first.0;
                top = first.1 ∙ ap (λ (z : ℕ). z ∷ first.0) hit;
                unused = ap (λ (z : ℕ). role o z t) (sym hit) ∙ free.0;
                link = heads.link c p n reading.caller now
                    (ap (λ (z : ℕ). role o z t) (sym hit) ∙ free.0);
              },
            )),
        (λ ne. record {
          reading = still;
          observed = observes;
          head_word = refl;
          differ = ne;
        }),
      )))

  -- ---- one's own rows ----

  pub stores_private : (place : ℕ) (part : Part) (value a : ℕ) → Holds o c place me.0.known →
      FitsPart (shape o) part value → IsRow (shape o) place →
      a ≡ offset_of_word (shape o) (PlaceWord place part) →
      Allows (Kept o) slots id me a (λ _. value)
      (λ _ x. Does me (private_store (word_in me.0 a) value) x)
  stores_private place part value a held fits row at =
      by_name o slots id me c is live (PlaceWord place part) a (λ _. value)
      (λ w _. private_store w value) (inl row) at
      (stores o slots id me c is live (PlaceWord place part) value (StorePrivate place part value)
      (inl row) refl
      (λ t valid newer e out. record {
        held = subst (Holds o c place) e
            (holds_on o c place newer me.0.known (subst (Valid o) (sym e) valid) out held);
        fits = fits;
      }))

  pub pushes : (a p n : ℕ) → IsKeeper o c → Holds o c p me.0.known →
      word o me.0.known (PlaceWord p Link) ≡ n → IsUnobserved o p me.0.known →
      a ≡ offset_of_word (shape o) FreeHead →
      Allows (Kept o) slots id me a (λ m. either (m == n) p m)
      (λ m x. Does me (cond (m == n) (PushFree p n) (FailPush p n m)) x)
  pushes a p n keeper held link unseen at =
      subst
      (λ (z : ℕ). Allows (Kept o) slots id me z (λ m. either (m == n) p m)
      (λ m x. Does me (cond (m == n) (PushFree p n) (FailPush p n m)) x))
      (sym at)
      (exchanges o slots id me c is live FreeHead n p (PushFree p n) (λ m. FailPush p n m) tt
      refl (λ _. refl)
      (λ t valid newer e out.
      let before : Valid o (newer ++ me.0.known) = subst (Valid o) (sym e) valid in
      let now : Holds o c p t =
      subst (Holds o c p) e (holds_on o c p newer me.0.known before out held)
      in
      let linked : word o t (PlaceWord p Link) ≡ n =
      ap (λ (z : Execution). word o z (PlaceWord p Link)) (sym e)
      ∙ (held_words_on o c p newer me.0.known before out held Link ∙ link)
      in (
        (λ hit. record {
          keeper = keeper;
          held = now;
          head_word = hit;
          link = linked;
          unobserved = subst (IsUnobserved o p) e
              (unobserved_on o p newer me.0.known before
              (others_push_none o p c newer me.0.known before out held)
              (λ z. unused-held (sym z ∙ held)) unseen);
        }),
        (λ ne. record {
          keeper = keeper;
          held = now;
          link = linked;
          head_word = refl;
          differ = ne;
        }),
      )))

-- the head that was loaded, where it is not 0
pub loaded_row : (o : Opening) (v : View) (n : ℕ) (w : View) → v.opening ≡ Some o →
    Acts v (LoadFree n) w → n ≢ 0 → IsRow (shape o) n
loaded_row o v n w of acted some =
    let valid : Valid o (event (number v) (LoadFree n) ∷ acted.0 ++ v.known) =
    subst (Valid o) (ap (λ (z : View). z.known) acted.1) (acted.3 o of).valid
    in
    let found : word o (acted.0 ++ v.known) FreeHead ≡ n = valid.0.1 in
    subst (IsRow (shape o)) found
    (top_free o (acted.0 ++ v.known) valid.1 (λ z. some (sym found ∙ z))).1
