-- The loads by which a record was found: the first of them begins the call, and the last is of the state
-- word that was found.
use Rattle.std.proofs.Common.{◌≡◌, inl, inr, ⊎_elim, ℕ, true, []}
use Rattle.std.proofs.Common.{◌∷◌, refl, sym, ap, ◌∙◌, subst}
use Rattle.word_layout.specs.State.{word_of_state}
use Rattle.word_layout.specs.declared.state.State.TheVariants as state
use Rattle.index_machine.specs.declared.events.Action.TheVariants.{LoadState}
use Rattle.index_machine.specs.Execution.{Continues}
use Rattle.index_machine.specs.Forms.{Redirect, is_removed}
use Rattle.index_machine.specs.Places.{form}
use Rattle.index_machine.specs.RecordConditions.{IsAt}
use Rattle.index_machine.specs.Rows.{InBuffer, role}
use Rattle.index_machine.proofs.Executions.{continues_trans}
use Rattle.machine_readers.specs.Redirects.{HasNoValue}
use Rattle.machine_readers.specs.Targets.{IsDirect}
use Rattle.machine_readers.proofs.FormKinds.{Away, kind}
use Rattle.machine_readers.proofs.FormsMet.{rows_stay}
use Rattle.index_rule.specs.declared.board.Board.{Board}
use Rattle.index_rule.specs.declared.hand.Hand.{Hand}
use Rattle.index_rule.specs.Hands.{IsHandOf, Makes, MakesAll, known, opening_of}
use Rattle.index_rule.proofs.Calls.{HasBegun, begins, begun_on, goes_on}
use Rattle.index_rule.proofs.RecordStepping.{same_role}
use Rattle.index_rule.proofs.StateForms.{forwards_by_word}
use Rattle.index_rule.proofs.Stepping.{valid_known}
use Rattle.record_cell.specs.Finding.{Finds, FollowsPointer, IsReadyAt}
use Rattle.record_cell.proofs.Followed.{can_follow, direct_not_away, forwards_still, forwards_to}
use Rattle.record_cell.proofs.Found.{loaded_ready, ready_on, state_says}

-- the hand loaded a forwarding pointer at the place, and followed it
abbrev pub IsFollowed : Board → Hand → ℕ → ℕ → ℕ → Hand → Type 0
IsFollowed b h place at word k =
    (to : ℕ) × (m : Hand) × Makes b h (LoadState place (word_of_state (state.Redirect to))) m
    × FollowsPointer b m place to at word k

-- it loaded this place again, behind one that was copied away
abbrev pub IsLoadedAgain : Board → Hand → ℕ → ℕ → ℕ → Hand → Type 0
IsLoadedAgain b m place to word k =
    MakesAll b m (LoadState place word ∷ LoadState to (word_of_state state.Moved) ∷ []) k

-- the first of these two loads
first_of_two : (b : Board) (m : Hand) (place to word : ℕ) (k : Hand) →
    (two : IsLoadedAgain b m place to word k) →
    Makes b m (LoadState to (word_of_state state.Moved)) two.0
first_of_two b m place to word k two =
    let n : Hand = two.0 in
    subst (λ (z : Hand). Makes b z (LoadState to (word_of_state state.Moved)) n) two.1.1 two.1.2

-- ---- the first load ----

-- the steps of finding a record begin its call
pub finding_begins : (b : Board) (h k : Hand) (place at word : ℕ) → IsHandOf b h →
    Finds b h place at word k → HasBegun h (known k)
finding_begins b h k place at word of finds =
    ⊎_elim
    (λ (here : (at ≡ place) × Makes b h (LoadState place word) k).
    begins b h k (LoadState place word) of here.1)
    (λ (there : IsFollowed b h place at word k).
    let first = LoadState place (word_of_state (state.Redirect there.0)) in
    let m = there.1 in
    begun_on h (known m) (known k) (begins b h m first of there.2)
    (follows_on m there.0 there.2.of there.3))
    finds
  where
    follows_on : (m : Hand) (to : ℕ) → IsHandOf b m → FollowsPointer b m place to at word k →
        Continues (known m) (known k)
    follows_on m to here follows =
        ⊎_elim
        (λ (one : (at ≡ to) × Makes b m (LoadState to word) k).
        goes_on b m k (LoadState to word) here one.1)
        (λ (two : (at ≡ place) × IsLoadedAgain b m place to word k).
        let n : Hand = two.1.0 in
        let earlier = first_of_two b m place to word k two.1 in
        continues_trans (known m) (known n) (known k)
        (goes_on b m n (LoadState to (word_of_state state.Moved)) here earlier)
        (goes_on b n k (LoadState place word) earlier.of two.1.2))
        follows

-- a row does not forward, so its record is found there
pub found_in_row : (b : Board) (h k : Hand) (g key place at word : ℕ) → IsHandOf b h →
    IsAt (opening_of b) h.number place (known h) →
    role (opening_of b) place (known h) ≡ InBuffer g key → Finds b h place at word k →
    (at ≡ place) × Makes b h (LoadState place word) k
found_in_row b h k g key place at word of there row finds =
    ⊎_elim (λ (here : (at ≡ place) × Makes b h (LoadState place word) k). here)
    (λ (away : IsFollowed b h place at word k).
    let o = opening_of b in
    let m : Hand = away.1 in
    let first = LoadState place (word_of_state (state.Redirect away.0)) in
    let forwards = forwards_by_word (form o place (known m)) away.0
    (state_says b h m place (word_of_state (state.Redirect away.0)) of away.2) in
    absurd (rows_stay o (known m) (valid_known b h m first of away.2) place g key away.0 forwards.0
    (same_role b h m first of away.2 tt place there ∙ row) forwards.1))
    finds

-- ---- the last load ----

-- the hand, ready at the first place still and at the one where the record is, loaded its state word
pub record IsLoadedLast (b : Board) (h : Hand) (place at word : ℕ) (k : Hand) : Type 0 where
  pub before : Hand
  pub ready : IsReadyAt b before place
  pub there : IsAt (opening_of b) before.number at (known before)
  pub load : Makes b before (LoadState at word) k
  pub still : role (opening_of b) place (known before) ≡ role (opening_of b) place (known h)

pub loaded_last : (b : Board) (h k : Hand) (place at word : ℕ) → IsReadyAt b h place →
    Finds b h place at word k → IsLoadedLast b h place at word k
loaded_last b h k place at word ready finds =
    ⊎_elim
    (λ (here : (at ≡ place) × Makes b h (LoadState place word) k).
    moved_to (sym here.0) (record {
      before = h;
      ready = ready;
      there = ready.at_own.there;
      load = here.1;
      still = refl;
    }))
    (λ (away : IsFollowed b h place at word k).
    let m : Hand = away.1 in
    let pointer : ℕ = word_of_state (state.Redirect away.0) in
    let m_ready = loaded_ready b h m place pointer ready away.2 in
    let still = same_role b h m (LoadState place pointer) ready.of away.2 tt place ready.at_own.there in
    ⊎_elim
    (λ (one : (at ≡ away.0) × Makes b m (LoadState away.0 word) k).
    moved_to (sym one.0) (record {
      before = m;
      ready = m_ready;
      there = (can_follow b h m place pointer ready away.2 away.0 refl).there;
      load = one.1;
      still = still;
    }))
    (λ (two : (at ≡ place) × IsLoadedAgain b m place away.0 word k).
    let n : Hand = two.1.0 in
    let moved = LoadState away.0 (word_of_state state.Moved) in
    let earlier = first_of_two b m place away.0 word k two.1 in
    let n_ready = ready_on b m n moved place tt earlier (λ z. z) m_ready in
    moved_to (sym two.0) (record {
      before = n;
      ready = n_ready;
      there = n_ready.at_own.there;
      load = two.1.2;
      still = same_role b m n moved m_ready.of earlier tt place m_ready.at_own.there ∙ still;
    })) away.3)
    finds
  where
    moved_to : {from : ℕ} → from ≡ at → IsLoadedLast b h place from word k →
        IsLoadedLast b h place at word k
    moved_to same last = subst (λ (z : ℕ). IsLoadedLast b h place z word k) same last

-- ---- what was found there ----

-- a record that is removed where it was found has no value at the first place either
pub removed_there : (b : Board) (h k : Hand) (place at word : ℕ) → IsReadyAt b h place →
    Finds b h place at word k → IsDirect (form (opening_of b) at (known k)) →
    is_removed (form (opening_of b) at (known k)) ≡ true → HasNoValue (opening_of b) (known k) place
removed_there b h k place at word ready finds direct gone =
    let o = opening_of b in
    ⊎_elim (λ (here : (at ≡ place) × Makes b h (LoadState place word) k). in_place here.0)
    (λ (away : IsFollowed b h place at word k).
    let m : Hand = away.1 in
    let to : ℕ = away.0 in
    let pointer : ℕ = word_of_state (state.Redirect to) in
    ⊎_elim
    (λ (one : (at ≡ to) × Makes b m (LoadState to word) k).
    ⊎_elim
    (λ (is : (value : ℕ) × (form o place (known k) ≡ Redirect to value)).
    inr (to, is.0, is.1, ap (λ (z : ℕ). is_removed (form o z (known k))) (sym one.0) ∙ gone))
    (λ (copied : kind (form o to (known k)) ≡ Away).
    direct_not_away (form o to (known k))
    (subst (λ (z : ℕ). IsDirect (form o z (known k))) one.0 direct) copied)
    (forwards_still b m k place to word (loaded_ready b h m place pointer ready away.2)
    (forwards_to b h m place pointer ready away.2 to refl)
    (can_follow b h m place pointer ready away.2 to refl) one.1))
    (λ (two : (at ≡ place) × IsLoadedAgain b m place to word k). in_place two.0) away.3)
    finds
  where
    in_place : at ≡ place → HasNoValue (opening_of b) (known k) place
    in_place same =
        inl (ap (λ (z : ℕ). is_removed (form (opening_of b) z (known k))) (sym same) ∙ gone)
