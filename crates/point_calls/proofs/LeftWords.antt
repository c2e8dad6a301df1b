-- Words at which a hand stores nothing as its call goes on.
use Rattle.std.proofs.Common.{◌≡◌, ◌≢◌, ℕ, zero, suc, Bool, false, inl, inr, List, [], ◌∷◌, ◌++◌}
use Rattle.std.proofs.Common.{refl, sym, ap, ◌∙◌, subst, append_assoc, ne_eqb}
use Rattle.std.proofs.lemmas.List.{append_cancel_right}
use Rattle.std.specs.Prelude.{◌&&◌}
use Rattle.word_layout.specs.declared.places.Part.{Part}
use Rattle.word_layout.specs.declared.places.Part.TheVariants.{Link}
use Rattle.word_layout.specs.Places.{same_part}
use Rattle.word_layout.specs.Words.{FreeHead, PlaceWord, Word, same_word}
use Rattle.index_machine.specs.declared.events.Action.{Action}
use Rattle.index_machine.specs.declared.events.Action.TheVariants.{LoadHead, LoadKey, LoadLink}
use Rattle.index_machine.specs.declared.opening.Opening.{Opening}
use Rattle.index_machine.specs.Execution.{Continues, Execution, Without, event}
use Rattle.index_machine.specs.Rows.{HeldBy, Holds, InBuffer}
use Rattle.index_machine.specs.Words.{link_behind, store_of}
use Rattle.index_machine.proofs.Executions.{continues_trans}
use Rattle.machine_buffers.specs.Walks.{IsLinkBefore}
use Rattle.index_rule.specs.declared.board.Board.{Board}
use Rattle.index_rule.specs.declared.hand.Hand.{Hand}
use Rattle.index_rule.specs.Hands.{IsHandOf, Makes, MakesAll, known}
use Rattle.index_rule.proofs.Calls.{up_to}
use Rattle.index_rule.proofs.Stepping.{known_is, others_only}
use Rattle.delta_buffer.specs.Walks.{AreWalkOf, HasJustMade, IsWalkOf, Walks}
use Rattle.point_calls.specs.PointCalls.{LeavesWord, MakesAt, MakesThen, StoresElsewhere}
use Rattle.point_calls.proofs.Knowing.{IsIn, in_walk}

-- ---- executions ----

-- what others do stores nothing of the hand's
others_leave : (hand : ℕ) (w : Word) (newer : Execution) → Without hand newer →
    LeavesWord hand w newer
others_leave hand w [] without = tt
others_leave hand w (e ∷ newer) without =
    ((λ own. absurd (without.0 own)), others_leave hand w newer without.1)

leaves_both : (hand : ℕ) (w : Word) (later earlier : Execution) → LeavesWord hand w later →
    LeavesWord hand w earlier → LeavesWord hand w (later ++ earlier)
leaves_both hand w [] earlier last first = first
leaves_both hand w (e ∷ later) earlier last first =
    (last.0, leaves_both hand w later earlier last.1 first)

leaves_last : (hand : ℕ) (w : Word) (later earlier : Execution) →
    LeavesWord hand w (later ++ earlier) → LeavesWord hand w later
leaves_last hand w [] earlier leaves = tt
leaves_last hand w (e ∷ later) earlier leaves =
    (leaves.0, leaves_last hand w later earlier leaves.1)

-- ---- one step ----

-- the hand made this step in the call that began so, and it stands at the end
pub made_at : (b : Board) (start h k : Hand) (d : Action) (w : Word) →
    Continues (known start) (known h) → h.number ≡ start.number → IsHandOf b h → Makes b h d k →
    MakesAt start w d k
made_at b start h k d w since same of m = (
  m.acts.0 ++ known h,
  [],
  continues_trans (known start) (known h) (m.acts.0 ++ known h) since (up_to b h k d of m),
  subst (λ (z : ℕ). event z d ∷ m.acts.0 ++ known h ≡ known k) same (sym (known_is b h k d of m)),
  tt,
)

-- a step that stores elsewhere, and what others did before it
leaves_step : (b : Board) (start h k : Hand) (d : Action) (w : Word) → h.number ≡ start.number →
    IsHandOf b h → StoresElsewhere w (store_of h.number d) → (m : Makes b h d k) →
    LeavesWord start.number w (event h.number d ∷ m.acts.0)
leaves_step b start h k d w same of elsewhere m =
    subst (λ (z : ℕ). LeavesWord z w (event h.number d ∷ m.acts.0)) same
    ((λ own. elsewhere), others_leave h.number w m.acts.0 (others_only b h k d of m))

-- so the hand has stored nothing there since
pub left_on : (b : Board) (start h k : Hand) (first d : Action) (w : Word) →
    h.number ≡ start.number → IsHandOf b h → StoresElsewhere w (store_of h.number d) →
    Makes b h d k → MakesAt start w first h → MakesAt start w first k
left_on b start h k first d w same of elsewhere m one =
    let step : Execution = event h.number d ∷ m.acts.0 in (
      one.0,
      step ++ one.1,
      one.2,
      append_assoc step one.1 (event start.number first ∷ one.0)
          ∙ (ap (λ (z : Execution). step ++ z) one.3 ∙ sym (known_is b h k d of m)),
      leaves_both start.number w step one.1 (leaves_step b start h k d w same of elsewhere m) one.4,
    )

-- and the step was made behind the one before
pub made_behind : (b : Board) (start h k : Hand) (first d : Action) (w : Word) →
    h.number ≡ start.number → IsHandOf b h → MakesAt start w first h → Makes b h d k →
    MakesThen start w first d k
made_behind b start h k first d w same of one m =
    let others : Execution = m.acts.0 in (
      one.0,
      others ++ one.1,
      one.2,
      (
        [],
        ap (λ (z : Execution). event start.number d ∷ z)
            (append_assoc others one.1 (event start.number first ∷ one.0)
            ∙ ap (λ (z : Execution). others ++ z) one.3)
            ∙ subst (λ (z : ℕ). event z d ∷ others ++ known h ≡ known k) same
            (sym (known_is b h k d of m)),
      ),
      leaves_both start.number w others one.1
          (subst (λ (z : ℕ). LeavesWord z w others) same
          (others_leave h.number w others (others_only b h k d of m)))
          one.4,
    )

-- ---- a walk ----

walk_elsewhere : (g l : ℕ) (d : Action) (hand : ℕ) (w : Word) → IsWalkOf g l d →
    StoresElsewhere w (store_of hand d)
walk_elsewhere g l (LoadHead h j n) hand w is = tt
walk_elsewhere g l (LoadLink h p n) hand w is = tt
walk_elsewhere g l (LoadKey p n) hand w is = tt
walk_elsewhere g l d hand w is = absurd is

-- the hand stored nothing at the word between these two moments
abbrev LeavesBetween : ℕ → Word → Execution → Execution → Type 0
LeavesBetween hand w earlier later =
    (newer : Execution) × (newer ++ earlier ≡ later) × LeavesWord hand w newer

-- so a walk leaves each word
walk_leaves : (b : Board) (g l : ℕ) (start h : Hand) (w : Word) (actions : List Action) (k : Hand) →
    AreWalkOf g l actions → MakesAll b h actions k → IsIn b start h →
    LeavesBetween start.number w (known h) (known k)
walk_leaves b g l start h w [] k are all i = ([], ap known (sym all), tt)
walk_leaves b g l start h w (d ∷ actions) k are all i =
    let mid : Hand = all.0 in
    let m : Makes b mid d k = all.2 in
    let at : IsIn b start mid = in_walk b g l start h actions mid are.1 all.1 i in
    let before = walk_leaves b g l start h w actions mid are.1 all.1 i in
    let step : Execution = event mid.number d ∷ m.acts.0 in (
      step ++ before.0,
      append_assoc step before.0 (known h)
          ∙ (ap (λ (z : Execution). step ++ z) before.1 ∙ sym (known_is b mid k d at.of m)),
      leaves_both start.number w step before.0
          (leaves_step b start mid k d w at.number at.of
          (walk_elsewhere g l d mid.number w are.0) m)
          before.2,
    )

-- one of its loads was made at a moment of it, and the hand has stored nothing at the word since
pub walked_at : (b : Board) (g l : ℕ) (start h k : Hand) (d : Action) (w : Word)
    (moment : Execution) → IsIn b start h → Walks b g l h k → HasJustMade h d moment →
    Continues moment (known k) → MakesAt start w d k
walked_at b g l start h k d w moment i walks made on =
    let left = walk_leaves b g l start h w walks.0 k walks.1 walks.2 i in
    let is : event start.number d ∷ made.0 ≡ moment =
    subst (λ (z : ℕ). event z d ∷ made.0 ≡ moment) i.number made.2 in
    let upto : Execution = event start.number d ∷ made.1.0 in
    let same : left.0 ≡ on.0 ++ upto =
    append_cancel_right left.0 (on.0 ++ upto) (known h)
    (left.1 ∙ sym (append_assoc on.0 upto (known h)
    ∙ (ap (λ (z : Execution). on.0 ++ z)
    (ap (λ (z : Execution). event start.number d ∷ z) made.1.1 ∙ is) ∙ on.1))) in (
      made.0,
      on.0,
      continues_trans (known start) (known h) made.0 i.since made.1,
      ap (λ (z : Execution). on.0 ++ z) is ∙ on.1,
      leaves_last start.number w on.0 upto (subst (LeavesWord start.number w) same left.2),
    )

-- ---- the words of a new row ----

-- the head of the free stack is no link
pub head_elsewhere : (g l before : ℕ) → same_word FreeHead (link_behind g l before) ≡ false
head_elsewhere g l zero = refl
head_elsewhere g l (suc n) = refl

-- a row of the hand's own is not the one behind which it links
pub row_elsewhere : (o : Opening) (hand g l key before place : ℕ) (part : Part) (t : Execution) →
    IsLinkBefore o g l key before t → Holds o hand place t →
    same_word (PlaceWord place part) (link_behind g l before) ≡ false
row_elsewhere o hand g l key zero place part t between held = refl
row_elsewhere o hand g l key (suc n) place part t (inl none) held = absurd (let bad = none in cc)
row_elsewhere o hand g l key (suc n) place part t (inr row) held =
    ap (λ (z : Bool). z && same_part part Link) (ne_eqb place (suc n) differ)
  where
    in_buffer : {group j owner : ℕ} → InBuffer group j ≡ HeldBy owner → ⊥
    in_buffer e = absurd (let bad = e in cc)

    differ : place ≢ suc n
    differ same = in_buffer (sym row.1 ∙ subst (λ (z : ℕ). Holds o hand z t) same held)
