-- Once one seat is all hands, it knows every event.
use Rattle.std.specs.Prelude.{Option, option_to_list}
use Rattle.std.proofs.Common.{◌≡◌, inl, inr, ⊎_elim, ℕ, zero, suc, ◌<◌, Some, List, [], ◌∷◌, ◌++◌}
use Rattle.std.proofs.Common.{length, slice_index, refl, sym, ap, ◌∙◌, subst, arith}
use mathlib.Core.Option.{some, some-injective, some-ne-none}
use lib.ListN.{get_elem?}
use Rattle.word_layout.specs.Limits.{word_count}
use Rattle.index_machine.specs.Words.{shape}
use Rattle.atomic_table.specs.Table.{Final, Seen}
use Rattle.index_machine.specs.declared.opening.Opening.{Opening}
use Rattle.index_machine.specs.Execution.{Execution, ContinuesWithout}
use Rattle.index_machine.specs.Lists.{In}
use Rattle.index_rule.specs.declared.board.Board.{Board}
use Rattle.index_rule.specs.declared.hand.Hand.{Hand}
use Rattle.index_rule.specs.declared.view.View.{View}
use Rattle.index_rule.specs.declared.view.Heard.{Heard}
use Rattle.index_rule.specs.Rule.{Owns, GoesOn, GoesOnFromAll, AreOwn, Knows, Kept}
use Rattle.index_rule.specs.Hands.{known, view, IsHandOf}
use Rattle.index_rule.specs.Seats.{joined, heard_of}
use Rattle.index_rule.specs.Ended.{AreOf, AreOutside, EndsFor, IsHeard, Includes, IncludesAll}
use Rattle.index_rule.specs.Ended.{Leaves, LeavesInMemory}
use Rattle.index_rule.specs.Offsets.{HoldsWords, Spreads, offset_of}
use Rattle.index_rule.proofs.Offsets.{gathered-stands}
use Rattle.index_rule.proofs.Seats.{goes_further, in_left, in_right}
use Rattle.index_rule.proofs.Steps.{is_some}

-- ---- joining one by one ----

-- the seat that takes in a hand includes it
pub includes_joined : (v : View) (h : Hand) → Includes (joined v (view h)) h
includes_joined v h =
    record {
      owns = in_right h.number v.numbers (view h).numbers
          (subst (In h.number) (sym h.mine) (inl refl));
      told = inr (inl refl);
    }

-- and includes whom it included before
pub includes_still : (v w : View) (h : Hand) → Includes v h → Includes (joined v w) h
includes_still v w h old =
    record {
      owns = in_left h.number v.numbers w.numbers old.owns;
      told = ⊎_elim
          (λ (same : view h ≡ v). inr (inr (inl (ap heard_of same))))
          (λ (heard : IsHeard (heard_of (view h)) v.heard). inr (inr (inr heard)))
          old.told;
    }

pub all_still : (v w : View) (hs : List Hand) → IncludesAll v hs → IncludesAll (joined v w) hs
all_still v w [] all = tt
all_still v w (h ∷ hs) all = (includes_still v w h all.0, all_still v w hs all.1)

pub all_snoc : (v : View) (hs : List Hand) (h : Hand) → IncludesAll v hs → Includes v h →
    IncludesAll v (hs ++ h ∷ [])
all_snoc v [] h all one = (one, tt)
all_snoc v (g ∷ hs) h all one = (all.0, all_snoc v hs h all.1 one)

-- a hand includes itself
pub includes_itself : (h : Hand) (v : View) → v ≡ view h → Includes v h
includes_itself h v is =
    record {
      owns = subst (λ (z : View). Owns z h.number) (sym is)
          (subst (In h.number) (sym h.mine) (inl refl));
      told = inl (sym is);
    }

pub none_left : (hs : List Hand) → length hs ≡ 0 → hs ≡ []
none_left [] e = refl
none_left (h ∷ hs) e = absurd (omega arith)

-- ---- the end ----

heard_goes_on : (x : Heard) (hs : List Heard) (numbers : List ℕ) (known t : Execution) →
    IsHeard x hs → AreOwn hs numbers → GoesOnFromAll hs known → GoesOn numbers known t →
    GoesOn x.numbers x.known t
heard_goes_on x [] numbers known t is own all on = absurd is
heard_goes_on x (y ∷ hs) numbers known t is own all on =
    ⊎_elim
    (λ (same : x ≡ y). subst (λ (z : Heard). GoesOn z.numbers z.known t) (sym same)
    (goes_further y.numbers numbers y.known known t own.0 all.0 on))
    (λ (rest : IsHeard x hs). heard_goes_on x hs numbers known t rest own.1 all.1 on) is

-- a hand that the seat includes made no event that it did not know
ends_one : (o : Opening) (t : Execution) (v : View) (h : Hand) → Knows o t v → Includes v h →
    ContinuesWithout h.number (known h) t
ends_one o t v h k includes =
    let goes_on : GoesOn (view h).numbers (known h) t = ⊎_elim
    (λ (same : view h ≡ v).
    subst (λ (z : View). GoesOn z.numbers z.known t) (sym same) k.goes_on)
    (λ (heard : IsHeard (heard_of (view h)) v.heard).
    heard_goes_on (heard_of (view h)) v.heard v.numbers v.known t heard k.own_heard k.heard
    k.goes_on)
    includes.told
    in
    (goes_on.0, goes_on.1, goes_on.2 h.number (subst (In h.number) (sym h.mine) (inl refl)))

ends_all : (o : Opening) (t : Execution) (v : View) (hs : List Hand) → Knows o t v →
    IncludesAll v hs → EndsFor hs t
ends_all o t v [] k all = tt
ends_all o t v (h ∷ hs) k all = (ends_one o t v h k all.0, ends_all o t v hs k all.1)

pub ended : (o : Opening) (id : ℕ) (v : View) (hs : List Hand) (ws : List ℕ)
    (xs : List (Unit {0})) → v.opening ≡ Some o → IncludesAll v hs →
    Final (Seen (Kept o) id v) ws xs → LeavesInMemory o hs ws
ended o id v hs ws xs of all f =
    let r = f.1.0 in
    let k = r.known id v f.1.1 (is_some v.opening o of) in
    record {
      execution = r.execution;
      valid = r.valid;
      ends = ends_all o r.execution v hs k all;
      held = subst (λ (z : List ℕ). HoldsWords o z r.execution) f.2 r.words;
    }

pub are_of : (b : Board) (hs : List Hand) → AreOutside b hs → AreOf b hs
are_of b [] all = tt
are_of b (h ∷ hs) all = (all.0, are_of b hs all.2)

pub are_of_front : (b : Board) (hs gs : List Hand) → AreOf b (hs ++ gs) → AreOf b hs
are_of_front b [] gs all = tt
are_of_front b (h ∷ hs) gs all = (all.0, are_of_front b hs gs all.1)

are_of_last : (b : Board) (hs : List Hand) (h : Hand) → AreOf b (hs ++ h ∷ []) → IsHandOf b h
are_of_last b [] h all = all.0
are_of_last b (g ∷ hs) h all = are_of_last b hs h all.1

-- the hand that was popped is the last one
pub popped_last : (all rest : List Hand) (popped : Option Hand) (h : Hand) →
    all ≡ rest ++ option_to_list popped → popped ≡ Some h → all ≡ rest ++ h ∷ []
popped_last all rest popped h items is =
    items ∙ ap (λ (z : Option Hand). rest ++ option_to_list z) is

-- and one of the board
pub popped_of : (b : Board) (all rest : List Hand) (popped : Option Hand) (h : Hand) →
    AreOutside b all → all ≡ rest ++ option_to_list popped → popped ≡ Some h → IsHandOf b h
popped_of b all rest popped h outside items is =
    are_of_last b rest h
    (subst (AreOf b) (popped_last all rest popped h items is) (are_of b all outside))

-- ---- the words that are handed out ----

pub got : (l : List ℕ) (i x : ℕ) → get_elem? l i ≡ some x → slice_index l i ≡ x
got [] i x e = absurd (some-ne-none x (sym e))
got (a ∷ l) zero x e = some-injective a x e
got (a ∷ l) (suc i) x e = got l i x e

-- the words that were gathered by their addresses are those that are left
pub leaves_gathered : (o : Opening) (hs : List Hand) (words memory : List ℕ) →
    length words ≡ word_count (shape o) →
    ((a : ℕ) → a < word_count (shape o) →
    slice_index memory (offset_of (shape o) a) ≡ slice_index words a) →
    LeavesInMemory o hs memory → Leaves o hs words
leaves_gathered o hs words memory wide each left =
    let spread : Spreads (shape o) words memory = record { wide = left.held.wide; each = each } in
    record {
      execution = left.execution;
      valid = left.valid;
      ends = left.ends;
      left = gathered-stands o words memory left.execution left.held spread wide;
    }
