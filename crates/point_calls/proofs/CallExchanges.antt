-- The exchanges that the parts of a call make.
use Rattle.std.proofs.Common.{◌≡◌, ℕ, ◌+◌, ◌≤◌, Bool, false, cond, ⊎_elim, Option, Some, None}
use Rattle.std.proofs.Common.{List, [], ◌∷◌, refl, ap, ◌∙◌, arith}
use Rattle.map_model.specs.declared.entries.Change.{Change}
use Rattle.map_model.specs.declared.entries.Change.TheVariants.{Put, Remove}
use Rattle.word_layout.specs.State.{word_of_state}
use Rattle.word_layout.specs.declared.state.State.TheVariants.{Moved, Redirect}
use Rattle.word_layout.specs.declared.places.Part.TheVariants as part
use Rattle.index_machine.specs.declared.events.Action.{Action}
use Rattle.index_machine.specs.declared.events.Action.TheVariants.{FailLink, FailLock, FailPop}
use Rattle.index_machine.specs.declared.events.Action.TheVariants.{LinkRow, LoadFree, LoadFreeLink}
use Rattle.index_machine.specs.declared.events.Action.TheVariants.{LoadHead, LoadKey, LoadLink}
use Rattle.index_machine.specs.declared.events.Action.TheVariants.{LoadState, LoadValue, Lock}
use Rattle.index_machine.specs.declared.events.Action.TheVariants.{PopFree, StorePrivate, StoreValue}
use Rattle.index_machine.specs.declared.events.Action.TheVariants.{Unlock}
use Rattle.index_rule.specs.declared.board.Board.{Board}
use Rattle.index_rule.specs.declared.hand.Hand.{Hand}
use Rattle.index_rule.specs.declared.swap.Linked.{Linked}
use Rattle.index_rule.specs.declared.swap.Linked.TheVariants as linked
use Rattle.index_rule.specs.declared.view.View.{View}
use Rattle.index_rule.specs.Hands.{IsHandOf, Makes, MakesAll, known, opening_of}
use Rattle.index_rule.specs.Looks.{AddsLook}
use Rattle.index_rule.specs.OwnRows.{place_of_private}
use Rattle.row_arena.specs.declared.taking.Taken.{Taken}
use Rattle.row_arena.specs.declared.taking.Taken.TheVariants as taken
use Rattle.row_arena.specs.Taking.{Fills, TakesRow, first_state}
use Rattle.delta_buffer.specs.Inserting.{Inserts, change_of}
use Rattle.delta_buffer.specs.Walks.{AreWalkOf, IsWalkOf, Walks}
use Rattle.sorted_group.specs.Loads.{AreLaneLoads, IsCutLoad, LoadsLanes}
use Rattle.word_layout.specs.declared.headers.HeaderWord.{HeaderWord}
use Rattle.word_layout.specs.declared.headers.HeaderWord.TheVariants.{Cut, Lanes}
use Rattle.index_machine.specs.declared.events.Action.TheVariants.{LoadHeader}
use Rattle.record_cell.specs.declared.answers.Read.{Read}
use Rattle.record_cell.specs.declared.answers.Read.TheVariants as read
use Rattle.record_cell.specs.declared.answers.Wrote.{Wrote}
use Rattle.record_cell.specs.declared.answers.Wrote.TheVariants as wrote
use Rattle.record_cell.specs.Finding.{Finds, FollowsPointer}
use Rattle.record_cell.specs.Reads.{LoadsAgain, Reads}
use Rattle.record_cell.specs.Reviving.{BringsToLife}
use Rattle.record_cell.specs.Writes.{Writes, changing, put_at}
use Rattle.point_calls.specs.Exchanges.{MakesFewExchanges}
use Rattle.point_calls.specs.Exchanges.{exchanges_head, exchanges_link, exchanges_lock}
use Rattle.point_calls.specs.Exchanges.{head_exchanges, link_exchanges, lock_exchanges}
use Rattle.point_calls.specs.Exchanges.{no_exchange, one_head, one_head_and_link, one_link}
use Rattle.point_calls.specs.Exchanges.{one_lock, one_of_each}
use Rattle.point_calls.proofs.Exchanging.{count_in, few_behind, few_steps, few_then, fewer, just_one}
use Rattle.point_calls.proofs.Exchanging.{none_by, none_made, none_yet}

-- ---- coming to the key ----

no_walk_counts : (kind : Action → Bool) → ((g l : ℕ) (d : Action) → IsWalkOf g l d → kind d ≡ false) →
    (g l : ℕ) (actions : List Action) → AreWalkOf g l actions → count_in kind actions ≡ 0
no_walk_counts kind none g l [] are = refl
no_walk_counts kind none g l (d ∷ actions) are =
    let is = none g l d are.0 in
    let rest = no_walk_counts kind none g l actions are.1 in
    ap (λ (z : Bool). cond z 1 0 + count_in kind actions) is ∙ rest_is rest
  where
    rest_is : {n : ℕ} → n ≡ 0 → 0 + n ≡ 0
    rest_is is = omega arith

walk_no_lock : (g l : ℕ) (d : Action) → IsWalkOf g l d → exchanges_lock d ≡ false
walk_no_lock g l (LoadHead h j n) is = refl
walk_no_lock g l (LoadLink h p n) is = refl
walk_no_lock g l (LoadKey p n) is = refl
walk_no_lock g l d is = absurd is

walk_no_head : (g l : ℕ) (d : Action) → IsWalkOf g l d → exchanges_head d ≡ false
walk_no_head g l (LoadHead h j n) is = refl
walk_no_head g l (LoadLink h p n) is = refl
walk_no_head g l (LoadKey p n) is = refl
walk_no_head g l d is = absurd is

walk_no_link : (g l : ℕ) (d : Action) → IsWalkOf g l d → exchanges_link d ≡ false
walk_no_link g l (LoadHead h j n) is = refl
walk_no_link g l (LoadLink h p n) is = refl
walk_no_link g l (LoadKey p n) is = refl
walk_no_link g l d is = absurd is

pub walk_makes_none : (b : Board) (g l : ℕ) (h k : Hand) → IsHandOf b h → Walks b g l h k →
    MakesFewExchanges no_exchange h k
walk_makes_none b g l h k of walks =
    none_made b h walks.0 k of walks.2 (no_walk_counts exchanges_lock walk_no_lock g l walks.0 walks.1)
    (no_walk_counts exchanges_head walk_no_head g l walks.0 walks.1)
    (no_walk_counts exchanges_link walk_no_link g l walks.0 walks.1)

no_lane_counts : (kind : Action → Bool) →
    ((g : ℕ) (which : HeaderWord) (n : ℕ) → kind (LoadHeader g which n) ≡ false) →
    (g : ℕ) (actions : List Action) → AreLaneLoads g actions → count_in kind actions ≡ 0
no_lane_counts kind none g [] are = absurd are
no_lane_counts kind none g (d ∷ []) are =
    ap (λ (z : Bool). cond z 1 0 + 0) (ap kind are.1 ∙ none g Lanes are.0)
no_lane_counts kind none g (d ∷ (next ∷ actions)) are =
    ap (λ (z : Bool). cond z 1 0 + count_in kind (next ∷ actions)) (cut_is g d are.0)
    ∙ rest_is (no_lane_counts kind none g (next ∷ actions) are.1)
  where
    rest_is : {n : ℕ} → n ≡ 0 → 0 + n ≡ 0
    rest_is is = omega arith

    cut_is : (h : ℕ) (e : Action) → IsCutLoad h e → kind e ≡ false
    cut_is h (LoadHeader i (Cut lane) n) is = none i (Cut lane) n
    cut_is h e is = absurd is

pub lanes_make_none : (b : Board) (g most : ℕ) (h k : Hand) → IsHandOf b h → LoadsLanes b g most h k →
    MakesFewExchanges no_exchange h k
lanes_make_none b g most h k of loads =
    none_made b h loads.0 k of loads.3
    (no_lane_counts exchanges_lock (λ i which n. refl) g loads.0 loads.1)
    (no_lane_counts exchanges_head (λ i which n. refl) g loads.0 loads.1)
    (no_lane_counts exchanges_link (λ i which n. refl) g loads.0 loads.1)

-- ---- a look ----

as_many : (x y : ℕ) → x ≡ y → x ≤ y + 0
as_many x y is = omega arith

-- a look is no event
pub look_makes_none : (b : Board) (start h k : Hand) (key : ℕ) (found : Option ℕ) →
    AddsLook b start h key found k → k.number ≡ h.number → MakesFewExchanges no_exchange h k
look_makes_none b start h k key found written number =
    let same : known k ≡ known h = ap (λ (v : View). v.known) written.3 in
    record {
      locks = as_many _ _ (λ i. lock_exchanges (number i) (same i));
      heads = as_many _ _ (λ i. head_exchanges (number i) (same i));
      links = as_many _ _ (λ i. link_exchanges (number i) (same i));
    }

-- ---- records ----

follow_makes_none : (b : Board) (h : Hand) (place to at word : ℕ) (k : Hand) → IsHandOf b h →
    FollowsPointer b h place to at word k → MakesFewExchanges no_exchange h k
follow_makes_none b h place to at word k of follows =
    ⊎_elim
    (λ (z : (at ≡ to) × Makes b h (LoadState to word) k).
    none_by b h (LoadState to word) k of z.1 refl refl refl)
    (λ (z : (at ≡ place)
    × MakesAll b h (LoadState place word ∷ LoadState to (word_of_state Moved) ∷ []) k).
    none_made b h (LoadState place word ∷ LoadState to (word_of_state Moved) ∷ []) k of z.1 refl refl
    refl) follows

-- a record is found by loads alone
pub find_makes_none : (b : Board) (h : Hand) (place at word : ℕ) (k : Hand) → IsHandOf b h →
    Finds b h place at word k → MakesFewExchanges no_exchange h k
find_makes_none b h place at word k of finds =
    ⊎_elim
    (λ (z : (at ≡ place) × Makes b h (LoadState place word) k).
    none_by b h (LoadState place word) k of z.1 refl refl refl)
    (λ (z : (to : ℕ) × (m : Hand) × Makes b h (LoadState place (word_of_state (Redirect to))) m
    × FollowsPointer b m place to at word k).
    few_behind no_exchange h z.1 k
    (none_by b h (LoadState place (word_of_state (Redirect z.0))) z.1 of z.2 refl refl refl)
    (follow_makes_none b z.1 place z.0 at word k z.2.of z.3)) finds

found_of : (b : Board) (h : Hand) (place at word : ℕ) (k : Hand) → Finds b h place at word k →
    IsHandOf b k
found_of b h place at word k finds =
    ⊎_elim (λ (z : (at ≡ place) × Makes b h (LoadState place word) k). z.1.of)
    (λ (z : (to : ℕ) × (m : Hand) × Makes b h (LoadState place (word_of_state (Redirect to))) m
    × FollowsPointer b m place to at word k).
    ⊎_elim (λ (y : (at ≡ z.0) × Makes b z.1 (LoadState z.0 word) k). y.1.of)
    (λ (y : (at ≡ place)
    × MakesAll b z.1 (LoadState place word ∷ LoadState z.0 (word_of_state Moved) ∷ []) k).
    y.1.2.of) z.3) finds

again_makes_none : (b : Board) (h m : Hand) (place at word value second : ℕ) (k : Hand) →
    IsHandOf b h → Finds b h place at word m → LoadsAgain b m at value second k →
    MakesFewExchanges no_exchange h k
again_makes_none b h m place at word value second k of finds again =
    few_behind no_exchange h m k (find_makes_none b h place at word m of finds)
    (none_made b m (LoadState at second ∷ LoadValue at value ∷ []) k
    (found_of b h place at word m finds) (again.0, (m, refl, again.1), again.2) refl refl refl)

-- so is it read
pub read_makes_none : (b : Board) (h : Hand) (place : ℕ) (r : Read) (k : Hand) → IsHandOf b h →
    Reads b h place r k → MakesFewExchanges no_exchange h k
read_makes_none b h place (read.Live value) k of s =
    again_makes_none b h s.2 place s.0 s.1 value s.1 k of s.3 s.5
read_makes_none b h place read.Gone k of s = find_makes_none b h place s.0 s.1 k of s.2
read_makes_none b h place (read.Locked at word) k of s = find_makes_none b h place at word k of s.0
read_makes_none b h place (read.Changed at first second) k of s =
    again_makes_none b h s.1 place at first s.0 second k of s.2 s.4

-- a tombstone is found by loads alone
pub gone_makes_none : (b : Board) (h : Hand) (place : ℕ) (change : Change) (word : ℕ) (k : Hand) →
    IsHandOf b h → Writes b h place change (wrote.Gone word) k → MakesFewExchanges no_exchange h k
gone_makes_none b h place change word k of s = find_makes_none b h place s.0 word k of s.1

-- none is as few as one
pub lock_or_none : (h k : Hand) → MakesFewExchanges no_exchange h k → MakesFewExchanges one_lock h k
lock_or_none h k none =
    fewer no_exchange one_lock h k (none_yet 1) (none_yet 0) (none_yet 0) none

changing_makes_one : (b : Board) (h : Hand) (at word old stored : ℕ) (change : Change) (k : Hand) →
    IsHandOf b h → MakesAll b h (changing at word old change stored) k →
    MakesFewExchanges one_lock h k
changing_makes_one b h at word old stored (Put c j v) k of all =
    few_steps b one_lock h (changing at word old (Put c j v) stored) k of all just_one (none_yet 0)
    (none_yet 0)
changing_makes_one b h at word old stored (Remove c j) k of all =
    few_steps b one_lock h (changing at word old (Remove c j) stored) k of all just_one (none_yet 0)
    (none_yet 0)

failing_makes_one : (b : Board) (h : Hand) (at expected found : ℕ) (k : Hand) → IsHandOf b h →
    Makes b h (FailLock at expected found) k → MakesFewExchanges one_lock h k
failing_makes_one b h at expected found k of m =
    few_steps b one_lock h (FailLock at expected found ∷ []) k of (h, refl, m) just_one (none_yet 0)
    (none_yet 0)

-- an update or a removal tries to take one lock at most
pub write_makes_one : (b : Board) (h : Hand) (place : ℕ) (change : Change) (w : Wrote) (k : Hand) →
    IsHandOf b h → Writes b h place change w k → MakesFewExchanges one_lock h k
write_makes_one b h place change (wrote.Done None) k of s = absurd s
write_makes_one b h place change (wrote.Done (Some old)) k of s =
    few_behind one_lock h s.3 k (find_makes_none b h place s.0 s.1 s.3 of s.4)
    (changing_makes_one b s.3 s.0 s.1 old s.2 change k (found_of b h place s.0 s.1 s.3 s.4) s.6)
write_makes_one b h place change (wrote.Gone word) k of s =
    lock_or_none h k (find_makes_none b h place s.0 word k of s.1)
write_makes_one b h place change (wrote.Live word) k of s = absurd s
write_makes_one b h place change (wrote.Locked at word) k of s =
    lock_or_none h k (find_makes_none b h place at word k of s.0)
write_makes_one b h place change (wrote.Raced at x y) k of s =
    few_behind one_lock h s.0 k (find_makes_none b h place at x s.0 of s.1)
    (failing_makes_one b s.0 at x y k (found_of b h place at x s.0 s.1) s.3)
write_makes_one b h place change (wrote.Worn at word) k of s =
    lock_or_none h k (find_makes_none b h place at word k of s.0)

load_makes_none : (b : Board) (h : Hand) (place word : ℕ) (k : Hand) → IsHandOf b h →
    Makes b h (LoadState place word) k → MakesFewExchanges one_lock h k
load_makes_none b h place word k of m =
    lock_or_none h k (none_by b h (LoadState place word) k of m refl refl refl)

-- so does a revival
pub revival_makes_one : (b : Board) (h : Hand) (place value : ℕ) (w : Wrote) (k : Hand) →
    IsHandOf b h → BringsToLife b h place value w k → MakesFewExchanges one_lock h k
revival_makes_one b h place value (wrote.Done None) k of s =
    few_steps b one_lock h (Unlock place false (put_at b h place value) s.1
    ∷ StoreValue place value ∷ Lock place s.0 ∷ LoadState place s.0 ∷ []) k of s.3 just_one
    (none_yet 0) (none_yet 0)
revival_makes_one b h place value (wrote.Done (Some old)) k of s = absurd s
revival_makes_one b h place value (wrote.Gone word) k of s = absurd s
revival_makes_one b h place value (wrote.Live word) k of s = load_makes_none b h place word k of s.0
revival_makes_one b h place value (wrote.Locked at word) k of s =
    load_makes_none b h place word k of s.1
revival_makes_one b h place value (wrote.Raced at x y) k of s =
    few_steps b one_lock h (FailLock place x y ∷ LoadState place x ∷ []) k of s.2 just_one (none_yet 0)
    (none_yet 0)
revival_makes_one b h place value (wrote.Worn at word) k of s =
    load_makes_none b h place word k of s.1

-- ---- a new row ----

-- a row is taken by one exchange of the head at most
pub take_makes_one : (b : Board) (h : Hand) (t : Taken) (k : Hand) → IsHandOf b h →
    TakesRow b h t k → MakesFewExchanges one_head h k
take_makes_one b h (taken.Row row) k of s =
    let place = place_of_private row in
    few_steps b one_head h (PopFree place s.1.0 ∷ LoadFreeLink place s.1.0 ∷ LoadFree place ∷ []) k of
    s.1.1 (none_yet 0) just_one (none_yet 0)
take_makes_one b h taken.Empty k of s =
    few_steps b one_head h (LoadFree 0 ∷ []) k of s (none_yet 0) (none_yet 1) (none_yet 0)
take_makes_one b h (taken.Raced x y) k of s =
    few_steps b one_head h (FailPop x y ∷ LoadFreeLink x s.2.0 ∷ LoadFree x ∷ []) k of s.2.1
    (none_yet 0) just_one (none_yet 0)

-- it is filled by stores alone
pub fill_makes_none : (b : Board) (h : Hand) (place key value : ℕ) (k : Hand) → IsHandOf b h →
    Fills b h place key value k → MakesFewExchanges no_exchange h k
fill_makes_none b h place key value k of fills =
    none_made b h (StorePrivate place part.State (first_state (opening_of b))
    ∷ StorePrivate place part.Value value ∷ StorePrivate place part.Key key ∷ []) k of fills.steps refl
    refl refl

-- and linked by one exchange of a link
pub insert_makes_one : (b : Board) (h : Hand) (g lane place before next : ℕ) (l : Linked)
    (k : Hand) → IsHandOf b h → Inserts b h g lane place before next l k → MakesFewExchanges one_link h k
insert_makes_one b h g lane place before next linked.Done k of s =
    few_steps b one_link h (LinkRow g lane place (change_of b h place) before next
    ∷ StorePrivate place part.Link next ∷ []) k of s (none_yet 0) (none_yet 0) just_one
insert_makes_one b h g lane place before next (linked.Raced row found) k of s =
    few_steps b one_link h (FailLink g lane before next found ∷ StorePrivate place part.Link next ∷ []) k of
    s.2 (none_yet 0) (none_yet 0) just_one

-- so does a row that is taken, filled and linked come into a buffer
pub row_makes_two : (h n r k e : Hand) → MakesFewExchanges no_exchange h n →
    MakesFewExchanges one_head n r → MakesFewExchanges no_exchange r k →
    MakesFewExchanges one_link k e → MakesFewExchanges one_head_and_link h e
row_makes_two h n r k e before head fills link =
    few_then one_head one_link one_head_and_link h r e (few_behind one_head h n r before head)
    (few_behind one_link r k e fills link) (none_yet 0) just_one just_one

-- where none was taken, none was linked
pub head_makes_two : (h n r : Hand) → MakesFewExchanges no_exchange h n →
    MakesFewExchanges one_head n r → MakesFewExchanges one_head_and_link h r
head_makes_two h n r before head =
    fewer one_head one_head_and_link h r (none_yet 0) just_one (none_yet 1)
    (few_behind one_head h n r before head)

-- ---- a put ----

-- it gives a row that the key has a value, or links a new one
pub lock_in_put : (h n k : Hand) → MakesFewExchanges no_exchange h n →
    MakesFewExchanges one_lock n k → MakesFewExchanges one_of_each h k
lock_in_put h n k before few =
    fewer one_lock one_of_each h k just_one (none_yet 1) (none_yet 1)
    (few_behind one_lock h n k before few)

pub row_in_put : (h n k : Hand) → MakesFewExchanges no_exchange h n →
    MakesFewExchanges one_head_and_link n k → MakesFewExchanges one_of_each h k
row_in_put h n k before few =
    fewer one_head_and_link one_of_each h k (none_yet 1) just_one just_one
    (few_behind one_head_and_link h n k before few)
