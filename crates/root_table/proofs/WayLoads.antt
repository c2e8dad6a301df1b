-- The way to a group is a list of loads, which change nothing: a caller can go on after them as before.
use Rattle.std.proofs.Common.{◌≡◌, ℕ, zero, suc, ◌+◌, ◌<◌, ⊎_elim, None, List, [], ◌∷◌, refl, sym, subst}
use Rattle.word_layout.specs.declared.headers.HeaderWord.TheVariants.{Pivot}
use Rattle.index_machine.specs.declared.events.Action.{Action}
use Rattle.index_machine.specs.declared.events.Action.TheVariants.{LoadHeader, LoadNext, LoadRoot}
use Rattle.index_machine.specs.declared.events.Action.TheVariants.{LoadSlotGroup, LoadSlotPivot}
use Rattle.index_machine.specs.Sections.{IsNoCrossing}
use Rattle.index_machine.specs.Words.{store_of}
use Rattle.index_machine.proofs.Holders.{TakesLock}
use Rattle.index_machine.proofs.Placing.{KeepsRoles}
use Rattle.index_rule.specs.declared.board.Board.{Board}
use Rattle.index_rule.specs.declared.hand.Hand.{Hand}
use Rattle.index_rule.specs.Hands.{MakesAll}
use Rattle.index_rule.proofs.RecordReading.{KeepsLog}
use Rattle.root_table.specs.declared.slots.Slots.{Slots}
use Rattle.root_table.specs.Finding.{ArePivotLoads, FindsGroup}
use Rattle.root_table.specs.Slots.{root_word_of}
use Rattle.root_table.specs.Walks.{HasGoneTo, LooksAhead, WalksTo}

-- ---- the loads ----

-- the action loads a root word, a word of a slot, or a next word or a pivot of a group
abbrev pub IsWayLoad : Action → Type 0
IsWayLoad (LoadRoot part found) = Unit {0}
IsWayLoad (LoadSlotPivot part side i found) = Unit {0}
IsWayLoad (LoadSlotGroup part side i found) = Unit {0}
IsWayLoad (LoadNext group found) = Unit {0}
IsWayLoad (LoadHeader group Pivot found) = Unit {0}
IsWayLoad _ = ⊥

-- so does each of them
abbrev pub AreWayLoads : List Action → Type 0
AreWayLoads [] = Unit {0}
AreWayLoads (action ∷ actions) = IsWayLoad action × AreWayLoads actions

pub way_no_crossing : (d : Action) → IsWayLoad d → IsNoCrossing d
way_no_crossing (LoadRoot p w) is = tt
way_no_crossing (LoadSlotPivot p s i w) is = tt
way_no_crossing (LoadSlotGroup p s i w) is = tt
way_no_crossing (LoadNext g w) is = tt
way_no_crossing (LoadHeader g w n) is = tt
way_no_crossing d is = absurd is

pub way_takes_no_lock : (d : Action) → IsWayLoad d → TakesLock d → ⊥
way_takes_no_lock (LoadRoot p w) is takes = takes
way_takes_no_lock (LoadSlotPivot p s i w) is takes = takes
way_takes_no_lock (LoadSlotGroup p s i w) is takes = takes
way_takes_no_lock (LoadNext g w) is takes = takes
way_takes_no_lock (LoadHeader g w n) is takes = takes
way_takes_no_lock d is takes = absurd is

pub way_keeps_log : (d : Action) → IsWayLoad d → KeepsLog d
way_keeps_log (LoadRoot p w) is o t log = refl
way_keeps_log (LoadSlotPivot p s i w) is o t log = refl
way_keeps_log (LoadSlotGroup p s i w) is o t log = refl
way_keeps_log (LoadNext g w) is o t log = refl
way_keeps_log (LoadHeader g w n) is o t log = refl
way_keeps_log d is o t log = absurd is

pub way_keeps_roles : (d : Action) → IsWayLoad d → KeepsRoles d
way_keeps_roles (LoadRoot p w) is = tt
way_keeps_roles (LoadSlotPivot p s i w) is = tt
way_keeps_roles (LoadSlotGroup p s i w) is = tt
way_keeps_roles (LoadNext g w) is = tt
way_keeps_roles (LoadHeader g w n) is = tt
way_keeps_roles d is = absurd is

pub way_stores_none : (c : ℕ) (d : Action) → IsWayLoad d → store_of c d ≡ None
way_stores_none c (LoadRoot p w) is = refl
way_stores_none c (LoadSlotPivot p s i w) is = refl
way_stores_none c (LoadSlotGroup p s i w) is = refl
way_stores_none c (LoadNext g w) is = refl
way_stores_none c (LoadHeader g w n) is = refl
way_stores_none c d is = absurd is

-- ---- the way ----

-- the hand made loads of the way alone
abbrev pub MakesWayLoads : Board → Hand → Hand → Type 0
MakesWayLoads b h k = (actions : List Action) × AreWayLoads actions × MakesAll b h actions k

joined : (b : Board) (h m k : Hand) → MakesWayLoads b h m → (actions : List Action) → AreWayLoads actions →
    MakesAll b m actions k → MakesWayLoads b h k
joined b h m k way [] are makes = subst (λ (z : Hand). MakesWayLoads b h z) (sym makes) way
joined b h m k way (d ∷ ds) are makes =
    let before = joined b h m makes.0 way ds are.1 makes.1 in
    (d ∷ before.0, (are.0, before.1), (makes.0, before.2, makes.2))

ahead_way : (b : Board) (h m k : Hand) (group next pivot : ℕ) → MakesWayLoads b h m →
    LooksAhead b group next pivot m k → MakesWayLoads b h k
ahead_way b h m k group next pivot way looks =
    joined b h m k way (LoadHeader next Pivot pivot ∷ LoadNext group (next + 1) ∷ []) (tt, (tt, tt)) looks

gone_way : (b : Board) (from key : ℕ) (h m : Hand) → MakesWayLoads b h m → (steps to : ℕ) (k : Hand) →
    HasGoneTo b from key m steps to k → MakesWayLoads b h k
gone_way b from key h m way zero to k gone = subst (λ (z : Hand). MakesWayLoads b h z) (sym gone.1) way
gone_way b from key h m way (suc steps) to k gone =
    ahead_way b h gone.1 k gone.0 to gone.3.0 (gone_way b from key h m way steps gone.0 gone.1 gone.2)
    gone.3.2

walk_on : (b : Board) (from key : ℕ) (h m : Hand) (to : ℕ) (k : Hand) → MakesWayLoads b h m →
    WalksTo b from key m to k → MakesWayLoads b h k
walk_on b from key h m to k way walk =
    let there = gone_way b from key h m way walk.0 to walk.1 walk.2 in
    ⊎_elim
    (λ (last : MakesAll b walk.1 (LoadNext to 0 ∷ []) k).
    joined b h walk.1 k there (LoadNext to 0 ∷ []) (tt, tt) last)
    (λ (behind : (next : ℕ) × (pivot : ℕ) × (key < pivot) × LooksAhead b to next pivot walk.1 k).
    ahead_way b h walk.1 k to behind.0 behind.1 there behind.3) walk.3

-- a walk is such loads
pub walk_way : (b : Board) (from key : ℕ) (h : Hand) (to : ℕ) (k : Hand) → WalksTo b from key h to k →
    MakesWayLoads b h k
walk_way b from key h to k walk = walk_on b from key h h to k ([], tt, refl) walk

pivot_loads : (slots : Slots) (ds : List Action) → ArePivotLoads slots ds → AreWayLoads ds
pivot_loads slots [] are = tt
pivot_loads slots (d ∷ ds) are = (subst IsWayLoad (sym are.0.2) tt, pivot_loads slots ds are.1)

-- and so is the way from the root of the key's part
pub finding_way : (b : Board) (key : ℕ) (h : Hand) (group : ℕ) (k : Hand) → FindsGroup b key h group k →
    MakesWayLoads b h k
finding_way b key h group k finds =
    let root = LoadRoot finds.slots.part (root_word_of finds.slots) in
    let entry = LoadSlotGroup finds.slots.part finds.slots.side finds.slot finds.from in
    let rooted : MakesWayLoads b h finds.rooted = (root ∷ [], (tt, tt), (h, refl, finds.root)) in
    let pivots = finds.pivots in
    let chosen : MakesWayLoads b h finds.chosen =
    joined b h finds.rooted finds.chosen rooted pivots.0 (pivot_loads finds.slots pivots.0 pivots.1) pivots.3 in
    let entered : MakesWayLoads b h finds.entered =
    joined b h finds.chosen finds.entered chosen (entry ∷ []) (tt, tt) (finds.chosen, refl, finds.entry) in
    walk_on b finds.from key h finds.entered group k entered finds.walk
